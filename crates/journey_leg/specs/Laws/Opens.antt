-- Law. How parts that open a record go together, and how the record is closed.
use Rattle.std.proofs.Common.{ap, ◌∙◌, append_assoc, arith}
use Rattle.std.specs.Prelude.{List, ◌++◌, ℕ, ◌≤◌, length, Option}
use Rattle.std.proofs.Math.Seq.{slice}
use Rattle.formats.specs.Format.{Format, Value, write}
use Rattle.formats_write.specs.Promises.Adds.{Adds}
use Rattle.formats_write.specs.Laws.Adds.{then, same}
use Rattle.formats_read.specs.Promises.Fields.{Has, part, with}
use Rattle.formats_read.specs.Promises.Here.{Field}
use Rattle.journey_leg.specs.Promises.Opens.{Opens}

module _ {f g : Format} {l m n : List ℕ} {r q o : Option ℕ} {new : Value g → Value f} (O : Opens f g l r m q new) where
  pub closes : (u : Value g) → Adds m q n o (write g u) → Adds l r n o (write f (new u))
  closes u a = same (then O.adds a) (O.whole u)

  pub joins : {h : Format} {next : Value h → Value g} → Opens g h m q n o next → Opens f h l r n o (λ u. new (next u))
  joins {h} {next} P = record {
    bytes = O.bytes ++ P.bytes;
    adds = then O.adds P.adds;
    whole = λ u. append_assoc O.bytes P.bytes (write h u) ∙ ap (λ x. O.bytes ++ x) (P.whole u)
        ∙ O.whole (next u);
  }

-- the fields in front of field k, as they stand
pub copied : {k : ℕ} {f : Format} {i : Has k f} {s : List ℕ} {p e t : ℕ} {v : Value f} {l m : List ℕ} {r q : Option ℕ}
    → Field k f i s p e v t → (p ≤ t → t ≤ length s → Adds l r m q (slice p t s))
    → Opens f (part k f) l r m q (with k f i v)
copied {s} {p} {t} F a = record {
  bytes = slice p t s;
  adds = a F.forward (omega (arith, F.here.forward, F.here.within));
  whole = F.front;
}
