-- Law. Answers made: found at a place, missing, one look-up else another; and a text compared where it stands.
use Rattle.std.specs.Prelude.{◌≡◌, Bool, List, ℕ, ◌-◌, take, drop, Option, Some, None}
use Rattle.std.proofs.Common.{ap, ◌∙◌, arith}
use Rattle.std.proofs.Math.Option.{Option as LogicOption, none}
use Rattle.basics.specs.Options.{or_else}
use Rattle.basics.specs.Texts.{same}
use Rattle.formats.specs.Format.{Format, Value}
use Rattle.formats_write.specs.Laws.Slices.{slice_is}
use Rattle.formats_read.specs.Promises.Reads.{ReadsText}
use Rattle.overlay_seek.specs.Promises.Answers.{Stands, Answers, IsText}

module _ {f : Format} {s : List ℕ} where
  pub at_place : {o : LogicOption (Value f)} {p : ℕ} → Stands f s o p → Answers f s o (Some p)
  at_place {o} {p} S = record {
    found = λ q e. let k : p ≡ q = cc in rw k at S;
    missing = λ e. absurd (let z : ◌≡◌ {A = ℕ} 0 1 = cc in omega arith);
  }

  pub not_there : {o : LogicOption (Value f)} → o ≡ none → Answers f s o None
  not_there e = record {
    found = λ q k. absurd (let z : ◌≡◌ {A = ℕ} 0 1 = cc in omega arith);
    missing = λ k. e;
  }

  -- the same look-up in other words
  pub reworded : {o u : LogicOption (Value f)} {r : Option ℕ} → u ≡ o → Answers f s o r → Answers f s u r
  reworded e A = rw e A

  -- one look-up, else another
  pub first_found : {o : LogicOption (Value f)} (u : LogicOption (Value f)) {r : Option ℕ} {p : ℕ} → Answers f s o r
      → r ≡ Some p
      → Answers f s (or_else o u) (Some p)
  first_found u {p} A e =
      let S = A.found p e in
      at_place (record { it = S.it; end = S.end; here = S.here; is = ap (λ o. or_else o u) S.is })

  pub second_found : {o u : LogicOption (Value f)} {r q : Option ℕ} → Answers f s o r → r ≡ None → Answers f s u q
      → Answers f s (or_else o u) q
  second_found {u} A e B = reworded (ap (λ o. or_else o u) (A.missing e)) B

-- a text compared by the bytes that it is read to be
pub is_text : {s : List ℕ} {p a e : ℕ} {x : List ℕ} {r : Bool} → ReadsText s p a e
    → r ≡ same (take (e - a) (drop a s)) x → IsText s p x r
is_text {s} {a} {e} {x} T c = record {
  to = λ h. c ∙ ap (λ v. same v x) (slice_is a e s T.forward T.within ∙ T.bytes h);
}
