-- Law. A value written again: what stays is copied as it stands, a record's part is written anew.
use Rattle.std.specs.Prelude.{ℕ, ◌≤◌, List, length, Option}
use Rattle.std.proofs.Common.{arith}
use Rattle.std.proofs.Math.Seq.{slice}
use Rattle.formats.specs.Format.{Format, Value, write}
use Rattle.formats_write.specs.Laws.Adds.{then, same}
use Rattle.formats_write.specs.Promises.Adds.{Adds}
use Rattle.formats_read.specs.Promises.Fields.{Has, part, with}
use Rattle.formats_read.specs.Promises.Here.{Here, Field}

-- a stretch that holds a value
pub kept : {l m : List ℕ} {r q : Option ℕ} {f : Format} {s : List ℕ} {a e : ℕ} {v : Value f} → Here f s a e v
    → (a ≤ e → e ≤ length s → Adds l r m q (slice a e s)) → Adds l r m q (write f v)
kept h g = same (g h.forward h.within) h.written

-- a record whose part from field k on is changed: the stretch before it, and the new part
pub changed : {l m o : List ℕ} {r q j : Option ℕ} {k : ℕ} {f : Format} {i : Has k f} {s : List ℕ} {p e : ℕ}
    {v : Value f}
    {t : ℕ} → Field k f i s p e v t
    → (p ≤ t → t ≤ length s → Adds l r m q (slice p t s)) → (u : Value (part k f)) → Adds m q o j (write (part k f) u)
    → Adds l r o j (write f (with k f i v u))
changed F g u d = same (then (g F.forward (omega (arith, F.here.forward, F.here.within))) d) (F.front u)
