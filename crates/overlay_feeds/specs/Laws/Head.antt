-- Law. What two numbers read at an overlay's front are.
use Rattle.std.specs.Prelude.{◌≡◌, List, ℕ}
use Rattle.std.proofs.Common.{sym}
use Rattle.formats.specs.Format.{Format, Value}
use Rattle.formats_read.specs.Promises.Here.{Here}
use Rattle.formats_read.specs.Promises.Reads.{ReadsNumber}
use Rattle.formats_read.specs.Laws.Here.{halves, number_here}
use Rattle.formats_read.specs.Laws.Lists.{listed}
use Rattle.formats_skip.specs.Laws.Passes.{constant_byte}
use Rattle.overlay.specs.State.{State, overlay}
use Rattle.overlay_feeds.specs.Promises.Head.{HeadOf, ReadsHead}

-- a value that stands at a place named otherwise
pub begins : {f : Format} {s : List ℕ} {p r q : ℕ} {v : Value f} → p ≡ r → Here f s p q v → Here f s r q v
begins e h = rw e at h

pub ends : {f : Format} {s : List ℕ} {p q r : ℕ} {v : Value f} → q ≡ r → Here f s p q v → Here f s p r v
ends e h = rw e at h

head_of : {b : List ℕ} {v n c a : ℕ} → ReadsNumber b 1 v n → ReadsNumber b n c a → (st : State) (q : ℕ)
    → Here overlay b 0 q st → HeadOf b st q v n c a
head_of {b} {v} {n} {c} {a} N C st q h =
    let x = halves h in
    let y = halves (begins (sym ((constant_byte {s = b} {p = 0}).to x.first)) x.second) in
    let e = N.next (number_here y.first) in
    let l = begins (sym e) y.second in
    let z = (listed l).1 in
    let f = C.next z.count in
    record {
      version_is = N.value (number_here y.first);
      version_here = ends (sym e) y.first;
      count_is = C.value z.count;
      count_here = ends (sym f) z.count;
      list_here = l;
      feeds_here = rw f z.values;
    }

pub read_head : {b : List ℕ} {v n c a : ℕ} → ReadsNumber b 1 v n → ReadsNumber b n c a → ReadsHead b v n c a
read_head N C = record { to = λ {st} {q} h. head_of N C st q h }
