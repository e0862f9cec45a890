-- Law. Checked reading passes over what it found: whatever stands there ends where it says.
use Rattle.std.specs.Prelude.{◌≡◌, refl, Bool, List, ℕ, length, Option, Some, None}
use Rattle.std.proofs.Common.{sym, ap, ◌∙◌, arith}
use Rattle.std.proofs.Math.Option.{Option as LogicOption, some}
use Rattle.formats.specs.Class.{Class}
use Rattle.formats.specs.Format.{Format, number, text, ◌&◌, Value}
use Rattle.formats.specs.Laws.Law.{found}
use Rattle.formats.specs.Promises.Outcome.{skip_to, skipped}
use Rattle.formats.proofs.Numbers.{place}
use Rattle.formats_check.specs.Promises.Checked.{Number, Checked, Test, Tested}
use Rattle.formats_check.specs.Laws.Checked.{good}
use Rattle.formats_check.specs.Laws.Elements.{a_number}
use Rattle.formats_check.specs.Laws.Climbing.{Entered, entered_tested}
use Rattle.formats_read.specs.Promises.Here.{Here}
use Rattle.formats_read.specs.Promises.Reads.{ReadsNumber}
use Rattle.formats_read.specs.Laws.Here.{passed, reads, halves, number_here}
use Rattle.formats_skip.specs.Promises.Passes.{Passes}
use Rattle.overlay_noted.specs.Promises.Noting.{Unless, Fits}

same_place : {p q : ℕ} → Some p ≡ Some q → p ≡ q
same_place e = cc

pub checked_passes : {f : Format} {P : Value f → Bool} {s : List ℕ} {at : ℕ} {r : Option ℕ} → Checked f P s at r
    → {q : ℕ}
    → r ≡ Some q → Passes f s at q
checked_passes {f} {s} {at} c {q} h =
    let G = good c h in
    let e : skip_to f s at ≡ Some q = ap (skipped s) G.reads ∙ ap Some (place s q G.within) in
    record { to = λ x. same_place (sym e ∙ passed x) }

pub tested_passes : {f : Format} {t : Test f} {s : List ℕ} {at : ℕ} {r : Option ℕ} → Tested f t s at r → {q : ℕ}
    → r ≡ Some q → Passes f s at q
tested_passes T h = checked_passes T.is h

pub entered_passes : {l : ℕ} {c : Class} {g : Format} {t : Test (text l c & g)} {s : List ℕ} {at : ℕ}
    {r : Option (ℕ × ℕ × ℕ)}
    → Entered l c t s at r → {a e q : ℕ} → r ≡ Some (a, e, q) → Passes (text l c & g) s at q
entered_passes E h = tested_passes (entered_tested E h) refl

-- what stands behind what was passed
pub begins : {f : Format} {s : List ℕ} {p r q : ℕ} {v : Value f} → p ≡ r → Here f s p q v → Here f s r q v
begins e h = rw e at h

pub behind : {a b : Format} {s : List ℕ} {p m q : ℕ} {v : Value (a & b)} → Passes a s p m → Here (a & b) s p q v
    → Here b s m q v.1
behind P h = let x = halves h in begins (sym (P.to x.first)) x.second

-- a number that was found
pub number_reads : {s : List ℕ} {at : ℕ} {o : Option (ℕ × ℕ)} → Number s at o → {n p : ℕ} → o ≡ Some (n, p)
    → ReadsNumber s at n p
number_reads {s} {at} e {n} {p} h =
    let F = a_number e h in
    let k : skip_to (number 0 0) s at ≡ Some p = ap (skipped s) F.reads ∙ ap Some (place s p F.within) in
    record {
      value = λ x. taken (sym F.reads ∙ reads x);
      next = λ x. same_place (sym k ∙ passed x);
    }
  where
    taken : {x y : ℕ} {t u : List ℕ} → ◌≡◌ {A = LogicOption (ℕ × List ℕ)} (some (x, t)) (some (y, u)) → x ≡ y
    taken {x} q = found (λ a b. x ≡ a) q refl

pub number_passes : {lo hi : ℕ} {s : List ℕ} {at : ℕ} {o : Option (ℕ × ℕ)} → Number s at o → {n p : ℕ} → o ≡ Some (n, p)
    → Passes (number lo hi) s at p
number_passes N h = record { to = λ x. (number_reads N h).next (number_here x) }

-- WHERE AN ANSWER IS NO, nothing is said
pub unless_no : {A : Type 0} {no : A} {P : Type 0} → Unless no no P
unless_no = record { so = λ h. absurd (h refl) }

pub skip_so : {r : Option ℕ} {q : ℕ} {P : Type 0} → Unless r None P → r ≡ Some q → P
skip_so U h = U.so (λ e. let z : ◌≡◌ {A = ℕ} 0 1 = cc in absurd (omega arith))

pub entry_so : {r : Option (ℕ × ℕ × ℕ)} {a e q : ℕ} {P : Type 0} → Unless r None P → r ≡ Some (a, e, q) → P
entry_so U h = U.so (λ e. let z : ◌≡◌ {A = ℕ} 0 1 = cc in absurd (omega arith))

pub unless_map : {A : Type 0} {r no : A} {P Q : Type 0} → (P → Q) → Unless r no P → Unless r no Q
unless_map f U = record { so = λ h. f (U.so h) }

-- numbers of one length fit alike
pub fits_as : {s k l : List ℕ} → length k ≡ length l → Fits s l → Fits s k
fits_as e F = record { small = F.small; room = e ∙ F.room }
