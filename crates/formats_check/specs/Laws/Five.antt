-- Law. A number of five groups.
use Rattle.std.specs.Prelude.{ℕ, ◌+◌, ◌-◌, ◌*◌, ◌≤◌, ◌<◌, ◌≡◌, List, length, get_or, Option, Some, None}
use Rattle.std.proofs.Common.{ap, ◌∙◌, arith}
use Rattle.formats.specs.Promises.Number.{Rest}
use Rattle.formats.proofs.Numbers.{front_more}
use Rattle.formats.proofs.Groups.{begins, goes_on, one_good}
use Rattle.formats_check.specs.Promises.Checked.{Number, IfGot}

pub none_got : {s : List ℕ} {at : ℕ} → IfGot s at None
none_got = record { says = λ n q e. absurd (let z : ◌≡◌ {A = ℕ} 0 1 = cc in omega arith) }

pub one_got : {s : List ℕ} {at n q : ℕ} {o : Option (ℕ × ℕ)} → IfGot s at o → o ≡ Some (n, q)
    → Number s at (Some (n, q))
one_got {n} {q} I e = record { says = rw e at (I.says n q e) }

-- the byte at a place that is written otherwise
at_place : (s : List ℕ) {b : ℕ} (p q : ℕ) → b ≡ get_or s p 0 → p ≡ q → b ≡ get_or s q 0
at_place s p q e z = rw z at e

module _ (s : List ℕ) (at a b c d e : ℕ) (h : at + 5 ≤ length s) (pa : a ≡ get_or s at 0) (pb : b ≡ get_or s (at + 1) 0)
    (pc : c ≡ get_or s (at + 2) 0) (pd : d ≡ get_or s (at + 3) 0) (pe : e ≡ get_or s (at + 4) 0)
    (ua : a < 256) (ub : b < 256) (uc : c < 256) (ud : d < 256)
    (la : 128 ≤ a) (lb : 128 ≤ b) (lc : 128 ≤ c) (ld : 128 ≤ d) (le : e < 128) (ne : e ≡ 0 → ⊥) where
  two : Rest s (at + 1) (a - 128) (at + 1 + 1) (a - 128 + 128 * (b - 128)) 16384 7
  two = goes_on (begins s (at + 1) (a - 128) (omega arith)) (omega arith) pb (λ z. omega arith) lb ub

  three : Rest s (at + 1) (a - 128) (at + 1 + 1 + 1) (a - 128 + 128 * (b - 128) + 16384 * (c - 128)) 2097152 6
  three =
      goes_on two (omega arith) (at_place s (at + 2) (at + 1 + 1) pc (omega arith)) (λ z. omega arith) lc uc

  four : Rest s (at + 1) (a - 128) (at + 1 + 1 + 1 + 1)
      (a - 128 + 128 * (b - 128) + 16384 * (c - 128) + 2097152 * (d - 128)) 268435456 5
  four =
      goes_on three (omega arith) (at_place s (at + 3) (at + 1 + 1 + 1) pd (omega arith)) (λ z. omega arith) ld ud

  pub five_got : IfGot s at
      (Some (a - 128 + 128 * (b - 128) + 16384 * (c - 128) + 2097152 * (d - 128) + 268435456 * e, at + 5))
  five_got =
      let n = a - 128 + 128 * (b - 128) + 16384 * (c - 128) + 2097152 * (d - 128) + 268435456 * e in
      let z : at + 5 ≡ at + 1 + 1 + 1 + 1 + 1 = omega arith in
      record {
        says = λ m q r. ap (λ other. Some (n, other)) z
            ∙ front_more s at a (omega arith) pa la ua (Some (n, at + 1 + 1 + 1 + 1 + 1))
            (one_good four (omega arith) (at_place s (at + 4) (at + 1 + 1 + 1 + 1) pe (omega arith)) (λ z. omega arith)
            le ne);
      }
