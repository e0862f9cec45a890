-- The groups of a number that follow the first, by the tests that the code makes. Assumes nothing.
use Rattle.std.specs.Prelude.{Option, Some, None}
use mathlib.Core.Bool.{Bool, true, false, cond}
use mathlib.Core.Path.{◌≡◌, refl, sym, ap, ◌∙◌}
use mathlib.Core.List.{List, [], ◌∷◌}
use mathlib.Core.Option.{Option as LogicOption, none, some}
use Prim.Native.Nat.{ℕ, zero, suc, ◌+◌, ◌-◌, ◌*◌, ◌^◌, ◌≤◌, ◌<◌}
use native.Mathlib.Omega.{arith}
use native.Mathlib.Nat.{mul-one, mul_assoc, mul-add, mul-le-mul_left}
use lib.ListN.{length, drop, get_or, drop_of_length-le}
use lib.Dec.{eqb}
use borrow.Author.Tests.{lt-ltb, le-ltb, ne_eqb, eqb-true, eqb-false}
use mir.Syntax.{w64}
use mir.Val.{Fits}
use Rattle.formats.specs.Readers.{bind}
use Rattle.formats.specs.Number.{groups_r}
use Rattle.formats.specs.Promises.Number.{top, more_r, Rest}
use Rattle.formats.specs.Promises.Outcome.{numbered}
use Rattle.formats.proofs.Numbers.{place, opened}

top_two : (k : ℕ) → 2 ≤ top k
top_two zero = omega arith
top_two (suc k) = omega (arith, top_two k)

-- a group that another follows
onward : (k b n unit : ℕ) (s : List ℕ) → 128 ≤ b → b < 256
    → more_r (suc k) n unit (b ∷ s) ≡ more_r k (n + unit * (b - 128)) (unit * 128) s
onward k b n unit s l u = rw (le-ltb b 128 l, lt-ltb b 256 u) (go (groups_r k s))
  where
    value : (h : ℕ) → n + unit * (b - 128 + 128 * h) ≡ n + unit * (b - 128) + unit * 128 * h
    value h = rw (mul-add unit (b - 128) (128 * h), mul_assoc unit 128 h) (omega arith)

    by : (t : Bool) (h : ℕ) (v : List ℕ) → eqb h 0 ≡ t
        → bind (cond t none (some (b - 128 + 128 * h, v))) (λ h t. cond (eqb h 0) none (some (n + unit * h, t)))
        ≡ cond t none (some (n + unit * (b - 128) + unit * 128 * h, v))
    by true h v e = refl
    by false h v e = rw (ne_eqb (b - 128 + 128 * h) 0 (let z = eqb-false h 0 e in λ y. z (omega arith)))
        (ap {B = LogicOption (ℕ × List ℕ)} (λ x. some (x, v)) (value h))

    go : (o : LogicOption (ℕ × List ℕ))
        → bind (bind o (λ h t. cond (eqb h 0) none (some (b - 128 + 128 * h, t))))
        (λ h t. cond (eqb h 0) none (some (n + unit * h, t)))
        ≡ bind o (λ h t. cond (eqb h 0) none (some (n + unit * (b - 128) + unit * 128 * h, t)))
    go none = refl
    go (some x) = by (eqb x.0 0) x.0 x.1 refl

pub begins : (s : List ℕ) (at low : ℕ) → low < 128 → Rest s at low at low 128 8
begins s at low h = record { same = refl; below = h; room = refl }

nothing : (k n unit : ℕ) → more_r k n unit [] ≡ none
nothing zero n unit = refl
nothing (suc k) n unit = refl

module _ {s : List ℕ} {at low p n unit left : ℕ} (R : Rest s at low p n unit left) where
  abbrev Answer : Option (ℕ × ℕ) → Type 0
  Answer r = r ≡ numbered s (more_r 8 low 128 (drop at s))

  pub ends : length s ≤ p → Answer None
  ends h = rw (R.same, drop_of_length-le s h, nothing left n unit) refl

  -- all that is reckoned fits
  pub last_fits : left ≡ 0 → Fits w64 (n + unit)
  last_fits z = let room : unit * 2 ≡ 2 ^ 64 = rw z at R.room in omega (arith, R.below)

  module _ (z : left ≡ 0 → ⊥) where
    unit_most : unit * 128 ≤ 2 ^ 63
    unit_most =
        let i : left ≡ suc (left - 1) = omega arith in
        let room : unit * (128 * top (left - 1)) ≡ 2 ^ 64 = rw i at R.room in
        let half : unit * 128 * 2 ≤ unit * 128 * top (left - 1) = mul-le-mul_left (unit * 128) (top_two (left - 1)) in
        omega (arith, mul_assoc unit 128 (top (left - 1)))

    pub unit_fits : Fits w64 (unit * 128)
    unit_fits = omega (arith, unit_most)

    module _ (d : ℕ) (h : d ≤ 127) where
      most : n + unit * d < 2 ^ 63
      most = omega (arith, R.below, unit_most, mul-le-mul_left unit h)

      part_fits : Fits w64 (unit * d)
      part_fits = omega (arith, most)

      whole_fits : Fits w64 (n + unit * d)
      whole_fits = omega (arith, most)

    module _ {b : ℕ} where
      pub end_part_fits : b < 128 → Fits w64 (unit * b)
      end_part_fits h = part_fits b (omega arith)

      pub end_fits : b < 128 → Fits w64 (n + unit * b)
      end_fits h = whole_fits b (omega arith)

      pub next_part_fits : b < 256 → Fits w64 (unit * (b - 128))
      next_part_fits h = part_fits (b - 128) (omega arith)

      pub next_fits : b < 256 → Fits w64 (n + unit * (b - 128))
      next_fits h = whole_fits (b - 128) (omega arith)

  -- a byte is there
  module _ (h : p < length s) {b : ℕ} (e : b ≡ get_or s p 0) where
    answers : {r : Option (ℕ × ℕ)} → r ≡ numbered s (more_r left n unit (b ∷ drop (p + 1) s)) → Answer r
    answers f = f ∙ sym (ap (numbered s) (R.same ∙ ap (more_r left n unit) (opened s p b h e)))

    got_it : (m : ℕ) → Some (m, p + 1) ≡ numbered s (some (m, drop (p + 1) s))
    got_it m = rw (place s (p + 1) (omega arith)) refl

    -- the tenth
    module _ (z : left ≡ 0) where
      pub last_good : b ≡ 1 → Answer (Some (n + unit, p + 1))
      last_good i = answers (rw (z, i, mul-one unit) (got_it (n + unit)))

      pub last_bad : (b ≡ 1 → ⊥) → Answer None
      last_bad i = answers (rw z (go (eqb b 0) refl))
        where
          go : (t : Bool) → eqb b 0 ≡ t → None ≡ numbered s (more_r 0 n unit (b ∷ drop (p + 1) s))
          go true f = let j : b ≡ 0 = eqb-true b 0 f in rw j refl
          go false f = let j = eqb-false b 0 f in rw (le-ltb b 2 (omega arith)) refl

    -- one of the others
    module _ (z : left ≡ 0 → ⊥) where
      earlier : left ≡ suc (left - 1)
      earlier = omega arith

      pub zero_bad : b ≡ 0 → Answer None
      zero_bad i = answers (rw (earlier, i) refl)

      pub one_good : b < 128 → (b ≡ 0 → ⊥) → Answer (Some (n + unit * b, p + 1))
      one_good l i = answers (rw (earlier, lt-ltb b 128 l, ne_eqb b 0 i) (got_it (n + unit * b)))

      pub goes_on : 128 ≤ b → b < 256 → Rest s at low (p + 1) (n + unit * (b - 128)) (unit * 128) (left - 1)
      goes_on l u = record {
        same = R.same ∙ ap (more_r left n unit) (opened s p b h e)
            ∙ ap (λ k. more_r k n unit (b ∷ drop (p + 1) s)) earlier ∙ onward (left - 1) b n unit (drop (p + 1) s) l u;
        below = let i : b - 128 ≤ 127 = omega arith in omega (arith, R.below, mul-le-mul_left unit i);
        room = mul_assoc unit 128 (top (left - 1)) ∙ (rw earlier at R.room);
      }
