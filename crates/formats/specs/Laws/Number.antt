-- Law. Numbers in bytes: what is written is read back, and what is read was written.
use Rattle.std.specs.Prelude.{◌≡◌, refl, List, [], ◌∷◌, ◌++◌, Bool, true, false, ℕ, zero, suc, ◌+◌, ◌-◌, ◌*◌, ◌/◌, ◌%◌, ◌^◌, ◌≤◌, ◌<◌, ℤ, pos, negsuc, length, ltb, eqb}
use Rattle.std.proofs.Common.{ap, ◌∙◌, ⊎_elim, arith, lt-ltb, le-ltb, ltb-true, ltb-false, eqb-true, eq-eqb, ne_eqb}
use Rattle.std.proofs.Math.Option.{Option, some}
use Rattle.std.proofs.Math.Nat.{pow-succ'}
use Rattle.std.proofs.lemmas.Bool.{eqb-false}
use Rattle.formats.specs.Laws.Law.{Law, bind_some, cond_some, found}
use Rattle.basics.specs.Laws.Options.{none_some}
use Rattle.basics.specs.Laws.Lists.{headed}
use Rattle.formats.specs.Number.{groups_w, groups_r, number_w, number_r, zig, zag, little_w, little_r}
use Rattle.formats.specs.Promises.Number.{top}

top_pos : (k : ℕ) → 0 < top k
top_pos zero = omega arith
top_pos (suc k) = omega (arith, top_pos k)

-- a group that another follows, as it is written and as it is read
more_written : (k b h : ℕ) → 128 ≤ b → b < 256 → (h ≡ 0 → ⊥) → groups_w (suc k) (b - 128 + 128 * h) ≡ b ∷ groups_w k h
more_written k b h l u z =
    rw (le-ltb (b - 128 + 128 * h) 128 (omega arith)) (headed (omega arith) (ap (groups_w k) (omega arith)))

more_read : (k n : ℕ) (rest : List ℕ) → 128 ≤ n → groups_r k (groups_w k (n / 128) ++ rest) ≡ some (n / 128, rest)
    → groups_r (suc k) (groups_w (suc k) n ++ rest) ≡ some (n, rest)
more_read k n rest big ih =
    rw (
      le-ltb n 128 big,
      le-ltb (128 + n % 128) 128 (omega arith),
      lt-ltb (128 + n % 128) 256 (omega arith),
      ih,
      ne_eqb (n / 128) 0 (omega arith),
    )
    (ap {B = Option (ℕ × List ℕ)} (λ x. some (x, rest)) (omega arith))

there : (k n : ℕ) (rest : List ℕ) → n < top k → groups_r k (groups_w k n ++ rest) ≡ some (n, rest)
there zero n rest h = rw (lt-ltb n 2 h) refl
there (suc k) n rest h = go (ltb n 128) refl (there k (n / 128) rest (omega arith))
  where
    go : (t : Bool) → ltb n 128 ≡ t → groups_r k (groups_w k (n / 128) ++ rest) ≡ some (n / 128, rest)
        → groups_r (suc k) (groups_w (suc k) n ++ rest) ≡ some (n, rest)
    go true e ih = rw (e, e) refl
    go false e ih = more_read k n rest (ltb-false n 128 e) ih

back : (k : ℕ) (s : List ℕ) (n : ℕ) (rest : List ℕ) → groups_r k s ≡ some (n, rest)
    → (s ≡ groups_w k n ++ rest) × (n < top k)
back zero [] n rest e = none_some e
back zero (b ∷ s) n rest e =
    ⊎_elim (λ h. found (λ n rest. (b ∷ s ≡ n ∷ rest) × (n < 2)) h.1 (refl, ltb-true b 2 h.0))
    (λ h. none_some h.1) (cond_some (ltb b 2) _ _ _ e)
back (suc k) [] n rest e = none_some e
back (suc k) (b ∷ s) n rest e =
    let P : ℕ → List ℕ → Type 0 = λ n rest. (b ∷ s ≡ groups_w (suc k) n ++ rest) × (n < top (suc k)) in
    ⊎_elim
    (λ h. found P h.1 (rw h.0 refl, omega (arith, top_pos k, ltb-true b 128 h.0)))
    (λ h. ⊎_elim
    (λ j.
    let (p, ek, e') = bind_some (groups_r k s) _ _ j.1 in
    let ih = back k s p.0 p.1 ek in
    ⊎_elim (λ z. none_some z.1)
    (λ z. found P z.1 (
      rw (more_written k b p.0 (ltb-false b 128 h.0) (ltb-true b 256 j.0) (eqb-false p.0 0 z.0))
          (headed refl ih.0),
      omega (arith, ltb-true b 256 j.0, ih.1),
    ))
    (cond_some (eqb p.0 0) _ _ _ e'))
    (λ j. none_some j.1) (cond_some (ltb b 256) _ _ _ h.1))
    (cond_some (ltb b 128) _ _ _ e)

pub groups_law : (k : ℕ) → Law (groups_w k) (groups_r k) (λ n. n < top k)
groups_law k = record { there = there k; back = back k }

pub number_some : (n : ℕ) → 0 < length (number_w n)
number_some n = go (ltb n 128) refl
  where
    go : (t : Bool) → ltb n 128 ≡ t → 0 < length (number_w n)
    go true e = rw e (omega arith)
    go false e = rw e (omega arith)

pub number_law : Law number_w number_r (λ n. n < 2 ^ 64)
number_law = groups_law 9

pub zag_zig : (z : ℤ) → zag (zig z) ≡ z
zag_zig (pos n) = rw (eq-eqb (2 * n % 2) 0 (omega arith)) (ap pos (omega arith))
zag_zig (negsuc n) = rw (ne_eqb ((2 * n + 1) % 2) 0 (omega arith)) (ap negsuc (omega arith))

pub zig_zag : (n : ℕ) → zig (zag n) ≡ n
zig_zag n = go (eqb (n % 2) 0) refl
  where
    go : (t : Bool) → eqb (n % 2) 0 ≡ t → zig (zag n) ≡ n
    go true e = rw e (omega (arith, eqb-true (n % 2) 0 e))
    go false e = rw e (omega (arith, eqb-false (n % 2) 0 e))

little_there : (k n : ℕ) (rest : List ℕ) → n < 256 ^ k → little_r k (little_w k n ++ rest) ≡ some (n, rest)
little_there zero n rest h = let e : n ≡ 0 = omega arith in rw e refl
little_there (suc k) n rest h =
    rw (lt-ltb (n % 256) 256 (omega arith), little_there k (n / 256) rest (omega (arith, pow-succ' 256 k)))
    (ap {B = Option (ℕ × List ℕ)} (λ x. some (x, rest)) (omega arith))

little_back : (k : ℕ) (s : List ℕ) (n : ℕ) (rest : List ℕ) → little_r k s ≡ some (n, rest)
    → (s ≡ little_w k n ++ rest) × (n < 256 ^ k)
little_back zero s n rest e = found (λ n rest. (s ≡ rest) × (n < 1)) e (refl, omega arith)
little_back (suc k) [] n rest e = none_some e
little_back (suc k) (b ∷ s) n rest e =
    ⊎_elim
    (λ h.
    let (p, ek, e') = bind_some (little_r k s) _ _ h.1 in
    let ih = little_back k s p.0 p.1 ek in
    let l = ltb-true b 256 h.0 in
    found (λ n rest. (b ∷ s ≡ little_w (suc k) n ++ rest) × (n < 256 ^ suc k)) e' (
      headed (omega arith) (ih.0 ∙ ap (λ h. little_w k h ++ p.1) (omega arith)),
      omega (arith, ih.1, pow-succ' 256 k),
    ))
    (λ h. none_some h.1) (cond_some (ltb b 256) _ _ _ e)

pub little_law : (k : ℕ) → Law (little_w k) (little_r k) (λ n. n < 256 ^ k)
little_law k = record { there = little_there k; back = little_back k }
