-- Law. A list by its entries' places, so that what holds of each entry holds of the list without its being written
-- out.
use Rattle.std.specs.Prelude.{◌≡◌, Bool, true, List, [], ◌∷◌, length}
use Rattle.std.proofs.Math.Path.{refl, sym, ap}
use Prim.Native.Nat.{ℕ, zero, suc, ◌+◌, ◌*◌, ◌≤◌, ◌<◌}
use Rattle.std.proofs.Common.{arith, zero-mul, length-append}
use Rattle.std.proofs.Math.Nat.{suc-mul}
use Rattle.formats.specs.Readers.{many_w}
use Rattle.basics.specs.Lists.{All, all}
use Rattle.std.specs.declared.cmp.Ordering.TheVariants.{Less}
use Rattle.maps.specs.Map.{Ordered, is_less, above, ascending}
use Rattle.overlay.proofs.Laws.Within.{both}

-- n entries from place i on
unfoldable pub table : {A : Type 0} → (ℕ → A) → ℕ → ℕ → List A
table g i zero = []
table g i (suc n) = g i ∷ table g (suc i) n

module _ {A : Type 0} (g : ℕ → A) where
  pub table_length : (i n : ℕ) → length (table g i n) ≡ n
  unfolding table
  table_length i zero = refl
  table_length i (suc n) = ap suc (table_length (suc i) n)

  pub table_all : (p : A → Bool) (l : ℕ) → ((j : ℕ) → j < l → p (g j) ≡ true) → (i n : ℕ) → i + n ≤ l
      → all p (table g i n) ≡ true
  unfolding table
  table_all p l h i zero b = refl
  table_all p l h i (suc n) b = both (h i (omega arith)) (table_all p l h (suc i) n (omega arith))

  pub table_every : (P : A → Type 0) (l : ℕ) → ((j : ℕ) → j < l → P (g j)) → (i n : ℕ) → i + n ≤ l → All P (table g i n)
  unfolding table
  table_every P l h i zero b = tt
  table_every P l h i (suc n) b = (h i (omega arith), table_every P l h (suc i) n (omega arith))

  pub table_many : (w : A → List ℕ) (c l : ℕ) → ((j : ℕ) → j < l → length (w (g j)) ≡ c) → (i n : ℕ) → i + n ≤ l
      → length (many_w w (table g i n)) ≡ n * c
  unfolding table
  table_many w c l h i zero b = sym (zero-mul c)
  table_many w c l h i (suc n) b =
      rw (length-append, suc-mul n c, h i (omega arith), table_many w c l h (suc i) n (omega arith)) (omega arith)

module _ {K A : Type 0} (O : Ordered K) (g : ℕ → K × A) (h : (j : ℕ) → O.compare (g j).0 (g (suc j)).0 ≡ Less) where
  table_above : (i n : ℕ) → above O (g i).0 (table g (suc i) n) ≡ true
  unfolding table
  table_above i zero = refl
  table_above i (suc n) = both (ap is_less (h i)) (table_above (suc i) n)

  pub table_ascending : (i n : ℕ) → ascending O (table g i n) ≡ true
  unfolding table
  table_ascending i zero = refl
  table_ascending i (suc n) = table_above i n
