-- Promise. Values of one format that stand one after another: the list they are, their bytes, and the place of the
-- value i.
use Rattle.std.specs.Prelude.{◌≡◌, List, [], ◌∷◌, ◌++◌, ℕ, ◌≤◌, length}
use Rattle.formats.specs.Format.{Format, number, Value}
use Rattle.formats_read.specs.Promises.Here.{Here}

abbrev pub Many : (f : Format) (s : List ℕ) (p q : ℕ) → List (Value f) → Type 0
Many f s p q [] = (p ≡ q) × (q ≤ length s)
Many f s p q (v ∷ vs) = (m : ℕ) × Here f s p m v × Many f s m q vs

-- a list: its count at p, and its values from m on
pub record Listed (f : Format) (s : List ℕ) (p q : ℕ) (vs : List (Value f)) (m : ℕ) : Type 0 where
  pub count : Here (number 0 0) s p m (length vs)
  pub values : Many f s m q vs

-- the value i of a run begins at r: what stands before it, and what stands from it on
pub record Split (f : Format) (s : List ℕ) (a q : ℕ) (vs : List (Value f)) (i r : ℕ) : Type 0 where
  pub front : List (Value f)
  pub back : List (Value f)
  pub joined : front ++ back ≡ vs
  pub count : length front ≡ i
  pub passed : Many f s a r front
  pub ahead : Many f s r q back

pub record Reaches (f : Format) (s : List ℕ) (a i r : ℕ) : Type 0 where
  pub splits : (vs : List (Value f)) (q : ℕ) → i ≤ length vs → Many f s a q vs → Split f s a q vs i r
