-- Promise. Patterns as the code keeps them: a text of patterns with '|' between two of them, and '#' in each where
-- the line's name goes.
use Rattle.std.specs.Prelude.{List, [], ◌∷◌, ◌++◌, Bool, cond, ℕ, suc, eqb, drop}
use Rattle.basics.specs.Lists.{any}
use Rattle.alerts.specs.Text.{begins, contains, split}

-- how many bytes stand before the first c
abbrev pub up_to : ℕ → List ℕ → ℕ
up_to c [] = 0
up_to c (b ∷ s) = let r = up_to c s in cond (eqb b c) 0 (suc r)

abbrev pub name_filled : List ℕ → List ℕ → List ℕ
name_filled name [] = []
name_filled name (b ∷ p) = let r = name_filled name p in cond (eqb b 0x23) (name ++ p) (b ∷ r)

-- a text cut at each c
abbrev pub pieces : ℕ → List ℕ → List (List ℕ)
pieces c table = split (λ b. eqb b c) table

abbrev pub patterns : List ℕ → List (List ℕ)
patterns table = pieces 0x7c table

abbrev pub any_in : List ℕ → List ℕ → List ℕ → Bool
any_in table name s = any (λ p. contains (name_filled name p) s) (patterns table)

-- one of a table's texts stands at i
abbrev pub any_at : List ℕ → List ℕ → ℕ → Bool
any_at table s i = any (λ p. begins p (drop i s)) (patterns table)
