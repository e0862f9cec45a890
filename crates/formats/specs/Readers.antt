-- Believe: 01, Cards and sheets. Readers and writers, and how they are put together.
use Rattle.std.specs.Prelude.{List, [], ◌∷◌, ◌++◌, ◌⊎◌, Bool, cond, ℕ, zero, suc, length, take, drop, leb, eqb}
use Rattle.std.proofs.Math.Option.{Option, none, some}
use Rattle.std.proofs.Common.{inl, inr}

abbrev pub Reader : Type 0 → Type 0
Reader A = List ℕ → Option (A × List ℕ)

abbrev pub bind : {A B : Type 0} → Option (A × List ℕ) → (A → List ℕ → Option (B × List ℕ)) → Option (B × List ℕ)
bind none k = none
bind (some p) k = k p.0 p.1

-- one after the other
abbrev pub pair_w : {A B : Type 0} → (A → List ℕ) → (B → List ℕ) → (A × B) → List ℕ
pair_w wa wb v = wa v.0 ++ wb v.1

abbrev pub pair_r : {A B : Type 0} → Reader A → Reader B → Reader (A × B)
pair_r ra rb s = bind (ra s) (λ a t. bind (rb t) (λ b u. some ((a, b), u)))

-- the same bytes, with another value: A and B are one by `to` and `from`
abbrev pub map_r : {A B : Type 0} → (A → B) → Reader A → Reader B
map_r to r s = bind (r s) (λ a t. some (to a, t))

-- only the values that pass a test
abbrev pub only_r : {A : Type 0} → (A → Bool) → Reader A → Reader A
only_r test r s = bind (r s) (λ a t. cond (test a) (some (a, t)) none)

-- a given byte
abbrev pub const_r : ℕ → Reader (Unit {0})
const_r c [] = none
const_r c (b ∷ s) = cond (eqb b c) (some (tt, s)) none

-- byte 0 and the one, or byte 1 and the other
abbrev pub choice_w : {A B : Type 0} → (A → List ℕ) → (B → List ℕ) → (A ⊎ B) → List ℕ
choice_w wa wb (inl a) = 0 ∷ wa a
choice_w wa wb (inr b) = 1 ∷ wb b

abbrev pub choice_r : {A B : Type 0} → Reader A → Reader B → Reader (A ⊎ B)
choice_r ra rb [] = none
choice_r ra rb (b ∷ s) =
    cond (eqb b 0) (bind (ra s) (λ a t. some (inl a, t))) (cond (eqb b 1) (bind (rb s) (λ b t. some (inr b, t))) none)

abbrev pub choice_ok : {A B : Type 0} → (A → Type 0) → (B → Type 0) → (A ⊎ B) → Type 0
choice_ok oka okb (inl a) = oka a
choice_ok oka okb (inr b) = okb b

-- n bytes as they are
abbrev pub bytes_r : ℕ → Reader (List ℕ)
bytes_r n s = cond (leb n (length s)) (some (take n s, drop n s)) none

-- n of one kind
abbrev pub many_w : {A : Type 0} → (A → List ℕ) → List A → List ℕ
many_w w [] = []
many_w w (a ∷ v) = w a ++ many_w w v

abbrev pub many_r : {A : Type 0} → Reader A → ℕ → Reader (List A)
many_r r zero s = some ([], s)
many_r r (suc n) s = bind (r s) (λ a t. bind (many_r r n t) (λ v u. some (a ∷ v, u)))

-- a count, and then what it counts
abbrev pub counted_r : {A : Type 0} → Reader ℕ → (ℕ → Reader A) → Reader A
counted_r rn r s = bind (rn s) (λ n t. r n t)
