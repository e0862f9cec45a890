-- Believe: what every layer uses. Lists and tests: some element passes, a number is there, the elements that pass,
-- what each element gives in order.
use Rattle.std.specs.Prelude.{List, [], ◌∷◌, ◌++◌, Bool, true, false, cond, ◌||◌, ◌&&◌, ℕ, eqb}

abbrev pub any : {A : Type 0} → (A → Bool) → List A → Bool
any p [] = false
any p (a ∷ l) = let r = any p l in p a || r

-- whether a number is there
abbrev pub member : ℕ → List ℕ → Bool
member n l = any (eqb n) l

abbrev pub filter : {A : Type 0} → (A → Bool) → List A → List A
filter p [] = []
filter p (a ∷ l) = let r = filter p l in cond (p a) (a ∷ r) r

abbrev pub is_empty : {A : Type 0} → List A → Bool
is_empty [] = true
is_empty (a ∷ l) = false

-- what each element gives, in order
abbrev pub concat_map : {A B : Type 0} → (A → List B) → List A → List B
concat_map f [] = []
concat_map f (a ∷ l) = f a ++ concat_map f l

abbrev pub All : {A : Type 0} → (A → Type 0) → List A → Type 0
All ok [] = Unit {0}
All ok (a ∷ v) = ok a × All ok v

-- every element passes a test, as a Boolean and as a fact
abbrev pub all : {A : Type 0} → (A → Bool) → List A → Bool
all p [] = true
all p (a ∷ v) = p a && all p v
