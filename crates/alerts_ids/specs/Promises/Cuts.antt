-- Promise. Where a text is cut: at its last byte of a kind, into the pieces of an id, around a product code.
use Rattle.std.specs.Prelude.{◌≡◌, List, [], ◌∷◌, ◌++◌, Bool, true, false, cond, not, ◌&&◌, ◌||◌, ℕ, zero, suc, ◌-◌, ◌≤◌, eqb, ltb, length, take, drop, Option, Some, None}
use Rattle.std.proofs.Math.Option.{Option as LogicOption, none, some}
use Rattle.basics.specs.Lists.{all, any, is_empty}
use Rattle.alerts.specs.Text.{upper, alphanumeric, rsplit_once, split}
use Rattle.alerts.specs.Applies.{product_code_token}

-- the parts before and after the place r, none where r is the length
abbrev pub cut_at : ℕ → List ℕ → LogicOption (List ℕ × List ℕ)
cut_at r s = cond (ltb r (length s)) (some (take r s, drop (suc r) s)) none

pub record LastOf (c : ℕ) (s : List ℕ) (r : ℕ) : Type 0 where
  pub within : r ≤ length s
  pub cut : rsplit_once c s ≡ cut_at r s

-- what stands from a up to e
abbrev pub part_of : List ℕ → ℕ → ℕ → List ℕ
part_of x a e = take (e - a) (drop a x)

-- an id is cut at ':' and '/'. Up to e its last piece begins at a: the pieces before it
abbrev pub cuts : ℕ → Bool
cuts b = eqb b 0x3a || eqb b 0x2f

abbrev pub pieces_before : List ℕ → ℕ → List (List ℕ)
pieces_before x zero = []
pieces_before x (suc k) = split cuts (take k x)

pub record LastPiece (x : List ℕ) (e a : ℕ) : Type 0 where
  pub forward : a ≤ e
  pub pieces : split cuts (take e x) ≡ pieces_before x a ++ (part_of x a e ∷ [])

-- the pieces that are looked for: any that isn't empty, or those with a letter or a digit
abbrev pub takes : Bool → List ℕ → Bool
takes false p = not (is_empty p)
takes true p = not (is_empty p) && any alphanumeric p

-- from a on, the letters and digits end at e
abbrev pub breaks : ℕ → Bool
breaks b = not (alphanumeric b)

abbrev pub pieces_after : List ℕ → ℕ → List (List ℕ)
pieces_after x e = cond (ltb e (length x)) (split breaks (drop (suc e) x)) []

pub record FirstPiece (x : List ℕ) (a e : ℕ) : Type 0 where
  pub forward : a ≤ e
  pub within : e ≤ length x
  pub plain : all alphanumeric (part_of x a e) ≡ true
  pub pieces : split breaks (drop a x) ≡ part_of x a e ∷ pieces_after x e

-- a product code, by its place
abbrev pub token_of : List ℕ → Option (ℕ × ℕ) → LogicOption (List ℕ)
token_of x None = none
token_of x (Some (a, e)) = some (upper (part_of x a e))

abbrev pub Inside : List ℕ → Option (ℕ × ℕ) → Type 0
Inside x None = Unit {0}
Inside x (Some (a, e)) = (a ≤ e) × (e ≤ length x)

pub record Coded (x : List ℕ) (r : Option (ℕ × ℕ)) : Type 0 where
  pub is : product_code_token x ≡ token_of x r
  pub inside : Inside x r
