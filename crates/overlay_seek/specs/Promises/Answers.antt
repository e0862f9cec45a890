-- Promise. A look-up's answer: the place of the value that it finds.
use Rattle.std.specs.Prelude.{◌≡◌, Bool, List, ℕ, Option, Some, None}
use Rattle.std.proofs.Math.Option.{Option as LogicOption, none, some}
use Rattle.basics.specs.Texts.{same}
use Rattle.formats.specs.Class.{Class}
use Rattle.formats.specs.Format.{Format, list, text, ◌&◌, Value}
use Rattle.formats_read.specs.Promises.Here.{Here}
use Rattle.overlay.specs.Lookup.{first_that, value_of}

-- what is found stands at p
pub record Stands (f : Format) (s : List ℕ) (o : LogicOption (Value f)) (p : ℕ) : Type 0 where
  pub it : Value f
  pub end : ℕ
  pub here : Here f s p end it
  pub is : o ≡ some it

pub record Answers (f : Format) (s : List ℕ) (o : LogicOption (Value f)) (r : Option ℕ) : Type 0 where
  pub found : (p : ℕ) → r ≡ Some p → Stands f s o p
  pub missing : r ≡ None → o ≡ none

-- whether the value at p passes a test
pub record Tests (f : Format) (t : Value f → Bool) (s : List ℕ) (p : ℕ) (r : Bool) : Type 0 where
  pub to : {v : Value f} {q : ℕ} → Here f s p q v → r ≡ t v

-- whether the text at p is x
pub record IsText (s : List ℕ) (p : ℕ) (x : List ℕ) (r : Bool) : Type 0 where
  pub to : {l : ℕ} {c : Class} {v : List ℕ} {q : ℕ} → Here (text l c) s p q v → r ≡ same v x

-- of the list of keys and values at p, the value of the first entry that passes
pub record Seeks (a b : Format) (t : Value (a & b) → Bool) (s : List ℕ) (p : ℕ) (r : Option ℕ) : Type 0 where
  pub to : {l : ℕ} {vs : List (Value (a & b))} {q : ℕ} → Here (list l (a & b)) s p q vs
      → Answers b s (value_of (first_that t vs)) r
