-- Promise. The parts that an alert's words and its presence are read by: the first message at a field, a translation's
-- text, and is_deleted.
use Rattle.std.specs.Prelude.{ℕ, ◌+◌, ◌≤◌, ◌≡◌, List, [], ◌∷◌, Bool, true, length, take, drop, Option}
use Rattle.std.proofs.Math.Option.{some}
use Rattle.formats_write.specs.Promises.Given.{given_text, Inside}
use Rattle.realtime.specs.Tree.{a_message, Tree, tree, last, rep}
use Rattle.realtime.specs.Schema.{feed, alert}
use Rattle.realtime.specs.Views.{deleted}
use Rattle.realtime_views.specs.declared.Item.{Item}
use Rattle.realtime_views.specs.Promises.Scalars.{is_scalar}
use Rattle.realtime_views.specs.Promises.Seeks.{Holding}
use Rattle.alerts_feed.specs.Sheet.{text_given}
use Rattle.alerts_views.specs.Promises.Views.{entity_at}
use Rattle.formats.specs.declared.Span.{Span}

-- at field k of an alert stand strings, in them translations, 1, and in these a text, 1
pub record Worded (k : ℕ) : Type 0 where
  pub string : ℕ
  pub translation : ℕ
  pub strings : feed alert k ≡ some (a_message string)
  pub translations : feed string 1 ≡ some (a_message translation)
  pub texts : is_scalar (feed translation 1) ≡ true

-- an item is the first, of type v, of these trees
abbrev pub First : ℕ → List ℕ → List Tree → Item → Type 0
First v s l (Item.At i n w) = (y : Tree) × (z : List Tree) × (l ≡ y ∷ z) × (tree feed v (take n (drop i s)) ≡ some y)
First v s l Item.Done = l ≡ []

abbrev pub ItemInside : List ℕ → Item → Type 0
ItemInside s (Item.At i n w) = i + n ≤ length s
ItemInside s Item.Done = Unit {0}

-- THE FIRST message at field k of that in l bytes at i, whatever types they have, or that there is none
pub record FirstRead (k : ℕ) (s : List ℕ) (i l : ℕ) (r : Item) : Type 0 where
  pub of : (t v : ℕ) → Holding feed t k v → (m : Tree) → tree feed t (take l (drop i s)) ≡ some m
      → First v s (rep k m) r
  pub inside : ItemInside s r

-- THE TEXT, 1, of the translation in l bytes at i, in every type that lists it
pub record TextRead (s : List ℕ) (i l : ℕ) (r : Option Span) : Type 0 where
  pub of : (t : ℕ) → is_scalar (feed t 1) ≡ true → (m : Tree) → tree feed t (take l (drop i s)) ≡ some m
      → given_text s r ≡ text_given (last 1 m)
  pub inside : Inside s r

pub record DeletedRead (s : List ℕ) (i l : ℕ) (r : Bool) : Type 0 where
  pub of : (e : Tree) → entity_at s i l ≡ some e → r ≡ deleted e
