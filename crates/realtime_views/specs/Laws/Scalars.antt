-- Law. Walks that keep the last scalars along a path of merged messages.
use Rattle.std.specs.Prelude.{ℕ, ◌≡◌, refl, List, [], ◌∷◌, cond, eqb, length, take, drop}
use Rattle.std.proofs.Common.{◌∙◌}
use Rattle.std.proofs.Math.Option.{Option, none, some}
use Rattle.realtime.specs.Tree.{Schema, Tree, Leaf, count, words, last, sub, tree}
use Rattle.realtime_views.specs.Laws.Fold.{inside_sub}
use Rattle.realtime_views.specs.Laws.Last.{leaf, taking_last, each_taking}
use Rattle.realtime_views.specs.Promises.Fold.{folded}
use Rattle.realtime_views.specs.declared.Scalar.{Scalar}
use Rattle.realtime_views.specs.declared.Scalars.{Scalars}
use Rattle.realtime_views.specs.Promises.Scalars.{said, Lying, Slot, one, two, three, four, five, six, field_of}
use Rattle.realtime_views.specs.Promises.Scalars.{at, Lasts, kept, scalar_at, own}
use Rattle.realtime_views.specs.Promises.Scalars.{takes_along}

abbrev pub nothing : Lasts
nothing i = none

pub kept_at : (d : Scalars) (f : ℕ) (x : Scalar) (i : Slot) → at (kept d f x) i ≡ cond (eqb f (field_of i)) x (at d i)
kept_at d f x one = refl
kept_at d f x two = refl
kept_at d f x three = refl
kept_at d f x four = refl
kept_at d f x five = refl
kept_at d f x six = refl

-- the fields along a path of messages, those at each field joined
abbrev pub along : List ℕ → Tree → Tree
along [] t = t
along (p ∷ ps) t = along ps (sub p t)

pub leaf_is : (k : ℕ) (l : Option Leaf) → leaf (scalar_at k) none l ≡ l
leaf_is k none = refl
leaf_is k (some (count n)) = refl
leaf_is k (some (words x)) = refl

own_last : (t : Tree) → folded own nothing t ≡ (λ i. last (field_of i) t)
own_last t =
    each_taking (λ i. scalar_at (field_of i)) nothing t
    ∙ λ j i. (taking_last (scalar_at (field_of i)) none t ∙ leaf_is (field_of i) (last (field_of i) t)) j

-- THE LAW OF MERGING: one after the other is the last of the joined
pub along_last : (ps : List ℕ) (t : Tree) → folded (takes_along ps) nothing t ≡ (λ i. last (field_of i) (along ps t))
along_last [] t = own_last t
along_last (p ∷ ps) t = inside_sub p (takes_along ps) nothing t ∙ along_last ps (sub p t)

-- THE ANSWER r for the message of type t in the l bytes at i of s: where it is not broken, its last scalars along
-- the path. What they say lies in s
pub record Lasting (σ : Schema) (t : ℕ) (s : List ℕ) (i l : ℕ) (ps : List ℕ) (r : Scalars) : Type 0 where
  pub of : (m : Tree) → tree σ t (take l (drop i s)) ≡ some m → (k : Slot)
      → said s (at r k) ≡ last (field_of k) (along ps m)
  pub within : (k : Slot) → Lying (length s) (at r k)
