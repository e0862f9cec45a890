-- Law. What the code keeps of a field is what is last in it.
use Rattle.std.specs.Prelude.{ℕ, ◌≡◌, refl, List, Bool, true, false, cond, eqb}
use Rattle.std.proofs.Common.{◌∙◌}
use Rattle.std.proofs.Math.Option.{Option, none, some}
use Rattle.realtime.specs.Tree.{Tree, end, num, txt, msg, Leaf, count, words, last}
use Rattle.basics.specs.Options.{or_else}
use Rattle.realtime_views.specs.Promises.Fold.{folded}
use Rattle.realtime_views.specs.Promises.Last.{Single, taking, each}

-- of its last value, or v where there is none
abbrev pub leaf : {B : Type 0} → Single B → B → Option Leaf → B
leaf o v none = v
leaf o v (some (count n)) = o.number n
leaf o v (some (words x)) = o.text x

leaf_number : {B : Type 0} (o : Single B) (v : B) (b : Bool) (n : ℕ) (l : Option Leaf)
    → leaf o (cond b (o.number n) v) l ≡ leaf o v (or_else l (cond b (some (count n)) none))
leaf_number o v true n none = refl
leaf_number o v false n none = refl
leaf_number o v b n (some (count m)) = refl
leaf_number o v b n (some (words x)) = refl

leaf_text : {B : Type 0} (o : Single B) (v : B) (b : Bool) (y : List ℕ) (l : Option Leaf)
    → leaf o (cond b (o.text y) v) l ≡ leaf o v (or_else l (cond b (some (words y)) none))
leaf_text o v true y none = refl
leaf_text o v false y none = refl
leaf_text o v b y (some (count m)) = refl
leaf_text o v b y (some (words x)) = refl

-- THE LAST WINS: one field after the other is the last of them
pub taking_last : {B : Type 0} (o : Single B) (v : B) (t : Tree) → folded (taking o) v t ≡ leaf o v (last o.field t)
taking_last o v end = refl
taking_last o v (num f n t) =
    taking_last o (cond (eqb f o.field) (o.number n) v) t
    ∙ leaf_number o v (eqb f o.field) n (last o.field t)
taking_last o v (txt f x t) =
    taking_last o (cond (eqb f o.field) (o.text x) v) t
    ∙ leaf_text o v (eqb f o.field) x (last o.field t)
taking_last o v (msg f u m t) = taking_last o v t

-- fields side by side are taken each by itself
pub each_taking : {I B : Type 0} (o : I → Single B) (v : I → B) (t : Tree)
    → folded (each o) v t ≡ (λ i. folded (taking (o i)) (v i) t)
each_taking o v end = refl
each_taking o v (num f n t) = each_taking o (λ i. (taking (o i)).number (v i) f n) t
each_taking o v (txt f x t) = each_taking o (λ i. (taking (o i)).text (v i) f x) t
each_taking o v (msg f u m t) = each_taking o v t
