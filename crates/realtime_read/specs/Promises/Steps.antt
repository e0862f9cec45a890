-- Promise. What a step over a message says of its tree.
use Rattle.std.specs.Prelude.{cond, ℕ, ◌+◌, ◌≤◌, ◌<◌, ◌≡◌, List, eqb, length, take, drop, Option, None}
use Rattle.std.proofs.Math.Option.{Option as LogicOption, none, some, map}
use Rattle.wire.specs.Promises.Places.{number_at, text_at}
use Rattle.realtime.specs.Tree.{a_number, a_text, a_message, Schema, Tree, end, num, txt, msg, tree}
use Rattle.basics.specs.Options.{bind_o}
use Rattle.realtime_read.specs.declared.Step.{Step}
use Rattle.wire.specs.declared.Cursor.{Cursor}

-- what stands behind a key, where its wire type w is a number's, and where it is a text's
abbrev pub number_behind : List ℕ → ℕ → ℕ → Option (ℕ × Cursor)
number_behind s at w = cond (eqb w 0) (number_at s at) None

abbrev pub text_behind : List ℕ → ℕ → ℕ → Option (ℕ × ℕ × Cursor)
text_behind s at w = cond (eqb w 2) (text_at s at) None

-- the tree that a step and what stands behind it make
abbrev pub seen : Schema → ℕ → List ℕ → Step → LogicOption Tree
seen σ t s (Step.Number f v n) = map (num f v) (tree σ t (drop n s))
seen σ t s (Step.Text f i l n) = map (txt f (take l (drop i s))) (tree σ t (drop n s))
seen σ t s (Step.Message f u i l n) =
    bind_o (tree σ u (take l (drop i s))) (λ m. map (msg f u m) (tree σ t (drop n s)))
seen σ t s Step.End = some end
seen σ t s Step.Broken = none

-- a step from `at` to n in s, and a part of l bytes at i, up to n
pub record Goes (s : List ℕ) (at n : ℕ) : Type 0 where
  pub ahead : at < n
  pub inside : n ≤ length s

pub record Lies (s : List ℕ) (at i l n : ℕ) : Type 0 where
  pub ahead : at < i
  pub ends : i + l ≡ n
  pub inside : n ≤ length s

-- it goes forward, and what it answers lies inside
abbrev pub Forward : List ℕ → ℕ → Step → Type 0
Forward s at (Step.Number f v n) = Goes s at n
Forward s at (Step.Text f i l n) = Lies s at i l n
Forward s at (Step.Message f u i l n) = Lies s at i l n
Forward s at Step.End = Unit {0}
Forward s at Step.Broken = Unit {0}

-- what it answers is what is listed
abbrev pub Typed : Schema → ℕ → Step → Type 0
Typed σ t (Step.Number f v n) = σ t f ≡ some a_number
Typed σ t (Step.Text f i l n) = σ t f ≡ some a_text
Typed σ t (Step.Message f u i l n) = σ t f ≡ some (a_message u)
Typed σ t Step.End = Unit {0}
Typed σ t Step.Broken = Unit {0}

-- THE ANSWER r of a step from `at` on
pub record Stepped (σ : Schema) (t : ℕ) (s : List ℕ) (at : ℕ) (r : Step) : Type 0 where
  pub same : tree σ t (drop at s) ≡ seen σ t s r
  pub forward : Forward s at r
  pub typed : Typed σ t r
