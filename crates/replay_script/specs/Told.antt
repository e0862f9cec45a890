-- Believe: 01, History. What a replay told, beside the book: the numbers and the answers as they stand in its output,
-- whole, and nothing else.
use Rattle.std.specs.Prelude.{ℕ, suc, ◌≡◌, cond, List, [], ◌∷◌, length, get_or, take, drop, replicate}
use Rattle.std.proofs.Math.Option.{none, some}
use Rattle.overlay.specs.Image.{filled}
use Rattle.panel.specs.Questions.{Lengths}
use Rattle.panel.specs.Calls.{Call, writes}
use Rattle.panel.specs.Rule.{Book, no_book}
use Rattle.panel.specs.Book.{fed, said, seen}
use Rattle.panel.specs.Gained.{AlikeAll}
use Rattle.replay_script.specs.Script.{standing, size_of, Lent, calls_in}

-- the numbers in the bytes l
unfoldable pub numbers_in : List Call → List ℕ → List ℕ
numbers_in [] l = []
numbers_in (c ∷ cs) l = get_or l 0 0 ∷ numbers_in cs (drop (suc (standing c)) l)

-- what is seen of a call that returned n and whose output is x; a writing call's is not told
abbrev pub seen_here : Call → ℕ → List ℕ → List ℕ
seen_here c n x = cond (writes c) [] (seen c (record { number = n; out = x; work = [] }))

unfoldable pub seen_in : List Call → List ℕ → List (List ℕ)
seen_in [] l = []
seen_in (c ∷ cs) l = seen_here c (get_or l 0 0) (take (standing c) (drop 1 l)) ∷ seen_in cs (drop (suc (standing c)) l)

-- what the book says of it, fed the numbers ns
abbrev pub said_here : Book → Call → ℕ → List ℕ
said_here bk c n = cond (writes c) [] (said bk c n)

unfoldable pub said_in : Book → List Call → List ℕ → List (List ℕ)
said_in bk [] ns = []
said_in bk (c ∷ cs) [] = []
said_in bk (c ∷ cs) (n ∷ ns) = said_here bk c n ∷ said_in (fed bk c n) cs ns

-- THE HISTORY of the calls cs in the bytes l: what is seen there is what the book says, fed the numbers that stand
-- there
pub record Told (cs : List Call) (l : List ℕ) : Type 0 where
  pub size : length l ≡ size_of cs
  pub history : seen_in cs l ≡ said_in no_book cs (numbers_in cs l)

-- THE SUPPLIER ADDS FIELDS: a run of ds that told m beside a run of cs that told l
pub record ToldGained (cs : List Call) (l : List ℕ) (ds : List Call) (m : List ℕ) : Type 0 where
  pub gains : AlikeAll cs (numbers_in cs l) ds → l ≡ m

-- A REPLAY of the script s that returned a number and left `out`: 1 and zeros, where s is no script for the buffers
-- that were lent; else 0, and in `out` the history of its calls, and then zeros
pub record ReplayTold (L : Lengths) (R : Lent) (s : List ℕ) (number : ℕ) (out : List ℕ) : Type 0 where
  pub refused : calls_in L R s ≡ none → (number ≡ 1) × (out ≡ replicate R.output 0)
  pub accepted : {cs : List Call} → calls_in L R s ≡ some cs → number ≡ 0
  pub told : {cs : List Call} → calls_in L R s ≡ some cs → Told cs (take (size_of cs) out)
  pub whole : {cs : List Call} → calls_in L R s ≡ some cs → out ≡ filled R.output (take (size_of cs) out)

-- A REPLAY of s left `out`, and one of t with the same buffers, in which messages gained fields, left `other`
pub record ReplayGained (L : Lengths) (R : Lent) (s out t other : List ℕ) : Type 0 where
  pub gains : {cs ds : List Call} → calls_in L R s ≡ some cs → calls_in L R t ≡ some ds
      → AlikeAll cs (numbers_in cs (take (size_of cs) out)) ds → out ≡ other
