-- Promise. Readers that answer positions: what such an answer says of the bytes, and what a reader of one over
-- another ensures.
use Rattle.std.specs.Prelude.{ℕ, ◌≤◌, ◌≡◌, List, length, take}
use Rattle.realtime.specs.Tree.{Schema}
use Rattle.realtime_views.specs.Promises.Fold.{Takes, Made}

-- an answer d says `look s d` of the bytes s; `In n d`: its positions lie in the first n bytes. There it says the
-- same, and so farther on
pub record Lens (D B : Type 0) : Type 1 where
  pub look : List ℕ → D → B
  pub In : ℕ → D → Type 0
  pub far : (n m : ℕ) (d : D) → n ≤ m → In n d → In m d
  pub front : (s : List ℕ) (n : ℕ) (d : D) → n ≤ length s → In n d → look (take n s) d ≡ look s d

-- a reader starts at `from`, over d, whose positions lie before that
pub record Ready {D B : Type 0} (L : Lens D B) (s : List ℕ) (from : ℕ) (d : D) : Type 0 where
  pub inside : from ≤ length s
  pub within : L.In from d

-- and answers r
pub record Reads {D B : Type 0} (L : Lens D B) (φ : Takes B) (σ : Schema) (t : ℕ) (s : List ℕ) (from : ℕ) (d r : D) :
    Type 0 where
  pub made : Made φ (L.look s d) σ t s from (L.look s r)
  pub within : L.In (length s) r
