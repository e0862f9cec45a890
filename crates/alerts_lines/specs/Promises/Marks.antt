-- Promise. A byte for each of the 32 lines: which are marked, and what is asked of the marks.
use Rattle.std.specs.Prelude.{◌≡◌, List, Bool, false, not, ◌&&◌, ◌||◌, ℕ, zero, suc, ◌≤◌, ◌<◌, ltb, leb, eqb, get_or}
use Rattle.alerts_lines.specs.Promises.Lines.{line_at}
use Rattle.alerts_lines.specs.declared.Pick.{Pick}
use Rattle.alerts_lines.specs.declared.Pick.TheVariants.{Named, Own, Another, Subject}

-- whether line k is marked
unfoldable pub on : List ℕ → ℕ → Bool
on m k = eqb (get_or m k 0) 1

-- the lines of which f says yes are marked
pub record Lines (f : ℕ → Bool) (m : List ℕ) : Type 0 where
  pub each : (k : ℕ) → k < 32 → on m k ≡ f k

-- they are marked too
pub record Marked (f : ℕ → Bool) (old new : List ℕ) : Type 0 where
  pub each : (k : ℕ) → k < 32 → on new k ≡ on old k || f k

-- the name of line k begins with a byte from the first of `first` to its second; with any where there are not two
pub record Front (first : List ℕ) (k : ℕ) : Type 0 where
  pub low : get_or first 0 0 ≤ get_or (line_at k) 0 0
  pub high : get_or (line_at k) 0 0 ≤ get_or first 1 255

-- of the lines whose names begin so, those of which f says yes are
pub record MarkedBy (first : List ℕ) (f : ℕ → Bool) (old new : List ℕ) : Type 0 where
  pub each : (k : ℕ) → k < 32 → Front first k → on new k ≡ on old k || f k

-- the names of the lines from one on up to another begin so
pub record Begin (first : List ℕ) (from past : ℕ) : Type 0 where
  pub each : (k : ℕ) → from ≤ k → k < past → Front first k

-- line j is, where f says yes of it
pub record MarkedOne (f : ℕ → Bool) (j : ℕ) (old new : List ℕ) : Type 0 where
  pub each : (k : ℕ) → k < 32 → on new k ≡ on old k || eqb k j && f k

-- those from one on up to another are, where f says yes
pub record MarkedIn (f : ℕ → Bool) (from past : ℕ) (old new : List ℕ) : Type 0 where
  pub each : (k : ℕ) → on new k ≡ on old k || leb from k && ltb k past && f k

-- the lines from one on up to another are not marked
pub record Cleared (from past : ℕ) (m : List ℕ) : Type 0 where
  pub each : (k : ℕ) → from ≤ k → k < past → on m k ≡ false

-- whether f says yes of one of the n numbers from k on
abbrev pub any_from : ℕ → ℕ → (ℕ → Bool) → Bool
any_from k zero f = false
any_from k (suc n) f = let r = any_from (suc k) n f in f k || r

-- what is asked of a line that may be named, may be a subject and may be one's own
abbrev pub pick_of : Pick → Bool → Bool → Bool → Bool
pick_of Named n p o = n
pick_of Own n p o = n && o
pick_of Another n p o = n && not o
pick_of Subject n p o = n && (not o && p)

abbrev pub picks : Pick → List ℕ → List ℕ → ℕ → ℕ → Bool
picks pick named subject own k = pick_of pick (on named k) (on subject k) (eqb k own)
