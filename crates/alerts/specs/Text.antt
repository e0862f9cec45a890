-- Believe: what every layer uses. Texts as bytes: what the alert rules ask of a text. A pattern is the first
-- argument. Each definition computes: what a test settles, a `let` leaves unlooked at.
use Rattle.std.specs.Prelude.{List, [], ◌∷◌, ◌++◌, map, Bool, true, false, cond, ◌&&◌, ◌||◌, ℕ, suc, ◌+◌, ◌-◌, ◌/◌, ◌%◌, ltb, eqb}
use Rattle.std.proofs.Math.Option.{Option, none, some}
use Prim.Native.String.{String}
use Prim.Native.String as String
use Prim.Native.Char.{code}
use Rattle.formats.specs.Class.{inside}
use Rattle.basics.specs.Lists.{is_empty}
use Rattle.basics.specs.Texts.{same}

-- the UTF-8 bytes of a character, and of a quoted text
abbrev pub utf8_of : ℕ → List ℕ
utf8_of n =
    cond (ltb n 0x80) (n ∷ [])
    (cond (ltb n 0x800) ((0xc0 + n / 64) ∷ (0x80 + n % 64) ∷ [])
    (cond (ltb n 0x10000) ((0xe0 + n / 4096) ∷ (0x80 + n / 64 % 64) ∷ (0x80 + n % 64) ∷ [])
    ((0xf0 + n / 262144) ∷ (0x80 + n / 4096 % 64) ∷ (0x80 + n / 64 % 64) ∷ (0x80 + n % 64) ∷ [])))

abbrev pub text : String → List ℕ
text String.[] = []
text (String.◌∷◌ c s) = utf8_of (code c) ++ text s

-- `starts_with`, `ends_with`, `contains`
abbrev pub begins : List ℕ → List ℕ → Bool
begins [] s = true
begins (a ∷ p) [] = false
begins (a ∷ p) (b ∷ s) = let r = begins p s in eqb a b && r

abbrev pub ends : List ℕ → List ℕ → Bool
ends p [] = is_empty p
ends p (b ∷ s) = let r = ends p s in same p (b ∷ s) || r

abbrev pub contains : List ℕ → List ℕ → Bool
contains p [] = is_empty p
contains p (b ∷ s) = let r = contains p s in begins p (b ∷ s) || r

-- `find`: where the first occurrence begins
abbrev pub later : Option ℕ → Option ℕ
later none = none
later (some i) = some (suc i)

abbrev pub find : List ℕ → List ℕ → Option ℕ
find p [] = cond (is_empty p) (some 0) none
find p (b ∷ s) = let r = later (find p s) in cond (begins p (b ∷ s)) (some 0) r

-- `to_ascii_uppercase`, `eq_ignore_ascii_case`
abbrev pub upper_byte : ℕ → ℕ
upper_byte b = cond (inside (97, 122) b) (b - 32) b

abbrev pub upper : List ℕ → List ℕ
upper s = map upper_byte s

abbrev pub same_ignoring_case : List ℕ → List ℕ → Bool
same_ignoring_case s t = same (upper s) (upper t)

abbrev pub digit : ℕ → Bool
digit b = inside (48, 57) b

-- `is_ascii_alphanumeric`
abbrev pub alphanumeric : ℕ → Bool
alphanumeric b = digit b || inside (65, 90) b || inside (97, 122) b

-- `trim`, of the texts that question 5 lets in: their only white space is the space
abbrev pub trim_start : List ℕ → List ℕ
trim_start [] = []
trim_start (b ∷ s) = let r = trim_start s in cond (eqb b 32) r (b ∷ s)

abbrev pub trim_end : List ℕ → List ℕ
trim_end [] = []
trim_end (b ∷ s) = let r = trim_end s in cond (eqb b 32 && is_empty r) [] (b ∷ r)

abbrev pub trim : List ℕ → List ℕ
trim s = trim_end (trim_start s)

-- `rsplit_once`: what stands before and after the last byte c
abbrev pub split_off : Bool → ℕ → List ℕ → Option (List ℕ × List ℕ) → Option (List ℕ × List ℕ)
split_off t b s (some p) = some (b ∷ p.0, p.1)
split_off true b s none = some ([], s)
split_off false b s none = none

abbrev pub rsplit_once : ℕ → List ℕ → Option (List ℕ × List ℕ)
rsplit_once c [] = none
rsplit_once c (b ∷ s) = split_off (eqb b c) b s (rsplit_once c s)

-- `split`: the pieces between the bytes that the test takes, in order
abbrev pub onto : ℕ → List (List ℕ) → List (List ℕ)
onto b [] = (b ∷ []) ∷ []
onto b (p ∷ l) = (b ∷ p) ∷ l

abbrev pub split : (ℕ → Bool) → List ℕ → List (List ℕ)
split cut [] = [] ∷ []
split cut (b ∷ s) = let r = split cut s in cond (cut b) ([] ∷ r) (onto b r)
