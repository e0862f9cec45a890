-- Promise. The 32 lines, numbered so that those whose names begin alike stand together, and what a text says of line k.
use Rattle.std.specs.Prelude.{◌≡◌, List, ◌++◌, Bool, cond, false, not, ◌&&◌, ◌||◌, ℕ, ◌+◌, ◌-◌, ◌*◌, ◌<◌, ltb, leb, eqb, length, get_or, take, drop}
use Rattle.basics.specs.Lists.{any}
use Rattle.basics.specs.Texts.{same}
use Rattle.alerts.specs.Text.{text, begins, ends, contains}
use Rattle.alerts.specs.Applies.{letters, numerals, trams, around, names, letter_rows, bare_rows, names_number}
use Rattle.alerts.specs.Applies.{names_tram}
use Rattle.alerts.specs.Promises.Reduced.{primary}
use Rattle.alerts_patterns.specs.Promises.Tables.{up_to, pieces, patterns, any_at}

-- the names, three bytes each, and how many of the three each takes
abbrev pub line_table : List ℕ
line_table = text "A  B  C  D  E  1  10 11 12 13 14 2  3  4  5  6  7  8  9  T1 T10T11T12T13T2 T3 T4 T5 T6 T7 T8 T9 "

abbrev pub width_of : ℕ → ℕ
width_of k =
    cond (ltb k 6) 1 (cond (ltb k 11) 2 (cond (ltb k 19) 1 (cond (ltb k 20) 2 (cond (ltb k 24) 3 2))))

unfoldable pub line_at : ℕ → List ℕ
line_at k = take (width_of k) (drop (3 * k) line_table)

abbrev pub all_lines : List (List ℕ)
all_lines = letters ++ numerals ++ trams

-- line r has the name, and no other line; none has it where r is 32
pub record IsLine (name : List ℕ) (r : ℕ) : Type 0 where
  pub each : (k : ℕ) → k < 32 → same (line_at k) name ≡ eqb k r

-- the only lines whose names may begin with some bytes, or 32: the one with one digit at most, and the one with two
abbrev pub short_of : ℕ → ℕ → ℕ
short_of b c =
    cond (ltb b 49) 32
    (cond (eqb b 49) 5
    (cond (ltb b 58) (b - 39)
    (cond (ltb b 65) 32
    (cond (ltb b 70) (b - 65)
    (cond (eqb b 84) (cond (eqb c 49) 19 (cond (ltb c 50) 32 (cond (ltb c 58) (c - 26) 32))) 32)))))

abbrev pub ten_of : ℕ → ℕ
ten_of c = cond (ltb c 48) 32 (cond (ltb c 53) (c - 42) 32)

abbrev pub long_of : ℕ → ℕ → ℕ → ℕ
long_of b c d =
    cond (eqb b 49) (ten_of c)
    (cond (eqb b 84) (cond (eqb c 49) (cond (ltb d 48) 32 (cond (ltb d 52) (d - 28) 32)) 32) 32)

-- the line's name stands at j, and behind it one of a table's texts; so behind another text at i; and so anywhere
abbrev pub stands_at : List ℕ → ℕ → List ℕ → ℕ → Bool
stands_at s j afters k = begins (line_at k) (drop j s) && any_at afters s (j + width_of k)

abbrev pub row_at : List ℕ → List ℕ → List ℕ → ℕ → ℕ → Bool
row_at s before afters i k = begins before (drop i s) && stands_at s (i + length before) afters k

abbrev pub row : List ℕ → List ℕ → List ℕ → ℕ → Bool
row s before afters k = any (λ a. contains (before ++ line_at k ++ a) s) (patterns afters)

-- a family is a text, '#' for the name, and a table of what may stand behind; a table of families has ';' between two
abbrev pub family_of : List ℕ → List ℕ → ℕ → Bool
family_of s f k =
    cond (ltb (up_to 0x23 f) (length f)) (row s (take (up_to 0x23 f) f) (drop (up_to 0x23 f + 1) f) k) false

abbrev pub table_of : List ℕ → List ℕ → ℕ → Bool
table_of table s k = any (λ f. family_of s f k) (pieces 0x3b table)

-- what is asked of line k
abbrev pub last_of : List ℕ → ℕ → Bool
last_of s k = ends (around " " (line_at k) "") s

abbrev pub bare_of : List ℕ → ℕ → Bool
bare_of s k = names bare_rows s (line_at k) || last_of s k

abbrev pub number_of : List ℕ → ℕ → Bool
number_of s k = names_number s (line_at k)

abbrev pub tram_of : List ℕ → ℕ → Bool
tram_of s k = names_tram s (line_at k)

-- a text names a line: a tram's name begins with T, a letter is an RER line, else it is a number
abbrev pub mentions : List ℕ → List ℕ → Bool
mentions s name =
    cond (eqb (get_or name 0 0) 0x54) (names_tram s name)
    (cond (leb 0x41 (get_or name 0 0)) (names letter_rows s name) (names_number s name))

abbrev pub named_of : List ℕ → ℕ → Bool
named_of s k = mentions s (line_at k)

abbrev pub subject_of : List ℕ → ℕ → Bool
subject_of s k = primary s (line_at k)

abbrev pub other_subject : List ℕ → List ℕ → List ℕ → Bool
other_subject s name m = mentions s m && (not (same m name) && primary s m)
