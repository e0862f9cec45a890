-- Law. The lines that whole tables mark: those that a text names, and those that it is about; and which line a name is.
use Rattle.std.specs.Prelude.{◌≡◌, List, [], ◌∷◌, ◌++◌, ◌⊎◌, Bool, true, false, not, ◌&&◌, ◌||◌, ℕ, zero, suc, ◌+◌, ◌-◌, ◌≤◌, ◌<◌, leb, ltb, eqb, length, get_or, drop, replicate}
use Rattle.std.proofs.Math.Path.{refl, ap}
use Rattle.std.proofs.Common.{sym, ◌∙◌, append-nil, ⊎_elim, arith, drop-cons}
use borrow.Author.Tests.{lt-ltb, le-ltb, ltb-true, le-leb, lt-leb, leb-true, eq-eqb, ne_eqb, eqb-true, eqb-false}
use Rattle.std.proofs.lemmas.Bool.{not-true, not-false}
use Rattle.basics.specs.Texts.{same}
use Rattle.basics.specs.Laws.Booleans.{or_assoc, or_false, and_yes, and_no, false_true}
use Rattle.basics.specs.Laws.Texts.{same_refl, same_true}
use Rattle.alerts.specs.Text.{text, begins, contains}
use Rattle.alerts.specs.Applies.{around, names, letter_rows, number_rows, bare_rows}
use Rattle.alerts.specs.Promises.Reduced.{subject_rows}
use Rattle.alerts.proofs.Laws.Text.{contains_append, contains_trans}
use Rattle.alerts_patterns.specs.Promises.Tables.{any_in}
use Rattle.alerts_patterns.specs.Laws.Searching.{ends_long, ends_begins}
use Rattle.alerts_lines.specs.Promises.Lines.{width_of, line_at, last_of, bare_of, number_of, tram_of, named_of}
use Rattle.alerts_lines.specs.Promises.Lines.{subject_of, row_at, table_of, IsLine, short_of, long_of}
use Rattle.alerts_lines.specs.Promises.Marks.{on, Marked, Front, MarkedBy, MarkedIn, Begin}
use Rattle.alerts_lines.specs.Promises.Marks.{Cleared}
use Rattle.alerts_lines.specs.Laws.Kinds.{Kind, letter, one, ten, digit, tram, tower, second, kind}
use Rattle.alerts_lines.specs.Laws.Marking.{row_here}
use Rattle.alerts_lines.specs.Laws.Kinds.{either_line, short_line, line_once, line_length, line_first}

-- marks after marks
turned : {f : ℕ → Bool} (g : ℕ → Bool) {a b : List ℕ} → ((k : ℕ) → k < 32 → f k ≡ g k) → Marked f a b → Marked g a b
turned g {a} e M = record { each = λ k h. M.each k h ∙ ap (λ x. on a k || x) (e k h) }

joins : {f g : ℕ → Bool} {a b c : List ℕ} → Marked f a b → Marked g b c → Marked (λ k. f k || g k) a c
joins {f} {g} {a} M N =
    record { each = λ k h. N.each k h ∙ ap (λ x. x || g k) (M.each k h) ∙ or_assoc (on a k) (f k) (g k) }

module _ {from past : ℕ} where
  turned_in : {f : ℕ → Bool} (g : ℕ → Bool) {a b : List ℕ} → ((k : ℕ) → f k ≡ g k) → MarkedIn f from past a b
      → MarkedIn g from past a b
  turned_in g {a} e M = record { each = λ k. M.each k ∙ ap (λ x. on a k || leb from k && ltb k past && x) (e k) }

  both_in : {f g : ℕ → Bool} {a b c : List ℕ} → MarkedIn f from past a b → MarkedIn g from past b c
      → MarkedIn (λ k. f k || g k) from past a c
  both_in {f} {g} {a} M N = record {
    each = λ k.
        N.each k ∙ ap (λ x. x || leb from k && ltb k past && g k) (M.each k)
        ∙ go (on a k) (leb from k && ltb k past) (f k) (g k);
  }
    where
      go : (o x p q : Bool) → o || x && p || x && q ≡ o || x && (p || q)
      go o true p q = or_assoc o p q
      go o false p q = or_false (o || false)

-- the tables
module _ (s : List ℕ) (k : ℕ) where
  rer_rows : table_of (text "RER #;RER#") s k ≡ names letter_rows s (line_at k)
  rer_rows = go (contains (around "RER " (line_at k) "") s) (contains (around "RER" (line_at k) "") s)
    where
      go : (a b : Bool) → a || false || (b || false || false) ≡ a || (b || false)
      go true b = refl
      go false b = or_false (b || false)

  head_rows : table_of (text "METRO #;METRO#;LIGNE #;LIGNES #") s k ≡ names number_rows s (line_at k)
  head_rows =
      go (contains (around "METRO " (line_at k) "") s) (contains (around "METRO" (line_at k) "") s)
      (contains (around "LIGNE " (line_at k) "") s) (contains (around "LIGNES " (line_at k) "") s)
    where
      go : (a b c d : Bool)
          → a || false || (b || false || (c || false || (d || false || false))) ≡ a || (b || (c || (d || false)))
      go true b c d = refl
      go false true c d = refl
      go false false true d = refl
      go false false false d = or_false (d || false)

  bare_rows_table : table_of (text " # |.|,;ET #") s k ≡ names bare_rows s (line_at k)
  bare_rows_table =
      go (contains (around " " (line_at k) " ") s) (contains (around " " (line_at k) ".") s)
      (contains (around " " (line_at k) ",") s) (contains (around "ET " (line_at k) "") s)
    where
      go : (a b c d : Bool) → a || (b || (c || false)) || (d || false || false) ≡ a || (b || (c || (d || false)))
      go true b c d = refl
      go false true c d = refl
      go false false true d = refl
      go false false false d = or_false (d || false)

  subject_rows_table : k < 32
      → table_of (text "RER #;RER#;METRO #;INCIDENT LIGNE #;LIGNE # :| -| INTERRUPT| TRAFIC") s k
      || row_at s (text "LIGNE ") [] 0 k ≡ subject_of s k
  subject_rows_table h =
      go (contains (around "RER " (line_at k) "") s) (contains (around "RER" (line_at k) "") s)
      (contains (around "METRO " (line_at k) "") s) (contains (around "INCIDENT LIGNE " (line_at k) "") s)
      (contains (around "LIGNE " (line_at k) " :") s) (contains (around "LIGNE " (line_at k) " -") s)
      (contains (around "LIGNE " (line_at k) " INTERRUPT") s) (contains (around "LIGNE " (line_at k) " TRAFIC") s)
      (row_at s (text "LIGNE ") [] 0 k) ∙ ap (λ x. names subject_rows s (line_at k) || x) front
    where
      go : (a b c d e f g h i : Bool)
          → a || false || (b || false || (c || false || (d || false || (e || (f || (g || (h || false))) || false))))
          || i
          ≡ (a || (b || (c || (d || (e || (f || (g || (h || false)))))))) || i
      go true b c d e f g h i = refl
      go false true c d e f g h i = refl
      go false false true d e f g h i = refl
      go false false false true e f g h i = refl
      go false false false false e f g h i = ap (λ x. x || i) (or_false (e || (f || (g || (h || false)))))

      front : row_at s (text "LIGNE ") [] 0 k ≡ begins (around "LIGNE " (line_at k) "") s
      front = sym (row_here s (text "LIGNE ") [] 0 k h) ∙ or_false (begins (around "LIGNE " (line_at k) "") s)

  spaced_rows : table_of (text " #") s k ≡ contains (around " " (line_at k) "") s
  spaced_rows =
      or_false (contains (around " " (line_at k) "") s || false) ∙ or_false (contains (around " " (line_at k) "") s)

  name_rows : table_of (text "#") s k ≡ contains (line_at k) s
  name_rows =
      or_false (contains (line_at k ++ []) s || false) ∙ or_false (contains (line_at k ++ []) s)
      ∙ ap (λ l. contains l s) (append-nil (line_at k))

-- a name that stands last, behind a space
module _ (s : List ℕ) (k w : ℕ) (h : k < 32) (g : w ≡ width_of k) where
  spaced : length (around " " (line_at k) "") ≡ w + 1
  spaced = omega (arith, ap length (append-nil (line_at k)), line_length k h, g)

  pub last_short : length s ≤ w → false ≡ last_of s k
  last_short l = sym (ends_long (around " " (line_at k) "") s (omega (arith, spaced)))

  module _ (l : w < length s) where
    split : last_of s k ≡ eqb 32 (get_or s (length s - w - 1) 0) && begins (line_at k) (drop (length s - w) s)
    split =
        let past : suc (length s - w - 1) ≡ length s - w = omega arith in
        ends_begins (around " " (line_at k) "") s (length s - w - 1) (omega (arith, spaced))
        ∙ rw (drop-cons s (length s - w - 1) 0 (omega arith), append-nil (line_at k), past) refl

    pub last_other : (get_or s (length s - w - 1) 0 ≡ 32 → ⊥) → false ≡ last_of s k
    last_other d = sym (split ∙ rw (ne_eqb 32 (get_or s (length s - w - 1) 0) (λ e. d (sym e))) refl)

    pub last_name : (t : Bool) → get_or s (length s - w - 1) 0 ≡ 32 → t ≡ begins (line_at k) (drop (length s - w) s)
        → t ≡ last_of s k
    last_name t e x = x ∙ sym (split ∙ rw e refl)

-- some lines from fresh marks
zeros : (n k : ℕ) → ◌≡◌ {A = ℕ} (get_or (replicate n 0) k 0) 0
zeros zero k = refl
zeros (suc n) zero = refl
zeros (suc n) (suc k) = zeros n k

pub fresh_on : (f : ℕ → Bool) (l : List ℕ) → Marked f (replicate 32 0) l → (k : ℕ) → k < 32 → on l k ≡ f k
unfolding on
fresh_on f l F k h = F.each k h ∙ ap (λ n. eqb n 1 || f k) (zeros 32 k)

pub added : (first : List ℕ) (f : ℕ → Bool) (from past : ℕ) (clear l old new : List ℕ) → past ≤ 32
    → Begin first from past → Cleared from past clear → MarkedBy first f clear l → MarkedIn (on l) from past old new
    → MarkedIn f from past old new
added first f from past clear l old new w B C F M =
    record { each = λ k. M.each k ∙ ap (λ x. on old k || x) (go k (leb from k) refl (ltb k past) refl) }
  where
    go : (k : ℕ) (t : Bool) → leb from k ≡ t → (u : Bool) → ltb k past ≡ u → t && u && on l k ≡ t && u && f k
    go k false d u e = refl
    go k true d false e = refl
    go k true d true e =
        let g = leb-true from k d in
        let h = ltb-true k past e in
        F.each k (omega arith) (B.each k g h) ∙ ap (λ x. x || f k) (C.each k g h)

-- what names begin with: all, letters, numbers, trams
front_of : (first : List ℕ) (k : ℕ) → get_or first 0 0 ≤ get_or (line_at k) 0 0
    → get_or (line_at k) 0 0 ≤ get_or first 1 255
    → Front first k
front_of first k a b = record { low = a; high = b }

front_any : (k : ℕ) → k < 32 → Front [] k
front_any k h = front_of [] k (omega arith) (small (kind k h))
  where
    small : {x y z : ℕ} → Kind k x y z → x ≤ 255
    small (letter x y z) = omega arith
    small (one x y) = omega arith
    small (ten x y z w) = omega arith
    small (digit x y z) = omega arith
    small (tram x y z) = omega arith
    small (tower x y z w v) = omega arith
    small (second x y z w) = omega arith

between_of : (lo hi from past : ℕ) → past ≤ 32
    → ((k x y z : ℕ) → from ≤ k → k < past → Kind k x y z → (lo ≤ x) × (x ≤ hi)) → Begin (lo ∷ hi ∷ []) from past
between_of lo hi from past w f = record {
  each = λ k h g.
      let b = f k (get_or (line_at k) 0 0) (get_or (line_at k) 1 0) (get_or (line_at k) 2 0) h g (kind k (omega arith))
      in
      front_of (lo ∷ hi ∷ []) k b.0 b.1;
}

pub begin_letters : Begin (text "AE") 0 5
begin_letters = between_of 65 69 0 5 (omega arith) go
  where
    go : (k x y z : ℕ) → 0 ≤ k → k < 5 → Kind k x y z → (65 ≤ x) × (x ≤ 69)
    go k x y z h g (letter p q r) = (p, omega arith)
    go k x y z h g (one p q) = absurd (omega arith)
    go k x y z h g (ten p q r s) = absurd (omega arith)
    go k x y z h g (digit p q r) = absurd (omega arith)
    go k x y z h g (tram p q r) = absurd (omega arith)
    go k x y z h g (tower p q r s t) = absurd (omega arith)
    go k x y z h g (second p q r s) = absurd (omega arith)

pub begin_numbers : Begin (text "19") 5 19
begin_numbers = between_of 49 57 5 19 (omega arith) go
  where
    go : (k x y z : ℕ) → 5 ≤ k → k < 19 → Kind k x y z → (49 ≤ x) × (x ≤ 57)
    go k x y z h g (letter p q r) = absurd (omega arith)
    go k x y z h g (one p q) = (omega arith, omega arith)
    go k x y z h g (ten p q r s) = (omega arith, omega arith)
    go k x y z h g (digit p q r) = (omega arith, omega arith)
    go k x y z h g (tram p q r) = absurd (omega arith)
    go k x y z h g (tower p q r s t) = absurd (omega arith)
    go k x y z h g (second p q r s) = absurd (omega arith)

pub begin_trams : Begin (text "TT") 19 32
begin_trams = between_of 84 84 19 32 (omega arith) go
  where
    go : (k x y z : ℕ) → 19 ≤ k → k < 32 → Kind k x y z → (84 ≤ x) × (x ≤ 84)
    go k x y z h g (letter p q r) = absurd (omega arith)
    go k x y z h g (one p q) = absurd (omega arith)
    go k x y z h g (ten p q r s) = absurd (omega arith)
    go k x y z h g (digit p q r) = absurd (omega arith)
    go k x y z h g (tram p q r) = (omega arith, omega arith)
    go k x y z h g (tower p q r s t) = (omega arith, omega arith)
    go k x y z h g (second p q r s) = (omega arith, omega arith)

-- numbers
pub bare_marked : (s m₀ m₁ m₂ : List ℕ) → MarkedIn (table_of (text " # |.|,;ET #") s) 5 19 m₀ m₁
    → MarkedIn (last_of s) 5 19 m₁ m₂ → MarkedIn (bare_of s) 5 19 m₀ m₂
bare_marked s m₀ m₁ m₂ M N = both_in (turned_in (λ k. names bare_rows s (line_at k)) (bare_rows_table s) M) N

module _ (s m₀ m₁ : List ℕ) (H : MarkedIn (table_of (text "METRO #;METRO#;LIGNE #;LIGNES #") s) 5 19 m₀ m₁) (u : Bool)
    (e : u ≡ any_in (text "LIGNE|METRO") s s) where
  heads : MarkedIn (λ k. names number_rows s (line_at k)) 5 19 m₀ m₁
  heads = turned_in (λ k. names number_rows s (line_at k)) (head_rows s) H

  number_is : (k : ℕ) → number_of s k ≡ names number_rows s (line_at k) || bare_of s k && u
  number_is k =
      ap (λ x. names number_rows s (line_at k) || bare_of s k && x)
      (sym (e ∙ ap (λ x. contains (text "LIGNE") s || x) (or_false (contains (text "METRO") s))))

  pub number_heads : not u ≡ true → MarkedIn (number_of s) 5 19 m₀ m₁
  number_heads h =
      turned_in (number_of s)
      (λ k. sym (number_is k ∙ ap (λ x. names number_rows s (line_at k) || bare_of s k && x) (not-true u h)
      ∙ ap (λ x. names number_rows s (line_at k) || x) (and_no (bare_of s k))
      ∙ or_false (names number_rows s (line_at k))))
      heads

  pub number_all : (m₂ : List ℕ) → not u ≡ false → MarkedIn (bare_of s) 5 19 m₁ m₂ → MarkedIn (number_of s) 5 19 m₀ m₂
  number_all m₂ h B =
      turned_in (number_of s)
      (λ k. sym (number_is k ∙ ap (λ x. names number_rows s (line_at k) || bare_of s k && x) (not-false u h)
      ∙ ap (λ x. names number_rows s (line_at k) || x) (and_yes (bare_of s k))))
      (both_in heads B)

-- trams
module _ (s m₀ m₁ : List ℕ) (u : Bool) (e : u ≡ any_in (text "TRAM") s s) where
  tram_is : (k : ℕ) → tram_of s k ≡ contains (line_at k) s && (u || contains (around " " (line_at k) "") s)
  tram_is k =
      ap (λ x. contains (line_at k) s && (x || contains (around " " (line_at k) "") s))
      (sym (e ∙ or_false (contains (text "TRAM") s)))

  pub tram_named : u ≡ true → MarkedIn (table_of (text "#") s) 19 32 m₀ m₁ → MarkedIn (tram_of s) 19 32 m₀ m₁
  tram_named h M =
      turned_in (tram_of s) (λ k. name_rows s k ∙ sym (tram_is k ∙ rw h (and_yes (contains (line_at k) s)))) M

  pub tram_spaced : u ≡ false → MarkedIn (table_of (text " #") s) 19 32 m₀ m₁ → MarkedIn (tram_of s) 19 32 m₀ m₁
  tram_spaced h M = turned_in (tram_of s) (λ k. spaced_rows s k ∙ sym (tram_is k ∙ rw h (held k))) M
    where
      implied : (x y : Bool) → (y ≡ true → x ≡ true) → x && y ≡ y
      implied true y i = refl
      implied false true i = i refl
      implied false false i = refl

      held : (k : ℕ) → contains (line_at k) s && contains (around " " (line_at k) "") s
          ≡ contains (around " " (line_at k) "") s
      held k =
          implied (contains (line_at k) s) (contains (around " " (line_at k) "") s)
          (contains_trans (line_at k) (around " " (line_at k) "") s (contains_append (32 ∷ []) (line_at k) []))

-- letters, numbers and trams
module _ (s m₀ m₁ m₂ m₃ : List ℕ) where
  letters_of : ℕ → Bool
  letters_of k = leb 0 k && ltb k 5 && names letter_rows s (line_at k)

  numbers_of : ℕ → Bool
  numbers_of k = leb 5 k && ltb k 19 && number_of s k

  trams_of : ℕ → Bool
  trams_of k = leb 19 k && ltb k 32 && tram_of s k

  as_number : (k : ℕ) → 5 ≤ k → k < 19 → get_or (line_at k) 0 0 < 58
      → on m₀ k || letters_of k || numbers_of k || trams_of k ≡ on m₀ k || named_of s k
  unfolding letters_of numbers_of trams_of
  as_number k g h b =
      rw (
        le-leb 0 k (omega arith),
        le-ltb k 5 g,
        le-leb 5 k g,
        lt-ltb k 19 h,
        lt-leb 19 k h,
        ne_eqb (get_or (line_at k) 0 0) 0x54 (λ e. omega arith),
        lt-leb 0x41 (get_or (line_at k) 0 0) (omega arith),
        or_false (on m₀ k),
        or_false (on m₀ k || number_of s k),
      )
      refl

  as_tram : (k : ℕ) → k < 32 → 19 ≤ k → get_or (line_at k) 0 0 ≡ 84
      → on m₀ k || letters_of k || numbers_of k || trams_of k ≡ on m₀ k || named_of s k
  unfolding letters_of numbers_of trams_of
  as_tram k h g b =
      rw (
        le-leb 0 k (omega arith),
        le-ltb k 5 (omega arith),
        le-ltb k 19 g,
        le-leb 19 k g,
        lt-ltb k 32 h,
        eq-eqb (get_or (line_at k) 0 0) 0x54 b,
        and_no (leb 5 k),
        or_false (on m₀ k),
        or_false (on m₀ k),
      )
      refl

  as_letter : (k : ℕ) → k < 5 → 65 ≤ get_or (line_at k) 0 0 → get_or (line_at k) 0 0 < 70
      → on m₀ k || letters_of k || numbers_of k || trams_of k ≡ on m₀ k || named_of s k
  unfolding letters_of numbers_of trams_of
  as_letter k h x y =
      rw (
        le-leb 0 k (omega arith),
        lt-ltb k 5 h,
        lt-leb 5 k (omega arith),
        lt-leb 19 k (omega arith),
        ne_eqb (get_or (line_at k) 0 0) 0x54 (λ e. omega arith),
        le-leb 0x41 (get_or (line_at k) 0 0) x,
        or_false (on m₀ k || names letter_rows s (line_at k)),
        or_false (on m₀ k || names letter_rows s (line_at k)),
      )
      refl

  pub named_marked : MarkedIn (table_of (text "RER #;RER#") s) 0 5 m₀ m₁ → MarkedIn (number_of s) 5 19 m₁ m₂
      → MarkedIn (tram_of s) 19 32 m₂ m₃ → Marked (named_of s) m₀ m₃
  unfolding letters_of numbers_of trams_of
  named_marked A B C = record {
    each = λ k h.
        C.each k ∙ ap (λ x. x || trams_of k) (B.each k ∙ ap (λ x. x || numbers_of k) (L.each k))
        ∙ turn k h (kind k h);
  }
    where
      L : MarkedIn (λ k. names letter_rows s (line_at k)) 0 5 m₀ m₁
      L = turned_in (λ k. names letter_rows s (line_at k)) (rer_rows s) A

      turn : (k : ℕ) → k < 32 → Kind k (get_or (line_at k) 0 0) (get_or (line_at k) 1 0) (get_or (line_at k) 2 0)
          → on m₀ k || letters_of k || numbers_of k || trams_of k ≡ on m₀ k || named_of s k
      turn k h (letter x y z) = as_letter k (omega arith) x y
      turn k h (one x y) = as_number k (omega arith) (omega arith) (omega arith)
      turn k h (ten x y z w) = as_number k (omega arith) (omega arith) (omega arith)
      turn k h (digit x y z) = as_number k (omega arith) (omega arith) (omega arith)
      turn k h (tram x y z) = as_tram k h (omega arith) x
      turn k h (tower x y z w v) = as_tram k h (omega arith) x
      turn k h (second x y z w) = as_tram k h (omega arith) x

pub subjects_marked : (s m₀ m₁ m₂ : List ℕ)
    → MarkedBy [] (table_of (text "RER #;RER#;METRO #;INCIDENT LIGNE #;LIGNE # :| -| INTERRUPT| TRAFIC") s) m₀ m₁
    → Marked (row_at s (text "LIGNE ") [] 0) m₁ m₂ → Marked (subject_of s) m₀ m₂
subjects_marked s m₀ m₁ m₂ A B =
    turned (subject_of s) (λ k h. subject_rows_table s k h)
    (joins (record { each = λ k h. A.each k h (front_any k h) }) B)

-- which line a name is
none_named : (name : List ℕ) → ((k : ℕ) → k < 32 → line_at k ≡ name → ⊥) → IsLine name 32
none_named name never = record { each = λ k h. go k h (same (line_at k) name) refl }
  where
    go : (k : ℕ) → k < 32 → (t : Bool) → same (line_at k) name ≡ t → t ≡ eqb k 32
    go k h true e = absurd (never k h (same_true (line_at k) name e))
    go k h false e = sym (ne_eqb k 32 (λ x. omega arith))

module _ (name : List ℕ) where
  pub no_name : length name ≡ 0 → IsLine name 32
  no_name h = none_named name (λ k g e. empty name h (rw e at (line_first k g)))
    where
      empty : (l : List ℕ) → length l ≡ 0 → 0 < get_or l 0 0 → ⊥
      empty [] h x = omega arith
      empty (b ∷ l) h x = omega (arith, h)

  pub one_named : (k : ℕ) (t : Bool) → k < 32 → t ≡ same (line_at k) name → t ≡ true → IsLine name k
  one_named k t h e y = record { each = λ j g. go j g (same (line_at j) name) refl (eqb j k) refl }
    where
      here : line_at k ≡ name
      here = same_true (line_at k) name (sym e ∙ y)

      go : (j : ℕ) → j < 32 → (u : Bool) → same (line_at j) name ≡ u → (v : Bool) → eqb j k ≡ v → u ≡ v
      go j g true x true w = refl
      go j g true x false w =
          absurd (eqb-false j k w (line_once j k g h (same_true (line_at j) name x ∙ sym here)))
      go j g false x true w =
          sym x ∙ ap (λ i. same (line_at i) name) (eqb-true j k w) ∙ sym e ∙ y
      go j g false x false w = refl

  module _ (c a : ℕ) (ec : c ≡ get_or name 1 0) (ea : a ≡ short_of (get_or name 0 0) c) where
    pub no_short : 32 ≤ a → IsLine name 32
    no_short h = none_named name (λ k g e. absurd (omega (arith, h, short k g e)))
      where
        short : (k : ℕ) → k < 32 → line_at k ≡ name → a < 32
        short k g e =
            rw (ea, ec)
            (short_line k (get_or (line_at k) 0 0) (get_or (line_at k) 1 0) (get_or (line_at k) 2 0) (get_or name 0 0)
            (get_or name 1 0) (kind k g) (ap (λ l. get_or l 0 0) e) (λ p. ap (λ l. get_or l 1 0) e))

    module _ (l : ℕ) (el : l ≡ long_of (get_or name 0 0) c (get_or name 2 0)) where
      which : (k : ℕ) → k < 32 → line_at k ≡ name → (k ≡ a) ⊎ (k ≡ l)
      which k g e =
          rw (ea, el, ec)
          (either_line k (get_or (line_at k) 0 0) (get_or (line_at k) 1 0) (get_or (line_at k) 2 0) (get_or name 0 0)
          (get_or name 1 0) (get_or name 2 0) (kind k g) (ap (λ l. get_or l 0 0) e) (λ p. ap (λ l. get_or l 1 0) e)
          (λ p. ap (λ l. get_or l 2 0) e))

      absent : (j : ℕ) (t : Bool) → t ≡ same (line_at j) name → t ≡ false → (k : ℕ) → line_at k ≡ name → k ≡ j → ⊥
      absent j t e y k n x =
          false_true (sym (sym e ∙ y) ∙ ap (λ i. same (line_at i) name) (sym x) ∙ ap (λ l. same l name) n
          ∙ same_refl name)

      pub no_long : (t : Bool) → t ≡ same (line_at a) name → t ≡ false → 32 ≤ l → IsLine name 32
      no_long t e y h =
          none_named name (λ k g n. ⊎_elim (absent a t e y k n) (λ x. absurd (omega arith)) (which k g n))

      pub no_line : (t u : Bool) → t ≡ same (line_at a) name → t ≡ false → u ≡ same (line_at l) name → u ≡ false
          → IsLine name 32
      no_line t u e y f z =
          none_named name (λ k g n. ⊎_elim (absent a t e y k n) (absent l u f z k n) (which k g n))
