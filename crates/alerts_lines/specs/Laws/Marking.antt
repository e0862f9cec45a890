-- Law. Lines marked where they stand: each return of the functions that mark one place, one row, one family, one table.
use Rattle.std.specs.Prelude.{◌≡◌, List, [], ◌∷◌, ◌++◌, ◌⊎◌, Bool, not, ◌&&◌, ◌||◌, ℕ, zero, suc, ◌+◌, ◌-◌, ◌≤◌, ◌<◌, leb, ltb, get_or, take, drop, set}
use Rattle.std.proofs.Math.Path.{refl, sym, ap}
use Rattle.std.proofs.Common.{◌∙◌, ⊎_elim, add-one, add-zero, arith, drop_of_length-le, drop-cons, get_or-drop, get_or-set_other, length-take-le}
use Rattle.std.proofs.Math.Bool.{true, false}
use Rattle.std.proofs.Math.Dec.{eqb}
use Rattle.std.proofs.Math.ListN.{length, length-set}
use Rattle.std.proofs.Math.Seq.{get_or-set_same}
use borrow.Author.Tests.{ltb-true, ltb-false, lt-ltb, le-ltb, le-leb, lt-leb, eqb-true, eqb-false, eq-eqb}
use borrow.Author.Tests.{not-true, not-false}
use Rattle.basics.specs.Lists.{any}
use Rattle.basics.specs.Laws.Booleans.{and_true, or_assoc, or_false, or_comm, and_no, false_true}
use Rattle.basics.specs.Laws.Lists.{any_none, any_or, any_same}
use Rattle.alerts.specs.Text.{begins, contains}
use Rattle.alerts_patterns.specs.Promises.Tables.{up_to, patterns, any_at}
use Rattle.alerts_patterns.specs.Promises.Occurrence.{SkipsName}
use Rattle.alerts_patterns.specs.Laws.Searching.{parts, room}
use Rattle.alerts_patterns.specs.Laws.Patterns.{tail_whole, Piece, piece_at, piece_then, piece_last}
use Rattle.alerts_lines.specs.Promises.Lines.{width_of, line_at, short_of, long_of, stands_at, row_at, row, family_of}
use Rattle.alerts_lines.specs.Promises.Lines.{table_of}
use Rattle.alerts_lines.specs.Promises.Marks.{on, Marked, Front, MarkedBy, MarkedOne, MarkedIn}
use Rattle.alerts_lines.specs.Promises.Marks.{Cleared}
use Rattle.alerts_lines.specs.Laws.Kinds.{kind, line_first, line_length, either_line, short_line}

-- a mark, or one more
pub either_yes : (a : ℕ) (b : Bool) → b ≡ true → eqb 1 1 ≡ eqb a 1 || b
either_yes a b h = sym (ap (λ x. eqb a 1 || x) h ∙ or_comm (eqb a 1) true)

pub either_no : (a : ℕ) (b : Bool) → b ≡ false → eqb a 1 ≡ eqb a 1 || b
either_no a b h = sym (ap (λ x. eqb a 1 || x) h ∙ or_false (eqb a 1))

-- the lines from one on up to k are marked where f says yes
pub record Marking (f : ℕ → Bool) (from past : ℕ) (old m : List ℕ) (k : ℕ) : Type 0 where
  pub kept : length m ≡ length old
  pub behind : from ≤ k
  pub within : k ≤ past
  pub each : (i : ℕ) → on m i ≡ on old i || leb from i && ltb i k && f i

pub marking_start : (f : ℕ → Bool) (from past : ℕ) (old : List ℕ) → from ≤ past → Marking f from past old old from
marking_start f from past old h = record {
  kept = refl;
  behind = omega arith;
  within = h;
  each = λ i. go i (ltb i from) refl;
}
  where
    go : (i : ℕ) (t : Bool) → ltb i from ≡ t → on old i ≡ on old i || leb from i && ltb i from && f i
    go i true e = sym (rw (lt-leb from i (ltb-true i from e)) (or_false (on old i)))
    go i false e = sym (rw (e, and_no (leb from i)) (or_false (on old i)))

module _ (f : ℕ → Bool) (from past : ℕ) (old m : List ℕ) (k : ℕ) (M : Marking f from past old m k) where
  pub marking_more : (v : ℕ) (t : Bool) → k < past → past ≤ 32 → length old ≡ 32 → t ≡ f k
      → eqb v 1 ≡ eqb (get_or m k 0) 1 || t → Marking f from past old (set m k v) (k + 1)
  unfolding on
  marking_more v t h w z e g = record {
    kept = length-set m k v ∙ M.kept;
    behind = omega (arith, M.behind);
    within = omega arith;
    each = λ i. go i (eqb i k) refl;
  }
    where
      l : k < length m
      l = omega (arith, M.kept)

      same : eqb (get_or (set m k v) k 0) 1 ≡ eqb (get_or old k 0) 1 || leb from k && ltb k (k + 1) && f k
      same =
          rw (
            get_or-set_same m k v 0 l,
            g,
            M.each k,
            le-leb from k M.behind,
            le-ltb k k (omega arith),
            lt-ltb k (k + 1) (omega arith),
            e,
            or_false (eqb (get_or old k 0) 1),
          )
          refl

      later : (i : ℕ) → (i ≡ k → ⊥) → ltb i k ≡ ltb i (k + 1)
      later i d = go (ltb i k) refl
        where
          go : (t : Bool) → ltb i k ≡ t → t ≡ ltb i (k + 1)
          go true x = sym (lt-ltb i (k + 1) (let y = ltb-true i k x in omega arith))
          go false x = sym (le-ltb i (k + 1) (let y = ltb-false i k x in omega arith))

      go : (i : ℕ) (u : Bool) → eqb i k ≡ u
          → eqb (get_or (set m k v) i 0) 1 ≡ eqb (get_or old i 0) 1 || leb from i && ltb i (k + 1) && f i
      go i true x = rw (eqb-true i k x) same
      go i false x =
          let d = eqb-false i k x in
          ap (λ n. eqb n 1) (get_or-set_other m k i v 0 d) ∙ M.each i
          ∙ ap (λ z. eqb (get_or old i 0) 1 || leb from i && z && f i) (later i d)

  pub marking_end : past ≤ k → MarkedIn f from past old m
  marking_end h = record { each = λ i. rw (sym end) (M.each i) }
    where
      end : k ≡ past
      end = omega (arith, M.within)

-- the numbers, one after the other
module _ (f : ℕ → Bool) (old : List ℕ) where
  pub numbers_start : Marking f 5 19 old old 5
  numbers_start = marking_start f 5 19 old (omega arith)

  pub numbers_more : (m : List ℕ) (k : ℕ) → Marking f 5 19 old m k → (v : ℕ) (t : Bool) → k < 19 → length old ≡ 32
      → t ≡ f k → eqb v 1 ≡ eqb (get_or m k 0) 1 || t → Marking f 5 19 old (set m k v) (k + 1)
  numbers_more m k M v t h z e g = marking_more f 5 19 old m k M v t h (omega arith) z e g

-- the lines from one on up to k are unmarked
pub record Clearing (from past : ℕ) (old m : List ℕ) (k : ℕ) : Type 0 where
  pub kept : length m ≡ length old
  pub behind : from ≤ k
  pub within : k ≤ past
  pub each : (i : ℕ) → from ≤ i → i < k → on m i ≡ false

pub clearing_start : (from past : ℕ) (old : List ℕ) → from ≤ past → Clearing from past old old from
clearing_start from past old h =
    record { kept = refl; behind = omega arith; within = h; each = λ i g l. absurd (omega arith) }

module _ (from past : ℕ) (old m : List ℕ) (k : ℕ) (C : Clearing from past old m k) where
  pub clearing_more : k < past → past ≤ 32 → length old ≡ 32 → Clearing from past old (set m k 0) (k + 1)
  unfolding on
  clearing_more h w z = record {
    kept = length-set m k 0 ∙ C.kept;
    behind = omega (arith, C.behind);
    within = omega arith;
    each = λ i g l. go i g l (eqb i k) refl;
  }
    where
      go : (i : ℕ) → from ≤ i → i < k + 1 → (t : Bool) → eqb i k ≡ t → eqb (get_or (set m k 0) i 0) 1 ≡ false
      go i g l true e = rw (eqb-true i k e, get_or-set_same m k 0 0 (omega (arith, C.kept))) refl
      go i g l false e =
          let d = eqb-false i k e in
          ap (λ n. eqb n 1) (get_or-set_other m k i 0 0 d) ∙ C.each i g (omega arith)

  pub clearing_end : past ≤ k → Cleared from past m
  clearing_end h = record { each = λ i g l. C.each i g (omega arith) }

-- marks added
pub marking_added : (l : List ℕ) (from past : ℕ) (old m : List ℕ) (k : ℕ) → Marking (on l) from past old m k → (v : ℕ)
    → k < past → past ≤ 32 → length old ≡ 32 → eqb v 1 ≡ eqb (get_or m k 0) 1 || eqb (get_or l k 0) 1
    → Marking (on l) from past old (set m k v) (k + 1)
unfolding on
marking_added l from past old m k M v h w z g =
    marking_more (on l) from past old m k M v (eqb (get_or l k 0) 1) h w z refl g

-- a byte past the end
pub byte_past : (s : List ℕ) (i : ℕ) → length s ≤ i → 0 ≡ get_or s i 0
byte_past [] i h = refl
byte_past (b ∷ s) zero h = absurd (omega arith)
byte_past (b ∷ s) (suc i) h = byte_past s i (omega arith)

pub long_past : (s : List ℕ) (j b c r : ℕ) → j < length s → length s - j ≤ 2 → r ≡ long_of b c 0
    → r ≡ long_of b c (get_or s (j + 2) 0)
long_past s j b c r h g e = e ∙ ap (λ d. long_of b c d) (byte_past s (j + 2) (omega arith))

-- one line, at a place
module _ (s afters : List ℕ) (j k : ℕ) (t : Bool) (e : t ≡ begins (line_at k) (drop j s)) where
  pub stands_not : not t ≡ true → false ≡ stands_at s j afters k
  stands_not h = sym (rw (← e, not-true t h) refl)

  pub stands_room : (w : ℕ) → not t ≡ false → k < 32 → w ≡ width_of k → j + w ≤ length s
  stands_room w h l g = omega (arith, room (line_at k) s j t e h, line_length k l, some (line_at k) (line_first k l))
    where
      some : (p : List ℕ) → 0 < get_or p 0 0 → 0 < length p
      some [] x = absurd (omega arith)
      some (a ∷ p) x = omega arith

  pub stands_then : (w : ℕ) (r : Bool) → not t ≡ false → w ≡ width_of k → r ≡ any_at afters s (j + w)
      → r ≡ stands_at s j afters k
  stands_then w r h g x = x ∙ ap (λ n. any_at afters s (j + n)) g ∙ sym (rw (← e, not-false t h) refl)

module _ (f : ℕ → Bool) (j : ℕ) (old : List ℕ) where
  kept_if : ((k : ℕ) → k < 32 → k ≡ j → on old k ≡ on old k || f k) → MarkedOne f j old old
  kept_if y = record { each = λ k h. go k h (eqb k j) refl }
    where
      go : (k : ℕ) → k < 32 → (u : Bool) → eqb k j ≡ u → on old k ≡ on old k || u && f k
      go k h true x = y k h (eqb-true k j x)
      go k h false x = sym (or_false (on old k))

  pub one_none : 32 ≤ j → MarkedOne f j old old
  one_none h = kept_if (λ k g e. absurd (omega arith))

  pub one_marked : get_or old j 0 ≡ 1 → MarkedOne f j old old
  unfolding on
  one_marked h = kept_if (λ k g e. rw (e, h) refl)

  pub one_absent : (t : Bool) → t ≡ f j → not t ≡ true → MarkedOne f j old old
  one_absent t e h =
      kept_if (λ k g x. sym (ap (λ y. on old k || y) (ap f x ∙ sym e ∙ not-true t h) ∙ or_false (on old k)))

  pub one_more : (t : Bool) → j < 32 → length old ≡ 32 → t ≡ f j → not t ≡ false → MarkedOne f j old (set old j 1)
  unfolding on
  one_more t h l e g = record { each = λ k _. go k (eqb k j) refl }
    where
      go : (k : ℕ) (u : Bool) → eqb k j ≡ u → eqb (get_or (set old j 1) k 0) 1 ≡ eqb (get_or old k 0) 1 || u && f k
      go k true x =
          rw (eqb-true k j x, get_or-set_same old j 1 0 (omega (arith, l)), ← e, not-false t g)
          (sym (or_comm (eqb (get_or old j 0) 1) true))
      go k false x =
          ap (λ n. eqb n 1) (get_or-set_other old j k 1 0 (eqb-false k j x)) ∙ sym (or_false (eqb (get_or old k 0) 1))

-- the lines that stand at a place
begun_byte : (p t : List ℕ) (i : ℕ) → 0 < get_or p i 0 → begins p t ≡ true → get_or p i 0 ≡ get_or t i 0
begun_byte [] t i h e = absurd (omega arith)
begun_byte (a ∷ p) [] i h e = false_true e
begun_byte (a ∷ p) (b ∷ t) zero h e = eqb-true a b (and_true e).0
begun_byte (a ∷ p) (b ∷ t) (suc i) h e = begun_byte p t i h (and_true {x = eqb a b} e).1

nothing_new : (f : ℕ → Bool) (m : List ℕ) → ((k : ℕ) → k < 32 → f k ≡ false) → Marked f m m
nothing_new f m none = record { each = λ k g. sym (ap (λ x. on m k || x) (none k g) ∙ or_false (on m k)) }

module _ (s afters : List ℕ) (j : ℕ) where
  byte : (k : ℕ) → stands_at s j afters k ≡ true → (i : ℕ) → 0 < get_or (line_at k) i 0
      → get_or (line_at k) i 0 ≡ get_or s (j + i) 0
  byte k x i h = begun_byte (line_at k) (drop j s) i h (and_true x).0 ∙ get_or-drop j s i 0

  first_stood : (k : ℕ) → k < 32 → stands_at s j afters k ≡ true → get_or (line_at k) 0 0 ≡ get_or s j 0
  first_stood k h x = byte k x 0 (line_first k h) ∙ ap (λ n. get_or s n 0) (add-zero j)

  past_end : length s ≤ j → (k : ℕ) → k < 32 → stands_at s j afters k ≡ false
  past_end h k g = rw (drop_of_length-le s h, empty (line_at k) (line_first k g)) refl
    where
      empty : (p : List ℕ) → 0 < get_or p 0 0 → begins p [] ≡ false
      empty [] x = absurd (omega arith)
      empty (a ∷ p) x = refl

  pub nothing_stands : (m : List ℕ) → length s ≤ j → Marked (stands_at s j afters) m m
  nothing_stands m h = nothing_new (stands_at s j afters) m (past_end h)

  pub none_stood : (c a : ℕ) (m : List ℕ) → c ≡ get_or s (j + 1) 0 → a ≡ short_of (get_or s j 0) c → a ≡ 32
      → Marked (stands_at s j afters) m m
  none_stood c a m e ea h = nothing_new (stands_at s j afters) m (λ k g. none k g (stands_at s j afters k) refl)
    where
      none : (k : ℕ) → k < 32 → (t : Bool) → stands_at s j afters k ≡ t → t ≡ false
      none k g false x = refl
      none k g true x =
          absurd (let w =
          short_line k (get_or (line_at k) 0 0) (get_or (line_at k) 1 0) (get_or (line_at k) 2 0) (get_or s j 0)
          (get_or s (j + 1) 0) (kind k g) (first_stood k g x) (byte k x 1) in
          let v : 32 ≡ short_of (get_or s j 0) (get_or s (j + 1) 0) = sym h ∙ ea
          ∙ ap (λ x. short_of (get_or s j 0) x) e in
          omega (arith, w, v))

  pub all_stood : (c a l : ℕ) (m₀ m₁ m₂ : List ℕ) → c ≡ get_or s (j + 1) 0 → a ≡ short_of (get_or s j 0) c
      → l ≡ long_of (get_or s j 0) c (get_or s (j + 2) 0) → MarkedOne (stands_at s j afters) a m₀ m₁
      → MarkedOne (stands_at s j afters) l m₁ m₂ → Marked (stands_at s j afters) m₀ m₂
  all_stood c a l m₀ m₁ m₂ e ea el A L = record {
    each = λ k h.
        L.each k h ∙ ap (λ x. x || eqb k l && stands_at s j afters k) (A.each k h)
        ∙ go (on m₀ k) k h (stands_at s j afters k) refl;
  }
    where
      which : (k : ℕ) → k < 32 → stands_at s j afters k ≡ true → (k ≡ a) ⊎ (k ≡ l)
      which k h x =
          rw (ea, el, e)
          (either_line k (get_or (line_at k) 0 0) (get_or (line_at k) 1 0) (get_or (line_at k) 2 0) (get_or s j 0)
          (get_or s (j + 1) 0) (get_or s (j + 2) 0) (kind k h) (first_stood k h x) (byte k x 1) (byte k x 2))

      go : (o : Bool) (k : ℕ) → k < 32 → (t : Bool) → stands_at s j afters k ≡ t
          → o || eqb k a && t || eqb k l && t ≡ o || t
      go true k h t x = refl
      go false k h false x = rw (and_no (eqb k a), and_no (eqb k l)) refl
      go false k h true x =
          ⊎_elim (λ e. rw (eq-eqb k a e) refl)
          (λ e. rw (eq-eqb k l e) (or_comm (eqb k a && true) true)) (which k h x)

-- the lines that stand behind another text at a place
module _ (s before afters : List ℕ) (i : ℕ) (t : Bool) (e : t ≡ begins before (drop i s)) where
  pub place_none : (m : List ℕ) → not t ≡ true → Marked (row_at s before afters i) m m
  place_none m h = nothing_new (row_at s before afters i) m (λ k g. rw (← e, not-true t h) refl)

  pub place_here : (old new : List ℕ) → not t ≡ false → Marked (stands_at s (i + length before) afters) old new
      → Marked (row_at s before afters i) old new
  place_here old new h M =
      record { each = λ k g. M.each k g ∙ ap (λ x. on old k || x) (sym (rw (← e, not-false t h) refl)) }

-- a row, place by place
any_and : (x : Bool) (g : List ℕ → Bool) (l : List (List ℕ)) → any (λ a. x && g a) l ≡ x && any g l
any_and true g l = refl
any_and false g l = any_none l

and_assoc : (x y z : Bool) → x && y && z ≡ x && (y && z)
and_assoc true y z = refl
and_assoc false y z = refl

pub row_here : (s before afters : List ℕ) (i k : ℕ) → k < 32
    → any (λ a. begins (before ++ line_at k ++ a) (drop i s)) (patterns afters) ≡ row_at s before afters i k
row_here s before afters i k h =
    any_same (λ a. begins (before ++ line_at k ++ a) (drop i s)) (λ a. x && begins a (drop (j + length (line_at k)) s))
    (λ a. parts before (line_at k) a s i) (patterns afters)
    ∙ any_and x (λ a. begins a (drop (j + length (line_at k)) s)) (patterns afters)
    ∙ and_assoc (begins before (drop i s)) (begins (line_at k) (drop j s)) (any_at afters s (j + length (line_at k)))
    ∙ ap (λ n. begins before (drop i s) && (begins (line_at k) (drop j s) && any_at afters s (j + n))) (line_length k h)
  where
    j : ℕ
    j = i + length before

    x : Bool
    x = begins before (drop i s) && begins (line_at k) (drop j s)

-- no line stands behind `before` at i where no byte does that its name may begin with
abbrev NoName : List ℕ → List ℕ → List ℕ → ℕ → Type 0
NoName before first s i = begins before (drop i s) ≡ true → i + length before < length s
    → get_or first 0 0 ≤ get_or s (i + length before) 0 → get_or s (i + length before) 0 ≤ get_or first 1 255 → ⊥

row_none : (s before first afters : List ℕ) (i k : ℕ) → k < 32 → NoName before first s i → Front first k
    → row_at s before afters i k ≡ false
row_none s before first afters i k l e F = go (begins before (drop i s)) refl
  where
    j : ℕ
    j = i + length before

    inside : stands_at s j afters k ≡ true → (t : Bool) → ltb j (length s) ≡ t → j < length s
    inside x true y = ltb-true j (length s) y
    inside x false y =
        false_true (sym (past_end s afters j (ltb-false j (length s) y) k l) ∙ x)

    none : begins before (drop i s) ≡ true → (t : Bool) → stands_at s j afters k ≡ t → t ≡ false
    none b false x = refl
    none b true x =
        let f = first_stood s afters j k l x in
        absurd (e b (inside x (ltb j (length s)) refl) (omega (arith, f, F.low)) (omega (arith, f, F.high)))

    go : (x : Bool) → begins before (drop i s) ≡ x → x && stands_at s j afters k ≡ false
    go false y = refl
    go true y = none y (stands_at s j afters k) refl

-- the lines of a row that stands before i are marked, those whose names begin with a text
pub record Scanned (s before first afters old m : List ℕ) (i : ℕ) : Type 0 where
  pub kept : length m ≡ length old
  pub within : i ≤ length s
  pub each : (k : ℕ) → k < 32 → Front first k
      → on old k || row s before afters k ≡ on m k || row (drop i s) before afters k

scanned_start : (s before first afters old : List ℕ) → Scanned s before first afters old old 0
scanned_start s before first afters old = record { kept = refl; within = omega arith; each = λ k h p. refl }

row_step : (s before afters : List ℕ) (i k : ℕ) → i < length s → k < 32
    → row (drop i s) before afters k ≡ row_at s before afters i k || row (drop (i + 1) s) before afters k
row_step s before afters i k h g =
    any_same (λ a. contains (before ++ line_at k ++ a) (drop i s))
    (λ a. begins (before ++ line_at k ++ a) (drop i s) || contains (before ++ line_at k ++ a) (drop (i + 1) s))
    (λ a. one (before ++ line_at k ++ a)) (patterns afters)
    ∙ any_or (λ a. begins (before ++ line_at k ++ a) (drop i s))
    (λ a. contains (before ++ line_at k ++ a) (drop (i + 1) s)) (patterns afters)
    ∙ ap (λ x. x || row (drop (i + 1) s) before afters k) (row_here s before afters i k g)
  where
    one : (p : List ℕ) → contains p (drop i s) ≡ begins p (drop i s) || contains p (drop (i + 1) s)
    one p = rw (add-one i, drop-cons s i 0) refl

module _ (s before first afters old m : List ℕ) (i : ℕ) (S : Scanned s before first afters old m i) where
  scanned_more : (new : List ℕ) → i < length s → length new ≡ length m → Marked (row_at s before afters i) m new
      → Scanned s before first afters old new (i + 1)
  scanned_more new h l M = record {
    kept = l ∙ S.kept;
    within = omega arith;
    each = λ k g p.
        S.each k g p ∙ ap (λ x. on m k || x) (row_step s before afters i k h g)
        ∙ sym (or_assoc (on m k) (row_at s before afters i k) (row (drop (i + 1) s) before afters k))
        ∙ ap (λ x. x || row (drop (i + 1) s) before afters k) (sym (M.each k g));
  }

  scanned_on : i < length s → NoName before first s i → Scanned s before first afters old m (i + 1)
  scanned_on h e = record {
    kept = S.kept;
    within = omega arith;
    each = λ k g p.
        S.each k g p ∙ ap (λ x. on m k || x)
        (row_step s before afters i k h g
        ∙ ap (λ x. x || row (drop (i + 1) s) before afters k) (row_none s before first afters i k g e p));
  }

  pub scanned_end : length s ≤ i → MarkedBy first (row s before afters) old m
  scanned_end h =
      record { each = λ k g p. sym (S.each k g p ∙ ap (λ x. on m k || x) (none k g) ∙ or_false (on m k)) }
    where
      empty : (p n q : List ℕ) → 0 < get_or n 0 0 → contains (p ++ n ++ q) [] ≡ false
      empty [] [] q x = absurd (omega arith)
      empty [] (a ∷ n) q x = refl
      empty (b ∷ p) n q x = refl

      none : (k : ℕ) → k < 32 → row (drop i s) before afters k ≡ false
      none k g =
          rw (drop_of_length-le s h)
          (any_same (λ a. contains (before ++ line_at k ++ a) []) (λ a. false)
          (λ a. empty before (line_at k) a (line_first k g)) (patterns afters) ∙ any_none (patterns afters))

-- a row stands nowhere where what stands before the name, and the name's front, don't
module _ (s before first afters old m : List ℕ) where
  over : (i r : ℕ) → SkipsName before first s i r → Scanned s before first afters old m i → (n : ℕ) → i + n ≤ r
      → Scanned s before first afters old m (i + n)
  over i r K S zero h = let e : i + 0 ≡ i = omega arith in rw e S
  over i r K S (suc n) h =
      let e : i + suc n ≡ i + n + 1 = omega arith in
      rw e
      (scanned_on s before first afters old m (i + n) (over i r K S n (omega arith)) (omega (arith, K.within))
      (K.none_here (i + n) (omega arith) (omega arith)))

  scanned_over : (i r : ℕ) → SkipsName before first s i r → Scanned s before first afters old m i
      → Scanned s before first afters old m r
  scanned_over i r K S =
      let e : i + (r - i) ≡ r = omega (arith, K.forward) in
      rw e at (over i r K S (r - i) (omega (arith, K.forward)))

pub scanned_first : (s before first afters old : List ℕ) (r : ℕ) → SkipsName before first s 0 r
    → Scanned s before first afters old old r
scanned_first s before first afters old r K =
    scanned_over s before first afters old old 0 r K (scanned_start s before first afters old)

pub scanned_next : (s before first afters old m : List ℕ) (i : ℕ) → Scanned s before first afters old m i
    → (new : List ℕ) → i < length s → length new ≡ length m → Marked (row_at s before afters i) m new → (r : ℕ)
    → SkipsName before first s (i + 1) r → Scanned s before first afters old new r
scanned_next s before first afters old m i S new h l M r K =
    scanned_over s before first afters old new (i + 1) r K (scanned_more s before first afters old m i S new h l M)

-- a family
pub front_length : (h : ℕ) (f : List ℕ) → h < length f → h ≡ length (take h f)
front_length h f g = sym (length-take-le h f (omega arith))

pub family_none : (s first f m : List ℕ) (h : ℕ) → h ≡ 0 + up_to 0x23 (drop 0 f) → length f ≤ h
    → MarkedBy first (family_of s f) m m
family_none s first f m h e g = record { each = λ k l p. N.each k l }
  where
    N : Marked (family_of s f) m m
    N = nothing_new (family_of s f) m (λ k _. rw (le-ltb (up_to 0x23 f) (length f) (omega (arith, e))) refl)

pub family_row : (s first f old new : List ℕ) (h : ℕ) → h ≡ 0 + up_to 0x23 (drop 0 f) → h < length f
    → MarkedBy first (row s (take h f) (take (length f - (h + 1)) (drop (h + 1) f))) old new
    → MarkedBy first (family_of s f) old new
family_row s first f old new h e g M = record { each = λ k l p. M.each k l p ∙ ap (λ x. on old k || x) (is k) }
  where
    at : h ≡ up_to 0x23 f
    at = omega (arith, e)

    is : (k : ℕ) → row s (take h f) (take (length f - (h + 1)) (drop (h + 1) f)) k ≡ family_of s f k
    is k =
        ap (λ l. row s (take h f) l k) (tail_whole (h + 1) f)
        ∙ sym (rw (← at, lt-ltb h (length f) g) refl)

-- the families up to `at` are marked; the next one ends at e
pub record Tabled (table first s old m : List ℕ) (at e : ℕ) : Type 0 where
  pub kept : length m ≡ length old
  pub piece : Piece 0x3b table at e
  pub each : (k : ℕ) → k < 32 → Front first k
      → on old k || table_of table s k ≡ on m k || table_of (drop at table) s k

pub tabled_start : (table first s old : List ℕ) (e : ℕ) → e ≡ 0 + up_to 0x3b (drop 0 table)
    → Tabled table first s old old 0 e
tabled_start table first s old e h =
    record { kept = refl; piece = piece_at 0x3b table 0 e (omega arith) h; each = λ k g p. refl }

module _ (table first s old m : List ℕ) (at e : ℕ) (T : Tabled table first s old m at e) (new : List ℕ) where
  pub tabled_more : (n : ℕ) → e < length table → length new ≡ length m
      → MarkedBy first (family_of s (take (e - at) (drop at table))) m new
      → n ≡ e + 1 + up_to 0x3b (drop (e + 1) table) → Tabled table first s old new (e + 1) n
  tabled_more n h l M g = record {
    kept = l ∙ T.kept;
    piece = piece_at 0x3b table (e + 1) n (omega arith) g;
    each = λ k w p.
        T.each k w p
        ∙ ap (λ p. on m k || any (λ f. family_of s f k) p) (piece_then 0x3b table at e T.piece h)
        ∙ sym (or_assoc (on m k) (family_of s (take (e - at) (drop at table)) k) (table_of (drop (e + 1) table) s k))
        ∙ ap (λ x. x || table_of (drop (e + 1) table) s k) (sym (M.each k w p));
  }

  pub tabled_end : length table ≤ e → MarkedBy first (family_of s (take (length table - at) (drop at table))) m new
      → MarkedBy first (table_of table s) old new
  tabled_end h M = record {
    each = λ k w p.
        M.each k w p ∙ sym
        (T.each k w p
        ∙ ap (λ p. on m k || any (λ f. family_of s f k) p) (piece_last 0x3b table at e T.piece h)
        ∙ ap (λ x. on m k || x) (or_false (family_of s (take (length table - at) (drop at table)) k)));
  }
