-- Whether a text is about a line: each return of the functions of lines.rt, over plain variables.
use Rattle.std.specs.Prelude.{Option, Some, None}
use mathlib.Core.Path.{◌≡◌, refl, sym, ap, ◌∙◌}
use mathlib.Core.List.{List, [], ◌∷◌, ◌++◌}
use mathlib.Core.Option.{Option as LogicOption, none, some}
use mathlib.Core.Bool.{Bool, true, false, cond, not, ◌&&◌, ◌||◌}
use Prim.Native.Nat.{ℕ, suc, ◌+◌, ◌-◌, ◌≤◌, ◌<◌}
use native.Mathlib.Omega.{arith}
use lib.Dec.{leb}
use lib.ListN.{length, take, drop, replicate, length-append, length-drop}
use lib.Seq.{take_all, length-take-le}
use borrow.Author.Tests.{le-leb, lt-leb, leb-true, leb-false, not-true, not-false}
use Rattle.basics.specs.Laws.Options.{none_some}
use Rattle.basics.specs.Lists.{any, filter, is_empty}
use Rattle.basics.specs.Texts.{same}
use Rattle.alerts.specs.Text.{text, begins, contains, later, find}
use Rattle.alerts.specs.Applies.{letters, numerals, trams, names, letter_rows, names_number, names_tram}
use Rattle.alerts.specs.Applies.{commercial_lines_in_text, any_marker, window, marker_near}
use Rattle.alerts.specs.Promises.Reduced.{advice_markers, primary, secondary, text_ok, road}
use Rattle.alerts_patterns.specs.Promises.Tables.{up_to, name_filled, patterns, any_in}
use Rattle.alerts_patterns.specs.Promises.Occurrence.{found_of}
use Rattle.alerts_patterns.specs.Laws.Patterns.{filled_none, filled_here, tail_whole}
use Rattle.alerts_lines.specs.Promises.Lines.{all_lines, IsLine, mentions, named_of, subject_of, other_subject}
use Rattle.alerts_lines.specs.Promises.Marks.{Lines, Marked, any_from, picks}
use Rattle.alerts_lines.specs.declared.Pick.TheVariants.{Named, Own, Another, Subject}
use Rattle.alerts_lines.specs.Laws.Choosing.{named_lines, own_lines, other_lines, subject_lines}
use Rattle.alerts_text.specs.Promises.Tables.{lesser, near_marker, near_filled}
use Rattle.alerts_text.specs.Promises.Marked.{ok_for, not_advised, Others, Settles, Opened, MarkedOk}
use Rattle.alerts_text.specs.declared.lines.Settled.{Settled}
use Rattle.alerts_text.specs.declared.lines.Settled.TheVariants.{Right, Wrong, Open}
use Rattle.basics.specs.Laws.Lists.{any_append, any_same, any_implies}
use Rattle.basics.specs.Laws.Texts.{same_true}
use Rattle.basics.specs.Laws.Booleans.{and_true, and_yes, and_no, or_false, implied_false}
use Rattle.alerts.proofs.Laws.Text.{begins_true}

-- the lesser of two numbers
pub ahead_end : (i end : ℕ) → i ≤ end → end - i < 24 → end ≡ lesser (i + 24) end
ahead_end i end h g = sym (rw (lt-leb (i + 24) end (omega arith)) refl)

pub ahead_on : (i end : ℕ) → i ≤ end → 24 ≤ end - i → i + 24 ≡ lesser (i + 24) end
ahead_on i end h g = sym (rw (le-leb (i + 24) end (omega arith)) refl)

-- the window
pub lesser_within : (m n k : ℕ) → k ≤ m → k ≤ n → (k ≤ lesser m n) × (lesser m n ≤ n)
lesser_within m n k h g = go (leb m n) refl
  where
    go : (t : Bool) → leb m n ≡ t → (k ≤ cond t m n) × (cond t m n ≤ n)
    go true e = (h, leb-true m n e)
    go false e = (g, omega arith)

window_is : (s : List ℕ) (i n : ℕ) → i + n ≤ length s
    → take (lesser (i + n + 24) (length s) - (i - 48)) (drop (i - 48) s) ≡ window s i n
window_is s i n h = go (leb (i + n + 24) (length s)) refl
  where
    go : (t : Bool) → leb (i + n + 24) (length s) ≡ t
        → take (cond t (i + n + 24) (length s) - (i - 48)) (drop (i - 48) s) ≡ window s i n
    go true e = refl
    go false e =
        tail_whole (i - 48) s
        ∙ sym (take_all (i + n + 24 - (i - 48)) (drop (i - 48) s)
        (omega (arith, length-drop (i - 48) s, leb-false (i + n + 24) (length s) e)))

pub window_marked : (s : List ℕ) (i n start e : ℕ) (t : Bool) → i + n ≤ length s → start ≡ i - 48
    → e ≡ lesser (i + n + 24) (length s)
    → t ≡ any_marker advice_markers (take (e - start) (drop start s)) → t ≡ any_marker advice_markers (window s i n)
window_marked s i n start e t h p q x =
    let part : take (e - start) (drop start s) ≡ window s i n = rw (p, q) (window_is s i n h) in
    x ∙ ap (any_marker advice_markers) part

-- how long a filled pattern is
pub unfilled_length : (name p : List ℕ) (h : ℕ) → h ≡ 0 + up_to 0x23 (drop 0 p) → length p ≤ h
    → length p ≡ length (name_filled name p)
unfilled_length name p h e g = sym (ap length (filled_none name p (omega (arith, e))))

pub filled_length : (name p : List ℕ) (h : ℕ) → h ≡ 0 + up_to 0x23 (drop 0 p) → h < length p
    → length name + (length p - 1) ≡ length (name_filled name p)
filled_length name p h e g =
    let here : up_to 0x23 p < length p = omega (arith, e) in
    omega (
      arith,
      ap length (filled_here name p here),
      length-append (take (up_to 0x23 p) p ++ name) (drop (suc (up_to 0x23 p)) p),
      length-append (take (up_to 0x23 p) p) name,
      length-take-le (up_to 0x23 p) p (omega arith),
      length-drop (suc (up_to 0x23 p)) p,
    )

-- what is found has room
find_room : (p s : List ℕ) (i : ℕ) → find p s ≡ some i → i + length p ≤ length s
find_room [] [] i e = omega (arith, ap size e)
  where
    size : LogicOption ℕ → ℕ
    size none = 0
    size (some k) = k
find_room (a ∷ p) [] i e = none_some e
find_room p (b ∷ s) i e = go (begins p (b ∷ s)) refl (find p s) refl e (find_room p s)
  where
    unsome : {x y : ℕ} → some x ≡ some y → x ≡ y
    unsome e = cc

    go : (t : Bool) → begins p (b ∷ s) ≡ t → (o : LogicOption ℕ) → find p s ≡ o → cond t (some 0) (later o) ≡ some i
        → ((k : ℕ) → find p s ≡ some k → k + length p ≤ length s) → i + length p ≤ suc (length s)
    go true h o eo e ih =
        let (y, g) = begins_true p (b ∷ s) h in
        omega (arith, unsome e, length-append p y, ap length g)
    go false h none eo e ih = none_some e
    go false h (some k) eo e ih = omega (arith, unsome e, ih k eo)

un_at : {x y : ℕ} → Some x ≡ Some y → x ≡ y
un_at e = cc

pub found_room : (p s : List ℕ) (i n : ℕ) (r : Option ℕ) → r ≡ found_of (find p s) → r ≡ Some i → n ≡ length p
    → i + n ≤ length s
found_room p s i n r e h g = rw g (go (find p s) refl (sym e ∙ h))
  where
    go : (o : LogicOption ℕ) → find p s ≡ o → found_of o ≡ Some i → i + length p ≤ length s
    go none eo x = absurd (let z : ◌≡◌ {A = ℕ} 0 1 = cc in omega arith)
    go (some k) eo x = omega (arith, find_room p s k eo, un_at x)

pub near_found : (p s : List ℕ) (i n : ℕ) (r : Option ℕ) (t : Bool) → r ≡ found_of (find p s) → r ≡ Some i
    → n ≡ length p
    → t ≡ any_marker advice_markers (window s i n) → t ≡ near_marker s p
near_found p s i n r t e h g x = x ∙ go (find p s) (sym e ∙ h)
  where
    go : (o : LogicOption ℕ) → found_of o ≡ Some i
        → any_marker advice_markers (window s i n) ≡ marker_near advice_markers s p o
    go none x = absurd (let z : ◌≡◌ {A = ℕ} 0 1 = cc in omega arith)
    go (some k) x = rw (un_at x, g) refl

pub near_nowhere : (p s : List ℕ) (r : Option ℕ) → r ≡ found_of (find p s) → r ≡ None → false ≡ near_marker s p
near_nowhere p s r e h = go (find p s) (sym e ∙ h)
  where
    go : (o : LogicOption ℕ) → found_of o ≡ None → false ≡ marker_near advice_markers s p o
    go none x = refl
    go (some k) x = absurd (let z : ◌≡◌ {A = ℕ} 0 1 = cc in omega arith)

-- advice
pub secondary_near : (s n : List ℕ) (t : Bool)
    → t ≡ any (near_filled s n) (patterns (text "LIGNE #|LIGNES #|METRO #| ET #| # | #.")) → t ≡ true
    → true ≡ secondary s n
secondary_near s n t e h =
    ap (λ x. x || any_marker advice_markers s && (contains (text "RER ") s || contains (text "TRAVAUX SUR") s))
    (sym (sym e ∙ h))

module _ (s n : List ℕ) (t v : Bool)
    (e : t ≡ any (near_filled s n) (patterns (text "LIGNE #|LIGNES #|METRO #| ET #| # | #."))) (h : t ≡ false)
    (k : v ≡ any_in (text "RER |TRAVAUX SUR") n s) where
  elsewhere : secondary s n ≡ any_marker advice_markers s && v
  elsewhere =
      ap (λ x. x || any_marker advice_markers s && (contains (text "RER ") s || contains (text "TRAVAUX SUR") s))
      (sym e ∙ h)
      ∙ ap (λ x. any_marker advice_markers s && (contains (text "RER ") s || x))
      (sym (or_false (contains (text "TRAVAUX SUR") s)))
      ∙ ap (λ x. any_marker advice_markers s && x) (sym k)

  pub secondary_not : not v ≡ true → false ≡ secondary s n
  secondary_not g = sym (elsewhere ∙ rw (not-true v g) (and_no (any_marker advice_markers s)))

  pub secondary_all : (u : Bool) → not v ≡ false → u ≡ any_marker advice_markers s → u ≡ secondary s n
  secondary_all u g f = f ∙ sym (elsewhere ∙ rw (not-false v g) (and_yes (any_marker advice_markers s)))

-- the lines of a text, asked as one list
any_filter : (q p : List ℕ → Bool) (l : List (List ℕ)) → any q (filter p l) ≡ any (λ m. p m && q m) l
any_filter q p [] = refl
any_filter q p (m ∷ l) = go (p m) (any_filter q p l)
  where
    go : (t : Bool) → any q (filter p l) ≡ any (λ m. p m && q m) l
        → any q (cond t (m ∷ filter p l) (filter p l)) ≡ t && q m || any (λ m. p m && q m) l
    go true ih = ap (λ x. q m || x) ih
    go false ih = ih

some_of : {A : Type 0} (l : List A) → is_empty l ≡ not (any (λ a. true) l)
some_of [] = refl
some_of (a ∷ l) = refl

module _ (s : List ℕ) (q : List ℕ → Bool) where
  by_letter : any (λ m. names letter_rows s m && q m) letters ≡ any (λ m. mentions s m && q m) letters
  by_letter = refl

  by_number : any (λ m. names_number s m && q m) numerals ≡ any (λ m. mentions s m && q m) numerals
  by_number = refl

  by_tram : any (λ m. names_tram s m && q m) trams ≡ any (λ m. mentions s m && q m) trams
  by_tram = refl

joined : (f p q r : List ℕ → Bool) (k l m : List (List ℕ)) → any f (filter p k ++ filter q l ++ filter r m)
    ≡ any (λ x. p x && f x) k || any (λ x. q x && f x) l || any (λ x. r x && f x) m
joined f p q r k l m =
    any_append f (filter p k ++ filter q l) (filter r m)
    ∙ rw (any_append f (filter p k) (filter q l), any_filter f p k, any_filter f q l, any_filter f r m) refl

separate : (f : List ℕ → Bool) (k l m : List (List ℕ)) → any f (k ++ l ++ m) ≡ any f k || any f l || any f m
separate f k l m = any_append f (k ++ l) m ∙ ap (λ x. x || any f m) (any_append f k l)

lines_any : (s : List ℕ) (q : List ℕ → Bool)
    → any q (commercial_lines_in_text s) ≡ any (λ m. mentions s m && q m) all_lines
lines_any s q =
    joined q (names letter_rows s) (names_number s) (names_tram s) letters numerals trams
    ∙ rw (by_letter s q, by_number s q, by_tram s q) (sym (separate (λ m. mentions s m && q m) letters numerals trams))

own_line : (s u : List ℕ) (l : List (List ℕ))
    → any (λ m. mentions s m && same m u) l ≡ mentions s u && any (λ m. same m u) l
own_line s u [] = sym (and_no (mentions s u))
own_line s u (m ∷ l) = go (same m u) refl (mentions s u) refl (own_line s u l)
  where
    go : (e : Bool) → same m u ≡ e → (t : Bool) → mentions s u ≡ t
        → any (λ m. mentions s m && same m u) l ≡ mentions s u && any (λ m. same m u) l
        → mentions s m && e || any (λ m. mentions s m && same m u) l ≡ t && (e || any (λ m. same m u) l)
    go true h t g ih = rw (ih, same_true m u h, g) (both t)
      where
        both : (t : Bool) → t && true || t && any (λ m. same m u) l ≡ t && true
        both true = refl
        both false = refl
    go false h t g ih = rw (ih, g) (drops (mentions s m))
      where
        drops : (x : Bool) → x && false || t && any (λ m. same m u) l ≡ t && any (λ m. same m u) l
        drops true = refl
        drops false = refl

module _ (s u : List ℕ) where
  text_is : text_ok s (commercial_lines_in_text s) u
      ≡ not (any (mentions s) all_lines) || mentions s u && any (λ m. same m u) all_lines
      && not (secondary s u && any (other_subject s u) all_lines)
  text_is =
      rw (
        some_of (commercial_lines_in_text s),
        lines_any s (λ m. true),
        any_same (λ m. mentions s m && true) (mentions s) (λ m. and_yes (mentions s m)) all_lines,
        lines_any s (λ m. same m u),
        own_line s u all_lines,
        lines_any s (λ m. not (same m u) && primary s m),
      )
      refl

  pub text_marked : text_ok s (commercial_lines_in_text s) u
      ≡ not (any (mentions s) all_lines) || any (λ m. mentions s m && same m u) all_lines
      && not (secondary s u && any (other_subject s u) all_lines)
  text_marked =
      text_is ∙ ap
      (λ x. not (any (mentions s) all_lines) || x && not (secondary s u && any (other_subject s u) all_lines))
      (sym (own_line s u all_lines))

-- what the named lines say
module _ (s u named : List ℕ) (own : ℕ) (N : Lines (named_of s) named) (O : IsLine u own) where
  as_named : (n : Bool) → n ≡ any_from 0 32 (picks Named named named own) → any (mentions s) all_lines ≡ n
  as_named n hn = sym (named_lines s u named named own N O n hn)

  as_own : (o : Bool) → o ≡ any_from 0 32 (picks Own named named own)
      → any (λ m. mentions s m && same m u) all_lines ≡ o
  as_own o ho = sym (own_lines s u named named own N O o ho)

  alone : (a : Bool) → a ≡ any_from 0 32 (picks Another named named own) → a ≡ false
      → any (other_subject s u) all_lines ≡ false
  alone a ha h =
      implied_false (any (other_subject s u) all_lines) a
      (λ e. other_lines s u named named own N O a ha
      ∙ any_implies (other_subject s u) (λ m. mentions s m && not (same m u)) weaker all_lines e) h
    where
      weaker : (m : List ℕ) → other_subject s u m ≡ true → mentions s m && not (same m u) ≡ true
      weaker m e =
          let h = and_true {x = mentions s m} e in
          let g = and_true {x = not (same m u)} h.1 in
          rw (h.0, g.0) refl

module _ (named : List ℕ) (own : ℕ) (n : Bool) (hn : n ≡ any_from 0 32 (picks Named named named own)) where
  pub settle_none : not n ≡ true → Settles named own Right
  settle_none h = record { is = λ s {u} N O. text_marked s u ∙ rw (as_named s u named own N O n hn, not-true n h) refl }

  module _ (some : not n ≡ false) (o : Bool) (ho : o ≡ any_from 0 32 (picks Own named named own)) where
    pub settle_unnamed : not o ≡ true → Settles named own Wrong
    settle_unnamed h = record {
      is = λ s {u} N O.
          text_marked s u
          ∙ rw (as_named s u named own N O n hn, not-false n some, as_own s u named own N O o ho, not-true o h) refl;
    }

    open_is : not o ≡ false → (s u : List ℕ) → Lines (named_of s) named → IsLine u own → ok_for s u ≡ not_advised s u
    open_is mine s u N O =
        text_marked s u
        ∙ rw (as_named s u named own N O n hn, not-false n some, as_own s u named own N O o ho, not-false o mine) refl

    module _ (mine : not o ≡ false) (a : Bool) (ha : a ≡ any_from 0 32 (picks Another named named own)) where
      pub settle_alone : not a ≡ true → Settles named own Right
      settle_alone h = record {
        is = λ s {u} N O.
            open_is mine s u N O ∙ rw (alone s u named own N O a ha (not-true a h), and_no (secondary s u)) refl;
      }

      pub settle_open : not a ≡ false → Settles named own Open
      settle_open h = record { is = λ s {u} N O. open_is mine s u N O }

-- whether the text names the line as advice and is about another
module _ (s named u : List ℕ) (own : ℕ) (x : Bool) (hx : x ≡ secondary s u) where
  pub opened_first : not x ≡ true → Opened s named u own true
  opened_first h = record { is = λ N O. sym (rw (← hx, not-true x h) refl) }

  pub opened_last : not x ≡ false → (y : Bool) → Others s named own y → Opened s named u own (not y)
  opened_last h y Y = record { is = λ N O. sym (rw (← hx, not-false x h, ← Y.is N O) refl) }

pub others : (s named subject : List ℕ) (own : ℕ) (r : Bool) → Marked (subject_of s) (replicate 32 0) subject
    → r ≡ any_from 0 32 (picks Subject named subject own) → Others s named own r
others s named subject own r P e = record { is = λ {u} N O. subject_lines s u named subject own N O r P e }

module _ (s named u : List ℕ) (own : ℕ) (O : IsLine u own) (w : Settled) (S : Settles named own w) where
  pub ok_right : w ≡ Right → MarkedOk s named u true
  ok_right e = record { is = λ N. sym (S.is s N O ∙ rw e refl) }

  pub ok_wrong : w ≡ Wrong → MarkedOk s named u false
  ok_wrong e = record { is = λ N. sym (S.is s N O ∙ rw e refl) }

  pub ok_open : w ≡ Open → (r : Bool) → Opened s named u own r → MarkedOk s named u r
  ok_open e r A = record { is = λ N. A.is N O ∙ sym (S.is s N O ∙ rw e refl) }

-- road traffic
module _ (s : List ℕ) (t : Bool) (ht : t ≡ any_in (text "TRAFIC ROUTIER") s s) where
  traffic : t ≡ contains (text "TRAFIC ROUTIER") s
  traffic = ht ∙ or_false (contains (text "TRAFIC ROUTIER") s)

  pub road_named : t ≡ true → true ≡ road s
  road_named h = sym (rw (← traffic, h) refl)

  module _ (not_named : t ≡ false) (u : Bool) (hu : u ≡ any_in (text "ARRET") s s) where
    stop_word : u ≡ contains (text "ARRET") s
    stop_word = hu ∙ or_false (contains (text "ARRET") s)

    pub road_no_stop : not u ≡ true → false ≡ road s
    road_no_stop h = sym (rw (← traffic, not_named, ← stop_word, not-true u h) refl)

    module _ (stopped : not u ≡ false) (v : Bool) (hv : v ≡ any_in (text "DÉPLACÉ|DEPLAC") s s) where
      moved_word : v ≡ contains (text "DÉPLACÉ") s || contains (text "DEPLAC") s
      moved_word = hv ∙ ap (λ x. contains (text "DÉPLACÉ") s || x) (or_false (contains (text "DEPLAC") s))

      pub road_unmoved : not v ≡ true → false ≡ road s
      road_unmoved h =
          sym (rw (← traffic, not_named, ← stop_word, not-false u stopped, ← moved_word, not-true v h) refl)

      pub road_last : not v ≡ false → (w : Bool) → w ≡ any_in (text "CIRCULATION") s s → w ≡ road s
      road_last h w hw =
          hw ∙ or_false (contains (text "CIRCULATION") s)
          ∙ sym (rw (← traffic, not_named, ← stop_word, not-false u stopped, ← moved_word, not-false v h) refl)
