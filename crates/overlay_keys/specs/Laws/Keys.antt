-- Law. The keys of a trip's record, piece by piece.
use Rattle.std.specs.Prelude.{◌≡◌, ◌⊎◌, Bool, true, cond, ◌&&◌, ◌||◌, not, ℕ, zero, suc, ◌+◌, ◌-◌, ◌≤◌, ◌<◌, eqb, take, drop, get_or, Option, Some, None}
use Rattle.std.proofs.Math.Path.{refl, sym, ap}
use Rattle.std.proofs.Common.{◌∙◌, inl, inr, arith, drop_of_length-le, take-take, length-take-le}
use mathlib.Core.List.{List, [], ◌∷◌, ◌++◌}
use Rattle.std.proofs.Math.Option.{none, some}
use Rattle.std.proofs.Math.Bool.{false}
use Rattle.std.proofs.Math.ListN.{length}
use borrow.Author.Tests.{le-leb, lt-leb, ne_eqb, eq-eqb}
use Rattle.formats.specs.Readers.{bind}
use Rattle.formats.specs.Number.{number_r}
use Rattle.formats.specs.Class.{Class, printable, in_class, allowed}
use Rattle.basics.specs.Lists.{all, is_empty}
use Rattle.formats.specs.Laws.Law.{found}
use Rattle.basics.specs.Laws.Booleans.{and_no}
use Rattle.basics.specs.Laws.Options.{none_some}
use Rattle.formats.specs.Format.{Format, small, optional, list, ◌&◌, Value, read}
use Rattle.formats.proofs.Numbers.{opened}
use Rattle.formats_check.specs.Promises.Checked.{Number, fine, Fine}
use Rattle.formats_check.specs.Laws.Checked.{Out, Parts, parts, no_parts}
use Rattle.formats_check.specs.Laws.Elements.{no_number, a_number}
use Rattle.formats_check.specs.Laws.Climbing.{Spans, span_key, span_none, span_is, span_forward, span_within}
use Rattle.slices.specs.Laws.Lists.{and_left, and_right}
use Rattle.basics.specs.Texts.{same}
use Rattle.decode.specs.Trip.{Trip, date_of, delay, date, id, number32, time, stop_update, trip}
use Rattle.decode.specs.Key.{direction_text, decimal_of, prefixed, head_of, tail_of, raw_ok, dated_ok, dated_key}
use Rattle.decode.specs.Key.{incomplete_key, key_ok}
use Rattle.overlay_keys.specs.Promises.Piece.{bytes, Inside, Piece}
use Rattle.overlay_keys.specs.Promises.Keys.{route_on, Direction, Route, Head, Tail, Matches, Incomplete, Dated}
use Rattle.overlay_keys.specs.Promises.Keys.{Longer, Keys}
use Rattle.overlay_keys.specs.Laws.Piece.{bytes_join, bytes_length, bytes_none, piece_empty, piece_stop}
use Rattle.overlay_keys.specs.Laws.Piece.{piece_then, piece_not, piece_end, piece_moves, piece_inside}
use Rattle.overlay_keys.specs.Laws.Piece.{moves_stop, moves_none, moves_inside, moves_then}

-- THE DIRECTION in decimal
abbrev Way : Type 0
Way = Unit {0} ⊎ ℕ

abbrev some_number : Out ℕ → Out Way
some_number o = bind o (λ n t. some (inr n, t))

given : (s : List ℕ) (y c : ℕ) → y < length s → c ≡ get_or s y 0 → (c ≡ 0 → ⊥) → {w : Way} {u : List ℕ}
    → read (optional number32) (drop y s) ≡ some (w, u) → some_number (number_r (drop (y + 1) s)) ≡ some (w, u)
given s y c h i z {w} {u} q = go (eqb c 1) (rw (opened s y c h i, ne_eqb c 0 z) at q)
  where
    go : (b : Bool) → cond {A = Out Way} b (some_number (number_r (drop (y + 1) s))) none ≡ some (w, u)
        → some_number (number_r (drop (y + 1) s)) ≡ some (w, u)
    go true q = q
    go false q = none_some q

module _ {s : List ℕ} {y at e : ℕ} where
  pub direction_end : length s ≤ y → Direction s y at e None
  direction_end h = record { moves = moves_stop; on = λ w u q. none_some (sym (opening h) ∙ q) }
    where
      opening : length s ≤ y → read (optional number32) (drop y s) ≡ none
      opening h = rw (drop_of_length-le s h) refl

  module _ {c : ℕ} (h : y < length s) (i : c ≡ get_or s y 0) where
    pub direction_none : c ≡ 0 → Inside s at e → Direction s y at e (Some at)
    direction_none z I =
        record {
          moves = moves_none I;
          on = λ w u q. found (λ (w : Way) u. Piece (direction_text w) s at e (Some at)) (sym opening ∙ q)
              (piece_empty I);
        }
      where
        opening : read (optional number32) (drop y s) ≡ some (inl tt, drop (y + 1) s)
        opening = rw (opened s y c h i, z) refl

  module _ (h : y < length s) (z : get_or s y 0 ≡ 0 → ⊥) {o : Option (ℕ × ℕ)} (N : Number s (y + 1) o) where
    pub direction_bad : o ≡ None → Direction s y at e None
    direction_bad k =
        record {
          moves = moves_stop;
          on = λ w u q. none_some (rw (no_number N k) at (given s y (get_or s y 0) h refl z q));
        }

    pub direction_so : {n p : ℕ} → o ≡ Some (n, p) → {r : Option ℕ} → Piece (decimal_of 10 n) s at e r
        → Direction s y at e r
    direction_so {n} {p} k {r} P =
        record {
          moves = piece_moves P;
          on = λ w u q. found (λ (w : Way) u. Piece (direction_text w) s at e r) (rw (a_number N k).reads at
              (given s y (get_or s y 0) h refl z q)) P;
        }

-- THE ROUTE, with the feed in front
module _ {f s : List ℕ} {x y at e : ℕ} where
  pub route_none : x ≡ y → Inside s at e → Route f s x y at e (Some at)
  route_none h I = record { is = rw (bytes_none s x y (omega arith)) (piece_empty I) }

  module _ (J : Inside s x y) (h : x ≡ y → ⊥) where
    whole : {r : Option ℕ} → Piece (f ++ 58 ∷ bytes s x y) s at e r → Route f s x y at e r
    whole {r} P = record { is = ap_piece (full (bytes s x y) (bytes_length J)) }
      where
        full : (l : List ℕ) → length l ≡ y - x → prefixed f l ≡ f ++ 58 ∷ l
        full [] q = absurd (h (omega (arith, J.forward)))
        full (b ∷ l) q = refl

        ap_piece : prefixed f (bytes s x y) ≡ f ++ 58 ∷ bytes s x y → Piece (prefixed f (bytes s x y)) s at e r
        ap_piece i = rw i P

    module _ {q : Option ℕ} (P : Piece f s at e q) where
      pub route_feed : q ≡ None → Route f s x y at e None
      route_feed i = whole (piece_stop P (58 ∷ bytes s x y) i)

      module _ {m : ℕ} (i : q ≡ Some m) {o : Option ℕ} (Q : Piece (58 ∷ []) s m e o) where
        pub route_colon : o ≡ None → Route f s x y at e None
        route_colon j = whole (piece_then P i (piece_stop Q (bytes s x y) j))

        pub route_so : {n : ℕ} → o ≡ Some n → {r : Option ℕ} → Piece (bytes s x y) s n e r → Route f s x y at e r
        route_so j R = whole (piece_then P i (piece_then Q j R))

pub route_inside : {f s : List ℕ} {x y at e : ℕ} {r : Option ℕ} → Route f s x y at e r → {m : ℕ} → r ≡ Some m → {a : ℕ}
    → Inside s a e → Inside s m e
route_inside R h I = piece_inside R.is h I

-- THE HEAD of the incomplete key
abbrev pub before : List ℕ
before = 35 ∷ 114 ∷ 61 ∷ []

abbrev pub between : List ℕ
between = 38 ∷ 100 ∷ 61 ∷ []

module _ {f s : List ℕ} {x y at e : ℕ} {q : Option ℕ} (P : Piece before s at e q) where
  pub head_mark : q ≡ None → Head f s x y at e None
  head_mark h =
      record {
        moves = moves_stop;
        on = λ w u i.
            piece_stop (piece_stop (piece_stop P (prefixed f (bytes s x y)) h) between refl) (direction_text w) refl;
      }

  module _ {m : ℕ} (h : q ≡ Some m) {o : Option ℕ} (R : Route f s x y m e o) where
    first_two : Piece (before ++ prefixed f (bytes s x y)) s at e o
    first_two = piece_then P h R.is

    pub head_route : o ≡ None → Head f s x y at e None
    head_route i =
        record { moves = moves_stop; on = λ w u j. piece_stop (piece_stop first_two between i) (direction_text w) refl }

    module _ {n : ℕ} (i : o ≡ Some n) {g : Option ℕ} (B : Piece between s n e g) where
      first_three : Piece (before ++ prefixed f (bytes s x y) ++ between) s at e g
      first_three = piece_then first_two i B

      pub head_between : g ≡ None → Head f s x y at e None
      head_between j = record { moves = moves_stop; on = λ w u k. piece_stop first_three (direction_text w) j }

      pub head_so : {p : ℕ} → g ≡ Some p → {r : Option ℕ} → Direction s y p e r → Head f s x y at e r
      head_so j D =
          record {
            moves = moves_then (piece_moves first_three) j D.moves;
            on = λ w u k. piece_then first_three j (D.on w u k);
          }

-- THE TAIL
abbrev pub date_mark : List ℕ
date_mark = 38 ∷ 115 ∷ 100 ∷ 61 ∷ []

abbrev pub time_mark : List ℕ
time_mark = 38 ∷ 115 ∷ 116 ∷ 61 ∷ []

module _ {s : List ℕ} {b d u v at e : ℕ} {q : Option ℕ} (P : Piece date_mark s at e q) where
  pub tail_mark : q ≡ None → Tail s b d u v at e None
  tail_mark h =
      record { is = piece_stop (piece_stop (piece_stop P (bytes s b d) h) time_mark refl) (bytes s u v) refl }

  module _ {m : ℕ} (h : q ≡ Some m) {o : Option ℕ} (D : Piece (bytes s b d) s m e o) where
    pub tail_date : o ≡ None → Tail s b d u v at e None
    tail_date i = record { is = piece_stop (piece_stop (piece_then P h D) time_mark i) (bytes s u v) refl }

    module _ {n : ℕ} (i : o ≡ Some n) {g : Option ℕ} (M : Piece time_mark s n e g) where
      pub tail_between : g ≡ None → Tail s b d u v at e None
      tail_between j = record { is = piece_stop (piece_then (piece_then P h D) i M) (bytes s u v) j }

      pub tail_so : {p : ℕ} → g ≡ Some p → {r : Option ℕ} → Piece (bytes s u v) s p e r → Tail s b d u v at e r
      tail_so j T = record { is = piece_then (piece_then (piece_then P h D) i M) j T }

pub head_inside : {f s : List ℕ} {x y at e : ℕ} {r : Option ℕ} → Head f s x y at e r → {m : ℕ} → r ≡ Some m → {a : ℕ}
    → Inside s a e → Inside s m e
head_inside H h I = moves_inside H.moves h I

-- where a text stands is inside
pub span_inside : {l : ℕ} {c : Class} {s : List ℕ} {at : ℕ} {r : Option (ℕ × ℕ)} → Spans l c s at r → {a e : ℕ}
    → r ≡ Some (a, e)
    → Inside s a e
span_inside S h = record { forward = span_forward S h; within = span_within S h }

-- HEAD AND TAIL
module _ {f s : List ℕ} {a e b d x y u v : ℕ} {q : Option ℕ} (H : Head f s x y a e q) where
  pub match_head : q ≡ None → Matches f s a e b d x y u v false
  match_head h =
      record {
        on = λ w z i.
            piece_not (piece_stop (H.on w z i) (tail_of (bytes s b d) (bytes s u v)) h) refl;
      }

  module _ {m : ℕ} (h : q ≡ Some m) {o : Option ℕ} (T : Tail s b d u v m e o) where
    pub match_tail : o ≡ None → Matches f s a e b d x y u v false
    match_tail j = record { on = λ w z i. piece_not (piece_then (H.on w z i) h T.is) j }

    pub match_so : Inside s a e → {n : ℕ} → o ≡ Some n → {t : Bool} → t ≡ eqb n e → Matches f s a e b d x y u v t
    match_so I j {t} k = record { on = λ w z i. piece_end (piece_then (H.on w z i) h T.is) j I t k }

-- THE INCOMPLETE KEY
abbrev time_on : Format
time_on = time & list 128 (number32 & stop_update)

module _ {s : List ℕ} {d : ℕ} {r : Option (ℕ × ℕ)} (R : Spans 64 printable s d r) where
  pub incomplete_route : {f : List ℕ} {a e b : ℕ} → r ≡ None → Incomplete f s a e b d false
  incomplete_route h =
      record { on = λ v u q g. absurd (no_parts (optional number32 & time_on) (span_none R h) q refl g) }

  module _ {x y : ℕ} (h : r ≡ Some (x, y)) where
    routed : {v : Value route_on} {u : List ℕ} → read route_on (drop d s) ≡ some (v, u)
        → Parts id (optional number32 & time_on) s d y v u
    routed q = parts (optional number32 & time_on) (span_is R h) q refl

    module _ {o : Option ℕ} (W : Fine (optional number32) s y o) where
      pub incomplete_way : {f : List ℕ} {a e b : ℕ} → o ≡ None → Incomplete f s a e b d false
      incomplete_way i =
          record {
            on = λ v u q g.
                absurd (no_parts time_on W (routed q).rest i (and_right (fine id v.0) (fine
                (optional number32 & time_on) v.1) g));
          }

      module _ {z : ℕ} (i : o ≡ Some z) {p : Option (ℕ × ℕ)} (T : Spans 16 printable s z p) where
        timed : {v : Value route_on} {u : List ℕ} → read route_on (drop d s) ≡ some (v, u)
            → Parts (optional number32) time_on s y z v.1 u
        timed q = parts time_on W (routed q).rest i

        pub incomplete_time : {f : List ℕ} {a e b : ℕ} → p ≡ None → Incomplete f s a e b d false
        incomplete_time j =
            record {
              on = λ v u q g.
                  absurd
                  (no_parts (list 128 (number32 & stop_update)) (span_none T j) (timed q).rest refl
                  (and_right (fine (optional number32) v.1.0) (fine time_on v.1.1)
                  (and_right (fine id v.0) (fine (optional number32 & time_on) v.1) g)));
            }

        pub incomplete_so : {f : List ℕ} {a e b : ℕ} {k l : ℕ} → p ≡ Some (k, l) → {t : Bool}
            → Matches f s a e b d x y k l t → Incomplete f s a e b d t
        incomplete_so {f} {a} {e} {b} {k} {l} j {t} M = record { on = λ v u q g. told v u q }
          where
            told : (v : Value route_on) (u : List ℕ) → read route_on (drop d s) ≡ some (v, u)
                → t ≡ same (bytes s a e) (head_of f v.0 v.1.0 ++ tail_of (bytes s b d) v.1.1.0)
            told v u q =
                let last = parts (list 128 (number32 & stop_update)) (span_is T j) (timed q).rest refl in
                let m : v.0 ≡ bytes s x y = (span_key R h).bytes v.0 (routed q).front in
                let n : v.1.1.0 ≡ bytes s k l = (span_key T j).bytes v.1.1.0 last.front in
                M.on v.1.0 (drop z s) (timed q).front
                ∙ ap (λ y. same (bytes s a e) (head_of f y v.1.0 ++ tail_of (bytes s b d)
                (bytes s k l))) (sym m)
                ∙ ap (λ y. same (bytes s a e) (head_of f v.0 v.1.0 ++ tail_of (bytes s b d) y)) (sym n)

-- THE DATED KEY, by what is in front of '@'
abbrev dated_at : ℕ → List ℕ → List ℕ → Bool
dated_at n d x = not (is_empty d) && (raw_ok (take n x) && same x (dated_key (take n x) d))

and_late : (p q c : Bool) → false ≡ (p && ((q && false) && c))
and_late true true c = refl
and_late true false c = refl
and_late false q c = refl

not_empty : (l : List ℕ) → 0 < length l → is_empty l ≡ false
not_empty [] h = absurd (omega arith)
not_empty (b ∷ l) h = refl

all_take : (n : ℕ) (x : List ℕ) → all (allowed printable) x ≡ true → all (allowed printable) (take n x) ≡ true
all_take zero x h = refl
all_take (suc n) [] h = refl
all_take (suc n) (b ∷ x) h =
    rw (
      and_left (allowed printable b) (all (allowed printable) x) h,
      all_take n x (and_right (allowed printable b)
          (all (allowed printable) x) h),
    ) refl

dated_zero : (n : ℕ) (d x : List ℕ) → n ≡ 0 → false ≡ dated_at n d x
dated_zero n d x z = rw z (sym (and_no (not (is_empty d))))

dated_over : (n : ℕ) (d x : List ℕ) → 64 < n → n ≤ length x → false ≡ dated_at n d x
dated_over n d x h k =
    rw (length-take-le n x k, lt-leb n 64 h)
    (and_late (not (is_empty d)) (not (is_empty (take n x))) (same x (dated_key (take n x) d)))

dated_in : (n : ℕ) (d x : List ℕ) → 0 < length d → 0 < n → n ≤ 64 → n ≤ length x → all (allowed printable) x ≡ true
    → dated_at n d x ≡ same x (take n x ++ 64 ∷ d)
dated_in n d x h i j k c =
    let l : length (take n x) ≡ n = length-take-le n x k in
    rw (not_empty d h, not_empty (take n x) (omega arith), l, le-leb n 64 j, all_take n x c) refl

same_front : (x a b : List ℕ) → same (x ++ a) (x ++ b) ≡ same a b
same_front [] a b = refl
same_front (y ∷ x) a b = rw (eq-eqb y y refl) (same_front x a b)

less : (x n k : ℕ) → x ≡ n → x - k ≤ n
less x n k h = omega arith

shift : (e a k : ℕ) → e - k - 1 - a ≡ e - a - suc k
shift e a k = omega arith

module _ {s : List ℕ} {a e b d : ℕ} (I : Inside s a e) (J : Inside s b d) where
  abbrev size : ℕ
  size = length (bytes s a e) - suc (length (bytes s b d))

  sized : size ≡ e - a - suc (d - b)
  sized = rw (bytes_length I, bytes_length J) refl

  pub dated_none : d - b ≡ 0 → Dated s a e b d false
  dated_none z = record { on = λ c. rw (bytes_none s b d z) refl }

  pub dated_short : e - a < d - b + 2 → Dated s a e b d false
  dated_short h = record { on = λ c. dated_zero size (bytes s b d) (bytes s a e) (omega (arith, sized)) }

  pub dated_long : d - b + 65 < e - a → Dated s a e b d false
  dated_long h =
      record { on = λ c. dated_over size (bytes s b d) (bytes s a e) (omega (arith, sized)) (omega (arith, sized)) }

  module _ (z : d - b ≡ 0 → ⊥) (h : d - b + 2 ≤ e - a) (k : e - a ≤ d - b + 65) {q : Option ℕ}
      (P : Piece (64 ∷ []) s (e - (d - b) - 1) e q) where
    abbrev mark : ℕ
    mark = e - (d - b) - 1

    in_front : take size (bytes s a e) ≡ bytes s a mark
    in_front =
        let n : mark - a ≡ size = shift e a (d - b) ∙ sym sized in
        take-take size (e - a) (drop a s)
        (less (length (bytes s a e)) (e - a) (suc (length (bytes s b d))) (bytes_length I))
        ∙ ap (λ n. take n (drop a s)) (sym n)

    told : all (allowed printable) (bytes s a e) ≡ true
        → dated_ok (bytes s b d) (bytes s a e) ≡ same (bytes s mark e) (64 ∷ bytes s b d)
    told c =
        dated_in size (bytes s b d) (bytes s a e) (omega (arith, bytes_length J)) (omega (arith, sized))
        (omega (arith, sized)) (omega (arith, sized)) c
        ∙ ap (λ y. same (bytes s a e) (y ++ 64 ∷ bytes s b d)) in_front
        ∙ ap (λ y. same y (bytes s a mark ++ 64 ∷ bytes s b d))
        (bytes_join s a mark e (omega (arith, I.forward)) (omega arith))
        ∙ same_front (bytes s a mark) (bytes s mark e) (64 ∷ bytes s b d)

    pub dated_mark : q ≡ None → Dated s a e b d false
    dated_mark i = record { on = λ c. piece_not (piece_stop P (bytes s b d) i) refl ∙ sym (told c) }

    module _ {m : ℕ} (i : q ≡ Some m) {o : Option ℕ} (Q : Piece (bytes s b d) s m e o) where
      pub dated_other : o ≡ None → Dated s a e b d false
      dated_other j = record { on = λ c. piece_not (piece_then P i Q) j ∙ sym (told c) }

      pub dated_so : {n : ℕ} → o ≡ Some n → {t : Bool} → t ≡ eqb n e → Dated s a e b d t
      dated_so j {t} w =
          record {
            on = λ c.
                piece_end (piece_then P i Q) j (record { forward = omega arith; within = I.within }) t w
                ∙ sym (told c);
          }

-- ANY KEY
module _ {f s : List ℕ} {a e : ℕ} (I : Inside s a e) where
  pub key_raw : (e - a ≡ 0 → ⊥) → e - a ≤ 64 → Keys f s a e true
  unfolding key_ok
  key_raw z h =
      let l : length (bytes s a e) ≡ e - a = bytes_length I in
      record { on = λ c v u q g. rw (not_empty (bytes s a e) (omega arith), l, le-leb (e - a) 64 h, c) refl }

  module _ {t : Bool} (L : Longer f s a e t) where
    pub key_empty : e - a ≡ 0 → Keys f s a e t
    unfolding key_ok
    key_empty z =
        let l : bytes s a e ≡ [] = bytes_none s a e z in
        record {
          on = λ c v u q g. L.on c v u q g ∙ ap (λ x. raw_ok x || (dated_ok (date_of v) (bytes s a e) || same
              (bytes s a e) (incomplete_key f v))) (sym l);
        }

    pub key_long : 64 < e - a → Keys f s a e t
    unfolding key_ok
    key_long h =
        let l : length (bytes s a e) ≡ e - a = bytes_length I in
        record {
          on = λ c v u q g. L.on c v u q g ∙ ap (λ x. x || (dated_ok (date_of v) (bytes s a e) || same
              (bytes s a e) (incomplete_key f v))) (raw l);
        }
      where
        raw : length (bytes s a e) ≡ e - a → false ≡ raw_ok (bytes s a e)
        raw l = rw (not_empty (bytes s a e) (omega arith), l, lt-leb (e - a) 64 h) refl

abbrev flag_on : Format
flag_on = small 1 & date & route_on

module _ {s : List ℕ} {e : ℕ} {r : Option ℕ} (A : Fine (optional delay) s e r) where
  pub longer_delay : {f : List ℕ} {a : ℕ} → r ≡ None → Longer f s a e false
  longer_delay h = record { on = λ c v u q g. absurd (no_parts flag_on A q h g) }

  module _ {p : ℕ} (h : r ≡ Some p) {o : Option ℕ} (B : Fine (small 1) s p o) where
    behind_delay : {v : Trip} {u : List ℕ} → read trip (drop e s) ≡ some (v, u)
        → read flag_on (drop p s) ≡ some (v.1, u)
    behind_delay q = (parts flag_on A q h).rest

    pub longer_flag : {f : List ℕ} {a : ℕ} → o ≡ None → Longer f s a e false
    longer_flag i =
        record {
          on = λ c v u q g.
              absurd
              (no_parts (date & route_on) B (behind_delay q) i (and_right (fine (optional delay) v.0) (fine flag_on
              v.1) g));
        }

    module _ {q : ℕ} (i : o ≡ Some q) {w : Option (ℕ × ℕ)} (D : Spans 16 printable s q w) where
      behind_flag : {v : Trip} {u : List ℕ} → read trip (drop e s) ≡ some (v, u)
          → read (date & route_on) (drop q s) ≡ some (v.1.1, u)
      behind_flag x = (parts (date & route_on) B (behind_delay x) i).rest

      pub longer_date : {f : List ℕ} {a : ℕ} → w ≡ None → Longer f s a e false
      longer_date j =
          record {
            on = λ c v u x g.
                absurd
                (no_parts route_on (span_none D j) (behind_flag x) refl
                (and_right (fine (optional delay) v.0) (fine flag_on v.1) g));
          }

      module _ {a b d : ℕ} (j : w ≡ Some (b, d)) {t : Bool} (T : Dated s a e b d t) where
        cut : {v : Trip} {u : List ℕ} → read trip (drop e s) ≡ some (v, u) → Parts date route_on s q d v.1.1 u
        cut x = parts route_on (span_is D j) (behind_flag x) refl

        is_date : {v : Trip} {u : List ℕ} → read trip (drop e s) ≡ some (v, u) → date_of v ≡ bytes s b d
        is_date {v} x = (span_key D j).bytes (date_of v) (cut x).front

        says : in_class printable (bytes s a e) ≡ true → {v : Trip} {u : List ℕ} → read trip (drop e s) ≡ some (v, u)
            → dated_ok (date_of v) (bytes s a e) ≡ t
        says c {v = v} x = ap (λ y. dated_ok y (bytes s a e)) (is_date {v = v} x) ∙ sym (T.on c)

        pub longer_dated : {f : List ℕ} → t ≡ true → Longer f s a e true
        longer_dated {f} k =
            record {
              on = λ c v u x g.
                  sym (ap (λ y. y || same (bytes s a e) (incomplete_key f v)) (says c {v = v} x ∙ k));
            }

        pub longer_so : {f : List ℕ} → t ≡ false → {y : Bool} → Incomplete f s a e b d y → Longer f s a e y
        unfolding incomplete_key
        longer_so {f} k {y} N =
            record {
              on = λ c v u x g.
                  N.on v.1.1.1 u (cut {v = v} x).rest
                  (and_right (fine date (date_of v)) (fine route_on v.1.1.1)
                  (and_right (fine (optional delay) v.0) (fine flag_on v.1) g))
                  ∙ ap (λ z. same (bytes s a e) (head_of f v.1.1.1.0 v.1.1.1.1.0 ++ tail_of z
                  v.1.1.1.1.1.0)) (sym (is_date {v = v} x))
                  ∙ sym
                  (ap (λ z. z || same (bytes s a e) (incomplete_key f v)) (says c {v = v} x ∙ k));
            }
