-- What the writers of a key add. Assumes nothing.
use Prim.Native.Nat.{ℕ, zero, suc, ◌+◌, ◌-◌, ◌*◌, ◌/◌, ◌%◌, ◌≤◌, ◌<◌}
use mathlib.Core.Path.{◌≡◌, refl, sym, ap, ◌∙◌}
use mathlib.Core.Bool.{Bool, true, false, cond}
use mathlib.Core.List.{List, [], ◌∷◌, ◌++◌, append_assoc}
use mathlib.Core.Logic.{inl, inr}
use native.Mathlib.Numerals.{add-one}
use native.Mathlib.Omega.{arith}
use lib.Dec.{ltb}
use lib.ListN.{length, take, drop, set, length-append, length-drop}
use lib.Seq.{set_split, length-take-le}
use borrow.Author.Tests.{lt-ltb, le-ltb}
use Rattle.slices.specs.Lists.{pasted}
use Rattle.realtime_views.specs.Promises.Views.{part_in, PartInside, view_direction}
use Rattle.realtime_views.specs.declared.Trip.{Trip}
use Rattle.realtime_views.specs.declared.TextPart.{TextPart}
use Rattle.basics.specs.Options.{Maybe, maybe}
use Rattle.decode.specs.Key.{decimal_of, direction_text, prefixed, dated_key, head_of, tail_of}
use Rattle.basics.specs.Lists.{is_empty}
use Rattle.decode.specs.Sizes.{key_bytes, most_id, most_date}
use Rattle.decode.specs.Laws.Written.{none, then, written_there, written_before, written_whole}
use Rattle.decode.specs.Promises.Written.{Added}
use Rattle.decode.specs.Promises.Keyed.{Short, Keyed}

pub added_text : (out : List ℕ) (at : ℕ) (x out' : List ℕ) → at + length x ≤ length out → out' ≡ pasted out at x
    → Added out at x out' (at + length x)
added_text out at x out' h e = record { fits = h; next = refl; bytes = e }

pub added_byte : (out : List ℕ) (at b : ℕ) → at < length out → Added out at (b ∷ []) (set out at b) (at + 1)
added_byte out at b h =
    record { fits = omega arith; next = refl; bytes = set_split out at b h ∙ rw (add-one, append_assoc) }

pub decimal_short : (k n : ℕ) → length (decimal_of k n) ≤ k
decimal_short zero n = omega arith
decimal_short (suc k) n = go (ltb n 10) (decimal_short k (n / 10))
  where
    go : (b : Bool) → length (decimal_of k (n / 10)) ≤ k
        → length (cond b ((48 + n) ∷ []) (decimal_of k (n / 10) ++ (48 + n % 10) ∷ [])) ≤ suc k
    go true h = omega arith
    go false h = omega (arith, length-append (decimal_of k (n / 10)) ((48 + n % 10) ∷ []))

module _ {out : List ℕ} {at : ℕ} (k n : ℕ) where
  pub added_none : k ≡ 0 → at ≤ length out → Added out at (decimal_of k n) out at
  added_none e h = rw e (none out at h)

  pub added_digit : {out' : List ℕ} {r d : ℕ} → (k ≡ 0 → ⊥) → n < 10 → d ≡ 48 + n → Added out at (d ∷ []) out' r
      → Added out at (decimal_of k n) out' r
  added_digit {out'} {r} {d} z h e a =
      let s : k ≡ suc (k - 1) = omega arith in
      rw (s, lt-ltb n 10 h, ← e) a

  pub added_more : {out' out'' : List ℕ} {p r d : ℕ} → (k ≡ 0 → ⊥) → 10 ≤ n
      → Added out at (decimal_of (k - 1) (n / 10)) out' p → d ≡ 48 + n % 10 → Added out' p (d ∷ []) out'' r
      → Added out at (decimal_of k n) out'' r
  added_more {out'} {out''} {p} {r} {d} z h a e b =
      let s : k ≡ suc (k - 1) = omega arith in
      let m : decimal_of k n ≡ decimal_of (k - 1) (n / 10) ++ d ∷ [] =
      ap (λ j. decimal_of j n) s ∙ rw (le-ltb n 10 h, e) in
      rw m (then a b)

pub span_length : (s x : List ℕ) (i l : ℕ) → x ≡ take l (drop i s) → i + l ≤ length s → length x ≡ l
span_length s x i l e h = ap length e ∙ length-take-le l (drop i s) (omega (arith, length-drop i s))

-- what was added at slot n is its key
pub keyed : {keys keys' k : List ℕ} {n p : ℕ} → Added keys (137 * n) k keys' p → length k ≤ 137
    → Keyed keys n k keys' (p - 137 * n)
keyed {keys} {keys'} {k} {n} {p} a h =
    let l : p - 137 * n ≡ length k = omega (arith, a.next) in
    record {
      key = ap (λ i. take i (drop (137 * n) keys')) l ∙ written_there a;
      before = written_before a;
      long = written_whole a;
      short = omega arith;
    }

-- two texts with a byte between them
pub joined : {o₀ o₁ o₂ o₃ x y : List ℕ} {at p q r : ℕ} (b : ℕ) → Added o₀ at x o₁ p → Added o₁ p (b ∷ []) o₂ q
    → Added o₂ q y o₃ r → Added o₀ at (x ++ b ∷ y) o₃ r
joined {o₀} {o₁} {o₂} {o₃} {x} {y} {at} {p} {q} {r} b f g h = rw (append_assoc x (b ∷ []) y) at (then (then f g) h)

-- a key by id and date, whose bytes were read as x and y
pub keyed_dated : {o₀ o₁ o₂ o₃ x y id date : List ℕ} {n p q r : ℕ} → x ≡ id → y ≡ date → length x ≤ most_id
    → length y ≤ most_date → Added o₀ (key_bytes * n) x o₁ p → Added o₁ p (64 ∷ []) o₂ q → Added o₂ q y o₃ r
    → Keyed o₀ n (dated_key id date) o₃ (r - key_bytes * n)
keyed_dated {x = x} {y = y} e f l m a b c =
    rw (e, f) at (keyed (joined 64 a b c) (omega (arith, length-append x (64 ∷ y))))

-- a tail whose date and time were read as x and y
pub tail_read : {out out' x y date time : List ℕ} {at r : ℕ} → x ≡ date → y ≡ time → Added out at (tail_of x y) out' r
    → Added out at (tail_of date time) out' r
tail_read e f a = rw (e, f) at a

pub nonempty : (x : List ℕ) → (length x ≡ 0 → ⊥) → is_empty x ≡ false
nonempty [] h = absurd (h refl)
nonempty (b ∷ x) h = refl

pub nothing : (x : List ℕ) → length x ≡ 0 → is_empty x ≡ true
nothing [] h = refl
nothing (b ∷ x) h = absurd (omega arith)

-- a route, with the feed in front
pub routed : {o₀ o₁ o₂ o₃ : List ℕ} {at p q r : ℕ} (feed s x : List ℕ) (route : TextPart) → PartInside (length s) route
    → (route.len ≡ 0 → ⊥) → x ≡ part_in s route
    → Added o₀ at feed o₁ p → Added o₁ p (58 ∷ []) o₂ q → Added o₂ q x o₃ r
    → Added o₀ at (prefixed feed (part_in s route)) o₃ r
routed feed s x route i z e f g h =
    let l : length (part_in s route) ≡ route.len = span_length s (part_in s route) route.start route.len refl i in
    rw (nonempty (part_in s route) (λ q. z (sym l ∙ q)), ← e) (joined 58 f g h)

pub unrouted : (out feed s : List ℕ) (at : ℕ) (route : TextPart) → route.len ≡ 0 → at ≤ length out
    → Added out at (prefixed feed (part_in s route)) out at
unrouted out feed s at route z h = rw z (none out at h)

-- the lengths of the parts of an incomplete key
pub prefixed_short : (feed s : List ℕ) (route : TextPart) → length feed ≤ 16 → PartInside (length s) route
    → route.len ≤ 64 → length (prefixed feed (part_in s route)) ≤ 81
prefixed_short feed s route h i g = go (is_empty (part_in s route))
  where
    go : (b : Bool) → length (cond b [] (feed ++ 58 ∷ part_in s route)) ≤ 81
    go true = omega arith
    go false =
        omega (
          arith,
          length-append feed (58 ∷ part_in s route),
          span_length s (part_in s route) route.start
              route.len refl i,
        )

shown_short : (d : Maybe ℕ) → length (direction_text d) ≤ 10
shown_short (inl u) = omega arith
shown_short (inr n) = decimal_short 10 n

module _ (feed s : List ℕ) (t : Trip) (f : length feed ≤ 16) (S : Short s t) where
  pub spans_head : length (head_of feed (part_in s t.route) (maybe (view_direction t.direction))) ≤ 97
  spans_head =
      let route = prefixed feed (part_in s t.route) in
      omega (
        arith,
        length-append ((35 ∷ 114 ∷ 61 ∷ []) ++ route ++ (38 ∷ 100 ∷ 61 ∷ []))
            (direction_text (maybe (view_direction t.direction))),
        length-append ((35 ∷ 114 ∷ 61 ∷ []) ++ route) (38 ∷ 100 ∷ 61 ∷ []),
        length-append (35 ∷ 114 ∷ 61 ∷ []) route,
        prefixed_short feed s t.route f S.route.0 S.route.1,
        shown_short (maybe (view_direction t.direction)),
      )

  spans_tail : length (tail_of (part_in s t.date) (part_in s t.time)) ≤ 40
  spans_tail =
      let date = part_in s t.date in
      let time = part_in s t.time in
      omega (
        arith,
        length-append ((38 ∷ 115 ∷ 100 ∷ 61 ∷ []) ++ date ++ (38 ∷ 115 ∷ 116 ∷ 61 ∷ [])) time,
        length-append ((38 ∷ 115 ∷ 100 ∷ 61 ∷ []) ++ date) (38 ∷ 115 ∷ 116 ∷ 61 ∷ []),
        length-append (38 ∷ 115 ∷ 100 ∷ 61 ∷ []) date,
        span_length s date t.date.start t.date.len refl S.date.0,
        span_length s time t.time.start t.time.len refl S.time.0,
        S.date.1,
        S.time.1,
      )

  pub spans_whole : length (head_of feed (part_in s t.route) (maybe (view_direction t.direction)) ++ tail_of
      (part_in s t.date) (part_in s t.time)) ≤ 137
  spans_whole =
      omega (
        arith,
        length-append (head_of feed (part_in s t.route) (maybe (view_direction t.direction)))
            (tail_of (part_in s t.date) (part_in s t.time)),
        spans_head,
        spans_tail,
      )
