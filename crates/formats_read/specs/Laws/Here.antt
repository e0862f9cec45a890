-- Law. A value at a place, by its parts: where each stands, and what the interpreter answers there.
use Rattle.std.specs.Prelude.{◌≡◌, refl, List, [], ◌∷◌, ◌++◌, ℕ, zero, suc, ◌+◌, ◌-◌, ◌≤◌, ◌<◌, ℤ, length, take, drop, get_or, Some}
use Rattle.std.proofs.Common.{sym, ap, ◌∙◌, append_assoc, inl, inr, arith, add-zero, length-append, take-append-drop, length-take-le, take_at, drop_at, get_or-drop, lt-ltb}
use Rattle.std.proofs.Math.Option.{some}
use Rattle.std.proofs.Math.Seq.{slice, length-slice, slice_empty}
use Rattle.std.proofs.lemmas.List.{drop-append-le}
use Rattle.formats.specs.Format.{Format, never, empty, number, signed, small, text, float, constant, list, choice, ◌&◌}
use Rattle.formats.specs.Format.{Value, read, write}
use Rattle.formats.specs.Laws.Format.{law}
use Rattle.formats.specs.Number.{zig}
use Rattle.formats.specs.Class.{Class}
use Rattle.formats.specs.Promises.Outcome.{skip_to, skipped, tag_at}
use Rattle.formats.proofs.Numbers.{place}
use Rattle.formats_write.specs.Laws.Slices.{slice_join}
use Rattle.formats_read.specs.Promises.Fields.{part, Has, onward, field_to, with}
use Rattle.formats_read.specs.Promises.Here.{Here, here, Field}

-- two lists joined, taken apart
apart_front : (a b x y : List ℕ) → length a ≡ length x → a ++ b ≡ x ++ y → a ≡ x
apart_front a b x y n e = sym (take_at a b (length a) refl) ∙ ap (take (length a)) e ∙ take_at x y (length a) (sym n)

apart_back : (a b x y : List ℕ) → length a ≡ length x → a ++ b ≡ x ++ y → b ≡ y
apart_back a b x y n e = sym (drop_at a b (length a) refl) ∙ ap (drop (length a)) e ∙ drop_at x y (length a) (sym n)

-- bytes that are x and then y: where they meet
pub record Meet (s : List ℕ) (p q : ℕ) (x y : List ℕ) (m : ℕ) : Type 0 where
  pub first : slice p m s ≡ x
  pub second : slice m q s ≡ y
  pub after : p ≤ m
  pub before : m ≤ q

pub meet : (s : List ℕ) (p q : ℕ) (x y : List ℕ) → slice p q s ≡ x ++ y → p ≤ q → q ≤ length s
    → Meet s p q x y (p + length x)
meet s p q x y e h k =
    let n : q - p ≡ length x + length y = sym (length-slice p q s k) ∙ ap length e ∙ length-append x y in
    let m : length (slice p (p + length x) s) ≡ length x =
    length-slice p (p + length x) s (omega arith) ∙ omega arith in
    let a = slice p (p + length x) s in
    let b = slice (p + length x) q s in
    let j : a ++ b ≡ x ++ y = slice_join p (p + length x) q s (omega arith) (omega arith) k ∙ e in
    record {
      first = apart_front a b x y m j;
      second = apart_back a b x y m j;
      after = omega arith;
      before = omega arith;
    }

-- the whole past a place: what stands there, and the rest
past_place : (s : List ℕ) (p q : ℕ) → p ≤ q → q ≤ length s → drop p s ≡ slice p q s ++ drop q s
past_place s p q h k =
    ap (drop p) (sym (take-append-drop q s))
    ∙ drop-append-le p (take q s) (drop q s) (omega (arith, length-take-le q s k))

pub whole_here : (f : Format) (s : List ℕ) (v : Value f) → read f s ≡ some (v, []) → Here f s 0 (length s) v
whole_here f s v e = let n : length s - 0 ≡ length s = omega arith in rw n at (here f s 0 v [] (omega arith) e)

-- what is written for a value is read back
pub reads : {f : Format} {s : List ℕ} {p q : ℕ} {v : Value f} → Here f s p q v → read f (drop p s) ≡ some (v, drop q s)
reads {f} {s} {p} {q} {v} h =
    ap (read f) (past_place s p q h.forward h.within ∙ ap (λ l. l ++ drop q s) h.written)
    ∙ (law f).there v (drop q s) h.fits

pub passed : {f : Format} {s : List ℕ} {p q : ℕ} {v : Value f} → Here f s p q v → skip_to f s p ≡ Some q
passed {f} {s} {p} {q} {v} h = ap (skipped s) (reads h) ∙ ap Some (place s q h.within)

-- a pair: its halves, and where they meet
pub record Halves (a b : Format) (s : List ℕ) (p q : ℕ) (v : Value (a & b)) (m : ℕ) : Type 0 where
  pub first : Here a s p m v.0
  pub second : Here b s m q v.1

pub halves : {a b : Format} {s : List ℕ} {p q : ℕ} {v : Value (a & b)} → Here (a & b) s p q v
    → Halves a b s p q v (p + length (write a v.0))
halves {a} {b} {s} {p} {q} {v} h =
    let m = meet s p q (write a v.0) (write b v.1) h.written h.forward h.within in
    record {
      first = record {
        written = m.first;
        fits = h.fits.0;
        forward = m.after;
        within = omega (arith, m.before, h.within);
      };
      second = record { written = m.second; fits = h.fits.1; forward = m.before; within = h.within };
    }

joined : (x y z u a b : List ℕ) → x ++ y ≡ z → x ≡ a → y ++ u ≡ b → z ++ u ≡ a ++ b
joined x y z u a b e f g = rw (← e, append_assoc, g, f) refl

pub field : (k : ℕ) (f : Format) (i : Has k f) {s : List ℕ} {p q : ℕ} {v : Value f} → Here f s p q v
    → (m : ℕ) × Field k f i s p q v m × (field_to k f s p ≡ Some m)
field zero f i {s} {p} {q} {v} h =
    (p, record { here = h; forward = omega arith; front = λ u. rw (slice_empty p s) refl }, refl)
field (suc k) (a & b) i {s} {p} {q} {v} h =
    let x = halves h in
    let y = field k b i x.second in
    let n = p + length (write a v.0) in (
      y.0,
      record {
        here = y.1.here;
        forward = omega (arith, x.first.forward, y.1.forward);
        front = λ u. joined (slice p n s) (slice n y.0 s) (slice p y.0 s) (write (part k b) u) (write a v.0)
            (write b (with k b i v.1 u))
            (slice_join p n y.0 s x.first.forward y.1.forward
            (omega (arith, y.1.here.forward, h.within))) x.first.written (y.1.front u);
      },
      ap (λ r. onward r (λ q. field_to k b s q)) (passed x.first) ∙ y.2,
    )
field (suc k) never i h = absurd i
field (suc k) empty i h = absurd i
field (suc k) (number lo hi) i h = absurd i
field (suc k) (signed lo hi) i h = absurd i
field (suc k) (small m) i h = absurd i
field (suc k) (text l c) i h = absurd i
field (suc k) float i h = absurd i
field (suc k) (constant c) i h = absurd i
field (suc k) (list l f) i h = absurd i
field (suc k) (choice a b) i h = absurd i

-- a choice: its byte, and what stands behind it
tagged : (c : ℕ) (w s : List ℕ) (p q : ℕ) → slice p q s ≡ c ∷ w → p ≤ q → q ≤ length s
    → (tag_at s p ≡ c) × (slice (p + 1) q s ≡ w) × (p + 1 ≤ q)
tagged c w s p q e h k =
    let m = meet s p q (c ∷ []) w e h k in
    let d : drop p s ≡ c ∷ (w ++ drop q s) = past_place s p q h k ∙ ap (λ l. l ++ drop q s) e in
    let a : get_or s p 0 ≡ c = rw add-zero at (sym (get_or-drop p s 0 0)) ∙ ap (λ l. get_or l 0 0) d in
    (rw (lt-ltb p (length s) (omega (arith, m.before))) a, m.second, m.before)

abbrev pub Branch : (a b : Format) (s : List ℕ) (p q : ℕ) → Value (choice a b) → Type 0
Branch a b s p q (inl x) = (tag_at s p ≡ 0) × Here a s (p + 1) q x
Branch a b s p q (inr y) = (tag_at s p ≡ 1) × Here b s (p + 1) q y

pub branch : {a b : Format} {s : List ℕ} {p q : ℕ} (v : Value (choice a b)) → Here (choice a b) s p q v
    → Branch a b s p q v
branch {a} {b} {s} {p} {q} (inl x) h =
    let t = tagged 0 (write a x) s p q h.written h.forward h.within in
    (t.0, record { written = t.1; fits = h.fits; forward = t.2; within = h.within })
branch {a} {b} {s} {p} {q} (inr y) h =
    let t = tagged 1 (write b y) s p q h.written h.forward h.within in
    (t.0, record { written = t.1; fits = h.fits; forward = t.2; within = h.within })

-- a choice takes a byte
pub choice_in : {a b : Format} {s : List ℕ} {p q : ℕ} (v : Value (choice a b)) → Here (choice a b) s p q v
    → p < length s
choice_in (inl x) h = let b = (branch (inl x) h).1 in omega (arith, b.forward, b.within)
choice_in (inr y) h = let b = (branch (inr y) h).1 in omega (arith, b.forward, b.within)

-- which of the two it is, by its byte
two_tags : {C : Type 0} (a : ℕ) → a ≡ 0 → a ≡ 1 → C
two_tags a e f = absurd (omega arith)

pub record Second (a b : Format) (s : List ℕ) (p q : ℕ) (v : Value (choice a b)) : Type 0 where
  pub value : Value b
  pub is : v ≡ inr value
  pub stands : Here b s (p + 1) q value

pub second : {a b : Format} {s : List ℕ} {p q : ℕ} (v : Value (choice a b)) → Here (choice a b) s p q v → tag_at s p ≡ 1
    → Second a b s p q v
second {s} {p} (inl x) h t = two_tags (tag_at s p) (branch (inl x) h).0 t
second (inr y) h t = record { value = y; is = refl; stands = (branch (inr y) h).1 }

pub record First (a b : Format) (s : List ℕ) (p q : ℕ) (v : Value (choice a b)) : Type 0 where
  pub value : Value a
  pub is : v ≡ inl value
  pub stands : Here a s (p + 1) q value

pub first : {a b : Format} {s : List ℕ} {p q : ℕ} (v : Value (choice a b)) → Here (choice a b) s p q v
    → (tag_at s p ≡ 1 → ⊥) → First a b s p q v
first (inl x) h t = record { value = x; is = refl; stands = (branch (inl x) h).1 }
first (inr y) h t = absurd (t (branch (inr y) h).0)

-- leaves that are numbers in other clothes
pub number_here : {lo hi : ℕ} {s : List ℕ} {p q n : ℕ} → Here (number lo hi) s p q n → Here (number 0 0) s p q n
number_here h = record { written = h.written; fits = h.fits; forward = h.forward; within = h.within }

pub small_here : {k : ℕ} {s : List ℕ} {p q n : ℕ} → Here (small k) s p q n → Here (number 0 0) s p q n
small_here h = record { written = h.written; fits = h.fits.0; forward = h.forward; within = h.within }

pub signed_here : {lo hi : ℤ} {s : List ℕ} {p q : ℕ} {z : ℤ} → Here (signed lo hi) s p q z
    → Here (number 0 0) s p q (zig z)
signed_here h = record { written = h.written; fits = h.fits; forward = h.forward; within = h.within }

-- a text: its length, and its bytes from m up to q
pub record Text (s : List ℕ) (p q : ℕ) (v : List ℕ) (m : ℕ) : Type 0 where
  pub count : Here (number 0 0) s p m (length v)
  pub bytes : slice m q s ≡ v
  pub size : m + length v ≡ q

pub text_here : {l : ℕ} {c : Class} {s : List ℕ} {p q : ℕ} {v : List ℕ} → Here (text l c) s p q v
    → (m : ℕ) × Text s p q v m
text_here {l} {c} {s} {p} {q} {v} h =
    let n = p + length (write (number 0 0) (length v)) in
    let m = meet s p q (write (number 0 0) (length v)) v h.written h.forward h.within in (
      n,
      record {
        count = record {
          written = m.first;
          fits = h.fits.0;
          forward = m.after;
          within = omega (arith, m.before, h.within);
        };
        bytes = m.second;
        size = omega (arith, sym (length-slice n q s h.within) ∙ ap length m.second, m.before);
      },
    )
