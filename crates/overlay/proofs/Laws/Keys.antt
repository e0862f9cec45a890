-- Law. The keys of a trip record: `key_ok` says yes exactly where some raw trip id gives the key.
use Rattle.std.specs.Prelude.{◌≡◌, refl, Bool, true, false, cond, ◌&&◌, ◌||◌, not, ◌⊎◌, ◌↔◌, ℕ, zero, suc, ◌+◌, ◌-◌, ◌/◌, ◌%◌, ◌≤◌, ◌<◌, eqb, leb, ltb, length, take}
use Rattle.std.proofs.Common.{ap, ◌∙◌, inl, inr, ⊎_elim, arith, length-append, take_at, le-leb, leb-true, ltb-true}
use Rattle.std.proofs.lemmas.Bool.{false≢true}
use mathlib.Core.List.Memᴰ
use mathlib.Core.List.{List, [], ◌∷◌, ◌++◌, Memᴰ}
use Rattle.formats.specs.Class.{allowed, in_class, printable, token}
use Rattle.basics.specs.Lists.{all, is_empty}
use Rattle.formats.specs.Format.{Format, text, ◌&◌, Value}
use Rattle.formats_judge.specs.Judged.{ok}
use Rattle.decode.specs.Trip.{Trip, id, trip, route_of, date_of, time_of, direction_of}
use Rattle.basics.specs.Options.{Maybe}
use Rattle.decode.specs.Key.{decimal_of, direction_text, prefixed, dated_key, head_of, tail_of, incomplete_key, inserts}
use Rattle.decode.specs.Key.{raw_ok, dated_ok, key_ok}
use Rattle.basics.specs.Texts.{same}
use Rattle.basics.specs.Laws.Texts.{same_refl, same_true}
use Rattle.basics.specs.Laws.Booleans.{both_true}
use Rattle.overlay.proofs.Laws.Within.{Judged56, both}

-- ---- texts

-- at most l bytes, all printable
pub record Printed (l : ℕ) (x : List ℕ) : Type 0 where
  pub short : length x ≤ l
  pub fair : all (allowed printable) x ≡ true

pub printed_judged : (l : ℕ) (x : List ℕ) → Printed l x → Judged56 (text l printable) x
printed_judged l x p = record { formed = tt; five = both (le-leb (length x) l p.short) p.fair; six = refl }

all_append : {A : Type 0} (p : A → Bool) (x y : List A) → all p x ≡ true → all p y ≡ true → all p (x ++ y) ≡ true
all_append p [] y a b = b
all_append p (c ∷ x) y a b = let q = both_true (p c) (all p x) a in both q.0 (all_append p x y q.1 b)

pub printed_append : (k l : ℕ) (x y : List ℕ) → Printed k x → Printed l y → Printed (k + l) (x ++ y)
printed_append k l x y a b =
    record {
      short = rw length-append (omega (arith, a.short, b.short));
      fair = all_append (allowed printable) x y a.fair b.fair;
    }

pub printed_up : {k l : ℕ} {x : List ℕ} → k ≤ l → Printed k x → Printed l x
printed_up h a = record { short = omega (arith, a.short); fair = a.fair }

-- ---- keys

digit_printed : (n : ℕ) → n < 10 → Printed 1 ((48 + n) ∷ [])
digit_printed n h =
    record {
      short = omega arith;
      fair = both (both (le-leb 32 (48 + n) (omega arith)) (le-leb (48 + n) 126 (omega arith))) refl;
    }

decimal_printed : (k n : ℕ) → Printed k (decimal_of k n)
decimal_printed zero n = record { short = omega arith; fair = refl }
decimal_printed (suc k) n = go (ltb n 10) refl (decimal_printed k (n / 10))
  where
    go : (b : Bool) → ltb n 10 ≡ b → Printed k (decimal_of k (n / 10))
        → Printed (suc k) (cond b ((48 + n) ∷ []) (decimal_of k (n / 10) ++ (48 + n % 10) ∷ []))
    go true e h = printed_up (omega arith) (digit_printed n (ltb-true n 10 e))
    go false e h =
        printed_up (omega arith)
        (printed_append k 1 (decimal_of k (n / 10)) ((48 + n % 10) ∷ []) h (digit_printed (n % 10) (omega arith)))

shown_printed : (d : Maybe ℕ) → Printed 10 (direction_text d)
shown_printed (inl x) = record { short = omega arith; fair = refl }
shown_printed (inr n) = decimal_printed 10 n

-- a feed's id
pub token_printed : (f : List ℕ) → ok 5 (text 16 token) f ≡ true → Printed 16 f
token_printed [] h = absurd (false≢true h)
token_printed (b ∷ f) h =
    let q = both_true (leb (length (b ∷ f)) 16) (in_class token (b ∷ f)) h in
    record { short = leb-true (length (b ∷ f)) 16 q.0; fair = weaker (b ∷ f) q.1 }
  where
    weaker : (x : List ℕ) → all (allowed token) x ≡ true → all (allowed printable) x ≡ true
    weaker [] e = refl
    weaker (c ∷ x) e =
        let p = both_true (allowed token c) (all (allowed token) x) e in
        let r = (both_true (leb 33 c && leb c 126) (not (eqb c 58)) p.0).0 in
        let s = both_true (leb 33 c) (leb c 126) r in
        both (both (le-leb 32 c (omega (arith, leb-true 33 c s.0))) s.1) (weaker x p.1)

prefixed_printed : (f x : List ℕ) → Printed 16 f → Printed 64 x → Printed 81 (prefixed f x)
prefixed_printed f [] a b = record { short = omega arith; fair = refl }
prefixed_printed f (c ∷ x) a b =
    printed_append 16 65 f (58 ∷ c ∷ x) a (record { short = omega (arith, b.short); fair = b.fair })

-- the incomplete key, by how long the route with its feed is
incomplete_within : (l : ℕ) (f : List ℕ) (t : Trip) → Printed l (prefixed f (route_of t)) → Printed 16 (date_of t)
    → Printed 16 (time_of t)
    → Printed (l + 56) (incomplete_key f t)
unfolding incomplete_key
incomplete_within l f t r d m =
    printed_up (omega arith)
    (printed_append (3 + l + 3 + 10) 40 (head_of f (route_of t) (direction_of t)) (tail_of (date_of t) (time_of t))
    (printed_append (3 + l + 3) 10 _ (direction_text (direction_of t))
    (printed_append (3 + l) 3 _ (38 ∷ 100 ∷ 61 ∷ [])
    (printed_append 3 l (35 ∷ 114 ∷ 61 ∷ []) (prefixed f (route_of t)) (record { short = omega arith; fair = refl }) r)
    (record { short = omega arith; fair = refl }))
    (shown_printed (direction_of t)))
    (printed_append 24 16 _ (time_of t)
    (printed_append 20 4 _ (38 ∷ 115 ∷ 116 ∷ 61 ∷ [])
    (printed_append 4 16 (38 ∷ 115 ∷ 100 ∷ 61 ∷ []) (date_of t) (record { short = omega arith; fair = refl }) d)
    (record { short = omega arith; fair = refl }))
    m))

pub incomplete_printed : (f : List ℕ) (t : Trip) → Printed 16 f → Printed 64 (route_of t) → Printed 16 (date_of t)
    → Printed 16 (time_of t)
    → Printed 137 (incomplete_key f t)
incomplete_printed f t a r d m = incomplete_within 81 f t (prefixed_printed f (route_of t) a r) d m

or_left : (a b : Bool) → a ≡ true → (a || b) ≡ true
or_left true b e = refl
or_left false b e = absurd (false≢true e)

pub or_right : (a b : Bool) → b ≡ true → (a || b) ≡ true
or_right true b e = refl
or_right false b e = e

raw_ok_holds : (b : ℕ) (raw : List ℕ) → Printed 64 (b ∷ raw) → raw_ok (b ∷ raw) ≡ true
raw_ok_holds b raw p = both (le-leb (length (b ∷ raw)) 64 p.short) p.fair

pub base_ok : (f : List ℕ) (b : ℕ) (raw : List ℕ) (t : Trip) → Printed 64 (b ∷ raw) → key_ok f (b ∷ raw) t ≡ true
unfolding key_ok
base_ok f b raw t p = or_left (raw_ok (b ∷ raw)) _ (raw_ok_holds b raw p)

pub dated_ok_holds : (f : List ℕ) (b : ℕ) (raw : List ℕ) (t : Trip) → Printed 64 (b ∷ raw)
    → not (is_empty (date_of t)) ≡ true
    → key_ok f (dated_key (b ∷ raw) (date_of t)) t ≡ true
unfolding key_ok
dated_ok_holds f b raw t p d =
    let x = dated_key (b ∷ raw) (date_of t) in
    let n : length x - suc (length (date_of t)) ≡ length (b ∷ raw) =
    omega (arith, length-append (b ∷ raw) (64 ∷ date_of t)) in
    let k : take (length x - suc (length (date_of t))) x ≡ b ∷ raw =
    ap (λ i. take i x) n ∙ take_at (b ∷ raw) (64 ∷ date_of t) (length (b ∷ raw)) refl in
    or_right (raw_ok x) _
    (or_left (dated_ok (date_of t) x) _ (rw k (both d (both (raw_ok_holds b raw p) (same_refl x)))))

pub incomplete_ok : (f : List ℕ) (t : Trip) → key_ok f (incomplete_key f t) t ≡ true
unfolding key_ok
incomplete_ok f t =
    or_right (raw_ok (incomplete_key f t)) _
    (or_right (dated_ok (date_of t) (incomplete_key f t)) _ (same_refl (incomplete_key f t)))

-- ---- WHICH KEYS A RECORD MAY HAVE

abbrev pub Among : List ℕ → Trip → List (List ℕ × Trip) → Type 0
Among x t l = Memᴰ {A = List ℕ × Trip} (x, t) l

-- `insert_trip` puts the record t at the key x for some raw trip id: an empty one, or one of 1 to 64 bytes of 32 to 126
pub record Given (f x : List ℕ) (t : Trip) : Type 0 where
  pub raw : List ℕ
  pub rule : ok 5 id raw ≡ true
  pub among : Among x t (inserts f raw t)

printed_of : (l : ℕ) (x : List ℕ) → ok 5 (text l printable) x ≡ true → Printed l x
printed_of l x h =
    let q = both_true (leb (length x) l) (in_class printable x) h in
    record { short = leb-true (length x) l q.0; fair = q.1 }

key_same : (f : List ℕ) {x y : List ℕ} {t : Trip} → ◌≡◌ {A = List ℕ × Trip} (x, t) (y, t) → key_ok f y t ≡ true
    → key_ok f x t ≡ true
key_same f {t = t} e h = ap (λ p. key_ok f p.0 t) e ∙ h

-- such a key is a record's, whatever the record is
pub given_key : (f x : List ℕ) (t : Trip) → Given f x t → key_ok f x t ≡ true
given_key f x t g = go g.raw (printed_of 64 g.raw g.rule) g.among
  where
    named : (b : ℕ) (raw : List ℕ) → Printed 64 (b ∷ raw) → (e : Bool) → is_empty (date_of t) ≡ e
        → Among x t (cond e ((b ∷ raw, t) ∷ []) ((dated_key (b ∷ raw) (date_of t), t) ∷ (b ∷ raw, t) ∷ []))
        → key_ok f x t ≡ true
    named b raw p true d (Memᴰ.head e) = key_same f e (base_ok f b raw t p)
    named b raw p true d (Memᴰ.tail m) = absurd (Memᴰ.not-nil m)
    named b raw p false d (Memᴰ.head e) = key_same f e (dated_ok_holds f b raw t p (ap not d))
    named b raw p false d (Memᴰ.tail (Memᴰ.head e)) = key_same f e (base_ok f b raw t p)
    named b raw p false d (Memᴰ.tail (Memᴰ.tail m)) = absurd (Memᴰ.not-nil m)

    nameless : (e : Bool) → Among x t (cond e [] ((incomplete_key f t, t) ∷ [])) → key_ok f x t ≡ true
    nameless true m = absurd (Memᴰ.not-nil m)
    nameless false (Memᴰ.head e) = key_same f e (incomplete_ok f t)
    nameless false (Memᴰ.tail m) = absurd (Memᴰ.not-nil m)

    go : (raw : List ℕ) → Printed 64 raw → Among x t (inserts f raw t) → key_ok f x t ≡ true
    go [] p m = nameless (is_empty (route_of t)) m
    go (b ∷ raw) p m = named b raw p (is_empty (date_of t)) refl m

-- a raw id gives itself, and itself with the date
base_given : (f x : List ℕ) (t : Trip) → raw_ok x ≡ true → Given f x t
base_given f [] t h = absurd (false≢true h)
base_given f (b ∷ raw) t h = record { raw = b ∷ raw; rule = h; among = go (is_empty (date_of t)) }
  where
    go : (e : Bool) → Among (b ∷ raw) t
        (cond e ((b ∷ raw, t) ∷ []) ((dated_key (b ∷ raw) (date_of t), t) ∷ (b ∷ raw, t) ∷ []))
    go true = Memᴰ.head refl
    go false = Memᴰ.tail (Memᴰ.head refl)

not_true : (b : Bool) → not b ≡ true → b ≡ false
not_true true e = absurd (false≢true e)
not_true false e = refl

dated_given : (f x raw : List ℕ) (t : Trip) → not (is_empty (date_of t)) ≡ true → raw_ok raw ≡ true
    → x ≡ dated_key raw (date_of t) → Given f x t
dated_given f x [] t d h e = absurd (false≢true h)
dated_given f x (b ∷ raw) t d h e =
    record {
      raw = b ∷ raw;
      rule = h;
      among = rw (not_true (is_empty (date_of t)) d) (Memᴰ.head (ap (λ y. (y, t)) e));
    }

-- without a route the incomplete key is short enough to be a raw id
no_route : (f r : List ℕ) → is_empty r ≡ true → Printed 0 (prefixed f r)
no_route f [] e = record { short = omega arith; fair = refl }
no_route f (b ∷ r) e = absurd (false≢true e)

bare_given : (f : List ℕ) (t : Trip) → is_empty (route_of t) ≡ true → Printed 16 (date_of t) → Printed 16 (time_of t)
    → Given f (incomplete_key f t) t
unfolding incomplete_key
bare_given f t e d m =
    let p : Printed 56 (incomplete_key f t) = incomplete_within 0 f t (no_route f (route_of t) e) d m in
    base_given f (incomplete_key f t) t
    (both (le-leb (length (incomplete_key f t)) 64 (omega (arith, p.short))) p.fair)

incomplete_given : (f : List ℕ) (t : Trip) → Printed 16 (date_of t) → Printed 16 (time_of t)
    → Given f (incomplete_key f t) t
incomplete_given f t d m = go (is_empty (route_of t)) refl
  where
    nameless : is_empty (route_of t) ≡ false → Given f (incomplete_key f t) t
    nameless e = record { raw = []; rule = refl; among = rw e (Memᴰ.head refl) }

    go : (b : Bool) → is_empty (route_of t) ≡ b → Given f (incomplete_key f t) t
    go true e = bare_given f t e d m
    go false e = nameless e

-- question 5 of a pair is that of its parts
record Five (f : Format) (v : Value f) : Type 0 where
  is : ok 5 f v ≡ true

module _ {a b : Format} {v : Value (a & b)} (w : Five (a & b) v) where
  front : Five a v.0
  front = record { is = (both_true (ok 5 a v.0) (ok 5 b v.1) w.is).0 }

  back : Five b v.1
  back = record { is = (both_true (ok 5 a v.0) (ok 5 b v.1) w.is).1 }

pub either : (a b : Bool) → (a || b) ≡ true → (a ≡ true) ⊎ (b ≡ true)
either true b e = inl refl
either false b e = inr e

-- and a record within question 5 has no other key
pub key_given : (f x : List ℕ) (t : Trip) → ok 5 trip t ≡ true → key_ok f x t ≡ true → Given f x t
unfolding key_ok
key_given f x t h k =
    ⊎_elim (base_given f x t) (λ r. ⊎_elim dated incomplete (either (dated_ok (date_of t) x) _ r))
    (either (raw_ok x) _ k)
  where
    five : Five trip t
    five = record { is = h }

    raw : List ℕ
    raw = take (length x - suc (length (date_of t))) x

    dated : dated_ok (date_of t) x ≡ true → Given f x t
    dated e =
        let q = both_true (not (is_empty (date_of t))) (raw_ok raw && same x (dated_key raw (date_of t))) e in
        let p = both_true (raw_ok raw) (same x (dated_key raw (date_of t))) q.1 in
        dated_given f x raw t q.0 p.0 (same_true x (dated_key raw (date_of t)) p.1)

    incomplete : same x (incomplete_key f t) ≡ true → Given f x t
    incomplete e =
        let z : x ≡ incomplete_key f t = same_true x (incomplete_key f t) e in
        let after = back (back five) in
        rw z
        (incomplete_given f t (printed_of 16 (date_of t) (front after).is)
        (printed_of 16 (time_of t) (front (back (back (back after)))).is))

-- WHICH KEYS A RECORD MAY HAVE: those that some raw trip id gives, and no others
pub keys_given : (f x : List ℕ) (t : Trip) → ok 5 trip t ≡ true → (key_ok f x t ≡ true) ↔ Given f x t
keys_given f x t h = (key_given f x t h, given_key f x t)
