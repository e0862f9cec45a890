-- Law. Entries by ascending text: the walk knows where the key before stands, and a sum over the entries.
use Rattle.std.specs.Prelude.{◌≡◌, refl, List, [], ◌∷◌, Bool, true, false, cond, ◌&&◌, ℕ, ◌+◌, ◌-◌, ◌≤◌, ◌<◌, leb, length, take, drop, Option, Some, None}
use Rattle.std.proofs.Common.{sym, ap, ◌∙◌, arith, add-zero, le-leb}
use Rattle.std.proofs.Math.Option.{Option as LogicOption, none, some}
use Rattle.std.proofs.lemmas.Bool.{lt-leb}
use Rattle.formats.specs.Readers.{bind, only_r}
use Rattle.formats.specs.Laws.Law.{found}
use Rattle.basics.specs.Laws.Options.{none_some}
use Rattle.formats.specs.Class.{Class, any, in_class}
use Rattle.basics.specs.Lists.{all}
use Rattle.formats.specs.Format.{Format, text, list, ◌&◌, Value, read}
use Rattle.formats.specs.Promises.Outcome.{skipped}
use Rattle.slices.specs.Lists.{lex_of}
use Rattle.std.specs.declared.cmp.Ordering.{Ordering}
use Rattle.std.specs.declared.cmp.Ordering.TheVariants.{Less, Equal, Greater}
use Rattle.maps.specs.Map.{is_less, above, ascending}
use Rattle.maps.specs.Order.{texts}
use Rattle.formats_check.specs.Promises.Checked.{Number, fine, Fine, Walk, runs, Walked, Ahead, Test}
use Rattle.formats_check.specs.Promises.Checked.{own, behind, under, holds, Tested}
use Rattle.formats_check.specs.Laws.Checked.{Missed, absent, refused, Good, good, missed, behind_no, behind_so}
use Rattle.formats_check.specs.Laws.Checked.{under_no, under_so, is_good, is_bad}
use Rattle.formats_check.specs.Laws.Elements.{text_so, text_read}
use Rattle.formats_check.specs.Laws.Walks.{walk_end, walk_bad, walk_no, walk_on, list_no, list_over, list_so}
use Rattle.basics.specs.Laws.Booleans.{and_assoc, both_true, false_true}
use Rattle.formats_check.specs.Laws.Joined.{shuffle}

-- a text that is good stands from a up to e, behind its length
pub record Keyed (l : ℕ) (c : Class) (s : List ℕ) (at a e : ℕ) : Type 0 where
  pub is : Fine (text l c) s at (Some e)
  pub bytes : (v : List ℕ) → read (text l c) (drop at s) ≡ some (v, drop e s) → v ≡ take (e - a) (drop a s)
  pub forward : a ≤ e

abbrev pub Spanned : (l : ℕ) (c : Class) (s : List ℕ) (at : ℕ) → Option (ℕ × ℕ) → Type 0
Spanned l c s at (Some (a, e)) = Keyed l c s at a e
Spanned l c s at None = Fine (text l c) s at None

pub record Spans (l : ℕ) (c : Class) (s : List ℕ) (at : ℕ) (r : Option (ℕ × ℕ)) : Type 0 where
  pub tells : Spanned l c s at r

pub span_no : {l : ℕ} {c : Class} {s : List ℕ} {at : ℕ} → Fine (text l c) s at None → Spans l c s at None
span_no h = record { tells = h }

-- a text of any bytes, and where they stand
pub span_so : {l : ℕ} {s : List ℕ} {at : ℕ} {o : Option (ℕ × ℕ)} → Number s at o → {n p : ℕ} → o ≡ Some (n, p)
    → n ≤ length s - p → n ≤ l → Spans l any s at (Some (p, p + n))
span_so {l} {s} {at} e {n} {p} h k m =
    let j : p + n - p ≡ n = omega arith in
    let R = text_read l e h k in
    record {
      tells = record {
        is = text_so l e h k m;
        bytes = λ v q. rw j (taken (sym q ∙ R));
        forward = omega arith;
      };
    }
  where
    taken : {v x : List ℕ} {u w : List ℕ} → ◌≡◌ {A = LogicOption (List ℕ × List ℕ)} (some (v, u)) (some (x, w)) → v ≡ x
    taken {v} q = found (λ a b. v ≡ a) q refl

module _ {l : ℕ} {c : Class} {s : List ℕ} {at : ℕ} where
  pub span_key : {r : Option (ℕ × ℕ)} → Spans l c s at r → {a e : ℕ} → r ≡ Some (a, e) → Keyed l c s at a e
  span_key S h = rw h at S.tells

  pub span_none : {r : Option (ℕ × ℕ)} → Spans l c s at r → r ≡ None → Fine (text l c) s at None
  span_none S h = rw h at S.tells

  pub span_is : {r : Option (ℕ × ℕ)} → Spans l c s at r → {a e : ℕ} → r ≡ Some (a, e) → Fine (text l c) s at (Some e)
  span_is S h = (span_key S h).is

  pub span_forward : {r : Option (ℕ × ℕ)} → Spans l c s at r → {a e : ℕ} → r ≡ Some (a, e) → a ≤ e
  span_forward S h = (span_key S h).forward

  pub span_within : {r : Option (ℕ × ℕ)} → Spans l c s at r → {a e : ℕ} → r ≡ Some (a, e) → e ≤ length s
  span_within S h = (good (span_key S h).is refl).within

-- A CLASS: what is found of a text of any bytes, and whether they are of the class
module _ {l : ℕ} (c : Class) {s : List ℕ} {at : ℕ} {r : Option (ℕ × ℕ)} (S : Spans l any s at r) where
  pub class_none : r ≡ None → Spans l c s at None
  class_none h = record { tells = record { says = go (missed (span_none S h) refl) } }
    where
      over : (a b : Bool) → (a && true) ≡ false → (a && b) ≡ false
      over true b e = false_true (sym e)
      over false b e = refl

      go : Missed (fine (text l any)) (read (text l any) (drop at s))
          → None ≡ skipped s (only_r (fine (text l c)) (read (text l c)) (drop at s))
      go (absent i) = rw i refl
      go (refused x i f) = rw (i, over (leb (length x.0) l) (in_class c x.0) f) refl

  module _ {a e : ℕ} (h : r ≡ Some (a, e)) {t : Bool} (i : t ≡ in_class c (take (e - a) (drop a s))) where
    G : Good (read (text l any)) (fine (text l any)) s at e
    G = good (span_key S h).is refl

    classed : fine (text l c) G.value ≡ t
    classed =
        let j : G.value ≡ take (e - a) (drop a s) = (span_key S h).bytes G.value G.reads in
        let k : leb (length G.value) l ≡ true = (both_true (leb (length G.value) l) true G.fits).0 in
        rw (k, j) (sym i)

    pub class_so : t ≡ true → Spans l c s at (Some (a, e))
    class_so f = record {
      tells = record {
        is = is_good (text l c) (fine (text l c)) s at G.value e G.reads (classed ∙ f) G.within;
        bytes = (span_key S h).bytes;
        forward = (span_key S h).forward;
      };
    }

    pub class_other : t ≡ false → Spans l c s at None
    class_other f = record { tells = is_bad (text l c) (fine (text l c)) s at G.value e G.reads (classed ∙ f) }

-- the key before, where there is one, and whether a key may follow
abbrev pub known : Bool → List ℕ → ℕ → ℕ → LogicOption (List ℕ)
known first s a e = cond first none (some (take (e - a) (drop a s)))

abbrev pub follows : LogicOption (List ℕ) → List ℕ → Bool
follows none x = true
follows (some k) x = is_less (lex_of k x)

module _ (first : Bool) (s : List ℕ) (a e : ℕ) (x : List ℕ) where
  pub follows_first : first ≡ true → true ≡ follows (known first s a e) x
  follows_first h = rw h refl

  module _ (h : first ≡ false) (o : Ordering) (i : o ≡ lex_of (take (e - a) (drop a s)) x) where
    pub follows_less : o ≡ Less → true ≡ follows (known first s a e) x
    follows_less j = rw (h, ← i, j) refl

    pub follows_same : o ≡ Equal → false ≡ follows (known first s a e) x
    follows_same j = rw (h, ← i, j) refl

    pub follows_more : o ≡ Greater → false ≡ follows (known first s a e) x
    follows_more j = rw (h, ← i, j) refl

-- AN ENTRY: a key, and a value, with a test on both; and where the key stands
abbrev pub Entering : (l : ℕ) (c : Class) {g : Format} (t : Test (text l c & g)) (s : List ℕ) (at : ℕ)
    → Option (ℕ × ℕ × ℕ) → Type 0
Entering l c {g} t s at (Some (a, e, q)) = Keyed l c s at a e × Tested (text l c & g) t s at (Some q)
Entering l c {g} t s at None = Tested (text l c & g) t s at None

pub record Entered (l : ℕ) (c : Class) {g : Format} (t : Test (text l c & g)) (s : List ℕ) (at : ℕ)
    (r : Option (ℕ × ℕ × ℕ)) : Type 0
  where
    pub tells : Entering l c t s at r

module _ {l : ℕ} {c : Class} {g : Format} {t : Test (text l c & g)} {s : List ℕ} {at : ℕ} where
  pub enter_no : Tested (text l c & g) t s at None → Entered l c t s at None
  enter_no T = record { tells = T }

  pub enter_bad : {x : Option ℕ} → Tested (text l c & g) t s at x → x ≡ None → Entered l c t s at None
  enter_bad T h = record { tells = rw h at T }

  pub enter_so : {r : Option (ℕ × ℕ)} → Spans l c s at r → {a e : ℕ} → r ≡ Some (a, e) → {x : Option ℕ}
      → Tested (text l c & g) t s at x
      → {q : ℕ} → x ≡ Some q → Entered l c t s at (Some (a, e, q))
  enter_so S h T i = record { tells = (span_key S h, rw i at T) }

module _ {l : ℕ} {c : Class} {g : Format} {t : Test (text l c & g)} {s : List ℕ} {at : ℕ} {r : Option (ℕ × ℕ × ℕ)}
    (E : Entered l c t s at r) where
  pub entered_none : r ≡ None → Tested (text l c & g) t s at None
  entered_none h = rw h at E.tells

  module _ {a e q : ℕ} (h : r ≡ Some (a, e, q)) where
    both_told : Keyed l c s at a e × Tested (text l c & g) t s at (Some q)
    both_told = rw h at E.tells

    pub entered_key : Keyed l c s at a e
    entered_key = both_told.0

    pub entered_tested : Tested (text l c & g) t s at (Some q)
    entered_tested = both_told.1

    pub entered_forward : a ≤ e
    entered_forward = entered_key.forward

    pub entered_in : e ≤ length s
    entered_in = (good entered_key.is refl).within

    pub entered_past : q ≤ length s
    entered_past = (good entered_tested.is refl).within

-- a key and what is behind it, whose test may be by the key
module _ {l : ℕ} {c : Class} {s : List ℕ} {at : ℕ} {r : Option (ℕ × ℕ)} (S : Spans l c s at r) where
  pub entry_no : {g : Format} (t : Test g) → r ≡ None → Tested (text l c & g) (behind (text l c) t) s at None
  entry_no t h = behind_no (span_none S h) t refl

  pub entry_so : {g : Format} {t : Test g} {a e : ℕ} {x : Option ℕ} → r ≡ Some (a, e) → Tested g t s e x
      → Tested (text l c & g) (behind (text l c) t) s at x
  entry_so h T = behind_so (span_key S h).is refl T

  pub keyed_no : {g : Format} (t : List ℕ → Test g) → r ≡ None
      → Tested (text l c & g) (under (text l c) t) s at None
  keyed_no t h = under_no (span_none S h) t refl

  pub keyed_so : {g : Format} {t : List ℕ → Test g} {a e : ℕ} {x : Option ℕ} → r ≡ Some (a, e)
      → Tested g (t (take (e - a) (drop a s))) s e x → Tested (text l c & g) (under (text l c) t) s at x
  keyed_so {g} {t} {a} {e} {x} h T =
      let K = span_key S h in
      let G = good K.is refl in
      let i : G.value ≡ take (e - a) (drop a s) = K.bytes G.value G.reads in
      under_so K.is refl (rw i T)

-- what an entry adds to a sum: nothing, or what its key says, or what the whole of it says
pub data Weight (A : Type 0) : Type 0 where
  weightless : Weight A
  by_key : (List ℕ → ℕ) → Weight A
  by_entry : (List ℕ × A → ℕ) → Weight A

abbrev pub weighs : {A : Type 0} → Weight A → List ℕ × A → ℕ
weighs weightless e = 0
weighs (by_key u) e = u e.0
weighs (by_entry u) e = u e

-- ENTRIES BY ASCENDING KEY. w is what an entry adds to the sum, and d what the sum has to be
module _ (l : ℕ) (c : Class) {g : Format} (t : Test (text l c & g)) (w : Weight (Value g)) (d : ℕ → Bool) where
  abbrev pub climb : Walk (LogicOption (List ℕ) × ℕ) (List ℕ × Value g)
  climb =
      record {
        test = λ k e. follows k.0 e.0 && holds t e;
        next = λ k e. (some e.0, k.1 + weighs w e);
        last = λ k. d k.1;
      }

  pub record Climbs (n : ℕ) (s : List ℕ) (at : ℕ) (r : Option ℕ) : Type 0 where
    pub is : Walked (text l c & g) climb (none, 0) n s at r

  pub record Climbing (n : ℕ) (s : List ℕ) (at : ℕ) (k : LogicOption (List ℕ)) (m left p : ℕ) : Type 0 where
    pub is : Ahead (text l c & g) climb (none, 0) n s at (k, m) left p

  pub climbing_start : (n : ℕ) (s : List ℕ) (at a e : ℕ) → Climbing n s at (known true s a e) 0 n at
  climbing_start n s at a e = record { is = record { on = λ x w. w } }

-- any sum will do
abbrev pub whatever : ℕ → ℕ → Bool
whatever n m = true

-- a pair that is read begins with its first half
begins : (a b : Format) (s : List ℕ) (v : Value a) (u : List ℕ) (w : Value (a & b)) (y : List ℕ)
    → read a s ≡ some (v, u) → read (a & b) s ≡ some (w, y) → w.0 ≡ v
begins a b s v u w y i j = go (read b u) (rw i at j)
  where
    go : (o : LogicOption (Value b × List ℕ)) → bind o (λ z t. some ((v, z), t)) ≡ some (w, y) → w.0 ≡ v
    go none e = none_some e
    go (some z) e = found (λ p q. p.0 ≡ v) e refl

second_no : (a b : Bool) → b ≡ false → (a && b) ≡ false
second_no true b e = e
second_no false b e = refl

module _ {l : ℕ} {c : Class} {g : Format} {t : Test (text l c & g)} {w : Weight (Value g)} {d : ℕ → Bool} {n : ℕ}
    {s : List ℕ} {at : ℕ} {k : LogicOption (List ℕ)} {m left p : ℕ} (C : Climbing l c t w d n s at k m left p) where
  pub climbing_end : left ≤ 0 → p ≤ length s → d m ≡ true → Climbs l c t w d n s at (Some p)
  climbing_end z h f =
      record { is = C.is.on (Some p) (walk_end (text l c & g) (climb l c t w d) (k, m) s p left z h f) }

  pub climbing_sum : left ≤ 0 → d m ≡ false → Climbs l c t w d n s at None
  climbing_sum z f =
      record { is = C.is.on None (walk_bad (text l c & g) (climb l c t w d) (k, m) s p left z f) }

  module _ (z : 0 < left) {r : Option (ℕ × ℕ × ℕ)} (E : Entered l c t s p r) where
    no : Missed ((climb l c t w d).test (k, m)) (read (text l c & g) (drop p s)) → Climbs l c t w d n s at None
    no M = record { is = C.is.on None (walk_no (text l c & g) (climb l c t w d) (k, m) s p left z M) }

    pub climbing_bad : r ≡ None → Climbs l c t w d n s at None
    climbing_bad h = no (go (missed (entered_none E h).is refl))
      where
        go : Missed (holds t) (read (text l c & g) (drop p s))
            → Missed ((climb l c t w d).test (k, m)) (read (text l c & g) (drop p s))
        go (absent q) = absent q
        go (refused y q f) = refused y q (second_no (follows k y.0.0) (holds t y.0) f)

    module _ {a e q : ℕ} (h : r ≡ Some (a, e, q)) {b : Bool} (i : b ≡ follows k (take (e - a) (drop a s))) where
      value : Good (read (text l c & g)) (holds t) s p q
      value = good (entered_tested E h).is refl

      is_key : value.value.0 ≡ take (e - a) (drop a s)
      is_key =
          let K = entered_key E h in
          let G = good K.is refl in
          begins (text l c) g (drop p s) G.value (drop e s) value.value (drop q s) G.reads value.reads
          ∙ K.bytes G.value G.reads

      in_order : follows k value.value.0 ≡ b
      in_order = ap (follows k) is_key ∙ sym i

      pub climbing_order : b ≡ false → Climbs l c t w d n s at None
      climbing_order j =
          let o : follows k value.value.0 ≡ false = in_order ∙ j in
          no (refused (value.value, drop q s) value.reads (rw o refl))

      on : b ≡ true → (y : ℕ) → y ≡ m + weighs w value.value
          → Climbing l c t w d n s at (known false s a e) y (left - 1) q
      on j y f =
          let o : follows k value.value.0 ≡ true = in_order ∙ j in
          record {
            is = record {
              on = λ x W.
                  C.is.on x
                  (walk_on (text l c & g) (climb l c t w d) (k, m) s p left z value.value q value.reads
                  (rw (o, value.fits) refl) x (rw (is_key, ← f) W));
            };
          }

-- what the key that stands there adds
module _ {l : ℕ} {c : Class} {g : Format} {t : Test (text l c & g)} {u : List ℕ → ℕ} {d : ℕ → Bool} {n : ℕ}
    {s : List ℕ} {at : ℕ} {k : LogicOption (List ℕ)} {m left p : ℕ} (C : Climbing l c t (by_key u) d n s at k m left p)
    (z : 0 < left) {r : Option (ℕ × ℕ × ℕ)} (E : Entered l c t s p r) {a e q : ℕ} (h : r ≡ Some (a, e, q)) {b : Bool}
    (i : b ≡ follows k (take (e - a) (drop a s))) where
  pub climbing_so : b ≡ true → {y : ℕ} → y ≡ u (take (e - a) (drop a s))
      → Climbing l c t (by_key u) d n s at (known false s a e) (m + y) (left - 1) q
  climbing_so j {y} f = on C z E h i j (m + y) (ap (λ x. m + x) (f ∙ ap u (sym (is_key C z E h i))))

pub climbing_on : {l : ℕ} {c : Class} {g : Format} {t : Test (text l c & g)} {n : ℕ} {s : List ℕ} {at : ℕ}
    {k : LogicOption (List ℕ)} {left p : ℕ} → Climbing l c t weightless (whatever n) n s at k 0 left p → 0 < left
    → {r : Option (ℕ × ℕ × ℕ)}
    → Entered l c t s p r → {a e q : ℕ} → r ≡ Some (a, e, q) → {b : Bool} → b ≡ follows k (take (e - a) (drop a s))
    → b ≡ true → Climbing l c t weightless (whatever n) n s at (known false s a e) 0 (left - 1) q
climbing_on C z E h i j = on C z E h i j 0 refl

-- what a walk finds is that all entries are good and ascend, and what the sum is
abbrev pub weight : {A : Type 0} → Weight A → List (List ℕ × A) → ℕ
weight w [] = 0
weight w (e ∷ v) = weighs w e + weight w v

module _ (l : ℕ) (c : Class) {g : Format} (t : Test (text l c & g)) (w : Weight (Value g)) (d : ℕ → Bool) where
  climbs_above : (k : List ℕ) (m : ℕ) (v : List (List ℕ × Value g))
      → ((all (holds t) v && above texts k v) && d (m + weight w v)) ≡ runs (climb l c t w d) (some k, m) v
  climbs_above k m [] = rw (add-zero m) refl
  climbs_above k m (e ∷ v) =
      let i : m + (weighs w e + weight w v) ≡ m + weighs w e + weight w v = omega arith in
      ap (λ x. x && d (m + (weighs w e + weight w v)))
      (shuffle (holds t e) (all (holds t) v) (is_less (lex_of k e.0)) (above texts e.0 v))
      ∙ and_assoc (is_less (lex_of k e.0) && holds t e) (all (holds t) v && above texts e.0 v)
      (d (m + (weighs w e + weight w v)))
      ∙ ap (λ x. (is_less (lex_of k e.0) && holds t e) && ((all (holds t) v && above texts e.0 v) && d x)) i
      ∙ ap (λ x. (is_less (lex_of k e.0) && holds t e) && x) (climbs_above e.0 (m + weighs w e) v)

  climbs_all : (v : List (List ℕ × Value g))
      → ((all (holds t) v && ascending texts v) && d (weight w v)) ≡ runs (climb l c t w d) (none, 0) v
  climbs_all [] = refl
  climbs_all (e ∷ v) =
      let i : weighs w e + weight w v ≡ 0 + weighs w e + weight w v = omega arith in
      ap (λ x. x && d (weighs w e + weight w v)) (and_assoc (holds t e) (all (holds t) v) (above texts e.0 v))
      ∙ and_assoc (holds t e) (all (holds t) v && above texts e.0 v) (d (weighs w e + weight w v))
      ∙ ap (λ x. holds t e && ((all (holds t) v && above texts e.0 v) && d x)) i
      ∙ ap (λ x. holds t e && x) (climbs_above e.0 (0 + weighs w e) v)

-- at most m entries, each good, ascending by key, and a test of their number and the sum
module _ (l : ℕ) (c : Class) {g : Format} (t : Test (text l c & g)) (w : Weight (Value g)) (d : ℕ → ℕ → Bool)
    (m : ℕ) where
  abbrev pub climbs_good : List (List ℕ × Value g) → Bool
  climbs_good v = leb (length v) m && ((all (holds t) v && ascending texts v) && d (length v) (weight w v))

  abbrev pub climb_test : Test (list m (text l c & g))
  climb_test = own (list m (text l c & g)) climbs_good

  module _ {s : List ℕ} {at : ℕ} {o : Option (ℕ × ℕ)} (e : Number s at o) where
    pub climbs_no : o ≡ None → Tested (list m (text l c & g)) climb_test s at None
    climbs_no h = record { is = list_no m climbs_good refl e h }

    module _ {n p : ℕ} (h : o ≡ Some (n, p)) where
      pub climbs_many : m < n → Tested (list m (text l c & g)) climb_test s at None
      climbs_many k =
          record { is = list_over m climbs_good refl e h (λ v i. rw (lt-leb (length v) m i) refl) k }

      pub climbs_so : n ≤ m → {x : Option ℕ} → Climbs l c t w (d n) n s p x
          → Tested (list m (text l c & g)) climb_test s at x
      climbs_so k W = record { is = list_so m climbs_good refl e h runs_so W.is }
        where
          runs_so : (v : List (List ℕ × Value g)) → length v ≡ n
              → climbs_good v ≡ runs (climb l c t w (d n)) (none, 0) v
          runs_so v i =
              ap (λ x. leb x m && ((all (holds t) v && ascending texts v) && d x (weight w v))) i
              ∙ rw (le-leb n m k) (climbs_all l c t w (d n) v)
