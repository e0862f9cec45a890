-- Law. What is known of several alerts stays so where one alert's words change.
use Rattle.std.specs.Prelude.{◌≡◌, List, ◌++◌, Bool, true, false, ℕ, zero, suc, ◌+◌, ◌-◌, ◌*◌, ◌/◌, ◌≤◌, ◌<◌, ltb, length, take, set, replicate}
use Rattle.std.proofs.Math.Path.{refl, ap}
use Rattle.std.proofs.Common.{sym, ◌∙◌, arith, length-set, length-append, length-drop, get_or-set_same, get_or-set_other, get_or-append-add, get_or-drop, get_or-take, length-take-le, ltb-true, ltb-false}
use Rattle.std.proofs.Math.ListN.{get_or, drop, get_or-append}
use Rattle.alerts.specs.Text.{trim}
use Rattle.alerts_apply.specs.declared.hits.Hit.{Hit}
use Rattle.alerts_apply.specs.Promises.Words.{Says, WordsSay}
use Rattle.alerts_apply.specs.Promises.Hits.{HitBy, Decided, DecidedNew}
use Rattle.alerts_apply.specs.Promises.Known.{SaysAt, Knows, Begun, DecidedKnown, AppliedKnown}
use Rattle.alerts_apply.specs.Laws.Hits.{says_nothing, decided_is}

-- words that are equal say the same
says_as : {n : ℕ} {s : List ℕ} {p x y z p' x' y' z' : ℕ} → p' ≡ p → x' ≡ x → y' ≡ y → z' ≡ z → Says n s p x y z
    → Says n s p' x' y' z'
says_as a b c d S = rw (a, b, c, d) S

-- nothing is known where all words are 0
zeros : (m i : ℕ) → ◌≡◌ {A = ℕ} (get_or (replicate m 0) i 0) 0
zeros zero i = refl
zeros (suc m) zero = refl
zeros (suc m) (suc i) = zeros m i

pub knows_nothing : (n : ℕ) (s : List ℕ) (m : ℕ) → Knows n s (replicate m 0)
knows_nothing n s m = record {
  each = λ k.
      says_as (zeros m (4 * k)) (zeros m (4 * k + 1)) (zeros m (4 * k + 2)) (zeros m (4 * k + 3))
      (says_nothing n s 0 0);
}

-- ---- another alert's words are forgotten

module _ {i p : ℕ} {w : List ℕ} where
  pub begun_same : get_or w i 0 ≡ p → Begun i p w w
  begun_same e = record { words = refl; place = e; knows = λ K k f. K }

  pub begun_new : i + 4 ≤ length w → Begun i p w (set (set (set w i p) (i + 1) 0) (i + 2) 0)
  begun_new room = record {
    words = long;
    place = first;
    knows = λ {n} {s} K k e. record { each = λ j. slot n s K k e j (ltb j k) refl (ltb k j) refl };
  }
    where
      one : length (set w i p) ≡ length w
      one = length-set w i p

      two : length (set (set w i p) (i + 1) 0) ≡ length w
      two = length-set (set w i p) (i + 1) 0 ∙ one

      long : length (set (set (set w i p) (i + 1) 0) (i + 2) 0) ≡ length w
      long = length-set (set (set w i p) (i + 1) 0) (i + 2) 0 ∙ two

      other : (j : ℕ) → (j ≡ i → ⊥) → (j ≡ i + 1 → ⊥) → (j ≡ i + 2 → ⊥)
          → get_or (set (set (set w i p) (i + 1) 0) (i + 2) 0) j 0 ≡ get_or w j 0
      other j a b c =
          get_or-set_other (set (set w i p) (i + 1) 0) (i + 2) j 0 0 c
          ∙ get_or-set_other (set w i p) (i + 1) j 0 0 b ∙ get_or-set_other w i j p 0 a

      first : get_or (set (set (set w i p) (i + 1) 0) (i + 2) 0) i 0 ≡ p
      first =
          get_or-set_other (set (set w i p) (i + 1) 0) (i + 2) i 0 0 (λ z. omega arith)
          ∙ get_or-set_other (set w i p) (i + 1) i 0 0 (λ z. omega arith) ∙ get_or-set_same w i p 0 (omega arith)

      second : get_or (set (set (set w i p) (i + 1) 0) (i + 2) 0) (i + 1) 0 ≡ 0
      second =
          get_or-set_other (set (set w i p) (i + 1) 0) (i + 2) (i + 1) 0 0 (λ z. omega arith)
          ∙ get_or-set_same (set w i p) (i + 1) 0 0 (omega (arith, one))

      third : get_or (set (set (set w i p) (i + 1) 0) (i + 2) 0) (i + 2) 0 ≡ 0
      third = get_or-set_same (set (set w i p) (i + 1) 0) (i + 2) 0 0 (omega (arith, two))

      away : (n : ℕ) (s : List ℕ) → Knows n s w → (k : ℕ) → i ≡ 4 * k → (j : ℕ) → (j ≡ k → ⊥)
          → SaysAt n s (set (set (set w i p) (i + 1) 0) (i + 2) 0) (4 * j)
      away n s K k e j d =
          says_as (other (4 * j) (λ z. d (omega arith)) (λ z. d (omega arith)) (λ z. d (omega arith)))
          (other (4 * j + 1) (λ z. d (omega arith)) (λ z. d (omega arith)) (λ z. d (omega arith)))
          (other (4 * j + 2) (λ z. d (omega arith)) (λ z. d (omega arith)) (λ z. d (omega arith)))
          (other (4 * j + 3) (λ z. d (omega arith)) (λ z. d (omega arith)) (λ z. d (omega arith))) (K.each j)

      slot : (n : ℕ) (s : List ℕ) → Knows n s w → (k : ℕ) → i ≡ 4 * k → (j : ℕ) (t : Bool) → ltb j k ≡ t → (u : Bool)
          → ltb k j ≡ u → SaysAt n s (set (set (set w i p) (i + 1) 0) (i + 2) 0) (4 * j)
      slot n s K k e j true f u g = away n s K k e j (λ z. omega (arith, ltb-true j k f))
      slot n s K k e j false f true g = away n s K k e j (λ z. omega (arith, ltb-true k j g))
      slot n s K k e j false f false g =
          let z : 4 * j ≡ i = omega (arith, ltb-false j k f, ltb-false k j g) in
          rw z
          (says_as first second third refl
          (says_nothing n s p (get_or (set (set (set w i p) (i + 1) 0) (i + 2) 0) (i + 3) 0)))

-- ---- an alert's three words go back among the others

module _ (w : List ℕ) (a e : ℕ) (up : a ≤ e) (room : e ≤ length w) (v : List ℕ) (long : length v ≡ e - a) where
  front : length (take a w) ≡ a
  front = length-take-le a w (omega arith)

  pub spliced_length : length (take a w ++ (v ++ drop (e - a) (drop a w))) ≡ length w
  spliced_length =
      length-append (take a w) (v ++ drop (e - a) (drop a w))
      ∙ omega (arith, front, length-append v (drop (e - a) (drop a w)), length-drop (e - a) (drop a w), length-drop a w)

  pub spliced_in : (j : ℕ) → j < e - a → get_or (take a w ++ (v ++ drop (e - a) (drop a w))) (a + j) 0 ≡ get_or v j 0
  spliced_in j h =
      ap (λ n. get_or (take a w ++ (v ++ drop (e - a) (drop a w))) (n + j) 0) (sym front)
      ∙ get_or-append-add (take a w) (v ++ drop (e - a) (drop a w)) j 0
      ∙ get_or-append v (drop (e - a) (drop a w)) 0 j (omega arith)

  pub spliced_before : (j : ℕ) → j < a → get_or (take a w ++ (v ++ drop (e - a) (drop a w))) j 0 ≡ get_or w j 0
  spliced_before j h =
      get_or-append (take a w) (v ++ drop (e - a) (drop a w)) 0 j (omega (arith, front)) ∙ get_or-take a w j 0 h

  pub spliced_behind : (j : ℕ) → e ≤ j → get_or (take a w ++ (v ++ drop (e - a) (drop a w))) j 0 ≡ get_or w j 0
  spliced_behind j h =
      let x : j ≡ length (take a w) + (length v + (j - e)) = omega (arith, front) in
      let y : e - a + (j - e) ≡ j - a = omega arith in
      let z : a + (j - a) ≡ j = omega arith in
      ap (λ n. get_or (take a w ++ (v ++ drop (e - a) (drop a w))) n 0) x
      ∙ get_or-append-add (take a w) (v ++ drop (e - a) (drop a w)) (length v + (j - e)) 0
      ∙ get_or-append-add v (drop (e - a) (drop a w)) (j - e) 0
      ∙ get_or-drop (e - a) (drop a w) (j - e) 0
      ∙ ap (λ n. get_or (drop a w) n 0) y
      ∙ get_or-drop a w (j - a) 0
      ∙ ap (λ n. get_or w n 0) z

-- ---- the answers

pub known_new : {s : List ℕ} {p : ℕ} {short mode : List ℕ} {h : Hit} {r : Bool} {old new w : List ℕ}
    → DecidedNew s p short mode h r old new → DecidedKnown s p short mode h r old new w w
known_new D = record { kept = D.kept; words = refl; knows = λ K. K; is = λ K. D.is }

module _ {s : List ℕ} {p : ℕ} {short mode : List ℕ} {h : Hit} {r : Bool} {old new w w₁ v : List ℕ} {k : ℕ}
    (few : k < length w / 4) (B : Begun (4 * k) p w w₁)
    (D : Decided s p short mode h r old new (take (4 * k + 4 - (4 * k + 1)) (drop (4 * k + 1) w₁)) v) where
  three : 4 * k + 4 - (4 * k + 1) ≡ 3
  three = omega arith

  inside : 4 * k + 4 ≤ length w₁
  inside = omega (arith, B.words)

  long : length v ≡ 4 * k + 4 - (4 * k + 1)
  long =
      D.words
      ∙ length-take-le (4 * k + 4 - (4 * k + 1)) (drop (4 * k + 1) w₁)
      (omega (arith, inside, three, length-drop (4 * k + 1) w₁))

  part : (j : ℕ) → j < 3
      → get_or (take (4 * k + 4 - (4 * k + 1)) (drop (4 * k + 1) w₁)) j 0 ≡ get_or w₁ (4 * k + 1 + j) 0
  part j b =
      get_or-take (4 * k + 4 - (4 * k + 1)) (drop (4 * k + 1) w₁) j 0 (omega (arith, three))
      ∙ get_or-drop (4 * k + 1) w₁ j 0

  own : Knows (length old) s w → WordsSay (length old) s p (take (4 * k + 4 - (4 * k + 1)) (drop (4 * k + 1) w₁))
  own K =
      let x : 4 * k + 1 + 0 ≡ 4 * k + 1 = omega arith in
      let y : 4 * k + 1 + 1 ≡ 4 * k + 2 = omega arith in
      let z : 4 * k + 1 + 2 ≡ 4 * k + 3 = omega arith in
      says_as (sym B.place) (part 0 (omega arith) ∙ ap (λ j. get_or w₁ j 0) x)
      (part 1 (omega arith) ∙ ap (λ j. get_or w₁ j 0) y) (part 2 (omega arith) ∙ ap (λ j. get_or w₁ j 0) z)
      ((B.knows K k refl).each k)

  put : List ℕ
  put = take (4 * k + 1) w₁ ++ (v ++ drop (4 * k + 4 - (4 * k + 1)) (drop (4 * k + 1) w₁))

  before : (j : ℕ) → j < 4 * k + 1 → get_or put j 0 ≡ get_or w₁ j 0
  unfolding put
  before = spliced_before w₁ (4 * k + 1) (4 * k + 4) (omega arith) inside v long

  behind : (j : ℕ) → 4 * k + 4 ≤ j → get_or put j 0 ≡ get_or w₁ j 0
  unfolding put
  behind = spliced_behind w₁ (4 * k + 1) (4 * k + 4) (omega arith) inside v long

  put_in : (i j : ℕ) → i ≡ 4 * k + 1 + j → j < 3 → get_or put i 0 ≡ get_or v j 0
  unfolding put
  put_in i j e b =
      ap (λ i. get_or (take (4 * k + 1) w₁ ++ (v ++ drop (4 * k + 4 - (4 * k + 1)) (drop (4 * k + 1) w₁))) i 0) e
      ∙ spliced_in w₁ (4 * k + 1) (4 * k + 4) (omega arith) inside v long j (omega (arith, three))

  slot : Knows (length old) s w → (j : ℕ) (t : Bool) → ltb j k ≡ t → (u : Bool) → ltb k j ≡ u
      → SaysAt (length old) s put (4 * j)
  slot K j true f u g =
      let l = ltb-true j k f in
      says_as (before (4 * j) (omega arith)) (before (4 * j + 1) (omega arith)) (before (4 * j + 2) (omega arith))
      (before (4 * j + 3) (omega arith)) ((B.knows K k refl).each j)
  slot K j false f true g =
      let l = ltb-true k j g in
      says_as (behind (4 * j) (omega arith)) (behind (4 * j + 1) (omega arith)) (behind (4 * j + 2) (omega arith))
      (behind (4 * j + 3) (omega arith)) ((B.knows K k refl).each j)
  slot K j false f false g =
      let e : 4 * j ≡ 4 * k = omega (arith, ltb-false j k f, ltb-false k j g) in
      says_as (ap (λ i. get_or put i 0) e ∙ before (4 * k) (omega arith) ∙ B.place)
      (put_in (4 * j + 1) 0 (omega arith) (omega arith)) (put_in (4 * j + 2) 1 (omega arith) (omega arith))
      (put_in (4 * j + 3) 2 (omega arith) (omega arith)) (D.says (own K))

  pub known_kept : DecidedKnown s p short mode h r old new w
      (take (4 * k + 1) w₁ ++ (v ++ drop (4 * k + 4 - (4 * k + 1)) (drop (4 * k + 1) w₁)))
  unfolding put
  known_kept = record {
    kept = D.kept;
    words = spliced_length w₁ (4 * k + 1) (4 * k + 4) (omega arith) inside v long ∙ B.words;
    knows = λ K. record { each = λ j. slot K j (ltb j k) refl (ltb k j) refl };
    is = λ K. D.is (own K);
  }

pub applied_known : {trip route short from to mode name s : List ℕ} {p : ℕ} {h : Hit} {r : Bool}
    {old new w w' : List ℕ} → name ≡ trim short → HitBy trip route name from to s p h
    → DecidedKnown s p name mode h r old new w w' → AppliedKnown trip route short from to mode s p r old new w w'
applied_known {short = short} {mode = mode} e H D = record {
  kept = D.kept;
  words = D.words;
  knows = D.knows;
  is = λ K {a} x l. D.is K x (rw e l) ∙ decided_is short mode e H x;
}
