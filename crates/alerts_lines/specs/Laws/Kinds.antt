-- Law. The names of the 32 lines: how wide each is, its bytes, and which lines may stand where some bytes do.
use Rattle.std.specs.Prelude.{◌≡◌, refl, List, ◌⊎◌, Bool, true, false, cond, not, ◌&&◌, ◌||◌, ℕ, zero, suc, ◌+◌, ◌-◌, ◌*◌, ◌≤◌, ◌<◌, leb, ltb, eqb, length, get_or, drop}
use Rattle.std.proofs.Common.{sym, ◌∙◌, inl, inr, ⊎_elim, arith, ltb-true, leb-true, lt-ltb, le-ltb, eqb-true, ne_eqb}
use Rattle.std.proofs.Math.Path.{ap}
use Rattle.std.proofs.Math.ListN.{take}
use Rattle.std.proofs.lemmas.Bool.{eqb-false}
use Rattle.basics.specs.Texts.{same}
use Rattle.basics.specs.Laws.Booleans.{and_true, or_true, false_true}
use Rattle.basics.specs.Laws.Texts.{same_refl}
use Rattle.alerts.specs.Text.{begins}
use Rattle.alerts_lines.specs.Promises.Lines.{width_of, line_table, line_at, short_of, ten_of, long_of}

-- how wide a name is
module _ (k : ℕ) where
  pub width_1 : k < 6 → 1 ≡ width_of k
  width_1 h = sym (rw (lt-ltb k 6 h) refl)

  pub width_2 : 6 ≤ k → k < 11 → 2 ≡ width_of k
  width_2 a h = sym (rw (le-ltb k 6 a, lt-ltb k 11 h) refl)

  pub width_3 : 6 ≤ k → 11 ≤ k → k < 19 → 1 ≡ width_of k
  width_3 a b h = sym (rw (le-ltb k 6 a, le-ltb k 11 b, lt-ltb k 19 h) refl)

  pub width_4 : 6 ≤ k → 11 ≤ k → 19 ≤ k → k < 20 → 2 ≡ width_of k
  width_4 a b d h = sym (rw (le-ltb k 6 a, le-ltb k 11 b, le-ltb k 19 d, lt-ltb k 20 h) refl)

  pub width_5 : 6 ≤ k → 11 ≤ k → 19 ≤ k → 20 ≤ k → k < 24 → 3 ≡ width_of k
  width_5 a b d e h = sym (rw (le-ltb k 6 a, le-ltb k 11 b, le-ltb k 19 d, le-ltb k 20 e, lt-ltb k 24 h) refl)

  pub width_6 : 6 ≤ k → 11 ≤ k → 19 ≤ k → 20 ≤ k → 24 ≤ k → 2 ≡ width_of k
  width_6 a b d e h = sym (rw (le-ltb k 6 a, le-ltb k 11 b, le-ltb k 19 d, le-ltb k 20 e, le-ltb k 24 h) refl)

pub width_small : (k : ℕ) → width_of k ≤ 3
width_small k = go (ltb k 6) (ltb k 11) (ltb k 19) (ltb k 20) (ltb k 24)
  where
    go : (a b d e f : Bool) → cond a 1 (cond b 2 (cond d 1 (cond e 2 (cond f 3 2)))) ≤ 3
    go true b d e f = omega arith
    go false true d e f = omega arith
    go false false true e f = omega arith
    go false false false true f = omega arith
    go false false false false true = omega arith
    go false false false false false = omega arith

pub part_ordered : (k w : ℕ) → w ≡ width_of k → 3 * k ≤ 3 * k + w
part_ordered k w e = omega arith

pub part_within : (k w : ℕ) → k < 32 → w ≡ width_of k → 3 * k + w ≤ 96
part_within k w h e = omega (arith, width_small k, e)

pub sum_fits : (k w : ℕ) → k < 32 → w ≡ width_of k → 3 * k + w < 18446744073709551616
sum_fits k w h e = omega (arith, width_small k, e)

-- a line's name, in the table
module _ (k w : ℕ) (e : w ≡ width_of k) where
  part : take (3 * k + w - 3 * k) (drop (3 * k) line_table) ≡ line_at k
  unfolding line_at
  part = let n : 3 * k + w - 3 * k ≡ width_of k = omega (arith, e) in ap (λ n. take n (drop (3 * k) line_table)) n

  pub line_begins : (s : List ℕ) (j : ℕ) (t : Bool)
      → t ≡ begins (take (3 * k + w - 3 * k) (drop (3 * k) line_table)) (drop j s) → t ≡ begins (line_at k) (drop j s)
  line_begins s j t x = x ∙ ap (λ l. begins l (drop j s)) part

  pub line_same : (name : List ℕ) (t : Bool)
      → t ≡ same (take (3 * k + w - 3 * k) (drop (3 * k) line_table)) name → t ≡ same (line_at k) name
  line_same name t x = x ∙ ap (λ l. same l name) part

-- a test of every number below n, computed
below : ℕ → (ℕ → Bool) → Bool
below zero p = true
below (suc n) p = p n && below n p

at_below : (n : ℕ) (p : ℕ → Bool) (k : ℕ) → below n p ≡ true → k < n → p k ≡ true
unfolding below
at_below zero p k e h = absurd (omega arith)
at_below (suc n) p k e h = go (eqb k n) refl (at_below n p k (and_true {x = p n} e).1)
  where
    go : (t : Bool) → eqb k n ≡ t → (k < n → p k ≡ true) → p k ≡ true
    go true x ih = rw (eqb-true k n x) (and_true {x = p n} e).0
    go false x ih = ih (omega (arith, eqb-false k n x))

-- the bytes of each line's name
pub data Kind (k x y z : ℕ) : Type 0 where
  letter : 65 ≤ x → x < 70 → k + 65 ≡ x → Kind k x y z
  one : x ≡ 49 → k ≡ 5 → Kind k x y z
  ten : x ≡ 49 → 6 ≤ k → k < 11 → k + 42 ≡ y → Kind k x y z
  digit : 49 < x → x < 58 → k + 39 ≡ x → Kind k x y z
  tram : x ≡ 84 → k ≡ 19 → y ≡ 49 → Kind k x y z
  tower : x ≡ 84 → y ≡ 49 → 20 ≤ k → k < 24 → k + 28 ≡ z → Kind k x y z
  second : x ≡ 84 → 24 ≤ k → k < 32 → k + 26 ≡ y → Kind k x y z

rule : ℕ → ℕ → ℕ → ℕ → Bool
rule k x y z =
    (leb 65 x && (ltb x 70 && eqb (k + 65) x))
    || ((eqb x 49 && eqb k 5)
    || ((eqb x 49 && (leb 6 k && (ltb k 11 && eqb (k + 42) y)))
    || ((ltb 49 x && (ltb x 58 && eqb (k + 39) x))
    || ((eqb x 84 && (eqb k 19 && eqb y 49))
    || ((eqb x 84 && (eqb y 49 && (leb 20 k && (ltb k 24 && eqb (k + 28) z))))
    || (eqb x 84 && (leb 24 k && (ltb k 32 && eqb (k + 26) y))))))))

rule_at : ℕ → Bool
rule_at k = rule k (get_or (line_at k) 0 0) (get_or (line_at k) 1 0) (get_or (line_at k) 2 0)

ruled : below 32 rule_at ≡ true
unfolding below rule rule_at line_at
ruled = refl

kind_of : (k x y z : ℕ) → rule k x y z ≡ true → Kind k x y z
unfolding rule
kind_of k x y z e =
    ⊎_elim
    (λ h. let (a, r) = and_true h in let (b, d) = and_true r in
    letter (leb-true 65 x a) (ltb-true x 70 b) (eqb-true (k + 65) x d))
    (λ g. ⊎_elim
    (λ h. let (a, r) = and_true h in one (eqb-true x 49 a) (eqb-true k 5 r))
    (λ g. ⊎_elim
    (λ h. let (a, r) = and_true h in let (b, q) = and_true r in let (d, f) = and_true q in
    ten (eqb-true x 49 a) (leb-true 6 k b) (ltb-true k 11 d) (eqb-true (k + 42) y f))
    (λ g. ⊎_elim
    (λ h. let (a, r) = and_true h in let (b, d) = and_true r in
    digit (ltb-true 49 x a) (ltb-true x 58 b) (eqb-true (k + 39) x d))
    (λ g. ⊎_elim
    (λ h. let (a, r) = and_true h in let (b, d) = and_true r in
    tram (eqb-true x 84 a) (eqb-true k 19 b) (eqb-true y 49 d))
    (λ g. ⊎_elim
    (λ h. let (a, r) = and_true h in let (b, q) = and_true r in let (d, u) = and_true q in let (f, v) = and_true u in
    tower (eqb-true x 84 a) (eqb-true y 49 b) (leb-true 20 k d) (ltb-true k 24 f) (eqb-true (k + 28) z v))
    (λ h. let (a, r) = and_true h in let (b, q) = and_true r in let (d, f) = and_true q in
    second (eqb-true x 84 a) (leb-true 24 k b) (ltb-true k 32 d) (eqb-true (k + 26) y f))
    (or_true _ _ g))
    (or_true _ _ g))
    (or_true _ _ g))
    (or_true _ _ g))
    (or_true _ _ g))
    (or_true _ _ e)

pub kind : (k : ℕ) → k < 32 → Kind k (get_or (line_at k) 0 0) (get_or (line_at k) 1 0) (get_or (line_at k) 2 0)
unfolding rule_at
kind k h =
    kind_of k (get_or (line_at k) 0 0) (get_or (line_at k) 1 0) (get_or (line_at k) 2 0) (at_below 32 rule_at k ruled h)

-- the two lines that may stand
module _ (b c : ℕ) where
  pub short_1 : b < 49 → 32 ≡ short_of b c
  short_1 h = sym (rw (lt-ltb b 49 h) refl)

  pub short_2 : 49 ≤ b → b ≡ 49 → 5 ≡ short_of b c
  short_2 g h = sym (rw h refl)

  module _ (g : 49 ≤ b) (n : b ≡ 49 → ⊥) where
    pub short_3 : b < 58 → b - 39 ≡ short_of b c
    short_3 h = sym (rw (le-ltb b 49 g, ne_eqb b 49 n, lt-ltb b 58 h) refl)

    pub short_4 : 58 ≤ b → b < 65 → 32 ≡ short_of b c
    short_4 m h = sym (rw (le-ltb b 49 g, ne_eqb b 49 n, le-ltb b 58 m, lt-ltb b 65 h) refl)

    pub short_5 : 58 ≤ b → 65 ≤ b → b < 70 → b - 65 ≡ short_of b c
    short_5 m l h = sym (rw (le-ltb b 49 g, ne_eqb b 49 n, le-ltb b 58 m, le-ltb b 65 l, lt-ltb b 70 h) refl)

    pub short_6 : 58 ≤ b → 65 ≤ b → 70 ≤ b → (b ≡ 84 → ⊥) → 32 ≡ short_of b c
    short_6 m l i h =
        sym (rw (le-ltb b 49 g, ne_eqb b 49 n, le-ltb b 58 m, le-ltb b 65 l, le-ltb b 70 i, ne_eqb b 84 h) refl)

  pub short_7 : b ≡ 84 → c ≡ 49 → 19 ≡ short_of b c
  short_7 h e = sym (rw (h, e) refl)

  pub short_8 : b ≡ 84 → (c ≡ 49 → ⊥) → c < 50 → 32 ≡ short_of b c
  short_8 h n e = sym (rw (h, ne_eqb c 49 n, lt-ltb c 50 e) refl)

  pub short_9 : b ≡ 84 → (c ≡ 49 → ⊥) → 50 ≤ c → c < 58 → c - 26 ≡ short_of b c
  short_9 h n m e = sym (rw (h, ne_eqb c 49 n, le-ltb c 50 m, lt-ltb c 58 e) refl)

  pub short_10 : b ≡ 84 → (c ≡ 49 → ⊥) → 50 ≤ c → 58 ≤ c → 32 ≡ short_of b c
  short_10 h n m e = sym (rw (h, ne_eqb c 49 n, le-ltb c 50 m, le-ltb c 58 e) refl)

  pub ten_1 : c < 48 → 32 ≡ ten_of c
  ten_1 h = sym (rw (lt-ltb c 48 h) refl)

  pub ten_2 : 48 ≤ c → c < 53 → c - 42 ≡ ten_of c
  ten_2 g h = sym (rw (le-ltb c 48 g, lt-ltb c 53 h) refl)

  pub ten_3 : 48 ≤ c → 53 ≤ c → 32 ≡ ten_of c
  ten_3 g h = sym (rw (le-ltb c 48 g, le-ltb c 53 h) refl)

  module _ (d : ℕ) where
    pub long_1 : (r : ℕ) → b ≡ 49 → r ≡ ten_of c → r ≡ long_of b c d
    long_1 r h e = e ∙ sym (rw h refl)

    pub long_2 : (b ≡ 49 → ⊥) → (b ≡ 84 → ⊥) → 32 ≡ long_of b c d
    long_2 n m = sym (rw (ne_eqb b 49 n, ne_eqb b 84 m) refl)

    pub long_3 : b ≡ 84 → (c ≡ 49 → ⊥) → 32 ≡ long_of b c d
    long_3 h n = sym (rw (h, ne_eqb c 49 n) refl)

    pub long_4 : b ≡ 84 → c ≡ 49 → d < 48 → 32 ≡ long_of b c d
    long_4 h e l = sym (rw (h, e, lt-ltb d 48 l) refl)

    pub long_5 : b ≡ 84 → c ≡ 49 → 48 ≤ d → d < 52 → d - 28 ≡ long_of b c d
    long_5 h e g l = sym (rw (h, e, le-ltb d 48 g, lt-ltb d 52 l) refl)

    pub long_6 : b ≡ 84 → c ≡ 49 → 48 ≤ d → 52 ≤ d → 32 ≡ long_of b c d
    long_6 h e g l = sym (rw (h, e, le-ltb d 48 g, le-ltb d 52 l) refl)

-- each line that stands is one of the two
pub either_line : (k x y z b c d : ℕ) → Kind k x y z → x ≡ b → (0 < y → y ≡ c) → (0 < z → z ≡ d)
    → (k ≡ short_of b c) ⊎ (k ≡ long_of b c d)
either_line k x y z b c d (letter p q r) e f g =
    inl (let h : b - 65 ≡ k = omega arith in sym h
    ∙ short_5 b c (omega arith) (λ i. omega arith) (omega arith) (omega arith) (omega arith))
either_line k x y z b c d (one p q) e f g = inl (q ∙ short_2 b c (omega arith) (sym e ∙ p))
either_line k x y z b c d (ten p q r s) e f g =
    let v : y ≡ c = f (omega arith) in
    inr (let h : c - 42 ≡ k = omega arith in sym h
    ∙ long_1 b c d (c - 42) (sym e ∙ p) (ten_2 b c (omega arith) (omega arith)))
either_line k x y z b c d (digit p q r) e f g =
    inl (let h : b - 39 ≡ k = omega arith in sym h ∙ short_3 b c (omega arith) (λ i. omega arith) (omega arith))
either_line k x y z b c d (tram p q r) e f g =
    let v : y ≡ c = f (omega arith) in inl (q ∙ short_7 b c (sym e ∙ p) (sym v ∙ r))
either_line k x y z b c d (tower p q r s t) e f g =
    let v : y ≡ c = f (omega arith) in
    let w : z ≡ d = g (omega arith) in
    inr (let h : d - 28 ≡ k = omega arith in sym h
    ∙ long_5 b c d (sym e ∙ p) (sym v ∙ q) (omega arith) (omega arith))
either_line k x y z b c d (second p q r s) e f g =
    let v : y ≡ c = f (omega arith) in
    inl (let h : c - 26 ≡ k = omega arith in sym h
    ∙ short_9 b c (sym e ∙ p) (λ i. omega arith) (omega arith) (omega arith))

-- where a line stands, one with a short name may
pub short_line : (k x y z b c : ℕ) → Kind k x y z → x ≡ b → (0 < y → y ≡ c) → short_of b c < 32
short_line k x y z b c (letter p q r) e f =
    omega (arith, short_5 b c (omega arith) (λ i. omega arith) (omega arith) (omega arith) (omega arith))
short_line k x y z b c (one p q) e f = omega (arith, short_2 b c (omega arith) (sym e ∙ p))
short_line k x y z b c (ten p q r s) e f = omega (arith, short_2 b c (omega arith) (sym e ∙ p))
short_line k x y z b c (digit p q r) e f = omega (arith, short_3 b c (omega arith) (λ i. omega arith) (omega arith))
short_line k x y z b c (tram p q r) e f =
    let v : y ≡ c = f (omega arith) in omega (arith, short_7 b c (sym e ∙ p) (sym v ∙ r))
short_line k x y z b c (tower p q r s t) e f =
    let v : y ≡ c = f (omega arith) in omega (arith, short_7 b c (sym e ∙ p) (sym v ∙ q))
short_line k x y z b c (second p q r s) e f =
    let v : y ≡ c = f (omega arith) in
    omega (arith, short_9 b c (sym e ∙ p) (λ i. omega arith) (omega arith) (omega arith))

named_first : {k x y z : ℕ} → Kind k x y z → 0 < x
named_first (letter x y z) = omega arith
named_first (one x y) = omega arith
named_first (ten x y z w) = omega arith
named_first (digit x y z) = omega arith
named_first (tram x y z) = omega arith
named_first (tower x y z w v) = omega arith
named_first (second x y z w) = omega arith

pub line_first : (k : ℕ) → k < 32 → 0 < get_or (line_at k) 0 0
line_first k h = named_first (kind k h)

-- no two lines have one name
once_rule : ℕ → ℕ → Bool
once_rule k j = eqb k j || not (same (line_at k) (line_at j))

once_at : ℕ → Bool
once_at k = below 32 (once_rule k)

onces : below 32 once_at ≡ true
unfolding below once_rule once_at line_at
onces = refl

pub line_once : (k j : ℕ) → k < 32 → j < 32 → line_at k ≡ line_at j → k ≡ j
unfolding once_rule once_at
line_once k j h g e =
    ⊎_elim (eqb-true k j) (λ x. absurd (false_absurd x))
    (or_true (eqb k j) (not (same (line_at k) (line_at j)))
    (at_below 32 (once_rule k) j (at_below 32 once_at k onces h) g))
  where
    false_absurd : not (same (line_at k) (line_at j)) ≡ true → ⊥
    false_absurd x = false_true (sym (ap not (ap (λ l. same l (line_at j)) e ∙ same_refl (line_at j))) ∙ x)

-- how long each is
width_rule : ℕ → Bool
width_rule k = eqb (length (line_at k)) (width_of k)

widths : below 32 width_rule ≡ true
unfolding below width_rule line_at
widths = refl

pub line_length : (k : ℕ) → k < 32 → length (line_at k) ≡ width_of k
unfolding width_rule
line_length k h = eqb-true (length (line_at k)) (width_of k) (at_below 32 width_rule k widths h)
