-- Law. A number ends at its first byte below 128.
use Rattle.std.specs.Prelude.{◌≡◌, refl, Bool, true, false, List, [], ◌∷◌, ℕ, zero, suc, ◌+◌, ◌/◌, ◌%◌, ◌≤◌, ◌<◌, ltb, length, get_or}
use Rattle.std.proofs.Common.{sym, ap, ◌∙◌, arith, ltb-true, ltb-false}
use Rattle.std.proofs.Math.Seq.{slice, slice-cons, length-slice}
use Rattle.formats.specs.Format.{number}
use Rattle.formats.specs.Number.{groups_w}
use Rattle.formats.specs.Promises.Number.{top}
use Rattle.formats_read.specs.Promises.Here.{Here}
use Rattle.formats_skip.specs.Promises.Passes.{Passes, PassesNear}

-- every byte from a up to p has another behind it
pub record Scanned (s : List ℕ) (a p : ℕ) : Type 0 where
  pub high : (k : ℕ) → a ≤ k → k < p → 128 ≤ get_or s k 0
  pub forward : a ≤ p

-- the last byte before q is the first that is low
record Last (s : List ℕ) (a q e : ℕ) : Type 0 where
  high : (k : ℕ) → a ≤ k → k < e → 128 ≤ get_or s k 0
  low : get_or s e 0 < 128
  forward : a ≤ e
  next : e + 1 ≡ q

-- a byte in front of others
module _ (s : List ℕ) (p q : ℕ) {b : ℕ} {l : List ℕ} (e : slice p q s ≡ b ∷ l) (h : p ≤ q) (w : q ≤ length s) where
  in_front : p < q
  in_front = omega (arith, sym (length-slice p q s w) ∙ ap length e)

  front_is : get_or s p 0 ≡ b
  front_is = let c = slice-cons p q s 0 (in_front) w in cc

  rest_is : slice (suc p) q s ≡ l
  rest_is = let c = slice-cons p q s 0 (in_front) w in cc

one : (s : List ℕ) (p q n : ℕ) → slice p q s ≡ n ∷ [] → p ≤ q → q ≤ length s → n < 128 → (e : ℕ) × Last s p q e
one s p q n e h w l = (
  p,
  record {
    high = λ k a b. absurd (omega arith);
    low = omega (arith, front_is s p q e h w);
    forward = omega arith;
    next = omega (arith, sym (length-slice p q s w) ∙ ap length e);
  },
)

higher : (s : List ℕ) (p e : ℕ) → 128 ≤ get_or s p 0 → ((k : ℕ) → suc p ≤ k → k < e → 128 ≤ get_or s k 0) → (k : ℕ)
    → p ≤ k → k < e → 128 ≤ get_or s k 0
higher s p e b a k h l = go (ltb p k) refl
  where
    go : (t : Bool) → ltb p k ≡ t → 128 ≤ get_or s k 0
    go true x = a k (omega (arith, ltb-true p k x)) l
    go false x = let z : k ≡ p = omega (arith, ltb-false p k x) in rw z b

last : (k n : ℕ) (s : List ℕ) (p q : ℕ) → n < top k → slice p q s ≡ groups_w k n → p ≤ q → q ≤ length s
    → (e : ℕ) × Last s p q e
last zero n s p q t e h w = one s p q n e h w (omega arith)
last (suc k) n s p q t e h w = go (ltb n 128) refl (λ a b c. last k (n / 128) s (suc p) q a b c w)
  where
    go : (t : Bool) → ltb n 128 ≡ t
        → (n / 128 < top k → slice (suc p) q s ≡ groups_w k (n / 128) → suc p ≤ q → (e : ℕ) × Last s (suc p) q e)
        → (e : ℕ) × Last s p q e
    go true x ih = one s p q n (rw x at e) h w (ltb-true n 128 x)
    go false x ih =
        let y : slice p q s ≡ (128 + n % 128) ∷ groups_w k (n / 128) = rw x at e in
        let z = ih (omega arith) (rest_is s p q y h w) (omega (arith, in_front s p q y h w)) in (
          z.0,
          record {
            high = higher s p z.0 (omega (arith, front_is s p q y h w)) z.1.high;
            low = z.1.low;
            forward = omega (arith, z.1.forward);
            next = z.1.next;
          },
        )

low_high : {n : ℕ} → n < 128 → 128 ≤ n → ⊥
low_high a b = omega arith

-- two places of the first low byte are one
meets : {s : List ℕ} {a q e : ℕ} (p : ℕ) → Last s a q e → Scanned s a p → get_or s p 0 < 128 → p + 1 ≡ q
meets {s} {a} {q} {e} p L S l = go (ltb p e) refl (ltb e p) refl
  where
    go : (t : Bool) → ltb p e ≡ t → (u : Bool) → ltb e p ≡ u → p + 1 ≡ q
    go true x u y = absurd (low_high l (L.high p S.forward (ltb-true p e x)))
    go false x true y = absurd (low_high L.low (S.high e L.forward (ltb-true e p y)))
    go false x false y = omega (arith, ltb-false p e x, ltb-false e p y, L.next)

number_last : {s : List ℕ} {a q n : ℕ} → Here (number 0 0) s a q n → (e : ℕ) × Last s a q e
number_last {s} {a} {q} {n} h = last 9 n s a q h.fits h.written h.forward h.within

module _ {s : List ℕ} {a : ℕ} where
  pub scan_start : Scanned s a a
  scan_start = record { high = λ k h l. absurd (omega arith); forward = omega arith }

  module _ {p : ℕ} (S : Scanned s a p) where
    pub scan_on : 128 ≤ get_or s p 0 → Scanned s a (p + 1)
    scan_on b = record {
      high = λ k h l. go k h l (ltb k p) refl;
      forward = omega (arith, S.forward);
    }
      where
        go : (k : ℕ) → a ≤ k → k < p + 1 → (t : Bool) → ltb k p ≡ t → 128 ≤ get_or s k 0
        go k h l true x = S.high k h (ltb-true k p x)
        go k h l false x = let z : k ≡ p = omega (arith, ltb-false k p x) in rw z b

    pub scan_low : get_or s p 0 < 128 → Passes (number 0 0) s a (p + 1)
    scan_low l = record { to = λ h. meets p (number_last h).1 S l }

    pub scan_out : {r : ℕ} → length s ≤ p → Passes (number 0 0) s a r
    scan_out o = record {
      to = λ h. let L = (number_last h).1 in
          absurd (low_high L.low (S.high (number_last h).0 L.forward
          (omega (arith, L.next, h.within))));
    }

-- nothing stands behind the end
pub number_out : {s : List ℕ} {a r : ℕ} → length s ≤ a → Passes (number 0 0) s a r
number_out o = scan_out scan_start o

-- a number group by group, where ten bytes are left: its first group is its last, or has another behind it
module _ {s : List ℕ} {a : ℕ} where
  pub near_first : get_or s a 0 < 128 → PassesNear 10 (number 0 0) s a (a + 1)
  near_first l = record { passes = scan_low scan_start l; near = omega arith }

  pub high_first : 128 ≤ get_or s a 0 → Scanned s a (a + 1)
  high_first b = scan_on scan_start b

-- the group behind k others likewise
module _ (k m : ℕ) (e : k + 1 ≡ m) (o : ltb m 11 ≡ true) {s : List ℕ} {a : ℕ} (S : Scanned s a (a + k)) where
  behind : a + k + 1 ≡ a + m
  behind = omega arith

  pub near_next : get_or s (a + k) 0 < 128 → PassesNear 10 (number 0 0) s a (a + m)
  near_next l = record { passes = rw behind at (scan_low S l); near = omega (arith, ltb-true m 11 o) }

  pub high_next : 128 ≤ get_or s (a + k) 0 → Scanned s a (a + m)
  high_next b = rw behind at (scan_on S b)

-- a number has ten groups at most
groups_short : (k n : ℕ) → length (groups_w k n) ≤ k + 1
groups_short zero n = omega arith
groups_short (suc k) n = go (ltb n 128) refl (groups_short k (n / 128))
  where
    go : (t : Bool) → ltb n 128 ≡ t → length (groups_w k (n / 128)) ≤ k + 1 → length (groups_w (suc k) n) ≤ suc k + 1
    go true x ih = rw x (omega arith)
    go false x ih = rw x (omega arith)

tenth : {s : List ℕ} {a q e : ℕ} → Last s a q e → Scanned s a (a + 9) → q ≤ a + 10 → a + 10 ≡ q
tenth {s} {a} {q} {e} L S w = go (ltb e (a + 9)) refl
  where
    go : (t : Bool) → ltb e (a + 9) ≡ t → a + 10 ≡ q
    go true x = absurd (low_high L.low (S.high e L.forward (ltb-true e (a + 9) x)))
    go false x = omega (arith, ltb-false e (a + 9) x, L.next)

number_short : {s : List ℕ} {a q n : ℕ} → Here (number 0 0) s a q n → q ≤ a + 10
number_short {s} {a} {q} {n} h =
    omega (arith, groups_short 9 n, sym (length-slice a q s h.within) ∙ ap length h.written, h.forward)

pub near_end : {s : List ℕ} {a : ℕ} → Scanned s a (a + 9) → PassesNear 10 (number 0 0) s a (a + 10)
near_end S = record {
  passes = record { to = λ h. tenth (number_last h).1 S (number_short h) };
  near = omega arith;
}
