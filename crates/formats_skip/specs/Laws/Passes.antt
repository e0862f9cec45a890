-- Law. How passes are put together: kinds of numbers and texts, a pair, an optional value, a list.
use Rattle.std.specs.Prelude.{◌≡◌, refl, List, [], ◌∷◌, ℕ, ◌+◌, ◌-◌, ◌≤◌, ◌<◌, ℤ, length, get_or}
use Rattle.std.proofs.Common.{sym, ap, ◌∙◌, inl, inr, arith, lt-ltb}
use Rattle.std.proofs.Math.Seq.{length-slice}
use Rattle.basics.specs.Options.{Maybe}
use Rattle.formats.specs.Number.{zig}
use Rattle.formats.specs.Class.{Class, any}
use Rattle.formats.specs.Format.{Format, empty, number, signed, small, text, float, constant, list, optional}
use Rattle.formats.specs.Format.{◌&◌, Value}
use Rattle.formats_read.specs.Promises.Here.{Here}
use Rattle.formats_read.specs.Promises.Lists.{Many}
use Rattle.formats_read.specs.Promises.Reads.{ReadsNumber, ReadsText}
use Rattle.formats_read.specs.Laws.Here.{halves, choice_in, first, second, number_here, small_here, signed_here}
use Rattle.formats_read.specs.Laws.Here.{text_here}
use Rattle.formats_read.specs.Laws.Lists.{listed}
use Rattle.formats_read.specs.Laws.Walk.{Walk, begin, onward}
use Rattle.formats.proofs.Numbers.{front_good}
use Rattle.formats_read.proofs.Laws as laws
use Rattle.formats_skip.specs.Promises.Passes.{Passes, PassesNear}
use Rattle.formats_skip.specs.Laws.Number.{number_out}

abbrev unsigned : Maybe ℤ → Maybe ℕ
unsigned (inl x) = inl x
unsigned (inr z) = inr (zig z)

module _ {s : List ℕ} {p q : ℕ} where
  any_text_here : {l : ℕ} {c : Class} {v : List ℕ} → Here (text l c) s p q v → Here (text 0 any) s p q v
  any_text_here h = record { written = h.written; fits = h.fits; forward = h.forward; within = h.within }

  any_texts_here : {k l : ℕ} {c : Class} {v : List (List ℕ)} → Here (list k (text l c)) s p q v
      → Here (list 0 (text 0 any)) s p q v
  any_texts_here h = record { written = h.written; fits = h.fits; forward = h.forward; within = h.within }

  any_optional_here : {lo hi : ℕ} {v : Maybe ℕ} → Here (optional (number lo hi)) s p q v
      → Here (optional (number 0 0)) s p q v
  any_optional_here h = record { written = h.written; fits = h.fits; forward = h.forward; within = h.within }

  any_optional_text_here : {l : ℕ} {c : Class} {v : Maybe (List ℕ)} → Here (optional (text l c)) s p q v
      → Here (optional (text 0 any)) s p q v
  any_optional_text_here h = record { written = h.written; fits = h.fits; forward = h.forward; within = h.within }

  unsigned_here : {lo hi : ℤ} (v : Maybe ℤ) → Here (optional (signed lo hi)) s p q v
      → Here (optional (number 0 0)) s p q (unsigned v)
  unsigned_here (inl x) h = record { written = h.written; fits = h.fits; forward = h.forward; within = h.within }
  unsigned_here (inr z) h = record { written = h.written; fits = h.fits; forward = h.forward; within = h.within }

module _ {s : List ℕ} {p r : ℕ} where
  -- numbers of every kind, and texts of every limit and class
  pub any_number : {lo hi : ℕ} → Passes (number 0 0) s p r → Passes (number lo hi) s p r
  any_number P = record { to = λ h. P.to (number_here h) }

  pub any_signed : {lo hi : ℤ} → Passes (number 0 0) s p r → Passes (signed lo hi) s p r
  any_signed P = record { to = λ h. P.to (signed_here h) }

  pub any_small : {k : ℕ} → Passes (number 0 0) s p r → Passes (small k) s p r
  any_small P = record { to = λ h. P.to (small_here h) }

  pub read_text : {a : ℕ} → ReadsText s p a r → Passes (text 0 any) s p r
  read_text T = record { to = λ h. T.next h }

  pub any_text : {l : ℕ} {c : Class} → Passes (text 0 any) s p r → Passes (text l c) s p r
  any_text P = record { to = λ h. P.to (any_text_here h) }

  pub any_texts : {k l : ℕ} {c : Class} → Passes (list 0 (text 0 any)) s p r → Passes (list k (text l c)) s p r
  any_texts P = record { to = λ h. P.to (any_texts_here h) }

  pub any_optional_number : {lo hi : ℕ} → Passes (optional (number 0 0)) s p r → Passes (optional (number lo hi)) s p r
  any_optional_number P = record { to = λ h. P.to (any_optional_here h) }

  pub any_optional_signed : {lo hi : ℤ} → Passes (optional (number 0 0)) s p r → Passes (optional (signed lo hi)) s p r
  any_optional_signed P = record { to = λ {v} h. P.to (unsigned_here v h) }

  pub any_optional_text : {l : ℕ} {c : Class} → Passes (optional (text 0 any)) s p r
      → Passes (optional (text l c)) s p r
  any_optional_text P = record { to = λ h. P.to (any_optional_text_here h) }

  -- one after the other
  pub pair : {a b : Format} {m : ℕ} → Passes a s p m → Passes b s m r → Passes (a & b) s p r
  pair {m} P Q = record {
    to = λ {v} h. let x = halves h in let e : m ≡ _ = P.to x.first in Q.to {v = v.1} (rw e x.second);
  }

  -- an optional value
  pub optional_out : {f : Format} → length s ≤ p → Passes (optional f) s p r
  optional_out o = record { to = λ {v} h. absurd (omega (arith, choice_in v h)) }

  pub optional_some : {f : Format} → p < length s → get_or s p 0 ≡ 1 → Passes f s (p + 1) r → Passes (optional f) s p r
  optional_some l t P = record {
    to = λ {v} h. P.to (second v h (rw (lt-ltb p (length s) l) t)).stands;
  }

  -- where bytes are left
  pub near_passes : {n : ℕ} {f : Format} → PassesNear n f s p r → Passes f s p r
  near_passes P = P.passes

  pub near_some : {f : Format} → p + 11 ≤ length s → get_or s p 0 ≡ 1 → PassesNear 10 f s (p + 1) r
      → PassesNear 11 (optional f) s p r
  near_some l t P = record {
    passes = optional_some (omega arith) t P.passes;
    near = omega (arith, P.near);
  }

  -- a float
  pub float_out : length s < p → Passes float s p r
  float_out o = record { to = λ h. absurd (omega (arith, h.forward, h.within)) }

-- a text whose length has one group
module _ {s : List ℕ} {p n : ℕ} (l : p < length s) (e : n ≡ get_or s p 0) (u : n < 128) where
  short_count : ReadsNumber s p n (p + 1)
  short_count = laws.number_got (front_good s p n l e u) refl

  pub short_over : length s - p ≤ n → Passes (text 0 any) s p p
  short_over o =
      record { to = λ h. omega (arith, (laws.text_over short_count (omega arith) (omega arith)).next h, h.forward) }

  pub short_text : n < length s - p → Passes (text 0 any) s p (p + 1 + n)
  short_text o = read_text (laws.text_in short_count (omega arith) (omega arith))

-- nothing stands behind the end
pub text_out : {s : List ℕ} {p r : ℕ} → length s ≤ p → Passes (text 0 any) s p r
text_out o = record {
  to = λ h. let x = text_here h in absurd (omega (arith, (number_out {r = x.0 + 1} o).to x.1.count));
}

-- a leaf of any bounds in front: `pair` of the laws above, one for each, so that a search finds where the leaf ends
module _ {s : List ℕ} {p m r : ℕ} {b : Format} (Q : Passes b s m r) where
  pub number_then : {lo hi : ℕ} → Passes (number 0 0) s p m → Passes (number lo hi & b) s p r
  number_then P = pair (any_number P) Q

  pub signed_then : {lo hi : ℤ} → Passes (number 0 0) s p m → Passes (signed lo hi & b) s p r
  signed_then P = pair (any_signed P) Q

  pub small_then : {k : ℕ} → Passes (number 0 0) s p m → Passes (small k & b) s p r
  small_then P = pair (any_small P) Q

  pub text_then : {l : ℕ} {c : Class} → Passes (text 0 any) s p m → Passes (text l c & b) s p r
  text_then P = pair (any_text P) Q

  pub texts_then : {k l : ℕ} {c : Class} → Passes (list 0 (text 0 any)) s p m → Passes (list k (text l c) & b) s p r
  texts_then P = pair (any_texts P) Q

  pub optional_number_then : {lo hi : ℕ} → Passes (optional (number 0 0)) s p m
      → Passes (optional (number lo hi) & b) s p r
  optional_number_then P = pair (any_optional_number P) Q

  pub optional_signed_then : {lo hi : ℤ} → Passes (optional (number 0 0)) s p m
      → Passes (optional (signed lo hi) & b) s p r
  optional_signed_then P = pair (any_optional_signed P) Q

  pub optional_text_then : {l : ℕ} {c : Class} → Passes (optional (text 0 any)) s p m
      → Passes (optional (text l c) & b) s p r
  optional_text_then P = pair (any_optional_text P) Q

empty_end : {s : List ℕ} {p q : ℕ} {v : Value empty} → Here empty s p q v → p ≡ q
empty_end {s} {p} {q} h = omega (arith, sym (length-slice p q s h.within) ∙ ap length h.written, h.forward)

module _ {s : List ℕ} {p : ℕ} where
  pub optional_none : {f : Format} → p < length s → (get_or s p 0 ≡ 1 → ⊥) → Passes (optional f) s p (p + 1)
  optional_none l t = record {
    to = λ {v} h. empty_end (first v h (λ e. t (rw (lt-ltb p (length s) l) at e))).stands;
  }

  pub near_none : {f : Format} → p + 11 ≤ length s → (get_or s p 0 ≡ 1 → ⊥) → PassesNear 11 (optional f) s p (p + 1)
  near_none l t = record { passes = optional_none (omega arith) t; near = omega arith }

  pub constant_byte : {c : ℕ} → Passes (constant c) s p (p + 1)
  constant_byte = record {
    to = λ {v} {q} h.
        omega (arith, sym (length-slice p q s h.within) ∙ ap length h.written, h.forward);
  }

  float_end : {q n : ℕ} → Here float s p q n → p + 8 ≡ q
  float_end {q} h = omega (arith, sym (length-slice p q s h.within) ∙ ap length h.written, h.forward)

  pub float_bytes : Passes float s p (p + 8)
  float_bytes = record { to = λ h. float_end h }

  pub float_short : {r : ℕ} → length s - p < 8 → Passes float s p r
  float_short o = record { to = λ h. absurd (omega (arith, float_end h, h.within)) }

-- a loop over n values from a on is at p, and `left` are left
pub record Passing (f : Format) (s : List ℕ) (a n p left : ℕ) : Type 0 where
  pub walk : Walk f s a n p left (λ us. Unit {0})

none_left : (f : Format) (s : List ℕ) (p q : ℕ) (ws : List (Value f)) → length ws ≡ 0 → Many f s p q ws → p ≡ q
none_left f s p q [] c m = m.0
none_left f s p q (w ∷ ws) c m = absurd (omega arith)

module _ {f : Format} {s : List ℕ} {a n : ℕ} where
  pub list_start : Passing f s a n a n
  list_start = record { walk = begin tt }

  module _ {p left : ℕ} (W : Passing f s a n p left) where
    pub list_on : {e : ℕ} → 0 < left → Passes f s p e → Passing f s a n e (left - 1)
    list_on {e} z P = record { walk = onward W.walk e z (λ v q h. P.to h) (λ us v d h. tt) }

    pub list_end : {at c : ℕ} → ReadsNumber s at n a → left ≤ 0 → Passes (list c f) s at p
    list_end N z = record {
      to = λ {v} {q} h.
          let x = (listed h).1 in
          let e : a ≡ _ = N.next x.count in
          let A = W.walk.at v q (sym (N.value x.count)) (rw e x.values) in
          none_left f s p q A.ahead (omega (arith, A.count)) A.stand;
    }
