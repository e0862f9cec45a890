-- Law. Each answer of the probe of alert texts is the promised one.
use Rattle.std.specs.Prelude.{◌≡◌, refl, List, [], ◌∷◌, Bool, true, false, cond, not, ◌||◌, ℕ, suc, ◌+◌, ◌-◌, ◌≤◌, ◌<◌, ltb, eqb, length, drop}
use Rattle.std.proofs.Common.{sym, ap, ◌∙◌, arith, lt-ltb, le-ltb, ltb-true, eq-eqb, eqb-true, ne_eqb}
use Rattle.std.proofs.lemmas.Bool.{eqb-false, not-true, not-false}
use Rattle.basics.specs.Lists.{member}
use Rattle.basics.specs.Laws.Booleans.{and_no, or_comm}
use Rattle.alerts.specs.Text.{trim, trim_start, trim_end}
use Rattle.alerts_patterns.specs.Promises.Tables.{up_to}
use Rattle.alerts_text.specs.Promises.Blob.{Answered, fits_of}
use Rattle.alerts_text.specs.Laws.Blob.{texts_fit_holds}
use Rattle.alerts_probes.specs.Probes.{texts_fit}

-- room
module _ (n h d s : ℕ) where
  pub room_header : n ≤ h → false ≡ ltb (h + d + s) n
  room_header g = sym (le-ltb (h + d + s) n (omega arith))

  pub room_description : h < n → n - h ≤ d → false ≡ ltb (h + d + s) n
  room_description g l = sym (le-ltb (h + d + s) n (omega arith))

  pub room_short : h < n → d < n - h → n - h - d ≤ s → false ≡ ltb (h + d + s) n
  room_short g l m = sym (le-ltb (h + d + s) n (omega arith))

  pub room_all : h < n → d < n - h → s < n - h - d → true ≡ ltb (h + d + s) n
  room_all g l m = sym (lt-ltb (h + d + s) n (omega arith))

  pub room_true : (t : Bool) → t ≡ ltb (h + d + s) n → not t ≡ false → h + d + s < n
  room_true t e g = ltb-true (h + d + s) n (sym e ∙ not-false t g)

-- a name without a space is trimmed
spaced : (s : List ℕ) → up_to 32 s < length s → member 32 s ≡ true
spaced [] h = absurd (omega arith)
spaced (b ∷ s) h = go (eqb b 32) refl h (spaced s)
  where
    go : (t : Bool) → eqb b 32 ≡ t → cond t 0 (suc (up_to 32 s)) < suc (length s)
        → (up_to 32 s < length s → member 32 s ≡ true) → eqb 32 b || member 32 s ≡ true
    go true e h ih = rw (eq-eqb 32 b (sym (eqb-true b 32 e))) refl
    go false e h ih = rw (ih (omega arith)) (or_comm (eqb 32 b) true)

module _ (b : ℕ) (s : List ℕ) where
  unspaced_first : length (b ∷ s) ≤ up_to 32 (b ∷ s) → (eqb b 32 ≡ false) × (length s ≤ up_to 32 s)
  unspaced_first h = go (eqb b 32) refl h
    where
      go : (t : Bool) → eqb b 32 ≡ t → suc (length s) ≤ cond t 0 (suc (up_to 32 s))
          → (t ≡ false) × (length s ≤ up_to 32 s)
      go true e h = absurd (omega arith)
      go false e h = (refl, omega arith)

unspaced : (s : List ℕ) → length s ≤ up_to 32 s → member 32 s ≡ false
unspaced [] h = refl
unspaced (b ∷ s) h =
    let (e, l) = unspaced_first b s h in
    rw (unspaced s l, ne_eqb 32 b (λ x. eqb-false b 32 e (sym x))) refl

end_kept : (s : List ℕ) → length s ≤ up_to 32 s → trim_end s ≡ s
end_kept [] h = refl
end_kept (b ∷ s) h = let (e, l) = unspaced_first b s h in rw (end_kept s l, e) refl

start_kept : (s : List ℕ) → length s ≤ up_to 32 s → trim_start s ≡ s
start_kept [] h = refl
start_kept (b ∷ s) h = let (e, l) = unspaced_first b s h in rw e refl

kept : (s : List ℕ) → length s ≤ up_to 32 s → trim s ≡ s
kept s h = ap trim_end (start_kept s h) ∙ end_kept s h

-- the answers
module _ (room : ℕ) (h d short : List ℕ) (k : ℕ) (e : k ≡ 0 + up_to 32 (drop 0 short)) where
  pub probe_spaced : k < length short → false ≡ texts_fit room h d short
  probe_spaced g =
      let l : up_to 32 short < length short = omega (arith, e) in
      sym (rw (spaced short l) (and_no (ltb (length h + length d + length short) room)))

  module _ (g : length short ≤ k) (t : Bool) (et : t ≡ ltb (length h + length d + length short) room) where
    pub probe_full : not t ≡ true → false ≡ texts_fit room h d short
    probe_full n = sym (rw (← et, not-true t n) refl)

    pub probe_fits : (old new : List ℕ) (r : Bool) → not t ≡ false → Answered old new r (fits_of h d short)
        → r ≡ texts_fit room h d short
    probe_fits old new r n A =
        let l : length short ≤ up_to 32 short = omega (arith, e) in
        A.is ∙ sym
        (rw (← et, not-false t n, unspaced short l) (texts_fit_holds h d short [] ∙ ap (fits_of h d) (kept short l)))
