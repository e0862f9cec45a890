-- Law. What the walk and the zeros behind it say is what `state_of` says.
use Rattle.std.specs.Prelude.{◌≡◌, Bool, true, false, List, [], ◌∷◌, ℕ, ◌-◌, eqb, length, take, drop, Option, Some, None}
use Rattle.std.proofs.Math.Path.{refl, sym}
use Rattle.std.proofs.Common.{ap, ◌∙◌, arith, length-append, length-drop, take_all, eqb-true, eq-eqb, ne_eqb}
use Rattle.std.proofs.Math.Option.{Option as LogicOption}
use Rattle.std.proofs.lemmas.Bool.{eqb-false}
use Rattle.basics.specs.Lists.{all}
use Rattle.basics.specs.Laws.Booleans.{and_no}
use Rattle.slices.specs.Lists.{zeros}
use Rattle.formats.specs.Format.{read, write}
use Rattle.formats.specs.Laws.Format.{law}
use Rattle.formats_check.specs.Promises.Checked.{holds, Tested}
use Rattle.formats_check.specs.Laws.Checked.{Missed, absent, refused, missed, Good, good}
use Rattle.overlay.specs.State.{State, overlay}
use Rattle.overlay.specs.Image.{held_state, state_of}
use Rattle.overlay_open.specs.Promises.State.{state_good}
use Rattle.overlay_open.specs.Promises.Opened.{ending}
use Rattle.overlay_open.specs.Laws.Valid.{state_valid}

eqb_flip : (x : ℕ) → eqb x 0 ≡ eqb 0 x
eqb_flip x = go (eqb x 0) refl
  where
    go : (t : Bool) → eqb x 0 ≡ t → t ≡ eqb 0 x
    go true e = sym (eq-eqb 0 x (sym (eqb-true x 0 e)))
    go false e = sym (ne_eqb 0 x (λ z. eqb-false x 0 e (sym z)))

zeros_is : (s : List ℕ) → zeros s ≡ all (eqb 0) s
unfolding zeros
zeros_is [] = refl
zeros_is (x ∷ s) = rw (eqb_flip x, zeros_is s) refl

-- nothing that is good is read
missed_held : (o : LogicOption (State × List ℕ)) → Missed (holds state_good) o → None ≡ ending (held_state o)
missed_held o (absent i) = rw i refl
missed_held o (refused y i t) =
    let v = sym (state_valid y.0) ∙ t in rw (i, v, and_no (all (eqb 0) y.1)) refl

module _ {s : List ℕ} {x : Option ℕ} (T : Tested overlay state_good s 0 x) where
  pub open_none : x ≡ None → None ≡ ending (state_of s)
  unfolding state_of
  open_none h = missed_held (read overlay s) (missed T.is h)

  module _ {p : ℕ} (h : x ≡ Some p) where
    G : Good (read overlay) (holds state_good) s 0 p
    G = good T.is h

    -- the state ends at p
    ends : length (write overlay G.value) ≡ p
    ends =
        omega (
          arith,
          ap length ((law overlay).back s G.value (drop p s) G.reads).0,
          length-append (write overlay G.value) (drop p s),
          length-drop p s,
          G.within,
        )

    module _ {b : Bool} (z : b ≡ zeros (take (length s - p) (drop p s))) where
      rest : {c : Bool} → b ≡ c → all (eqb 0) (drop p s) ≡ c
      rest i =
          sym
          (z ∙ ap zeros (take_all (length s - p) (drop p s) (omega (arith, length-drop p s))) ∙ zeros_is (drop p s))
          ∙ i

      pub open_rest : b ≡ false → None ≡ ending (state_of s)
      unfolding state_of
      open_rest i = rw (G.reads, rest i) refl

      pub open_so : b ≡ true → Some p ≡ ending (state_of s)
      unfolding state_of
      open_so i =
          let v = sym (state_valid G.value) ∙ G.fits in rw (G.reads, rest i, v) (ap Some (sym ends))
