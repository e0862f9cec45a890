-- A turn of the loop of `seek`, on plain values. Assumes nothing.
use Rattle.std.specs.Prelude.{Option, Some, None}
use Prim.Native.Nat.{ℕ, ◌≤◌, ◌<◌}
use mathlib.Core.Path.{◌≡◌, refl, sym, ap, ◌∙◌}
use mathlib.Core.List.{List, ◌∷◌}
use mathlib.Core.Bool.{Bool, true, false, cond}
use mathlib.Core.Option.{Option as LogicOption, none, some, map}
use native.Mathlib.Omega.{arith}
use lib.ListN.{length, take, drop}
use lib.Dec.{eqb}
use borrow.Author.Tests.{eq-eqb, eqb-true, eqb-false}
use Rattle.basics.specs.Options.{bind_o}
use Rattle.basics.specs.Laws.Options.{none_some}
use Rattle.wire.specs.Laws.At.{key_broken, text_read}
use Rattle.wire.specs.Laws.Bounds.{key_below}
use Rattle.wire.specs.Promises.Places.{key_at, text_at, skipped_at}
use Rattle.wire.specs.declared.Cursor.{Cursor}
use Rattle.realtime.specs.Tree.{a_message, Tree, end, msg, tree, rep}
use Rattle.realtime.specs.Schema.{feed}
use Rattle.realtime_read.specs.Laws.Passing.{Besides, Passed, besides_rep}
use Rattle.realtime_read.proofs.Passing.{here}
use Rattle.realtime_read.proofs.Turn.{at_end, key_bad, lies}
use Rattle.realtime_read.specs.Promises.Steps.{Lies}
use Rattle.realtime_views.specs.Promises.Seeks.{Holding, Finds, Seeks}
use Rattle.realtime_views.proofs.Wires.{keyed, text_none, text_passed, message_step, other_none, other_passed}
use Rattle.realtime_views.proofs.Wires.{no_message}

-- the loop stands at `at`: the messages at field k that were there are there still
pub record Seeking (k : ℕ) (s : List ℕ) (from at : ℕ) : Type 0 where
  pub of : (t u : ℕ) → Holding feed t k u → (m : Tree) → tree feed t (drop from s) ≡ some m
      → (y : Tree) × (tree feed t (drop at s) ≡ some y) × (rep k m ≡ rep k y)
  pub ahead : from ≤ at

module _ {k : ℕ} {s : List ℕ} {from at : ℕ} (W : Seeking k s from at) where
  -- where the bytes are broken any answer will do
  lost : ((t : ℕ) → tree feed t (drop at s) ≡ none) → Seeks feed k s from None
  lost h = record { of = λ t u H m e. let (y, q, r) = W.of t u H m e in none_some (sym (h t) ∙ q); lying = tt }

  pub seek_ends : length s ≤ at → Seeks feed k s from None
  seek_ends h = record {
    of = λ t u H m e.
        let (y, q, r) = W.of t u H m e in
        let z = (at_end {σ = feed} {t = t} {s = s} {from = at} refl h).same in
        let w : y ≡ end = cc in
        r ∙ ap (rep k) w;
    lying = tt;
  }

  module _ (h : at < length s) {o : Option (ℕ × ℕ × Cursor)} (j : o ≡ key_at s at) where
    pub seek_keyless : o ≡ None → Seeks feed k s from None
    seek_keyless e = lost (λ t. (key_bad {σ = feed} {t = t} {from = at} refl h (key_broken s at (sym e ∙ j))).same)

    module _ {f w : ℕ} {c : Cursor} (e : o ≡ Some (f, w, c)) where
      -- a field that is read is no field 0
      held : (t u : ℕ) → f ≡ k → Holding feed t k u → feed t f ≡ some (a_message u)
      held t u g H = ap (feed t) g ∙ H (λ z. omega (arith, (key_below _ _ _ (keyed s h j e).same).0, g, z))

      module _ {n : ℕ} (P : (t : ℕ) → Passed feed t s at f n) where
        -- a field that is not sought leaves all messages at k
        on : ((t u : ℕ) → Holding feed t k u → f ≡ k → tree feed t (drop at s) ≡ none) → Seeking k s from n
        on g = record {
          of = λ t u H m q.
              let (y, p, r) = W.of t u H m q in
              let (z, o, b) = (P t).of y p in
              go t u H m y z r p o b (eqb f k) refl;
          ahead = omega (arith, W.ahead, (P 0).ahead);
        }
          where
            go : (t u : ℕ) → Holding feed t k u → (m y z : Tree) → rep k m ≡ rep k y
                → tree feed t (drop at s) ≡ some y → tree feed t (drop n s) ≡ some z → Besides f y z
                → (b : Bool) → eqb f k ≡ b → (z : Tree) × (tree feed t (drop n s) ≡ some z) × (rep k m ≡ rep k z)
            go t u H m y z r p o b true e = none_some (sym (g t u H (eqb-true f k e)) ∙ p)
            go t u H m y z r p o b false e = (z, o, r ∙ besides_rep (eqb-false f k e) b)

      -- of another wire type than a message's
      module _ {x : Option Cursor} (y : x ≡ skipped_at s c.at f w 16) where
        pub seek_broken : x ≡ None → Seeks feed k s from None
        seek_broken r = lost (λ t. other_none s h j e y feed t r)

        pub seek_past : (w ≡ 2 → ⊥) → {a : Cursor} → x ≡ Some a → Seeking k s from a.at
        seek_past v r =
            on (other_passed s h j e y r feed) (λ t u H g. no_message feed t h (keyed s h j e) (held t u g H) v)

      -- of a message's
      module _ (v : w ≡ 2) {x : Option (ℕ × ℕ × Cursor)} (y : x ≡ text_at s c.at) where
        pub seek_cut : x ≡ None → Seeks feed k s from None
        seek_cut r = lost (λ t. text_none s h j e v y feed t r)

        module _ {i l : ℕ} {a : Cursor} (r : x ≡ Some (i, l, a)) where
          pub seek_other : (f ≡ k → ⊥) → Seeking k s from a.at
          seek_other g = on (text_passed s h j e v y r feed) (λ t u H z. absurd (g z))

          pub seek_found : f ≡ k → Seeks feed k s from (Some (i, l, a.at))
          seek_found g = record {
            of = λ t u H m q.
                let (b, p, z) = W.of t u H m q in
                let S = message_step s h j e v y r feed t (held t u g H) in
                go t u m b (sym S.same ∙ p) z;
            lying =
                farther
                (lies (here {σ = feed} {t = 0} h (keyed s h j e)) i l a.at (text_read s c.at i l a (sym r ∙ y)));
          }
            where
              farther : Lies s at i l a.at → Lies s from i l a.at
              farther L = record { ahead = omega (arith, L.ahead, W.ahead); ends = L.ends; inside = L.inside }

              go : (t u : ℕ) (m y : Tree)
                  → bind_o (tree feed u (take l (drop i s))) (λ x. map (msg f u x) (tree feed t (drop a.at s)))
                  ≡ some y
                  → rep k m ≡ rep k y → Finds feed t k u s m (Some (i, l, a.at))
              go t u m y b o = open_up (tree feed u (take l (drop i s))) (tree feed t (drop a.at s)) refl refl b
                where
                  open_up : (x z : LogicOption Tree) → tree feed u (take l (drop i s)) ≡ x
                      → tree feed t (drop a.at s) ≡ z → bind_o x (λ x. map (msg f u x) z) ≡ some y
                      → Finds feed t k u s m (Some (i, l, a.at))
                  open_up none z e₁ e₂ q = none_some q
                  open_up (some x) none e₁ e₂ q = none_some q
                  open_up (some x) (some z) e₁ e₂ q =
                      let j : y ≡ msg f u x z = cc in (
                        x,
                        z,
                        o ∙ ap (rep k) j ∙ ap (λ b. cond b (x ∷ rep k z) (rep k z)) (eq-eqb f k g),
                        e₁,
                        e₂,
                      )
