-- `with_alert` and `kept` on plain values: the alerts so far and the entities that are left. Assumes nothing.
use Prim.Native.Nat.{ℕ, ◌+◌, ◌≤◌, ◌<◌}
use mathlib.Core.Path.{◌≡◌, refl, sym, ap, subst, ◌∙◌}
use mathlib.Core.Bool.{Bool, true, false, cond, not, ◌&&◌}
use mathlib.Core.List.{List, [], ◌∷◌}
use mathlib.Core.Option.{some, map}
use native.Mathlib.Omega.{arith}
use lib.Dec.{leb}
use lib.ListN.{length}
use borrow.Author.Tests.{le-leb, lt-leb, not-true, not-false}
use Rattle.basics.specs.Lists.{filter, all}
use Rattle.basics.specs.Laws.Booleans.{and_no}
use Rattle.realtime.specs.Tree.{Tree, tree, rep}
use Rattle.realtime.specs.Schema.{feed, alert_message}
use Rattle.realtime_views.specs.declared.Walk.{Walk}
use Rattle.realtime_views.specs.declared.Item.{Item}
use Rattle.realtime_views.specs.Promises.Starts.{at_plain}
use Rattle.realtime_views.specs.Promises.Walks.{SoundWalk, left, ahead}
use Rattle.realtime_views.specs.Laws.Starts.{left_plain, plain_sound}
use Rattle.realtime_views.specs.Laws.Turns.{Left}
use Rattle.realtime_views.specs.Laws.Walks.{found, yielded}
use Rattle.alerts_feed.specs.Sheet.{has_alert}
use Rattle.alerts_views.specs.Promises.Views.{FewRead, KeptRead, LeftRead, few, kept_count, kept_in}
use Rattle.alerts_views.specs.Promises.Walks.{AlertCounted, NextEntity, with_alert}

-- ---- one entity

module _ {s : List ℕ} {i l n : ℕ} (h : n ≤ 256) {b : Bool} (L : LeftRead s i l b) where
  pub none_more : not b ≡ true → AlertCounted s i l n n
  none_more f = record {
    of = λ e q. sym (ap (λ x. cond x (cond (few e) (n + 1) 257) n) (sym (L.of e q) ∙ not-true b f));
    most = omega arith;
  }

  module _ (t : not b ≡ false) {d : Bool} (F : FewRead s i l d) where
    left_is : (e : Tree) → has_alert e ≡ true → (x : Bool) → few e ≡ x → with_alert n e ≡ cond x (n + 1) 257
    left_is e g x k =
        ap (λ y. cond y (cond (few e) (n + 1) 257) n) g ∙ ap (λ y. cond y (n + 1) 257) k

    pub one_more : d ≡ true → AlertCounted s i l n (n + 1)
    one_more f = record {
      of = λ e q. sym (left_is e (sym (L.of e q) ∙ not-false b t) true (sym (F.of e q) ∙ f));
      most = omega arith;
    }

    pub too_many : d ≡ false → AlertCounted s i l n 257
    too_many f = record {
      of = λ e q. sym (left_is e (sym (L.of e q) ∙ not-false b t) false (sym (F.of e q) ∙ f));
      most = omega arith;
    }

-- ---- all entities

-- over n alerts, those that are left
abbrev pub kept_over : ℕ → List Tree → ℕ
kept_over n l = cond (all few l && leb (n + length l) 256) (n + length l) 257

over_none : (l : List Tree) → kept_over 0 l ≡ kept_count l
over_none l =
    let z : 0 + length l ≡ length l = omega arith in
    ap (λ k. cond (all few l && leb k 256) k 257) z

over_most : (n : ℕ) (l : List Tree) → 256 < n → kept_over n l ≡ 257
over_most n l h =
    ap (λ b. cond (all few l && b) (n + length l) 257) (lt-leb (n + length l) 256 (omega arith))
    ∙ ap (λ b. cond b (n + length l) 257) (and_no (all few l))

over_end : (n : ℕ) → n ≤ 256 → kept_over n [] ≡ n
over_end n h = ap (λ b. cond b (n + 0) 257) (le-leb (n + 0) 256 (omega arith)) ∙ omega arith

over_next : (n : ℕ) (e : Tree) (l : List Tree)
    → kept_over n (filter has_alert (e ∷ l)) ≡ kept_over (with_alert n e) (filter has_alert l)
over_next n e l = go (has_alert e) (few e) (filter has_alert l) refl
  where
    go : (b d : Bool) (k : List Tree) → few e ≡ d
        → kept_over n (cond b (e ∷ k) k) ≡ kept_over (cond b (cond d (n + 1) 257) n) k
    go false d k g = refl
    go true true k g =
        let z : n + length (e ∷ k) ≡ n + 1 + length k = omega arith in
        ap (λ x. cond ((x && all few k) && leb (n + length (e ∷ k)) 256) (n + length (e ∷ k)) 257) g
        ∙ ap (λ j. cond (all few k && leb j 256) j 257) z
    go true false k g =
        ap (λ x. cond ((x && all few k) && leb (n + length (e ∷ k)) 256) (n + length (e ∷ k)) 257) g
        ∙ sym (over_most 257 k (omega arith))

-- THE INVARIANT
pub record Keeping (s : List ℕ) (n : ℕ) (w : Walk) : Type 0 where
  pub most : n ≤ 257
  pub sound : SoundWalk s w.outer w.end w.at
  pub of : (m : Tree) → tree feed alert_message s ≡ some m
      → Left feed alert_message 0 alert_message 2 s w (λ l. kept_over n (filter has_alert l) ≡ kept_count (kept_in m))

pub keeping : (s : List ℕ) {w : Walk} → w ≡ at_plain s → Keeping s 0 w
keeping s {w} e = record {
  most = omega arith;
  sound = plain_sound e;
  of = λ m q. record {
    trees = rep 2 m;
    left = ap (left feed alert_message 0 alert_message 2 s) e ∙ left_plain feed alert_message 0 alert_message 2 s
        ∙ ap (map (rep 2)) q;
    holds = over_none (kept_in m);
  };
}

module _ {s : List ℕ} {n : ℕ} {w : Walk} (K : Keeping s n w) where
  -- too many, whatever is left
  pub kept_many : 256 < n → KeptRead s n
  kept_many h = record {
    of = λ m q. let L = K.of m q in
        let z : n ≡ 257 = omega (arith, K.most) in
        z ∙ sym (over_most n (filter has_alert L.trees) h) ∙ L.holds;
  }

  module _ {r : Item} (N : NextEntity s w r) where
    pub kept_all : r ≡ Item.Done → n ≤ 256 → KeptRead s n
    kept_all d h = record {
      of = λ m q. let L = K.of m q in
          sym (over_end n h)
          ∙ subst (λ l. kept_over n (filter has_alert l) ≡ kept_count (kept_in m)) (yielded N d L.trees L.left)
          L.holds;
    }

    module _ {i l : ℕ} {w' : Walk} (a : r ≡ Item.At i l w') where
      pub entity_inside : i + l ≤ length s
      entity_inside = (found N a).inside

      pub fewer : ahead s w' < ahead s w
      fewer = (found N a).less

      pub keeps_on : {k : ℕ} → AlertCounted s i l n k → Keeping s k w'
      keeps_on {k} A = record {
        most = A.most;
        sound = (found N a).sound;
        of = λ m q. let L = K.of m q in
            let (e, z, f, o, g) = yielded N a L.trees L.left in
            record {
              trees = z;
              left = g;
              holds = ap (λ j. kept_over j (filter has_alert z)) (A.of e o) ∙ sym (over_next n e z)
                  ∙ ap (λ x. kept_over n (filter has_alert x)) (sym f) ∙ L.holds;
            };
      }
