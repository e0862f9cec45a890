-- `list_ids` on plain values: the ids so far and those of the selectors that are left. Assumes nothing.
use Rattle.std.specs.Prelude.{Option}
use Prim.Native.Nat.{ℕ, ◌+◌, ◌≤◌, ◌<◌}
use mathlib.Core.Path.{◌≡◌, sym, ap, ◌∙◌}
use mathlib.Core.Bool.{not}
use mathlib.Core.List.{List, [], ◌∷◌, map}
use native.Mathlib.Omega.{arith}
use lib.ListN.{length, take, drop}
use Rattle.basics.specs.Lists.{filter, is_empty}
use Rattle.formats_write.specs.Promises.Adds.{Adds}
use Rattle.formats_write.specs.Promises.Given.{text_w}
use Rattle.realtime.specs.Tree.{Tree}
use Rattle.realtime.specs.Schema.{feed, alert_entity, alert, entity_selector}
use Rattle.realtime_views.specs.Laws.Turns.{Walked, front_length, starts, walks_on, ends}
use Rattle.realtime_views.specs.Laws.Starts.{left_merged, merged_sound}
use Rattle.realtime_views.specs.Promises.Starts.{at_merged}
use Rattle.realtime_views.specs.Promises.Views.{part_in}
use Rattle.realtime_views.specs.Promises.Walks.{Yields, left}
use Rattle.realtime_views.specs.declared.Item.{Item}
use Rattle.realtime_views.specs.declared.TextPart.{TextPart}
use Rattle.realtime_views.specs.declared.Walk.{Walk}
use Rattle.decode.specs.Key.{prefixed}
use Rattle.alerts_feed.specs.Sheet.{ids_by}
use Rattle.alerts_views.specs.Promises.Views.{IdRead, Writable, id_of, selectors}
use Rattle.alerts_sheet.specs.Laws.Written.{few_ids, part_length}
use Rattle.alerts_sheet.specs.Promises.Written.{ListedIds, named, named_ids}
use Rattle.alerts_sheet.proofs.Progress.{Progress, begins, goes_on, is_done, still}

-- n ids of e are written, and those of the selectors in z are left
pub record Listed (kind : ℕ) (name l : List ℕ) (r : Option ℕ) (m : List ℕ) (q : Option ℕ) (n : ℕ) (e : Tree)
    (z : List Tree) :
    Type 0 where
  pub progress : Progress text_w l r m q (named_ids kind name e) (ids_by (id_of kind) name z)
  pub counted : n + length (ids_by (id_of kind) name z) ≡ length (named_ids kind name e)

-- THE INVARIANT
pub record Listing (kind : ℕ) (name s : List ℕ) (start len : ℕ) (l : List ℕ) (r : Option ℕ) (m : List ℕ)
    (q : Option ℕ) (n : ℕ)
    (w : Walk) : Type 0 where
  pub walked : Walked feed alert_entity 5 alert 5 alert_entity s start len (Listed kind name l r m q n) w

pub listing : (kind : ℕ) (name s : List ℕ) (start len : ℕ) {l : List ℕ} {r : Option ℕ} {w : Walk}
    → start + len ≤ length s
    → w ≡ at_merged start → Listing kind name s start len l r l r 0 w
listing kind name s start len i e = record {
  walked = starts s start len selectors i (merged_sound start (omega (arith, front_length s (start + len) i)) e)
      (ap (left feed alert_entity 5 alert 5 (take (start + len) s)) e
      ∙ left_merged feed alert_entity 5 alert 5 s start len i)
      (λ t. record { progress = begins; counted = omega arith });
}

part_none : (s : List ℕ) (t : TextPart) → t.len ≤ 0 → part_in s t ≡ []
part_none s t h = let z : t.len ≡ 0 = omega arith in ap (λ k. take k (drop t.start s)) z

-- the ids of a selector and of others: its own is empty, or not
ids_none : (id : Tree → List ℕ) (name : List ℕ) (y : Tree) (z : List Tree) → id y ≡ []
    → ids_by id name (y ∷ z) ≡ ids_by id name z
ids_none id name y z e = ap (λ v. map (prefixed name) (filter (λ x. not (is_empty x)) (v ∷ map id z))) e

ids_some : (id : Tree → List ℕ) (name x : List ℕ) (y : Tree) (z : List Tree) → id y ≡ x → 0 < length x
    → ids_by id name (y ∷ z) ≡ named name x ∷ ids_by id name z
ids_some id name [] y z e h = absurd (omega arith)
ids_some id name (a ∷ x) y z e h =
    ap (λ v. map (prefixed name) (filter (λ x. not (is_empty x)) (v ∷ map id z))) e

module _ {kind : ℕ} {name s : List ℕ} {start len : ℕ} {l : List ℕ} {r : Option ℕ} {m : List ℕ} {q : Option ℕ} {n : ℕ}
    {w : Walk}
    (L : Listing kind name s start len l r m q n w) where
  -- few are written
  pub lists_few : Writable s start len → n ≤ 32
  lists_few W =
      let H = L.walked.of W.entity W.whole in
      omega (arith, H.holds.counted, few_ids kind name W.entity W.fair)

  pub lists_length : Writable s start len → length m ≡ length l
  lists_length W = (L.walked.of W.entity W.whole).holds.progress.adds.size

  module _ {x : List ℕ} (X : x ≡ take (start + len) s) {o : Item}
      (N : Yields feed alert_entity 5 alert 5 entity_selector x w o) where
    -- no selector is left
    pub listed : o ≡ Item.Done → ListedIds kind name s start len l r m (record { next = q; count = n })
    listed d = record {
      adds = λ e h. is_done (ends L.walked X N d e h).progress;
      counted = λ e h. omega (arith, (ends L.walked X N d e h).counted);
    }

    module _ {i k : ℕ} {w' : Walk} (a : o ≡ Item.At i k w') {t : TextPart} (I : IdRead s i k kind t) where
      -- the id of the next is empty
      pub lists_past : t.len ≤ 0 → Listing kind name s start len l r m q n w'
      lists_past h = record {
        walked = walks_on L.walked X N a (λ e y z f g H.
            let v = ids_none (id_of kind) name y z (sym (I.of y g) ∙ part_none s t h) in
            record { progress = still H.progress v; counted = omega (arith, H.counted, ap length v) });
      }

      -- or is written
      pub lists_on : {m' : List ℕ} {q' : Option ℕ} → 0 < t.len → Adds m q m' q' (text_w (named name (part_in s t)))
          → Listing kind name s start len l r m' q' (n + 1) w'
      lists_on h b = record {
        walked = walks_on L.walked X N a (λ e y z f g H.
            let x : 0 < length (part_in s t) = omega (arith, part_length s t I.inside) in
            let v = ids_some (id_of kind) name (part_in s t) y z (sym (I.of y g)) x in
            record {
              progress = goes_on (still H.progress v) b;
              counted = omega (arith, H.counted, ap length v);
            });
      }
