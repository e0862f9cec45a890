-- `id_of` on plain values: the text of a selector's scalar. Assumes nothing.
use Prim.Native.Nat.{ℕ}
use mathlib.Core.Path.{◌≡◌, refl, sym, ap, subst, ◌∙◌}
use mathlib.Core.Bool.{cond}
use mathlib.Core.List.{List}
use lib.Dec.{eqb}
use lib.ListN.{length}
use borrow.Author.Tests.{ne_eqb}
use Rattle.realtime.specs.Tree.{Tree, last}
use Rattle.realtime.specs.Schema.{field_rows, feed, entity_selector, selected_trip}
use Rattle.realtime.specs.Typed.{text_in}
use Rattle.realtime_views.specs.declared.Scalar.{Scalar}
use Rattle.realtime_views.specs.declared.TextPart.{TextPart}
use Rattle.realtime_views.specs.Promises.Narrow.{to_span}
use Rattle.realtime_views.specs.Promises.Scalars.{ScalarRead, OneRead, OneReadIn}
use Rattle.realtime_views.specs.Laws.Spans.{span_says, span_inside}
use Rattle.realtime_views.specs.Promises.Views.{part_in, PartInside}
use Rattle.alerts_feed.specs.Sheet.{route_id, stop_id, trip_id}
use Rattle.alerts_views.specs.Promises.Views.{id_of, IdRead}

module _ {s : List ℕ} {i l kind : ℕ} {x : Scalar} {r : TextPart} (E : r ≡ to_span x) where
  id_read : {inner : Tree → Tree} {k : ℕ} → ScalarRead feed entity_selector s i l inner k x
      → ((m : Tree) → id_of kind m ≡ text_in (last k (inner m))) → IdRead s i l kind r
  id_read Q h = record {
    of = λ m q. ap (part_in s) E ∙ span_says s x ∙ ap text_in (Q.of m q) ∙ sym (h m);
    inside = subst (PartInside (length s)) (sym E) (span_inside (length s) x Q.within);
  }

  pub trip_id_read : kind ≡ 4 → OneReadIn 4 1 s i l x → IdRead s i l kind r
  unfolding feed field_rows
  trip_id_read e Q = id_read (Q entity_selector selected_trip refl refl) (λ m. ap (λ k. id_of k m) e)

  pub route_id_read : kind ≡ 2 → OneRead 2 s i l x → IdRead s i l kind r
  unfolding feed field_rows
  route_id_read e Q = id_read (Q entity_selector refl) (λ m. ap (λ k. id_of k m) e)

  pub stop_id_read : (kind ≡ 4 → ⊥) → (kind ≡ 2 → ⊥) → OneRead 5 s i l x → IdRead s i l kind r
  unfolding feed field_rows
  stop_id_read h g Q =
      id_read (Q entity_selector refl)
      (λ m. ap (λ b. cond b (trip_id m) (cond (eqb kind 2) (route_id m) (stop_id m))) (ne_eqb kind 4 h)
      ∙ ap (λ b. cond b (route_id m) (stop_id m)) (ne_eqb kind 2 g))
