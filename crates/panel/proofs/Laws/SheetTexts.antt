-- Law. The sheet of a message within questions 4 and 5 is within question 5 itself: with its prefix an id has at most
-- 64 bytes, and headers and descriptions keep their own limits.
use Rattle.std.specs.Prelude.{◌≡◌, Bool, true, false, cond, not, ◌&&◌, List, [], ◌∷◌, map, ℕ, ◌-◌, leb, length}
use Rattle.std.proofs.Math.Path.{refl}
use Rattle.std.proofs.Common.{sym, ap, ap₂, ◌∙◌, arith, leb-true}
use Rattle.std.proofs.Math.Option.{Option, none, some}
use Rattle.basics.specs.Lists.{All, filter, is_empty}
use Rattle.basics.specs.Laws.Booleans.{both_true}
use Rattle.formats.specs.Class.{printable, utf8, token, in_class}
use Rattle.formats.specs.Format.{text, optional}
use Rattle.formats_judge.specs.Judged.{ok}
use Rattle.realtime.specs.Tree.{Tree, end, num, txt, msg, Leaf, count, words, tree, last, sub, rep}
use Rattle.realtime.specs.Schema as schema
use Rattle.realtime.specs.Schema.{field_rows, feed, alert_message, alert_entity, entity_selector, selected_trip}
use Rattle.realtime.specs.Schema.{header_text, header_translation, description_text, description_translation}
use Rattle.realtime.specs.Judge.{Rules, rules_by, text_rule, limit_by, class_by, texts_fine, numbers_fine}
use Rattle.realtime.specs.Typed.{text_in}
use Rattle.decode.specs.Key.{prefixed}
use Rattle.decode.specs.Laws.Fine.{FineTree, Given, LeafFine, fine_sub, fine_rep, fine_last, tree_fine}
use Rattle.alerts.specs.Alert.{alert, alert_sheet, ids}
use Rattle.alerts_feed.specs.Sheet.{text_given, first_text, ids_of, ids_by, trip_id, route_id, stop_id, alert_in, has_alert}
use Rattle.alerts_feed.specs.Sheet.{sheet_in}
use Rattle.overlay.proofs.Laws.Within.{Judged56, both, joined, listed, absent, present}
use Rattle.overlay.proofs.Laws.Keys.{Printed, printed_judged, printed_append, printed_up, token_printed}

-- ---- the rules of texts alone: a message of alerts has no listed number that one is asked of

abbrev texts : ℕ → Rules
texts n = record { text = text_rule n; number = λ t f v. true }

same_texts : (n t : ℕ) (m : Tree) → texts_fine (texts n) t m ≡ texts_fine (rules_by n) t m
same_texts n t end = refl
same_texts n t (num f v r) = same_texts n t r
same_texts n t (txt f x r) = ap (λ b. text_rule n t f x && b) (same_texts n t r)
same_texts n t (msg f u m r) = ap₂ ◌&&◌ (same_texts n u m) (same_texts n t r)

no_numbers : (n t : ℕ) (m : Tree) → numbers_fine (texts n) t m ≡ true
no_numbers n t end = refl
no_numbers n t (num f v r) = no_numbers n t r
no_numbers n t (txt f x r) = no_numbers n t r
no_numbers n t (msg f u m r) = both (no_numbers n u m) (no_numbers n t r)

abbrev FineIn : ℕ → ℕ → Tree → Type 0
FineIn n t m = FineTree feed (texts n) t m

-- ---- a header, and a description: the first translation's last text, of type t

module _ (n t most : ℕ) (limit : limit_by n t 1 ≡ most) (kind : class_by t ≡ utf8) where
  given_judged : (o : Option Leaf) → Given (LeafFine feed (texts n) t 1) o
      → Judged56 (optional (text most utf8)) (text_given o)
  given_judged none h = absent (text most utf8)
  given_judged (some (count v)) h = absent (text most utf8)
  given_judged (some (words x)) h =
      present (text most utf8) x (record {
        formed = tt;
        five = ap₂ (λ l c. leb (length x) l && in_class c x) (sym limit) (sym kind) ∙ h;
        six = refl;
      })

  first_judged : (l : List Tree) → All (FineIn n t) l → Judged56 (optional (text most utf8)) (first_text l)
  first_judged [] h = absent (text most utf8)
  first_judged (m ∷ l) h = given_judged (last 1 m) (fine_last feed (texts n) t 1 m h.0)

-- ---- ids

-- the last text of a field that holds an id
id_printed : (n t k : ℕ) (m : Tree) → limit_by n t k ≡ n → class_by t ≡ printable → FineIn n t m
    → Printed n (text_in (last k m))
id_printed n t k m limit kind x = go (last k m) (fine_last feed (texts n) t k m x)
  where
    go : (o : Option Leaf) → Given (LeafFine feed (texts n) t k) o → Printed n (text_in o)
    go none h = record { short = omega arith; fair = refl }
    go (some (count v)) h = record { short = omega arith; fair = refl }
    go (some (words s)) h =
        let q = both_true (leb (length s) (limit_by n t k)) (in_class (class_by t) s) h in
        record {
          short = omega (arith, leb-true (length s) (limit_by n t k) q.0, limit);
          fair = ap (λ c. in_class c s) (sym kind) ∙ q.1;
        }

module _ (f : List ℕ) (name : ok 5 (text 16 token) f ≡ true) where
  abbrev left : ℕ
  left = 63 - length f

  prefixed_judged : (x : List ℕ) → Printed left x → Judged56 (text 64 printable) (prefixed f x)
  prefixed_judged [] p = printed_judged 64 [] (record { short = omega arith; fair = refl })
  prefixed_judged (b ∷ x) p =
      let q = token_printed f name in
      printed_judged 64 _
      (printed_up (omega (arith, q.short))
      (printed_append (length f) (64 - length f) f (58 ∷ b ∷ x) (record { short = omega arith; fair = q.fair })
      (record { short = omega (arith, p.short, q.short); fair = p.fair })))

  module _ (id : Tree → List ℕ) (printed : (s : Tree) → FineIn left entity_selector s → Printed left (id s)) where
    each_id : (l : List Tree) → All (FineIn left entity_selector) l
        → All (Judged56 (text 64 printable)) (ids_by id f l)
    each_id [] h = tt
    each_id (s ∷ l) h = go (not (is_empty (id s))) (each_id l h.1)
      where
        go : (b : Bool) → All (Judged56 (text 64 printable)) (ids_by id f l)
            → All (Judged56 (text 64 printable)) (map (prefixed f) (cond b (id s ∷ ids_of id l) (ids_of id l)))
        go true r = (prefixed_judged (id s) (printed s h.0), r)
        go false r = r

    ids_judged : (l : List Tree) → All (FineIn left entity_selector) l → Judged56 ids (ids_by id f l)
    ids_judged l h = listed 32 (text 64 printable) (ids_by id f l) (each_id l h)

  trip_id_printed : (s : Tree) → FineIn left entity_selector s → Printed left (trip_id s)
  unfolding feed field_rows
  trip_id_printed s x =
      id_printed left selected_trip 1 (sub 4 s) refl refl
      (fine_sub feed (texts left) entity_selector 4 selected_trip refl s x)

  alert_judged : (e : Tree) → FineIn left alert_entity e → Judged56 alert (alert_in f e)
  unfolding alert_in feed field_rows
  alert_judged e x =
      let a = fine_sub feed (texts left) alert_entity 5 schema.alert refl e x in
      let h = fine_sub feed (texts left) schema.alert 10 header_text refl (sub 5 e) a in
      let d = fine_sub feed (texts left) schema.alert 11 description_text refl (sub 5 e) a in
      let l = fine_rep feed (texts left) schema.alert 5 entity_selector refl (sub 5 e) a in
      joined _
      (first_judged left header_translation 512 refl refl (rep 1 (sub 10 (sub 5 e)))
      (fine_rep feed (texts left) header_text 1 header_translation refl (sub 10 (sub 5 e)) h))
      (joined _
      (first_judged left description_translation 2048 refl refl (rep 1 (sub 11 (sub 5 e)))
      (fine_rep feed (texts left) description_text 1 description_translation refl (sub 11 (sub 5 e)) d))
      (joined _ (absent (text 64 utf8))
      (joined _ (ids_judged trip_id trip_id_printed (rep 5 (sub 5 e)) l)
      (joined _
      (ids_judged route_id (λ s x. id_printed left entity_selector 2 s refl refl x) (rep 5 (sub 5 e)) l)
      (ids_judged stop_id (λ s x. id_printed left entity_selector 5 s refl refl x) (rep 5 (sub 5 e)) l)))))

  alerts_judged : (l : List Tree) → All (FineIn left alert_entity) l
      → All (Judged56 alert) (map (alert_in f) (filter has_alert l))
  alerts_judged [] h = tt
  alerts_judged (e ∷ l) h = go (has_alert e) (alerts_judged l h.1)
    where
      go : (b : Bool) → All (Judged56 alert) (map (alert_in f) (filter has_alert l))
          → All (Judged56 alert) (map (alert_in f) (cond b (e ∷ filter has_alert l) (filter has_alert l)))
      go true r = (alert_judged e h.0, r)
      go false r = r

  -- THE SHEET OF A MESSAGE
  pub sheet_judged : (m : List ℕ) (t : Tree) → tree feed alert_message m ≡ some t
      → texts_fine (rules_by (63 - length f)) alert_message t ≡ true → Judged56 alert_sheet (sheet_in f t)
  unfolding sheet_in feed field_rows
  sheet_judged m t e h =
      let x = tree_fine feed (texts left) alert_message m t e (same_texts left alert_message t ∙ h)
      (no_numbers left alert_message t) in
      joined _ (record { formed = tt; five = refl; six = refl })
      (listed 256 alert _ (alerts_judged (rep 2 t) (fine_rep feed (texts left) alert_message 2 alert_entity refl t x)))
