-- Law. What the code counts of a message's alerts is question 7 of them, as a value of the sheet's format.
use Rattle.std.specs.Prelude.{ℕ, ◌≡◌, refl, Bool, true, false, cond, ◌&&◌, List, [], ◌∷◌, map, leb, length}
use Rattle.std.proofs.Common.{sym, ap₂, ◌∙◌, inl, inr}
use Rattle.std.proofs.lemmas.List.{length-map}
use Rattle.basics.specs.Lists.{all}
use Rattle.basics.specs.Options.{Maybe}
use Rattle.basics.specs.Laws.Booleans.{and_yes}
use Rattle.formats.specs.Class.{Class, printable, utf8}
use Rattle.formats.specs.Format.{text, optional}
use Rattle.formats_judge.specs.Judged.{ok}
use Rattle.realtime.specs.Tree.{Tree, sub}
use Rattle.alerts.specs.Alert.{ids, alert, alert_sheet}
use Rattle.alerts_feed.specs.Sheet.{translated, ids_of, ids_by, trip_id, route_id, stop_id, alert_in, sheet_in}
use Rattle.alerts_views.specs.Promises.Views.{few, kept_count, kept_in, selectors}

-- question 7 does not ask a text
text_yes : (l : ℕ) (c : Class) (v : Maybe (List ℕ)) → ok 7 (optional (text l c)) v ≡ true
text_yes l c (inl v) = refl
text_yes l c (inr v) = refl

texts_yes : (l : List (List ℕ)) → all (ok 7 (text 64 printable)) l ≡ true
texts_yes [] = refl
texts_yes (x ∷ l) = texts_yes l

-- the ids of a kind are counted
ids_seven : (id : Tree → List ℕ) (f : List ℕ) (l : List Tree) → ok 7 ids (ids_by id f l) ≡ leb (length (ids_of id l)) 32
ids_seven id f l =
    let same : length (ids_by id f l) ≡ length (ids_of id l) = simp length-map in
    ap₂ (λ n b. leb n 32 && b) same (texts_yes (ids_by id f l)) ∙ and_yes (leb (length (ids_of id l)) 32)

alert_seven : (f : List ℕ) (e : Tree) → ok 7 alert (alert_in f e) ≡ few e
unfolding alert_in
alert_seven f e =
    let a = sub 5 e in
    rw (
      text_yes 512 utf8 (translated (sub 10 a)),
      text_yes 2048 utf8 (translated (sub 11 a)),
      ids_seven trip_id f (selectors e),
      ids_seven route_id f (selectors e),
      ids_seven stop_id f (selectors e),
    ) refl

alerts_seven : (f : List ℕ) (l : List Tree) → all (ok 7 alert) (map (alert_in f) l) ≡ all few l
alerts_seven f [] = refl
alerts_seven f (e ∷ l) = ap₂ ◌&&◌ (alert_seven f e) (alerts_seven f l)

-- QUESTION 7 OF THE SHEET: each alert that is kept has few ids, and they are at most 256
pub sheet_seven : (f : List ℕ) (m : Tree)
    → ok 7 alert_sheet (sheet_in f m) ≡ (leb (length (kept_in m)) 256 && all few (kept_in m))
unfolding sheet_in
sheet_seven f m =
    ap₂ (λ n b. leb n 256 && b) (length-map (kept_in m) (alert_in f)) (alerts_seven f (kept_in m))

within : (t : Bool) (n : ℕ) → leb (cond (t && leb n 256) n 257) 256 ≡ (leb n 256 && t)
within t n = go t (leb n 256) refl
  where
    go : (t b : Bool) → leb n 256 ≡ b → leb (cond (t && b) n 257) 256 ≡ (b && t)
    go true true e = e
    go true false e = refl
    go false true e = refl
    go false false e = refl

-- IT IS THE CODE'S COUNT
pub kept_seven : (f : List ℕ) (m : Tree) → leb (kept_count (kept_in m)) 256 ≡ ok 7 alert_sheet (sheet_in f m)
kept_seven f m = within (all few (kept_in m)) (length (kept_in m)) ∙ sym (sheet_seven f m)
