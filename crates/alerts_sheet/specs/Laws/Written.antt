-- Law. What is written for an id, for the ids of an entity's alert, for the alert and for a sheet, part by part.
use Rattle.std.specs.Prelude.{ℕ, ◌+◌, ◌-◌, ◌≤◌, ◌≡◌, refl, Bool, true, false, cond, ◌&&◌, List, [], ◌∷◌, ◌++◌, eqb, leb, length, take, drop, Option}
use Rattle.std.proofs.Common.{sym, ap, ◌∙◌, arith, length-append, length-drop, length-take-le, lt-ltb, leb-true}
use Rattle.std.proofs.Math.Option.{some-injective}
use Rattle.std.proofs.lemmas.List.{length-map}
use Rattle.std.proofs.Math.Seq.{slice, take-length}
use Rattle.basics.specs.Laws.Booleans.{and_true}
use Rattle.formats.specs.Number.{number_w}
use Rattle.formats.specs.Readers.{many_w}
use Rattle.formats_write.specs.Laws.Adds.{then, same}
use Rattle.formats_write.specs.Laws.Over.{put_over}
use Rattle.formats_write.specs.Laws.Slices.{slice_is}
use Rattle.formats_write.specs.Promises.Adds.{Adds}
use Rattle.formats_write.specs.Promises.Given.{Inside, given_text, optional_w, text_w}
use Rattle.realtime.specs.Tree.{Tree}
use Rattle.realtime_views.specs.declared.TextPart.{TextPart}
use Rattle.realtime_views.specs.Promises.Views.{PartInside, part_in}
use Rattle.decode.specs.Key.{prefixed}
use Rattle.alerts_feed.specs.Sheet.{alert_in, ids_of, route_id, sheet_in, stop_id, trip_id}
use Rattle.alerts_views.specs.Promises.Views.{WordsRead, Writable, few, ids_in, kept_in, selectors}
use Rattle.alerts_sheet.specs.declared.Ids.{Ids}
use Rattle.alerts_sheet.specs.Promises.Written.{ListedIds, Sheetable, WrittenAlert, WrittenAlerts, WrittenIds}
use Rattle.alerts_sheet.specs.Promises.Written.{WrittenSheet, named, named_ids}
use Rattle.formats.specs.declared.Span.{Span}

-- a part of s
pub part_length : (s : List ℕ) (t : TextPart) → PartInside (length s) t → length (part_in s t) ≡ t.len
part_length s t h = length-take-le t.len (drop t.start s) (omega (arith, length-drop t.start s))

part_is : (s : List ℕ) (t : TextPart) → PartInside (length s) t → slice t.start (t.start + t.len) s ≡ part_in s t
part_is s t h =
    let d : t.start + t.len - t.start ≡ t.len = omega arith in
    sym (slice_is t.start (t.start + t.len) s (omega arith) h) ∙ ap (λ k. take k (drop t.start s)) d

-- the feed's id, ':' and an id
pub id_adds : {l₀ l₁ l₂ l₃ l₄ : List ℕ} {r₀ r₁ r₂ r₃ r₄ : Option ℕ} (name s : List ℕ) (t : TextPart)
    → PartInside (length s) t → Adds l₀ r₀ l₁ r₁ (number_w (length name + 1 + t.len))
    → (0 ≤ length name → length name ≤ length name → Adds l₁ r₁ l₂ r₂ (slice 0 (length name) name))
    → Adds l₂ r₂ l₃ r₃ (58 ∷ [])
    → (t.start ≤ t.start + t.len → t.start + t.len ≤ length s
    → Adds l₃ r₃ l₄ r₄ (slice t.start (t.start + t.len) s))
    → Adds l₀ r₀ l₄ r₄ (text_w (named name (part_in s t)))
id_adds name s t h a b c d =
    let n : length name + 1 + t.len ≡ length (named name (part_in s t)) =
    omega (arith, length-append name (58 ∷ part_in s t), part_length s t h) in
    then (same a (ap number_w n))
    (then (same (b (omega arith) (omega arith)) (take-length name)) (then c (same (d (omega arith) h) (part_is s t h))))

-- no list of a fair entity has more than 32 ids
module _ (e : Tree) (h : few e ≡ true) where
  few_trips : (leb (length (ids_in 4 e)) 32 ≡ true)
      × (leb (length (ids_in 2 e)) 32 && leb (length (ids_in 5 e)) 32 ≡ true)
  few_trips = and_true h

  few_others : (leb (length (ids_in 2 e)) 32 ≡ true) × (leb (length (ids_in 5 e)) 32 ≡ true)
  few_others = and_true few_trips.1

  few_lists : (b c : Bool)
      → length (ids_of (λ x. cond b (trip_id x) (cond c (route_id x) (stop_id x))) (selectors e)) ≤ 32
  few_lists true c = leb-true (length (ids_in 4 e)) 32 few_trips.0
  few_lists false true = leb-true (length (ids_in 2 e)) 32 few_others.0
  few_lists false false = leb-true (length (ids_in 5 e)) 32 few_others.1

pub few_ids : (kind : ℕ) (name : List ℕ) (e : Tree) → few e ≡ true → length (named_ids kind name e) ≤ 32
few_ids kind name e h =
    omega (arith, length-map (ids_in kind e) (prefixed name), few_lists e h (eqb kind 4) (eqb kind 2))

one_byte : (n : ℕ) → n ≤ 32 → number_w n ≡ n ∷ []
one_byte n h = rw (lt-ltb n 128 (omega arith)) refl

-- the ids with their count in front
pub ids_adds : {kind : ℕ} {name s : List ℕ} {i n : ℕ} {l₀ l₁ l₂ l₃ : List ℕ} {r₀ r₁ r₃ : Option ℕ} {k : Ids}
    → Writable s i n
    → Adds l₀ r₀ l₁ r₁ (0 ∷ []) → ListedIds kind name s i n l₁ r₁ l₂ k → Adds l₂ r₀ l₃ r₃ (k.count ∷ [])
    → WrittenIds kind name s i n l₀ r₀ l₃ k.next
ids_adds {kind} {name} {k} W a L b = record {
  of = λ e q.
      let w = W.entity in
      let c : k.count ≤ 32 = omega (arith, L.counted w W.whole, few_ids kind name w W.fair) in
      let z : k.count ∷ [] ≡ number_w (length (named_ids kind name e)) =
      sym (one_byte k.count c) ∙ ap number_w (L.counted e q) in
      same (put_over a (L.adds e q) b) (ap (λ x. x ++ many_w text_w (named_ids kind name e)) z);
}

-- an alert: its words, no cause, its ids
pub alert_adds : {name s : List ℕ} {i n : ℕ} {l₀ l₁ l₂ l₃ l₄ l₅ l₆ : List ℕ} {r₀ r₁ r₂ r₃ r₄ r₅ r₆ : Option ℕ}
    {h d : Option Span} → WordsRead s i n 10 h → WordsRead s i n 11 d
    → (Inside s h → Adds l₀ r₀ l₁ r₁ (optional_w text_w (given_text s h)))
    → (Inside s d → Adds l₁ r₁ l₂ r₂ (optional_w text_w (given_text s d))) → Adds l₂ r₂ l₃ r₃ (0 ∷ [])
    → WrittenIds 4 name s i n l₃ r₃ l₄ r₄ → WrittenIds 2 name s i n l₄ r₄ l₅ r₅ → WrittenIds 5 name s i n l₅ r₅ l₆ r₆
    → WrittenAlert name s i n l₀ r₀ l₆ r₆
unfolding alert_in
alert_adds H D a b c t u v = record {
  of = λ e q.
      then (same (a H.inside) (ap (optional_w text_w) (H.of e q)))
      (then (same (b D.inside) (ap (optional_w text_w) (D.of e q)))
      (then c (then (t.of e q) (then (u.of e q) (v.of e q)))));
}

-- a sheet: its version, how many alerts, each of them
pub sheet_adds : {name s : List ℕ} {n : ℕ} {l₀ l₁ l₂ l₃ : List ℕ} {r₀ r₁ r₂ r₃ : Option ℕ} → Sheetable s n
    → Adds l₀ r₀ l₁ r₁ (1 ∷ []) → Adds l₁ r₁ l₂ r₂ (number_w n) → WrittenAlerts name s l₂ r₂ l₃ r₃
    → WrittenSheet name s l₀ r₀ l₃ r₃
unfolding sheet_in
sheet_adds {name} S a b c = record {
  of = λ t q.
      let m = S.alerts.message in
      let e : m ≡ t = some-injective m t (sym S.alerts.whole ∙ q) in
      let z = S.counted ∙ ap (λ t. length (kept_in t)) e ∙ sym (length-map (kept_in t) (alert_in name)) in
      then a (then (same b (ap number_w z)) (c.of t q));
}
