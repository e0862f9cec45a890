-- Law. Cards, alert sheets and vehicle sheets, both ways round: what is written reads back, and what is read was
-- written, by the same bytes. An overlay's both ways are `one_buffer` of overlay/Laws/Buffer.
use Rattle.std.specs.Prelude.{◌≡◌, refl, Bool, true, false, cond, List, [], ◌∷◌, ℕ}
use Rattle.std.proofs.Common.{sym, ap, ◌∙◌, append-nil}
use Rattle.std.proofs.Math.Option.{Option, none, some}
use Rattle.formats.specs.Format.{Format, Fits, Value, read, write}
use Rattle.formats.specs.Laws.Format.{read_write, write_read}
use Rattle.basics.specs.Laws.Options.{none_some}
use Rattle.maps.specs.Map.{ascending}
use Rattle.maps.specs.Order.{texts}
use Rattle.alerts.specs.Alert.{alert_sheet}
use Rattle.overlay.specs.State.{vehicle_sheet}
use Rattle.journey.specs.Card.{card}
use Rattle.panel.specs.Questions.{ended_only, whole}
use Rattle.panel.specs.VehicleSheet.{keys_ascend}

-- `reads` and the format's writing are each other's inverse on the values that Ok takes, and nothing else is read
pub record RoundTrips (f : Format) (reads : List ℕ → Option (Value f)) (Ok : Value f → Type 0) : Type 0 where
  pub written_reads_back : (v : Value f) → Ok v → reads (write f v) ≡ some v
  pub read_was_written : (s : List ℕ) (v : Value f) → reads s ≡ some v → (s ≡ write f v) × Ok v

ended_some : {A : Type 0} (o : Option (A × List ℕ)) (v : A) → ended_only o ≡ some v → o ≡ some (v, [])
ended_some none v e = none_some e
ended_some (some (u, [])) v e = let z : u ≡ v = cc in ap (λ x. some (x, [])) z
ended_some (some (u, b ∷ s)) v e = none_some e

-- every format, ending at the last byte
pub whole_round_trips : (f : Format) → RoundTrips f (whole f) (Fits f)
unfolding whole
whole_round_trips f = record {
  written_reads_back = λ v h. ap ended_only (ap (read f) (sym (append-nil (write f v))) ∙ read_write f v [] h);
  read_was_written = λ s v e.
      let (w, h) = write_read f s v [] (ended_some (read f s) v e) in
      (w ∙ append-nil (write f v), h);
}

pub card_round_trips : RoundTrips card (whole card) (Fits card)
card_round_trips = whole_round_trips card

pub alert_sheet_round_trips : RoundTrips alert_sheet (whole alert_sheet) (Fits alert_sheet)
alert_sheet_round_trips = whole_round_trips alert_sheet

-- a vehicle sheet's keys ascend
abbrev pub Ascends : Value vehicle_sheet → Type 0
Ascends v = ascending texts v.1 ≡ true

pub ascend_some : (o : Option (Value vehicle_sheet)) (v : Value vehicle_sheet)
    → keys_ascend o ≡ some v → (o ≡ some v) × Ascends v
ascend_some none v e = none_some e
ascend_some (some u) v e = go (ascending texts u.1) refl e
  where
    go : (b : Bool) → ascending texts u.1 ≡ b → cond b (some u) none ≡ some v → (some u ≡ some v) × Ascends v
    go true q h = let z : u ≡ v = cc in (h, ap (λ x. ascending texts x.1) (sym z) ∙ q)
    go false q h = none_some h

pub vehicle_sheet_round_trips : RoundTrips vehicle_sheet (λ s. keys_ascend (whole vehicle_sheet s))
    (λ v. Fits vehicle_sheet v × Ascends v)
vehicle_sheet_round_trips =
    let r = whole_round_trips vehicle_sheet in
    record {
      written_reads_back = λ v h.
          ap keys_ascend (r.written_reads_back v h.0) ∙ ap (λ b. cond b (some v) none) h.1;
      read_was_written = λ s v e.
          let (q, a) = ascend_some (whole vehicle_sheet s) v e in
          let (w, h) = r.read_was_written s v q in
          (w, (h, a));
    }
