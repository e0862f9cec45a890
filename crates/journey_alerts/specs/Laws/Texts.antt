-- Law. The texts of a leg where they stand, and what is asked by them.
use Rattle.std.specs.Prelude.{◌≡◌, Bool, List, ℕ, length}
use Rattle.std.proofs.Common.{◌∙◌}
use Rattle.formats.specs.Class.{Class}
use Rattle.formats.specs.Format.{text}
use Rattle.formats.specs.declared.Span.{Span}
use Rattle.formats_write.specs.Laws.Slices.{slice_is}
use Rattle.formats_read.specs.Promises.Here.{Here}
use Rattle.formats_read.specs.Promises.Reads.{ReadsText}
use Rattle.formats_read.specs.Laws.Here.{halves}
use Rattle.formats_skip.specs.Laws.Leads.{lead_field}
use Rattle.alerts_apply.specs.Promises.Known.{Knows, AppliedKnown}
use Rattle.journey_places.specs.declared.LegPlaces.{LegPlaces}
use Rattle.journey_places.specs.Promises.Places.{LegAt}
use Rattle.journey_alerts.specs.declared.LegTexts.{LegTexts}
use Rattle.journey_alerts.specs.Promises.Texts.{SpanIn, bytes_of, LegTextsAt}
use Rattle.journey_alerts.specs.Promises.Alerts.{LegApplies}

span_in : {s : List ℕ} {p : ℕ} {x : Span} → ReadsText s p x.from x.to → SpanIn s x
span_in R = record { forward = R.forward; within = R.within }

text_is : {s : List ℕ} {p : ℕ} {x : Span} {q : ℕ} {v : List ℕ} {l : ℕ} {c : Class} → ReadsText s p x.from x.to
    → Here (text l c) s p q v → bytes_of s x ≡ v
text_is {s} {p} {x} R H = slice_is x.from x.to s R.forward R.within ∙ R.bytes H

module _ {s : List ℕ} {p : ℕ} {P : LegPlaces} (L : LegAt s p P) {T : LegTexts} where
  pub texts_at : ReadsText s p T.mode.from T.mode.to → ReadsText s P.short T.short.from T.short.to
      → ReadsText s P.route T.route.from T.route.to → ReadsText s P.trip T.trip.from T.trip.to
      → ReadsText s P.from T.from.from T.from.to → ReadsText s P.to T.to.from T.to.to
      → LegTextsAt s p T
  texts_at a b c d e f = record {
    inside = record {
      mode = span_in a;
      short = span_in b;
      route = span_in c;
      trip = span_in d;
      from = span_in e;
      to = span_in f;
    };
    of = λ H. record {
      mode = text_is a (halves H).first;
      short = text_is b (halves (lead_field L.short tt H).here).first;
      route = text_is c (halves (lead_field L.route tt H).here).first;
      trip = text_is d (halves (lead_field L.trip tt H).here).first;
      from = text_is e (halves (lead_field L.from tt H).here).first;
      to = text_is f (halves (lead_field L.to tt H).here).first;
    };
  }

-- whether an alert applies
pub applies_by : {s : List ℕ} {T : LegTexts} {b : List ℕ} {p : ℕ} {r : Bool} {old new w w' : List ℕ}
    → Knows (length old) b w
    → AppliedKnown (bytes_of s T.trip) (bytes_of s T.route) (bytes_of s T.short) (bytes_of s T.from)
    (bytes_of s T.to) (bytes_of s T.mode) b p r old new w w'
    → LegApplies s T b p (length old) r w'
applies_by K A = record {
  knows = A.knows K;
  is = λ X H R. rw (X.mode, X.short, X.route, X.trip, X.from, X.to) at (A.is K H (rw X.short R));
}
