-- Law. The whole card: head, headers and legs are the finished card's.
use Rattle.std.proofs.Common.{ap, ◌∙◌, arith, leb-true}
use Rattle.std.specs.Prelude.{true, List, map, ℕ, ◌≤◌, ◌<◌, ℤ, pos, negsuc, leb, length, Option}
use Rattle.std.specs.Int.Signed.{mag}
use Rattle.basics.specs.Laws.Booleans.{both_true}
use Rattle.formats.specs.Format.{Value, write}
use Rattle.formats_read.specs.Promises.Fields.{part}
use Rattle.formats_read.specs.Laws.Here.{halves}
use Rattle.formats_skip.specs.Laws.Leads.{lead_field}
use Rattle.formats_write.specs.Laws.Adds.{then, same}
use Rattle.overlay.specs.Records.{shown}
use Rattle.overlay.proofs.Laws.Within.{Judged56, left, right}
use Rattle.journey.specs.Card.{card_time, card, card_of}
use Rattle.journey.specs.Enrich.{headers_of, transits, enrich_leg}
use Rattle.journey.proofs.Laws.Finished.{finished_judged}
use Rattle.journey_places.specs.declared.CardPlaces.{CardPlaces}
use Rattle.journey_places.specs.Promises.Places.{CardAt}
use Rattle.journey_leg.specs.Laws.Opens.{closes}
use Rattle.journey_card.specs.declared.Survey as code
use Rattle.journey_card.specs.Promises.Survey.{gathered_of}
use Rattle.journey_card.specs.Promises.Head.{PutsHead, new_head}
use Rattle.journey_card.specs.Laws.Head.{card_is}
use Rattle.journey_finish.specs.Promises.Finish.{LegsDone}
use Rattle.journey_enrich.specs.Promises.Enrich.{HeadersPut, Enriches}

-- a card's time leaves room for a difference
small : (z : ℤ) → Judged56 card_time z → mag z < 4611686018427387904
small (pos n) j = omega (arith, leb-true n 4293400446 j.six)
small (negsuc n) j = omega (arith, leb-true n 1200798847 (both_true (leb n 1200798847) true j.six).0)

times_small : (v : Value card) → Judged56 card v
    → (mag v.1.0 < 4611686018427387904) × (mag v.1.1.0 < 4611686018427387904)
times_small v j = (small v.1.0 (left (right j)), small v.1.1.0 (left (right (right j))))

module _ {g : code.Survey} {n : ℕ} {s : List ℕ} {p : ℕ} {b f t l : List ℕ} {w : Option ℕ} where
  pub enriched_out : {m : List ℕ} {r : Option ℕ} → length s ≤ p → Enriches g n s p b f t l w m r
  enriched_out o = record { adds = λ H J S e N k. absurd (let x = (halves H).first in omega (arith, x.within)) }

  pub enriched : {P : CardPlaces} {m o z : List ℕ} {q i r : Option ℕ} → CardAt s p P → PutsHead g s p l w m q
      → HeadersPut b f t n m q o i → LegsDone s P.legs b o i z r → Enriches g n s p b f t l w z r
  enriched C D X Y = record {
    adds = λ {v = v} H J {st} S e N k.
        let B = shown st in
        let new : Value (part 5 card) =
        (headers_of B (transits (card_of v).legs), map (enrich_leg B) (card_of v).legs) in
        let x = times_small (new_head v (gathered_of g) new)
        (rw (← card_is B v, ← e) at (finished_judged B S.judged v J)) in
        let O = D.opens H x.0 x.1 in
        let legs = Y.adds S (lead_field C.legs tt H).here
        (right (right (right (right (right (right J)))))) in
        same (closes O new (then (rw k at (X.adds N)) legs))
        (ap (λ G. write card (new_head v G new)) e ∙ ap (write card) (card_is B v));
  }
