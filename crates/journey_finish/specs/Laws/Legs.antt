-- Law. The legs of a card, one after another.
use Rattle.std.specs.Prelude.{◌≡◌, List, [], ◌∷◌, ℕ, ◌+◌, ◌≤◌, length, Option}
use Rattle.std.proofs.Common.{sym, ◌∙◌, inl, inr, arith}
use Rattle.std.proofs.Math.Seq.{slice}
use Rattle.formats.specs.Number.{number_w}
use Rattle.formats.specs.Format.{Value, write}
use Rattle.formats.specs.Promises.Outcome.{tag_at}
use Rattle.formats_read.specs.Promises.Here.{Here}
use Rattle.formats_read.specs.Promises.Reads.{ReadsNumber}
use Rattle.formats_read.specs.Laws.Here.{branch, choice_in}
use Rattle.formats_read.specs.Laws.Rewriting.{kept}
use Rattle.formats_write.specs.Promises.Adds.{Adds}
use Rattle.formats_write.specs.Laws.Adds.{then}
use Rattle.overlay.specs.State.{State}
use Rattle.overlay.specs.Records.{shown}
use Rattle.overlay.proofs.Laws.Within.{Judged56, elements}
use Rattle.journey.specs.Card.{leg}
use Rattle.journey.specs.Enrich.{enrich_leg}
use Rattle.journey_stops.specs.Laws.Advance.{list_mapped}
use Rattle.journey_finish.specs.Promises.Finish.{StateIn, Finishes, LegDone, EachDone, LegsDone}

module _ {s : List ℕ} {p q : ℕ} {b : List ℕ} {l m : List ℕ} {w r : Option ℕ} where
  pub leg_out : length s ≤ p → LegDone s p q b l w m r
  leg_out o = record { adds = λ {v} H J S. absurd (omega (arith, choice_in v H)) }

  transit_adds : {n : List ℕ} {i : Option ℕ} (v : Value leg) → Here leg s p q v → Judged56 leg v → {st : State}
      → StateIn b st → tag_at s p ≡ 1 → Adds l w n i (1 ∷ []) → Finishes s (p + 1) q b n i m r
      → Adds l w m r (write leg (enrich_leg (shown st) v))
  transit_adds (inl y) H J S t A F = absurd (omega (arith, (branch (inl y) H).0, t))
  transit_adds (inr y) H J S t A F =
      then A (F.adds (branch (inr y) H).1 (record { formed = J.formed; five = J.five; six = J.six }) S)

  walk_adds : (v : Value leg) → Here leg s p q v → {st : State} → StateIn b st → (tag_at s p ≡ 1 → ⊥)
      → (p ≤ q → q ≤ length s → Adds l w m r (slice p q s)) → Adds l w m r (write leg (enrich_leg (shown st) v))
  walk_adds (inl y) H S t A = kept H A
  walk_adds (inr y) H S t A = absurd (t (branch (inr y) H).0)

  module _ {t : ℕ} (e : t ≡ tag_at s p) where
    pub leg_transit : {n : List ℕ} {i : Option ℕ} → t ≡ 1 → Adds l w n i (1 ∷ []) → Finishes s (p + 1) q b n i m r
        → LegDone s p q b l w m r
    leg_transit k A F = record { adds = λ {v} H J S. transit_adds v H J S (sym e ∙ k) A F }

    pub leg_walk : (t ≡ 1 → ⊥) → (p ≤ q → q ≤ length s → Adds l w m r (slice p q s)) → LegDone s p q b l w m r
    leg_walk k A = record { adds = λ {v} H J S. walk_adds v H S (λ x. k (e ∙ x)) A }

pub legs_put : {s : List ℕ} {p n e : ℕ} {b : List ℕ} {l m k : List ℕ} {w r t : Option ℕ} → ReadsNumber s p n e
    → Adds l w m r (number_w n) → EachDone s e n b m r k t → LegsDone s p b l w k t
legs_put N A D = record {
  adds = λ {st} S {q} {vs} H J.
      list_mapped (Judged56 leg) 16 (enrich_leg (shown st)) H (elements 16 leg vs J) N A (D.adds S);
}
