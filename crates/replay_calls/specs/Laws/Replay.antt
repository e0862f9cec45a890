-- Law. The turns of a script by code: how they end, and what a replay then promises.
use Rattle.std.specs.Prelude.{◌≡◌, refl, List, [], ◌++◌, ℕ, ◌-◌, ◌≤◌, ◌<◌, length, take, drop, Option, Some, None}
use Rattle.std.proofs.Common.{ap, subst, ◌∙◌, take_at, length-take-le}
use Rattle.formats_read.specs.Laws.Walk as walk
use Rattle.panel.specs.Questions.{Lengths}
use Rattle.panel.specs.Calls.{fresh, Gave, fresh_overlay}
use Rattle.panel.proofs.Laws.Sizes.{out_long}
use Rattle.panel_output.specs.declared.Ending.{Ending}
use Rattle.panel_output.specs.declared.Ending.TheVariants.{Refused}
use Rattle.panel_output.specs.Promises.Ending.{ending_of, Finished}
use Rattle.panel.specs.Given.{Given}
use Rattle.replay_script.specs.Script.{call_form, Lent}
use Rattle.replay_script.specs.Tells.{Replays}
use Rattle.replay_script.proofs.Laws.Told.{replay_told, replay_gained}
use Rattle.replay_script.specs.Promises.Asked.{Counted}
use Rattle.replay_turn.specs.Lent.{lent_to}
use Rattle.replay_turn.specs.Promises.Turns.{Turned}
use Rattle.replay_calls.specs.Replay.{ReplayHolds}
use Rattle.replay_calls.specs.Promises.Turns.{Done, TurnsEnd, ScriptEnds}
use Rattle.replay_calls.specs.Laws.Turns.{nothing_yet, turn_more, turn_full, all_told, none_told, no_form}
use Rattle.replay_calls.specs.Laws.Turns.{no_overlay}

-- what the loop has done: the calls behind `at`, of the n from a on
abbrev pub Taken : Lengths → Lent → List ℕ → ℕ → ℕ → ℕ → ℕ → List ℕ → List ℕ → ℕ → List ℕ → Type 0
Taken L R s a n at rest out next p left = walk.Walk call_form s a n at rest (λ us. Done L R us out next p left)

-- ---- a fresh overlay

-- in the first bytes of l
pub begun : (L : Lengths) (l : List ℕ) {k : ℕ} {x : List ℕ} {work : List (List ℕ)} → L.overlay ≤ length l
    → Given L [] (fresh (length (take L.overlay l))) k x work
    → take L.overlay (x ++ drop L.overlay l) ≡ fresh_overlay L
begun L l {k} {x} {work} h g =
    let G : Given L [] (fresh L.overlay) k x work = rw (length-take-le L.overlay l h) at g in
    let e : x ≡ fresh_overlay L = ap (λ (g : Gave). g.out) G.is in
    take_at x (drop L.overlay l) L.overlay (ap length e ∙ out_long L [] (fresh L.overlay)) ∙ e

pub no_turns : {L : Lengths} {R : Lent} {s : List ℕ} {a n : ℕ} {out left : List ℕ} → left ≡ fresh_overlay L
    → Taken L R s a n a n out out 0 left
no_turns e = walk.begin (nothing_yet e)

-- ---- a turn

-- what is lent is as long as it was
pub lent_as : {lent o k m j o' k' m' j' : ℕ} → o ≡ o' → k ≡ k' → m ≡ m' → j ≡ j'
    → lent_to lent o k m j ≡ lent_to lent o' k' m' j'
lent_as a b c d = rw (a, b, c, d) refl

module _ {L : Lengths} {R Q : Lent} {s out next left next' left' : List ℕ} {a n at rest p e : ℕ} {place : Option ℕ}
    (W : Taken L R s a n at rest out next p left) (z : 0 < rest) (same : Q ≡ R)
    (T : Turned L Q s at left next p left' next' place e) where
  turned : {w : Option ℕ} → place ≡ w → Turned L R s at left next p left' next' w e
  turned {w} d =
      subst (λ w. Turned L R s at left next p left' next' w e) d
      (subst (λ R. Turned L R s at left next p left' next' place e) same T)

  pub one_turn : {p' : ℕ} → place ≡ Some p' → Taken L R s a n e (rest - 1) out next' p' left'
  one_turn d = turn_more W z (turned d)

  pub turns_full : L.overlay ≤ R.overlay → R.output ≡ length out → length next' ≡ R.output → place ≡ None
      → TurnsEnd L R s n a next' None
  turns_full room o l d = record { of = λ st F. none_told (turn_full room o st W z (turned d)) l F }

pub turns_done : {L : Lengths} {R : Lent} {s out next left : List ℕ} {a n at rest p : ℕ}
    → Taken L R s a n at rest out next p left → rest ≤ 0 → L.overlay ≤ R.overlay → R.output ≡ length out
    → TurnsEnd L R s n a next (Some p)
turns_done {s = s} W z room o = record {
  of = λ st F. all_told room o st (walk.ended W z st.value (length s) st.count st.many) F;
}

-- ---- a script's run

pub short_overlay : {L : Lengths} {R : Lent} {s l : List ℕ} → R.overlay < L.overlay → length l ≡ R.output
    → ScriptEnds L R s l (Refused 1)
short_overlay h z = record { of = λ F. none_told (no_overlay h) z F }

pub broken_script : {L : Lengths} {R : Lent} {s l : List ℕ} {r : Option (ℕ × ℕ)} → Counted s r → r ≡ None
    → length l ≡ R.output → ScriptEnds L R s l (Refused 1)
broken_script {s = s} C e z = record { of = λ F. none_told (no_form (subst (Counted s) e C)) z F }

pub turns_taken : {L : Lengths} {R : Lent} {s l : List ℕ} {n p : ℕ} {r : Option (ℕ × ℕ)} {place : Option ℕ} {e : Ending}
    → Counted s r → r ≡ Some (n, p) → TurnsEnd L R s n p l place → e ≡ ending_of 1 place → ScriptEnds L R s l e
turns_taken {L} {R} {s} {l} C d T f = record {
  of = λ {m} {r} F. T.of (subst (Counted s) d C).so (subst (λ e. Finished l e m r) f F);
}

-- ---- the promise

holds : {L : Lengths} {R : Lent} {s out : List ℕ} {number : ℕ} → Replays L R s number out
    → ReplayHolds L R s number out
holds r = record { replays = r; told = replay_told r; gained = λ t. replay_gained r t }

-- overlays of `lent` bytes, which is the length that was lent
pub replayed : {L : Lengths} {lent n o k m j : ℕ} {s l out : List ℕ} {e : Ending} {r : ℕ} → lent ≡ n
    → ScriptEnds L (lent_to lent o k m j) s l e → Finished l e out r
    → ReplayHolds L (lent_to n o k m j) s r out
replayed {L} {o = o} {k = k} {m = m} {j = j} {s = s} {out = out} {r = r} q S F =
    holds (subst (λ i. Replays L (lent_to i o k m j) s r out) q (S.of F))
