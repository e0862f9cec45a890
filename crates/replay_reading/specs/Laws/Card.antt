-- Law. A card of a script: the lengths that it asks for, and what it told.
use Rattle.std.specs.Prelude.{◌≡◌, refl, Bool, true, false, ◌&&◌, List, [], ◌∷◌, ◌++◌, ℕ, suc, ◌+◌, ◌-◌, ◌≤◌, ◌<◌, leb, length, take, drop, set, Option, Some, None}
use Rattle.std.proofs.Common.{sym, ap, subst, ◌∙◌, length-take-le, leb-true}
use Rattle.std.proofs.lemmas.Bool.{false≢true}
use Rattle.std.proofs.Math.Seq.{slice}
use Rattle.basics.specs.Laws.Booleans.{both_true}
use Rattle.formats_write.specs.Laws.Slices.{slice_is}
use Rattle.panel.specs.Questions.{Lengths}
use Rattle.panel.specs.Calls.{Call, card}
use Rattle.panel.specs.Given.{Given}
use Rattle.panel.specs.Lengths.{card_work}
use Rattle.replay_script.specs.Script.{within}
use Rattle.replay_script.specs.declared.Asked.{Asked}
use Rattle.replay_script.specs.Promises.Asked.{ReadsLength}
use Rattle.replay_writing.specs.Promises.Ran.{Spans}
use Rattle.replay_writing.specs.Laws.Ran.{lent_part}
use Rattle.replay_reading.specs.Promises.Told.{lengths_of, ReadsCardWork, CardFits, Answers}
use Rattle.replay_reading.specs.Promises.Told.{ToldCardOf, ToldCard}
use Rattle.replay_reading.specs.declared.CardWork.{CardWork}
use Rattle.replay_reading.specs.Laws.Told.{no_call, part_long, call_told, answers}

-- ---- the lengths of its working buffers

pub card_work_read : {s : List ℕ} {p a b c d : ℕ} → ReadsLength s p 0 a → ReadsLength s p 1 b → ReadsLength s p 2 c
    → ReadsLength s p 3 d → ReadsCardWork s p (record { candidates = a; met = b; noted = c; known = d })
card_work_read A B C D = record {
  of = λ x.
      let a = A.of x in
      let b = B.of x in
      let c = C.of x in
      let d = D.of x in
      rw (a, b, c, d) refl;
}

and_true : (b : Bool) → b ≡ (b && true)
and_true true = refl
and_true false = refl

-- the test in the code's form
pub lent_is : (a b c d : ℕ)
    → (leb a 256 && (leb b 256 && (leb c 8208 && leb d 4096))) ≡ within (a ∷ b ∷ c ∷ d ∷ []) card_work
lent_is a b c d = ap (λ t. leb a 256 && (leb b 256 && (leb c 8208 && t))) (and_true (leb d 4096))

pub card_fits : (w : CardWork) → within (lengths_of w) card_work ≡ true
    → CardFits w 256 256 8208 4096
card_fits w t =
    let a = both_true (leb w.candidates 256) (within (drop 1 (lengths_of w)) (drop 1 card_work)) t in
    let b = both_true (leb w.met 256) (within (drop 2 (lengths_of w)) (drop 2 card_work)) a.1 in
    let c = both_true (leb w.noted 8208) (within (drop 3 (lengths_of w)) (drop 3 card_work)) b.1 in
    record {
      candidates = leb-true w.candidates 256 a.0;
      met = leb-true w.met 256 b.0;
      noted = leb-true w.noted 8208 c.0;
      known = leb-true w.known 4096 (both_true (leb w.known 4096) true c.1).0;
    }

-- run on parts of lent buffers
pub card_run : {L : Lengths} {old bytes : List ℕ} {out k : ℕ} {x : List ℕ} {work : List (List ℕ)} (w : CardWork)
    (ls ms ns ks : List ℕ) → CardFits w (length ls) (length ms) (length ns) (length ks)
    → Given L old (card bytes out (length (take w.candidates ls) ∷ length (take w.met ms)
    ∷ length (take w.noted ns) ∷ length (take w.known ks) ∷ [])) k x work
    → Answers L old (card bytes out (lengths_of w)) k x
card_run w ls ms ns ks F G =
    answers (rw (
      length-take-le w.candidates ls F.candidates,
      length-take-le w.met ms F.met,
      length-take-le w.noted ns F.noted,
      length-take-le w.known ks F.known,
    ) at G)

-- ---- a card

abbrev asked : List ℕ → Asked → List ℕ → Call
asked s q work = card (slice q.input.from q.input.to s) q.out work

module _ {L : Lengths} {s : List ℕ} {q : Asked} {work old out : List ℕ} {p : ℕ} where
  pub no_card : length out < p + suc q.out → ToldCardOf L s q work old out p out None
  no_card h = record { told = no_call L old (asked s q work) refl refl out p h }

  pub card_told : Spans s q → (h : p < length out) (room : q.out ≤ length out - (p + 1)) {k o : ℕ} {x : List ℕ}
      → Answers L old (card (lent_part s q.input.from q.input.to)
      (length (take (p + 1 + q.out - (p + 1)) (drop (p + 1) out))) work) k x
      → (k < 256 → o ≡ k)
      → ToldCardOf L s q work old out p
      (set (take (p + 1) out ++ (x ++ drop (p + 1 + q.out - (p + 1)) (drop (p + 1) out))) p o) (Some (p + 1 + q.out))
  card_told S h room {k} {o} {x} g b =
      let G : Answers L old (asked s q work) k x =
      rw (
        slice_is q.input.from q.input.to s S.input_forward S.input_within,
        part_long L old (asked s q work) refl refl out p h room,
      ) at g in
      record { told = call_told L old (asked s q work) refl refl out p h room G b }

-- over what is lent, or not
module _ {L : Lengths} {s : List ℕ} {q : Asked} {w : CardWork} {old out next : List ℕ} {p : ℕ} {place : Option ℕ}
    (W : ReadsCardWork s q.work w) where
  pub lent_card : within (lengths_of w) card_work ≡ true → ToldCardOf L s q (lengths_of w) old out p next place
      → ToldCard L s q old out p next place
  lent_card e T = record {
    unlent = λ h d. absurd (false≢true (sym d ∙ ap (λ l. within l card_work) (sym (W.of h)) ∙ e));
    of = λ h d. subst (λ l. ToldCardOf L s q l old out p next place) (W.of h) T;
  }

  pub unlent_card : within (lengths_of w) card_work ≡ false → place ≡ None → ToldCard L s q old out p next place
  unlent_card e f = record {
    unlent = λ h d. f;
    of = λ h d. absurd (false≢true (sym e ∙ ap (λ l. within l card_work) (W.of h) ∙ d));
  }
