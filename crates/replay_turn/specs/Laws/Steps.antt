-- Law. One call of a script: what it told, and the overlay to go on with.
use Rattle.std.specs.Prelude.{◌≡◌, refl, Bool, true, false, cond, not, List, [], ◌∷◌, ℕ, ◌≤◌, ◌<◌, eqb, ℤ, take, Option, Some, None}
use Rattle.std.proofs.Common.{sym, ap, subst, ◌∙◌, arith, eqb-true, ne_eqb}
use Rattle.std.proofs.lemmas.Bool.{false≢true, eqb-false}
use Rattle.std.proofs.Math.Seq.{slice}
use Rattle.formats_write.specs.Promises.Adds.{Adds}
use Rattle.formats_write.specs.Laws.Adds as adds
use Rattle.panel.specs.Questions.{Lengths}
use Rattle.panel.specs.Calls.{Call, report, gives, writes, overlay_after}
use Rattle.panel.specs.Lengths.{sized}
use Rattle.replay_script.specs.Script.{call_by, call_of, Lent, lends}
use Rattle.replay_script.specs.declared.Asked.{Asked}
use Rattle.replay_script.specs.Promises.Asked.{ReadsCall}
use Rattle.replay_writing.specs.Promises.Ran.{ran_of, RanAs, WritesAs}
use Rattle.replay_writing.specs.Laws.Ran.{few}
use Rattle.replay_writing.specs.Laws.Kinds.{call_is, of_kind}
use Rattle.replay_reading.specs.Promises.Told.{ToldReport, ToldCard}
use Rattle.replay_turn.specs.Lent.{lent_to}
use Rattle.replay_turn.specs.Promises.Turns.{current, Stepped, Turned, accepted_of, TellsNumber}
use Rattle.replay_turn.specs.Promises.Turns.{ToldWriting}

-- ---- the number of a writing call

unlent_number : {C : Type 0} {k : ℕ} → None ≡ Some k → C
unlent_number e = absurd (let z : ◌≡◌ {A = ℕ} 0 1 = cc in omega arith)

pub tells_none : {out : List ℕ} {p : ℕ} {r : Option ℕ} → r ≡ None → TellsNumber out p out r None
tells_none e = record { unlent = λ d. refl; told = λ d h. unlent_number (sym e ∙ d) }

pub tells_number : {out next : List ℕ} {p k o : ℕ} {r : Option ℕ} {w : Option ℕ} → r ≡ Some k → (k < 256 → o ≡ k)
    → Adds out (Some p) next w (o ∷ []) → TellsNumber out p next r w
tells_number {out} {next} {p} {k} {o} {r} {w} e b a = record {
  unlent = λ d. unlent_number (sym d ∙ e);
  told = λ {k = j} d h.
      let z : k ≡ j = number_is (sym e ∙ d) in
      adds.same a (ap (λ n. n ∷ []) (b (omega arith) ∙ z));
}
  where
    number_is : {i j : ℕ} → Some i ≡ Some j → i ≡ j
    number_is e = cc

-- ---- a writing call

module _ (L : Lengths) (R : Lent) {old new out next : List ℕ} {p : ℕ} {r : Option ℕ} {place : Option ℕ}
    {moved : Bool} (c : Call)
    (w : writes c ≡ true) (A : RanAs (lends R c) L old c new r) (T : TellsNumber out p next r place)
    (m : moved ≡ accepted_of r) where
  ended_so : (b : Bool) → lends R c ≡ b → r ≡ ran_of b (gives L old c).number
  ended_so b e = A.number ∙ ap (λ b. ran_of b (gives L old c).number) e

  goes_on : lends R c ≡ true → cond moved (take L.overlay new) old ≡ overlay_after old c (gives L old c)
  goes_on e =
      ap (λ b. cond b (take L.overlay new) old) (m ∙ ap accepted_of (ended_so true e))
      ∙ go (eqb (gives L old c).number 0) refl
      ∙ ap (λ b. cond b (cond (eqb (gives L old c).number 0) (gives L old c).out old) old) (sym w)
    where
      go : (t : Bool) → eqb (gives L old c).number 0 ≡ t
          → cond t (take L.overlay new) old ≡ cond t (gives L old c).out old
      go true t = A.next e (eqb-true (gives L old c).number 0 t)
      go false t = refl

  wrote : Stepped L R c old out p (cond moved (take L.overlay new) old) next place
  wrote = record {
    unlent = λ e. T.unlent (ended_so false e);
    told = λ e. adds.same (T.told (ended_so true e) (few L old c))
        (ap (λ b. (gives L old c).number ∷ cond b [] (gives L old c).out) (sym w));
    after = goes_on;
  }

pub writing_told : {L : Lengths} {lent : ℕ} {work s : List ℕ} {q : Asked} {old new out next : List ℕ} {p : ℕ}
    {r : Option ℕ}
    {place : Option ℕ} {moved : Bool} → WritesAs L lent work s q old new r → TellsNumber out p next r place
    → moved ≡ accepted_of r → ToldWriting L lent work s q old new out p next place moved q.next
writing_told {L} W T m = record {
  ends = refl;
  of = λ {v} D w R o n. wrote L R (call_of L v) w (W.of D w R o n) T m;
}

-- ---- a call by its kind

writes_below : (L : Lengths) (k : ℕ) (f b : List ℕ) (t : ℤ) (o : ℕ) (w : List ℕ) → k < 4
    → writes (call_by L k f b t o w) ≡ true
writes_below L k f b t o w h = go (eqb k 0) (eqb k 1) (eqb k 2) (eqb k 3) refl refl refl refl
  where
    go : (x y z u : Bool) → eqb k 0 ≡ x → eqb k 1 ≡ y → eqb k 2 ≡ z → eqb k 3 ≡ u
        → writes (call_by L k f b t o w) ≡ true
    go true y z u a c d e = rw a refl
    go false true z u a c d e = rw (a, c) refl
    go false false true u a c d e = rw (a, c, d) refl
    go false false false true a c d e = rw (a, c, d, e) refl
    go false false false false a c d e =
        absurd (omega (arith, eqb-false k 0 a, eqb-false k 1 c, eqb-false k 2 d, eqb-false k 3 e))

-- a writing call
pub turned_writing : {n lent o k m j : ℕ} {s old new out next : List ℕ} {at p : ℕ} {q : Asked} {place : Option ℕ}
    {moved : Bool} {e : ℕ} → ReadsCall s at q → q.kind < 4
    → ToldWriting (sized n) lent (k ∷ m ∷ j ∷ []) s q old new out p next place moved e
    → Turned (sized n) (lent_to lent o k m j) s at old out p (cond moved (take n new) old) next place e
turned_writing {n} {lent} {o} {k} {m} {j} {s} {q = q} Q h T = record {
  ends = λ v e d. T.ends ∙ (Q.of d).next;
  stepped = λ v e d.
      let D = Q.of d in
      T.of D
      (ap writes (call_is (sized n) D)
      ∙ writes_below (sized n) q.kind _ _ v.1.1.1.0 _ v.1.1.1.1.1 h)
      (lent_to lent o k m j) refl refl;
}

-- a card
pub turned_card : {n lent o k m j : ℕ} {s old : List ℕ} (new : List ℕ) {out next : List ℕ} {at p : ℕ} {q : Asked}
    {place : Option ℕ} → ReadsCall s at q → q.kind ≡ 4 → ToldCard (sized n) s q old out p next place
    → Turned (sized n) (lent_to lent o k m j) s at old out p (cond false (take n new) old) next place q.next
turned_card {n} {lent} {o} {k} {m} {j} {old = old} new {out = out} {next = next} {p = p} {place = place} Q h T =
    record {
      ends = λ v e d. (Q.of d).next;
      stepped = λ v e d.
          let D = Q.of d in
          subst (λ c. Stepped (sized n) (lent_to lent o k m j) c old out p old next place)
          (sym (of_kind (sized n) 4 h D))
          (record {
            unlent = λ b. T.unlent D.work b;
            told = λ b. (T.of D.work b).told;
            after = λ b. refl;
          });
    }

-- a report
report_is : (L : Lengths) (k : ℕ) (f b : List ℕ) (t : ℤ) (o : ℕ) (w : List ℕ) → 4 ≤ k → (k ≡ 4 → ⊥)
    → call_by L k f b t o w ≡ report f o
report_is L k f b t o w h e =
    rw (
      ne_eqb k 0 (λ z. omega arith),
      ne_eqb k 1 (λ z. omega arith),
      ne_eqb k 2 (λ z. omega arith),
      ne_eqb k 3 (λ z. omega arith),
      ne_eqb k 4 e,
    ) refl

pub turned_report : {n : ℕ} {R : Lent} {s old : List ℕ} (new : List ℕ) {out next : List ℕ} {at p : ℕ}
    {q : Asked} {place : Option ℕ}
    → ReadsCall s at q → 4 ≤ q.kind → (q.kind ≡ 4 → ⊥) → ToldReport (sized n) s q old out p next place
    → Turned (sized n) R s at old out p (cond false (take n new) old) next place q.next
turned_report {n} {R} {s} {old} new {out = out} {next = next} {p = p} {q = q} {place = place} Q h e T = record {
  ends = λ v i d. (Q.of d).next;
  stepped = λ v i d.
      let D = Q.of d in
      let c = report (slice q.feed.from q.feed.to s) q.out in
      let z : call_of (sized n) v ≡ c =
      call_is (sized n) D ∙ report_is (sized n) q.kind _ _ v.1.1.1.0 _ v.1.1.1.1.1 h e in
      subst (λ c. Stepped (sized n) R c old out p old next place) (sym z)
      (record { unlent = λ b. absurd (false≢true (sym b)); told = λ b. T.told; after = λ b. refl });
}

-- ---- which overlay is current

moved_on : (n : ℕ) (moved : Bool) (a b : List ℕ) → cond moved (take n b) (take n a) ≡ current n (not moved) a b
moved_on n true a b = refl
moved_on n false a b = refl

moved_back : (n : ℕ) (moved : Bool) (a b : List ℕ) → cond moved (take n a) (take n b) ≡ current n moved a b
moved_back n true a b = refl
moved_back n false a b = refl

-- the first was current, and b came of the second
pub turn_on : {L : Lengths} {R : Lent} {s : List ℕ} {at : ℕ} (n : ℕ) (a b b₀ : List ℕ) {out next : List ℕ} {p : ℕ}
    (moved : Bool) {first : Bool} {place : Option ℕ} {e : ℕ} → first ≡ true
    → Turned L R s at (take n a) out p (cond moved (take n b) (take n a)) next place e
    → Turned L R s at (current n first a b₀) out p (current n (not moved) a b) next place e
turn_on {L} {R} {s} {at} n a b b₀ {out} {next} {p} moved {first} {place} {e} f T =
    subst (λ t. Turned L R s at (current n t a b₀) out p (current n (not moved) a b) next place e) (sym f)
    (subst (λ l. Turned L R s at (take n a) out p l next place e) (moved_on n moved a b) T)

-- the second was current, and a came of the first
pub turn_back : {L : Lengths} {R : Lent} {s : List ℕ} {at : ℕ} (n : ℕ) (a b a₀ : List ℕ) {out next : List ℕ} {p : ℕ}
    (moved : Bool) {first : Bool} {place : Option ℕ} {e : ℕ} → first ≡ false
    → Turned L R s at (take n b) out p (cond moved (take n a) (take n b)) next place e
    → Turned L R s at (current n first a₀ b) out p (current n moved a b) next place e
turn_back {L} {R} {s} {at} n a b a₀ {out} {next} {p} moved {first} {place} {e} f T =
    subst (λ t. Turned L R s at (current n t a₀ b) out p (current n moved a b) next place e) (sym f)
    (subst (λ l. Turned L R s at (take n b) out p l next place e) (moved_back n moved a b) T)
