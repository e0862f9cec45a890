-- Law. A call of a script by its kind.
use Rattle.std.specs.Prelude.{◌≡◌, refl, Bool, true, false, cond, ◌&&◌, List, [], ◌∷◌, ℕ, eqb, leb, ℤ, Option}
use Rattle.std.proofs.Common.{sym, ap, subst, ◌∙◌, ne_eqb}
use Rattle.std.proofs.lemmas.Bool.{false≢true}
use Rattle.std.proofs.Math.Seq.{slice}
use Rattle.formats.specs.Format.{Value}
use Rattle.formats_read.specs.Promises.Here.{Here}
use Rattle.panel.specs.Questions.{Lengths}
use Rattle.panel.specs.Calls.{Call, fresh, alert_sheet, vehicle_sheet, card, report, writes}
use Rattle.replay_script.specs.Script.{clock_form, call_form, as_many, call_by, call_of, Lent, within, lends}
use Rattle.replay_script.specs.declared.Asked.{Asked}
use Rattle.replay_script.specs.Promises.Asked.{Reads}
use Rattle.panel.specs.Lengths.{sized}
use Rattle.replay_writing.specs.Promises.Ran.{RanAs, MessageRan, WritesAs}

-- a call of kind k, with what was read of it
pub call_is : (L : Lengths) {s : List ℕ} {q : Asked} {v : Value call_form} {e : ℕ} → Reads s q v e
    → call_of L v ≡ call_by L q.kind (slice q.feed.from q.feed.to s) (slice q.input.from q.input.to s)
    v.1.1.1.0 q.out v.1.1.1.1.1
call_is L {v = v} R = rw (R.kind, R.feed, R.input, R.out) refl

-- of kind k
pub of_kind : (L : Lengths) (k : ℕ) {s : List ℕ} {q : Asked} {v : Value call_form} {e : ℕ} → q.kind ≡ k → Reads s q v e
    → call_of L v ≡ call_by L k (slice q.feed.from q.feed.to s) (slice q.input.from q.input.to s)
    v.1.1.1.0 q.out v.1.1.1.1.1
of_kind L k {s} {q} {v} h R =
    call_is L R
    ∙ ap (λ k. call_by L k (slice q.feed.from q.feed.to s) (slice q.input.from q.input.to s)
    v.1.1.1.0 q.out v.1.1.1.1.1) h

-- a call that is another, where b is whether it is lent
ran_is : {L : Lengths} (R : Lent) {old new : List ℕ} {r : Option ℕ} {b : Bool} (c d : Call) → c ≡ d → b ≡ lends R d
    → RanAs b L old d new r → RanAs (lends R c) L old c new r
ran_is {L} R {old} {new} {r} c d e f A =
    subst (λ c. RanAs (lends R c) L old c new r) (sym e) (subst (λ b. RanAs b L old d new r) f A)

-- no other kind writes
no_writing : (L : Lengths) (k : ℕ) (f b : List ℕ) (t : ℤ) (o : ℕ) (w : List ℕ) → (k ≡ 0 → ⊥) → (k ≡ 1 → ⊥)
    → (k ≡ 2 → ⊥) → (k ≡ 3 → ⊥) → writes (call_by L k f b t o w) ≡ false
no_writing L k f b t o w a c d e = rw (ne_eqb k 0 a, ne_eqb k 1 c, ne_eqb k 2 d, ne_eqb k 3 e) (go (eqb k 4))
  where
    go : (x : Bool) → writes (cond x (card b o (as_many L.work.card w)) (report f o)) ≡ false
    go true = refl
    go false = refl

module _ {n lent : ℕ} {work s : List ℕ} {q : Asked} {old new : List ℕ} {r : Option ℕ} where
  pub fresh_writes : q.kind ≡ 0 → RanAs (leb q.out lent) (sized n) [] (fresh q.out) new r
      → WritesAs (sized n) lent work s q old new r
  fresh_writes h A = record {
    of = λ {v} D w R o m.
        ran_is R (call_of (sized n) v) (fresh q.out) (of_kind (sized n) 0 h D) (ap (leb q.out) (sym o))
        (record { number = A.number; next = A.next });
  }

  pub alerts_write : q.kind ≡ 2
      → RanAs (leb q.out lent) (sized n) old (alert_sheet (slice q.feed.from q.feed.to s)
      (slice q.input.from q.input.to s) q.out []) new r
      → WritesAs (sized n) lent work s q old new r
  alerts_write h A = record {
    of = λ {v} D w R o m.
        ran_is R (call_of (sized n) v) _ (of_kind (sized n) 2 h D) (ap (leb q.out) (sym o)) A;
  }

  pub vehicles_write : q.kind ≡ 3
      → ((z : ℤ) (e : ℕ) → Here clock_form s q.clock e z → RanAs (leb q.out lent) (sized n) old
      (vehicle_sheet (slice q.feed.from q.feed.to s) (slice q.input.from q.input.to s) z q.out []) new
      r)
      → WritesAs (sized n) lent work s q old new r
  vehicles_write h A = record {
    of = λ {v} D w R o m.
        let k = D.clock in
        ran_is R (call_of (sized n) v) _ (of_kind (sized n) 3 h D) (ap (leb q.out) (sym o))
        (A v.1.1.1.0 k.0 k.1);
  }

  pub message_writes : q.kind ≡ 1 → MessageRan (sized n) lent work s q old new r
      → WritesAs (sized n) lent work s q old new r
  message_writes h A = record {
    of = λ {v} D w R o m.
        let l = as_many (0 ∷ 0 ∷ 0 ∷ []) v.1.1.1.1.1 in
        ran_is R (call_of (sized n) v) _ (of_kind (sized n) 1 h D)
        (ap (λ i. within l work && leb q.out i) (sym o) ∙ ap (λ i. within l i && leb q.out R.overlay) (sym m))
        (A.of D.work);
  }

  pub other_kind : (q.kind ≡ 0 → ⊥) → (q.kind ≡ 1 → ⊥) → (q.kind ≡ 2 → ⊥) → (q.kind ≡ 3 → ⊥)
      → WritesAs (sized n) lent work s q old new r
  other_kind a c d e = record {
    of = λ {v} D w R o m.
        let x = no_writing (sized n) q.kind (slice q.feed.from q.feed.to s)
        (slice q.input.from q.input.to s) v.1.1.1.0 q.out v.1.1.1.1.1 a c d e in
        absurd (false≢true (sym (ap writes (call_is (sized n) D) ∙ x) ∙ w));
  }
