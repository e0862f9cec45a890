-- Law. Each answer of the probes of a whole alert is the promised one.
use Rattle.std.proofs.lemmas.Option.{some_pair_parts}
use Rattle.std.specs.Prelude.{◌≡◌, refl, List, [], Bool, true, false, cond, not, ℕ, ◌≤◌, ◌<◌, leb, eqb, length, replicate, Option, Some, None}
use Rattle.std.proofs.Common.{sym, ap, ◌∙◌, inl, inr, arith, le-leb, leb-true, eqb-true}
use Rattle.std.proofs.Math.Option.{Option as LogicOption, none, some}
use Rattle.std.proofs.Math.Seq.{slice}
use Rattle.std.proofs.lemmas.Bool.{lt-leb, not-true, not-false}
use Rattle.basics.specs.Options.{Maybe}
use Rattle.basics.specs.Laws.Booleans.{and_true, and_no, false_true}
use Rattle.formats.specs.Class.{Class, utf8}
use Rattle.formats.specs.Format.{read, text, optional}
use Rattle.formats_judge.specs.Judged.{ok, first_failing, verdict, judged, judge_to}
use Rattle.formats_read.specs.Promises.Here.{here}
use Rattle.alerts.specs.Alert.{alert, Alert, header, description, cause, or_empty_text}
use Rattle.alerts.specs.Text.{trim}
use Rattle.alerts_apply.specs.Promises.Texts.{Labelled}
use Rattle.alerts_apply.specs.Promises.Hits.{Room, Applied}
use Rattle.alerts_apply.specs.Promises.Known.{Knows, AppliedKnown}
use Rattle.alerts_apply.specs.Laws.Known.{knows_nothing}
use Rattle.alerts_apply.specs.Laws.Room.{room}
use Rattle.alerts_probes.specs.Probes.{is_fine, applies_in, applies_to, label_in, LabelShown}

-- ---- whether an alert within its limits stands in front

at_broken : {A : Type 0} {p n : ℕ} → ◌≡◌ {A = Option (ℕ × ℕ)} (Some (p, n)) None → A
at_broken e = let z : ◌≡◌ {A = ℕ} 0 1 = cc in absurd (omega arith)

at_verdict : {p n q m : ℕ} → ◌≡◌ {A = Option (ℕ × ℕ)} (Some (p, n)) (Some (q, m)) → n ≡ m
at_verdict e = (some_pair_parts _ _ _ _ e).1

module _ (s : List ℕ) {r : Option (ℕ × ℕ)} (j : r ≡ judge_to alert s 0) where
  pub stands_broken : r ≡ None → false ≡ is_fine (read alert s)
  stands_broken e = go (read alert s) (sym j ∙ e)
    where
      go : (o : LogicOption (Alert × List ℕ)) → judged (verdict alert) s o ≡ None → false ≡ is_fine o
      go none h = refl
      go (some x) h = at_broken h

  pub stands_at : {p n : ℕ} → r ≡ Some (p, n) → eqb n 0 ≡ is_fine (read alert s)
  stands_at {p} {n} e = go (read alert s) (sym e ∙ j)
    where
      go : (o : LogicOption (Alert × List ℕ)) → Some (p, n) ≡ judged (verdict alert) s o → eqb n 0 ≡ is_fine o
      go none h = at_broken h
      go (some x) h = ap (λ m. eqb m 0) (at_verdict h)

-- then there is room for its texts
five : (a b c : Bool) → first_failing a b c ≡ 0 → a ≡ true
five true b c e = refl
five false b c e = absurd (omega (arith, e))

limit : (l : ℕ) (c : Class) (v : Maybe (List ℕ)) → ok 5 (optional (text l c)) v ≡ true → length (or_empty_text v) ≤ l
limit l c (inl u) e = omega arith
limit l c (inr t) e = leb-true (length t) l (and_true {x = leb (length t) l} e).0

module _ (a : Alert) (e : verdict alert a ≡ 0) (short : List ℕ) (n : ℕ) (few : length short ≤ 64)
    (wide : 2626 ≤ n) where
  roomy_for : Room a (trim short) n
  roomy_for =
      let o = five (ok 5 alert a) (ok 6 alert a) (ok 7 alert a) e in
      let h = and_true {x = ok 5 (optional (text 512 utf8)) (header a)} o in
      let d = and_true {x = ok 5 (optional (text 2048 utf8)) (description a)} h.1 in
      let c = and_true {x = ok 5 (optional (text 64 utf8)) (cause a)} d.1 in
      room a short n (limit 512 utf8 (header a) h.0) (limit 2048 utf8 (description a) d.0)
      (limit 64 utf8 (cause a) c.0)
      few wide

-- ---- asked twice

pub twice : {trip route short from to mode s : List ℕ} {p : ℕ} {r u : Bool} {old mid new w w' : List ℕ}
    → AppliedKnown trip route short from to mode s p r old mid (replicate 4 0) w
    → AppliedKnown trip route short from to mode s p u mid new w w'
    → Applied trip route short from to mode s p u old new
twice {s = s} {old = old} {mid = mid} {w = w} A B = record {
  kept = B.kept ∙ A.kept;
  is = λ x l. B.is known x (rw A.kept l);
}
  where
    known : Knows (length mid) s w
    known = rw A.kept (A.knows (knows_nothing (length old) s 4))

-- ---- the answers

module _ (old s trip route short from to mode : List ℕ) where
  pub answer_room : length old < 2626 → 3 ≡ applies_to (length old) s trip route short from to mode
  answer_room h = sym (rw (lt-leb 2626 (length old) h) refl)

  module _ (wide : 2626 ≤ length old) where
    pub answer_long : 64 < length short → 3 ≡ applies_to (length old) s trip route short from to mode
    answer_long h = sym (rw (lt-leb (length short) 64 h, and_no (leb 2626 (length old))) refl)

    module _ (few : length short ≤ 64) where
      asks : applies_to (length old) s trip route short from to mode
          ≡ applies_in (read alert s) trip route short from to mode
      asks = rw (le-leb 2626 (length old) wide, le-leb (length short) 64 few) refl

      module _ (t : Bool) (e : t ≡ is_fine (read alert s)) where
        pub answer_none : not t ≡ true → 2 ≡ applies_to (length old) s trip route short from to mode
        answer_none f = sym (asks ∙ go (read alert s) (sym e ∙ not-true t f))
          where
            go : (o : LogicOption (Alert × List ℕ)) → is_fine o ≡ false → applies_in o trip route short from to mode ≡ 2
            go none h = refl
            go (some x) h = rw h refl

        module _ (f : not t ≡ false) {r : Bool} {new : List ℕ}
            (A : Applied trip route short from to mode s 0 r old new) where
          answered : (o : LogicOption (Alert × List ℕ)) → read alert s ≡ o → is_fine o ≡ true
              → applies_in o trip route short from to mode ≡ cond r 1 0
          answered none k h = false_true h
          answered (some (a, rest)) k h =
              rw (
                h,
                ← A.is (here alert s 0 a rest (omega arith) k)
                    (roomy_for a (eqb-true (verdict alert a) 0 h) short (length old) few wide),
              ) refl

          pub answer_yes : r ≡ true → 1 ≡ applies_to (length old) s trip route short from to mode
          answer_yes g = sym (asks ∙ answered (read alert s) refl (sym e ∙ not-false t f) ∙ ap (λ x. cond x 1 0) g)

          pub answer_no : r ≡ false → 0 ≡ applies_to (length old) s trip route short from to mode
          answer_no g = sym (asks ∙ answered (read alert s) refl (sym e ∙ not-false t f) ∙ ap (λ x. cond x 1 0) g)

module _ (s : List ℕ) {t : Bool} (e : t ≡ is_fine (read alert s)) where
  pub label_none : not t ≡ true → LabelShown s 0 0
  label_none f = record { is = go (read alert s) (sym e ∙ not-true t f); forward = omega arith; within = omega arith }
    where
      go : (o : LogicOption (Alert × List ℕ)) → is_fine o ≡ false → [] ≡ label_in o
      go none h = refl
      go (some x) h = sym (rw h refl)

  pub label_some : {a b : ℕ} → not t ≡ false → Labelled s 0 a b → LabelShown s a b
  label_some {a} {b} f L = record {
    is = go (read alert s) refl (sym e ∙ not-false t f);
    forward = L.forward;
    within = L.within;
  }
    where
      go : (o : LogicOption (Alert × List ℕ)) → read alert s ≡ o → is_fine o ≡ true → slice a b s ≡ label_in o
      go none k h = false_true h
      go (some (v, rest)) k h = L.is (here alert s 0 v rest (omega arith) k) ∙ sym (rw h refl)
