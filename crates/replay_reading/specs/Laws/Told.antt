-- Law. A call that writes no overlay, run on a part of what a replay writes: its number before its output.
use Rattle.std.specs.Prelude.{◌≡◌, refl, false, cond, List, [], ◌∷◌, ◌++◌, ℕ, suc, ◌+◌, ◌-◌, ◌≤◌, ◌<◌, length, get_or, take, drop, set, Option, Some, None}
use Rattle.std.proofs.Common.{sym, ap, ap₂, ◌∙◌, append_assoc, arith, length-append, length-drop, length-take-le, drop-drop, take-suc}
use Rattle.std.proofs.Math.Seq.{slice}
use Rattle.std.proofs.lemmas.List.{set_at}
use Rattle.slices.specs.Lists.{pasted}
use Rattle.formats_write.specs.Promises.Adds.{Adds}
use Rattle.formats_write.specs.Laws.Adds as adds
use Rattle.formats_write.specs.Laws.Slices.{slice_is}
use Rattle.panel.specs.Questions.{Lengths}
use Rattle.panel.specs.Calls.{Call, report, Gave, gives, out_of, writes}
use Rattle.panel.proofs.Laws.Sizes.{out_long}
use Rattle.panel.specs.Given.{Given}
use Rattle.replay_script.specs.Tells.{telling}
use Rattle.replay_script.proofs.Laws.Told.{stands_long}
use Rattle.replay_script.specs.declared.Asked.{Asked}
use Rattle.replay_writing.specs.Promises.Ran.{Spans}
use Rattle.replay_writing.specs.Laws.Ran.{few, lent_part}
use Rattle.replay_reading.specs.Promises.Told.{ToldReport, Answers}

-- ---- bytes at a place

put_at : {p q : ℕ} → Some p ≡ Some q → p ≡ q
put_at e = cc

put_full : {C : Type 0} {p : ℕ} → Some p ≡ None → C
put_full e = absurd (let z : ◌≡◌ {A = ℕ} 0 1 = cc in omega arith)

pasted_long : (l : List ℕ) (p : ℕ) (x : List ℕ) → p + length x ≤ length l → length (pasted l p x) ≡ length l
pasted_long l p x h =
    omega (
      arith,
      length-append (take p l ++ x) (drop (p + length x) l),
      length-append (take p l) x,
      length-take-le p l (omega arith),
      length-drop (p + length x) l,
    )

-- bytes that are pasted at p
whole_added : {m : List ℕ} {w : Option ℕ} (out : List ℕ) (p : ℕ) (x : List ℕ) → p + length x ≤ length out
    → m ≡ pasted out p x → w ≡ Some (p + length x) → Adds out (Some p) m w x
whole_added {m = m} out p x h e f = record {
  size = ap length e ∙ pasted_long out p x h;
  full = λ d. put_full d;
  next = λ i d k. f ∙ ap (λ i. Some (i + length x)) (put_at d);
  holds = λ i d k. e ∙ ap (λ i. pasted out i x) (put_at d);
  over = λ i d k j. absurd (omega (arith, put_at d));
}

no_room : (l x : List ℕ) (p : ℕ) → length l < p + length x → Adds l (Some p) l None x
no_room l x p h = record {
  size = refl;
  full = λ e. refl;
  next = λ i e k. absurd (omega (arith, put_at e));
  holds = λ i e k. absurd (omega (arith, put_at e));
  over = λ i e k j. refl;
}

-- number and output, one after the other
both_told : (out x : List ℕ) (p o : ℕ) → p + suc (length x) ≤ length out
    → set (take (p + 1) out ++ (x ++ drop (length x) (drop (p + 1) out))) p o ≡ pasted out p (o ∷ x)
both_told out x p o h =
    let e : p + 1 ≡ suc p = omega arith in
    let z : suc p + length x ≡ p + suc (length x) = omega arith in
    let i : p < length out = omega arith in
    let rest = x ++ drop (p + suc (length x)) out in
    let d : x ++ drop (length x) (drop (p + 1) out) ≡ rest =
    ap (λ l. x ++ l) (drop-drop (length x) (p + 1) out ∙ ap (λ n. drop n out) (ap (λ n. n + length x) e ∙ z)) in
    let t : take (p + 1) out ≡ take p out ++ (get_or out p 0 ∷ []) = ap (λ n. take n out) e ∙ take-suc out p 0 i in
    ap₂ (λ f l. set (f ++ l) p o) t d
    ∙ ap (λ l. set l p o) (append_assoc (take p out) (get_or out p 0 ∷ []) rest)
    ∙ set_at (take p out) (get_or out p 0) rest o p (length-take-le p out (omega arith))
    ∙ sym (append_assoc (take p out) (o ∷ x) (drop (p + suc (length x)) out))

-- ---- a call whose output is of n bytes

module _ (L : Lengths) (old : List ℕ) (c : Call) (w : writes c ≡ false) {n : ℕ} (d : out_of c ≡ n) (out : List ℕ)
    (p : ℕ) where
  told_long : length (telling c (gives L old c)) ≡ suc n
  told_long = ap suc (stands_long L old c ∙ ap (λ b. cond b 0 (out_of c)) w ∙ d)

  pub no_call : length out < p + suc n → Adds out (Some p) out None (telling c (gives L old c))
  no_call h = no_room out (telling c (gives L old c)) p (omega (arith, told_long))

  module _ (h : p < length out) (room : n ≤ length out - (p + 1)) where
    span : p + 1 + n - (p + 1) ≡ n
    span = omega arith

    pub part_long : length (take (p + 1 + n - (p + 1)) (drop (p + 1) out)) ≡ n
    part_long =
        ap (λ n. length (take n (drop (p + 1) out))) span
        ∙ length-take-le n (drop (p + 1) out) (omega (arith, length-drop (p + 1) out))

    pub call_told : {k o : ℕ} {x : List ℕ} → Answers L old c k x → (k < 256 → o ≡ k)
        → Adds out (Some p) (set (take (p + 1) out ++ (x ++ drop (p + 1 + n - (p + 1)) (drop (p + 1) out))) p o)
        (Some (p + 1 + n)) (telling c (gives L old c))
    call_told {k} {o} {x} A b =
        let l : length x ≡ n = ap length A.out ∙ out_long L old c ∙ d in
        let i : o ≡ k = b (omega (arith, few L old c, A.number)) in
        let z : set (take (p + 1) out ++ (x ++ drop (p + 1 + n - (p + 1)) (drop (p + 1) out))) p o
        ≡ pasted out p (o ∷ x) =
        ap (λ n. set (take (p + 1) out ++ (x ++ drop n (drop (p + 1) out))) p o) (span ∙ sym l)
        ∙ both_told out x p o (omega arith) in
        let e : p + 1 + n ≡ p + suc (length x) = omega arith in
        adds.same (whole_added out p (o ∷ x) (omega arith) z (ap Some e))
        (ap₂ ◌∷◌ (i ∙ A.number) A.out ∙ ap (λ b. (gives L old c).number ∷ cond b [] (gives L old c).out) (sym w))

pub answers : {L : Lengths} {old : List ℕ} {c : Call} {k : ℕ} {x : List ℕ} {work : List (List ℕ)}
    → Given L old c k x work → Answers L old c k x
answers g = record {
  number = ap (λ (g : Gave). g.number) g.is;
  out = ap (λ (g : Gave). g.out) g.is;
}

-- ---- a report

abbrev reported : List ℕ → Asked → Call
reported s q = report (slice q.feed.from q.feed.to s) q.out

module _ {L : Lengths} {s : List ℕ} {q : Asked} {old out : List ℕ} {p : ℕ} where
  pub no_report : length out < p + suc q.out → ToldReport L s q old out p out None
  no_report h = record { told = no_call L old (reported s q) refl refl out p h }

  pub report_told : Spans s q → (h : p < length out) (room : q.out ≤ length out - (p + 1)) {k o : ℕ} {x : List ℕ}
      {work : List (List ℕ)}
      → Given L old (report (lent_part s q.feed.from q.feed.to)
      (length (take (p + 1 + q.out - (p + 1)) (drop (p + 1) out)))) k x work
      → (k < 256 → o ≡ k)
      → ToldReport L s q old out p
      (set (take (p + 1) out ++ (x ++ drop (p + 1 + q.out - (p + 1)) (drop (p + 1) out))) p o) (Some (p + 1 + q.out))
  report_told S h room {k} {o} {x} {work} g b =
      let G : Given L old (reported s q) k x work =
      rw (
        slice_is q.feed.from q.feed.to s S.feed_forward S.feed_within,
        part_long L old (reported s q) refl refl out p h room,
      ) at g in
      record { told = call_told L old (reported s q) refl refl out p h room (answers G) b }
