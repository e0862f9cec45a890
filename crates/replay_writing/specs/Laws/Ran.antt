-- Law. What a call of a script left, by what the call gave.
use Rattle.std.specs.Prelude.{◌≡◌, refl, Bool, true, false, cond, ◌&&◌, List, [], ◌∷◌, ◌++◌, ℕ, ◌+◌, ◌-◌, ◌≤◌, ◌<◌, leb, ℤ, length, take, drop, Option, Some, None}
use Rattle.std.proofs.Common.{sym, ap, subst, ◌∙◌, arith, take_at, length-take-le, le-leb, leb-true}
use Rattle.std.proofs.lemmas.Bool.{false≢true, lt-leb}
use Rattle.std.proofs.Math.Seq.{slice}
use Rattle.basics.specs.Laws.Booleans.{both_true}
use Rattle.basics.specs.Lists.{all}
use Rattle.panel.specs.Questions.{Lengths}
use Rattle.panel.specs.Calls.{Call, fresh, message, alert_sheet, vehicle_sheet, Gave, asks as questions, gives, writes}
use Rattle.panel.specs.Answers.{order, answer, first_no}
use Rattle.panel.proofs.Laws.Answers.{first_no_holds}
use Rattle.panel.proofs.Laws.History.{writes_overlay}
use Rattle.panel.proofs.Laws.Sizes.{out_long}
use Rattle.formats_write.specs.Laws.Slices.{slice_is}
use Rattle.replay_script.specs.Script.{within}
use Rattle.replay_script.specs.declared.Asked.{Asked}
use Rattle.panel.specs.Given.{Given}
use Rattle.replay_writing.specs.Promises.Ran.{ran_of, RanAs, Spans, Sound, ReadsWork, within3, Fits, MessageRan}
use Rattle.replay_script.specs.Promises.Asked.{ReadsLength}

-- ---- numbers

no_more : (l : List ℕ) (a : ℕ → Bool) → all (λ n. leb n 255) l ≡ true → first_no l a < 256
no_more [] a h = omega arith
no_more (n ∷ l) a h =
    let y = both_true (leb n 255) (all (λ n. leb n 255) l) h in
    go (a n) (leb-true n 255 y.0) (no_more l a y.1)
  where
    go : (b : Bool) → n ≤ 255 → first_no l a < 256 → cond b (first_no l a) n < 256
    go true i r = r
    go false i r = omega (arith, i)

-- a number is a byte
pub few : (L : Lengths) (old : List ℕ) (c : Call) → (gives L old c).number < 256
few L old c = omega (arith, first_no_holds L old c, no_more order (answer (questions L old c)) refl)

-- ---- what a call left

pub unlent : {out lent : ℕ} {L : Lengths} {old : List ℕ} {c : Call} {new : List ℕ} → lent < out
    → RanAs (leb out lent) L old c new None
unlent {out} {lent} {L} {old} {c} h =
    let e = lt-leb out lent h in
    record {
      number = ap (λ b. ran_of b (gives L old c).number) (sym e);
      next = λ t z. absurd (false≢true (sym e ∙ t));
    }

-- run on the first bytes of `new`, of which x came
ran : (L : Lengths) (old : List ℕ) {c : Call} {k : ℕ} {x : List ℕ} {work : List (List ℕ)} (rest : List ℕ) {b : Bool}
    → b ≡ true → writes c ≡ true → Given L old c k x work → RanAs b L old c (x ++ rest) (Some k)
ran L old {c} {k} {x} rest t w g =
    let n : k ≡ (gives L old c).number = ap (λ (g : Gave). g.number) g.is in
    let o : x ≡ (gives L old c).out = ap (λ (g : Gave). g.out) g.is in
    record {
      number = ap Some n ∙ ap (λ b. ran_of b (gives L old c).number) (sym t);
      next = λ h z.
          let l : length x ≡ L.overlay = ap length o ∙ out_long L old c ∙ (writes_overlay L old c w z).long in
          take_at x rest L.overlay l ∙ o;
    }

module _ (L : Lengths) (old new : List ℕ) {lent out : ℕ} (h : out ≤ lent) (room : lent ≤ length new) where
  part_long : length (take out new) ≡ out
  part_long = length-take-le out new (omega arith)

  pub fresh_ran : {k : ℕ} {x : List ℕ} {work : List (List ℕ)} → Given L old (fresh (length (take out new))) k x work
      → RanAs (leb out lent) L old (fresh out) (x ++ drop out new) (Some k)
  fresh_ran g = ran L old (drop out new) (le-leb out lent h) refl (rw part_long at g)

-- the bytes of a script from a up to e, as they are lent
abbrev pub lent_part : List ℕ → ℕ → ℕ → List ℕ
lent_part s a e = take (e - a) (drop a s)

module _ (L : Lengths) (old s new : List ℕ) (q : Asked) {lent : ℕ} (S : Spans s q) (h : q.out ≤ lent)
    (room : lent ≤ length new) where
  abbrev feed : List ℕ
  feed = slice q.feed.from q.feed.to s

  abbrev input : List ℕ
  input = slice q.input.from q.input.to s

  feed_is : lent_part s q.feed.from q.feed.to ≡ feed
  feed_is = slice_is q.feed.from q.feed.to s S.feed_forward S.feed_within

  input_is : lent_part s q.input.from q.input.to ≡ input
  input_is = slice_is q.input.from q.input.to s S.input_forward S.input_within

  out_is : length (take q.out new) ≡ q.out
  out_is = length-take-le q.out new (omega arith)

  module _ {k : ℕ} {x : List ℕ} {work : List (List ℕ)} where
    pub alerts_ran : Given L old (alert_sheet (lent_part s q.feed.from q.feed.to)
        (lent_part s q.input.from q.input.to) (length (take q.out new)) []) k x work
        → RanAs (leb q.out lent) L old (alert_sheet feed input q.out []) (x ++ drop q.out new) (Some k)
    alerts_ran g =
        ran L old (drop q.out new) (le-leb q.out lent h) refl (rw (feed_is, input_is, out_is) at g)

    pub vehicles_ran : {t : ℤ} (z : ℤ) → t ≡ z → Given L old (vehicle_sheet (lent_part s q.feed.from q.feed.to)
        (lent_part s q.input.from q.input.to) t (length (take q.out new)) []) k x work
        → RanAs (leb q.out lent) L old (vehicle_sheet feed input z q.out []) (x ++ drop q.out new) (Some k)
    vehicles_ran z e g =
        ran L old (drop q.out new) (le-leb q.out lent h) refl (rw (e, feed_is, input_is, out_is) at g)

-- ---- a message

pub work_read : {s : List ℕ} {p a b c : ℕ} → ReadsLength s p 0 a → ReadsLength s p 1 b → ReadsLength s p 2 c
    → ReadsWork s p (a ∷ b ∷ c ∷ [])
work_read A B C = record {
  of = λ h. let a = A.of h in let b = B.of h in let c = C.of h in rw (a, b, c) refl;
}

module _ (n : ℕ) (L : Lengths) (old s new : List ℕ) (q : Asked) (S : Sound n s q) {k : ℕ} {x : List ℕ}
    {work : List (List ℕ)} {a b c : ℕ} (ks ms os : List ℕ)
    (F : Fits a b c (length ks) (length ms) (length os) q.out (length new)) where
  pub message_run : Given L old (message (lent_part s q.feed.from q.feed.to)
      (lent_part s q.input.from q.input.to) (length (take q.out new))
      (length (take a ks) ∷ length (take b ms) ∷ length (take c os) ∷ [])) k x work
      → RanAs true L old (message (slice q.feed.from q.feed.to s) (slice q.input.from q.input.to s)
      q.out (a ∷ b ∷ c ∷ [])) (x ++ drop q.out new) (Some k)
  message_run g =
      ran L old (drop q.out new) refl refl
      (rw (
        slice_is q.feed.from q.feed.to s S.spans.feed_forward S.spans.feed_within,
        slice_is q.input.from q.input.to s S.spans.input_forward S.spans.input_within,
        length-take-le q.out new F.overlay,
        length-take-le a ks F.keys,
        length-take-le b ms F.marks,
        length-take-le c os F.order,
      ) at g)

-- the test in the code's form
tested : (a b c lent : Bool) → ((a && (b && c)) && lent) ≡ ((a && (b && (c && true))) && lent)
tested true true true lent = refl
tested true true false lent = refl
tested true false c lent = refl
tested false b c lent = refl

module _ {L : Lengths} {lent : ℕ} {s old new : List ℕ} {q : Asked} {a b c k m o : ℕ}
    (W : ReadsWork s q.work (a ∷ b ∷ c ∷ [])) where
  asks : (r : Option ℕ) → RanAs (within3 a b c k m o && leb q.out lent) L old
      (message (slice q.feed.from q.feed.to s) (slice q.input.from q.input.to s) q.out
      (a ∷ b ∷ c ∷ [])) new r
      → MessageRan L lent (k ∷ m ∷ o ∷ []) s q old new r
  asks r A = record {
    of = λ {w} h.
        let F = slice q.feed.from q.feed.to s in
        let I = slice q.input.from q.input.to s in
        subst (λ l. RanAs (within l (k ∷ m ∷ o ∷ []) && leb q.out lent) L old (message F I q.out l) new r)
        (W.of h)
        (subst (λ t. RanAs t L old (message F I q.out (a ∷ b ∷ c ∷ [])) new r)
        (tested (leb a k) (leb b m) (leb c o) (leb q.out lent)) A);
  }

  pub message_ran : {r : ℕ} → (within3 a b c k m o && leb q.out lent) ≡ true
      → RanAs true L old (message (slice q.feed.from q.feed.to s) (slice q.input.from q.input.to s)
      q.out (a ∷ b ∷ c ∷ [])) new (Some r)
      → MessageRan L lent (k ∷ m ∷ o ∷ []) s q old new (Some r)
  message_ran {r} e A = asks (Some r) (rw e A)

  pub message_unlent : (within3 a b c k m o && leb q.out lent) ≡ false
      → MessageRan L lent (k ∷ m ∷ o ∷ []) s q old new None
  message_unlent e = asks None (record {
    number = ap (λ t. ran_of t (gives L old (message (slice q.feed.from q.feed.to s)
        (slice q.input.from q.input.to s) q.out (a ∷ b ∷ c ∷ []))).number) (sym e);
    next = λ t z. absurd (false≢true (sym e ∙ t));
  })

-- what the test says
pub fits : (a b c k m o out lent room : ℕ) → (within3 a b c k m o && leb out lent) ≡ true → lent ≤ room
    → Fits a b c k m o out room
fits a b c k m o out lent room e n =
    let f = both_true (within3 a b c k m o) (leb out lent) e in
    let g = both_true (leb a k) (leb b m && leb c o) f.0 in
    let h = both_true (leb b m) (leb c o) g.1 in
    record {
      keys = leb-true a k g.0;
      marks = leb-true b m h.0;
      order = leb-true c o h.1;
      overlay = omega (arith, leb-true out lent f.1);
    }

pub lent_so : (b : Bool) {r w t : Bool} → r ≡ w → (r && b) ≡ t → (w && b) ≡ t
lent_so b e h = ap (λ r. r && b) (sym e) ∙ h
