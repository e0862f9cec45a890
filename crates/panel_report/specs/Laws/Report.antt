-- Law. How a fresh call and a report call end.
use Rattle.std.specs.Prelude.{◌≡◌, Bool, true, false, ◌&&◌, List, [], ◌∷◌, ◌++◌, ℕ, ◌-◌, ◌/◌, ◌%◌, ◌^◌, ◌≤◌, ◌<◌, ℤ, pos, negsuc, eqb, leb, length, get_or, Option, Some, None}
use Rattle.std.proofs.Math.Path.{refl, sym, ap}
use Rattle.std.proofs.Common.{◌∙◌, arith, eq-eqb, ne_eqb, le-leb, inl, inr}
use Rattle.std.proofs.Math.Option
use Rattle.std.proofs.Math.Option.{some}
use Rattle.basics.specs.Options.{Maybe}
use Rattle.basics.specs.Texts.{same}
use Rattle.basics.specs.Laws.Booleans.{both_true}
use Rattle.basics.specs.Laws.Texts.{same_true}
use Rattle.maps.specs.Map.{ascending}
use Rattle.maps.specs.Order.{texts}
use Rattle.formats.specs.Format.{Value, write, number, signed, optional}
use Rattle.formats.specs.Number.{little_w, zig, zag}
use Rattle.formats.specs.Laws.Number.{zag_zig}
use Rattle.formats_write.specs.Laws.Adds.{then, wrote}
use Rattle.formats_write.specs.Laws.Adds as adds
use Rattle.formats_write.specs.Promises.Adds.{Adds}
use Rattle.formats_write.specs.Promises.Given.{given_signed}
use Rattle.formats_read.specs.Laws.Here.{halves, number_here}
use Rattle.formats_read.specs.Promises.Here.{Here}
use Rattle.formats_read.specs.Promises.Reads.{ReadsNumber}
use Rattle.formats_skip.specs.Laws.Passes.{any_optional_signed}
use Rattle.formats_skip.specs.Promises.Passes.{Passes}
use Rattle.overlay.specs.Change.{feed_at}
use Rattle.overlay.specs.Image.{room, state_of}
use Rattle.overlay.specs.Report.{bits64, stamped}
use Rattle.overlay.specs.Report as report
use Rattle.overlay.specs.State.{State, overlay, no_feed, no_state, feeds_of, count_of, timestamp_of, version_of}
use Rattle.overlay_feeds.specs.declared.FeedPlace.{FeedPlace}
use Rattle.overlay_feeds.specs.declared.FeedPlace.TheVariants.{At, Missing}
use Rattle.overlay_feeds.specs.Promises.Head.{ReadsHead}
use Rattle.overlay_feeds.specs.Promises.Place.{FindsFeed, FeedAt}
use Rattle.overlay_open.specs.Laws.Held.{open_at, open_no, opened_here, opened_valid, feeds_up}
use Rattle.overlay_open.specs.Promises.Opened.{ending}
use Rattle.panel.specs.Outcome.{accepted, need, need_some}
use Rattle.panel.specs.Questions.{feed_ok}
use Rattle.panel.specs.Fresh.{fresh_asks}
use Rattle.panel.specs.Report.{report_asks}
use Rattle.panel.specs.Calls.{ends}
use Rattle.panel.specs.Calls as calls
use Rattle.panel.specs.Lengths.{sized}
use Rattle.panel_output.specs.declared.Ending.{Ending}
use Rattle.panel_output.specs.declared.Ending.TheVariants.{Refused}
use Rattle.panel_output.specs.Laws.Ending.{written_outcome}
use Rattle.panel_output.specs.Promises.Ending.{outcome_of, put_ending}
use Rattle.panel_output.specs.Promises.Ends.{Ends}
use Rattle.panel_report.specs.Promises.Report.{Reads, Written}

-- ---- a fresh overlay

module _ {n : ℕ} (l : List ℕ) {m : List ℕ} where
  pub fresh_unsized : (eqb (length l) n && leb 3 (length l)) ≡ false
      → Ends (sized n) [] (calls.fresh (length l)) m (Refused 1)
  unfolding fresh_asks room
  fresh_unsized h = record { is = rw h refl }

  pub fresh_written : {q : Option ℕ} {r : Ending} → (eqb (length l) n && leb 3 (length l)) ≡ true
      → Adds l (Some 0) m q (write overlay no_state) → r ≡ put_ending q
      → Ends (sized n) [] (calls.fresh (length l)) m r
  unfolding fresh_asks room
  fresh_written h w i =
      let y = (both_true (eqb (length l) n) (leb 3 (length l)) h).1 in
      record {
        is = ap (outcome_of m) i
            ∙ written_outcome (wrote w)
            ∙ ap (λ b. need b 7 (accepted (write overlay no_state))) y
            ∙ sym (rw h refl);
      }

-- ---- a timestamp

pub even_bits : (n : ℕ) → n % 2 ≡ 0 → n / 2 ≡ bits64 (zag n)
even_bits n h = rw (eq-eqb (n % 2) 0 h) refl

pub odd_bits : (n : ℕ) → n < 2 ^ 64 → (n % 2 ≡ 0 → ⊥) → 18446744073709551615 - n / 2 ≡ bits64 (zag n)
odd_bits n l h = rw (ne_eqb (n % 2) 0 h) (omega arith)

pub stamp_absent : {l m n : List ℕ} {r k j : Option ℕ} {t : Option ℤ} → t ≡ None → Adds l r m k (0 ∷ [])
    → Adds m k n j (little_w 8 0) → Adds l r n j (stamped (given_signed t))
stamp_absent e a b = adds.same (then a b) (ap (λ t. stamped (given_signed t)) (sym e))

pub stamp_present : {l m n : List ℕ} {r k j : Option ℕ} {t : Option ℤ} {z : ℤ} {code bits : ℕ} → t ≡ Some z
    → Adds l r m k (1 ∷ []) → code ≡ zig z → bits ≡ bits64 (zag code) → Adds m k n j (little_w 8 bits)
    → Adds l r n j (stamped (given_signed t))
stamp_present {z} e a c d b =
    adds.same (then a (adds.same b (ap (little_w 8) (d ∙ ap (λ n. bits64 (zag n)) c ∙ ap bits64 (zag_zig z)))))
    (ap (λ t. stamped (given_signed t)) (sym e))

-- ---- a feed

module _ {o f : List ℕ} {r : FeedPlace} (P : FindsFeed o f r) {s : State} (e : state_of o ≡ some s) where
  abbrev whole : Here overlay o 0 (length (write overlay s)) s
  whole = opened_here o s e

  up : ascending texts (feeds_of s) ≡ true
  up = feeds_up s (opened_valid o s e)

  at_feed : {i p b : ℕ} → r ≡ At i p b → FeedAt o f s (length (write overlay s)) i p b
  at_feed {i} {p} {b} h = (P.to whole up).found i p b h

  is_feed : {i p b : ℕ} (h : r ≡ At i p b) → (at_feed h).it ≡ feed_at f s
  unfolding feed_at
  is_feed h = sym (ap (λ g. Option.get_or g no_feed) (at_feed h).got)

  no_feed_holds : {i p : ℕ} → r ≡ Missing i p → no_feed ≡ feed_at f s
  unfolding feed_at
  no_feed_holds {i} {p} h = sym (ap (λ g. Option.get_or g no_feed) ((P.to whole up).lost i p h).got)

module _ {o f : List ℕ} {r : FeedPlace} (P : FindsFeed o f r) where
  pub reads_none : {i p : ℕ} → r ≡ Missing i p → Reads o f 0 None
  reads_none h = record {
    count_is = λ e. ap count_of (no_feed_holds P e h);
    timestamp_is = λ e. ap timestamp_of (no_feed_holds P e h);
  }

  pub reads_at : {i p b c n e : ℕ} {t : Option ℤ} → r ≡ At i p b
      → ((lo hi : ℤ) (v : Value (optional (signed lo hi))) (q : ℕ) → Here (optional (signed lo hi)) o b q v
      → given_signed t ≡ v)
      → Passes (optional (number 0 0)) o b c → ReadsNumber o c n e → Reads o f n t
  reads_at {b} {c} h T C N = record {
    count_is = λ e.
        let x = halves (at_feed P e h).feed_here in
        let y = (halves x.second).first in
        let z = (any_optional_signed C).to x.first in
        let u = rw (← z) at y in
        N.value (number_here u) ∙ ap count_of (is_feed P e h);
    timestamp_is = λ e.
        let x = (halves (at_feed P e h).feed_here).first in
        T (negsuc 9223372036854775807) (pos 9223372036854775807) _ _ x ∙ ap timestamp_of (is_feed P e h);
  }

-- ---- a report

pub report_written : {l m n k : List ℕ} {a b c : Option ℕ} {o f : List ℕ} {version counted feeds first count : ℕ}
    {t : Option ℤ} → ReadsHead o version counted feeds first → Reads o f count t
    → Adds l (Some 0) m a (little_w 8 version) → Adds m a n b (little_w 8 count)
    → Adds n b k c (stamped (given_signed t)) → Written l k c o f
unfolding report.report
report_written {o} H R x y z = record {
  is = λ {s} e.
      wrote
      (then (adds.same x (ap (little_w 8) (H.to (opened_here o s e)).version_is))
      (then (adds.same y (ap (little_w 8) (R.count_is e))) (adds.same z (ap stamped (R.timestamp_is e)))));
}

report_long : (f : List ℕ) (s : State) → length (report.report f s) ≡ 25
unfolding report.report
report_long f s = stamped_long (timestamp_of (feed_at f s))
  where
    stamped_long : (t : Maybe ℤ)
        → length (little_w 8 (version_of s) ++ (little_w 8 (count_of (feed_at f s)) ++ stamped t)) ≡ 25
    stamped_long (inl x) = refl
    stamped_long (inr z) = refl

-- question 1: the lengths of the overlay and of the output
abbrev pub report_sized : ℕ → List ℕ → ℕ → Bool
report_sized n o out = same (length o ∷ out ∷ []) (n ∷ 25 ∷ [])

-- what follows it
asked : (n : ℕ) (o f : List ℕ) (out : ℕ) {a : Bool} → a ≡ report_sized n o out → a ≡ true
    → ends (sized n) o (calls.report f out)
    ≡ need_some (state_of o) 2 (λ s. need (feed_ok f) 5 (accepted (report.report f s)))
unfolding report_asks
asked n o f out A h = rw (sym A ∙ h) refl

module _ {n : ℕ} {o f m : List ℕ} {out : ℕ} {a : Bool} (A : a ≡ report_sized n o out) where
  pub report_unsized : a ≡ false → Ends (sized n) o (calls.report f out) m (Refused 1)
  unfolding report_asks
  report_unsized h = record { is = rw (sym A ∙ h) refl }

  module _ (h : a ≡ true) where
    pub report_no : {w : Option ℕ} → w ≡ ending (state_of o) → w ≡ None
        → Ends (sized n) o (calls.report f out) m (Refused 2)
    report_no O i = record { is = sym (asked n o f out A h ∙ rw (open_no o O i) refl) }

    module _ {w : Option ℕ} {p : ℕ} {b : Bool} (O : w ≡ ending (state_of o)) (i : w ≡ Some p)
        (d : b ≡ feed_ok f) where
      pub report_bad : b ≡ false → Ends (sized n) o (calls.report f out) m (Refused 5)
      report_bad j = record { is = sym (asked n o f out A h ∙ rw ((open_at O i).is, sym d ∙ j) refl) }

      -- 25 bytes have room in 25
      pub report_good : {l : List ℕ} {q : Option ℕ} {r : Ending} → b ≡ true → out ≡ length l → Written l m q o f
          → r ≡ put_ending q → Ends (sized n) o (calls.report f out) m r
      report_good {l} j k W e =
          let S = open_at O i in
          let x = report.report f S.state in
          let e' = same_true (length o ∷ out ∷ []) (n ∷ 25 ∷ []) (sym A ∙ h) in
          let z : length l ≡ 25 = sym k ∙ ap (λ l. get_or l 1 0) e' in
          let fits = le-leb (length x) (length l) (omega (arith, report_long f S.state, z)) in
          record {
            is = ap (outcome_of m) e
                ∙ written_outcome (W.is S.is)
                ∙ ap (λ y. need y 7 (accepted x)) fits
                ∙ sym (asked n o f out A h ∙ rw (S.is, sym d ∙ j) refl);
          }
