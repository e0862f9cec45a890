-- Law. A feed by checked reading: its timestamp, its count and what the count says, its entry; and the state's version.
use Rattle.std.specs.Prelude.{◌≡◌, refl, List, ℕ, ◌-◌, ◌^◌, ◌≤◌, ◌<◌, pos, negsuc, take, drop, Option, Some, None}
use Rattle.std.proofs.Common.{sym, ◌∙◌, arith}
use Rattle.std.proofs.Math.Option.{Option as LogicOption, some}
use Rattle.formats.specs.Class.{token}
use Rattle.formats.specs.Format.{number}
use Rattle.formats.specs.Readers.{const_r}
use Rattle.formats.specs.Laws.Law.{found}
use Rattle.formats.specs.Laws.Number.{number_law}
use Rattle.formats.specs.Promises.Outcome.{skipped}
use Rattle.formats_check.specs.Promises.Checked.{Number, Fine, Tested}
use Rattle.formats_check.specs.Laws.Checked.{good, under_no, under_so, behind_no, behind_so}
use Rattle.formats_check.specs.Laws.Elements.{a_number, number_no, number_high, number_so, signed_no, signed_so}
use Rattle.formats_check.specs.Laws.Elements.{around_in, constant_so}
use Rattle.formats_check.specs.Laws.Climbing.{Spans, Entered, enter_no, enter_bad, enter_so, keyed_no, keyed_so}
use Rattle.overlay.specs.State.{timestamp, feed, overlay}
use Rattle.overlay_open.specs.Promises.State.{records, counted, records_good, counted_good, feed_good, entry_good}
use Rattle.overlay_open.specs.Promises.State.{feeds_good, state_good}

-- any 64 bits
module _ {s : List ℕ} {at : ℕ} {o : Option (ℕ × ℕ)} (e : Number s at o) where
  fits : {n p : ℕ} → o ≡ Some (n, p) → n < 2 ^ 64
  fits {n} {p} h = (number_law.back (drop at s) n (drop p s) (a_number e h).reads).1

  pub timestamp_no : o ≡ None → Fine timestamp s at None
  timestamp_no h = signed_no (negsuc 9223372036854775807) (pos 9223372036854775807) e h

  pub timestamp_so : {n p : ℕ} → o ≡ Some (n, p) → Fine timestamp s at (Some p)
  timestamp_so {n} h =
      signed_so (negsuc 9223372036854775807) (pos 9223372036854775807) e h
      (around_in 9223372036854775807 n (omega (arith, fits h)))

  pub version_no : o ≡ None → Fine (number 0 18446744073709551615) s at None
  version_no h = number_no 0 18446744073709551615 e h

  pub version_so : {n p : ℕ} → o ≡ Some (n, p) → Fine (number 0 18446744073709551615) s at (Some p)
  version_so {n} h = number_so 0 18446744073709551615 e h (omega arith) (omega (arith, fits h))

  -- the count, and what is tested by it
  pub counted_no : (f : List ℕ) → o ≡ None → Tested counted (counted_good f) s at None
  counted_no f h = under_no (number_no 0 2048 e h) (records_good f) refl

  module _ {n p : ℕ} (h : o ≡ Some (n, p)) where
    pub counted_over : (f : List ℕ) → 2048 < n → Tested counted (counted_good f) s at None
    counted_over f l = under_no (number_high 0 2048 e h (omega arith) l) (records_good f) refl

    pub counted_so : (f : List ℕ) → n ≤ 2048 → {x : Option ℕ} → Tested records (records_good f n) s p x
        → Tested counted (counted_good f) s at x
    counted_so f l T =
        let c = number_so 0 2048 e h (omega arith) l in
        let G = good c refl in
        let i : n ≡ G.value = taken (sym (a_number e h).reads ∙ G.reads) in
        under_so c refl (rw i at T)
      where
        taken : {x y : ℕ} {t u : List ℕ} → ◌≡◌ {A = LogicOption (ℕ × List ℕ)} (some (x, t)) (some (y, u)) → x ≡ y
        taken {x} q = found (λ a b. x ≡ a) q refl

-- AN ENTRY: the test of a feed is by its id
module _ {s : List ℕ} {at : ℕ} {r : Option (ℕ × ℕ)} (S : Spans 16 token s at r) where
  pub feed_id : r ≡ None → Entered 16 token entry_good s at None
  feed_id h = enter_no (keyed_no S feed_good h)

  module _ {a e : ℕ} (h : r ≡ Some (a, e)) {x : Option ℕ}
      (T : Tested feed (feed_good (take (e - a) (drop a s))) s e x) where
    pub feed_none : x ≡ None → Entered 16 token entry_good s at None
    feed_none i = enter_bad (keyed_so S h T) i

    pub feed_so : {q : ℕ} → x ≡ Some q → Entered 16 token entry_good s at (Some (a, e, q))
    feed_so i = enter_so S h (keyed_so S h T) i

-- THE STATE: the layout's byte, the version, the feeds
module _ {s : List ℕ} {at : ℕ} {r : Option ℕ} (e : r ≡ skipped s (const_r 1 (drop at s))) where
  pub state_layout : r ≡ None → Tested overlay state_good s at None
  state_layout h = behind_no (constant_so 1 e) _ h

  module _ {p : ℕ} (h : r ≡ Some p) {o : Option (ℕ × ℕ)} (n : Number s p o) where
    pub state_version : o ≡ None → Tested overlay state_good s at None
    state_version i = behind_so (constant_so 1 e) h (behind_no (version_no n i) feeds_good refl)

    pub state_so : {v q : ℕ} → o ≡ Some (v, q) → {x : Option ℕ} → Tested _ feeds_good s q x
        → Tested overlay state_good s at x
    state_so i T = behind_so (constant_so 1 e) h (behind_so (version_so n i) refl T)
