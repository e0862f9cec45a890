-- Law. Tests of entries, by the texts and numbers that stand in them.
use Rattle.std.specs.Prelude.{◌≡◌, refl, Bool, true, false, List, ℕ, ◌-◌, eqb, take, drop, Option, Some, None}
use Rattle.std.proofs.Common.{sym, ap, ◌∙◌}
use Rattle.std.specs.Option.{option_eq}
use Rattle.basics.specs.Options.{given_and}
use Rattle.basics.specs.Texts.{same}
use Rattle.basics.specs.Laws.Booleans.{and_no, and_yes}
use Rattle.formats.specs.Class.{Class, any}
use Rattle.formats.specs.Format.{number, text, optional, Value}
use Rattle.formats_write.specs.Promises.Given.{given_number}
use Rattle.formats_write.specs.Laws.Slices.{slice_is}
use Rattle.formats_read.specs.Promises.Here.{Here}
use Rattle.formats_read.specs.Promises.Reads.{ReadsText}
use Rattle.formats_read.specs.Laws.Here.{halves}
use Rattle.formats_skip.specs.Promises.Passes.{Passes, Leads}
use Rattle.formats_skip.specs.Laws.Passes.{any_text}
use Rattle.formats_skip.specs.Laws.Leads.{lead_field}
use Rattle.overlay_feeds.specs.Laws.Head.{begins}
use Rattle.decode.specs.Key.{prefixed}
use Rattle.decode.specs.Trip.{trip, trip_entry}
use Rattle.overlay.specs.Lookup.{route_matches, direction_matches}
use Rattle.overlay_ids.specs.Promises.Ids.{RouteFits}
use Rattle.overlay_seek.specs.Promises.Answers.{Tests, IsText}
use Rattle.overlay_find.specs.Promises.Texts.{RouteIs, DirectionIs, Described}
use Rattle.overlay_find.specs.Promises.Texts.{descriptor_test}

-- the text that was read, and the bytes that were compared
module _ {s : List ℕ} {p a e : ℕ} (T : ReadsText s p a e) where
  bytes : {l : ℕ} {c : Class} {v : List ℕ} {q : ℕ} → Here (text l c) s p q v → take (e - a) (drop a s) ≡ v
  bytes h = slice_is a e s T.forward T.within ∙ T.bytes h

  pub route_is : {f leg : List ℕ} {b : Bool} → RouteFits f (take (e - a) (drop a s)) leg b → RouteIs s p f leg b
  route_is {f} {leg} R = record {
    is = λ y. R.is ∙ ap (λ v. route_matches (prefixed f v) leg) (bytes y);
  }

-- the direction
pub any_direction : {s : List ℕ} {p : ℕ} {d : Option ℕ} → d ≡ None → DirectionIs s p d true
any_direction e = record { is = λ h. rw e refl }

module _ {s : List ℕ} {p n : ℕ} {d o : Option ℕ} (e : d ≡ Some n)
    (O : (lo hi : ℕ) (v : Value (optional (number lo hi))) (q : ℕ) → Here (optional (number lo hi)) s p q v
    → given_number o ≡ v) where
  pub no_direction : o ≡ None → DirectionIs s p d false
  no_direction k = record {
    is = λ {v} {q} h. rw e (ap (given_and (eqb n)) (ap given_number (sym k) ∙ O _ _ v q h));
  }

  pub one_direction : {m : ℕ} → o ≡ Some m → DirectionIs s p d (eqb n m)
  one_direction k = record {
    is = λ {v} {q} h. rw e (ap (given_and (eqb n)) (ap given_number (sym k) ∙ O _ _ v q h));
  }

both : (n : ℕ) (o : Option ℕ) → option_eq eqb (Some n) o ≡ given_and (eqb n) (given_number o)
both n None = refl
both n (Some m) = refl

pub same_direction : {s : List ℕ} {p n : ℕ} {b : Bool} {d : Option ℕ} (o : Option ℕ) → d ≡ Some n
    → ((lo hi : ℕ) (v : Value (optional (number lo hi))) (q : ℕ) → Here (optional (number lo hi)) s p q v
    → given_number o ≡ v) → b ≡ option_eq eqb d o → DirectionIs s p d b
same_direction {n} o e O i = record {
  is = λ {v} {q} h. i ∙ rw e (both n o ∙ ap (given_and (eqb n)) (O _ _ v q h));
}

-- a record from its date on
ended : {s : List ℕ} {p q m : ℕ} {l : ℕ} {c : Class} {v : List ℕ} → Passes (text 0 any) s p m → Here (text l c) s p q v
    → q ≡ m
ended P h = sym ((any_text P).to h)

module _ {s f leg date : List ℕ} {d : Option ℕ} {p : ℕ} {b : Bool} (D : IsText s p date b) where
  pub other_date : b ≡ false → Described s p f leg d date false
  other_date e = record {
    is = λ {v} h.
        let n : same v.0 date ≡ false = sym (D.to (halves h).first) ∙ e in
        rw (n, and_no (direction_matches (given_number d) v.1.1.0))
        (sym (and_no (route_matches (prefixed f v.1.0) leg)));
  }

  module _ {r : ℕ} {g : Bool} (e : b ≡ true) (P : Passes (text 0 any) s p r) (R : RouteIs s r f leg g) where
    pub other_route : g ≡ false → Described s p f leg d date false
    other_route n = record {
      is = λ {v} h.
          let x = halves h in
          let y = halves (begins (ended P x.first) x.second) in
          let k : route_matches (prefixed f v.1.0) leg ≡ false = sym (R.is y.first) ∙ n in
          rw k refl;
    }

    pub by_direction : {k : ℕ} {o : Bool} → g ≡ true → Passes (text 0 any) s r k → DirectionIs s k d o
        → Described s p f leg d date o
    by_direction n Q O = record {
      is = λ {v} h.
          let x = halves h in
          let y = halves (begins (ended P x.first) x.second) in
          let z = halves (begins (ended Q y.first) y.second) in
          let i : same v.0 date ≡ true = sym (D.to x.first) ∙ e in
          let k : route_matches (prefixed f v.1.0) leg ≡ true = sym (R.is y.first) ∙ n in
          O.is z.first
          ∙ sym (rw (k, i) (and_yes (direction_matches (given_number d) v.1.1.0)));
    }

pub described_is : {s f leg date : List ℕ} {d : Option ℕ} {p m k : ℕ} {b : Bool} → Passes (text 0 any) s p m
    → Leads 2 trip s m k → Described s k f leg d date b → Tests trip_entry (descriptor_test f leg d date) s p b
described_is P L D = record {
  to = λ h.
      let x = halves h in
      let F = lead_field L tt (begins (ended P x.first) x.second) in
      D.is F.here;
}
