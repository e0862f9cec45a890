-- Law. Of one id: the answers of the tests in the order of the code. Of a list: a loop that asks each id.
use Rattle.std.specs.Prelude.{◌≡◌, refl, List, [], ◌∷◌, ◌++◌, Bool, true, false, ◌||◌, ℕ, suc, ◌+◌, ◌-◌, ◌≤◌, ◌<◌, length, take, drop}
use Rattle.std.proofs.Common.{sym, ap, ◌∙◌, add-one, arith, length-drop, drop_of_length-le, lt-ltb, le-ltb}
use Rattle.basics.specs.Lists.{any, is_empty}
use Rattle.basics.specs.Texts.{same}
use Rattle.basics.specs.Laws.Lists.{any_append}
use Rattle.basics.specs.Laws.Booleans.{or_false}
use Rattle.formats.specs.Class.{printable}
use Rattle.formats.specs.Format.{text}
use Rattle.formats_write.specs.Laws.Slices.{slice_is}
use Rattle.formats_read.specs.Promises.Reads.{ReadsNumber, ReadsText}
use Rattle.formats_read.specs.Laws.Walk.{Walk, begin, onward, ended, of_list}
use Rattle.formats_skip.specs.Laws.Passes.{Passing, any_text, read_text, list_start, list_on, list_end}
use Rattle.alerts.specs.Text.{ends, same_ignoring_case}
use Rattle.alerts.specs.Text as Text
use Rattle.alerts.specs.Index.{undated, part_after, tail, id_keys}
use Rattle.alerts.specs.Applies.{stop_tail, route_refs_match, by_name}
use Rattle.alerts_ids.specs.Promises.Cuts.{LastOf}
use Rattle.alerts_ids.specs.Laws.Ends.{rest}
use Rattle.alerts_ids.specs.Laws.Names as Names
use Rattle.alerts_search.specs.declared.ids.Ask.{Ask}
use Rattle.alerts_search.specs.declared.ids.Ask.TheVariants.{MeetsTrip, MeetsRoute, MeetsStops}
use Rattle.alerts_search.specs.declared.ids.Ask.TheVariants.{HitsTrip, HitsRoute, HitsStops}
use Rattle.alerts_search.specs.Promises.Ids.{meets_trip, meets_id, meets_stop, hits_trip_id, hits_stop_id, hits_route_id}
use Rattle.alerts_search.specs.Promises.Ids.{answer_of, Asked}

-- ---- the part past the last ':'

tail_none : (x : List ℕ) (c : ℕ) → LastOf 0x3a x c → length x ≤ c → tail x ≡ []
tail_none x c l h = ap part_after l.cut ∙ rw (le-ltb c (length x) h) refl

tail_some : (x : List ℕ) (c : ℕ) → LastOf 0x3a x c → c < length x → tail x ≡ drop (suc c) x ∷ []
tail_some x c l h = ap part_after l.cut ∙ rw (lt-ltb c (length x) h) refl

-- a part from the next place on
part_past : (x : List ℕ) (c : ℕ) → take (length x - (c + 1)) (drop (c + 1) x) ≡ drop (suc c) x
part_past x c = rest x (c + 1) ∙ ap (λ n. drop n x) (add-one c)

module _ (k x : List ℕ) where
  pub key_same : (t : Bool) → t ≡ same k x → t ≡ true → true ≡ any (same k) (id_keys x)
  key_same t e f = rw (sym e ∙ f) refl

  pub key_whole : (t : Bool) (c : ℕ) → t ≡ same k x → t ≡ false → LastOf 0x3a x c → length x ≤ c
      → false ≡ any (same k) (id_keys x)
  key_whole t c e f l h = rw (sym e ∙ f, tail_none x c l h) refl

  pub key_empty : (t : Bool) (c : ℕ) → t ≡ same k x → t ≡ false → LastOf 0x3a x c → c < length x → length x ≤ c + 1
      → false ≡ any (same k) (id_keys x)
  key_empty t c e f l h g =
      let past : length x ≤ suc c = omega arith in
      let none_left : drop (suc c) x ≡ [] = drop_of_length-le x past in
      rw (sym e ∙ f, tail_some x c l h, none_left) refl

  pub key_past : (t u : Bool) (c : ℕ) → t ≡ same k x → t ≡ false → LastOf 0x3a x c → c < length x → c + 1 < length x
      → u ≡ same k (take (length x - (c + 1)) (drop (c + 1) x)) → u ≡ any (same k) (id_keys x)
  key_past t u c e f l h g d =
      let some_left : is_empty (drop (suc c) x) ≡ false =
      Names.nonempty (drop (suc c) x) (λ z. omega (arith, length-drop (suc c) x)) in
      sym (rw (sym e ∙ f, tail_some x c l h, some_left) (or_false (same k (drop (suc c) x)))
      ∙ ap (same k) (sym (part_past x c)) ∙ sym d)

  pub id_whole : (t : Bool) → t ≡ any (same k) (id_keys x) → t ≡ true → true ≡ meets_id k x
  id_whole t e f = rw (sym e ∙ f) refl

  pub id_no_tail : (t : Bool) (c : ℕ) → t ≡ any (same k) (id_keys x) → t ≡ false → LastOf 0x3a k c → length k ≤ c
      → false ≡ meets_id k x
  id_no_tail t c e f l h = rw (sym e ∙ f, tail_none k c l h) refl

  pub id_tail : (t u : Bool) (c : ℕ) → t ≡ any (same k) (id_keys x) → t ≡ false → LastOf 0x3a k c → c < length k
      → u ≡ any (same (take (length k - (c + 1)) (drop (c + 1) k))) (id_keys x) → u ≡ meets_id k x
  id_tail t u c e f l h d =
      sym (rw (sym e ∙ f, tail_some k c l h) (or_false (any (same (drop (suc c) k)) (id_keys x)))
      ∙ ap (λ y. any (same y) (id_keys x)) (sym (part_past k c)) ∙ sym d)

-- ---- two ids of the leg

stops_joined : (x y s : List ℕ) → meets_stop x y s ≡ meets_id x s || meets_id y s
stops_joined x y s = any_append (λ k. any (same k) (id_keys s)) (x ∷ tail x) (y ∷ tail y)

module _ (x y i : List ℕ) where
  pub stop_first : (t : Bool) → t ≡ meets_id x i → t ≡ true → true ≡ meets_stop x y i
  stop_first t e f = sym (stops_joined x y i ∙ rw (sym e ∙ f) refl)

  pub stop_second : (t u : Bool) → t ≡ meets_id x i → t ≡ false → u ≡ meets_id y i → u ≡ meets_stop x y i
  stop_second t u e f d = sym (stops_joined x y i ∙ rw (sym e ∙ f) (sym d))

  pub either_first : (t : Bool) → t ≡ hits_stop_id x i → t ≡ true → true ≡ hits_stop_id x i || hits_stop_id y i
  either_first t e f = rw (sym e ∙ f) refl

  pub either_second : (t u : Bool) → t ≡ hits_stop_id x i → t ≡ false → u ≡ hits_stop_id y i
      → u ≡ hits_stop_id x i || hits_stop_id y i
  either_second t u e f d = rw (sym e ∙ f) d

  -- a trip id; y is the leg's without its date
  pub trip_one : (t : Bool) → t ≡ same y i → t ≡ true → true ≡ meets_trip x y i
  trip_one t e f = rw (sym e ∙ f) refl

  pub trip_two : (u : List ℕ) (t v : Bool) → u ≡ undated i → t ≡ same y i → t ≡ false → v ≡ same y u → v ≡ true
      → true ≡ meets_trip x y i
  trip_two u t v eu e f d g = rw (← eu, sym e ∙ f, sym d ∙ g) refl

  pub trip_three : (u : List ℕ) (t v w : Bool) → u ≡ undated i → t ≡ same y i → t ≡ false → v ≡ same y u → v ≡ false
      → w ≡ same x i → w ≡ true → true ≡ meets_trip x y i
  trip_three u t v w eu e f d g a b = rw (← eu, sym e ∙ f, sym d ∙ g, sym a ∙ b) refl

  pub trip_four : (u : List ℕ) (t v w z : Bool) → u ≡ undated i → t ≡ same y i → t ≡ false → v ≡ same y u → v ≡ false
      → w ≡ same x i → w ≡ false → z ≡ same x u → z ≡ meets_trip x y i
  trip_four u t v w z eu e f d g a b h =
      sym (rw (← eu, sym e ∙ f, sym d ∙ g, sym a ∙ b) (or_false (same x u || false) ∙ or_false (same x u) ∙ sym h))

  pub trip_same : (t : Bool) → t ≡ same i x → t ≡ true → true ≡ hits_trip_id x y i
  trip_same t e f = rw (sym e ∙ f) refl

  pub trip_base : (t u : Bool) → t ≡ same i x → t ≡ false → u ≡ same i y → u ≡ true → true ≡ hits_trip_id x y i
  trip_base t u e f d g = rw (sym e ∙ f, sym d ∙ g) refl

  pub trip_end : (t u v : Bool) → t ≡ same i x → t ≡ false → u ≡ same i y → u ≡ false
      → v ≡ ends (Text.text ":" ++ y) i → v ≡ hits_trip_id x y i
  trip_end t u v e f d g h = rw (sym e ∙ f, sym d ∙ g) h

  -- a route id; y is the line's short name
  pub route_refs : (t : Bool) → t ≡ route_refs_match x i → t ≡ true → true ≡ hits_route_id x y i
  route_refs t e f = rw (sym e ∙ f) refl

  pub route_unnamed : (t : Bool) → t ≡ route_refs_match x i → t ≡ false → length y ≡ 0 → false ≡ hits_route_id x y i
  route_unnamed t e f h = rw (sym e ∙ f, Names.empty y h) refl

  pub route_named : (t u : Bool) → t ≡ route_refs_match x i → t ≡ false → (length y ≡ 0 → ⊥) → u ≡ by_name y i
      → u ≡ hits_route_id x y i
  route_named t u e f h d = rw (sym e ∙ f, Names.nonempty y h) d

-- a stop id
module _ (x i : List ℕ) where
  pub stop_none : length x ≡ 0 → false ≡ hits_stop_id x i
  stop_none h = rw (Names.empty x h) refl

  pub stop_same : (t : Bool) → (length x ≡ 0 → ⊥) → t ≡ same i x → t ≡ true → true ≡ hits_stop_id x i
  stop_same t h e f = rw (Names.nonempty x h, sym e ∙ f) refl

  pub stop_alike : (t u : Bool) (a b : List ℕ) → (length x ≡ 0 → ⊥) → t ≡ same i x → t ≡ false → a ≡ stop_tail i
      → b ≡ stop_tail x → u ≡ same_ignoring_case a b → u ≡ hits_stop_id x i
  stop_alike t u a b h e f ea eb d = rw (Names.nonempty x h, sym e ∙ f, ← ea, ← eb) d

-- what is asked

module _ (x y i : List ℕ) (ask : Ask) (r : Bool) where
  pub asked_meets_trip : ask ≡ MeetsTrip → r ≡ meets_trip x y i → r ≡ answer_of ask x y i
  asked_meets_trip e f = rw e f

  pub asked_meets_route : ask ≡ MeetsRoute → r ≡ meets_id x i → r ≡ answer_of ask x y i
  asked_meets_route e f = rw e f

  pub asked_meets_stops : ask ≡ MeetsStops → r ≡ meets_stop x y i → r ≡ answer_of ask x y i
  asked_meets_stops e f = rw e f

  pub asked_hits_trip : ask ≡ HitsTrip → r ≡ hits_trip_id x y i → r ≡ answer_of ask x y i
  asked_hits_trip e f = rw e f

  pub asked_hits_route : ask ≡ HitsRoute → r ≡ hits_route_id x y i → r ≡ answer_of ask x y i
  asked_hits_route e f = rw e f

  pub asked_hits_stops : ask ≡ HitsStops → r ≡ hits_stop_id x i || hits_stop_id y i → r ≡ answer_of ask x y i
  asked_hits_stops e f = rw e f

-- ---- a list

pub or_second : (hit r a : Bool) → hit ≡ false → r ≡ a → r ≡ hit || a
or_second hit r a e f = rw e f

pub record Asking (ask : Ask) (x y s : List ℕ) (a n p left : ℕ) (hit : Bool) : Type 0 where
  pub walk : Walk (text 64 printable) s a n p left (λ us. hit ≡ any (answer_of ask x y) us)
  pub pass : Passing (text 64 printable) s a n p left

module _ {ask : Ask} {x y s : List ℕ} {a n : ℕ} where
  pub asking_start : Asking ask x y s a n a n false
  asking_start = record { walk = begin refl; pass = list_start }

  module _ {p left : ℕ} {hit : Bool} (W : Asking ask x y s a n p left hit) where
    pub asking_on : {f e : ℕ} {r : Bool} → 0 < left → ReadsText s p f e
        → r ≡ hit || answer_of ask x y (take (e - f) (drop f s)) → Asking ask x y s a n e (left - 1) r
    asking_on {f} {e} {r} z T g = record {
      walk = onward W.walk e z (λ v q h. T.next h) (λ us v d h.
          let part : take (e - f) (drop f s) ≡ v = slice_is f e s T.forward T.within ∙ T.bytes h in
          g ∙ rw (d, part) (ap (λ b. any (answer_of ask x y) us || b) (sym (or_false (answer_of ask x y v))))
          ∙ sym (any_append (answer_of ask x y) us (v ∷ [])));
      pass = list_on W.pass z (any_text (read_text T));
    }

    pub asking_end : {at : ℕ} → ReadsNumber s at n a → left ≤ 0 → Asked ask x y s at hit p
    asking_end N z = record {
      is = λ h. of_list h N (ended W.walk z);
      next = λ h. (list_end W.pass N z).to h;
    }
