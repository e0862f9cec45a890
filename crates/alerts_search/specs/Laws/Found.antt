-- Law. The alerts that the search's numbers name are a feed's candidates, in order: what a loop over the numbers and
-- the noted places asks.
use Rattle.std.specs.Prelude.{◌≡◌, refl, List, [], ◌∷◌, ◌++◌, Bool, true, false, cond, ℕ, zero, suc, ◌+◌, ◌≤◌, ◌<◌, length, get_or, take}
use Rattle.std.proofs.Common.{sym, ap, ◌∙◌, append_assoc, append-nil, add-one, arith, length-append, take-suc, get_or-take}
use Rattle.basics.specs.Lists.{filter, concat_map}
use Rattle.formats.specs.Format.{list}
use Rattle.formats_read.specs.Promises.Here.{Here}
use Rattle.alerts.specs.Alert.{alert, Alert}
use Rattle.alerts.specs.Index.{candidate, numbers_where, search}
use Rattle.alerts.specs.Index.{numbered}
use Rattle.alerts_search.specs.Promises.Candidates.{Candidates}
use Rattle.alerts_search.specs.Promises.Places.{Stands, Noted}
use Rattle.alerts_search.specs.Laws.Candidates.{numbers_few}

-- an alert's number names it
pub numbered_one : (l : List Alert) (i : ℕ) → i < length l → (a : Alert) × (numbered l i ≡ a ∷ [])
numbered_one [] i h = absurd (omega arith)
numbered_one (a ∷ l) zero h = (a, refl)
numbered_one (a ∷ l) (suc i) h = numbered_one l i (omega arith)

numbered_front : (front : List Alert) (a : Alert) (l : List Alert)
    → numbered (front ++ (a ∷ l)) (length front) ≡ a ∷ []
numbered_front [] a l = refl
numbered_front (b ∷ front) a l = numbered_front front a l

module _ (p : Alert → Bool) where
  from_on : (front l : List Alert) → concat_map (numbered (front ++ l)) (numbers_where p (length front) l) ≡ filter p l
  from_on front [] = refl
  from_on front (a ∷ l) = go (p a) (from_on (front ++ (a ∷ [])) l)
    where
      longer : length (front ++ (a ∷ [])) ≡ suc (length front)
      longer = length-append front (a ∷ []) ∙ omega arith

      go : (t : Bool)
          → concat_map (numbered (front ++ (a ∷ []) ++ l)) (numbers_where p (length (front ++ (a ∷ []))) l) ≡ filter p l
          → concat_map (numbered (front ++ (a ∷ l)))
          (cond t (length front ∷ numbers_where p (suc (length front)) l) (numbers_where p (suc (length front)) l))
          ≡ cond t (a ∷ filter p l) (filter p l)
      go true e =
          rw (numbered_front front a l) (ap (λ x. a ∷ x) (rw (append_assoc front (a ∷ []) l, longer) at e))
      go false e = rw (append_assoc front (a ∷ []) l, longer) at e

-- THE ALERTS THAT ARE FOUND are those that the definitions ask
pub found_alerts : (l : List Alert) (trip route from to : List ℕ)
    → concat_map (numbered l) (search l trip route from to) ≡ filter (candidate trip route from to) l
found_alerts l trip route from to = from_on (candidate trip route from to) [] l

-- ---- a loop over the numbers: the alerts behind it, and one alert more

abbrev pub behind : List Alert → List ℕ → ℕ → List Alert
behind l c k = concat_map (numbered l) (take k c)

pub record Step (s : List ℕ) (l : List Alert) (c places : List ℕ) (k : ℕ) : Type 0 where
  pub alert : Alert
  pub stands : Stands s (get_or places (get_or c k 0) 0) alert
  pub more : behind l c (k + 1) ≡ behind l c k ++ (alert ∷ [])

number_below : (p : Alert → Bool) (i : ℕ) (l : List Alert) (k : ℕ) → k < length (numbers_where p i l)
    → get_or (numbers_where p i l) k 0 < i + length l
number_below p i [] k h = absurd (omega arith)
number_below p i (a ∷ l) k h = go (p a) k h (number_below p (suc i) l)
  where
    go : (t : Bool) (k : ℕ) → k < length (cond t (i ∷ numbers_where p (suc i) l) (numbers_where p (suc i) l))
        → ((k : ℕ) → k < length (numbers_where p (suc i) l) → get_or (numbers_where p (suc i) l) k 0 < suc i + length l)
        → get_or (cond t (i ∷ numbers_where p (suc i) l) (numbers_where p (suc i) l)) k 0 < i + suc (length l)
    go true zero h ih = omega arith
    go true (suc k) h ih = omega (arith, ih k (omega arith))
    go false k h ih = omega (arith, ih k h)

concat_append : (f : ℕ → List Alert) (x y : List ℕ) → concat_map f (x ++ y) ≡ concat_map f x ++ concat_map f y
concat_append f [] y = refl
concat_append f (i ∷ x) y = rw (concat_append f x y) (sym (append_assoc (f i) (concat_map f x) (concat_map f y)))

module _ {trip route from to s : List ℕ} {p r : ℕ} {c : List ℕ} (C : Candidates trip route from to s p r c)
    {l : List Alert} {q : ℕ} (h : Here (list 256 alert) s p q l) (few : length l ≤ 256) where
  pub all_behind : behind l c r ≡ filter (candidate trip route from to) l
  all_behind = ap (concat_map (numbered l)) (C.is h few) ∙ found_alerts l trip route from to

  pub step : {n : ℕ} {old places : List ℕ} → Noted s p n old places → length l ≤ length old → length s < 4294967296
      → (k : ℕ) → k < r → Step s l c places k
  step {n} {old} {places} N room small k b =
      let j = C.count h few in
      let e = C.is h few in
      let same_number : get_or c k 0 ≡ get_or (search l trip route from to) k 0 =
      sym (get_or-take r c k 0 b) ∙ ap (λ x. get_or x k 0) e in
      let low : get_or c k 0 < length l =
      omega (arith, same_number, number_below (candidate trip route from to) 0 l k (omega arith)) in
      let one = numbered_one l (get_or c k 0) low in
      let inside : k < length c = omega (arith, C.kept, numbers_few (candidate trip route from to) 0 l) in
      record {
        alert = one.0;
        stands = (rw one.1 at (N.each h room small (get_or c k 0))).0;
        more = ap (concat_map (numbered l)) (ap (λ n. take n c) (add-one k) ∙ take-suc c k 0 inside)
            ∙ concat_append (numbered l) (take k c) (get_or c k 0 ∷ [])
            ∙ ap (λ x. behind l c k ++ x) (append-nil (numbered l (get_or c k 0)) ∙ one.1);
      }
