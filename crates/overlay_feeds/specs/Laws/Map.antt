-- Law. A map's look-up and change past the entries whose keys come first.
use Rattle.std.specs.Prelude.{◌≡◌, refl, true, List, [], ◌∷◌, ◌++◌}
use Rattle.std.proofs.Common.{ap}
use Rattle.std.proofs.Math.Option.{none}
use Rattle.basics.specs.Lists.{All}
use Rattle.basics.specs.Laws.Booleans.{both_true}
use Rattle.std.specs.declared.cmp.Ordering.TheVariants.{Less, Greater}
use Rattle.maps.specs.Map.{Ordered, is_less, get, put, above, ascending}
use Rattle.maps.proofs.Laws.Map.{Lawful, is_less_means, rest_ascending}

module _ {K : Type 0} (O : Ordered K) {A : Type 0} (k : K) where
  pub get_past : (front back : List (K × A)) → All (λ e. O.compare k e.0 ≡ Greater) front
      → get O k (front ++ back) ≡ get O k back
  get_past [] back h = refl
  get_past (e ∷ front) back h = rw h.0 (get_past front back h.1)

  pub put_past : (v : A) (front back : List (K × A)) → All (λ e. O.compare k e.0 ≡ Greater) front
      → put O k v (front ++ back) ≡ front ++ put O k v back
  put_past v [] back h = refl
  put_past v (e ∷ front) back h = rw h.0 (ap (◌∷◌ e) (put_past v front back h.1))

  -- the keys behind the others ascend too
  pub back_ascending : (W : Lawful O) (front back : List (K × A)) → ascending O (front ++ back) ≡ true
      → ascending O back ≡ true
  back_ascending W [] back h = h
  back_ascending W (e ∷ front) back h = back_ascending W front back (rest_ascending W e (front ++ back) h)

  -- nothing is got of a key below the first
  pub get_below : (W : Lawful O) (e : K × A) (m : List (K × A)) → O.compare k e.0 ≡ Less
      → ascending O (e ∷ m) ≡ true → get O k (e ∷ m) ≡ none
  get_below W e [] l h = rw l refl
  get_below W e (d ∷ m) l h =
      let b = both_true (is_less (O.compare e.0 d.0)) (above O d.0 m) h in
      rw l (get_below W d m (W.through k e.0 d.0 l (is_less_means (O.compare e.0 d.0) b.0)) b.1)
