-- Law. Entries that ascend, put one after the other into a map, are merged with it: of the two first ones the lesser
-- comes first, and of two with one key the new one.
use Rattle.std.specs.Prelude.{◌≡◌, refl, true, List, [], ◌∷◌}
use Rattle.std.specs.declared.cmp.Ordering.TheVariants.{Less, Equal, Greater}
use Rattle.basics.specs.Laws.Booleans.{both_true}
use Rattle.maps.specs.Map.{Ordered, is_less, put, puts, above, ascending}
use Rattle.maps.proofs.Laws.Map.{Lawful, is_less_means}

module _ {K : Type 0} {O : Ordered K} (W : Lawful O) {A : Type 0} where
  above_less : (j k : K) (m : List (K × A)) → O.compare j k ≡ Less → above O k m ≡ true → above O j m ≡ true
  above_less j k [] l h = refl
  above_less j k (e ∷ m) l h =
      let b = both_true (is_less (O.compare k e.0)) (above O e.0 m) h in
      rw (W.through j k e.0 l (is_less_means (O.compare k e.0) b.0)) b.1

  -- entries above the first go in behind it
  puts_past : (d : K × A) (l m : List (K × A)) → above O d.0 l ≡ true → puts O l (d ∷ m) ≡ d ∷ puts O l m
  puts_past d [] m h = refl
  puts_past d (e ∷ l) m h =
      let b = both_true (is_less (O.compare d.0 e.0)) (above O e.0 l) h in
      let less = is_less_means (O.compare d.0 e.0) b.0 in
      rw (W.more d.0 e.0 less)
      (puts_past d l (put O e.0 e.1 m) (above_less d.0 e.0 l less b.1))

  module _ (x : K × A) (l : List (K × A)) (h : ascending O (x ∷ l) ≡ true) where
    pub puts_last : puts O (x ∷ l) [] ≡ x ∷ puts O l []
    puts_last = puts_past x l [] h

    pub puts_less : (y : K × A) (m : List (K × A)) → O.compare x.0 y.0 ≡ Less
        → puts O (x ∷ l) (y ∷ m) ≡ x ∷ puts O l (y ∷ m)
    puts_less y m o = rw o (puts_past x l (y ∷ m) h)

    pub puts_same : (y : K × A) (m : List (K × A)) → O.compare x.0 y.0 ≡ Equal
        → puts O (x ∷ l) (y ∷ m) ≡ x ∷ puts O l m
    puts_same y m o = rw o (puts_past x l m h)

    pub puts_more : (y : K × A) (m : List (K × A)) → O.compare x.0 y.0 ≡ Greater
        → puts O (x ∷ l) (y ∷ m) ≡ y ∷ puts O (x ∷ l) m
    puts_more y m o =
        rw o (puts_past y l (put O x.0 x.1 m) (above_less y.0 x.0 l (W.less x.0 y.0 o) h))
