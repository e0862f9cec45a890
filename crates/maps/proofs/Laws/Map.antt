-- Law. Laws of maps: what is got after a put, the order that a put keeps, equality by what is got, and walks over
-- entries both ways.
use Rattle.std.specs.Prelude.{suc, ◌+◌, ◌≤◌, ◌≡◌, refl, true, List, [], ◌∷◌, ◌++◌, length}
use Rattle.std.proofs.Common.{sym, ap, ◌∙◌, arith}
use Rattle.std.proofs.Math.Option.{Option, none, some}
use Rattle.std.specs.declared.cmp.Ordering.{Ordering}
use Rattle.std.specs.declared.cmp.Ordering.TheVariants.{Less, Equal, Greater}
use Rattle.basics.specs.Options.{or_else}
use Rattle.basics.specs.Lists.{All}
use Rattle.basics.specs.Laws.Options.{none_some}
use Rattle.maps.specs.Map.{Ordered, is_less, by_order, get, put, puts, above, ascending, map_values}
use Rattle.basics.specs.Laws.Booleans.{both_true}

abbrev pub if_none : {A B : Type 0} → Option A → B → B → B
if_none none b c = b
if_none (some a) b c = c

module _ {K : Type 0} (O : Ordered K) {A : Type 0} where
  -- k's value becomes v where there was none
  abbrev pub keep : K → A → List (K × A) → List (K × A)
  keep k v m = if_none (get O k m) (put O k v m) m

  -- from the last to the first, where there was none
  abbrev pub keeps : List (K × A) → List (K × A) → List (K × A)
  keeps [] m = m
  keeps (e ∷ l) m = keep e.0 e.1 (keeps l m)

  -- k's value in the last of the entries that has k
  abbrev pub last_at : K → List (K × A) → Option A
  last_at k [] = none
  last_at k (e ∷ l) = or_else (last_at k l) (by_order (O.compare k e.0) none (some e.1) none)

pub is_less_means : (o : Ordering) → is_less o ≡ true → o ≡ Less
is_less_means Less e = refl
is_less_means Equal e = absurd cc
is_less_means Greater e = absurd cc

unsome : {A : Type 0} {a b : A} → some a ≡ some b → a ≡ b
unsome e = cc

or_none : {A : Type 0} (a : Option A) → or_else a none ≡ a
or_none none = refl
or_none (some v) = refl

or_assoc : {A : Type 0} (a b c : Option A) → or_else (or_else a b) c ≡ or_else a (or_else b c)
or_assoc none b c = refl
or_assoc (some v) b c = refl

-- AN ORDER: of two keys that are not one and the same one comes first, and so along
pub record Lawful {K : Type 0} (O : Ordered K) : Type 0 where
  pub itself : (a : K) → O.compare a a ≡ Equal
  pub same : (a b : K) → O.compare a b ≡ Equal → a ≡ b
  pub less : (a b : K) → O.compare a b ≡ Greater → O.compare b a ≡ Less
  pub more : (a b : K) → O.compare a b ≡ Less → O.compare b a ≡ Greater
  pub through : (a b c : K) → O.compare a b ≡ Less → O.compare b c ≡ Less → O.compare a c ≡ Less

module _ {K : Type 0} {O : Ordered K} (W : Lawful O) {A : Type 0} where
  -- WHAT IS GOT AFTER A PUT
  pub get_put : (j k : K) (v : A) (m : List (K × A))
      → get O j (put O k v m) ≡ by_order (O.compare j k) (get O j m) (some v) (get O j m)
  get_put j k v [] = refl
  get_put j k v (e ∷ m) = go (O.compare k e.0) refl (get_put j k v m)
    where
      rest : Ordering → Option A
      rest o = by_order o (get O j m) (some e.1) (get O j m)

      same : (o : Ordering) → by_order o (get O j m) (some v) (get O j m) ≡ by_order o (rest o) (some v) (rest o)
      same Less = refl
      same Equal = refl
      same Greater = refl

      more : (p : Ordering) → O.compare j e.0 ≡ p → O.compare k e.0 ≡ Greater
          → by_order p (by_order (O.compare j k) (get O j m) (some v) (get O j m)) (some e.1)
          (by_order (O.compare j k) (get O j m) (some v) (get O j m))
          ≡ by_order (O.compare j k) (rest p) (some v) (rest p)
      more Less q h = refl
      more Equal q h = let f : O.compare j k ≡ Less =
          ap (λ i. O.compare i k) (W.same j e.0 q) ∙ W.less k e.0 h in rw f
      more Greater q h = refl

      go : (o : Ordering) → O.compare k e.0 ≡ o
          → get O j (put O k v m) ≡ by_order (O.compare j k) (get O j m) (some v) (get O j m)
          → get O j (by_order o ((k, v) ∷ e ∷ m) ((k, v) ∷ m) (e ∷ put O k v m))
          ≡ by_order (O.compare j k) (get O j (e ∷ m)) (some v) (get O j (e ∷ m))
      go Less h i = refl
      go Equal h i = rw (ap (O.compare j) (sym (W.same k e.0 h))) (same (O.compare j k))
      go Greater h i = rw i (more (O.compare j e.0) refl h)

  -- above a key, and above one that is less
  above_less : (j k : K) (m : List (K × A)) → O.compare j k ≡ Less → above O k m ≡ true → above O j m ≡ true
  above_less j k [] l h = refl
  above_less j k (e ∷ m) l h =
      let b = both_true (is_less (O.compare k e.0)) (above O e.0 m) h in
      rw (W.through j k e.0 l (is_less_means (O.compare k e.0) b.0)) b.1

  above_put : (j k : K) (v : A) (m : List (K × A)) → O.compare j k ≡ Less → above O j m ≡ true
      → above O j (put O k v m) ≡ true
  above_put j k v [] l h = rw l
  above_put j k v (e ∷ m) l h = go (O.compare k e.0) refl (above_put e.0 k v m)
    where
      b : (is_less (O.compare j e.0) ≡ true) × (above O e.0 m ≡ true)
      b = both_true (is_less (O.compare j e.0)) (above O e.0 m) h

      go : (o : Ordering) → O.compare k e.0 ≡ o
          → (O.compare e.0 k ≡ Less → above O e.0 m ≡ true → above O e.0 (put O k v m) ≡ true)
          → above O j (by_order o ((k, v) ∷ e ∷ m) ((k, v) ∷ m) (e ∷ put O k v m)) ≡ true
      go Less p i = rw (l, p) b.1
      go Equal p i = rw (l, W.same k e.0 p) b.1
      go Greater p i = rw (is_less_means (O.compare j e.0) b.0) (i (W.less k e.0 p) b.1)

  pub put_ascending : (k : K) (v : A) (m : List (K × A)) → ascending O m ≡ true → ascending O (put O k v m) ≡ true
  put_ascending k v [] h = refl
  put_ascending k v (e ∷ m) h = go (O.compare k e.0) refl
    where
      go : (o : Ordering) → O.compare k e.0 ≡ o
          → ascending O (by_order o ((k, v) ∷ e ∷ m) ((k, v) ∷ m) (e ∷ put O k v m)) ≡ true
      go Less p = rw p h
      go Equal p = rw (W.same k e.0 p) h
      go Greater p = above_put e.0 k v m (W.less k e.0 p) h

  pub puts_ascending : (l m : List (K × A)) → ascending O m ≡ true → ascending O (puts O l m) ≡ true
  puts_ascending [] m h = h
  puts_ascending (e ∷ l) m h = puts_ascending l (put O e.0 e.1 m) (put_ascending e.0 e.1 m h)

  -- nothing is got below the keys
  get_above : (k : K) (m : List (K × A)) → above O k m ≡ true → get O k m ≡ none
  get_above k [] h = refl
  get_above k (e ∷ m) h =
      let b = both_true (is_less (O.compare k e.0)) (above O e.0 m) h in
      let l = is_less_means (O.compare k e.0) b.0 in
      rw l (get_above k m (above_less k e.0 m l b.1))

  pub rest_ascending : (e : K × A) (m : List (K × A)) → ascending O (e ∷ m) ≡ true → ascending O m ≡ true
  rest_ascending e [] h = refl
  rest_ascending e (d ∷ m) h = (both_true (is_less (O.compare e.0 d.0)) (above O d.0 m) h).1

  get_first : (e : K × A) (m : List (K × A)) → get O e.0 (e ∷ m) ≡ some e.1
  get_first e m = rw (W.itself e.0)

  same_rest : (e d : K × A) (m n : List (K × A)) → ascending O (e ∷ m) ≡ true → ascending O (d ∷ n) ≡ true → e.0 ≡ d.0
      → ((k : K) → get O k (e ∷ m) ≡ get O k (d ∷ n)) → (k : K) → get O k m ≡ get O k n
  same_rest e d m n g h s f k = go (O.compare k e.0) refl (ap (O.compare k) (sym s)) (f k)
    where
      go : (o : Ordering) → O.compare k e.0 ≡ o → O.compare k d.0 ≡ O.compare k e.0
          → by_order (O.compare k e.0) (get O k m) (some e.1) (get O k m) ≡
          by_order (O.compare k d.0) (get O k n) (some d.1) (get O k n)
          → get O k m ≡ get O k n
      go Less p q r = rw (q, p) at r
      go Equal p q r =
          get_above k m (rw (W.same k e.0 p) g) ∙ sym (get_above k n (rw (W.same k e.0 p ∙ s) h))
      go Greater p q r = rw (q, p) at r

  -- TWO MAPS ARE EQUAL where the same is got at every key
  pub equal_maps : (m n : List (K × A)) → ascending O m ≡ true → ascending O n ≡ true
      → ((k : K) → get O k m ≡ get O k n) → m ≡ n
  equal_maps [] [] g h f = refl
  equal_maps [] (d ∷ n) g h f = none_some (f d.0 ∙ get_first d n)
  equal_maps (e ∷ m) [] g h f = none_some (sym (f e.0) ∙ get_first e m)
  equal_maps (e ∷ m) (d ∷ n) g h f =
      go (O.compare e.0 d.0) refl (equal_maps m n (rest_ascending e m g) (rest_ascending d n h))
    where
      go : (o : Ordering) → O.compare e.0 d.0 ≡ o → (((k : K) → get O k m ≡ get O k n) → m ≡ n) → e ∷ m ≡ d ∷ n
      go Less p i = none_some (sym (get_above e.0 (d ∷ n) (rw p h)) ∙ sym (f e.0) ∙ get_first e m)
      go Equal p i =
          let s : e.0 ≡ d.0 = W.same e.0 d.0 p in
          let v : e.1 ≡ d.1 = unsome (sym (get_first e m) ∙ f e.0 ∙ ap (λ k. get O k (d ∷ n)) s ∙ get_first d n) in
          let r : m ≡ n = i (same_rest e d m n g h s f) in
          λ j. (s j, v j) ∷ r j
      go Greater p i =
          none_some (sym (get_above d.0 (e ∷ m) (rw (W.less e.0 d.0 p) g)) ∙ f d.0 ∙ get_first d n)

  -- THE FINAL MAP, POINTWISE: at a key stands the value of the last entry that has it, or else the old one
  pub get_puts : (k : K) (l m : List (K × A)) → get O k (puts O l m) ≡ or_else (last_at O k l) (get O k m)
  get_puts k [] m = refl
  get_puts k (e ∷ l) m =
      get_puts k l (put O e.0 e.1 m) ∙ ap (or_else (last_at O k l)) (get_put k e.0 e.1 m)
      ∙ go (last_at O k l) (O.compare k e.0)
    where
      go : (a : Option A) (o : Ordering)
          → or_else a (by_order o (get O k m) (some e.1) (get O k m)) ≡
          or_else (or_else a (by_order o none (some e.1) none)) (get O k m)
      go none Less = refl
      go none Equal = refl
      go none Greater = refl
      go (some v) o = refl

  keep_ascending : (k : K) (v : A) (m : List (K × A)) → ascending O m ≡ true → ascending O (keep O k v m) ≡ true
  keep_ascending k v m h = go (get O k m)
    where
      go : (a : Option A) → ascending O (if_none a (put O k v m) m) ≡ true
      go none = put_ascending k v m h
      go (some w) = h

  pub keeps_ascending : (l m : List (K × A)) → ascending O m ≡ true → ascending O (keeps O l m) ≡ true
  keeps_ascending [] m h = h
  keeps_ascending (e ∷ l) m h = keep_ascending e.0 e.1 (keeps O l m) (keeps_ascending l m h)

  pub get_keep : (j k : K) (v : A) (m : List (K × A))
      → get O j (keep O k v m) ≡ or_else (get O j m) (by_order (O.compare j k) none (some v) none)
  get_keep j k v m = go (get O k m) refl (O.compare j k) refl
    where
      go : (a : Option A) → get O k m ≡ a → (o : Ordering) → O.compare j k ≡ o
          → get O j (if_none a (put O k v m) m) ≡ or_else (get O j m) (by_order o none (some v) none)
      go none p Less q = get_put j k v m ∙ rw q (sym (or_none (get O j m)))
      go none p Equal q = get_put j k v m ∙ rw (q, W.same j k q, p)
      go none p Greater q = get_put j k v m ∙ rw q (sym (or_none (get O j m)))
      go (some w) p Less q = sym (or_none (get O j m))
      go (some w) p Equal q = rw (W.same j k q, p)
      go (some w) p Greater q = sym (or_none (get O j m))

  pub get_keeps : (k : K) (l m : List (K × A)) → get O k (keeps O l m) ≡ or_else (get O k m) (last_at O k l)
  get_keeps k [] m = sym (or_none (get O k m))
  get_keeps k (e ∷ l) m =
      let b = by_order (O.compare k e.0) none (some e.1) none in
      get_keep k e.0 e.1 (keeps O l m) ∙ ap (λ a. or_else a b) (get_keeps k l m)
      ∙ or_assoc (get O k m) (last_at O k l) b

  -- in a map the last entry that has a key is the only one
  last_at_map : (k : K) (m : List (K × A)) → ascending O m ≡ true → last_at O k m ≡ get O k m
  last_at_map k [] h = refl
  last_at_map k (e ∷ m) h =
      ap (λ a. or_else a (by_order (O.compare k e.0) none (some e.1) none))
      (last_at_map k m (rest_ascending e m h)) ∙ go (O.compare k e.0) refl
    where
      go : (o : Ordering) → O.compare k e.0 ≡ o
          → or_else (get O k m) (by_order o none (some e.1) none) ≡ by_order o (get O k m) (some e.1) (get O k m)
      go Less p = or_none (get O k m)
      go Equal p = rw (get_above k m (rw (W.same k e.0 p) h))
      go Greater p = or_none (get O k m)

  -- the entries of a map, one after the other, are the map
  pub puts_itself : (m : List (K × A)) → ascending O m ≡ true → puts O m [] ≡ m
  puts_itself m h =
      equal_maps (puts O m []) m (puts_ascending m [] refl) h
      (λ k. get_puts k m [] ∙ or_none (last_at O k m) ∙ last_at_map k m h)

  -- FROM LAST TO FIRST: keys that are not there yet, and then those of the old map, are what the entries in order leave
  pub last_to_first : (l old : List (K × A)) → ascending O old ≡ true → keeps O old (keeps O l []) ≡ puts O l old
  last_to_first l old h =
      equal_maps (keeps O old (keeps O l [])) (puts O l old)
      (keeps_ascending old (keeps O l []) (keeps_ascending l [] refl)) (puts_ascending l old h)
      (λ k. get_keeps k old (keeps O l []) ∙ ap (λ a. or_else a (last_at O k old)) (get_keeps k l [])
      ∙ ap (or_else (last_at O k l)) (last_at_map k old h)
      ∙ sym (get_puts k l old))

-- what the values stand for changes nothing of the keys
module _ {K : Type 0} (O : Ordered K) {A B : Type 0} (f : A → B) where
  pub map_put : (k : K) (v : A) (m : List (K × A)) → map_values f (put O k v m) ≡ put O k (f v) (map_values f m)
  map_put k v [] = refl
  map_put k v (e ∷ m) = go (O.compare k e.0) (map_put k v m)
    where
      go : (o : Ordering) → map_values f (put O k v m) ≡ put O k (f v) (map_values f m)
          → map_values f (by_order o ((k, v) ∷ e ∷ m) ((k, v) ∷ m) (e ∷ put O k v m))
          ≡ by_order o ((k, f v) ∷ map_values f (e ∷ m)) ((k, f v) ∷ map_values f m)
          ((e.0, f e.1) ∷ put O k (f v) (map_values f m))
      go Less i = refl
      go Equal i = refl
      go Greater i = ap (◌∷◌ (e.0, f e.1)) i

  pub map_puts : (l m : List (K × A)) → map_values f (puts O l m) ≡ puts O (map_values f l) (map_values f m)
  map_puts [] m = refl
  map_puts (e ∷ l) m = map_puts l (put O e.0 e.1 m) ∙ ap (puts O (map_values f l)) (map_put e.0 e.1 m)

pub map_length : {K A B : Type 0} (f : A → B) (m : List (K × A)) → length (map_values f m) ≡ length m
map_length f [] = refl
map_length f (e ∷ m) = ap suc (map_length f m)

module _ {K : Type 0} (O : Ordered K) {A : Type 0} where
  pub puts_append : (l k m : List (K × A)) → puts O (l ++ k) m ≡ puts O k (puts O l m)
  puts_append [] k m = refl
  puts_append (e ∷ l) k m = puts_append l k (put O e.0 e.1 m)

  -- NO KEY GOES: a map does not become shorter
  pub put_longer : (k : K) (v : A) (m : List (K × A)) → length m ≤ length (put O k v m)
  put_longer k v [] = omega arith
  put_longer k v (e ∷ m) = go (O.compare k e.0) (put_longer k v m)
    where
      go : (o : Ordering) → length m ≤ length (put O k v m)
          → suc (length m) ≤ length (by_order o ((k, v) ∷ e ∷ m) ((k, v) ∷ m) (e ∷ put O k v m))
      go Less i = omega arith
      go Equal i = omega arith
      go Greater i = omega (arith, i)

  pub puts_longer : (l m : List (K × A)) → length m ≤ length (puts O l m)
  puts_longer [] m = omega arith
  puts_longer (e ∷ l) m = omega (arith, put_longer e.0 e.1 m, puts_longer l (put O e.0 e.1 m))

  -- and longer by one at most for each entry
  pub put_one_more : (k : K) (v : A) (m : List (K × A)) → length (put O k v m) ≤ suc (length m)
  put_one_more k v [] = omega arith
  put_one_more k v (e ∷ m) = go (O.compare k e.0) (put_one_more k v m)
    where
      go : (o : Ordering) → length (put O k v m) ≤ suc (length m)
          → length (by_order o ((k, v) ∷ e ∷ m) ((k, v) ∷ m) (e ∷ put O k v m)) ≤ suc (suc (length m))
      go Less i = omega arith
      go Equal i = omega arith
      go Greater i = omega (arith, i)

  pub puts_most : (l m : List (K × A)) → length (puts O l m) ≤ length l + length m
  puts_most [] m = omega arith
  puts_most (e ∷ l) m = omega (arith, put_one_more e.0 e.1 m, puts_most l (put O e.0 e.1 m))

  -- what holds of every entry holds after a put of another of which it holds
  pub put_all : (P : K × A → Type 0) (k : K) (v : A) (m : List (K × A)) → P (k, v) → All P m → All P (put O k v m)
  put_all P k v [] p h = (p, tt)
  put_all P k v (e ∷ m) p h = go (O.compare k e.0) (put_all P k v m p h.1)
    where
      go : (o : Ordering) → All P (put O k v m) → All P (by_order o ((k, v) ∷ e ∷ m) ((k, v) ∷ m) (e ∷ put O k v m))
      go Less i = (p, h)
      go Equal i = (p, h.1)
      go Greater i = (h.0, i)

  pub puts_all : (P : K × A → Type 0) (l m : List (K × A)) → All P l → All P m → All P (puts O l m)
  puts_all P [] m g h = h
  puts_all P (e ∷ l) m g h = puts_all P l (put O e.0 e.1 m) g.1 (put_all P e.0 e.1 m g.0 h)
