-- Law. What holds of every entry of a map, a changed map keeps.
use Rattle.std.specs.Prelude.{◌≡◌, refl, Bool, true, false, cond, List, [], ◌∷◌, ℕ, ℤ, pos, ◌-ℤ◌}
use Rattle.std.proofs.Common.{ap}
use Rattle.std.proofs.Math.Option.{some}
use Rattle.std.specs.Int.Signed.{lt_z}
use Rattle.std.specs.declared.cmp.Ordering.{Ordering}
use Rattle.std.specs.declared.cmp.Ordering.TheVariants.{Less, Equal, Greater}
use Rattle.basics.specs.Lists.{All, all}
use Rattle.basics.specs.Laws.Options.{none_some}
use Rattle.overlay.proofs.Laws.Within.{both}
use Rattle.maps.specs.Map.{Ordered, by_order, is_less, get, put, puts, above, ascending}
use Rattle.maps.specs.Order.{texts}
use Rattle.maps.proofs.Laws.Order.{texts_order}
use Rattle.maps.proofs.Laws.Map.{Lawful, is_less_means, rest_ascending}
use Rattle.basics.specs.Laws.Booleans.{both_true}
use Rattle.overlay.specs.State.{Vehicle, Vehicles, updated_of}
use Rattle.overlay.specs.Change.{without_stale}

-- a test of each, as a fact on each, and back
pub each_of : {A : Type 0} (p : A → Bool) (l : List A) → all p l ≡ true → All (λ x. p x ≡ true) l
each_of p [] e = tt
each_of p (x ∷ l) e = let h = both_true (p x) (all p l) e in (h.0, each_of p l h.1)

pub all_of : {A : Type 0} (p : A → Bool) (l : List A) → All (λ x. p x ≡ true) l → all p l ≡ true
all_of p [] e = refl
all_of p (x ∷ l) e = both e.0 (all_of p l e.1)

-- a fact on each makes another, and two make a third
pub each_map : {A : Type 0} {P Q : A → Type 0} → ((x : A) → P x → Q x) → (l : List A) → All P l → All Q l
each_map g [] e = tt
each_map g (x ∷ l) e = (g x e.0, each_map g l e.1)

pub each_both : {A : Type 0} {P Q R : A → Type 0} → ((x : A) → P x → Q x → R x) → (l : List A) → All P l → All Q l
    → All R l
each_both g [] e f = tt
each_both g (x ∷ l) e f = (g x e.0 f.0, each_both g l e.1 f.1)

module _ {K : Type 0} (O : Ordered K) {A : Type 0} (P : K × A → Type 0) where
  pub each_put : (k : K) (v : A) (m : List (K × A)) → P (k, v) → All P m → All P (put O k v m)
  each_put k v [] h e = (h, tt)
  each_put k v (x ∷ m) h e = go (O.compare k x.0) (each_put k v m h e.1)
    where
      go : (o : Ordering) → All P (put O k v m) → All P (by_order o ((k, v) ∷ x ∷ m) ((k, v) ∷ m) (x ∷ put O k v m))
      go Less ih = (h, e)
      go Equal ih = (h, e.1)
      go Greater ih = (e.0, ih)

  pub each_puts : (l m : List (K × A)) → All P l → All P m → All P (puts O l m)
  each_puts [] m h e = e
  each_puts (x ∷ l) m h e = each_puts l (put O x.0 x.1 m) h.1 (each_put x.0 x.1 m h.0 e)

  -- the entry that was put
  pub put_each : (k : K) (v : A) (m : List (K × A)) → All P (put O k v m) → P (k, v)
  put_each k v [] e = e.0
  put_each k v (x ∷ m) e = go (O.compare k x.0) e (put_each k v m)
    where
      go : (o : Ordering) → All P (by_order o ((k, v) ∷ x ∷ m) ((k, v) ∷ m) (x ∷ put O k v m))
          → (All P (put O k v m) → P (k, v)) → P (k, v)
      go Less h ih = h.0
      go Equal h ih = h.0
      go Greater h ih = ih h.1

-- the entry that is got
module _ {K : Type 0} {O : Ordered K} (W : Lawful O) {A : Type 0} (P : K × A → Type 0) where
  pub get_each : (k : K) (v : A) (m : List (K × A)) → All P m → get O k m ≡ some v → P (k, v)
  get_each k v [] e g = none_some g
  get_each k v (x ∷ m) e g = go (O.compare k x.0) refl g (get_each k v m e.1)
    where
      go : (o : Ordering) → O.compare k x.0 ≡ o → by_order o (get O k m) (some x.1) (get O k m) ≡ some v
          → (get O k m ≡ some v → P (k, v)) → P (k, v)
      go Less c h ih = ih h
      go Equal c h ih = let a : k ≡ x.0 = W.same k x.0 c in let b : x.1 ≡ v = cc in rw (a, ← b) e.0
      go Greater c h ih = ih h

-- dropping the stale vehicles keeps what holds of each, and the order
pub each_stale : (P : List ℕ × Vehicle → Type 0) (clock : ℤ) (m : Vehicles) → All P m → All P (without_stale clock m)
unfolding without_stale
each_stale P clock [] e = tt
each_stale P clock (x ∷ m) e = go (lt_z (updated_of x.1) (clock -ℤ pos 900)) (each_stale P clock m e.1)
  where
    go : (b : Bool) → All P (without_stale clock m) → All P (cond b (without_stale clock m) (x ∷ without_stale clock m))
    go true ih = ih
    go false ih = (e.0, ih)

-- what ascends from above a key ascends from above a smaller one
pub lower : {A : Type 0} (k : List ℕ) (x : List ℕ × A) (m : List (List ℕ × A))
    → is_less (texts.compare k x.0) ≡ true → above texts x.0 m ≡ true → above texts k m ≡ true
lower k x [] l e = refl
lower k x (y ∷ m) l e =
    let h = both_true (is_less (texts.compare x.0 y.0)) (above texts y.0 m) e in
    let t : texts.compare k y.0 ≡ Less = texts_order.through k x.0 y.0 (is_less_means _ l) (is_less_means _ h.0) in
    both (ap is_less t) h.1

stale_above : (clock : ℤ) (k : List ℕ) (m : Vehicles) → above texts k m ≡ true
    → above texts k (without_stale clock m) ≡ true
unfolding without_stale
stale_above clock k [] e = refl
stale_above clock k (x ∷ m) e =
    let h = both_true (is_less (texts.compare k x.0)) (above texts x.0 m) e in
    go (lt_z (updated_of x.1) (clock -ℤ pos 900)) h.0 (stale_above clock k m (lower k x m h.0 h.1))
    (stale_above clock x.0 m h.1)
  where
    go : (b : Bool) → is_less (texts.compare k x.0) ≡ true → above texts k (without_stale clock m) ≡ true
        → above texts x.0 (without_stale clock m) ≡ true
        → above texts k (cond b (without_stale clock m) (x ∷ without_stale clock m)) ≡ true
    go true l a c = a
    go false l a c = both l c

pub stale_ascending : (clock : ℤ) (m : Vehicles) → ascending texts m ≡ true
    → ascending texts (without_stale clock m) ≡ true
unfolding without_stale
stale_ascending clock [] e = refl
stale_ascending clock (x ∷ m) e =
    go (lt_z (updated_of x.1) (clock -ℤ pos 900)) (stale_above clock x.0 m e)
    (stale_ascending clock m (rest_ascending texts_order x m e))
  where
    go : (b : Bool) → above texts x.0 (without_stale clock m) ≡ true → ascending texts (without_stale clock m) ≡ true
        → ascending texts (cond b (without_stale clock m) (x ∷ without_stale clock m)) ≡ true
    go true a c = c
    go false a c = a
