-- Law. Which stop and which route are meant: a card's id compared with `feed:id` by its parts.
use Rattle.std.specs.Prelude.{◌≡◌, Bool, true, ◌&&◌, ◌||◌, not, ℕ, suc, ◌+◌, ◌-◌, ◌≤◌, ◌<◌, eqb, take}
use Rattle.std.proofs.Math.Path.{refl, sym, ap}
use Rattle.std.proofs.Common.{◌∙◌, ⊎_elim, arith, length-append, take_at}
use Rattle.std.proofs.Math.Bool.{false}
use mathlib.Core.List.{List, [], ◌∷◌, ◌++◌, append_assoc, append-nil}
use Rattle.std.proofs.Math.ListN.{length}
use Rattle.basics.specs.Lists.{is_empty}
use Rattle.basics.specs.Texts.{same}
use Rattle.basics.specs.Laws.Booleans.{false_true, or_false, or_true, implied_false}
use Rattle.basics.specs.Laws.Texts.{same_true, same_refl}
use Rattle.alerts.specs.Text.{ends}
use Rattle.decode.specs.Key.{prefixed}
use Rattle.overlay.specs.Lookup.{route_matches}
use Rattle.overlay_ids.specs.Promises.Ids.{EndsColon, EndsJoined, StopFits, RouteFits}
use Rattle.overlay_ids.specs.Laws.Joined.{different, ends_long}

-- what a long text ends with is what its back ends with
ends_back : (p a b : List ℕ) → length p ≤ length b → ends p (a ++ b) ≡ ends p b
ends_back p [] b h = refl
ends_back p (c ∷ a) b h =
    ap (λ t. t || ends p (a ++ b)) (different p (c ∷ (a ++ b)) (λ e. omega (arith, length-append a b)))
    ∙ ends_back p a b h

ends_itself : (p : List ℕ) → ends p p ≡ true
ends_itself [] = refl
ends_itself (c ∷ p) = ap (λ t. t || ends (c ∷ p) p) (same_refl (c ∷ p))

-- with the same back on both
same_front : (p q z : List ℕ) → same (p ++ z) (q ++ z) ≡ same p q
same_front [] [] z = same_refl z
same_front [] (c ∷ q) z = different z (c ∷ (q ++ z)) (λ e. omega (arith, length-append q z))
same_front (a ∷ p) [] z = different (a ∷ (p ++ z)) z (λ e. omega (arith, length-append p z))
same_front (a ∷ p) (c ∷ q) z = ap (λ t. eqb a c && t) (same_front p q z)

ends_front : (p s z : List ℕ) → ends (58 ∷ (p ++ z)) (s ++ z) ≡ ends (58 ∷ p) s
ends_front p [] z = ends_long (58 ∷ (p ++ z)) z (omega (arith, length-append p z))
ends_front p (c ∷ s) z =
    ap (λ t. t || ends (58 ∷ (p ++ z)) (s ++ z)) (same_front (58 ∷ p) (c ∷ s) z)
    ∙ ap (λ t. same (58 ∷ p) (c ∷ s) || t) (ends_front p s z)

-- what stands in front of a text's end
record Front (p s : List ℕ) : Type 0 where
  front : List ℕ
  joined : s ≡ front ++ p

front_of : (p s : List ℕ) → ends p s ≡ true → Front p s
front_of [] s e = record { front = s; joined = sym (append-nil s) }
front_of (a ∷ p) [] e = false_true e
front_of (a ∷ p) (b ∷ s) e =
    ⊎_elim
    (λ h. record { front = []; joined = sym (same_true (a ∷ p) (b ∷ s) h) })
    (λ h. let F = front_of (a ∷ p) s h in record { front = b ∷ F.front; joined = ap (◌∷◌ b) F.joined })
    (or_true (same (a ∷ p) (b ∷ s)) (ends (a ∷ p) s) e)

-- a stop that is given, with its feed in front
abbrev matching : (f x y : List ℕ) → Bool
matching f x y = same (f ++ 58 ∷ x) y || ends (58 ∷ y) (f ++ 58 ∷ x)

there : (f z : List ℕ) (t : Bool) → not (is_empty (f ++ 58 ∷ z)) && t ≡ t
there [] z t = refl
there (b ∷ f) z t = refl

given : (f x y : List ℕ) (r : Bool) → 0 < length x → r ≡ matching f x y → StopFits f x y r
given f [] y r h e = absurd (omega arith)
given f (b ∷ x) y r h e = record { is = e ∙ sym (there f (b ∷ x) (matching f (b ∷ x) y)) }

size : (f x : List ℕ) → length (f ++ 58 ∷ x) ≡ length f + suc (length x)
size f x = length-append f (58 ∷ x)

-- a stop id that is longer has to end with the update's
whole_ends : (f x y : List ℕ) → same (f ++ 58 ∷ x) y ≡ true → ends (58 ∷ x) y ≡ true
whole_ends f x y e = let k = same_true (f ++ 58 ∷ x) y e in
    rw (← k) (ends_back (58 ∷ x) f (58 ∷ x) (omega arith) ∙ ends_itself (58 ∷ x))

part_ends : (f x y : List ℕ) → length x < length y → ends (58 ∷ y) (f ++ 58 ∷ x) ≡ true → ends (58 ∷ x) y ≡ true
part_ends f x y l e =
    let F = front_of (58 ∷ y) (f ++ 58 ∷ x) e in
    sym (ends_back (58 ∷ x) (F.front ++ (58 ∷ [])) y (omega arith))
    ∙ ap (ends (58 ∷ x)) (append_assoc F.front (58 ∷ []) y ∙ sym F.joined)
    ∙ ends_back (58 ∷ x) f (58 ∷ x) (omega arith)
    ∙ ends_itself (58 ∷ x)

-- what it has in front of that
abbrev front_bytes : (x y : List ℕ) → List ℕ
front_bytes x y = take (length y - length x - 1) y

parted : (x y : List ℕ) → ends (58 ∷ x) y ≡ true → y ≡ front_bytes x y ++ 58 ∷ x
parted x y e =
    let F = front_of (58 ∷ x) y e in
    let n : length y - length x - 1 ≡ length F.front =
    omega (arith, ap length F.joined ∙ size F.front x) in
    F.joined ∙ ap (λ g. g ++ 58 ∷ x) (sym (ap (take (length y - length x - 1)) F.joined
    ∙ take_at F.front (58 ∷ x) (length y - length x - 1) (sym n)))

fronts : (f x y g : List ℕ) → y ≡ g ++ 58 ∷ x → matching f x y ≡ same f g || ends (58 ∷ g) f
fronts f x y g e =
    ap (matching f x) e
    ∙ ap (λ t. t || ends (58 ∷ (g ++ 58 ∷ x)) (f ++ 58 ∷ x)) (same_front f g (58 ∷ x))
    ∙ ap (λ t. same f g || t) (ends_front g f (58 ∷ x))

module _ {f x y : List ℕ} where
  pub stop_absent : length x ≡ 0 → StopFits f x y false
  stop_absent h = go x h
    where
      go : (x : List ℕ) → length x ≡ 0 → StopFits f x y false
      go [] h = record { is = refl }
      go (b ∷ x) h = absurd (omega arith)

  -- a stop id that is shorter than the update's, and one as long
  pub stop_short : {r : Bool} → length y < length x → EndsColon y x r → StopFits f x y r
  stop_short {r} l E = given f x y r (omega arith)
      (E.is
      ∙ sym (ap (λ t. t || ends (58 ∷ y) (f ++ 58 ∷ x)) (different (f ++ 58 ∷ x) y (λ e. omega (arith, size f x)))
      ∙ ends_back (58 ∷ y) f (58 ∷ x) (omega arith)
      ∙ ap (λ t. t || ends (58 ∷ y) x) (different (58 ∷ y) (58 ∷ x) (λ e. omega arith))))

  module _ (z : length x ≡ 0 → ⊥) where
    pub stop_even : {r : Bool} → length y ≡ length x → r ≡ same y x → StopFits f x y r
    stop_even {r} l E = given f x y r (omega arith)
        (E ∙ sym (ap (λ t. t || ends (58 ∷ y) (f ++ 58 ∷ x)) (different (f ++ 58 ∷ x) y (λ e. omega (arith, size f x)))
        ∙ ends_back (58 ∷ y) f (58 ∷ x) (omega arith)
        ∙ ap (λ t. same (58 ∷ y) (58 ∷ x) || t) (ends_long (58 ∷ y) x (omega arith))
        ∙ or_false (same (58 ∷ y) (58 ∷ x))))

  -- and one that is longer: it ends with the update's, behind the feed's id or what follows a ':' of that
  module _ (z : 0 < length x) (l : length x < length y) {t : Bool} (E : EndsColon x y t) where
    pub stop_other : t ≡ false → StopFits f x y false
    stop_other e = let no = sym E.is ∙ e in
        given f x y false z (sym (ap (λ t. t || ends (58 ∷ y) (f ++ 58 ∷ x))
        (implied_false (same (f ++ 58 ∷ x) y) (ends (58 ∷ x) y) (whole_ends f x y) no)
        ∙ implied_false (ends (58 ∷ y) (f ++ 58 ∷ x)) (ends (58 ∷ x) y) (part_ends f x y l) no))

    module _ {u : Bool} (e : t ≡ true) (S : u ≡ same f (take (length y - length x - 1) y)) where
      pub stop_whole : u ≡ true → StopFits f x y true
      stop_whole k =
          given f x y true z (sym (fronts f x y (front_bytes x y) (parted x y (sym E.is ∙ e))
          ∙ ap (λ t. t || ends (58 ∷ front_bytes x y) f) (sym S ∙ k)))

      pub stop_part : {r : Bool} → u ≡ false → EndsColon (take (length y - length x - 1) y) f r → StopFits f x y r
      stop_part {r} k G =
          given f x y r z (G.is ∙ sym (fronts f x y (front_bytes x y) (parted x y (sym E.is ∙ e))
          ∙ ap (λ t. t || ends (58 ∷ front_bytes x y) f) (sym S ∙ k)))

-- a route's id may also stand behind a ':' of the leg's
more : (n a b c : Bool) → n && (a || b) ≡ true → n && (a || (b || c)) ≡ true
more true true b c e = refl
more true false true c e = refl
more true false false c e = false_true e
more false a b c e = false_true e

else : (n a b c : Bool) → n ≡ true → n && (a || b) ≡ false → n && (a || (b || c)) ≡ c
else true true b c i e = false_true (sym e)
else true false true c i e = false_true (sym e)
else true false false c i e = refl
else false a b c i e = false_true i

there_is : (f x : List ℕ) → (length x ≡ 0 → ⊥) → not (is_empty (prefixed f x)) ≡ true
there_is f [] z = absurd (z refl)
there_is [] (b ∷ x) z = refl
there_is (a ∷ f) (b ∷ x) z = refl

prefix_is : (f x : List ℕ) → (length x ≡ 0 → ⊥) → prefixed f x ≡ f ++ 58 ∷ x
prefix_is f [] z = absurd (z refl)
prefix_is f (b ∷ x) z = refl

module _ {f x y : List ℕ} {t : Bool} (S : StopFits f x y t) where
  pub route_stop : t ≡ true → RouteFits f x y true
  unfolding route_matches
  route_stop e =
      let i = prefixed f x in
      record { is = sym (more (not (is_empty i)) (same i y) (ends (58 ∷ y) i) (ends (58 ∷ i) y) (sym S.is ∙ e)) }

  pub route_absent : t ≡ false → length x ≡ 0 → RouteFits f x y false
  unfolding route_matches
  route_absent e h = go x h
    where
      go : (x : List ℕ) → length x ≡ 0 → RouteFits f x y false
      go [] h = record { is = refl }
      go (b ∷ x) h = absurd (omega arith)

  pub route_ends : {r : Bool} → t ≡ false → (length x ≡ 0 → ⊥) → EndsJoined f x y r → RouteFits f x y r
  unfolding route_matches
  route_ends e z E =
      let i = prefixed f x in
      record {
        is = E.is ∙ ap (λ i. ends (58 ∷ i) y) (sym (prefix_is f x z))
            ∙ sym (else (not (is_empty i)) (same i y) (ends (58 ∷ y) i) (ends (58 ∷ i) y) (there_is f x z)
            (sym S.is ∙ e));
      }
