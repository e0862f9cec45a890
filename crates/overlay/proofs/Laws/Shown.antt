-- Law. What a changed state shows.
use Rattle.std.specs.Prelude.{◌≡◌, refl, Bool, true, false, cond, ◌&&◌, List, [], ◌∷◌, ℕ, eqb, ltb}
use Rattle.std.proofs.Common.{ap, ◌∙◌, arith, eq-eqb, ne_eqb, ltb-true, ltb-false}
use Rattle.std.proofs.Math.Option.{Option, none, some, map, get_or}
use Rattle.slices.specs.Lists.{lex_of}
use Rattle.std.specs.declared.cmp.Ordering.{Ordering}
use Rattle.std.specs.declared.cmp.Ordering.TheVariants.{Less, Equal, Greater}
use Rattle.maps.specs.Map.{by_order, get}
use Rattle.maps.specs.Promises.Order.{is_same}
use Rattle.maps.specs.Order.{texts}
use Rattle.maps.proofs.Laws.Order.{texts_order}
use Rattle.maps.proofs.Laws.Map.{get_put}
use Rattle.basics.specs.Texts.{same}
use Rattle.overlay.specs.State.{Feed, State, feeds_of, no_feed}
use Rattle.overlay.specs.Records.{records_of, shown}
use Rattle.overlay.specs.Change.{feed_at, put_feed}

-- two texts are the same where their order says so
pub same_lex : (a b : List ℕ) → same a b ≡ is_same (lex_of a b)
unfolding lex_of
same_lex [] [] = refl
same_lex [] (y ∷ b) = refl
same_lex (x ∷ a) [] = refl
same_lex (x ∷ a) (y ∷ b) = go (ltb x y) refl (ltb y x) refl (same_lex a b)
  where
    go : (s : Bool) → ltb x y ≡ s → (t : Bool) → ltb y x ≡ t → same a b ≡ is_same (lex_of a b)
        → (eqb x y && same a b) ≡ is_same (cond s Less (cond t Greater (lex_of a b)))
    go true p t q ih = rw (ne_eqb x y (λ e. omega (arith, ltb-true x y p))) refl
    go false p true q ih = rw (ne_eqb x y (λ e. omega (arith, ltb-true y x q))) refl
    go false p false q ih = rw (eq-eqb x y (omega (arith, ltb-false x y p, ltb-false y x q))) ih

-- f's records are entered, and all others stay
pub shown_put : (f : List ℕ) (F : Feed) (n : ℕ) (s : State) (g : List ℕ)
    → shown (put_feed f F n s) g ≡ cond (same g f) (some (records_of F)) (shown s g)
unfolding shown put_feed
shown_put f F n s g = ap (map records_of) (get_put texts_order g f F (feeds_of s)) ∙ go (lex_of g f) refl
  where
    go : (o : Ordering) → lex_of g f ≡ o
        → map records_of (by_order o (get texts g (feeds_of s)) (some F) (get texts g (feeds_of s)))
        ≡ cond (same g f) (some (records_of F)) (map records_of (get texts g (feeds_of s)))
    go Less e = rw (same_lex g f, e) refl
    go Equal e = rw (same_lex g f, e) refl
    go Greater e = rw (same_lex g f, e) refl

-- the records of a feed, made where missing
pub shown_at : (f : List ℕ) (s : State)
    → get_or (shown s f) (record { trips = []; vehicles = []; alerts = [] }) ≡ records_of (feed_at f s)
unfolding shown feed_at
shown_at f s = go (get texts f (feeds_of s))
  where
    go : (o : Option Feed) → get_or (map records_of o) (record { trips = []; vehicles = []; alerts = [] }) ≡
        records_of (get_or o no_feed)
    go none = refl
    go (some F) = refl
