-- Law. Texts by their bytes, and numbers, are in order.
use Rattle.std.specs.Prelude.{ℕ, ◌<◌, ◌≡◌, refl, Bool, true, false, List, [], ◌∷◌, ltb}
use Rattle.std.proofs.Common.{sym, ◌∙◌, arith}
use borrow.Author.Tests.{lt-ltb, le-ltb, ltb-true, ltb-false}
use Rattle.slices.specs.Lists.{lex_of}
use Rattle.std.specs.declared.cmp.Ordering.{Ordering}
use Rattle.std.specs.declared.cmp.Ordering.TheVariants.{Less, Equal, Greater}
use Rattle.maps.proofs.Laws.Map.{Lawful}
use Rattle.maps.specs.Order.{texts, numbers}

-- no order is another
less_same : {C : Type 0} → Less ≡ Equal → C
less_same e = absurd (let z : ◌≡◌ {A = ℕ} 0 1 = cc in omega arith)

less_more : {C : Type 0} → Less ≡ Greater → C
less_more e = absurd (let z : ◌≡◌ {A = ℕ} 0 1 = cc in omega arith)

same_more : {C : Type 0} → Equal ≡ Greater → C
same_more e = absurd (let z : ◌≡◌ {A = ℕ} 0 1 = cc in omega arith)

module _ (x y : ℕ) (xs ys : List ℕ) where
  pub cons_before : x < y → lex_of (x ∷ xs) (y ∷ ys) ≡ Less
  unfolding lex_of
  cons_before h = rw (lt-ltb x y h)

  pub cons_behind : y < x → lex_of (x ∷ xs) (y ∷ ys) ≡ Greater
  unfolding lex_of
  cons_behind h = rw (le-ltb x y (omega arith), lt-ltb y x h)

  cons_level : x ≡ y → lex_of (x ∷ xs) (y ∷ ys) ≡ lex_of xs ys
  unfolding lex_of
  cons_level h = rw (le-ltb x y (omega arith), le-ltb y x (omega arith))

-- the first bytes decide, unless they are the same
data Firsts (x y : ℕ) (xs ys : List ℕ) (o : Ordering) : Type 0 where
  before : x < y → o ≡ Less → Firsts x y xs ys o
  behind : y < x → o ≡ Greater → Firsts x y xs ys o
  level : x ≡ y → o ≡ lex_of xs ys → Firsts x y xs ys o

firsts : (x y : ℕ) (xs ys : List ℕ) → Firsts x y xs ys (lex_of (x ∷ xs) (y ∷ ys))
firsts x y xs ys = go (ltb x y) refl (ltb y x) refl
  where
    go : (s : Bool) → ltb x y ≡ s → (t : Bool) → ltb y x ≡ t → Firsts x y xs ys (lex_of (x ∷ xs) (y ∷ ys))
    go true p t q = before (ltb-true x y p) (cons_before x y xs ys (ltb-true x y p))
    go false p true q = behind (ltb-true y x q) (cons_behind x y xs ys (ltb-true y x q))
    go false p false q =
        let e : x ≡ y = omega (arith, ltb-false x y p, ltb-false y x q) in
        level e (cons_level x y xs ys e)

pub lex_itself : (a : List ℕ) → lex_of a a ≡ Equal
unfolding lex_of
lex_itself [] = refl
lex_itself (x ∷ a) = cons_level x x a a refl ∙ lex_itself a

pub lex_same : (a b : List ℕ) → lex_of a b ≡ Equal → a ≡ b
unfolding lex_of
lex_same [] [] e = refl
lex_same [] (y ∷ b) e = less_same e
lex_same (x ∷ a) [] e = same_more (sym e)
lex_same (x ∷ a) (y ∷ b) e = go (firsts x y a b) e (lex_same a b)
  where
    go : {o : Ordering} → Firsts x y a b o → o ≡ Equal → (lex_of a b ≡ Equal → a ≡ b) → x ∷ a ≡ y ∷ b
    go (before h p) q r = less_same (sym p ∙ q)
    go (behind h p) q r = same_more (sym q ∙ p)
    go (level h p) q r = let t : a ≡ b = r (sym p ∙ q) in cc

pub lex_less : (a b : List ℕ) → lex_of a b ≡ Greater → lex_of b a ≡ Less
unfolding lex_of
lex_less [] [] e = same_more e
lex_less [] (y ∷ b) e = less_more e
lex_less (x ∷ a) [] e = refl
lex_less (x ∷ a) (y ∷ b) e = go (firsts x y a b) e (lex_less a b)
  where
    go : {o : Ordering} → Firsts x y a b o → o ≡ Greater → (lex_of a b ≡ Greater → lex_of b a ≡ Less)
        → lex_of (y ∷ b) (x ∷ a) ≡ Less
    go (before h p) q r = less_more (sym p ∙ q)
    go (behind h p) q r = cons_before y x b a h
    go (level h p) q r = cons_level y x b a (sym h) ∙ r (sym p ∙ q)

pub lex_more : (a b : List ℕ) → lex_of a b ≡ Less → lex_of b a ≡ Greater
unfolding lex_of
lex_more [] [] e = less_same (sym e)
lex_more [] (y ∷ b) e = refl
lex_more (x ∷ a) [] e = less_more (sym e)
lex_more (x ∷ a) (y ∷ b) e = go (firsts x y a b) e (lex_more a b)
  where
    go : {o : Ordering} → Firsts x y a b o → o ≡ Less → (lex_of a b ≡ Less → lex_of b a ≡ Greater)
        → lex_of (y ∷ b) (x ∷ a) ≡ Greater
    go (before h p) q r = cons_behind y x b a h
    go (behind h p) q r = less_more (sym q ∙ p)
    go (level h p) q r = cons_level y x b a (sym h) ∙ r (sym p ∙ q)

pub lex_through : (a b c : List ℕ) → lex_of a b ≡ Less → lex_of b c ≡ Less → lex_of a c ≡ Less
unfolding lex_of
lex_through [] [] c e f = less_same (sym e)
lex_through [] (y ∷ b) [] e f = less_more (sym f)
lex_through [] (y ∷ b) (z ∷ c) e f = refl
lex_through (x ∷ a) [] c e f = less_more (sym e)
lex_through (x ∷ a) (y ∷ b) [] e f = less_more (sym f)
lex_through (x ∷ a) (y ∷ b) (z ∷ c) e f = go (firsts x y a b) e (firsts y z b c) f (lex_through a b c)
  where
    go : {o p : Ordering} → Firsts x y a b o → o ≡ Less → Firsts y z b c p → p ≡ Less
        → (lex_of a b ≡ Less → lex_of b c ≡ Less → lex_of a c ≡ Less) → lex_of (x ∷ a) (z ∷ c) ≡ Less
    go (behind h p) q g t r = less_more (sym q ∙ p)
    go (before h p) q (before k s) t r = cons_before x z a c (omega arith)
    go (before h p) q (behind k s) t r = less_more (sym t ∙ s)
    go (before h p) q (level k s) t r = cons_before x z a c (omega arith)
    go (level h p) q (before k s) t r = cons_before x z a c (omega arith)
    go (level h p) q (behind k s) t r = less_more (sym t ∙ s)
    go (level h p) q (level k s) t r = cons_level x z a c (h ∙ k) ∙ r (sym p ∙ q) (sym s ∙ t)

pub texts_order : Lawful texts
texts_order = record { itself = lex_itself; same = lex_same; less = lex_less; more = lex_more; through = lex_through }

pub heads : {x y : ℕ} → ◌≡◌ {A = List ℕ} (x ∷ []) (y ∷ []) → x ≡ y
heads e = cc

pub numbers_order : Lawful numbers
numbers_order = record {
  itself = λ x. lex_itself (x ∷ []);
  same = λ x y e. heads (lex_same (x ∷ []) (y ∷ []) e);
  less = λ x y. lex_less (x ∷ []) (y ∷ []);
  more = λ x y. lex_more (x ∷ []) (y ∷ []);
  through = λ x y z. lex_through (x ∷ []) (y ∷ []) (z ∷ []);
}
