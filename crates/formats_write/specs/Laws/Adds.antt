-- Law. Writers one after the other.
use Rattle.std.specs.Prelude.{◌≡◌, refl, List, [], ◌∷◌, ◌++◌, Bool, true, false, ℕ, zero, suc, ◌+◌, ◌-◌, ◌≤◌, ◌<◌, leb, length, drop, set, replicate, Option, Some, None}
use Rattle.std.proofs.Common.{sym, ap, ◌∙◌, add-zero, add-suc, suc-add, arith, leb-true, leb-false, length-append}
use Rattle.std.proofs.lemmas.List.{length-replicate}
use Rattle.std.proofs.lemmas.List.Edits.{sets, sets-eq}
use Rattle.slices.specs.Lists.{pasted}
use Rattle.formats_write.specs.Promises.Adds.{Adds, Wrote}

-- one run of stores after another
sets_append : (vs us l : List ℕ) (i : ℕ) → sets (sets l i vs) (i + length vs) us ≡ sets l i (vs ++ us)
sets_append [] us l i = rw add-zero refl
sets_append (v ∷ vs) us l i = rw (add-suc, ← suc-add) (sets_append vs us (set l i v) (suc i))

-- nothing, and one after the other
pub none : {l : List ℕ} {r : Option ℕ} → Adds l r l r []
none {l} {r} = record {
  size = refl;
  full = λ e. e;
  next = λ p e h. rw add-zero e;
  holds = λ p e h. sets-eq [] l p h;
  over = λ p e h k. absurd (omega arith);
}

module _ {l m n : List ℕ} {r q o : Option ℕ} {x y : List ℕ} (f : Adds l r m q x) (g : Adds m q n o y) where
  both : length (x ++ y) ≡ length x + length y
  both = length-append x y

  module _ (p : ℕ) (e : r ≡ Some p) where
    past : p + length x ≤ length l → (q ≡ Some (p + length x)) × (p + length x ≤ length m)
    past h = (f.next p e h, omega (arith, f.size))

    then_next : p + length (x ++ y) ≤ length l → o ≡ Some (p + length (x ++ y))
    then_next h =
        let k : p + length x ≤ length l = omega (arith, both) in
        let j : p + length x + length y ≡ p + length (x ++ y) = omega (arith, both) in
        g.next (p + length x) (past k).0 (omega (arith, both, f.size)) ∙ ap Some j

    then_holds : p + length (x ++ y) ≤ length l → n ≡ pasted l p (x ++ y)
    then_holds h =
        let k : p + length x ≤ length l = omega (arith, both) in
        let i : p + length x + length y ≤ length m = omega (arith, both, f.size) in
        let j : m ≡ sets l p x = f.holds p e k ∙ sym (sets-eq x l p k) in
        g.holds (p + length x) (past k).0 i ∙ sym (sets-eq y m (p + length x) i)
        ∙ ap (λ m. sets m (p + length x) y) j ∙ sets_append x y l p ∙ sets-eq (x ++ y) l p h

    then_over : p ≤ length l → length l < p + length (x ++ y) → o ≡ None
    then_over h k = go (leb (p + length x) (length l)) refl
      where
        go : (t : Bool) → leb (p + length x) (length l) ≡ t → o ≡ None
        go true t =
            let i = past (leb-true (p + length x) (length l) t) in
            g.over (p + length x) i.0 i.1 (omega (arith, both, f.size))
        go false t = g.full (f.over p e h (leb-false (p + length x) (length l) t))

  pub then : Adds l r n o (x ++ y)
  then = record {
    size = g.size ∙ f.size;
    full = λ e. g.full (f.full e);
    next = then_next;
    holds = then_holds;
    over = then_over;
  }

pub same : {l m : List ℕ} {r q : Option ℕ} {x y : List ℕ} → Adds l r m q x → x ≡ y → Adds l r m q y
same {l} {m} {r} {q} f e = rw (← e) f

pub wrote : {l m : List ℕ} {q : Option ℕ} {x : List ℕ} → Adds l (Some 0) m q x → Wrote l m q x
wrote {l} {m} {q} {x} a = record {
  size = a.size;
  next = λ h. let z : length x ≡ 0 + length x = omega arith in rw z (a.next 0 refl (omega arith));
  holds = λ h. let z : 0 + length x ≡ length x = omega arith in
      a.holds 0 refl (omega arith) ∙ ap (λ k. x ++ drop k l) z;
  full = λ h. a.over 0 refl (omega arith) (omega arith);
}

drop_zeros : (k n : ℕ) → drop {A = ℕ} k (replicate n 0) ≡ replicate (n - k) 0
drop_zeros zero n = let e : n - 0 ≡ n = omega arith in rw e refl
drop_zeros (suc k) zero = let e : 0 - suc k ≡ 0 = omega arith in rw e refl
drop_zeros (suc k) (suc n) = let e : suc n - suc k ≡ n - k = omega arith in rw e (drop_zeros k n)

-- into an output that was cleared: the whole and then zeros
pub onto_zeros : {n : ℕ} {m : List ℕ} {q : Option ℕ} {x : List ℕ} → Wrote (replicate n 0) m q x → length x ≤ n
    → m ≡ x ++ replicate (n - length x) 0
onto_zeros {n} {m} {q} {x} w h =
    w.holds (omega (arith, length-replicate {A = ℕ} n 0)) ∙ ap (λ l. x ++ l) (drop_zeros (length x) n)
