-- Law. A text searched for a pattern, place by place: what each turn knows, and what a pattern in parts is.
use Rattle.std.specs.Prelude.{◌≡◌, refl, List, [], ◌∷◌, ◌++◌, Bool, true, false, cond, not, ◌&&◌, ◌||◌, ℕ, zero, suc, ◌+◌, ◌-◌, ◌≤◌, ◌<◌, eqb, length, get_or, drop, Option, Some, None}
use Rattle.std.proofs.Common.{sym, ap, ◌∙◌, add-one, arith, add_assoc, drop_of_length-le, length-append, length-drop, drop-cons, drop-drop, eq-eqb, ne_eqb}
use Rattle.std.proofs.Math.Option.{Option as LogicOption, none, some}
use Rattle.std.proofs.lemmas.Bool.{not-true, not-false}
use Rattle.alerts.specs.Text.{begins, ends, contains, later, find}
use Rattle.alerts_patterns.specs.Promises.Occurrence.{found_of}
use Rattle.basics.specs.Texts.{same}
use Rattle.basics.specs.Laws.Texts.{same_true}
use Rattle.basics.specs.Laws.Booleans.{false_true, or_false}
use Rattle.alerts.proofs.Laws.Text.{begins_true}

-- p stands at i where the rest of p stands at k
pub record Stands (p s : List ℕ) (i j k : ℕ) : Type 0 where
  pub within : j ≤ length p
  pub whole : begins p (drop i s) ≡ begins (drop j p) (drop k s)

pub stands_start : (p s : List ℕ) (i : ℕ) → Stands p s i 0 i
stands_start p s i = record { within = omega arith; whole = refl }

pub stands_short : (p s : List ℕ) (i j k : ℕ) → Stands p s i j k → j < length p → length s ≤ k
    → false ≡ begins p (drop i s)
stands_short p s i j k a h e = sym (a.whole ∙ rw (drop-cons p j 0, drop_of_length-le s e) refl)

pub stands_differs : (p s : List ℕ) (i j k : ℕ) → Stands p s i j k → j < length p → k < length s
    → (get_or s k 0 ≡ get_or p j 0 → ⊥) → false ≡ begins p (drop i s)
stands_differs p s i j k a h g d =
    sym (a.whole ∙ rw (drop-cons p j 0, drop-cons s k 0, ne_eqb (get_or p j 0) (get_or s k 0) (λ e. d (sym e))) refl)

pub stands_more : (p s : List ℕ) (i j k : ℕ) → Stands p s i j k → j < length p → k < length s
    → get_or s k 0 ≡ get_or p j 0
    → Stands p s i (j + 1) (k + 1)
stands_more p s i j k a h g e = record {
  within = omega arith;
  whole = a.whole
      ∙ rw (add-one j, add-one k, drop-cons p j 0, drop-cons s k 0, eq-eqb (get_or p j 0) (get_or s k 0) (sym e)) refl;
}

pub stands_whole : (p s : List ℕ) (i j k : ℕ) → Stands p s i j k → length p ≤ j → true ≡ begins p (drop i s)
stands_whole p s i j k a h = sym (a.whole ∙ rw (drop_of_length-le p h) refl)

-- a pattern in parts
pub begins_joined : (p q t : List ℕ) → begins (p ++ q) t ≡ begins p t && begins q (drop (length p) t)
begins_joined [] q t = refl
begins_joined (a ∷ p) q [] = refl
begins_joined (a ∷ p) q (b ∷ t) = rw (begins_joined p q t) (go (eqb a b))
  where
    go : (e : Bool) → e && (begins p t && begins q (drop (length p) t)) ≡ e && begins p t
        && begins q (drop (length p) t)
    go true = refl
    go false = refl

pub parts : (b n a s : List ℕ) (i : ℕ)
    → begins (b ++ n ++ a) (drop i s) ≡ begins b (drop i s) && begins n (drop (i + length b) s)
    && begins a (drop (i + length b + length n) s)
parts b n a s i =
    rw (
      begins_joined (b ++ n) a (drop i s),
      begins_joined b n (drop i s),
      drop-drop (length b) i s,
      drop-drop (length (b ++ n)) i s,
      length-append b n,
      ← add_assoc i (length b) (length n),
    )
    refl

-- what stands at i has room there
pub room : (p s : List ℕ) (i : ℕ) (t : Bool) → t ≡ begins p (drop i s) → not t ≡ false → length p ≤ length s - i
room p s i t e h =
    let (y, g) = begins_true p (drop i s) (sym e ∙ not-false t h) in
    omega (arith, length-drop i s, length-append p y, ap length g)

module _ (b n a s : List ℕ) (i : ℕ) where
  pub not_before : (t : Bool) → t ≡ begins b (drop i s) → not t ≡ true → false ≡ begins (b ++ n ++ a) (drop i s)
  not_before t e h = sym (parts b n a s i ∙ rw (← e, not-true t h) refl)

  pub not_name : (t u : Bool) → t ≡ begins b (drop i s) → not t ≡ false → u ≡ begins n (drop (i + length b) s)
      → not u ≡ true → false ≡ begins (b ++ n ++ a) (drop i s)
  not_name t u e h f k = sym (parts b n a s i ∙ rw (← e, not-false t h, ← f, not-true u k) refl)

  pub then_after : (t u v : Bool) → t ≡ begins b (drop i s) → not t ≡ false → u ≡ begins n (drop (i + length b) s)
      → not u ≡ false
      → v ≡ begins a (drop (i + length b + length n) s) → v ≡ begins (b ++ n ++ a) (drop i s)
  then_after t u v e h f k g = sym (parts b n a s i ∙ rw (← e, not-false t h, ← f, not-false u k, ← g) refl)

-- the first place of p in s is the first place from i on
abbrev pub moved : ℕ → LogicOption ℕ → LogicOption ℕ
moved i none = none
moved i (some k) = some (i + k)

pub record Unfound (p s : List ℕ) (i : ℕ) : Type 0 where
  pub within : i ≤ length s
  pub whole : find p s ≡ moved i (find p (drop i s))

pub unfound_start : (p s : List ℕ) → Unfound p s 0
unfound_start p s = record { within = omega arith; whole = go (find p s) }
  where
    go : (o : LogicOption ℕ) → o ≡ moved 0 o
    go none = refl
    go (some k) = ap some (omega arith)

find_begins : (p s : List ℕ) → begins p s ≡ true → find p s ≡ some 0
find_begins [] [] e = refl
find_begins (a ∷ p) [] e = false_true e
find_begins p (b ∷ s) e = rw e refl

moved_later : (i : ℕ) (o : LogicOption ℕ) → moved i (later o) ≡ moved (i + 1) o
moved_later i none = refl
moved_later i (some k) = ap some (omega arith)

pub found_here : (p s : List ℕ) (i : ℕ) (t : Bool) → Unfound p s i → t ≡ begins p (drop i s) → t ≡ true
    → Some i ≡ found_of (find p s)
found_here p s i t u e h =
    sym (ap found_of (u.whole ∙ ap (moved i) (find_begins p (drop i s) (sym e ∙ h)) ∙ ap some (omega arith)))

pub unfound_more : (p s : List ℕ) (i : ℕ) (t : Bool) → Unfound p s i → i < length s → t ≡ begins p (drop i s)
    → t ≡ false → Unfound p s (i + 1)
unfound_more p s i t u g e h = record {
  within = omega arith;
  whole = u.whole ∙ ap (moved i) (step (sym e ∙ h)) ∙ moved_later i (find p (drop (i + 1) s));
}
  where
    step : begins p (drop i s) ≡ false → find p (drop i s) ≡ later (find p (drop (i + 1) s))
    step x = rw (add-one i, drop-cons s i 0)
        (ap (λ t. cond t (some 0) (later (find p (drop (suc i) s)))) (ap (begins p) (sym (drop-cons s i 0 g)) ∙ x))

pub nowhere : (p s : List ℕ) (i : ℕ) (t : Bool) → Unfound p s i → length s ≤ i → t ≡ begins p (drop i s) → t ≡ false
    → None ≡ found_of (find p s)
nowhere p s i t u g e h =
    let last : begins p [] ≡ false = rw (drop_of_length-le s g) at (sym e ∙ h) in
    sym (ap found_of (u.whole ∙ ap (λ l. moved i (find p l)) (drop_of_length-le s g) ∙ ap (moved i) (none_left p last)))
  where
    none_left : (p : List ℕ) → begins p [] ≡ false → find p [] ≡ none
    none_left [] x = false_true (sym x)
    none_left (a ∷ p) x = refl

-- what is found is contained
abbrev somewhere : LogicOption ℕ → Bool
somewhere none = false
somewhere (some i) = true

contains_find : (p s : List ℕ) → contains p s ≡ somewhere (find p s)
contains_find [] [] = refl
contains_find (a ∷ p) [] = refl
contains_find p (b ∷ s) = rw (contains_find p s) (go (begins p (b ∷ s)) (find p s))
  where
    go : (t : Bool) (o : LogicOption ℕ) → t || somewhere o ≡ somewhere (cond t (some 0) (later o))
    go true o = refl
    go false none = refl
    go false (some i) = refl

found_somewhere : (f : LogicOption ℕ) (i : ℕ) → found_of f ≡ Some i → somewhere f ≡ true
found_somewhere none i e = absurd (let z : ◌≡◌ {A = ℕ} 0 1 = cc in omega arith)
found_somewhere (some k) i e = refl

found_nowhere : (f : LogicOption ℕ) → found_of f ≡ None → somewhere f ≡ false
found_nowhere none e = refl
found_nowhere (some k) e = absurd (let z : ◌≡◌ {A = ℕ} 0 1 = cc in omega arith)

pub found_contained : (p s : List ℕ) (i : ℕ) (o : Option ℕ) → o ≡ found_of (find p s) → o ≡ Some i → true ≡ contains p s
found_contained p s i o e h = sym (contains_find p s ∙ found_somewhere (find p s) i (sym e ∙ h))

pub nowhere_contained : (p s : List ℕ) (o : Option ℕ) → o ≡ found_of (find p s) → o ≡ None → false ≡ contains p s
nowhere_contained p s o e h = sym (contains_find p s ∙ found_nowhere (find p s) (sym e ∙ h))

-- an end in the text, from where it begins
begins_same : (p s : List ℕ) → length p ≡ length s → begins p s ≡ same p s
begins_same [] [] h = refl
begins_same [] (b ∷ s) h = absurd (omega (arith, h))
begins_same (a ∷ p) [] h = refl
begins_same (a ∷ p) (b ∷ s) h = rw (begins_same p s (omega (arith, h))) refl

other_length : (p s : List ℕ) → (length p ≡ length s → ⊥) → same p s ≡ false
other_length p s h = go (same p s) refl
  where
    go : (t : Bool) → same p s ≡ t → t ≡ false
    go true e = absurd (h (ap length (same_true p s e)))
    go false e = refl

pub ends_long : (p s : List ℕ) → length s < length p → ends p s ≡ false
ends_long [] [] h = absurd (omega arith)
ends_long (a ∷ p) [] h = refl
ends_long p (b ∷ s) h = rw (other_length p (b ∷ s) (λ e. omega (arith, e)), ends_long p s (omega arith)) refl

pub ends_begins : (p s : List ℕ) (k : ℕ) → k + length p ≡ length s → ends p s ≡ begins p (drop k s)
ends_begins [] [] zero e = refl
ends_begins (a ∷ p) [] zero e = absurd (omega (arith, e))
ends_begins p [] (suc k) e = absurd (omega (arith, e))
ends_begins p (b ∷ s) zero e =
    rw (ends_long p s (omega (arith, e))) (or_false (same p (b ∷ s)) ∙ sym (begins_same p (b ∷ s) (omega (arith, e))))
ends_begins p (b ∷ s) (suc k) e =
    rw (other_length p (b ∷ s) (λ x. omega (arith, e, x))) (ends_begins p s k (omega (arith, e)))
