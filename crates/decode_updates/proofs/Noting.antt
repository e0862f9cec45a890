-- An update goes into the updates of a trip at its sequence: over the place of an old one, or between the others.
-- Assumes nothing.
use Prim.Native.Nat.{ℕ, zero, suc, ◌+◌, ◌-◌, ◌*◌, ◌≤◌, ◌<◌}
use mathlib.Core.Path.{◌≡◌, refl, sym, ap, ◌∙◌}
use mathlib.Core.Bool.{Bool, true, false, cond, ◌&&◌}
use mathlib.Core.List.{List, [], ◌∷◌, ◌++◌, append_assoc}
use native.Mathlib.Omega.{arith}
use lib.Dec.{ltb, eqb}
use lib.ListN.{length, get_or, take, drop, set, length-set, length-append, length-drop, take-append-drop}
use lib.Seq.{get_or-drop, ext_get_or, get_or-set_same, get_or-set_other, drop-drop, drop-cons, take_at, drop_at, length-take-le}
use borrow.Author.Tests.{lt-ltb, le-ltb, ltb-true, eqb-true, eqb-false}
use Rattle.slices.specs.Lists.{lex_of}
use Rattle.std.specs.declared.cmp.Ordering.{Ordering}
use Rattle.std.specs.declared.cmp.Ordering.TheVariants.{Less, Equal, Greater}
use Rattle.maps.specs.Map.{put, ascending}
use Rattle.maps.specs.Promises.Order.{is_same, is_more}
use Rattle.maps.specs.Order.{numbers}
use Rattle.maps.proofs.Laws.Order.{numbers_order, heads, lex_itself, lex_same, cons_behind}
use Rattle.maps.proofs.Laws.Map.{put_ascending}
use Rattle.basics.specs.Laws.Booleans.{both_true}
use Rattle.decode_slots.specs.Index.{Place, slot_place}
use Rattle.slices.specs.Promises.Inserted.{inserted}
use Rattle.decode_slots.specs.Promises.Index.{rank_of, remarked}
use Rattle.decode_updates.specs.Line.{laid}
use Rattle.decode_updates.specs.Laws.Line.{laid_length}
use Rattle.decode_updates.specs.Promises.Line.{three, Lined, Noted}
use Rattle.slices.proofs.Gaps.{inserted_at, gap_length}
use Rattle.decode_slots.proofs.Ranks.{rank_length, rank_behind, rank_before}
use Rattle.decode_slots.proofs.Settling.{put_over, put_into, place_own, place_other, length_kept, marks_length}

-- an update that stands for no other
abbrev pub nothing : ℕ × Place
nothing = (0, (0, 0))

pub laid_at : (n : ℕ) (u : List ℕ) (i : ℕ) → i < n → get_or (laid n u) i nothing ≡ (get_or u (3 * i) 0, slot_place u i)
laid_at zero u i h = absurd (omega arith)
laid_at (suc n) u zero h = refl
laid_at (suc n) u (suc i) h =
    let a : 3 + 3 * i ≡ 3 * suc i = omega arith in
    let b : 3 + (3 * i + 1) ≡ 3 * suc i + 1 = omega arith in
    let c : 3 + (3 * i + 2) ≡ 3 * suc i + 2 = omega arith in
    laid_at n (drop 3 u) i (omega arith)
    ∙ rw (get_or-drop 3 u (3 * i) 0, get_or-drop 3 u (3 * i + 1) 0, get_or-drop 3 u (3 * i + 2) 0, a, b, c)

-- the order of two numbers
not_more : (x y : ℕ) → x ≤ y → is_more (lex_of (x ∷ []) (y ∷ [])) ≡ false
unfolding lex_of
not_more x y h = go (ltb x y) (ltb y x) (le-ltb y x h)
  where
    go : (a b : Bool) → b ≡ false → is_more (cond a Less (cond b Greater Equal)) ≡ false
    go true b e = refl
    go false b e = rw e

pub same_number : (x y : ℕ) → x ≡ y → is_same (lex_of (x ∷ []) (y ∷ [])) ≡ true
same_number x y e = rw e (ap is_same (lex_itself (y ∷ [])))

pub other_number : (x y : ℕ) → (x ≡ y → ⊥) → is_same (lex_of (x ∷ []) (y ∷ [])) ≡ false
other_number x y h = go (lex_of (x ∷ []) (y ∷ [])) refl
  where
    go : (o : Ordering) → lex_of (x ∷ []) (y ∷ []) ≡ o → is_same o ≡ false
    go Less e = refl
    go Equal e = absurd (h (heads (lex_same (x ∷ []) (y ∷ []) e)))
    go Greater e = refl

module _ (u : List ℕ) (n : ℕ) (L : Lined u n) (q : ℕ) where
  abbrev rank : ℕ
  rank = rank_of numbers q (laid n u)

  pub rank_most : rank ≤ n
  rank_most = omega (arith, rank_length numbers_order nothing q (laid n u), laid_length n u)

  -- a step of the search
  pub rank_down : (i : ℕ) → i < n → q ≤ get_or u (3 * i) 0 → rank ≤ i
  rank_down i h g =
      rank_before numbers_order nothing q (laid n u) i (omega (arith, laid_length n u))
      (ap (λ e. is_more (lex_of (q ∷ []) (e.0 ∷ []))) (laid_at n u i h) ∙ not_more q (get_or u (3 * i) 0) g)

  pub rank_up : (i : ℕ) → i < n → get_or u (3 * i) 0 < q → i < rank
  rank_up i h g =
      rank_behind numbers_order nothing q (laid n u) i L.ascends (omega (arith, laid_length n u))
      (ap (λ e. lex_of (q ∷ []) (e.0 ∷ [])) (laid_at n u i h) ∙ cons_behind q (get_or u (3 * i) 0) [] [] g)

  -- behind the last
  pub rank_all : 0 < n → get_or u (3 * (n - 1)) 0 < q → n ≡ rank
  rank_all h g = omega (arith, rank_most, rank_up (n - 1) (omega arith) g)

  over_at : (r from to i : ℕ) → r < n → q ≡ get_or u (3 * r) 0 → i < n
      → ◌≡◌ {A = ℕ × Place} (get_or (remarked u r from to) (3 * i) 0, slot_place (remarked u r from to) i)
      (get_or (set (laid n u) r (q, (from, to))) i nothing)
  over_at r from to i h e g = go (eqb i r) refl
    where
      go : (b : Bool) → eqb i r ≡ b
          → ◌≡◌ {A = ℕ × Place} (get_or (remarked u r from to) (3 * i) 0, slot_place (remarked u r from to) i)
          (get_or (set (laid n u) r (q, (from, to))) i nothing)
      go true p =
          let s : i ≡ r = eqb-true i r p in
          rw (
            s,
            get_or-set_same (laid n u) r (q, (from, to)) nothing (omega (arith, laid_length n u)),
            length_kept u r
                r from to,
            place_own u r from to (omega (arith, L.long, L.counted)),
            ← e,
          )
      go false p =
          rw (
            get_or-set_other (laid n u) r i (q, (from, to)) nothing (eqb-false i r p),
            length_kept u i r from to,
            place_other u i r from to (eqb-false i r p),
          )
          (sym (laid_at n u i g))

  over_map : (r from to : ℕ) → r < n → q ≡ get_or u (3 * r) 0
      → laid n (remarked u r from to) ≡ set (laid n u) r (q, (from, to))
  over_map r from to h e =
      ext_get_or nothing (laid n (remarked u r from to)) (set (laid n u) r (q, (from, to)))
      (laid_length n (remarked u r from to) ∙ sym (length-set (laid n u) r (q, (from, to)) ∙ laid_length n u))
      (λ i g. let g' : i < n = omega (arith, laid_length n (remarked u r from to)) in laid_at n (remarked u r from to)
      i g' ∙ over_at r from to i h e g')

  pub notes_over : (r from to : ℕ) (b : Bool) (u' : List ℕ) → r ≡ rank → b ≡ (ltb r n && eqb (get_or u (3 * r) 0) q)
      → b ≡ true → u' ≡ remarked u r from to → Noted u n q from to u' n
  notes_over r from to b u' e f t m =
      let c = both_true (ltb r n) (eqb (get_or u (3 * r) 0) q) (sym f ∙ t) in
      let h : r < n = ltb-true r n c.0 in
      let g : get_or u (3 * r) 0 ≡ q = eqb-true (get_or u (3 * r) 0) q c.1 in
      let k : rank < length (laid n u) = omega (arith, laid_length n u) in
      let same : is_same (lex_of (q ∷ []) ((get_or (laid n u) rank nothing).0 ∷ [])) ≡ true =
      ap (λ i. is_same (lex_of (q ∷ []) ((get_or (laid n u) i nothing).0 ∷ []))) (sym e)
      ∙ ap (λ x. is_same (lex_of (q ∷ []) (x.0 ∷ []))) (laid_at n u r h)
      ∙ same_number q (get_or u (3 * r) 0) (sym g) in
      let p : laid n u' ≡ put numbers q (from, to) (laid n u) =
      ap (laid n) m ∙ over_map r from to h (sym g) ∙ ap (λ i. set (laid n u) i (q, (from, to))) e
      ∙ sym (put_over numbers nothing q (from, to) (laid n u) k same) in
      record {
        map = p;
        lined = record {
          counted = L.counted;
          long = ap length m ∙ marks_length u r from to ∙ L.long;
          ascends = ap (ascending numbers) p ∙ put_ascending numbers_order q (from, to) (laid n u) L.ascends;
        };
      }

-- updates of two lists, one behind the other
laid_split : (r c : ℕ) (x y : List ℕ) → length x ≡ 3 * r → laid (r + c) (x ++ y) ≡ laid r x ++ laid c y
laid_split zero c [] y h = let n : 0 + c ≡ c = omega arith in ap (λ k. laid k y) n
laid_split zero c (a ∷ x) y h = absurd (omega arith)
laid_split (suc r) c [] y h = absurd (omega arith)
laid_split (suc r) c (a ∷ []) y h = absurd (omega arith)
laid_split (suc r) c (a ∷ b ∷ []) y h = absurd (omega arith)
laid_split (suc r) c (a ∷ b ∷ d ∷ x) y h =
    let n : suc r + c ≡ suc (r + c) = omega arith in
    rw n (ap (λ l. (a, (b, d)) ∷ l) (laid_split r c x y (omega arith)))

module _ (u : List ℕ) (r n : ℕ) (h : r ≤ n) (g : 3 * n + 3 ≤ length u) where
  abbrev front : List ℕ
  front = take (3 * r) u

  abbrev middle : List ℕ
  middle = take (3 * n - 3 * r) (drop (3 * r) u)

  front_length : length front ≡ 3 * r
  front_length = length-take-le (3 * r) u (omega arith)

  middle_length : length middle ≡ 3 * n - 3 * r
  middle_length = length-take-le (3 * n - 3 * r) (drop (3 * r) u) (omega (arith, length-drop (3 * r) u))

  pieces : (back : List ℕ) → drop (3 * n) u ≡ back → u ≡ front ++ (middle ++ back)
  pieces back e =
      let k : 3 * r + (3 * n - 3 * r) ≡ 3 * n = omega arith in
      sym (take-append-drop (3 * r) u)
      ∙ ap (λ l. front ++ l) (sym (take-append-drop (3 * n - 3 * r) (drop (3 * r) u))
      ∙ ap (λ l. middle ++ l) (drop-drop (3 * n - 3 * r) (3 * r) u ∙ ap (λ i. drop i u) k ∙ e))

  three_pieces : (q from to : ℕ) (x y z : ℕ) (rest : List ℕ) → drop (3 * n) u ≡ x ∷ y ∷ z ∷ rest
      → three u r n q from to ≡ front ++ (q ∷ from ∷ to ∷ (middle ++ rest))
  three_pieces q from to x y z rest e =
      let m : length front + length middle ≡ 3 * n = omega (arith, front_length, middle_length) in
      let one : inserted u (3 * r) (3 * n) q ≡ (front ++ q ∷ []) ++ (middle ++ y ∷ z ∷ rest) =
      ap (λ l. inserted l (3 * r) (3 * n) q) (pieces (x ∷ y ∷ z ∷ rest) e)
      ∙ inserted_at front middle (y ∷ z ∷ rest) x q (3 * r) (3 * n) (sym front_length) (sym m)
      ∙ sym (append_assoc front (q ∷ []) (middle ++ y ∷ z ∷ rest)) in
      let two : inserted ((front ++ q ∷ []) ++ (middle ++ y ∷ z ∷ rest)) (3 * r + 1) (3 * n + 1) from
      ≡ (front ++ q ∷ from ∷ []) ++ (middle ++ z ∷ rest) =
      inserted_at (front ++ q ∷ []) middle (z ∷ rest) y from (3 * r + 1) (3 * n + 1)
      (omega (arith, front_length, length-append front (q ∷ []))) (omega (arith, m, length-append front (q ∷ [])))
      ∙ append_assoc front (q ∷ []) (from ∷ (middle ++ z ∷ rest))
      ∙ sym (append_assoc front (q ∷ from ∷ []) (middle ++ z ∷ rest)) in
      let all : inserted ((front ++ q ∷ from ∷ []) ++ (middle ++ z ∷ rest)) (3 * r + 2) (3 * n + 2) to ≡ front
      ++ (q ∷ from ∷ to ∷ (middle ++ rest)) =
      inserted_at (front ++ q ∷ from ∷ []) middle rest z to (3 * r + 2) (3 * n + 2)
      (omega (arith, front_length, length-append front (q ∷ from ∷ [])))
      (omega (arith, m, length-append front (q ∷ from ∷ [])))
      ∙ append_assoc front (q ∷ from ∷ []) (to ∷ (middle ++ rest)) in
      ap (λ l. inserted (inserted l (3 * r + 1) (3 * n + 1) from) (3 * r + 2) (3 * n + 2) to) one
      ∙ ap (λ l. inserted l (3 * r + 2) (3 * n + 2) to) two ∙ all

  middle_laid : (back : List ℕ) → laid (n - r) (middle ++ back) ≡ laid (n - r) middle ++ []
  middle_laid back =
      let k : n - r ≡ n - r + 0 = omega arith in
      ap (λ i. laid i (middle ++ back)) k ∙ laid_split (n - r) 0 middle back (omega (arith, middle_length))

  whole_laid : laid n u ≡ laid r front ++ (laid (n - r) middle ++ [])
  whole_laid =
      let k : n ≡ r + (n - r) = omega arith in
      ap (λ i. laid i u) k ∙ ap (laid (r + (n - r))) (pieces (drop (3 * n) u) refl)
      ∙ laid_split r (n - r) front (middle ++ drop (3 * n) u) front_length
      ∙ ap (λ l. laid r front ++ l) (middle_laid (drop (3 * n) u))

  three_laid : (q from to : ℕ) (rest : List ℕ)
      → laid (n + 1) (front ++ (q ∷ from ∷ to ∷ (middle ++ rest))) ≡ take r (laid n u) ++ (q, (from, to)) ∷ drop r
      (laid n u)
  three_laid q from to rest =
      let k : n + 1 ≡ r + suc (n - r) = omega arith in
      let y = q ∷ from ∷ to ∷ (middle ++ rest) in
      let back = laid (n - r) middle ++ [] in
      let a : laid r front ≡ take r (laid n u) = sym
      (ap (take r) whole_laid ∙ take_at (laid r front) back r (laid_length r front)) in
      let b : laid (n - r) (middle ++ rest) ≡ drop r (laid n u) = middle_laid rest
      ∙ sym (ap (drop r) whole_laid ∙ drop_at (laid r front) back r (laid_length r front)) in
      ap (λ i. laid i (front ++ y)) k ∙ laid_split r (suc (n - r)) front y front_length
      ∙ (λ i. a i ++ (q, (from, to)) ∷ b i)

drop_three : (u : List ℕ) (k : ℕ) → k + 3 ≤ length u
    → drop k u ≡ get_or u k 0 ∷ get_or u (k + 1) 0 ∷ get_or u (k + 2) 0 ∷ drop (k + 3) u
drop_three u k h =
    let a : suc k ≡ k + 1 = omega arith in
    let b : suc (k + 1) ≡ k + 2 = omega arith in
    let c : suc (k + 2) ≡ k + 3 = omega arith in
    rw (
      drop-cons u k 0 (omega arith),
      a,
      drop-cons u (k + 1) 0 (omega arith),
      b,
      drop-cons u (k + 2) 0 (omega arith),
      c,
    )

pub three_length : (u : List ℕ) (r n q from to : ℕ) → r ≤ n → 3 * n + 3 ≤ length u
    → length (three u r n q from to) ≡ length u
three_length u r n q from to h l =
    let v = inserted u (3 * r) (3 * n) q in
    let w = inserted v (3 * r + 1) (3 * n + 1) from in
    let a : length v ≡ length u = gap_length u (3 * r) (3 * n) q (omega arith) (omega arith) in
    let b : length w ≡ length v = gap_length v (3 * r + 1) (3 * n + 1) from (omega arith) (omega arith) in
    gap_length w (3 * r + 2) (3 * n + 2) to (omega arith) (omega arith) ∙ b ∙ a

module _ (u : List ℕ) (n : ℕ) (L : Lined u n) (q from to : ℕ) where
  pub notes_into : (r : ℕ) (b : Bool) (u' : List ℕ) → r ≡ rank_of numbers q (laid n u)
      → b ≡ (ltb r n && eqb (get_or u (3 * r) 0) q) → b ≡ false → n ≤ 128 → u' ≡ three u r n q from to
      → Noted u n q from to u' (n + 1)
  notes_into r b u' e f t g m =
      let d : r < n → get_or u (3 * r) 0 ≡ q → ⊥ = λ k. eqb-false (get_or u (3 * r) 0) q
      (rw (lt-ltb r n k) at (sym f ∙ t)) in
      let rank = rank_of numbers q (laid n u) in
      let h : r ≤ n = omega (arith, rank_most u n L q) in
      let l : 3 * n + 3 ≤ length u = omega (arith, L.long) in
      let x = get_or u (3 * n) 0 in
      let y = get_or u (3 * n + 1) 0 in
      let z = get_or u (3 * n + 2) 0 in
      let back : drop (3 * n) u ≡ x ∷ y ∷ z ∷ drop (3 * n + 3) u =
      drop_three u (3 * n) l in
      let other : rank < length (laid n u)
      → is_same (lex_of (q ∷ []) ((get_or (laid n u) rank nothing).0 ∷ [])) ≡ false =
      λ k.
      let k' : rank < n = omega (arith, laid_length n u) in
      ap (λ x. is_same (lex_of (q ∷ []) (x.0 ∷ []))) (laid_at n u rank k')
      ∙ other_number q (get_or u (3 * rank) 0) (λ s. d (omega arith) (ap (λ i. get_or u (3 * i) 0) e ∙ sym s)) in
      let p : laid (n + 1) u' ≡ put numbers q (from, to) (laid n u) =
      ap (laid (n + 1)) (m ∙ three_pieces u r n h l q from to x y z (drop (3 * n + 3) u) back)
      ∙ three_laid u r n h l q from to (drop (3 * n + 3) u)
      ∙ ap (λ i. take i (laid n u) ++ (q, (from, to)) ∷ drop i (laid n u)) e
      ∙ sym (put_into numbers nothing q (from, to) (laid n u) other) in
      record {
        map = p;
        lined = record {
          counted = omega arith;
          long = ap length m ∙ three_length u r n q from to h l ∙ L.long;
          ascends = ap (ascending numbers) p ∙ put_ascending numbers_order q (from, to) (laid n u) L.ascends;
        };
      }
