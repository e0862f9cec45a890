-- Law. The merge, turn by turn.
use Rattle.std.specs.Prelude.{◌≡◌, Bool, true, false, not, List, [], ◌∷◌, ◌++◌, ℕ, ◌+◌, ◌-◌, ◌≤◌, ◌<◌, ℤ, pos, negsuc, ◌-ℤ◌, eqb, leb, ltb, length, take, drop}
use Rattle.std.proofs.Math.Path.{refl}
use Rattle.std.proofs.Common.{sym, ap, ◌∙◌, append_assoc, append-nil, arith, length-append, eq-eqb, ne_eqb, eqb-true, le-leb, ltb-true, ltb-false, SFits, to_z, of_z, to_z-of_z}
use Rattle.std.specs.Int.Signed.{lt_z, le_z}
use Rattle.std.proofs.Math.Seq.{slice}
use Rattle.std.proofs.lemmas.Bool.{eqb-false, lt-leb}
use Rattle.std.specs.Int.{w64}
use Rattle.basics.specs.Laws.Booleans.{not_true}
use Rattle.slices.specs.Lists.{lex_of}
use Rattle.std.specs.declared.cmp.Ordering.{Ordering}
use Rattle.std.specs.declared.cmp.Ordering.TheVariants.{Less, Equal, Greater}
use Rattle.maps.specs.Map.{puts}
use Rattle.maps.specs.Order.{texts}
use Rattle.maps.proofs.Laws.Map.{rest_ascending}
use Rattle.maps.proofs.Laws.Order.{texts_order}
use Rattle.formats.specs.Number.{zag}
use Rattle.formats.specs.Laws.Number.{zag_zig}
use Rattle.formats_write.specs.Laws.Slices.{slice_is}
use Rattle.overlay.specs.State.{Vehicle, Vehicles, updated_of}
use Rattle.overlay.specs.Change.{without_stale}
use Rattle.overlay_merge.specs.declared.Turn.{Turn}
use Rattle.overlay_merge.specs.Promises.Entry.{ReadsEntry}
use Rattle.overlay_merge.specs.Promises.Merge.{first_of, Fresh, Firsts, Both, In, Taken, Turned, Ahead}
use Rattle.overlay_merge.specs.Promises.Merge.{Merge}
use Rattle.overlay_merge.specs.Laws.Puts.{puts_last, puts_less, puts_same, puts_more}

-- no order is another
less_same : {C : Type 0} → Less ≡ Equal → C
less_same e = absurd (let z : ◌≡◌ {A = ℕ} 0 1 = cc in omega arith)

less_more : {C : Type 0} → Less ≡ Greater → C
less_more e = absurd (let z : ◌≡◌ {A = ℕ} 0 1 = cc in omega arith)

same_more : {C : Type 0} → Equal ≡ Greater → C
same_more e = absurd (let z : ◌≡◌ {A = ℕ} 0 1 = cc in omega arith)

-- the order of the two first keys, by what is left
module _ (n m : ℕ) (a b : List ℕ) where
  at_end : 0 ≡ n → first_of n m a b ≡ Greater
  at_end e = rw (eq-eqb n 0 (sym e)) refl

  old_at_end : 0 < n → 0 ≡ m → first_of n m a b ≡ Less
  old_at_end z e = rw (ne_eqb n 0 (omega arith), eq-eqb m 0 (sym e)) refl

  neither : 0 < n → 0 < m → first_of n m a b ≡ lex_of a b
  neither y z = rw (ne_eqb n 0 (omega arith), ne_eqb m 0 (omega arith)) refl

  pub first_more : n ≡ 0 → Greater ≡ first_of n m a b
  first_more e = sym (at_end (sym e))

  pub first_less : (n ≡ 0 → ⊥) → m ≡ 0 → Less ≡ first_of n m a b
  first_less y e = rw (ne_eqb n 0 y, eq-eqb m 0 e) refl

pub first_lex : (n m : ℕ) (s t : List ℕ) {a e b f : ℕ} {o : Ordering} → (n ≡ 0 → ⊥) → (m ≡ 0 → ⊥)
    → (a ≤ e) × (e ≤ length s) × (b ≤ f) × (f ≤ length t)
    → o ≡ lex_of (take (e - a) (drop a s)) (take (f - b) (drop b t)) → o ≡ first_of n m (slice a e s) (slice b f t)
first_lex n m s t {a} {e} {b} {f} y z h o =
    rw (ne_eqb n 0 y, ne_eqb m 0 z, ← slice_is a e s h.0 h.1, ← slice_is b f t h.2 h.3) o

-- the two orders of signed numbers
le_lt : (m n : ℕ) → leb n m ≡ not (ltb m n)
le_lt m n = go (ltb m n) refl
  where
    go : (t : Bool) → ltb m n ≡ t → leb n m ≡ not t
    go true e = lt-leb n m (ltb-true m n e)
    go false e = le-leb n m (ltb-false m n e)

not_less : (x y : ℤ) → le_z y x ≡ not (lt_z x y)
not_less (pos m) (pos n) = le_lt m n
not_less (pos m) (negsuc n) = refl
not_less (negsuc m) (pos n) = refl
not_less (negsuc m) (negsuc n) = le_lt n m

pub fresh_is : (u limit : ℕ) {x y : ℤ} → SFits w64 x → SFits w64 y → y ≡ zag limit → x ≡ zag u
    → Fresh u limit (le_z (to_z w64 (of_z w64 y)) (to_z w64 (of_z w64 x)))
fresh_is u limit {x} {y} f g d e = record { is = rw (to_z-of_z f, to_z-of_z g, d, e) (not_less (zag u) (zag limit)) }

module _ {sheet : List ℕ} {p n : ℕ} {old : List ℕ} {q m : ℕ} where
  -- the first entry of the one or of the other is passed
  sheet_passed : {x : List ℕ × Vehicle} {xs ys : Vehicles} {a e u r : ℕ} → Both sheet p n old q m (x ∷ xs) ys
      → ReadsEntry sheet p a e u r → Both sheet r (n - 1) old q m xs ys
  sheet_passed {x} {xs} B E = record {
    sheet_end = B.sheet_end;
    sheet_stand = rw (E.next B.sheet_stand.1) B.sheet_stand.2;
    sheet_count = omega (arith, B.sheet_count);
    sheet_ascends = rest_ascending texts_order x xs B.sheet_ascends;
    old_end = B.old_end;
    old_stand = B.old_stand;
    old_count = B.old_count;
    old_ascends = B.old_ascends;
  }

  old_passed : {y : List ℕ × Vehicle} {xs ys : Vehicles} {a e u r : ℕ} → Both sheet p n old q m xs (y ∷ ys)
      → ReadsEntry old q a e u r → Both sheet p n old r (m - 1) xs ys
  old_passed {y} {ys} B E = record {
    sheet_end = B.sheet_end;
    sheet_stand = B.sheet_stand;
    sheet_count = B.sheet_count;
    sheet_ascends = B.sheet_ascends;
    old_end = B.old_end;
    old_stand = rw (E.next B.old_stand.1) B.old_stand.2;
    old_count = omega (arith, B.old_count);
    old_ascends = rest_ascending texts_order y ys B.old_ascends;
  }

-- THE TURNS
pub firsts : (n m : ℕ) {sheet : List ℕ} {p : ℕ} {old : List ℕ} {q xa xe xu xr ya ye yu yr : ℕ} {o : Ordering}
    → ReadsEntry sheet p xa xe xu xr → ReadsEntry old q ya ye yu yr
    → o ≡ first_of n m (slice xa xe sheet) (slice ya ye old) → Firsts sheet p n old q m xa xe xu xr ya ye yu yr o
firsts n m E F f = record { sheet_reads = E; old_reads = F; first = f }

module _ {sheet : List ℕ} {p n : ℕ} {old : List ℕ} {q m xa xe xu xr ya ye yu yr : ℕ} {o : Ordering}
    (H : Firsts sheet p n old q m xa xe xu xr ya ye yu yr o) where
  lex : {x y : List ℕ × Vehicle} {xs ys : Vehicles} → Both sheet p n old q m (x ∷ xs) (y ∷ ys) → o ≡ lex_of x.0 y.0
  lex {x} B =
      H.first ∙ neither n m (slice xa xe sheet) (slice ya ye old) (omega (arith, B.sheet_count))
      (omega (arith, B.old_count))
      ∙ ap (λ a. lex_of a (slice ya ye old)) (H.sheet_reads.key B.sheet_stand.1)
      ∙ ap (lex_of x.0) (H.old_reads.key B.old_stand.1)

  -- a list at its end
  no_sheet : {ys : Vehicles} → Both sheet p n old q m [] ys → o ≡ Greater
  no_sheet B = H.first ∙ at_end n m (slice xa xe sheet) (slice ya ye old) B.sheet_count

  no_old : {x : List ℕ × Vehicle} {xs : Vehicles} → Both sheet p n old q m (x ∷ xs) [] → o ≡ Less
  no_old B =
      H.first ∙ old_at_end n m (slice xa xe sheet) (slice ya ye old) (omega (arith, B.sheet_count)) B.old_count

  -- an entry of the sheet is left where it comes first; one of the feed, where it does and one is left at all
  sheet_left : (o ≡ Greater → ⊥) → 0 < n
  sheet_left h = go (eqb n 0) refl
    where
      go : (t : Bool) → eqb n 0 ≡ t → 0 < n
      go true e =
          absurd (h (H.first ∙ at_end n m (slice xa xe sheet) (slice ya ye old) (sym (eqb-true n 0 e))))
      go false e = omega (arith, eqb-false n 0 e)

  old_left : 0 < n + m → (o ≡ Less → ⊥) → 0 < m
  old_left z h = go (eqb m 0) refl
    where
      go : (t : Bool) → eqb m 0 ≡ t → 0 < m
      go true e =
          let y : 0 < n = omega (arith, eqb-true m 0 e) in
          absurd (h (H.first ∙ old_at_end n m (slice xa xe sheet) (slice ya ye old) y (sym (eqb-true m 0 e))))
      go false e = omega (arith, eqb-false m 0 e)

  pub left_less : o ≡ Less → 1 ≤ n
  left_less l = omega (arith, sheet_left (λ e. less_more (sym l ∙ e)))

  pub left_same : o ≡ Equal → 1 ≤ n
  left_same l = omega (arith, sheet_left (λ e. same_more (sym l ∙ e)))

  pub left_both : 0 < n + m → o ≡ Equal → 1 ≤ m
  left_both z l = omega (arith, old_left z (λ e. less_same (sym e ∙ l)))

  pub left_more : 0 < n + m → o ≡ Greater → 1 ≤ m
  left_more z l = omega (arith, old_left z (λ e. less_more (sym e ∙ l)))

  module _ {limit : ℕ} {k : Bool} (G : Fresh xu limit k) where
    sheet_keeps : {x : List ℕ × Vehicle} {xs ys : Vehicles} → Both sheet p n old q m (x ∷ xs) ys
        → k ≡ not (lt_z (updated_of x.1) (zag limit))
    sheet_keeps {x} B =
        G.is ∙ ap (λ z. not (lt_z z (zag limit)))
        (ap zag (H.sheet_reads.updated B.sheet_stand.1) ∙ zag_zig (updated_of x.1))

    abbrev less_turn : Turn
    less_turn = record { sheet = true; from = p; to = xr; keep = k; p = xr; n = n - 1; q = q; m = m }

    abbrev same_turn : Turn
    same_turn = record { sheet = true; from = p; to = xr; keep = k; p = xr; n = n - 1; q = yr; m = m - 1 }

    less : o ≡ Less → (xs ys : Vehicles) → Both sheet p n old q m xs ys → Taken sheet old limit less_turn xs ys
    less l [] ys B = less_more (sym l ∙ no_sheet B)
    less l (x ∷ xs) [] B = record {
      entry = x;
      xs' = xs;
      ys' = [];
      both = sheet_passed B H.sheet_reads;
      is = puts_last texts_order x xs B.sheet_ascends;
      stands = rw (H.sheet_reads.next B.sheet_stand.1) B.sheet_stand.1;
      keeps = sheet_keeps B;
    }
    less l (x ∷ xs) (y ∷ ys) B = record {
      entry = x;
      xs' = xs;
      ys' = y ∷ ys;
      both = sheet_passed B H.sheet_reads;
      is = puts_less texts_order x xs B.sheet_ascends y ys (sym (lex B) ∙ l);
      stands = rw (H.sheet_reads.next B.sheet_stand.1) B.sheet_stand.1;
      keeps = sheet_keeps B;
    }

    pub turned_less : o ≡ Less → Turned sheet p n old q m limit less_turn
    turned_less l = record {
      falls = omega (arith, left_less l);
      takes = λ {xs} {ys} B. less l xs ys B;
    }

    level : o ≡ Equal → (xs ys : Vehicles) → Both sheet p n old q m xs ys → Taken sheet old limit same_turn xs ys
    level l [] ys B = same_more (sym l ∙ no_sheet B)
    level l (x ∷ xs) [] B = less_same (sym (no_old B) ∙ l)
    level l (x ∷ xs) (y ∷ ys) B = record {
      entry = x;
      xs' = xs;
      ys' = ys;
      both = old_passed (sheet_passed B H.sheet_reads) H.old_reads;
      is = puts_same texts_order x xs B.sheet_ascends y ys (sym (lex B) ∙ l);
      stands = rw (H.sheet_reads.next B.sheet_stand.1) B.sheet_stand.1;
      keeps = sheet_keeps B;
    }

    pub turned_same : o ≡ Equal → Turned sheet p n old q m limit same_turn
    turned_same l = record {
      falls = omega (arith, left_same l);
      takes = λ {xs} {ys} B. level l xs ys B;
    }

  module _ {limit : ℕ} {k : Bool} (G : Fresh yu limit k) where
    old_keeps : {y : List ℕ × Vehicle} {xs ys : Vehicles} → Both sheet p n old q m xs (y ∷ ys)
        → k ≡ not (lt_z (updated_of y.1) (zag limit))
    old_keeps {y} B =
        G.is ∙ ap (λ z. not (lt_z z (zag limit)))
        (ap zag (H.old_reads.updated B.old_stand.1) ∙ zag_zig (updated_of y.1))

    abbrev more_turn : Turn
    more_turn = record { sheet = false; from = q; to = yr; keep = k; p = p; n = n; q = yr; m = m - 1 }

    more : 0 < n + m → o ≡ Greater → (xs ys : Vehicles) → Both sheet p n old q m xs ys
        → Taken sheet old limit more_turn xs ys
    more z l [] [] B = absurd (omega (arith, B.sheet_count, B.old_count))
    more z l [] (y ∷ ys) B = record {
      entry = y;
      xs' = [];
      ys' = ys;
      both = old_passed B H.old_reads;
      is = refl;
      stands = rw (H.old_reads.next B.old_stand.1) B.old_stand.1;
      keeps = old_keeps B;
    }
    more z l (x ∷ xs) [] B = less_more (sym (no_old B) ∙ l)
    more z l (x ∷ xs) (y ∷ ys) B = record {
      entry = y;
      xs' = x ∷ xs;
      ys' = ys;
      both = old_passed B H.old_reads;
      is = puts_more texts_order x xs B.sheet_ascends y ys (sym (lex B) ∙ l);
      stands = rw (H.old_reads.next B.old_stand.1) B.old_stand.1;
      keeps = old_keeps B;
    }

    pub turned_more : 0 < n + m → o ≡ Greater → Turned sheet p n old q m limit more_turn
    turned_more z l = record {
      falls = omega (arith, left_more z l);
      takes = λ {xs} {ys} B. more z l xs ys B;
    }

-- THE LOOP
module _ (clock : ℤ) (e : List ℕ × Vehicle) (l : Vehicles) where
  stays : lt_z (updated_of e.1) (clock -ℤ pos 900) ≡ false → without_stale clock (e ∷ l) ≡ e ∷ without_stale clock l
  unfolding without_stale
  stays h = rw h refl

  goes : lt_z (updated_of e.1) (clock -ℤ pos 900) ≡ true → without_stale clock (e ∷ l) ≡ without_stale clock l
  unfolding without_stale
  goes h = rw h refl

not_false : (x : Bool) → false ≡ not x → x ≡ true
not_false true e = refl
not_false false e = e

-- nothing is left
end_at : (done : Vehicles → Type 0) (clock : ℤ) (all us xs ys : Vehicles)
    → us ++ without_stale clock (puts texts xs ys) ≡ all → length xs + length ys ≤ 0 → done us → done all
unfolding without_stale
end_at done clock all us [] [] j z d = rw (← j, append-nil us) d
end_at done clock all us [] (y ∷ ys) j z d = absurd (omega arith)
end_at done clock all us (x ∷ xs) ys j z d = absurd (omega arith)

module _ {sheet : List ℕ} {a i : ℕ} {old : List ℕ} {b j limit : ℕ} where
  pub begin : {done : Vehicles → Type 0} → done [] → Merge sheet a i old b j limit a i b j done
  begin d = record {
    at = λ xs ys clock e B. record { behind = []; xs = xs; ys = ys; both = B; joined = refl; so = d };
  }

  module _ {p n q m : ℕ} {done : Vehicles → Type 0} (M : Merge sheet a i old b j limit p n q m done) where
    module _ {t : Turn} {next : Vehicles → Type 0} (U : Turned sheet p n old q m limit t)
        (yes : (us : Vehicles) (v : List ℕ × Vehicle) → done us
        → In t.sheet sheet old t.from t.to v → t.keep ≡ true → next (us ++ (v ∷ [])))
        (no : (us : Vehicles) → done us → t.keep ≡ false → next us) where
      onward_at : (clock : ℤ) (all : Vehicles) → zag limit ≡ clock -ℤ pos 900
          → Ahead sheet p n old q m clock all done → (k : Bool) → t.keep ≡ k
          → Ahead sheet t.p t.n old t.q t.m clock all next
      onward_at clock all e A true k =
          let T = U.takes A.both in
          let l = puts texts T.xs' T.ys' in
          let z : lt_z (updated_of T.entry.1) (clock -ℤ pos 900) ≡ false =
          rw e at (not_true (lt_z (updated_of T.entry.1) (zag limit)) (sym T.keeps ∙ k)) in
          record {
            behind = A.behind ++ (T.entry ∷ []);
            xs = T.xs';
            ys = T.ys';
            both = T.both;
            joined = append_assoc A.behind (T.entry ∷ []) (without_stale clock l)
                ∙ ap (λ l. A.behind ++ l) (sym (ap (without_stale clock) T.is ∙ stays clock T.entry l z))
                ∙ A.joined;
            so = yes A.behind T.entry A.so T.stands k;
          }
      onward_at clock all e A false k =
          let T = U.takes A.both in
          let l = puts texts T.xs' T.ys' in
          let z : lt_z (updated_of T.entry.1) (clock -ℤ pos 900) ≡ true =
          rw e at (not_false (lt_z (updated_of T.entry.1) (zag limit)) (sym k ∙ T.keeps)) in
          record {
            behind = A.behind;
            xs = T.xs';
            ys = T.ys';
            both = T.both;
            joined = ap (λ l. A.behind ++ l) (sym (ap (without_stale clock) T.is ∙ goes clock T.entry l z))
                ∙ A.joined;
            so = no A.behind A.so k;
          }

      pub onward : Merge sheet a i old b j limit t.p t.n t.q t.m next
      onward = record {
        at = λ xs ys clock e B.
            onward_at clock (without_stale clock (puts texts xs ys)) e (M.at xs ys clock e B) t.keep refl;
      }

    pub ended : n + m ≤ 0 → (xs ys : Vehicles) (clock : ℤ) → zag limit ≡ clock -ℤ pos 900
        → Both sheet a i old b j xs ys → done (without_stale clock (puts texts xs ys))
    ended z xs ys clock e B =
        let A = M.at xs ys clock e B in
        end_at done clock (without_stale clock (puts texts xs ys)) A.behind A.xs A.ys A.joined
        (omega (arith, A.both.sheet_count, A.both.old_count)) A.so

    -- what was kept is a part of what is left in the end
    pub most : (xs ys : Vehicles) (clock : ℤ) → zag limit ≡ clock -ℤ pos 900 → Both sheet a i old b j xs ys
        → (us : Vehicles) × done us × (length us ≤ length (without_stale clock (puts texts xs ys)))
    most xs ys clock e B =
        let A = M.at xs ys clock e B in
        let rest = without_stale clock (puts texts A.xs A.ys) in
        (A.behind, A.so, omega (arith, ap length A.joined, length-append A.behind rest))
