-- A turn of the loop of a reader that answers positions, on plain values. Assumes nothing.
use Rattle.std.specs.Prelude.{Some, None}
use Prim.Native.Nat.{ℕ, ◌+◌, ◌≤◌, ◌<◌}
use mathlib.Core.Path.{◌≡◌, refl, sym, ap, subst, ◌∙◌}
use mathlib.Core.List.{List}
use mathlib.Core.Bool.{Bool, true, false, cond}
use mathlib.Core.Option.{Option, none, some, map}
use native.Mathlib.Omega.{arith}
use lib.ListN.{length, take, drop, length-take}
use lib.Dec.{eqb}
use borrow.Author.Tests.{eq-eqb, ne_eqb}
use lib.Seq.{take-length}
use Rattle.basics.specs.Laws.Options.{none_some}
use Rattle.wire.specs.Laws.At.{key_broken}
use Rattle.wire.specs.Promises.Places.{key_at}
use Rattle.realtime.specs.Tree.{a_message, Schema, Tree, tree, sub}
use Rattle.realtime_read.specs.Laws.Passing.{Besides, beside_nothing, beside_number, beside_text, beside_message, Passed}
use Rattle.realtime_read.proofs.Turn.{at_end, key_bad}
use Rattle.realtime_read.specs.Promises.Steps.{Stepped}
use Rattle.realtime_views.specs.Laws.Fold.{Walked, walk_starts, walk_ends, walk_breaks, walk_number, walk_text}
use Rattle.realtime_views.specs.Laws.Fold.{walk_message, folded_join, inside_sub}
use Rattle.realtime_views.specs.Laws.Seeks.{sub_first, sub_none}
use Rattle.realtime_views.specs.Promises.Seeks.{Seeks}
use Rattle.realtime_views.specs.Promises.Last.{Single, taking}
use Rattle.realtime_views.specs.Promises.Fold.{inside, Takes, folded}
use Rattle.realtime_views.specs.Laws.Reading.{front_rest}
use Rattle.realtime_views.specs.Promises.Reading.{Lens, Ready, Reads}
use Rattle.realtime_views.specs.Laws.Scalars.{nothing, kept_at, along_last, Lasting}
use Rattle.realtime_views.specs.Promises.Scalars.{Slot, field_of, at, said, Lying, Lasts, scalars, kept, blank}
use Rattle.realtime_views.specs.Promises.Scalars.{own, takes_along}
use Rattle.realtime_views.specs.declared.Scalar.{Scalar}
use Rattle.realtime_views.specs.declared.Scalars.{Scalars}
use Rattle.realtime_read.specs.declared.Step.{Step}

-- the loop stands at `at` with d, and started at `from` with d₀
pub record Reading {D B : Type 0} (L : Lens D B) (φ : Takes B) (σ : Schema) (t : ℕ) (s : List ℕ) (from : ℕ) (d₀ : D)
    (at : ℕ) (d : D) : Type 0 where
  pub walked : Walked φ (L.look s d₀) σ t s from at (L.look s d)
  pub within : L.In at d
  pub inside : at ≤ length s

module _ {D B : Type 0} {L : Lens D B} {φ : Takes B} {σ : Schema} {t : ℕ} {s : List ℕ} {from : ℕ} where
  pub begins : {d : D} → Ready L s from d → Reading L φ σ t s from d from d
  begins R = record { walked = walk_starts; within = R.within; inside = R.inside }

  module _ {d₀ : D} {at : ℕ} {d : D} (R : Reading L φ σ t s from d₀ at d) where
    pub says : Stepped σ t s at Step.End → Reads L φ σ t s from d₀ d
    says S = record { made = walk_ends R.walked S; within = L.far at (length s) d R.inside R.within }

    pub stops : Stepped σ t s at Step.Broken → Reads L φ σ t s from d₀ d
    stops S = record { made = walk_breaks R.walked S; within = L.far at (length s) d R.inside R.within }

    -- a field that is taken, or passed over
    pub on_number : {f k n : ℕ} {r : D} → Stepped σ t s at (Step.Number f k n)
        → L.look s r ≡ φ.number (L.look s d) f k → (L.In n d → L.In n r) → Reading L φ σ t s from d₀ n r
    on_number {f} {k} {n} {r} S e h = record {
      walked = walk_number R.walked S e;
      within = h (L.far at n d (omega (arith, S.forward)) R.within);
      inside = S.forward.inside;
    }

    pub on_text : {f i l n : ℕ} {r : D} → Stepped σ t s at (Step.Text f i l n)
        → L.look s r ≡ φ.text (L.look s d) f (take l (drop i s)) → (i + l ≤ n → L.In n d → L.In n r)
        → Reading L φ σ t s from d₀ n r
    on_text {f} {i} {l} {n} {r} S e h = record {
      walked = walk_text R.walked S e;
      within = h (omega (arith, S.forward)) (L.far at n d (omega (arith, S.forward)) R.within);
      inside = S.forward.inside;
    }

    pub past_message : {f u i l n : ℕ} → Stepped σ t s at (Step.Message f u i l n)
        → ((m : Tree) → L.look s d ≡ φ.message (L.look s d) f m) → Reading L φ σ t s from d₀ n d
    past_message {f} {u} {i} {l} {n} S e = record {
      walked = walk_message R.walked S (λ m h. e m);
      within = L.far at n d (omega (arith, S.forward)) R.within;
      inside = S.forward.inside;
    }

    -- the message inside, in the first n bytes
    pub ready : {f u i l n : ℕ} (x : List ℕ) → Stepped σ t s at (Step.Message f u i l n) → x ≡ take n s → Ready L x i d
    ready {f} {u} {i} {l} {n} x S e = record {
      inside = omega (arith, S.forward, ap length e, length-take n s);
      within = L.far at i d (omega (arith, S.forward)) R.within;
    }

-- the messages at field j, read by a reader of their own over d
module _ {D B : Type 0} {L : Lens D B} (j : ℕ) (φ : Takes B) {σ : Schema} {t : ℕ} {s : List ℕ} {from : ℕ} {d₀ : D}
    {at : ℕ} {d : D} (R : Reading L (inside j φ) σ t s from d₀ at d) where
  pub taken : {f u i l n : ℕ} {r : D} (x : List ℕ) → Stepped σ t s at (Step.Message f u i l n) → f ≡ j → x ≡ take n s
      → Reads L φ σ u x i d r
      → Reading L (inside j φ) σ t s from d₀ n r
  taken {f} {u} {i} {l} {n} {r} x S h e Q =
      let N : n ≤ length s = S.forward.inside in
      let Z : length x ≡ n = ap length e ∙ length-take n s ∙ omega arith in
      let Wr : L.In n r = subst (λ k. L.In k r) Z Q.within in
      let Wd : L.In n d = L.far at n d (omega (arith, S.forward)) R.within in
      let vd : L.look x d ≡ L.look s d = ap (λ y. L.look y d) e ∙ L.front s n d N Wd in
      let vr : L.look x r ≡ L.look s r = ap (λ y. L.look y r) e ∙ L.front s n r N Wr in
      let b : drop i x ≡ take l (drop i s) = ap (drop i) e ∙ front_rest s n i l S.forward.ends N in
      record {
        walked = walk_message R.walked S (λ m q.
            sym vr ∙ Q.made.of m (ap (tree σ u) b ∙ q) ∙ ap (λ v. folded φ v m) vd
            ∙ ap (λ c. cond c (folded φ (L.look s d) m) (L.look s d)) (sym (eq-eqb f j h)));
        within = Wr;
        inside = N;
      }

  pub passed : {f u i l n : ℕ} → Stepped σ t s at (Step.Message f u i l n) → (f ≡ j → ⊥)
      → Reading L (inside j φ) σ t s from d₀ n d
  passed {f} {u} {i} {l} {n} S h =
      past_message R S (λ m. ap (λ c. cond c (folded φ (L.look s d) m) (L.look s d)) (sym (ne_eqb f j h)))

-- a field that says nothing to what is made
pub record Skips {B : Type 0} (φ : Takes B) (f : ℕ) : Type 0 where
  pub number : (v : B) (n : ℕ) → φ.number v f n ≡ v
  pub text : (v : B) (x : List ℕ) → φ.text v f x ≡ v
  pub message : (v : B) (m : Tree) → φ.message v f m ≡ v

pub taking_skips : {B : Type 0} (o : Single B) {f : ℕ} → (f ≡ o.field → ⊥) → Skips (taking o) f
taking_skips o {f} h =
    let e = ne_eqb f o.field h in
    record {
      number = λ v n. ap (λ b. cond b (o.number n) v) e;
      text = λ v x. ap (λ b. cond b (o.text x) v) e;
      message = λ v m. refl;
    }

pub inside_skips : {B : Type 0} (j : ℕ) (φ : Takes B) {f : ℕ} → (f ≡ j → ⊥) → Skips (inside j φ) f
inside_skips j φ {f} h = record {
  number = λ v n. refl;
  text = λ v x. refl;
  message = λ v m. ap (λ b. cond b (folded φ v m) v) (ne_eqb f j h);
}

besides_folded : {B : Type 0} {φ : Takes B} {f : ℕ} {m y : Tree} → Skips φ f → Besides f m y → (v : B)
    → folded φ v m ≡ folded φ v y
besides_folded {φ = φ} K (beside_nothing e) v = ap (folded φ v) e
besides_folded {φ = φ} {y = y} K (beside_number n e) v = ap (folded φ v) e ∙ ap (λ w. folded φ w y) (K.number v n)
besides_folded {φ = φ} {y = y} K (beside_text x e) v = ap (folded φ v) e ∙ ap (λ w. folded φ w y) (K.text v x)
besides_folded {φ = φ} {y = y} K (beside_message u x e) v = ap (folded φ v) e ∙ ap (λ w. folded φ w y) (K.message v x)

-- loops that go by the wire type of a field: it is passed, or the bytes are broken, or they end
module _ {D B : Type 0} {L : Lens D B} {φ : Takes B} {σ : Schema} {t : ℕ} {s : List ℕ} {from : ℕ} {d₀ : D} {at : ℕ}
    {d : D} (R : Reading L φ σ t s from d₀ at d) where
  pub passes_on : {f n : ℕ} → Passed σ t s at f n → Skips φ f → Reading L φ σ t s from d₀ n d
  passes_on {f} {n} P K = record {
    walked = record { whole = λ m e. go (tree σ t (drop at s)) refl m (R.walked.whole m e) };
    within = L.far at n d (omega (arith, P.ahead)) R.within;
    inside = P.inside;
  }
    where
      go : (o : Option Tree) → tree σ t (drop at s) ≡ o → (m : Tree)
          → map (folded φ (L.look s d)) o ≡ some (folded φ (L.look s d₀) m)
          → map (folded φ (L.look s d)) (tree σ t (drop n s)) ≡ some (folded φ (L.look s d₀) m)
      go none e m h = none_some h
      go (some x) e m h =
          let (y, q, b) = P.of x e in
          ap (map (folded φ (L.look s d))) q ∙ ap some (sym (besides_folded K b (L.look s d))) ∙ h

  pub breaks_off : tree σ t (drop at s) ≡ none → Reads L φ σ t s from d₀ d
  breaks_off e = stops R (record { same = e; forward = tt; typed = tt })

  pub key_breaks : at < length s → None ≡ key_at s at → Reads L φ σ t s from d₀ d
  key_breaks h e = stops R (key_bad refl h (key_broken s at e))

  pub comes_to_end : length s ≤ at → Reads L φ σ t s from d₀ d
  comes_to_end h = says R (at_end refl h)

-- the messages at field j, found one after the other and read by a reader of their own over d
pub sought_ready : {D B : Type 0} (L : Lens D B) {σ : Schema} {j : ℕ} {s : List ℕ} {at i l n : ℕ} {d : D} (x : List ℕ)
    → Seeks σ j s at (Some (i, l, n)) → x ≡ take n s → L.In at d → Ready L x i d
sought_ready L {s = s} {at = at} {i = i} {n = n} {d = d} x S e W = record {
  inside = omega (arith, S.lying, ap length e, length-take n s);
  within = L.far at i d (omega (arith, S.lying)) W;
}

module _ {D B : Type 0} {L : Lens D B} (j : ℕ) (φ : Takes B) {σ : Schema} {t u : ℕ} {s : List ℕ} {from : ℕ} {d₀ : D}
    {at : ℕ} {d : D} (R : Reading L (inside j φ) σ t s from d₀ at d) (H : σ t j ≡ some (a_message u)) where
  -- with the tree that is left in view
  left_is : {P : Type 0} (m : Tree) → tree σ t (drop from s) ≡ some m
      → ((y : Tree) → tree σ t (drop at s) ≡ some y
      → folded φ (L.look s d) (sub j y) ≡ folded (inside j φ) (L.look s d₀) m → P) → P
  left_is {P} m e p = go (tree σ t (drop at s)) refl (R.walked.whole m e)
    where
      go : (o : Option Tree) → tree σ t (drop at s) ≡ o
          → map (folded (inside j φ) (L.look s d)) o ≡ some (folded (inside j φ) (L.look s d₀) m) → P
      go none q h = none_some h
      go (some y) q h = p y q (sym (inside_sub j φ (L.look s d) y) ∙ cc)

  pub sought_ends : Seeks σ j s at None → Reads L (inside j φ) σ t s from d₀ d
  sought_ends S = record {
    made = record {
      of = λ m e. left_is m e (λ y q h.
          sym (ap (folded φ (L.look s d)) (sub_none j y (S.of t u (λ z. H) y q))) ∙ h);
    };
    within = L.far at (length s) d R.inside R.within;
  }

  pub sought_on : {i l n : ℕ} {r : D} (x : List ℕ) → Seeks σ j s at (Some (i, l, n)) → x ≡ take n s
      → Reads L φ σ u x i d r → Reading L (inside j φ) σ t s from d₀ n r
  sought_on {i} {l} {n} {r} x S e Q =
      let N : n ≤ length s = S.lying.inside in
      let Z : length x ≡ n = ap length e ∙ length-take n s ∙ omega arith in
      let Wr : L.In n r = subst (λ k. L.In k r) Z Q.within in
      let Wd : L.In n d = L.far at n d (omega (arith, S.lying)) R.within in
      let vd : L.look x d ≡ L.look s d = ap (λ y. L.look y d) e ∙ L.front s n d N Wd in
      let vr : L.look x r ≡ L.look s r = ap (λ y. L.look y r) e ∙ L.front s n r N Wr in
      let b : drop i x ≡ take l (drop i s) = ap (drop i) e ∙ front_rest s n i l S.lying.ends N in
      record {
        walked = record {
          whole = λ m q. left_is m q (λ y p h.
              let (c, z, f, g, k) = S.of t u (λ o. H) y p in
              let v : L.look s r ≡ folded φ (L.look s d) c =
              sym vr ∙ Q.made.of c (ap (tree σ u) b ∙ g) ∙ ap (λ w. folded φ w c) vd in
              ap (map (folded (inside j φ) (L.look s r))) k
              ∙ ap some
              (inside_sub j φ (L.look s r) z ∙ ap (λ w. folded φ w (sub j z)) v
              ∙ sym (folded_join φ (L.look s d) c (sub j z))
              ∙ sym (ap (folded φ (L.look s d)) (sub_first j y c z f)) ∙ h));
        };
        within = Wr;
        inside = N;
      }

-- a scalar is kept at its field
said_cond : (s : List ℕ) (b : Bool) (x y : Scalar) → said s (cond b x y) ≡ cond b (said s x) (said s y)
said_cond s true x y = refl
said_cond s false x y = refl

lying_cond : (n : ℕ) (b : Bool) (x y : Scalar) → Lying n x → Lying n y → Lying n (cond b x y)
lying_cond n true x y h h' = h
lying_cond n false x y h h' = h'

kept_look : (s : List ℕ) (d : Scalars) (f : ℕ) (x : Scalar)
    → ◌≡◌ {A = Lasts} (λ i. said s (at (kept d f x) i)) (λ i. cond (eqb f (field_of i)) (said s x) (said s (at d i)))
kept_look s d f x = λ j i. (ap (said s) (kept_at d f x i) ∙ said_cond s (eqb f (field_of i)) x (at d i)) j

kept_within : (n : ℕ) (d : Scalars) (f : ℕ) (x : Scalar) → Lying n x → ((i : Slot) → Lying n (at d i)) → (i : Slot)
    → Lying n (at (kept d f x) i)
kept_within n d f x h W i =
    subst (Lying n) (sym (kept_at d f x i)) (lying_cond n (eqb f (field_of i)) x (at d i) h (W i))

module _ {σ : Schema} {t : ℕ} {s : List ℕ} {from : ℕ} {d₀ : Scalars} {at₀ : ℕ} {d : Scalars}
    (R : Reading scalars own σ t s from d₀ at₀ d) where
  pub keep_number : {f k n : ℕ} {r : Scalars} → Stepped σ t s at₀ (Step.Number f k n) → r ≡ kept d f (Scalar.Number k)
      → Reading scalars own σ t s from d₀ n r
  keep_number {f} {k} {n} {r} S e =
      on_number R S (ap (scalars.look s) e ∙ kept_look s d f (Scalar.Number k))
      (λ W. subst (scalars.In n) (sym e) (kept_within n d f (Scalar.Number k) tt W))

  pub keep_text : {f i l n : ℕ} {r : Scalars} → Stepped σ t s at₀ (Step.Text f i l n) → r ≡ kept d f (Scalar.Text i l)
      → Reading scalars own σ t s from d₀ n r
  keep_text {f} {i} {l} {n} {r} S e =
      on_text R S (ap (scalars.look s) e ∙ kept_look s d f (Scalar.Text i l))
      (λ h W. subst (scalars.In n) (sym e) (kept_within n d f (Scalar.Text i l) h W))

-- from nothing on
pub blank_start : (s : List ℕ) (i : ℕ) → i ≤ length s → Ready scalars s i blank
blank_start s i h = record { inside = h; within = λ k. go k }
  where
    go : (k : Slot) → Lying i (at blank k)
    go Slot.one = tt
    go Slot.two = tt
    go Slot.three = tt
    go Slot.four = tt
    go Slot.five = tt
    go Slot.six = tt

blank_nothing : (s : List ℕ) → ◌≡◌ {A = Lasts} (λ i. said s (at blank i)) nothing
blank_nothing s = λ j i. go i j
  where
    go : (k : Slot) → said s (at blank k) ≡ none
    go Slot.one = refl
    go Slot.two = refl
    go Slot.three = refl
    go Slot.four = refl
    go Slot.five = refl
    go Slot.six = refl

pub lasting : {σ : Schema} {t : ℕ} {s x : List ℕ} {i l : ℕ} {d r : Scalars} (ps : List ℕ) → i + l ≤ length s
    → x ≡ take (i + l) s → d ≡ blank
    → Reads scalars (takes_along ps) σ t x i d r → Lasting σ t s i l ps r
lasting {σ} {t} {s} {x} {i} {l} {d} {r} ps h e b Q =
    let Z : length x ≡ i + l = ap length e ∙ length-take (i + l) s ∙ omega arith in
    let W : scalars.In (i + l) r = subst (λ k. scalars.In k r) Z Q.within in
    let v : scalars.look x r ≡ scalars.look s r = ap (λ y. scalars.look y r) e ∙ scalars.front s (i + l) r h W in
    let p : drop i x ≡ take l (drop i s) = ap (drop i) e ∙ front_rest s (i + l) i l refl h in
    record {
      of = λ m q k. ap (λ f. f k)
          (sym v ∙ Q.made.of m (ap (tree σ t) p ∙ q)
          ∙ ap (λ o. folded (takes_along ps) o m) (ap (scalars.look x) b ∙ blank_nothing x) ∙ along_last ps m);
      within = scalars.far (i + l) (length s) r h W;
    }

pub lasting_whole : {σ : Schema} {t : ℕ} (s : List ℕ) {d r : Scalars} (ps : List ℕ) → d ≡ blank
    → Reads scalars (takes_along ps) σ t s 0 d r → Lasting σ t s 0 (length s) ps r
lasting_whole s ps b Q =
    let z : 0 + length s ≡ length s = omega arith in
    lasting ps (omega arith) (sym (ap (λ n. take n s) z ∙ take-length s)) b Q
