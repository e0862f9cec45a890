-- Law. The law that joins a reader and a writer, what is written is read back, and what is read was written; put
-- together as they are.
use Rattle.std.specs.Prelude.{◌≡◌, refl, List, [], ◌∷◌, ◌++◌, ◌⊎◌, Bool, true, false, cond, ℕ, zero, suc, length, leb, eqb}
use Rattle.std.proofs.Common.{sym, ap, ◌∙◌, subst, append_assoc, inl, inr, ⊎_elim, arith, length-append, take-append-drop, length-take-le, le-leb, leb-true, eqb-true, eq-eqb}
use Rattle.std.proofs.Math.Option.{Option, none, some}
use Rattle.std.proofs.Math.Seq.{take-append_seam, drop-append_seam}
use Rattle.formats.specs.Readers.{Reader, bind, pair_w, pair_r, map_r, only_r, const_r, choice_w, choice_r, choice_ok}
use Rattle.formats.specs.Readers.{bytes_r, many_w, many_r, counted_r}
use Rattle.basics.specs.Lists.{All}
use Rattle.basics.specs.Laws.Lists.{headed}
use Rattle.basics.specs.Laws.Options.{none_some}

pub record Law {A : Type 0} (w : A → List ℕ) (r : Reader A) (ok : A → Type 0) : Type 0 where
  pub there : (v : A) (rest : List ℕ) → ok v → r (w v ++ rest) ≡ some (v, rest)
  pub back : (s : List ℕ) (v : A) (rest : List ℕ) → r s ≡ some (v, rest) → (s ≡ w v ++ rest) × ok v

pub bind_some : {A B : Type 0} (o : Option (A × List ℕ)) (k : A → List ℕ → Option (B × List ℕ)) (q : B × List ℕ)
    → bind o k ≡ some q → (p : A × List ℕ) × (o ≡ some p) × (k p.0 p.1 ≡ some q)
bind_some none k q e = none_some e
bind_some (some p) k q e = (p, refl, e)

pub cond_some : {A : Type 0} (t : Bool) (x y z : A) → cond t x y ≡ z → ((t ≡ true) × (x ≡ z)) ⊎ ((t ≡ false) × (y ≡ z))
cond_some true x y z e = inl (refl, e)
cond_some false x y z e = inr (refl, e)

unsome : {A : Type 0} {a b : A} → some a ≡ some b → a ≡ b
unsome {a} {b} e = cc

-- what holds of what was found holds of what the outcome says
pub found : {A : Type 0} {x v : A} {t rest : List ℕ} (P : A → List ℕ → Type 0)
    → ◌≡◌ {A = Option (A × List ℕ)} (some (x, t)) (some (v, rest)) → P x t → P v rest
found {A} P e p = subst (λ (q : A × List ℕ). P q.0 q.1) (unsome e) p

-- nothing at all
pub empty_law : Law {A = Unit {0}} (λ v. []) (λ s. some (tt, s)) (λ v. Unit {0})
empty_law = record {
  there = λ v rest ok. refl;
  back = λ s v rest e. found (λ v rest. (s ≡ [] ++ rest) × Unit {0}) e (refl, tt);
}

module _ {A B : Type 0} {wa : A → List ℕ} {wb : B → List ℕ} {ra : Reader A} {rb : Reader B} {oka : A → Type 0}
    {okb : B → Type 0}
    (la : Law wa ra oka) (lb : Law wb rb okb) where
  pair_there : (v : A × B) (rest : List ℕ) → (oka v.0 × okb v.1)
      → pair_r ra rb (pair_w wa wb v ++ rest) ≡ some (v, rest)
  pair_there v rest ok =
      rw (append_assoc, la.there v.0 (wb v.1 ++ rest) ok.0, lb.there v.1 rest ok.1) refl

  pair_back : (s : List ℕ) (v : A × B) (rest : List ℕ) → pair_r ra rb s ≡ some (v, rest)
      → (s ≡ pair_w wa wb v ++ rest) × (oka v.0 × okb v.1)
  pair_back s v rest e =
      let (p, ea, e') = bind_some (ra s) _ _ e in
      let (q, eb, e'') = bind_some (rb p.1) _ _ e' in
      let ha = la.back s p.0 p.1 ea in
      let hb = lb.back p.1 q.0 q.1 eb in
      found (λ v rest. (s ≡ pair_w wa wb v ++ rest) × (oka v.0 × okb v.1)) e''
      (rw append_assoc (ha.0 ∙ ap (λ l. wa p.0 ++ l) hb.0), (ha.1, hb.1))

  pub pair_law : Law (pair_w wa wb) (pair_r ra rb) (λ v. oka v.0 × okb v.1)
  pair_law = record { there = pair_there; back = pair_back }

module _ {A B : Type 0} {w : A → List ℕ} {r : Reader A} {ok : A → Type 0} (to : A → B) (from : B → A)
    (left : (b : B) → to (from b) ≡ b) (right : (a : A) → from (to a) ≡ a) (l : Law w r ok) where
  map_there : (v : B) (rest : List ℕ) → ok (from v) → map_r to r (w (from v) ++ rest) ≡ some (v, rest)
  map_there v rest h = rw (l.there (from v) rest h, left v) refl

  map_back : (s : List ℕ) (v : B) (rest : List ℕ) → map_r to r s ≡ some (v, rest)
      → (s ≡ w (from v) ++ rest) × ok (from v)
  map_back s v rest e =
      let (p, ea, e') = bind_some (r s) _ _ e in
      found (λ v rest. (s ≡ w (from v) ++ rest) × ok (from v)) e' (rw right (l.back s p.0 p.1 ea))

  pub map_law : Law (λ v. w (from v)) (map_r to r) (λ v. ok (from v))
  map_law = record { there = map_there; back = map_back }

module _ {A : Type 0} {w : A → List ℕ} {r : Reader A} {ok : A → Type 0} (test : A → Bool) (l : Law w r ok) where
  only_there : (v : A) (rest : List ℕ) → (ok v × (test v ≡ true)) → only_r test r (w v ++ rest) ≡ some (v, rest)
  only_there v rest h = rw (l.there v rest h.0, h.1) refl

  only_back : (s : List ℕ) (v : A) (rest : List ℕ) → only_r test r s ≡ some (v, rest)
      → (s ≡ w v ++ rest) × (ok v × (test v ≡ true))
  only_back s v rest e =
      let (p, ea, e') = bind_some (r s) _ _ e in
      let ha = l.back s p.0 p.1 ea in
      ⊎_elim (λ h. found (λ v rest. (s ≡ w v ++ rest) × (ok v × (test v ≡ true))) h.1 (ha.0, (ha.1, h.0)))
      (λ h. none_some h.1) (cond_some (test p.0) _ _ _ e')

  pub only_law : Law w (only_r test r) (λ v. ok v × (test v ≡ true))
  only_law = record { there = only_there; back = only_back }

const_there : (c : ℕ) (v : Unit {0}) (rest : List ℕ) → Unit {0} → const_r c ((c ∷ []) ++ rest) ≡ some (v, rest)
const_there c v rest h = rw (eq-eqb c c refl) refl

const_back : (c : ℕ) (s : List ℕ) (v : Unit {0}) (rest : List ℕ) → const_r c s ≡ some (v, rest)
    → (s ≡ (c ∷ []) ++ rest) × Unit {0}
const_back c [] v rest e = none_some e
const_back c (b ∷ s) v rest e =
    ⊎_elim (λ h. found (λ v rest. (b ∷ s ≡ (c ∷ []) ++ rest) × Unit {0}) h.1 (rw (eqb-true b c h.0) refl, tt))
    (λ h. none_some h.1) (cond_some (eqb b c) _ _ _ e)

pub const_law : (c : ℕ) → Law (λ v. c ∷ []) (const_r c) (λ v. Unit {0})
const_law c = record { there = const_there c; back = const_back c }

module _ {A B : Type 0} {wa : A → List ℕ} {wb : B → List ℕ} {ra : Reader A} {rb : Reader B} {oka : A → Type 0}
    {okb : B → Type 0}
    (la : Law wa ra oka) (lb : Law wb rb okb) where
  choice_there : (v : A ⊎ B) (rest : List ℕ) → choice_ok oka okb v
      → choice_r ra rb (choice_w wa wb v ++ rest) ≡ some (v, rest)
  choice_there (inl a) rest ok = rw (la.there a rest ok) refl
  choice_there (inr b) rest ok = rw (lb.there b rest ok) refl

  choice_back : (s : List ℕ) (v : A ⊎ B) (rest : List ℕ) → choice_r ra rb s ≡ some (v, rest)
      → (s ≡ choice_w wa wb v ++ rest) × choice_ok oka okb v
  choice_back [] v rest e = none_some e
  choice_back (c ∷ s) v rest e =
      let P : A ⊎ B → List ℕ → Type 0 = λ v rest. (c ∷ s ≡ choice_w wa wb v ++ rest) × choice_ok oka okb v in
      ⊎_elim
      (λ h.
      let (p, ea, e') = bind_some (ra s) _ _ h.1 in
      let ha = la.back s p.0 p.1 ea in
      found P e' (headed (eqb-true c 0 h.0) ha.0, ha.1))
      (λ h. ⊎_elim
      (λ k.
      let (p, eb, e') = bind_some (rb s) _ _ k.1 in
      let hb = lb.back s p.0 p.1 eb in
      found P e' (headed (eqb-true c 1 k.0) hb.0, hb.1))
      (λ k. none_some k.1) (cond_some (eqb c 1) _ _ _ h.1))
      (cond_some (eqb c 0) _ _ _ e)

  pub choice_law : Law (choice_w wa wb) (choice_r ra rb) (choice_ok oka okb)
  choice_law = record { there = choice_there; back = choice_back }

bytes_there : (n : ℕ) (v rest : List ℕ) → length v ≡ n → bytes_r n (v ++ rest) ≡ some (v, rest)
bytes_there n v rest h =
    rw (
      ← h,
      le-leb (length v) (length (v ++ rest)) (omega (arith, length-append v rest)),
      take-append_seam,
      drop-append_seam,
    ) refl

bytes_back : (n : ℕ) (s v rest : List ℕ) → bytes_r n s ≡ some (v, rest) → (s ≡ v ++ rest) × (length v ≡ n)
bytes_back n s v rest e =
    ⊎_elim
    (λ h. found (λ v rest. (s ≡ v ++ rest) × (length v ≡ n)) h.1
    (sym (take-append-drop n s), length-take-le n s (leb-true n (length s) h.0)))
    (λ h. none_some h.1) (cond_some (leb n (length s)) _ _ _ e)

pub bytes_law : (n : ℕ) → Law (λ v. v) (bytes_r n) (λ v. length v ≡ n)
bytes_law n = record { there = bytes_there n; back = bytes_back n }

module _ {A : Type 0} {w : A → List ℕ} {r : Reader A} {ok : A → Type 0} (l : Law w r ok) where
  many_there : (n : ℕ) (v : List A) (rest : List ℕ) → ((length v ≡ n) × All ok v)
      → many_r r n (many_w w v ++ rest) ≡ some (v, rest)
  many_there zero [] rest h = refl
  many_there zero (a ∷ v) rest h = absurd (omega (arith, h.0))
  many_there (suc n) [] rest h = absurd (omega (arith, h.0))
  many_there (suc n) (a ∷ v) rest h =
      rw (append_assoc, l.there a (many_w w v ++ rest) h.1.0, many_there n v rest (omega (arith, h.0), h.1.1))
      refl

  many_back : (n : ℕ) (s : List ℕ) (v : List A) (rest : List ℕ) → many_r r n s ≡ some (v, rest)
      → (s ≡ many_w w v ++ rest) × ((length v ≡ n) × All ok v)
  many_back zero s v rest e =
      found (λ v rest. (s ≡ many_w w v ++ rest) × ((length v ≡ 0) × All ok v)) e (refl, (refl, tt))
  many_back (suc n) s v rest e =
      let (p, ea, e') = bind_some (r s) _ _ e in
      let (q, eb, e'') = bind_some (many_r r n p.1) _ _ e' in
      let ha = l.back s p.0 p.1 ea in
      let hb = many_back n p.1 q.0 q.1 eb in
      found (λ v rest. (s ≡ many_w w v ++ rest) × ((length v ≡ suc n) × All ok v)) e''
      (rw append_assoc (ha.0 ∙ ap (λ l. w p.0 ++ l) hb.0), (ap suc hb.1.0, (ha.1, hb.1.1)))

  pub many_law : (n : ℕ) → Law (many_w w) (many_r r n) (λ v. (length v ≡ n) × All ok v)
  many_law n = record { there = many_there n; back = many_back n }

module _ {A : Type 0} {wn : ℕ → List ℕ} {rn : Reader ℕ} {okn : ℕ → Type 0} (ln : Law wn rn okn)
    {w : A → List ℕ} {r : ℕ → Reader A} {ok : A → Type 0} (size : A → ℕ)
    (l : (n : ℕ) → Law w (r n) (λ v. (size v ≡ n) × ok v)) where
  counted_there : (v : A) (rest : List ℕ) → (okn (size v) × ok v)
      → counted_r rn r ((wn (size v) ++ w v) ++ rest) ≡ some (v, rest)
  counted_there v rest h =
      rw (append_assoc, ln.there (size v) (w v ++ rest) h.0, (l (size v)).there v rest (refl, h.1)) refl

  counted_back : (s : List ℕ) (v : A) (rest : List ℕ) → counted_r rn r s ≡ some (v, rest)
      → (s ≡ (wn (size v) ++ w v) ++ rest) × (okn (size v) × ok v)
  counted_back s v rest e =
      let (p, ea, e') = bind_some (rn s) _ _ e in
      let ha = ln.back s p.0 p.1 ea in
      let hb = (l p.0).back p.1 v rest e' in
      (rw (hb.1.0, append_assoc) (ha.0 ∙ ap (λ l. wn p.0 ++ l) hb.0), (rw hb.1.0 ha.1, hb.1.1))

  pub counted_law : Law (λ v. wn (size v) ++ w v) (counted_r rn r) (λ v. okn (size v) × ok v)
  counted_law = record { there = counted_there; back = counted_back }
