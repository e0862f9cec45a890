-- Law. Laws of a message's body: its fields one after the other, at a boundary between two fields, and with a field
-- that a schema does not list.
use Prim.Native.Nat.{ℕ, zero, suc, ◌≤◌, ◌<◌}
use Rattle.std.specs.Prelude.{◌≡◌, Bool, length, take}
use Rattle.std.proofs.Math.Path.{refl, ap}
use Rattle.std.proofs.Common.{sym, ◌∙◌, arith, length-append, take_at}
use mathlib.Core.List.{List, [], ◌∷◌, ◌++◌}
use Rattle.std.proofs.Math.Bool.{true, false}
use Rattle.std.proofs.Math.Option.{Option, none, some, map}
use Rattle.wire.specs.Wire.{Read, broken, read, Field, field, front, many, fields}
use Rattle.wire.specs.Laws.Wire.{ReaderLaw, moves, longer, reader_field, field_nil}
use Rattle.wire.specs.Fields.{Whole}
use Rattle.basics.specs.Laws.Options.{none_some}

map_o_id : {A : Type 0} (o : Option (List A)) → map (λ l. [] ++ l) o ≡ o
map_o_id none = refl
map_o_id (some l) = refl

map_o_cons : {A : Type 0} (x : A) (xs : List A) (o : Option (List A))
    → map (λ l. x ∷ l) (map (λ l. xs ++ l) o) ≡ map (λ l. (x ∷ xs) ++ l) o
map_o_cons x xs none = refl
map_o_cons x xs (some l) = refl

module _ {A : Type 0} (p : List ℕ → Read A) (P : ReaderLaw p) (z : p [] ≡ broken) where
  front_cong : (f g : List ℕ → Option (List A)) (s : List ℕ) → ((r : List ℕ) → length r < length s → f r ≡ g r)
      → front (p s) (λ a r. map (λ l. a ∷ l) (f r)) ≡ front (p s) (λ a r. map (λ l. a ∷ l) (g r))
  front_cong f g s h = go (p s) refl
    where
      go : (o : Read A) → p s ≡ o → front o (λ a r. map (λ l. a ∷ l) (f r)) ≡
          front o (λ a r. map (λ l. a ∷ l) (g r))
      go broken e = refl
      go (read a r) e = ap (map (λ l. a ∷ l)) (h r (moves p P z s a r e))

  pub many_fuel : (f g : ℕ) (s : List ℕ) → length s ≤ f → length s ≤ g → many p f s ≡ many p g s
  unfolding many
  many_fuel zero zero [] h h' = refl
  many_fuel zero (suc g) [] h h' = refl
  many_fuel (suc f) zero [] h h' = refl
  many_fuel (suc f) (suc g) [] h h' = refl
  many_fuel zero zero (x ∷ s) h h' = absurd (omega arith)
  many_fuel zero (suc g) (x ∷ s) h h' = absurd (omega arith)
  many_fuel (suc f) zero (x ∷ s) h h' = absurd (omega arith)
  many_fuel (suc f) (suc g) (x ∷ s) h h' =
      front_cong (many p f) (many p g) (x ∷ s) (λ r l. many_fuel f g r (omega arith) (omega arith))

  -- with no fuel in sight: one, and then the others
  many_first : (s : List ℕ) (a : A) (r : List ℕ) → length r < length s → p s ≡ read a r
      → many p (length s) s ≡ map (λ l. a ∷ l) (many p (length r) r)
  unfolding many
  many_first [] a r l e = absurd (omega arith)
  many_first (x ∷ s) a r l e = rw (e, many_fuel (length s) (length r) r (omega arith) (omega arith))

  pub many_step : (s : List ℕ) (a : A) (r : List ℕ) → p s ≡ read a r
      → many p (length s) s ≡ map (λ l. a ∷ l) (many p (length r) r)
  many_step s a r e = many_first s a r (moves p P z s a r e) e

  -- at a boundary: what stands in front, and then what stands behind
  many_join : (f : ℕ) (a : List ℕ) (xs : List A) (b : List ℕ) → many p f a ≡ some xs
      → many p (length (a ++ b)) (a ++ b) ≡ map (λ l. xs ++ l) (many p (length b) b)
  unfolding many
  many_join zero [] xs b e = let h : [] ≡ xs = cc in rw (← h) (sym (map_o_id (many p (length b) b)))
  many_join (suc f) [] xs b e = let h : [] ≡ xs = cc in rw (← h) (sym (map_o_id (many p (length b) b)))
  many_join zero (x ∷ a) xs b e = none_some e
  many_join (suc f) (x ∷ a) xs b e = go (λ r ys. many_join f r ys b) (p (x ∷ a)) refl e
    where
      go₂ : (y : A) (r : List ℕ) → p (x ∷ a) ≡ read y r
          → ((ys : List A) → many p f r ≡ some ys
          → many p (length (r ++ b)) (r ++ b) ≡ map (λ l. ys ++ l) (many p (length b) b))
          → (o : Option (List A)) → many p f r ≡ o → map (λ l. y ∷ l) o ≡ some xs
          → many p (length ((x ∷ a) ++ b)) ((x ∷ a) ++ b) ≡ map (λ l. xs ++ l) (many p (length b) b)
      go₂ y r e₁ ih none e₂ e₃ = none_some e₃
      go₂ y r e₁ ih (some ys) e₂ e₃ =
          let h : y ∷ ys ≡ xs = cc in
          many_step ((x ∷ a) ++ b) y (r ++ b) (longer p P (x ∷ a) y r b e₁)
          ∙ ap (map (λ l. y ∷ l)) (ih ys e₂) ∙ map_o_cons y ys (many p (length b) b)
          ∙ ap (λ k. map (λ l. k ++ l) (many p (length b) b)) h

      go : ((r : List ℕ) (ys : List A) → many p f r ≡ some ys
          → many p (length (r ++ b)) (r ++ b) ≡ map (λ l. ys ++ l) (many p (length b) b))
          → (o : Read A) → p (x ∷ a) ≡ o → front o (λ a r. map (λ l. a ∷ l) (many p f r)) ≡ some xs
          → many p (length ((x ∷ a) ++ b)) ((x ∷ a) ++ b) ≡ map (λ l. xs ++ l) (many p (length b) b)
      go ih broken e₁ e₂ = none_some e₂
      go ih (read y r) e₁ e₂ = go₂ y r e₁ (ih r) (many p f r) refl e₂

-- One field and then the others
pub fields_step : (s : List ℕ) (x : Field) (r : List ℕ) → field 16 s ≡ read x r
    → fields s ≡ map (λ l. x ∷ l) (fields r)
unfolding fields
fields_step = many_step (field 16) (reader_field 16) (field_nil 16)

-- Where a ends at a boundary, the fields of a and b one behind the other are those of a and then those of b
pub fields_append : (a : List ℕ) (xs : List Field) (b : List ℕ) → fields a ≡ some xs
    → fields (a ++ b) ≡ map (λ l. xs ++ l) (fields b)
unfolding fields
fields_append a xs b e = many_join (field 16) (reader_field 16) (field_nil 16) (length a) a xs b e

-- A whole field in front reads as itself, and what is left is what stands behind it
pub field_front : (f : List ℕ) (x : Field) (b : List ℕ) → Whole f x → field 16 (f ++ b) ≡ read x b
field_front f x b e = longer (field 16) (reader_field 16) f x [] b e

-- No bytes are two readings: if whole fields stand in front of the same bytes, they are the same field and the same
-- is left
pub field_unique : (f g : List ℕ) (x y : Field) (a b : List ℕ) → Whole f x → Whole g y → f ++ a ≡ g ++ b
    → (x ≡ y) × (a ≡ b) × (f ≡ g)
field_unique f g x y a b e₁ e₂ h =
    let h₁ : read x a ≡ read y b = sym (field_front f x a e₁) ∙ ap (field 16) h ∙ field_front g y b e₂ in
    let ab : a ≡ b = cc in
    let l : length g ≡ length f = omega (arith, ap length h, length-append f a, length-append g b, ap length ab) in
    ((cc), ab, sym (take_at f a (length f) refl) ∙ ap (take (length f)) h ∙ take_at g b (length f) l)

-- The fields that a schema lists
abbrev pub pick_where : Bool → Field → List Field → List Field
pick_where true x l = x ∷ l
pick_where false x l = l

abbrev pub filter_listed : (ℕ → Bool) → List Field → List Field
filter_listed listed [] = []
filter_listed listed (x ∷ l) = pick_where (listed x.number) x (filter_listed listed l)

unfoldable pub listed_fields : (ℕ → Bool) → List ℕ → Option (List Field)
listed_fields listed s = map (filter_listed listed) (fields s)

filter_insert : (listed : ℕ → Bool) (xs : List Field) (x : Field) → listed x.number ≡ false
    → (o : Option (List Field))
    → map (filter_listed listed) (map (λ l. xs ++ l) (map (λ l. x ∷ l) o)) ≡
    map (filter_listed listed) (map (λ l. xs ++ l) o)
filter_insert listed xs x h none = refl
filter_insert listed xs x h (some l) = ap some (go xs)
  where
    go : (xs : List Field) → filter_listed listed (xs ++ (x ∷ l)) ≡ filter_listed listed (xs ++ l)
    go [] = rw h
    go (y ∷ xs) = ap (pick_where (listed y.number) y) (go xs)

-- THE LAW OF UNKNOWN FIELDS: a whole field that the schema does not list, put in at a boundary, changes nothing of
-- what the schema lists
pub insert_unlisted : (listed : ℕ → Bool) (a f b : List ℕ) (xs : List Field) (x : Field)
    → fields a ≡ some xs → Whole f x → listed x.number ≡ false
    → listed_fields listed (a ++ (f ++ b)) ≡ listed_fields listed (a ++ b)
unfolding listed_fields
insert_unlisted listed a f b xs x e w h =
    rw (fields_append a xs (f ++ b) e, fields_append a xs b e, fields_step (f ++ b) x b (field_front f x b w))
    (filter_insert listed xs x h (fields b))

pub fields_nil : fields [] ≡ some []
unfolding fields many
fields_nil = refl

pub fields_broken : (s : List ℕ) → 0 < length s → field 16 s ≡ broken → fields s ≡ none
unfolding fields many
fields_broken [] l e = absurd (omega arith)
fields_broken (x ∷ s) l e = rw e

-- A message is what its fields make of it, one after the other: f takes what was made so far and the next field
abbrev pub fold_fields : {B : Type 0} → (B → Field → B) → B → List Field → B
fold_fields f b [] = b
fold_fields f b (x ∷ l) = fold_fields f (f b x) l

abbrev pub made : {B : Type 0} → (B → Field → B) → B → Option (List Field) → Option B
made f b o = map (fold_fields f b) o

module _ {B : Type 0} (f : B → Field → B) where
  made_cons : (b : B) (x : Field) (o : Option (List Field)) → made f b (map (λ l. x ∷ l) o) ≡ made f (f b x) o
  made_cons b x none = refl
  made_cons b x (some l) = refl

  pub made_step : (b : B) (s : List ℕ) (x : Field) (r : List ℕ) → field 16 s ≡ read x r
      → made f b (fields s) ≡ made f (f b x) (fields r)
  made_step b s x r e = rw (fields_step s x r e) (made_cons b x (fields r))

  -- what passes over the fields that a schema does not list is made of those that it lists
  pub made_listed : (listed : ℕ → Bool) → ((b : B) (x : Field) → listed x.number ≡ false → f b x ≡ b)
      → (b : B) (s : List ℕ) → made f b (fields s) ≡ made f b (listed_fields listed s)
  unfolding listed_fields
  made_listed listed h b s = go (fields s)
    where
      one : (b : B) (x : Field) (l : List Field)
          → ((b : B) → fold_fields f b l ≡ fold_fields f b (filter_listed listed l))
          → (t : Bool) → listed x.number ≡ t
          → fold_fields f (f b x) l ≡ fold_fields f b (pick_where t x (filter_listed listed l))
      one b x l ih true e = ih (f b x)
      one b x l ih false e = rw (h b x e) (ih b)

      all : (l : List Field) (b : B) → fold_fields f b l ≡ fold_fields f b (filter_listed listed l)
      all [] b = refl
      all (x ∷ l) b = one b x l (all l) (listed x.number) refl

      go : (o : Option (List Field)) → made f b o ≡ made f b (map (filter_listed listed) o)
      go none = refl
      go (some l) = ap some (all l b)

  -- so a whole field that it does not list, put in at a boundary, makes no difference
  pub made_insert : (listed : ℕ → Bool) → ((b : B) (x : Field) → listed x.number ≡ false → f b x ≡ b)
      → (b : B) (a g c : List ℕ) (xs : List Field) (x : Field) → fields a ≡ some xs → Whole g x
      → listed x.number ≡ false
      → made f b (fields (a ++ (g ++ c))) ≡ made f b (fields (a ++ c))
  made_insert listed h b a g c xs x e w l =
      made_listed listed h b (a ++ (g ++ c)) ∙ ap (made f b) (insert_unlisted listed a g c xs x e w l)
      ∙ sym (made_listed listed h b (a ++ c))
