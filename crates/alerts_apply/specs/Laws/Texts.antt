-- Law. The texts of an alert at a place, as its bytes say them.
use Rattle.std.specs.Prelude.{◌≡◌, refl, List, [], ◌∷◌, Bool, true, false, cond, not, ℕ, zero, suc, ◌+◌, ◌-◌, ◌≤◌, ◌<◌, ltb, eqb, length, get_or, take, drop}
use Rattle.std.proofs.Common.{sym, ap, ◌∙◌, arith, take-take, lt-ltb, le-ltb, ltb-true, ltb-false, eqb-true}
use Rattle.std.proofs.Math.Seq.{slice, length-slice}
use Rattle.std.proofs.lemmas.Bool.{eqb-false, not-true, not-false}
use Rattle.basics.specs.Options.{Maybe}
use Rattle.formats.specs.Class as Class
use Rattle.formats.specs.Format.{text, optional}
use Rattle.formats.specs.Promises.Outcome.{tag_at}
use Rattle.formats_write.specs.Laws.Slices.{slice_is}
use Rattle.formats_read.specs.Promises.Here.{Here}
use Rattle.formats_read.specs.Promises.Reads.{ReadsText}
use Rattle.formats_read.specs.Laws.Here.{halves, choice_in, first, second}
use Rattle.formats_skip.specs.Promises.Passes.{Passes}
use Rattle.formats_skip.specs.Laws.Leads.{lead_field, lead_here, lead_optional_text}
use Rattle.alerts.specs.Alert.{alert, Alert, header, description, cause, is_given, or_empty_text}
use Rattle.alerts.specs.Label.{continues, characters, label_of}
use Rattle.alerts.specs.Promises.Label.{Ends}
use Rattle.alerts_text.specs.Promises.Blob.{road_of, Answered}
use Rattle.alerts_text.specs.Promises.Marked.{Roomy}
use Rattle.alerts_text.specs.Laws.Blob.{road_alert}
use Rattle.alerts_apply.specs.Promises.Texts.{Shown, Given, Labelled, Road}

-- ---- an optional text

no_bytes : (s : List ℕ) → slice 0 0 s ≡ []
no_bytes s = refl

-- the byte in front of it
tag_is : (s : List ℕ) (p : ℕ) → p < length s → tag_at s p ≡ get_or s p 0
tag_is s p h = rw (lt-ltb p (length s) h) refl

module _ {s : List ℕ} {p : ℕ} where
  pub shown_out : length s ≤ p → Shown s p 0 0
  shown_out h = record {
    is = λ {v = v} x. absurd (omega (arith, choice_in v x));
    forward = omega arith;
    within = omega arith;
  }

  pub shown_some : {a e : ℕ} → p < length s → get_or s p 0 ≡ 1 → ReadsText s (p + 1) a e → Shown s p a e
  shown_some h t T = record {
    is = λ {v = v} x. let S = second v x (tag_is s p h ∙ t) in T.bytes S.stands ∙ sym (ap or_empty_text S.is);
    forward = T.forward;
    within = T.within;
  }

  pub shown_none : p < length s → (get_or s p 0 ≡ 1 → ⊥) → Shown s p 0 0
  shown_none h t = record {
    is = λ {v = v} x. let F = first v x (λ z. t (sym (tag_is s p h) ∙ z)) in no_bytes s ∙ sym (ap or_empty_text F.is);
    forward = omega arith;
    within = omega arith;
  }

  pub given_out : length s ≤ p → Given s p false
  given_out h = record { is = λ {v = v} x. absurd (omega (arith, choice_in v x)) }

  pub given_tag : p < length s → Given s p (eqb (get_or s p 0) 1)
  given_tag h = record { is = λ {v = v} x. go v x (eqb (get_or s p 0) 1) refl }
    where
      go : {l : ℕ} {c : Class.Class} (v : Maybe (List ℕ)) {q : ℕ} → Here (optional (text l c)) s p q v → (t : Bool)
          → eqb (get_or s p 0) 1 ≡ t → t ≡ is_given v
      go v x true e = sym (ap is_given (second v x (tag_is s p h ∙ eqb-true (get_or s p 0) 1 e)).is)
      go v x false e = sym (ap is_given (first v x (λ z. eqb-false (get_or s p 0) 1 e (sym (tag_is s p h) ∙ z))).is)

-- ---- the alert's: the header stands in front, the description behind it, then the cause

module _ {s : List ℕ} {p : ℕ} where
  pub of_header : {a e : ℕ} → Shown s p a e → {v : Alert} {q : ℕ} → Here alert s p q v
      → slice a e s ≡ or_empty_text (header v)
  of_header S h = S.is (halves h).first

  pub of_description : {m a e : ℕ} → Passes (optional (text 0 Class.any)) s p m → Shown s m a e → {v : Alert} {q : ℕ}
      → Here alert s p q v → slice a e s ≡ or_empty_text (description v)
  of_description P S h = S.is (halves (lead_field (lead_optional_text 0 lead_here P) tt h).here).first

  pub of_cause : {m n a e : ℕ} → Passes (optional (text 0 Class.any)) s p m → Passes (optional (text 0 Class.any)) s m n
      → Shown s n a e → {v : Alert} {q : ℕ} → Here alert s p q v → slice a e s ≡ or_empty_text (cause v)
  of_cause P Q S h =
      let L = lead_optional_text 1 (lead_optional_text 0 lead_here Q) P in
      S.is (halves (lead_field L tt h).here).first

-- how long a part is
part_length : (s : List ℕ) (a e : ℕ) → a ≤ e → e ≤ length s → length (take (e - a) (drop a s)) ≡ e - a
part_length s a e h k = ap length (slice_is a e s h k) ∙ length-slice a e s k

-- ---- the label

-- the first characters of a text are its front
front_taken : (n : ℕ) (s : List ℕ) → take (length (characters n s)) s ≡ characters n s
front_taken zero [] = refl
front_taken (suc n) [] = refl
front_taken zero (b ∷ s) = go (continues b) (front_taken zero s)
  where
    go : (t : Bool) → take (length (characters zero s)) s ≡ characters zero s
        → take (length (cond t (b ∷ characters zero s) [])) (b ∷ s) ≡ cond t (b ∷ characters zero s) []
    go true h = ap (λ l. b ∷ l) h
    go false h = refl
front_taken (suc n) (b ∷ s) = ap (λ l. b ∷ l) (front_taken (cond (continues b) (suc n) n) s)

front_short : (n : ℕ) (s : List ℕ) → length (characters n s) ≤ length s
front_short zero [] = omega arith
front_short (suc n) [] = omega arith
front_short zero (b ∷ s) = go (continues b) (front_short zero s)
  where
    go : (t : Bool) → length (characters zero s) ≤ length s
        → length (cond t (b ∷ characters zero s) []) ≤ length (b ∷ s)
    go true h = omega (arith, h)
    go false h = omega arith
front_short (suc n) (b ∷ s) = omega (arith, front_short (cond (continues b) (suc n) n) s)

characters_front : (n : ℕ) (s : List ℕ) → Ends s n (length (characters n s))
characters_front n s = record { within = front_short n s; taken = front_taken n s }

module _ {s : List ℕ} {p : ℕ} where
  at_header : {a e : ℕ} {t : Bool} → Given s p t → t ≡ true → Shown s p a e → Labelled s p a e
  at_header G f S = record {
    is = λ {v} h.
        let g : is_given (header v) ≡ true = sym (G.is (halves h).first) ∙ f in
        of_header S h ∙ sym (ap (λ b. label_of b (or_empty_text (header v)) (or_empty_text (description v))) g);
    forward = S.forward;
    within = S.within;
  }

  -- l is the label, of a header that stands from a up to e and of the text d
  pub label_header : (a e : ℕ) (d l : List ℕ) {t : Bool} → Given s p t → t ≡ true → Shown s p a e
      → l ≡ label_of t (take (e - a) (drop a s)) d → Labelled s p a (a + length l)
  label_header a e d l G f S i =
      let b = take (e - a) (drop a s) in
      let n : length l ≡ e - a =
      ap length (i ∙ ap (λ t. label_of t b d) f) ∙ part_length s a e S.forward S.within in
      let z : a + length l ≡ e = omega (arith, n, S.forward) in
      rw z (at_header G f S)

  at_description : {m a e n : ℕ} {t : Bool} → Given s p t → t ≡ false
      → Passes (optional (text 0 Class.any)) s p m → Shown s m a e → Ends (take (e - a) (drop a s)) 120 n
      → Labelled s p a (a + n)
  at_description {m} {a} {e} {n} G f P S E = record {
    is = λ {v} h.
        let g : is_given (header v) ≡ false = sym (G.is (halves h).first) ∙ f in
        let b : take (e - a) (drop a s) ≡ or_empty_text (description v) =
        slice_is a e s S.forward S.within ∙ of_description P S h in
        front S.forward S.within E.within ∙ E.taken ∙ ap (characters 120) b
        ∙ sym (ap (λ b. label_of b (or_empty_text (header v)) (or_empty_text (description v))) g);
    forward = omega arith;
    within = inside S.forward S.within E.within;
  }
    where
      inside : a ≤ e → e ≤ length s → n ≤ length (take (e - a) (drop a s)) → a + n ≤ length s
      inside h k l = omega (arith, part_length s a e h k)

      front : a ≤ e → e ≤ length s → n ≤ length (take (e - a) (drop a s))
          → slice a (a + n) s ≡ take n (take (e - a) (drop a s))
      front h k l =
          let l' : n ≤ e - a = omega (arith, part_length s a e h k) in
          let z : a + n - a ≡ n = omega arith in
          sym (slice_is a (a + n) s (omega arith) (omega arith)) ∙ ap (λ j. take j (drop a s)) z
          ∙ sym (take-take n (e - a) (drop a s) l')

  -- l is the label, of the text h and of a description that stands from a up to e
  pub label_description : (a e : ℕ) (h l : List ℕ) {m : ℕ} {t : Bool} → Given s p t → t ≡ false
      → Passes (optional (text 0 Class.any)) s p m → Shown s m a e → l ≡ label_of t h (take (e - a) (drop a s))
      → Labelled s p a (a + length l)
  label_description a e h l G f P S i =
      let b = take (e - a) (drop a s) in
      let n : length l ≡ length (characters 120 b) = ap length (i ∙ ap (λ t. label_of t h b) f) in
      rw n (at_description G f P S (characters_front 120 b))

-- ---- room for the texts

module _ (room a b c : ℕ) where
  pub room_first : room ≤ a → false ≡ ltb (a + b + c + 1) room
  room_first h = sym (le-ltb (a + b + c + 1) room (omega arith))

  pub room_second : a < room → room - a ≤ b → false ≡ ltb (a + b + c + 1) room
  room_second h k = sym (le-ltb (a + b + c + 1) room (omega arith))

  pub room_third : a < room → b < room - a → room - a - b ≤ c → false ≡ ltb (a + b + c + 1) room
  room_third h k l = sym (le-ltb (a + b + c + 1) room (omega arith))

  pub room_last : a < room → b < room - a → c < room - a - b → ltb 1 (room - a - b - c) ≡ ltb (a + b + c + 1) room
  room_last h k l = go (ltb 1 (room - a - b - c)) refl
    where
      go : (t : Bool) → ltb 1 (room - a - b - c) ≡ t → t ≡ ltb (a + b + c + 1) room
      go true e = sym (lt-ltb (a + b + c + 1) room (omega (arith, ltb-true 1 (room - a - b - c) e)))
      go false e = sym (le-ltb (a + b + c + 1) room (omega (arith, ltb-false 1 (room - a - b - c) e)))

-- the lengths of the texts are those of their parts
pub part_is : (s : List ℕ) {v : List ℕ} (a e : ℕ) → a ≤ e → e ≤ length s → slice a e s ≡ v → length v ≡ e - a
part_is s a e h k f = sym (ap length f) ∙ length-slice a e s k

-- so there is room for the parts
module _ {s : List ℕ} {p m a b c e : ℕ} (H : Shown s p a b) (D : Shown s m c e) where
  header_part : length (take (b - a) (drop a s)) ≡ b - a
  header_part = part_length s a b H.forward H.within

  description_part : length (take (e - c) (drop c s)) ≡ e - c
  description_part = part_length s c e D.forward D.within

  pub text_room : {t : Bool} {short old : List ℕ} → t ≡ ltb (b - a + (e - c) + length short + 1) (length old)
      → not t ≡ false → Roomy (take (b - a) (drop a s)) (take (e - c) (drop c s)) short old
  text_room {t} {short} {old} f g =
      let r = ltb-true (b - a + (e - c) + length short + 1) (length old) (sym f ∙ not-false t g) in
      record { fits = omega (arith, header_part, description_part) }

  pub road_room : {n f g : ℕ} {t : Bool} (old : List ℕ) → Shown s n f g
      → t ≡ ltb (b - a + (e - c) + (g - f) + 1) (length old) → not t ≡ false
      → length (take (b - a) (drop a s)) + length (take (e - c) (drop c s)) + length (take (g - f) (drop f s)) + 1
      < length old
  road_room {n} {f} {g} {t} old C i j =
      let r = ltb-true (b - a + (e - c) + (g - f) + 1) (length old) (sym i ∙ not-false t j) in
      omega (arith, header_part, description_part, part_length s f g C.forward C.within)

-- ---- about road traffic
module _ {s old : List ℕ} {p m n a b c e f g : ℕ} (H : Shown s p a b) (P : Passes (optional (text 0 Class.any)) s p m)
    (D : Shown s m c e) (Q : Passes (optional (text 0 Class.any)) s m n) (C : Shown s n f g) where
  pub road_no_room : {t : Bool} → t ≡ ltb (b - a + (e - c) + (g - f) + 1) (length old) → not t ≡ true
      → Road s p true old old
  road_no_room {t} i j = record {
    kept = refl;
    is = λ {v} h r.
        let x = part_is s a b H.forward H.within (of_header H h) in
        let y = part_is s c e D.forward D.within (of_description P D h) in
        let z = part_is s f g C.forward C.within (of_cause P Q C h) in
        absurd (omega (arith, ltb-false (b - a + (e - c) + (g - f) + 1) (length old) (sym i ∙ not-true t j)));
  }

  pub road_told : {new : List ℕ} {r : Bool}
      → Answered old new r
      (road_of (take (b - a) (drop a s)) (take (e - c) (drop c s)) (take (g - f) (drop f s))) → Road s p r old new
  road_told {new} {r} A = record {
    kept = A.kept;
    is = λ {v} h l.
        let x = slice_is a b s H.forward H.within ∙ of_header H h in
        let y = slice_is c e s D.forward D.within ∙ of_description P D h in
        let z = slice_is f g s C.forward C.within ∙ of_cause P Q C h in
        A.is ∙ rw (x, y, z) (road_alert v);
  }
