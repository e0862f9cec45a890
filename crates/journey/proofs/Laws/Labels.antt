-- Law. THE HEADERS of a finished card strictly ascend by bytes, and are the nonempty labels of the alerts that apply,
-- each once and no others.
use Rattle.std.specs.Prelude.{◌≡◌, Bool, true, false, cond, ◌&&◌, ◌||◌, ℕ}
use Rattle.std.proofs.Math.Path.{refl, ap}
use Rattle.std.proofs.Common.{sym, ◌∙◌}
use Rattle.std.proofs.Math.Bool.{not}
use mathlib.Core.List.{List, [], ◌∷◌, map}
use Rattle.std.proofs.Math.Option.{Option, none, some}
use Rattle.slices.specs.Lists.{lex_of}
use Rattle.std.specs.declared.cmp.Ordering.{Ordering}
use Rattle.std.specs.declared.cmp.Ordering.TheVariants.{Less, Equal, Greater}
use Rattle.maps.specs.Map.{by_order, get, ascending}
use Rattle.maps.specs.Promises.Order.{is_same}
use Rattle.maps.proofs.Laws.Map.{last_at, puts_ascending, get_puts, equal_maps}
use Rattle.maps.specs.Order.{texts}
use Rattle.maps.proofs.Laws.Order.{texts_order}
use Rattle.basics.specs.Lists.{any, filter, is_empty, concat_map}
use Rattle.basics.specs.Texts.{same}
use Rattle.alerts.specs.Label.{label}
use Rattle.basics.specs.Laws.Lists.{any_same, any_join}
use Rattle.basics.specs.Laws.Texts.{same_true}
use Rattle.basics.specs.Laws.Booleans.{and_no}
use Rattle.overlay.specs.Records.{Feeds}
use Rattle.overlay.specs.Lookup.{feed_of}
use Rattle.overlay.proofs.Laws.Shown.{same_lex}
use Rattle.journey.specs.Card.{Transit, Card}
use Rattle.journey.proofs.Laws.Headers.{Entry, entry, set}
use Rattle.journey.specs.Enrich.{alerts_in, applies, alerts_of_transit, transits, keys, labels_of, headers_of}
use Rattle.journey.specs.Enrich.{enrich_with_realtime}

-- ---- tests over lists

pub any_filter : {A : Type 0} (p q : A → Bool) (l : List A) → any p (filter q l) ≡ any (λ a. q a && p a) l
any_filter p q [] = refl
any_filter p q (a ∷ l) = go (q a) (any_filter p q l)
  where
    go : (t : Bool) → any p (filter q l) ≡ any (λ a. q a && p a) l
        → any p (cond t (a ∷ filter q l) (filter q l)) ≡ t && p a || any (λ a. q a && p a) l
    go true e = ap (λ x. p a || x) e
    go false e = e

pub any_map : {A B : Type 0} (p : B → Bool) (g : A → B) (l : List A) → any p (map g l) ≡ any (λ a. p (g a)) l
any_map p g [] = refl
any_map p g (a ∷ l) = ap (λ x. p (g a) || x) (any_map p g l)

any_and : {A : Type 0} (t : Bool) (p : A → Bool) (l : List A) → any (λ a. t && p a) l ≡ t && any p l
any_and true p l = refl
any_and false p [] = refl
any_and false p (a ∷ l) = any_and false p l

-- ---- a set of texts

abbrev pub set_of : List (List ℕ) → List (List ℕ)
set_of l = keys (set l)

abbrev found : Bool → Option (Unit {0})
found b = cond b (some tt) none

one_answer : (a b : Bool) → found a ≡ found b → a ≡ b
one_answer true true e = refl
one_answer false false e = refl
one_answer true false e = cc
one_answer false true e = cc

get_found : (x : List ℕ) (m : List Entry) → get texts x m ≡ found (any (same x) (keys m))
get_found x [] = refl
get_found x (e ∷ m) = go (lex_of x e.0) (same x e.0) (same_lex x e.0) (get_found x m)
  where
    go : (o : Ordering) (t : Bool) → t ≡ is_same o → get texts x m ≡ found (any (same x) (keys m))
        → by_order o (get texts x m) (some tt) (get texts x m) ≡ found (t || any (same x) (keys m))
    go Less t q h = rw q h
    go Equal t q h = rw q refl
    go Greater t q h = rw q h

last_found : (x : List ℕ) (l : List (List ℕ)) → last_at texts x (map entry l) ≡ found (any (same x) l)
last_found x [] = refl
last_found x (y ∷ l) = go (any (same x) l) refl (last_found x l) (lex_of x y) refl
  where
    go : (u : Bool) → any (same x) l ≡ u → last_at texts x (map entry l) ≡ found (any (same x) l)
        → (o : Ordering) → lex_of x y ≡ o → last_at texts x (map entry (y ∷ l)) ≡ found (same x y || any (same x) l)
    go true e h Less q = rw (h, same_lex x y, e, q) refl
    go true e h Equal q = rw (h, same_lex x y, e, q) refl
    go true e h Greater q = rw (h, same_lex x y, e, q) refl
    go false e h Less q = rw (h, same_lex x y, e, q) refl
    go false e h Equal q = rw (h, same_lex x y, e, q) refl
    go false e h Greater q = rw (h, same_lex x y, e, q) refl

get_set : (x : List ℕ) (l : List (List ℕ)) → get texts x (set l) ≡ found (any (same x) l)
get_set x l = go (any (same x) l) (last_found x l)
  where
    go : (u : Bool) → last_at texts x (map entry l) ≡ found u → get texts x (set l) ≡ found u
    go true e = rw (get_puts texts_order x (map entry l) [], e) refl
    go false e = rw (get_puts texts_order x (map entry l) [], e) refl

set_has : (x : List ℕ) (l : List (List ℕ)) → any (same x) (set_of l) ≡ any (same x) l
set_has x l = one_answer _ _ (sym (get_found x (set l)) ∙ get_set x l)

-- two lists of the same texts are one set
pub set_same : (k l : List (List ℕ)) → ((x : List ℕ) → any (same x) k ≡ any (same x) l) → set_of k ≡ set_of l
set_same k l h =
    ap keys
    (equal_maps texts_order (set k) (set l)
    (puts_ascending texts_order (map entry k) [] refl) (puts_ascending texts_order (map entry l) [] refl)
    (λ x. get_set x k ∙ ap found (h x) ∙ sym (get_set x l)))

entries_keys : (m : List Entry) → map entry (keys m) ≡ m
entries_keys [] = refl
entries_keys (e ∷ m) = ap (λ l. e ∷ l) (entries_keys m)

-- ---- the headers

-- the nonempty ones of a list of texts that have x
pub nonempty_has : (x : List ℕ) (l : List (List ℕ))
    → any (same x) (filter (λ y. not (is_empty y)) l) ≡ not (is_empty x) && any (same x) l
nonempty_has x l =
    any_filter (same x) (λ y. not (is_empty y)) l
    ∙ any_same _ _ (λ y. go y (same x y) refl) l
    ∙ any_and (not (is_empty x)) (same x) l
  where
    go : (y : List ℕ) (t : Bool) → same x y ≡ t → not (is_empty y) && t ≡ not (is_empty x) && t
    go y true e = ap (λ z. not (is_empty z) && true) (sym (same_true x y e))
    go y false e = and_no (not (is_empty y)) ∙ sym (and_no (not (is_empty x)))

module _ (B : Feeds) (ts : List Transit) where
  -- STRICTLY ASCENDING BY BYTES
  pub headers_ascend : ascending texts (map entry (headers_of B ts)) ≡ true
  unfolding headers_of
  headers_ascend =
      let m = set (labels_of B ts) in
      ap (ascending texts) (entries_keys m) ∙ puts_ascending texts_order (map entry (labels_of B ts)) [] refl

  -- a text is a header where it is not empty and an alert that applies to a leg has it for its label
  abbrev pub labelled : List ℕ → Bool
  labelled x =
      not (is_empty x)
      && any (λ t. any (λ a. applies t a && same x (label a)) (alerts_in (B (feed_of t.trip)))) ts

  -- EXACTLY THE NONEMPTY LABELS
  pub headers_exact : (x : List ℕ) → any (same x) (headers_of B ts) ≡ labelled x
  unfolding headers_of labels_of alerts_of_transit
  headers_exact x =
      set_has x (labels_of B ts)
      ∙ nonempty_has x (concat_map (λ t. map label (alerts_of_transit B t)) ts)
      ∙ ap (λ b. not (is_empty x) && b)
      (any_join (same x) (λ t. map label (alerts_of_transit B t)) ts
      ∙ any_same _ _
      (λ t. any_map (same x) label (alerts_of_transit B t)
      ∙ any_filter (λ a. same x (label a)) (applies t) (alerts_in (B (feed_of t.trip))))
      ts)

-- THE FINISHED CARD'S, whatever headers it arrived with
pub card_headers_ascend : (B : Feeds) (c : Card)
    → ascending texts (map entry (enrich_with_realtime B c).headers) ≡ true
unfolding enrich_with_realtime
card_headers_ascend B c = headers_ascend B (transits c.legs)

pub card_headers_exact : (B : Feeds) (c : Card) (x : List ℕ)
    → any (same x) (enrich_with_realtime B c).headers ≡ labelled B (transits c.legs) x
unfolding enrich_with_realtime
card_headers_exact B c x = headers_exact B (transits c.legs) x
