-- Law. Route ids, short names and modes compared, by the answers of the tests in the order of the code.
use Rattle.std.specs.Prelude.{◌≡◌, refl, List, [], ◌∷◌, Bool, true, false, not, ◌&&◌, ℕ, ◌≤◌, ◌<◌, length, drop, Option, Some, None}
use Rattle.std.proofs.Common.{sym, ap, ◌∙◌, arith, le-leb}
use Rattle.std.proofs.lemmas.Bool.{lt-leb, not-false}
use Rattle.basics.specs.Lists.{any, is_empty}
use Rattle.basics.specs.Texts.{same}
use Rattle.basics.specs.Laws.Booleans.{and_no, or_false, not_true}
use Rattle.basics.specs.Laws.Texts.{same_true}
use Rattle.alerts.specs.Text.{text, upper, same_ignoring_case, trim}
use Rattle.alerts.specs.Applies.{product_code_token, segment, decided, tails_match, route_refs_match}
use Rattle.alerts.specs.Applies.{short_names_equal, is_none, by_name, rail_modes, is_rail_like_mode}
use Rattle.alerts_ids.specs.Promises.Cuts.{part_of, token_of, Coded}

pub empty : (s : List ℕ) → length s ≡ 0 → is_empty s ≡ true
empty [] e = refl
empty (b ∷ s) e = absurd (omega arith)

pub nonempty : (s : List ℕ) → (length s ≡ 0 → ⊥) → is_empty s ≡ false
nonempty [] h = absurd (h refl)
nonempty (b ∷ s) h = refl

-- where a code stands
pub code_forward : {x : List ℕ} {o : Option (ℕ × ℕ)} {a b : ℕ} → Coded x o → o ≡ Some (a, b) → a ≤ b
code_forward {x} c e = (rw e at c.inside).0

pub code_within : {x : List ℕ} {o : Option (ℕ × ℕ)} {a b : ℕ} → Coded x o → o ≡ Some (a, b) → b ≤ length x
code_within {x} c e = (rw e at c.inside).1

-- ---- the tails of two route ids

pub tails_short : (x y q : List ℕ) → q ≡ segment x → length q < 3 → false ≡ tails_match (segment x) (segment y)
tails_short x y q e h = rw (← e, lt-leb 3 (length q) h, and_no (not (is_empty q))) refl

pub tails_same : (x y q r : List ℕ) (t : Bool) → q ≡ segment x → 3 ≤ length q → r ≡ segment y
    → t ≡ same_ignoring_case q r → t ≡ tails_match (segment x) (segment y)
tails_same x y q r t e h f g =
    sym (rw (← e, ← f, le-leb 3 (length q) h, nonempty q (λ z. omega arith)) (sym g))

-- ---- two route ids

module _ (leg informed : List ℕ) where
  pub no_leg : length leg ≡ 0 → false ≡ route_refs_match leg informed
  no_leg e = sym (rw (empty leg e) refl)

  pub none_informed : (length leg ≡ 0 → ⊥) → length informed ≡ 0 → false ≡ route_refs_match leg informed
  none_informed h e = sym (rw (nonempty leg h, empty informed e) refl)

  pub refs_same : (t : Bool) → (length leg ≡ 0 → ⊥) → (length informed ≡ 0 → ⊥) → t ≡ same leg informed → t ≡ true
      → true ≡ route_refs_match leg informed
  refs_same t h k e f = sym (rw (nonempty leg h, nonempty informed k, sym e ∙ f) refl)

  by_codes : (t : Bool) → (length leg ≡ 0 → ⊥) → (length informed ≡ 0 → ⊥) → t ≡ same leg informed → t ≡ false
      → route_refs_match leg informed ≡ decided (product_code_token leg) (product_code_token informed)
      (tails_match (segment leg) (segment informed))
  by_codes t h k e f = rw (nonempty leg h, nonempty informed k, sym e ∙ f) refl

  pub refs_leg_plain : (t u : Bool) (o : Option (ℕ × ℕ)) → (length leg ≡ 0 → ⊥) → (length informed ≡ 0 → ⊥)
      → t ≡ same leg informed → t ≡ false → Coded leg o → o ≡ None
      → u ≡ tails_match (segment leg) (segment informed) → u ≡ route_refs_match leg informed
  refs_leg_plain t u o h k e f co eo g =
      sym (by_codes t h k e f ∙ rw (co.is ∙ ap (token_of leg) eo) (sym g))

  pub refs_informed_plain : (t u : Bool) (o w : Option (ℕ × ℕ)) (a b : ℕ) → (length leg ≡ 0 → ⊥)
      → (length informed ≡ 0 → ⊥)
      → t ≡ same leg informed → t ≡ false → Coded leg o → o ≡ Some (a, b) → Coded informed w → w ≡ None
      → u ≡ tails_match (segment leg) (segment informed) → u ≡ route_refs_match leg informed
  refs_informed_plain t u o w a b h k e f co eo cw ew g =
      sym (by_codes t h k e f
      ∙ rw (co.is ∙ ap (token_of leg) eo, cw.is ∙ ap (token_of informed) ew) (sym g))

  pub refs_coded : (t u : Bool) (o w : Option (ℕ × ℕ)) (a b c d : ℕ) → (length leg ≡ 0 → ⊥) → (length informed ≡ 0 → ⊥)
      → t ≡ same leg informed → t ≡ false → Coded leg o → o ≡ Some (a, b) → Coded informed w → w ≡ Some (c, d)
      → u ≡ same_ignoring_case (part_of leg a b) (part_of informed c d) → u ≡ route_refs_match leg informed
  refs_coded t u o w a b c d h k e f co eo cw ew g =
      sym (by_codes t h k e f
      ∙ rw (co.is ∙ ap (token_of leg) eo, cw.is ∙ ap (token_of informed) ew) (sym g))

-- ---- short names

module _ (leg other : List ℕ) where
  pub no_name : (s : List ℕ) → s ≡ trim leg → length s ≡ 0 → false ≡ short_names_equal leg other
  no_name s e h = sym (rw (← e, empty s h) refl)

  pub no_other : (s t : List ℕ) → s ≡ trim leg → (length s ≡ 0 → ⊥) → t ≡ trim other → length t ≡ 0
      → false ≡ short_names_equal leg other
  no_other s t e h f k = sym (rw (← e, ← f, nonempty s h, empty t k) refl)

  pub names_same : (s t : List ℕ) (r : Bool) → s ≡ trim leg → (length s ≡ 0 → ⊥) → t ≡ trim other
      → (length t ≡ 0 → ⊥) → r ≡ same_ignoring_case s t → r ≡ short_names_equal leg other
  names_same s t r e h f k g = sym (rw (← e, ← f, nonempty s h, nonempty t k) (sym g))

-- ---- a route id that is the line's name

module _ (short x g : List ℕ) where
  pub name_long : g ≡ segment x → 4 < length g → false ≡ by_name short x
  name_long e h =
      sym (rw (← e, lt-leb (length g) 4 h) (and_no (short_names_equal short g && is_none (product_code_token x))))

  pub name_other : (t : Bool) → g ≡ segment x → t ≡ short_names_equal short g → not t ≡ true → false ≡ by_name short x
  name_other t e f h = sym (rw (← e, ← f, not_true t h) refl)

  pub name_coded : (t : Bool) (o : Option (ℕ × ℕ)) (a b : ℕ) → g ≡ segment x → Coded x o → o ≡ Some (a, b)
      → false ≡ by_name short x
  name_coded t o a b e co eo =
      sym (rw (co.is ∙ ap (token_of x) eo, and_no (short_names_equal short (segment x))) refl)

  pub name_plain : (t : Bool) (o : Option (ℕ × ℕ)) → g ≡ segment x → length g ≤ 4 → t ≡ short_names_equal short g
      → not t ≡ false → Coded x o → o ≡ None → true ≡ by_name short x
  name_plain t o e k f h co eo =
      sym (rw (co.is ∙ ap (token_of x) eo, ← e, ← f, not-false t h, le-leb (length g) 4 k) refl)

-- ---- modes

pub rail_word : (w m : List ℕ) (t : Bool) → any (same (upper w)) rail_modes ≡ true → t ≡ same_ignoring_case m w
    → t ≡ true
    → true ≡ is_rail_like_mode m
rail_word w m t h e f = sym (ap (λ x. any (same x) rail_modes) (same_true (upper m) (upper w) (sym e ∙ f)) ∙ h)

pub tram_word : (w m : List ℕ) (t : Bool) → any (same (upper w)) (drop 4 rail_modes) ≡ true → t ≡ same_ignoring_case m w
    → t ≡ true → true ≡ any (same (upper m)) (drop 4 rail_modes)
tram_word w m t h e f = sym (ap (λ x. any (same x) (drop 4 rail_modes)) (same_true (upper m) (upper w) (sym e ∙ f)) ∙ h)

pub tram_last : (m : List ℕ) (a b c : Bool) → a ≡ same_ignoring_case m (text "TRAM") → a ≡ false
    → b ≡ same_ignoring_case m (text "TRAMWAY") → b ≡ false → c ≡ same_ignoring_case m (text "RER")
    → c ≡ any (same (upper m)) (drop 4 rail_modes)
tram_last m a b c ea a' eb b' ec = sym (rw (sym ea ∙ a', sym eb ∙ b', ← ec) (or_false c))

pub rail_last : (m : List ℕ) (a b c d e : Bool) → a ≡ same_ignoring_case m (text "RAIL") → a ≡ false
    → b ≡ same_ignoring_case m (text "TRAIN") → b ≡ false → c ≡ same_ignoring_case m (text "METRO") → c ≡ false
    → d ≡ same_ignoring_case m (text "SUBWAY") → d ≡ false → e ≡ any (same (upper m)) (drop 4 rail_modes)
    → e ≡ is_rail_like_mode m
rail_last m a b c d e ea a' eb b' ec c' ed d' ee =
    sym (rw (sym ea ∙ a', sym eb ∙ b', sym ec ∙ c', sym ed ∙ d') (sym ee))
