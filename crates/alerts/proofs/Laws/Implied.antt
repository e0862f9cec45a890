-- Law. `applies_reduced`: the test of Applies and that of Reduced are equal for every alert and leg, part by part.
use Rattle.std.specs.Prelude.{◌≡◌, refl, List, [], ◌∷◌, ◌++◌, Bool, true, false, cond, not, ◌&&◌, ◌||◌, ℕ, leb, eqb, length, drop}
use Rattle.std.proofs.Common.{sym, ap, ◌∙◌, ⊎_elim, eqb-true}
use Rattle.std.proofs.Math.Option.{Option, none, some}
use Prim.Native.String.{String}
use Rattle.basics.specs.Lists.{all, any, filter, is_empty}
use Rattle.alerts.specs.Text.{text, begins, ends, contains, find, upper, same_ignoring_case, alphanumeric}
use Rattle.alerts.specs.Text.{trim_start, trim_end, trim, rsplit_once, onto, split}
use Rattle.basics.specs.Texts.{same}
use Rattle.alerts.specs.Alert.{Alert, header, description, or_empty_text, informed_trip_ids, informed_route_ids}
use Rattle.alerts.specs.Alert.{informed_stop_ids}
use Rattle.alerts.specs.Index.{undated, part_after, tail}
use Rattle.alerts.specs.Applies.{first_code, product_code_token, last_of, segment, stop_tail, decided, tails_match}
use Rattle.alerts.specs.Applies.{route_refs_match, short_names_equal, has_text, road_blob, road_traffic}
use Rattle.alerts.specs.Applies.{is_rail_like_mode, trip_hit, stop_hit, route_hit, by_name, by_product}
use Rattle.alerts.specs.Applies.{unaccented, folded, fold_alert_blob, letters, numerals, trams, around, names}
use Rattle.alerts.specs.Applies.{letter_rows, number_rows, bare_rows, names_number, names_tram}
use Rattle.alerts.specs.Applies.{commercial_lines_in_text, markers, any_marker, needle_rows, window, marker_near}
use Rattle.alerts.specs.Applies.{advised, is_secondary_line_context, is_primary_context, leg_blob, text_compatible}
use Rattle.alerts.specs.Applies.{alert_text_compatible_with_leg, alert_applies_to_leg_with_mode}
use Rattle.alerts.specs.Promises.Reduced.{first_token, token, refs, named, hits_route, hits_trip, hits_stop, road}
use Rattle.alerts.specs.Promises.Reduced.{advice_markers, secondary, subject_rows, primary, text_ok, text_fits, hits}
use Rattle.alerts.specs.Promises.Reduced.{applies}
use Rattle.alerts.proofs.Laws.ProductCodes.{product_code_never_decides}
use Rattle.basics.specs.Laws.Lists.{any_append, any_or, any_same, any_implies}
use Rattle.basics.specs.Laws.Texts.{same_true}
use Rattle.basics.specs.Laws.Booleans.{and_no, false_true, or_false, or_assoc, or_comm, or_true, and_true, pick_or}
use Rattle.basics.specs.Laws.Booleans.{pick_and, not_true, absorb_left, absorb_right, implied_false}
use Rattle.alerts.proofs.Laws.Text.{contains_append, contains_end, contains_trans, begins_contains, ends_append}
use Rattle.alerts.proofs.Laws.Text.{ends_contains, rsplit_joined}

-- road traffic
road_reduced : (blob : List ℕ) → road_traffic blob ≡ road blob
road_reduced blob =
    let h : (p q : String) → contains (text q) (text p) ≡ true → has_text blob p ≡ true → has_text blob q ≡ true =
    λ p q e. contains_trans (text q) (text p) blob e in
    rw (
      absorb_right (has_text blob "TRAFIC ROUTIER") (has_text blob "INFO TRAFIC ROUTIER")
          (h "INFO TRAFIC ROUTIER" "TRAFIC ROUTIER" refl),
      absorb_right (has_text blob "CIRCULATION") (has_text blob "SENS DE CIRCULATION")
          (h "SENS DE CIRCULATION" "CIRCULATION" refl),
      or_assoc (has_text blob "DEPLACE") (has_text blob "DÉPLACÉ") (has_text blob "DEPLAC"),
      absorb_left (has_text blob "DEPLACE") (has_text blob "DÉPLACÉ" || has_text blob "DEPLAC")
          (λ e. rw (h "DEPLACE" "DEPLAC" refl e) (or_comm (has_text blob "DÉPLACÉ") true)),
    )
    refl

-- a trip id whose tail past the last ':' is b ends with ":b"
tail_ends : (b t : List ℕ) (o : Option (List ℕ × List ℕ)) → rsplit_once 0x3a t ≡ o → any (same b) (part_after o) ≡ true
    → ends (text ":" ++ b) t ≡ true
tail_ends b t none eo e = false_true e
tail_ends b t (some p) eo e =
    let same_b : b ≡ p.1 = same_true b p.1 (sym (or_false (same b p.1)) ∙ e) in
    rw (rsplit_joined 0x3a t p.0 p.1 eo, same_b) (ends_append p.0 (0x3a ∷ p.1))

trip_reduced : (a : Alert) (trip : List ℕ) → trip_hit a trip ≡ hits_trip a trip
trip_reduced a trip =
    ap (λ x. not (is_empty (undated trip)) && x)
    (any_same _ _
    (λ t. absorb_right (same t trip || same t (undated trip) || ends (text ":" ++ undated trip) t)
    (any (same (undated trip)) (tail t))
    (λ e. rw (tail_ends (undated trip) t (rsplit_once 0x3a t) refl e)
    (or_comm (same t trip || same t (undated trip)) true)))
    (informed_trip_ids a))

-- a stop id that isn't empty has a tail that isn't
last_of_nonempty : (p : List ℕ → Bool) → ((x : List ℕ) → p x ≡ true → is_empty x ≡ false)
    → (whole : List ℕ) (l : List (List ℕ))
    → is_empty whole ≡ false → is_empty (last_of p whole l) ≡ false
last_of_nonempty p h whole [] e = e
last_of_nonempty p h whole (x ∷ l) e = last_of_nonempty p h (cond (p x) x whole) l (go (p x) refl)
  where
    go : (t : Bool) → p x ≡ t → is_empty (cond t x whole) ≡ false
    go true g = h x g
    go false g = e

stop_reduced : (a : Alert) (stop : List ℕ) → stop_hit a stop ≡ hits_stop a stop
stop_reduced a stop = go (is_empty stop) refl
  where
    hit : Bool
    hit = any (λ s. same s stop || same_ignoring_case (stop_tail s) (stop_tail stop)) (informed_stop_ids a)

    go : (t : Bool) → is_empty stop ≡ t → not t && not (is_empty (stop_tail stop)) && hit ≡ not t && hit
    go true e = refl
    go false e =
        rw (last_of_nonempty (λ p. not (is_empty p) && any alphanumeric p) (λ x g. not_true (is_empty x) (and_true g).0)
        stop (split (λ b. eqb b 0x3a || eqb b 0x2f) stop) e)
        refl

-- a piece of letters and digits has nothing to trim
all_same : {A : Type 0} (p q : A → Bool) → ((a : A) → p a ≡ true → q a ≡ true) → (l : List A) → all p l ≡ true
    → all q l ≡ true
all_same p q h [] e = refl
all_same p q h (a ∷ l) e = let g = and_true e in rw (h a g.0, all_same p q h l g.1) refl

split_pieces : (cut : ℕ → Bool) (s : List ℕ) → all (all (λ b. not (cut b))) (split cut s) ≡ true
split_pieces cut [] = refl
split_pieces cut (b ∷ s) = go (cut b) refl (split cut s) (split_pieces cut s)
  where
    go : (t : Bool) → cut b ≡ t → (l : List (List ℕ)) → all (all (λ b. not (cut b))) l ≡ true
        → all (all (λ b. not (cut b))) (cond t ([] ∷ l) (onto b l)) ≡ true
    go true e l ih = ih
    go false e [] ih = rw e refl
    go false e (p ∷ l) ih = rw e ih

spaceless : (s : List ℕ) → all (λ b. not (eqb b 32)) s ≡ true → trim_end s ≡ s
spaceless [] e = refl
spaceless (b ∷ s) e =
    let g = and_true e in
    rw (not_true (eqb b 32) g.0, spaceless s g.1) refl

trim_spaceless : (s : List ℕ) → all (λ b. not (eqb b 32)) s ≡ true → trim s ≡ s
trim_spaceless [] e = refl
trim_spaceless (b ∷ s) e = let g = and_true e in rw (not_true (eqb b 32) g.0) (spaceless (b ∷ s) e)

no_space : (b : ℕ) → not (not (alphanumeric b)) ≡ true → not (eqb b 32) ≡ true
no_space b e = go (eqb b 32) refl
  where
    go : (t : Bool) → eqb b 32 ≡ t → not t ≡ true
    go true g = rw (eqb-true b 32 g) at e
    go false g = refl

first_token_first : (l : List (List ℕ)) → all (all (λ b. not (not (alphanumeric b)))) l ≡ true
    → first_code l ≡ first_token l
first_token_first [] e = refl
first_token_first (p ∷ l) e =
    let g = and_true e in
    rw (
      trim_spaceless p (all_same (λ b. not (not (alphanumeric b))) (λ b. not (eqb b 32)) no_space p g.0),
      first_token_first l g.1,
    )
    refl

token_reduced : (x : List ℕ) → product_code_token x ≡ token x
token_reduced x =
    first_token_first (split (λ b. not (alphanumeric b)) x) (split_pieces (λ b. not (alphanumeric b)) x)

-- route ids
tails_reduced : (x y : List ℕ) → tails_match x y ≡ leb 3 (length x) && same_ignoring_case x y
tails_reduced [] y = refl
tails_reduced (b ∷ x) y = refl

refs_reduced : (q r : List ℕ) → route_refs_match q r ≡ refs q r
refs_reduced q r =
    let other = decided (token q) (token r) (leb 3 (length (segment q)) && same_ignoring_case (segment q) (segment r))
    in
    rw (token_reduced q, token_reduced r, tails_reduced (segment q) (segment r))
    (pick_and (is_empty q || is_empty r) (cond (same q r) true other)
    ∙ ap (λ x. not (is_empty q || is_empty r) && x) (pick_or (same q r) other))

-- the line's name, trimmed once
trim_end_twice : (s : List ℕ) → trim_end (trim_end s) ≡ trim_end s
trim_end_twice [] = refl
trim_end_twice (b ∷ s) = go (eqb b 32 && is_empty (trim_end s)) refl (trim_end_twice s)
  where
    go : (t : Bool) → eqb b 32 && is_empty (trim_end s) ≡ t → trim_end (trim_end s) ≡ trim_end s
        → trim_end (cond t [] (b ∷ trim_end s)) ≡ cond t [] (b ∷ trim_end s)
    go true e ih = refl
    go false e ih = rw (ih, e) refl

trim_start_once : (s : List ℕ) → trim_start (trim_end (trim_start s)) ≡ trim_end (trim_start s)
trim_start_once [] = refl
trim_start_once (b ∷ s) = go (eqb b 32) refl (trim_start_once s)
  where
    go : (t : Bool) → eqb b 32 ≡ t → trim_start (trim_end (trim_start s)) ≡ trim_end (trim_start s)
        → trim_start (trim_end (cond t (trim_start s) (b ∷ s))) ≡ trim_end (cond t (trim_start s) (b ∷ s))
    go true e ih = ih
    go false e ih = rw (e, e) refl

trim_twice : (s : List ℕ) → trim (trim s) ≡ trim s
trim_twice s = ap trim_end (trim_start_once s) ∙ trim_end_twice (trim_start s)

name_reduced : (s t : List ℕ) → is_empty s ≡ false → trim s ≡ s → short_names_equal s t ≡ same_ignoring_case s (trim t)
name_reduced [] t e h = false_true (sym e)
name_reduced (b ∷ s) t e h = rw h (go (trim t))
  where
    go : (x : List ℕ) → cond (is_empty x) false (same_ignoring_case (b ∷ s) x) ≡ same_ignoring_case (b ∷ s) x
    go [] = refl
    go (c ∷ x) = refl

named_reduced : (s : List ℕ) → is_empty s ≡ false → trim s ≡ s → (r : List ℕ) → by_name s r ≡ named s r
named_reduced s e h r = rw (name_reduced s (segment r) e h, token_reduced r) refl

-- a route is hit by its ids or by its name, and never by the table alone
abbrev by_table : List ℕ → List ℕ → List ℕ → Bool
by_table route s r = by_product (product_code_token route) s (product_code_token r)

table_absorbed : (route s : List ℕ) (l : List (List ℕ))
    → any (route_refs_match route) l || (any (named s) l || any (by_table route s) l) ≡ any (route_refs_match route) l
    || any (named s) l
table_absorbed route s l =
    sym (or_assoc (any (route_refs_match route) l) (any (named s) l) (any (by_table route s) l))
    ∙ absorb_right (any (route_refs_match route) l || any (named s) l) (any (by_table route s) l)
    (λ h. rw (any_implies (by_table route s) (route_refs_match route) (λ r. product_code_never_decides route r s) l h)
    refl)

names_absorbed : (route s : List ℕ) → trim s ≡ s → (l : List (List ℕ)) (t : Bool) → is_empty s ≡ t
    → any (route_refs_match route) l || not t && any (λ r. by_name s r || by_table route s r) l
    ≡ any (route_refs_match route) l || not t && any (named s) l
names_absorbed route s h l true e = refl
names_absorbed route s h l false e =
    rw (any_or (by_name s) (by_table route s) l, any_same (by_name s) (named s) (named_reduced s e h) l)
    (table_absorbed route s l)

routes_reduced : (route s : List ℕ) → trim s ≡ s → (l : List (List ℕ))
    → not (is_empty l)
    && (any (route_refs_match route) l || not (is_empty s) && any (λ r. by_name s r || by_table route s r) l)
    ≡ any (refs route) l || not (is_empty s) && any (named s) l
routes_reduced route s h [] = sym (and_no (not (is_empty s)))
routes_reduced route s h (r ∷ l) =
    names_absorbed route s h (r ∷ l) (is_empty s) refl
    ∙ ap (λ x. x || not (is_empty s) && any (named s) (r ∷ l))
    (any_same (route_refs_match route) (refs route) (refs_reduced route) (r ∷ l))

route_reduced : (a : Alert) (route short : List ℕ) → route_hit a route short ≡ hits_route a route (trim short)
route_reduced a route short = routes_reduced route (trim short) (trim_twice short) (informed_route_ids a)

-- the text that is searched isn't empty
folded_nonempty : (b : ℕ) (s : List ℕ) → is_empty (fold_alert_blob (b ∷ s)) ≡ false
folded_nonempty b [] = refl
folded_nonempty b (c ∷ s) = go (unaccented b c)
  where
    go : (o : Option ℕ) → is_empty (folded o b (fold_alert_blob s) (fold_alert_blob (c ∷ s))) ≡ false
    go none = refl
    go (some l) = refl

blob_nonempty : (h d : List ℕ) → is_empty (fold_alert_blob (h ++ text " " ++ d)) ≡ false
blob_nonempty [] d = folded_nonempty 32 d
blob_nonempty (b ∷ h) d = folded_nonempty b (h ++ text " " ++ d)

-- a text with a marker has one that isn't implied
marked_reduced : (s : List ℕ) → any_marker markers s ≡ any_marker advice_markers s
marked_reduced s =
    sym (or_assoc (contains (text "PRIVILEGIE") s) (contains (text "PRIVILEGIEZ") s) (any_marker (drop 2 markers) s))
    ∙ ap (λ x. x || any_marker (drop 2 markers) s)
    (absorb_right (contains (text "PRIVILEGIE") s) (contains (text "PRIVILEGIEZ") s)
    (contains_trans (text "PRIVILEGIE") (text "PRIVILEGIEZ") s refl))

near_reduced : (blob needle : List ℕ) (o : Option ℕ)
    → marker_near markers blob needle o ≡ marker_near advice_markers blob needle o
near_reduced blob needle none = refl
near_reduced blob needle (some i) = marked_reduced (window blob i (length needle))

advised_reduced : (blob short : List ℕ) → advised markers blob short ≡ advised advice_markers blob short
advised_reduced blob short =
    any_same _ _ (λ r. near_reduced blob (around r.0 short r.1) (find (around r.0 short r.1) blob))
    needle_rows

-- a pattern with a name in it: where the pattern is, the name is
around_contains : (s t : String) (name blob : List ℕ) → contains (around s name t) blob ≡ true
    → contains name blob ≡ true
around_contains s t name blob e = contains_trans name (around s name t) blob (contains_append (text s) name (text t)) e

names_contains : (rows : List (String × String)) (blob name : List ℕ) → names rows blob name ≡ true
    → contains name blob ≡ true
names_contains [] blob name e = false_true e
names_contains (r ∷ rows) blob name e =
    ⊎_elim (around_contains r.0 r.1 name blob) (names_contains rows blob name)
    (or_true (contains (around r.0 name r.1) blob) (names rows blob name) e)

number_contains : (blob n : List ℕ) → names_number blob n ≡ true → contains n blob ≡ true
number_contains blob n e =
    ⊎_elim (names_contains number_rows blob n)
    (λ h. ⊎_elim (names_contains bare_rows blob n)
    (λ g. around_contains " " "" n blob (ends_contains (around " " n "") blob g))
    (or_true (names bare_rows blob n) (ends (around " " n "") blob)
    (and_true {x = names bare_rows blob n || ends (around " " n "") blob} h).0))
    (or_true (names number_rows blob n) _ e)

filter_passes : (p : List ℕ → Bool) (u : List ℕ) (l : List (List ℕ)) → any (λ m. same m u) (filter p l) ≡ true
    → p u ≡ true
filter_passes p u [] e = false_true e
filter_passes p u (m ∷ l) e = go (p m) refl e (filter_passes p u l)
  where
    go : (t : Bool) → p m ≡ t → any (λ m. same m u) (cond t (m ∷ filter p l) (filter p l)) ≡ true
        → (any (λ m. same m u) (filter p l) ≡ true → p u ≡ true) → p u ≡ true
    go true h e ih =
        ⊎_elim (λ g. ap p (sym (same_true m u g)) ∙ h) ih (or_true (same m u) (any (λ m. same m u) (filter p l)) e)
    go false h e ih = ih e

passes_one : {C : Type 0} (p q r : List ℕ → Bool) (k l m : List (List ℕ)) (u : List ℕ) → (p u ≡ true → C)
    → (q u ≡ true → C) → (r u ≡ true → C)
    → any (λ x. same x u) (filter p k ++ filter q l ++ filter r m) ≡ true → C
passes_one p q r k l m u on_p on_q on_r e =
    let is_u : List ℕ → Bool = λ x. same x u in
    ⊎_elim
    (λ h. ⊎_elim (λ g. on_p (filter_passes p u k g)) (λ g. on_q (filter_passes q u l g))
    (or_true (any is_u (filter p k)) (any is_u (filter q l)) (sym (any_append is_u (filter p k) (filter q l)) ∙ h)))
    (λ h. on_r (filter_passes r u m h))
    (or_true (any is_u (filter p k ++ filter q l)) (any is_u (filter r m))
    (sym (any_append is_u (filter p k ++ filter q l) (filter r m)) ∙ e))

-- a line that a text names is in the text
line_contained : (blob u : List ℕ) → any (λ m. same m u) (commercial_lines_in_text blob) ≡ true → contains u blob ≡ true
line_contained blob u =
    passes_one (names letter_rows blob) (names_number blob) (names_tram blob) letters numerals trams u
    (names_contains letter_rows blob u) (number_contains blob u) (λ h. (and_true {x = contains u blob} h).0)

secondary_reduced : (blob u : List ℕ) → contains u blob ≡ true → is_secondary_line_context blob u ≡ secondary blob u
secondary_reduced blob u e = rw (advised_reduced blob u, marked_reduced blob, e) (go (any_marker advice_markers blob))
  where
    go : (t : Bool)
        → advised advice_markers blob u || t && true && (has_text blob "RER " || has_text blob "TRAVAUX SUR")
        ≡ advised advice_markers blob u || t && (has_text blob "RER " || has_text blob "TRAVAUX SUR")
    go true = refl
    go false = refl

-- a line that is the subject: four patterns are implied by "RER m" and "METRO m"
subject : (x₁ x₂ x₃ x₄ x₅ r b₁ b₂ b₃ : Bool) → (x₄ ≡ true → x₁ ≡ true) → (x₅ ≡ true → x₁ ≡ true)
    → (b₂ ≡ true → x₃ ≡ true) → (b₃ ≡ true → x₁ ≡ true)
    → x₁ || (x₂ || (x₃ || (x₄ || (x₅ || r)))) || b₁ || b₂ || b₃ ≡ x₁ || (x₂ || (x₃ || r)) || b₁
subject true x₂ x₃ x₄ x₅ r b₁ b₂ b₃ h₄ h₅ k₂ k₃ = refl
subject false true x₃ x₄ x₅ r b₁ b₂ b₃ h₄ h₅ k₂ k₃ = refl
subject false false true x₄ x₅ r b₁ b₂ b₃ h₄ h₅ k₂ k₃ = refl
subject false false false x₄ x₅ r b₁ b₂ b₃ h₄ h₅ k₂ k₃ =
    rw (
      implied_false x₄ false h₄ refl,
      implied_false x₅ false h₅ refl,
      implied_false b₂ false k₂ refl,
      implied_false b₃ false k₃ refl,
    )
    (or_false (r || b₁ || false) ∙ or_false (r || b₁))

primary_reduced : (blob m : List ℕ) → is_primary_context blob m ≡ primary blob m
primary_reduced blob m =
    let rer : (s : String) → contains (around "RER " m "") (around s m "") ≡ true
    → contains (around s m "") blob ≡ true → contains (around "RER " m "") blob ≡ true =
    λ s h. contains_trans (around "RER " m "") (around s m "") blob h in
    subject _ (contains (around "RER" m "") blob) _ _ _ (names (drop 3 subject_rows) blob m)
    (begins (around "LIGNE " m "") blob) _ _
    (rer "TRAVAUX SUR LES RER " (contains_end (text "TRAVAUX SUR LES ") (around "RER " m "")))
    (rer "TRAVAUX SUR LE RER " (contains_end (text "TRAVAUX SUR LE ") (around "RER " m "")))
    (begins_contains (around "METRO " m "") blob)
    (begins_contains (around "RER " m "") blob)

text_reduced : (blob u : List ℕ) → is_empty blob ≡ false
    → text_compatible blob u ≡ text_ok blob (commercial_lines_in_text blob) u
text_reduced blob u e = rw e (go (commercial_lines_in_text blob) (line_contained blob u))
  where
    go : (lines : List (List ℕ)) → (any (λ m. same m u) lines ≡ true → contains u blob ≡ true)
        → cond (is_empty lines) true
        (cond (not (any (λ m. same m u) lines)) false
        (not (is_secondary_line_context blob u && any (λ m. not (same m u) && is_primary_context blob m) lines)))
        ≡ text_ok blob lines u
    go lines h = named_line (is_empty lines) (any (λ m. same m u) lines) refl
      where
        named_line : (x y : Bool) → any (λ m. same m u) lines ≡ y
            → cond x true
            (cond (not y) false
            (not (is_secondary_line_context blob u
            && any (λ m. not (same m u) && is_primary_context blob m) lines)))
            ≡ x || y && not (secondary blob u && any (λ m. not (same m u) && primary blob m) lines)
        named_line true y g = refl
        named_line false false g = refl
        named_line false true g =
            rw (
              secondary_reduced blob u (h g),
              any_same (λ m. not (same m u) && is_primary_context blob m) (λ m. not (same m u) && primary blob m)
                  (λ m. ap (λ x. not (same m u) && x) (primary_reduced blob m)) lines,
            )
            refl

fits_reduced : (a : Alert) (short : List ℕ) → alert_text_compatible_with_leg a short ≡ text_fits a (trim short)
fits_reduced a short =
    rw (text_reduced (leg_blob a) (upper (trim short))
    (blob_nonempty (or_empty_text (header a)) (or_empty_text (description a))))
    (pick_or (is_empty (trim short))
    (text_ok (leg_blob a) (commercial_lines_in_text (leg_blob a)) (upper (trim short))))

pub applies_reduced : (a : Alert) (trip route short from to mode : List ℕ)
    → alert_applies_to_leg_with_mode a trip route short from to mode ≡ applies a trip route short from to mode
applies_reduced a trip route short from to mode =
    rw (
      road_reduced (road_blob a),
      trip_reduced a trip,
      stop_reduced a from,
      stop_reduced a to,
      route_reduced a route short,
      fits_reduced a short,
    )
    (pick_and (is_rail_like_mode mode && road (road_blob a)) (hits a trip route (trim short) from to))
