-- Law. Questions 5, 6 and 7 of a value, each put to the whole, are what `fine` asks part by part: for every format.
use Rattle.std.specs.Prelude.{◌≡◌, refl, Bool, true, false, ◌&&◌, List, [], ◌∷◌, leb, length}
use Rattle.std.proofs.Common.{ap, ◌∙◌, inl, inr}
use Rattle.basics.specs.Lists.{all}
use Rattle.basics.specs.Laws.Booleans.{and_yes}
use Rattle.formats.specs.Class.{in_class}
use Rattle.formats.specs.Format.{Format, never, empty, number, signed, small, text, float, constant, list, choice}
use Rattle.formats.specs.Format.{◌&◌, Value}
use Rattle.formats_judge.specs.Judged.{ok, at_most}
use Rattle.formats_check.specs.Promises.Checked.{fine}

-- pairs of tests, joined the other way
pub cross : (a b c d : Bool) → ((a && b) && (c && d)) ≡ ((a && c) && (b && d))
cross true true c d = refl
cross true false true d = refl
cross true false false d = refl
cross false b c d = refl

three : (a b c x y z : Bool) → ((a && x) && ((b && y) && (c && z))) ≡ ((a && (b && c)) && (x && (y && z)))
three a b c x y z = ap (λ t. (a && x) && t) (cross b y c z) ∙ cross a x (b && c) (y && z)

counts : (a b n c : Bool) → (a && (b && (n && c))) ≡ (n && (a && (b && c)))
counts true true n c = refl
counts true false true c = refl
counts true false false c = refl
counts false b true c = refl
counts false b false c = refl

three_all : {A : Type 0} (p q r t : A → Bool) → ((x : A) → (p x && (q x && r x)) ≡ t x) → (v : List A)
    → (all p v && (all q v && all r v)) ≡ all t v
three_all p q r t h [] = refl
three_all p q r t h (x ∷ v) =
    three (p x) (q x) (r x) (all p v) (all q v) (all r v) ∙ rw (h x, three_all p q r t h v) refl

-- QUESTIONS 5, 6 AND 7 IN ONE
pub within_fine : (f : Format) (v : Value f) → (ok 5 f v && (ok 6 f v && ok 7 f v)) ≡ fine f v
within_fine never v = refl
within_fine empty v = refl
within_fine (number lo hi) v = and_yes (leb lo v && leb v hi)
within_fine (signed lo hi) v = and_yes (at_most lo v && at_most v hi)
within_fine (small k) v = refl
within_fine (text l c) v = and_yes (leb (length v) l && in_class c v)
within_fine float v = refl
within_fine (constant c) v = refl
within_fine (list l f) v =
    counts (all (ok 5 f) v) (all (ok 6 f) v) (leb (length v) l) (all (ok 7 f) v)
    ∙ ap (λ t. leb (length v) l && t) (three_all (ok 5 f) (ok 6 f) (ok 7 f) (fine f) (within_fine f) v)
within_fine (choice a b) (inl x) = within_fine a x
within_fine (choice a b) (inr y) = within_fine b y
within_fine (a & b) v =
    three (ok 5 a v.0) (ok 6 a v.0) (ok 7 a v.0) (ok 5 b v.1) (ok 6 b v.1) (ok 7 b v.1)
    ∙ rw (within_fine a v.0, within_fine b v.1) refl
