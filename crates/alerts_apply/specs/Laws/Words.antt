-- Law. What is known of an alert's texts stays so, and the tests by it give what they give without.
use Rattle.std.specs.Prelude.{◌≡◌, refl, List, [], ◌∷◌, Bool, true, false, not, ℕ, ◌+◌, ◌-◌, ltb, length, get_or, take, drop, set, replicate}
use Rattle.std.proofs.Common.{sym, ap, ◌∙◌, arith, length-set, get_or-set_same, get_or-set_other, ltb-false}
use Rattle.std.proofs.lemmas.Bool.{not-true}
use Rattle.formats.specs.Class as Class
use Rattle.formats.specs.Format.{text, optional}
use Rattle.formats_write.specs.Laws.Slices.{slice_is}
use Rattle.formats_read.specs.Promises.Here.{Here}
use Rattle.formats_skip.specs.Promises.Passes.{Passes}
use Rattle.alerts.specs.Alert.{alert, Alert, header, or_empty_text}
use Rattle.alerts.specs.Text.{upper}
use Rattle.alerts.specs.Applies.{leg_blob}
use Rattle.alerts.specs.Promises.Reduced.{text_fits}
use Rattle.alerts_lines.specs.Promises.Lines.{named_of}
use Rattle.alerts_text.specs.Promises.Word.{bits_of, word_of}
use Rattle.alerts_text.specs.Promises.Marked.{ok_for, blob_of, NamedFits, FirstFits, SettlesName}
use Rattle.alerts_text.specs.declared.lines.Settled.{Settled}
use Rattle.alerts_text.specs.declared.lines.Settled.TheVariants.{Right, Wrong}
use Rattle.alerts_text.specs.Laws.Word.{kept_lines}
use Rattle.alerts_apply.specs.Promises.Texts.{Shown, Road}
use Rattle.alerts_apply.specs.Promises.Words.{WordsSay, road_word, RoadKnown, Fits, FitsAgain}
use Rattle.alerts_apply.specs.Promises.Words.{FitsKnown, LinesIn}
use Rattle.alerts_apply.specs.Laws.Texts.{of_header, of_description, part_is}

-- ---- road traffic

module _ {s : List ℕ} {p : ℕ} {old w : List ℕ} where
  pub road_not : get_or w 0 0 ≡ 1 → RoadKnown s p false old old w w
  road_not e = record { kept = refl; words = refl; says = λ S. S; is = λ S h l. S.not_road h l e }

  pub road_is : get_or w 0 0 ≡ 2 → RoadKnown s p true old old w w
  road_is e = record { kept = refl; words = refl; says = λ S. S; is = λ S h l. S.is_road h l e }

  pub road_found : {new : List ℕ} {r : Bool} {x : ℕ} → length w ≡ 3 → Road s p r old new → x ≡ road_word r
      → RoadKnown s p r old new w (set w 0 x)
  road_found {new} {r} {x} long R e = record {
    kept = R.kept;
    words = length-set w 0 x;
    says = λ S. record {
      not_road = λ h l f. no r (R.is h l) (sym e ∙ sym first ∙ f);
      is_road = λ h l f. yes r (R.is h l) (sym e ∙ sym first ∙ f);
      named = λ h f. rw marks (S.named h (sym flag ∙ f));
    };
    is = λ S h l. R.is h l;
  }
    where
      flag : get_or (set w 0 x) 1 0 ≡ get_or w 1 0
      flag = get_or-set_other w 0 1 x 0 (λ z. omega arith)

      marks : get_or (set w 0 x) 2 0 ≡ get_or w 2 0
      marks = get_or-set_other w 0 2 x 0 (λ z. omega arith)

      first : get_or (set w 0 x) 0 0 ≡ x
      first = get_or-set_same w 0 x 0 (omega arith)

      no : (r : Bool) {y : Bool} → r ≡ y → road_word r ≡ 1 → false ≡ y
      no true g f = absurd (omega arith)
      no false g f = g

      yes : (r : Bool) {y : Bool} → r ≡ y → road_word r ≡ 2 → true ≡ y
      yes true g f = g
      yes false g f = absurd (omega arith)

pub road_word_yes : (r : Bool) → r ≡ true → 2 ≡ road_word r
road_word_yes r e = rw e refl

pub road_word_no : (r : Bool) → r ≡ false → 1 ≡ road_word r
road_word_no r e = rw e refl

-- ---- the lines are known

module _ {word : ℕ} {h d short named old one : List ℕ} {w : Settled} (e : named ≡ bits_of 32 word)
    (S : SettlesName named short w old one) where
  pub again_right : w ≡ Right → FitsAgain word h d short true old one
  again_right f = record { kept = S.kept; is = λ L. sym (S.is (blob_of h d) (rw e L) ∙ rw f refl) }

  pub again_wrong : w ≡ Wrong → FitsAgain word h d short false old one
  again_wrong f = record { kept = S.kept; is = λ L. sym (S.is (blob_of h d) (rw e L) ∙ rw f refl) }

  pub again_open : {two : List ℕ} {r : Bool} → NamedFits named h d short r one two → FitsAgain word h d short r old two
  again_open F = record { kept = F.kept ∙ S.kept; is = λ L. F.is (rw e L) }

module _ {h d short old new w : List ℕ} {r : Bool} where
  pub known_again : get_or w 1 0 ≡ 1 → FitsAgain (get_or w 2 0) h d short r old new → FitsKnown h d short r old new w w
  known_again e F = record {
    kept = F.kept;
    words = refl;
    road = refl;
    lines = λ L. L;
    is = λ L. F.is (L e);
  }

  pub known_first : {named : List ℕ} {x : ℕ} → length w ≡ 3 → FirstFits h d short r old new (replicate 32 0) named
      → length named ≡ 32 → x ≡ word_of named → FitsKnown h d short r old new w (set (set w 2 x) 1 1)
  known_first {named} {x} long F m e = record {
    kept = F.kept;
    words = length-set (set w 2 x) 1 1 ∙ length-set w 2 x;
    road = get_or-set_other (set w 2 x) 1 0 1 0 (λ z. omega arith) ∙ get_or-set_other w 2 0 x 0 (λ z. omega arith);
    lines = λ L f. rw marks (kept_lines (named_of (blob_of h d)) named x m e (F.lines refl));
    is = λ L. F.is refl;
  }
    where
      marks : get_or (set (set w 2 x) 1 1) 2 0 ≡ x
      marks = get_or-set_other (set w 2 x) 1 2 1 0 (λ z. omega arith) ∙ get_or-set_same w 2 x 0 (omega arith)

-- ---- may the texts be about the line

pub fits_empty : {s short old w : List ℕ} {p : ℕ} → length short ≡ 0 → Fits s p short true old old w w
fits_empty {short = short} e = record {
  kept = refl;
  words = refl;
  says = λ S. S;
  is = λ S {a} h l. go short e a;
}
  where
    go : (s : List ℕ) → length s ≡ 0 → (a : Alert) → true ≡ text_fits a s
    go [] e a = refl
    go (b ∷ s) e a = absurd (omega arith)

module _ {s : List ℕ} {p m a b c e : ℕ} (H : Shown s p a b) (P : Passes (optional (text 0 Class.any)) s p m)
    (D : Shown s m c e) where
  blob_is : {v : Alert} {q : ℕ} → Here alert s p q v
      → blob_of (take (b - a) (drop a s)) (take (e - c) (drop c s)) ≡ leg_blob v
  blob_is {v} h =
      let x = slice_is a b s H.forward H.within ∙ of_header H h in
      let y = slice_is c e s D.forward D.within ∙ of_description P D h in
      ap (λ t. blob_of t (take (e - c) (drop c s))) x ∙ ap (blob_of (or_empty_text (header v))) y

module _ {s short old : List ℕ} {p m a b c e : ℕ} (H : Shown s p a b) (P : Passes (optional (text 0 Class.any)) s p m)
    (D : Shown s m c e) where
  pub fits_no_room : {t : Bool} {w : List ℕ} → t ≡ ltb (b - a + (e - c) + length short + 1) (length old)
      → not t ≡ true → Fits s p short true old old w w
  fits_no_room {t} f g = record {
    kept = refl;
    words = refl;
    says = λ S. S;
    is = λ S {a = v} h r.
        let x = part_is s a b H.forward H.within (of_header H h) in
        let y = part_is s c e D.forward D.within (of_description P D h) in
        absurd (omega (arith, ltb-false (b - a + (e - c) + length short + 1) (length old) (sym f ∙ not-true t g)));
  }

  pub fits_told : {new w w' : List ℕ} {r : Bool} → (length short ≡ 0 → ⊥)
      → FitsKnown (take (b - a) (drop a s)) (take (e - c) (drop c s)) short r old new w w'
      → Fits s p short r old new w w'
  fits_told {new} {w} {w'} {r} z F = record {
    kept = F.kept;
    words = F.words;
    says = λ S. record {
      not_road = λ h l f. S.not_road h l (sym F.road ∙ f);
      is_road = λ h l f. S.is_road h l (sym F.road ∙ f);
      named = λ h f. rw (blob_is H P D h) at (F.lines (known S h) f);
    };
    is = λ S {a = v} h l. F.is (known S h) ∙ ap (λ x. ok_for x (upper short)) (blob_is H P D h) ∙ go short z v;
  }
    where
      known : WordsSay (length old) s p w → {v : Alert} {q : ℕ} → Here alert s p q v
          → LinesIn (take (b - a) (drop a s)) (take (e - c) (drop c s)) w
      known S h f = rw (blob_is H P D h) (S.named h f)

      go : (u : List ℕ) → (length u ≡ 0 → ⊥) → (v : Alert) → ok_for (leg_blob v) (upper u) ≡ text_fits v u
      go [] z v = absurd (z refl)
      go (x ∷ u) z v = refl
