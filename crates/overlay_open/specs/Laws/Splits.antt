-- Law. A test is annotations and a rule: a law for each way of putting tests together.
use Rattle.std.specs.Prelude.{◌≡◌, refl, Bool, true, ◌&&◌, List, [], ◌∷◌, ℕ, leb, length}
use Rattle.std.proofs.Common.{sym, ap, ◌∙◌}
use Rattle.basics.specs.Lists.{all}
use Rattle.basics.specs.Laws.Booleans.{and_assoc, and_yes}
use Rattle.maps.specs.Map.{ascending}
use Rattle.maps.specs.Order.{texts}
use Rattle.formats.specs.Class.{Class}
use Rattle.formats.specs.Format.{Format, text, list}
use Rattle.formats.specs.Format.{◌&◌, Value}
use Rattle.formats_check.specs.Promises.Checked.{Test, own, behind, under, both, also, holds, fine}
use Rattle.formats_check.specs.Laws.Climbing.{climbs_good, climb_test, Weight, weight}
use Rattle.overlay_open.specs.Laws.Fine.{cross}

-- the test t asks for the annotations of f and for the rule A
pub record Splits {f : Format} (t : Test f) (A : Value f → Bool) : Type 0 where
  pub on : (v : Value f) → (fine f v && A v) ≡ holds t v

abbrev pub always : {A : Type 0} → A → Bool
always a = true

pub split_own : (f : Format) → Splits (own f (fine f)) always
split_own f = record { on = λ v. and_yes (fine f v) }

pub split_behind : {a b : Format} {t : Test b} {A : Value b → Bool} → Splits t A → Splits (behind a t) (λ v. A v.1)
split_behind {a} {b} {t} {A} S =
    record {
      on = λ v. and_assoc (fine a v.0) (fine b v.1) (A v.1) ∙ ap (λ x. fine a v.0 && x) (S.on v.1);
    }

pub split_under : {a b : Format} {t : Value a → Test b} {A : Value a → Value b → Bool}
    → ((x : Value a) → Splits (t x) (A x)) → Splits (under a t) (λ v. A v.0 v.1)
split_under {a} {b} {t} {A} S =
    record {
      on = λ v.
          and_assoc (fine a v.0) (fine b v.1) (A v.0 v.1)
          ∙ ap (λ x. fine a v.0 && x) ((S v.0).on v.1);
    }

pub split_both : {a b : Format} {t : Test a} {u : Test b} {A : Value a → Bool} {B : Value b → Bool} → Splits t A
    → Splits u B → Splits (both t u) (λ v. A v.0 && B v.1)
split_both {a} {b} {t} {u} {A} {B} S U =
    record {
      on = λ v.
          cross (fine a v.0) (fine b v.1) (A v.0) (B v.1) ∙ rw (S.on v.0, U.on v.1) refl;
    }

pub split_also : {f : Format} {t : Test f} {A : Value f → Bool} (Q : Value f → Bool) → Splits t A
    → Splits (also t Q) (λ v. A v && Q v)
split_also {f} {t} {A} Q S =
    record { on = λ v. sym (and_assoc (fine f v) (A v) (Q v)) ∙ ap (λ x. x && Q v) (S.on v) }

-- two rules that agree
pub split_as : {f : Format} {t : Test f} {A : Value f → Bool} (B : Value f → Bool) → Splits t A
    → ((v : Value f) → B v ≡ A v) → Splits t B
split_as {f} {t} {A} B S h = record { on = λ v. ap (λ x. fine f v && x) (h v) ∙ S.on v }

all_two : {A : Type 0} (p q t : A → Bool) → ((x : A) → (p x && q x) ≡ t x) → (v : List A)
    → (all p v && all q v) ≡ all t v
all_two p q t h [] = refl
all_two p q t h (x ∷ v) = cross (p x) (all p v) (q x) (all q v) ∙ rw (h x, all_two p q t h v) refl

module _ {l : ℕ} {c : Class} {g : Format} {t : Test (text l c & g)} {A : Value (text l c & g) → Bool} (S : Splits t A)
    (w : Weight (Value g)) (d : ℕ → ℕ → Bool) (m : ℕ) where
  abbrev pub climb_rule : List (List ℕ × Value g) → Bool
  climb_rule v = (all A v && ascending texts v) && d (length v) (weight w v)

  pub split_climb : Splits (climb_test l c t w d m) climb_rule
  split_climb = record { on = go }
    where
      go : (v : List (List ℕ × Value g)) → (fine (list m (text l c & g)) v && climb_rule v) ≡ climbs_good l c t w d m v
      go v =
          and_assoc (leb (length v) m) (all (fine (text l c & g)) v) (climb_rule v)
          ∙ ap (λ x. leb (length v) m && x)
          (sym (and_assoc (all (fine (text l c & g)) v) (all A v && ascending texts v) (d (length v) (weight w v)))
          ∙ ap (λ x. x && d (length v) (weight w v))
          (sym (and_assoc (all (fine (text l c & g)) v) (all A v) (ascending texts v))
          ∙ ap (λ x. x && ascending texts v) (all_two (fine (text l c & g)) A (holds t) S.on v)))
