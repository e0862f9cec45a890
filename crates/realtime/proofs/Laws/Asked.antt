-- Law. What each judgement of a message says: of its form, of its texts, of its numbers.
use Rattle.std.specs.Prelude.{ℕ, ◌≡◌, refl, Bool, true, false, cond, ◌↔◌}
use Rattle.std.proofs.Common.{subst}
use Rattle.std.proofs.Math.Option.{Option, none, some}
use Rattle.realtime.specs.Tree.{Tree}
use Rattle.realtime.specs.Judge.{Rules, texts_fine, numbers_fine, asked}
use Rattle.realtime.specs.declared.Verdict.{Verdict}

module _ (ρ : Rules) (t : ℕ) where
  -- the no of a question comes with the yes of those before it
  abbrev pub Says : Option Tree → Verdict → Type 0
  Says o Verdict.Broken = o ≡ none
  Says o Verdict.Text = (m : Tree) × (o ≡ some m) × (texts_fine ρ t m ≡ false)
  Says o Verdict.Time = (m : Tree) × (o ≡ some m) × (texts_fine ρ t m ≡ true) × (numbers_fine ρ t m ≡ false)
  Says o Verdict.Fine = (m : Tree) × (o ≡ some m) × (texts_fine ρ t m ≡ true) × (numbers_fine ρ t m ≡ true)

  said : (m : Tree) (x y : Bool) → texts_fine ρ t m ≡ x → numbers_fine ρ t m ≡ y
      → Says (some m) (cond x (cond y Verdict.Fine Verdict.Time) Verdict.Text)
  said m false y p q = (m, refl, p)
  said m true false p q = (m, refl, p, q)
  said m true true p q = (m, refl, p, q)

  is_said : (o : Option Tree) → Says o (asked ρ t o)
  is_said none = refl
  is_said (some m) = said m (texts_fine ρ t m) (numbers_fine ρ t m) refl refl

  back : (o : Option Tree) (v : Verdict) → Says o v → asked ρ t o ≡ v
  back o Verdict.Broken e = rw e refl
  back o Verdict.Text h = rw (h.1, h.2) refl
  back o Verdict.Time h = rw (h.1, h.2, h.3) refl
  back o Verdict.Fine h = rw (h.1, h.2, h.3) refl

  -- EACH JUDGEMENT, AND WHERE IT IS GIVEN: Fine exactly of a message that is whole, with fine texts and fine numbers
  pub asked_says : (o : Option Tree) (v : Verdict) → (asked ρ t o ≡ v) ↔ Says o v
  asked_says o v = (λ e. subst (Says o) e (is_said o), back o v)
