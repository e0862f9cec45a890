-- Law. Each answer of the probe of lines is the promised one.
use Rattle.std.specs.Prelude.{◌≡◌, refl, List, ℕ, ◌≤◌, ◌<◌, length, take, Option, Some, None}
use Rattle.std.proofs.Common.{sym, ap, ◌∙◌, arith}
use Rattle.alerts.specs.Applies.{idfm_product_to_short}
use Rattle.alerts_ids.specs.Promises.Products.{shown_in, taken, Named}
use Rattle.alerts_probes.specs.Probes.{line_in, LineShown}

module _ (code old : List ℕ) where
  pub line_no_room : length old < 3 → LineShown code 4 old old
  line_no_room h = record {
    no_room = λ _. refl;
    is = λ g. absurd (omega (arith, g, h));
    within = λ g. absurd (omega (arith, g, h));
  }

  module _ {r : Option ℕ} {new : List ℕ} (room : 3 ≤ length old)
      (N : Named (idfm_product_to_short code) r old new) where
    shown : (l : Option ℕ) → r ≡ l → take (taken l) new ≡ line_in (shown_in new l) → LineShown code (taken l) old new
    shown l e t = record {
      no_room = λ h. absurd (omega (arith, room, h));
      is = λ _. t ∙ ap (λ q. line_in (shown_in new q)) (sym e) ∙ ap line_in (sym N.is);
      within = λ _. omega (arith, ap taken e, N.within);
    }

    pub line_none : r ≡ None → LineShown code 0 old new
    line_none e = shown None e refl

    pub line_some : {k : ℕ} → r ≡ Some k → LineShown code k old new
    line_some {k} e = shown (Some k) e refl
