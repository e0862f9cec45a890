-- Law. What opening a buffer says of its end.
use Rattle.std.specs.Prelude.{◌≡◌, refl, List, ℕ, Option, Some, None}
use Rattle.std.proofs.Common.{sym, ◌∙◌, arith}
use Rattle.std.proofs.Math.Option.{Option as LogicOption, none, some}
use Rattle.overlay.specs.State.{State}
use Rattle.overlay_open.specs.Promises.Opened.{ending}
use Rattle.panel_probes.specs.States.{end_of}

pub no_end : (o : LogicOption State) {r : Option ℕ} → r ≡ ending o → r ≡ None → 0 ≡ end_of o
no_end none e h = refl
no_end (some s) e h = absurd (let k = sym h ∙ e in let z : ◌≡◌ {A = ℕ} 0 1 = cc in omega arith)

pub its_end : (o : LogicOption State) {r : Option ℕ} {p : ℕ} → r ≡ ending o → r ≡ Some p → p ≡ end_of o
its_end none e h = absurd (let k = sym h ∙ e in let z : ◌≡◌ {A = ℕ} 0 1 = cc in omega arith)
its_end (some s) e h = let k = sym h ∙ e in cc
