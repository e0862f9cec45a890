-- `decode_write::put_flag` meets its contract. Assumes nothing.
use mathlib.Core.Path.{◌≡◌, refl, ap, ◌∙◌}
use mathlib.Core.Bool.{Bool, true, false}
use mathlib.Core.List.{[], ◌∷◌}
use mir.Val.{bool_byte}
use Rattle.formats.specs.Number.{number_w}
use Rattle.formats_write.specs.Laws.Adds.{same}
use Rattle.decode.specs.Record.{bit}
use Rattle.decode_write.proofs.put_flag.Goals as goal

flag_w : (b : Bool) → (bool_byte b ∷ []) ≡ number_w (bit b)
flag_w true = refl
flag_w false = refl

pub returns : goal.returns
returns c = same c.byte.ensures (ap (λ n. n ∷ []) c.from.ensures ∙ flag_w c.args.b)
