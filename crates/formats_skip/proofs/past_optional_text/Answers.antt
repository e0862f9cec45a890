-- `past_optional_text` meets its contract.
use Rattle.formats_skip.proofs.past_optional_text.Goals as goal

pub returns : goal.returns
returns c = c.past_optional.ensures _ (λ t p r e. e)
