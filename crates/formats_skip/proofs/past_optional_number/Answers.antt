-- `past_optional_number` meets its contract.
use Rattle.formats_skip.proofs.past_optional_number.Goals as goal

pub returns : goal.returns
returns c = c.past_optional.ensures _ (λ t p r e. e)
