-- `formats_text::all_in_token` meets its contract.
use Rattle.std.proofs.Common.{◌∙◌, rules, tests}
use Rattle.std.proofs.lemmas.Iterator.{YieldsList-from_slice}
use Rattle.std.proofs.lemmas.Iterator.Search.{all_from_yields_List}
use Rattle.formats.specs.Class.{token, allowed}
use Rattle.formats_text.proofs.Bytes.{all_is}
use Rattle.formats_text.proofs.all_in_token.Goals as goal

pub returns : goal.returns
returns c =
    all_from_yields_List (allowed token) _ _ _ c.all.ensures.ran (YieldsList-from_slice c.args.v.now cc)
    (λ x b q k. search (rules, tests))
    ∙ all_is (allowed token) c.args.v.now
