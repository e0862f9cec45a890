-- `alerts_apply::texts::label` meets its contract.
use Rattle.alerts_apply.specs.Laws.Texts.{label_header, label_description}
use Rattle.alerts_apply.proofs.texts.label.Goals as goal

pub returns-then-present : goal.returns-then-present
returns-then-present c = search label_header

pub returns : goal.returns
returns c =
    label_description c.text_at-description.result.from c.text_at-description.result.to _ _
    c.is_given-present.ensures c.if-present.false c.past_optional_text.ensures c.text_at-description.ensures
    c.label-n.ensures
