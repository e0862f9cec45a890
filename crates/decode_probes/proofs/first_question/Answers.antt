-- `decode_probes::first_question` meets its contract, question by question. Assumes nothing.
use mathlib.Core.Path.{sym, ◌∙◌}
use mathlib.Core.Bool.{cond}
use Rattle.decode_probes.specs.Indexing.{are_old, message_question}
use Rattle.decode_probes.proofs.first_question.Goals as goal

pub returns-then-are_old : goal.returns-then-are_old
returns-then-are_old c =
    let a = c.args in
    c.message_question.ensures ∙ (λ j. cond
    ((sym c.if-is_sized.true ∙ c.is_sized.ensures) j)
    (cond ((sym c.if-are_old.true ∙ c.are_old.ensures) j)
    (message_question a.feed.now a.s.now) 2) 1)

pub returns-then-is_sized : goal.returns-then-is_sized
returns-then-is_sized c =
    λ j. let a = c.args in
    cond ((sym c.if-is_sized.true ∙ c.is_sized.ensures) j)
    (cond ((sym c.if-are_old.false ∙ c.are_old.ensures) j) (message_question a.feed.now a.s.now) 2)
    1

pub returns : goal.returns
returns c =
    λ j. let a = c.args in
    cond ((sym c.if-is_sized.false ∙ c.is_sized.ensures) j)
    (cond (are_old a.old.now) (message_question a.feed.now a.s.now) 2) 1
