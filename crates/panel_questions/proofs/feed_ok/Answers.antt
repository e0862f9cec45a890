-- `feed_ok` meets its contract.
use borrow.Author.Rules.{rules}
use Rattle.panel_questions.specs.Laws.Whole.{feed_so}
use Rattle.panel_questions.proofs.feed_ok.Goals as goal

pub returns : goal.returns
returns c = feed_so c.args.feed.now c.text.ensures
