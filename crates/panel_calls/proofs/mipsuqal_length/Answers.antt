-- `mipsuqal_length` meets its contract.
use mathlib.Core.Path.{sym}
use lib.ListN.{get_or-eq_default}
use borrow.Author.Rules.{rules}
use Rattle.panel.specs.Lengths.{published_lengths}
use Rattle.panel_calls.proofs.mipsuqal_length.Goals as goal

pub returns : goal.returns
returns c = sym (get_or-eq_default published_lengths 0 c.if-i-lt11.false)
