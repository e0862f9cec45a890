-- `formats::leaf` meets its contract.
use Rattle.formats.proofs.Parts.{begins}
use Rattle.formats.proofs.Passes.{leaf_1, leaf_6, leaf_6_bad, leaf_7, leaf_bad, leaf_4, leaf_4_over}
use Rattle.formats.proofs.Passes.{leaf_5, leaf_23}
use Rattle.formats.proofs.leaf.Goals as goal

pub returns-in_err-p-in-6 : goal.returns-in_err-p-in-6
returns-in_err-p-in-6 c = rw c.from_residual.ensures (search (leaf_6_bad, c.in_err-p-in-6.was))

pub returns-in_err-n-in_default : goal.returns-in_err-n-in_default
returns-in_err-n-in_default c = rw c.from_residual-in_err-n-in_default.ensures
    (search (leaf_bad, begins, c.in_err-n-in_default.was))

pub returns-in-1 : goal.returns-in-1
returns-in-1 c = search leaf_1

pub returns-in_ok-p-in-6 : goal.returns-in_ok-p-in-6
returns-in_ok-p-in-6 c = search (leaf_6, c.in_ok-p-in-6.was)

pub returns-in-7 : goal.returns-in-7
returns-in-7 c = search leaf_7

pub returns-in-4 : goal.returns-in-4
returns-in-4 c = search (leaf_4_over, c.in_ok-n-in_default.was)

pub returns-in-5 : goal.returns-in-5
returns-in-5 c = search (leaf_5, c.in_ok-n-in_default.was)

pub returns-in_default-kind : goal.returns-in_default-kind
returns-in_default-kind c = search (leaf_4, c.in_ok-n-in_default.was)

pub returns-in_default-kind-2 : goal.returns-in_default-kind-2
returns-in_default-kind-2 c = search (leaf_23, begins, c.in_default, c.in_default-kind, c.in_ok-n-in_default.was)
