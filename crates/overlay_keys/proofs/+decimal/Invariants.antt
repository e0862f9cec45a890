-- `overlay_keys::decimal` meets its contract.
use Rattle.overlay_keys.proofs.+decimal.Given as goal

abbrev pub decreases-decimal : goal.decreases-decimal
decreases-decimal l = l.k
