-- `decode::decimal` writes a number in decimal: the digits in front first. Assumes nothing.
use Rattle.decode.proofs.+decimal.Given as goal

abbrev pub decreases-decimal : goal.decreases-decimal
decreases-decimal l = l.k
