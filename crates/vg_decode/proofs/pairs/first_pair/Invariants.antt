use Rattle.std.proofs.Common.{◌≡◌, length}
use Rattle.vg_decode.specs.Pairs.{first_pair}
use Rattle.vg_decode.proofs.pairs.first_pair.Given as goal

-- those so far share no word, so those that are left decide
abbrev pub invariant-loop-left : goal.invariant-loop-left
invariant-loop-left l = first_pair l.left ≡ first_pair l.candidates

abbrev pub decreases-loop-left : goal.decreases-loop-left
decreases-loop-left l = length l.left
