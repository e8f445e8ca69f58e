use Rattle.std.proofs.Common.{◌≡◌, ◌++◌, length}
use Rattle.vg_irparse.specs.Text.{unescaped}
use Rattle.vg_irparse.proofs.name.unescaped.Given as goal

-- the bytes so far and what is left
abbrev pub invariant-loop-rest : goal.invariant-loop-rest
invariant-loop-rest l = l.bytes ++ unescaped l.rest ≡ unescaped l.text

abbrev pub decreases-loop-rest : goal.decreases-loop-rest
decreases-loop-rest l = length l.rest
