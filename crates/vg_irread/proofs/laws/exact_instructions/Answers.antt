-- By the trees of instructions.
use Rattle.vg_irread.proofs.BinaryExact.{binary_exact}
use Rattle.vg_irread.proofs.InstructionsExact.{compare_exact, select_exact, cast_exact, freeze_exact}
use Rattle.vg_irread.proofs.OperationExact.{operation_exact}
use Rattle.vg_irread.proofs.laws.exact_instructions.Goals as goal

pub returns-clause-binary : goal.returns-clause-binary
returns-clause-binary c = binary_exact

pub returns-clause-compare : goal.returns-clause-compare
returns-clause-compare c = compare_exact

pub returns-clause-select : goal.returns-clause-select
returns-clause-select c = select_exact

pub returns-clause-cast : goal.returns-clause-cast
returns-clause-cast c = cast_exact

pub returns-clause-freeze : goal.returns-clause-freeze
returns-clause-freeze c = freeze_exact

pub returns-clause-by_word : goal.returns-clause-by_word
returns-clause-by_word c = operation_exact
