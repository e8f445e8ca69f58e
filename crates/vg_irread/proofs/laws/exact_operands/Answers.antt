-- By the trees of operands.
use Rattle.vg_irread.proofs.TypesExact.{type_exact}
use Rattle.vg_irread.proofs.OperandsExact.{result_name_exact, operand_exact, any_typed_exact, value_exact}
use Rattle.vg_irread.proofs.laws.exact_operands.Goals as goal

pub returns-clause-types : goal.returns-clause-types
returns-clause-types c = type_exact

pub returns-clause-names : goal.returns-clause-names
returns-clause-names c = result_name_exact

pub returns-clause-operands : goal.returns-clause-operands
returns-clause-operands c = operand_exact

pub returns-clause-typed : goal.returns-clause-typed
returns-clause-typed c = any_typed_exact

pub returns-clause-values : goal.returns-clause-values
returns-clause-values c = value_exact
