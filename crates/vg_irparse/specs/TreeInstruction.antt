-- What the concrete tree of an instruction stands for.
use Rattle.std.specs.Prelude.{ℕ, List, [], ◌∷◌, map, cond, Option, Some, None, unwrap_or}
use Rattle.std.specs.Option.{option_map, option_map_or}
use Rattle.vg_ir.specs.declared.name.NameAt.{NameAt}
use Rattle.vg_ir.specs.declared.operand.TypedOperand.{TypedOperand}
use Rattle.vg_ir.specs.declared.operator.BinaryOperator.TheVariants as operators
use Rattle.vg_ir.specs.declared.operator.CastOperator.TheVariants as casts
use Rattle.vg_ir.specs.declared.operator.Predicate.TheVariants as predicates
use Rattle.vg_ir.specs.declared.instruction.Instruction.{Instruction}
use Rattle.vg_ir.specs.declared.instruction.Instruction.TheVariants as instructions
use Rattle.vg_ir.specs.declared.instruction.Count.{Count}
use Rattle.vg_ir.specs.declared.instruction.Index.{Index}
use Rattle.vg_ir.specs.declared.terminator.Terminator.{Terminator}
use Rattle.vg_ir.specs.declared.terminator.Terminator.TheVariants as terminators
use Rattle.vg_ir.specs.declared.terminator.Case.{Case}
use Rattle.vg_ir.specs.declared.block.Phi.{Phi}
use Rattle.vg_ir.specs.declared.block.Incoming.{Incoming}
use Rattle.vg_irparse.specs.Placed.{Placed}
use Rattle.vg_irparse.specs.Text.{number_of, name_bytes, spot}
use Rattle.vg_irparse.specs.Words.{entry_of, operator_words, cast_words, predicate_words}
use Rattle.vg_irparse.specs.Concrete.{ResultName}
use Rattle.vg_irparse.specs.ConcreteInstruction.{CountTree, IndexTree, ArgumentTree, InstructionTree, binary, compare, select, cast, freeze, alloca, load, store, element_pointer, call, CaseTree, TerminatorTree, jump, branch, switch, return, return_void, unreachable, IncomingTree, PhiTree, Paired}
use Rattle.vg_irparse.specs.Tree.{items_of, optional_items, name_at, type_at, result_type, integer_at, operand_of, typed_of, target_of, alignment_of}
use Rattle.vg_irparse.specs.GrammarInstruction.{is_skipped_call}

abbrev pub result_of : ResultName → NameAt
result_of r = name_at r.name

abbrev pub count_of : CountTree → Count
count_of n = record { ty = integer_at n.ty; number = number_of n.number.text; at = spot n.number.at }

abbrev pub index_of : IndexTree → Index
index_of i = record { ty = integer_at i.ty; operand = operand_of i.value }

abbrev pub argument_of : ArgumentTree → TypedOperand
argument_of a = record { ty = type_at a.ty; operand = operand_of a.value }

-- an instruction that isn't skipped
abbrev pub instruction_of : InstructionTree → Instruction
instruction_of (binary r op flags t left comma right) = instructions.Binary (record {
  at = spot op.at;
  result = result_of r;
  operator = unwrap_or (entry_of operator_words op.text) operators.Add;
  ty = type_at t;
  left = operand_of left;
  right = operand_of right;
})
instruction_of (compare r at samesign predicate t left comma right) = instructions.Compare (record {
  at = spot at.at;
  result = result_of r;
  predicate = unwrap_or (entry_of predicate_words predicate.text) predicates.Eq;
  ty = type_at t;
  left = operand_of left;
  right = operand_of right;
})
instruction_of (select r at bit condition comma then second_comma otherwise) = instructions.Select (record {
  at = spot at.at;
  result = result_of r;
  condition = operand_of condition;
  then = typed_of then;
  otherwise = typed_of otherwise;
})
instruction_of (cast r op flags from at_to to) = instructions.Cast (record {
  at = spot op.at;
  result = result_of r;
  operator = unwrap_or (entry_of cast_words op.text) casts.Zext;
  operand = typed_of from;
  target = type_at to;
})
instruction_of (freeze r at from) = instructions.Freeze (record { at = spot at.at; result = result_of r; operand = typed_of from })
instruction_of (alloca r at t n align) = instructions.Alloca (record {
  at = spot at.at;
  result = result_of r;
  ty = type_at t;
  count = option_map count_of n;
  align = option_map alignment_of align;
})
instruction_of (load r at volatile t comma from align) = instructions.Load (record {
  at = spot at.at;
  result = result_of r;
  ty = type_at t;
  pointer = operand_of from.value;
})
instruction_of (store at volatile value comma to align) = instructions.Store (record { at = spot at.at; value = typed_of value; pointer = operand_of to.value })
instruction_of (element_pointer r at flags t comma base indices) = instructions.ElementPointer (record {
  at = spot at.at;
  result = result_of r;
  ty = type_at t;
  pointer = operand_of base.value;
  indices = map index_of indices;
})
instruction_of (call r tail at convention attributes gives function opening arguments closing function_attributes) = instructions.Call (record {
  at = spot at.at;
  result = option_map result_of r;
  gives = result_type gives;
  callee = name_at function;
  arguments = map argument_of (optional_items arguments);
})

-- instructions without the calls that are skipped
abbrev pub instructions_of : List (Paired InstructionTree) → List Instruction
instructions_of [] = []
instructions_of (i ∷ is) = cond (is_skipped_call i.body) (instructions_of is) (instruction_of i.body ∷ instructions_of is)

abbrev pub case_of : CaseTree → Case
case_of c = record { ty = type_at c.ty; number = number_of c.number.text; at = spot c.number.at; target = target_of c.target }

abbrev pub terminator_of : TerminatorTree → Terminator
terminator_of (jump at target) = terminators.Jump (record { at = spot at.at; target = target_of target })
terminator_of (branch at bit condition comma then second_comma otherwise) = terminators.Branch (record {
  at = spot at.at;
  condition = operand_of condition;
  then = target_of then;
  otherwise = target_of otherwise;
})
terminator_of (switch at value comma otherwise opening cases closing) = terminators.Switch (record {
  at = spot at.at;
  value = typed_of value;
  otherwise = target_of otherwise;
  cases = map case_of cases;
})
terminator_of (return at value) = terminators.Return (record { at = spot at.at; value = Some (typed_of value) })
terminator_of (return_void at void) = terminators.Return (record { at = spot at.at; value = None })
terminator_of (unreachable at) = terminators.Unreachable (spot at.at)

abbrev pub incoming_of : IncomingTree → Incoming
incoming_of i = record { operand = operand_of i.value; block = name_at i.block }

abbrev pub phi_of : PhiTree → Phi
phi_of p = record { at = spot p.at.at; result = result_of p.result_name; ty = type_at p.ty; incoming = map incoming_of (items_of p.incoming) }
