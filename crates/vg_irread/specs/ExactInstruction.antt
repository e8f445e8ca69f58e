-- Instructions, as they are spelled.
use Rattle.std.specs.Prelude.{ℕ, ◌&&◌, Bool, true, false, List, [], ◌∷◌}
use Rattle.vg_ir.specs.declared.instruction.Instruction.{Instruction}
use Rattle.vg_irparse.specs.Placed.{Placed}
use Rattle.vg_irparse.specs.Grammar.{are_flags}
use Rattle.vg_irparse.specs.GrammarInstruction.{is_instruction}
use Rattle.vg_irparse.specs.Spelling.{spelled_list, spelled_free}
use Rattle.vg_irparse.specs.SpellingInstruction.{spelled_instruction}
use Rattle.vg_irparse.specs.ConcreteInstruction.{InstructionTree, binary, compare, select, cast, freeze, alloca, load, store, element_pointer, call}
use Rattle.vg_irparse.specs.TreeInstruction.{instruction_of}
use Rattle.vg_irparse.specs.ExactType.{nesting}
use Rattle.vg_irread.specs.Kinds.{local}
use Rattle.vg_irread.specs.Reading.{Reader, ◌>>=◌}
use Rattle.vg_irread.specs.ReadingOperand.{result_name_at}
use Rattle.vg_irread.specs.ReadingInstruction.{binary_at, compare_at, select_at, cast_at, freeze_at, operation_at}
use Rattle.vg_irread.specs.Exact.{Spelling, IsExact}

-- flags of these words, in this order
abbrev pub flags : List (List ℕ) → Spelling (List Placed) (Unit {0})
flags ws = record { grammar = are_flags ws; spelled = spelled_list spelled_free; means = λ fs. tt; nests = λ fs. 0 }

-- how many brackets stand in one another in the types of an instruction
abbrev pub type_nesting : InstructionTree → ℕ
type_nesting (binary r op flags t left comma right) = 0
type_nesting (compare r at samesign predicate t left comma right) = nesting t
type_nesting (select r at bit condition comma then second_comma otherwise) = nesting otherwise.ty
type_nesting (cast r op flags from at_to to) = nesting from.ty
type_nesting (freeze r at from) = 0
type_nesting (alloca r at t n align) = nesting t
type_nesting (load r at volatile t comma from align) = 0
type_nesting (store at volatile value comma to align) = 0
type_nesting (element_pointer r at flags t comma base indices) = nesting t
type_nesting (call r tail at convention attributes gives function opening arguments closing function_attributes) = 0

-- the instructions of one form
abbrev pub an_instruction : (InstructionTree → Bool) → Spelling InstructionTree Instruction
an_instruction form = record {
  grammar = λ t. form t && is_instruction t;
  spelled = spelled_instruction;
  means = instruction_of;
  nests = type_nesting;
}

abbrev pub is_binary : InstructionTree → Bool
is_binary (binary r op flags t left comma right) = true
is_binary _ = false

abbrev pub is_compare : InstructionTree → Bool
is_compare (compare r at samesign predicate t left comma right) = true
is_compare _ = false

abbrev pub is_select : InstructionTree → Bool
is_select (select r at bit condition comma then second_comma otherwise) = true
is_select _ = false

abbrev pub is_cast_tree : InstructionTree → Bool
is_cast_tree (cast r op flags from at_to to) = true
is_cast_tree _ = false

abbrev pub is_freeze : InstructionTree → Bool
is_freeze (freeze r at from) = true
is_freeze _ = false

-- The reader of instructions of a form is exact: what it reads is one that the lexemes in front spell, each one is read
-- where it ends, and what is refused leaves them at its place.
abbrev pub FormIsExact : (InstructionTree → Bool) → Reader Instruction → Type 0
FormIsExact form read = IsExact (an_instruction form) (local ∷ []) false [] read

abbrev pub BinaryIsExact : Type 0
BinaryIsExact = FormIsExact is_binary (result_name_at >>= binary_at)

abbrev pub CompareIsExact : Type 0
CompareIsExact = FormIsExact is_compare (result_name_at >>= compare_at)

abbrev pub SelectIsExact : Type 0
SelectIsExact = FormIsExact is_select (result_name_at >>= select_at)

abbrev pub CastIsExact : Type 0
CastIsExact = FormIsExact is_cast_tree (result_name_at >>= cast_at)

abbrev pub FreezeIsExact : Type 0
FreezeIsExact = FormIsExact is_freeze (result_name_at >>= freeze_at)

-- an instruction of one of these forms
abbrev pub is_operation : InstructionTree → Bool
is_operation (binary r op flags t left comma right) = true
is_operation (compare r at samesign predicate t left comma right) = true
is_operation (select r at bit condition comma then second_comma otherwise) = true
is_operation (cast r op flags from at_to to) = true
is_operation (freeze r at from) = true
is_operation _ = false

abbrev pub OperationIsExact : Type 0
OperationIsExact = FormIsExact is_operation (result_name_at >>= operation_at)
