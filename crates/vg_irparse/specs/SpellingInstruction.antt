-- The lexemes that the concrete tree of an instruction spells, with others behind them: a line for each alternative of the
-- grammar.
use Rattle.std.specs.Prelude.{ℕ, List, [], ◌∷◌, codes, Option, Some, None}
use Rattle.vg_irparse.specs.Placed.{Placed, Mark, plain, fixed_type, any_type, value_type, operation, callee, Slot, free, fixed, word}
use Rattle.vg_irparse.specs.declared.role.Role.{Role}
use Rattle.vg_irparse.specs.Placed as placed
use Rattle.vg_irparse.specs.Concrete.{IntegerTree, ResultName}
use Rattle.vg_irparse.specs.Spelling.{spelled_type, spelled_integer, spelled_result, Spells, spelled_list, spelled_row, spelled_optional, spelled_free, spelled_word, spelled_attributes, spelled_function_attributes, spelled_align, spelled_operand, spelled_typed, spelled_pointer, spelled_condition, spelled_label, spelled_result_name}
use Rattle.vg_irparse.specs.ConcreteInstruction.{CountTree, IndexTree, ArgumentTree, InstructionTree, binary, compare, select, cast, freeze, alloca, load, store, element_pointer, call, CaseTree, TerminatorTree, jump, branch, switch, return, return_void, unreachable, IncomingTree, PhiTree, PairTree, Paired}

abbrev pub spelled_count : CountTree → List Slot → List Slot
spelled_count n ts = word (codes ",") n.comma ∷ spelled_integer n.ty (free placed.count n.number ∷ ts)

abbrev pub spelled_index : IndexTree → List Slot → List Slot
spelled_index i ts = word (codes ",") i.comma ∷ spelled_integer i.ty (spelled_operand i.value ts)

abbrev pub spelled_argument : ArgumentTree → List Slot → List Slot
spelled_argument a ts = spelled_type value_type a.ty (spelled_attributes a.attributes (spelled_operand a.value ts))

-- the word of an instruction behind its result
abbrev pub operation_word : List ℕ → Mark → Slot
operation_word text at = fixed operation text at

-- behind a result the words of a call stand for an operation
abbrev pub call_role : Option ResultName → Role
call_role None = plain
call_role (Some r) = operation

abbrev pub spelled_instruction : InstructionTree → List Slot → List Slot
spelled_instruction (binary r op flags t left comma right) ts =
    spelled_result_name r (free operation op ∷ spelled_list spelled_free flags (spelled_type value_type t (spelled_operand left (word (codes ",") comma ∷ spelled_operand right ts))))
spelled_instruction (compare r at samesign predicate t left comma right) ts =
    spelled_result_name r (operation_word (codes "icmp") at ∷ spelled_word (codes "samesign") samesign (free plain predicate
    ∷ spelled_type any_type t (spelled_operand left (word (codes ",") comma ∷ spelled_operand right ts))))
spelled_instruction (select r at bit condition comma then second_comma otherwise) ts =
    spelled_result_name r (operation_word (codes "select") at ∷ spelled_condition bit condition (word (codes ",") comma
    ∷ spelled_typed value_type then (word (codes ",") second_comma ∷ spelled_typed any_type otherwise ts)))
spelled_instruction (cast r op flags from at_to to) ts =
    spelled_result_name r (free operation op ∷ spelled_list spelled_free flags (spelled_typed any_type from (word (codes "to") at_to ∷ spelled_type value_type to ts)))
spelled_instruction (freeze r at from) ts = spelled_result_name r (operation_word (codes "freeze") at ∷ spelled_typed value_type from ts)
spelled_instruction (alloca r at t n align) ts =
    spelled_result_name r (operation_word (codes "alloca") at ∷ spelled_type any_type t (spelled_optional spelled_count n (spelled_optional spelled_align align ts)))
spelled_instruction (load r at volatile t comma from align) ts =
    spelled_result_name r (operation_word (codes "load") at ∷ spelled_word (codes "volatile") volatile (spelled_type value_type t (word (codes ",") comma
    ∷ spelled_pointer from (spelled_optional spelled_align align ts))))
spelled_instruction (store at volatile value comma to align) ts =
    word (codes "store") at ∷ spelled_word (codes "volatile") volatile (spelled_typed value_type value (word (codes ",") comma
    ∷ spelled_pointer to (spelled_optional spelled_align align ts)))
spelled_instruction (element_pointer r at flags t comma base indices) ts =
    spelled_result_name r (operation_word (codes "getelementptr") at ∷ spelled_list spelled_free flags (spelled_type any_type t (word (codes ",") comma
    ∷ spelled_pointer base (spelled_list spelled_index indices ts))))
spelled_instruction (call r tail at convention attributes gives function opening arguments closing function_attributes) ts =
    spelled_optional spelled_result_name r (spelled_optional (λ w rest. free (call_role r) w ∷ rest) tail (fixed (call_role r) (codes "call") at
    ∷ spelled_optional spelled_free convention (spelled_attributes attributes (spelled_result gives (free callee function
    ∷ word (codes "(") opening ∷ spelled_optional (spelled_row spelled_argument) arguments (word (codes ")") closing ∷ spelled_function_attributes function_attributes ts))))))

abbrev pub spelled_case : CaseTree → List Slot → List Slot
spelled_case c ts = spelled_type any_type c.ty (free plain c.number ∷ word (codes ",") c.comma ∷ spelled_label c.target ts)

abbrev pub spelled_terminator : TerminatorTree → List Slot → List Slot
spelled_terminator (jump at target) ts = word (codes "br") at ∷ spelled_label target ts
spelled_terminator (branch at bit condition comma then second_comma otherwise) ts =
    word (codes "br") at ∷ spelled_condition bit condition (word (codes ",") comma ∷ spelled_label then (word (codes ",") second_comma ∷ spelled_label otherwise ts))
spelled_terminator (switch at value comma otherwise opening cases closing) ts =
    word (codes "switch") at ∷ spelled_typed any_type value (word (codes ",") comma ∷ spelled_label otherwise
    (word (codes "[") opening ∷ spelled_list spelled_case cases (word (codes "]") closing ∷ ts)))
spelled_terminator (return at value) ts = word (codes "ret") at ∷ spelled_typed any_type value ts
spelled_terminator (return_void at void) ts = word (codes "ret") at ∷ word (codes "void") void ∷ ts
spelled_terminator (unreachable at) ts = word (codes "unreachable") at ∷ ts

abbrev pub spelled_incoming : IncomingTree → List Slot → List Slot
spelled_incoming i ts = word (codes "[") i.opening ∷ spelled_operand i.value (word (codes ",") i.comma ∷ free plain i.block ∷ word (codes "]") i.closing ∷ ts)

abbrev pub spelled_phi : PhiTree → List Slot → List Slot
spelled_phi p ts =
    spelled_result_name p.result_name (operation_word (codes "phi") p.at ∷ spelled_type value_type p.ty (spelled_row spelled_incoming p.incoming ts))

abbrev pub spelled_pair : PairTree → List Slot → List Slot
spelled_pair p ts =
    word (codes ",") p.comma ∷ word (codes "!") p.name_sign ∷ free plain p.name ∷ word (codes "!") p.number_sign ∷ free plain p.number ∷ ts

-- what is in front of its pairs, and these
abbrev pub spelled_paired : {X : Type 0} → Spells X → Paired X → List Slot → List Slot
spelled_paired spells x ts = spells x.body (spelled_list spelled_pair x.pairs ts)
