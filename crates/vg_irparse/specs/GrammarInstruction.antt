-- The grammar: which concrete trees of instructions are of it.
use Rattle.std.specs.Prelude.{ℕ, Bool, true, false, not, ◌&&◌, ◌||◌, ◌==◌, List, [], ◌∷◌, codes, Option, is_some}
use Rattle.std.specs.List.{list_all}
use Rattle.vg_irlex.specs.Lexing.{are_digits, is_word_name}
use Rattle.vg_irparse.specs.Placed.{Placed}
use Rattle.vg_irparse.specs.Text.{is_local, is_global, name_bytes}
use Rattle.vg_irparse.specs.Words.{entry_of, is_one_of, convention_words, predicate_words, element_flags}
use Rattle.vg_irparse.specs.Concrete.{ResultName}
use Rattle.vg_irparse.specs.Grammar.{is_text, is_optional, is_row, is_type, is_value_type, is_integer, is_result, is_number_of, is_number_at, is_operand_at, is_operand_of, is_attribute, is_function_attribute, is_align, is_typed, is_value, is_pointer, is_target, is_result_name, is_operator, is_cast}
use Rattle.vg_irparse.specs.ConcreteInstruction.{CountTree, IndexTree, ArgumentTree, InstructionTree, binary, compare, select, cast, freeze, alloca, load, store, element_pointer, call, CaseTree, TerminatorTree, jump, branch, switch, return, return_void, unreachable, IncomingTree, PhiTree, PairTree, Paired}

-- the number of elements is a number of its type
abbrev pub is_count : CountTree → Bool
is_count n = is_integer n.ty && is_number_of n.ty.width n.number.text

abbrev pub is_index : IndexTree → Bool
is_index i = is_integer i.ty && is_operand_of i.ty.width i.value.text

abbrev pub is_argument : ArgumentTree → Bool
is_argument a = (is_value_type a.ty && list_all is_attribute a.attributes) && is_operand_at a.ty a.value.text

-- whether bytes begin with others
abbrev pub begins_with : List ℕ → List ℕ → Bool
begins_with [] text = true
begins_with (w ∷ ws) [] = false
begins_with (w ∷ ws) (c ∷ cs) = w == c && begins_with ws cs

-- the name of a function of LLVM's own
abbrev pub is_intrinsic : List ℕ → Bool
is_intrinsic name = begins_with (codes "llvm.") name

-- the name of one whose calls are skipped
abbrev pub is_skipped : List ℕ → Bool
is_skipped name = begins_with (codes "llvm.lifetime.") name

-- a function that is called: none of LLVM's own but those whose calls are skipped
abbrev pub is_callee : List ℕ → Bool
is_callee text = is_global text && (not (is_intrinsic (name_bytes text)) || is_skipped (name_bytes text))

abbrev pub tail_words : List (List ℕ)
tail_words = codes "tail" ∷ codes "notail" ∷ []

abbrev pub is_instruction : InstructionTree → Bool
is_instruction (binary r op flags t left comma right) =
    ((is_result_name r && is_operator op flags) && is_value_type t) && (is_operand_at t left.text && is_operand_at t right.text)
is_instruction (compare r at samesign predicate t left comma right) =
    ((is_result_name r && is_some (entry_of predicate_words predicate.text)) && is_type t) && (is_operand_at t left.text && is_operand_at t right.text)
is_instruction (select r at bit condition comma then second_comma otherwise) =
    (is_result_name r && is_operand_of 1 condition.text) && (is_value then && is_typed otherwise)
is_instruction (cast r op flags from at_to to) = (is_result_name r && is_cast op flags) && (is_typed from && is_value_type to)
is_instruction (freeze r at from) = is_result_name r && is_value from
is_instruction (alloca r at t n align) = (is_result_name r && is_type t) && (is_optional is_count n && is_optional is_align align)
is_instruction (load r at volatile t comma from align) = (is_result_name r && is_value_type t) && (is_pointer from && is_optional is_align align)
is_instruction (store at volatile value comma to align) = is_value value && (is_pointer to && is_optional is_align align)
is_instruction (element_pointer r at flags t comma base indices) =
    ((is_result_name r && list_all (is_text (is_one_of element_flags)) flags) && is_type t) && (is_pointer base && list_all is_index indices)
is_instruction (call r tail at convention attributes gives function opening arguments closing function_attributes) =
    ((is_optional is_result_name r && is_optional (is_text (is_one_of tail_words)) tail) && (is_optional (is_text (is_one_of convention_words)) convention && list_all is_attribute attributes))
    && ((is_result gives && is_callee function.text) && (is_optional (is_row is_argument) arguments && list_all is_function_attribute function_attributes))

-- a call that leaves no trace
abbrev pub is_skipped_call : InstructionTree → Bool
is_skipped_call (call r tail at convention attributes gives function opening arguments closing function_attributes) = is_skipped (name_bytes function.text)
is_skipped_call _ = false

abbrev pub is_alloca : InstructionTree → Bool
is_alloca (alloca r at t n align) = true
is_alloca _ = false

abbrev pub is_case : CaseTree → Bool
is_case c = (is_type c.ty && is_number_at c.ty c.number.text) && is_target c.target

abbrev pub is_terminator : TerminatorTree → Bool
is_terminator (jump at target) = is_target target
is_terminator (branch at bit condition comma then second_comma otherwise) = is_operand_of 1 condition.text && (is_target then && is_target otherwise)
is_terminator (switch at value comma otherwise opening cases closing) = (is_typed value && is_target otherwise) && list_all is_case cases
is_terminator (return at value) = is_typed value
is_terminator (return_void at void) = true
is_terminator (unreachable at) = true

abbrev pub is_phi : PhiTree → Bool
is_phi p =
    (is_result_name p.result_name && is_value_type p.ty)
    && is_row (λ (i : IncomingTree). is_operand_at p.ty i.value.text && is_local i.block.text) p.incoming

-- a metadata name and a number
abbrev pub is_pair : PairTree → Bool
is_pair p = is_word_name p.name.text && are_digits p.number.text

abbrev pub is_paired : {X : Type 0} → (X → Bool) → Paired X → Bool
is_paired passes x = passes x.body && list_all is_pair x.pairs
