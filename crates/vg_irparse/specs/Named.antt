-- Which fault a text has that is no module.
use Rattle.std.specs.Prelude.{◌≡◌, ◌⊎◌, ℕ, ◌+◌, Bool, true, false, not, cond, ◌&&◌, ◌||◌, ◌==◌, IsTrue, List, [], ◌∷◌, ◌++◌, codes, length, take, Option, Some, None, is_some}
use Rattle.std.specs.List.{list_all}
use Rattle.std.specs.Char.{is_ascii_alphabetic}
use Rattle.vg_irlex.specs.declared.lexeme.Lexeme.{Lexeme}
use Rattle.vg_irlex.specs.Lexing.{are_digits}
use Rattle.vg_irlex.specs.Piece.{piece}
use Rattle.vg_ir.specs.declared.what.What.{What}
use Rattle.vg_ir.specs.declared.what.What.TheVariants as what
use Rattle.vg_ir.specs.declared.fault.IrFault.{IrFault}
use Rattle.vg_ir.specs.declared.fault.IrFault.TheVariants as faults
use Rattle.vg_ir.specs.declared.module.Parts.{Parts}
use Rattle.vg_irparse.specs.Placed.{fixed_type, any_type, value_type, operand, initial, callee, operation, count, Slot}
use Rattle.vg_irparse.specs.declared.role.Role.{Role}
use Rattle.vg_irparse.specs.Text.{is_local, is_global, name_bytes, spot}
use Rattle.vg_irparse.specs.Words.{same_text, entry_of, is_one_of, operator_words, cast_words, other_instruction_words}
use Rattle.vg_irparse.specs.Grammar.{is_name_or_word}
use Rattle.vg_irparse.specs.GrammarInstruction.{begins_with, is_intrinsic}
use Rattle.vg_irparse.specs.ConcreteModule.{ModuleTree}
use Rattle.vg_irparse.specs.SpellingModule.{spelled_module}
use Rattle.vg_irparse.specs.Later.{least, repeats, function_addresses, external_functions}
use Rattle.vg_irparse.specs.ModuleText.{IsSpelled, HasParts, LeavesAtLexeme, LeavesAtEnd}

-- ---- what the grammar wants

-- some text of the grammar begins with the bytes before this place, has a lexeme there, and wants this of it
abbrev pub Wants : List ℕ → ℕ → Role → Type 0
Wants text at r =
    (more : List ℕ) × (ls : List Lexeme) × (tree : ModuleTree) × IsSpelled (take at text ++ more) ls tree
    × (front : List Slot) × (s : Slot) × (behind : List Slot) × (spelled_module tree ≡ front ++ s ∷ behind) × (s.lexeme.at ≡ at) × (s.role ≡ r)

-- in some text of the grammar that begins with the bytes before this place a type ends there
abbrev pub TypeEnds : List ℕ → ℕ → Type 0
TypeEnds text n =
    (more : List ℕ) × (ls : List Lexeme) × (tree : ModuleTree) × IsSpelled (take n text ++ more) ls tree
    × (front : List Slot) × (s : Slot) × (behind : List Slot) × (spelled_module tree ≡ front ++ s ∷ behind)
    × (s.lexeme.at + length s.lexeme.text ≡ n) × IsTrue s.ends_type

-- a type of any kind, or that of a value
abbrev pub WantsType : List ℕ → ℕ → Type 0
WantsType text at = Wants text at any_type ⊎ Wants text at value_type

-- where the last lexeme ends
abbrev pub last_end : ℕ → List Lexeme → ℕ
last_end n [] = n
last_end n (l ∷ ls) = last_end l.end ls

-- where the last lexeme of these bytes begins
abbrev pub last_place : List ℕ → List ℕ → Option ℕ → List Lexeme → Option ℕ
last_place word text found [] = found
last_place word text found (l ∷ ls) = last_place word text (cond (same_text word (piece text l)) (Some l.start) found) ls

-- ---- the words of constructs that aren't accepted

abbrev pub floating_words : List (List ℕ)
floating_words =
    codes "half" ∷ codes "bfloat" ∷ codes "float" ∷ codes "double" ∷ codes "fp128" ∷ codes "x86_fp80" ∷ codes "fadd" ∷ codes "fsub"
    ∷ codes "fmul" ∷ codes "fdiv" ∷ codes "frem" ∷ codes "fneg" ∷ codes "fcmp" ∷ codes "fptoui" ∷ codes "fptosi" ∷ codes "uitofp"
    ∷ codes "sitofp" ∷ codes "fpext" ∷ codes "fptrunc" ∷ []

abbrev pub vector_words : List (List ℕ)
vector_words = codes "extractelement" ∷ codes "insertelement" ∷ codes "shufflevector" ∷ []

abbrev pub atomic_words : List (List ℕ)
atomic_words = codes "atomic" ∷ codes "cmpxchg" ∷ codes "atomicrmw" ∷ codes "fence" ∷ []

abbrev pub exception_words : List (List ℕ)
exception_words = codes "invoke" ∷ codes "landingpad" ∷ codes "resume" ∷ codes "personality" ∷ codes "callbr" ∷ []

abbrev pub varargs_words : List (List ℕ)
varargs_words = codes "..." ∷ codes "va_arg" ∷ []

abbrev pub assembly_words : List (List ℕ)
assembly_words = codes "asm" ∷ codes "module" ∷ []

abbrev pub external_words : List (List ℕ)
external_words = codes "external" ∷ codes "extern_weak" ∷ []

abbrev pub refused_linkage_words : List (List ℕ)
refused_linkage_words =
    codes "weak" ∷ codes "weak_odr" ∷ codes "linkonce" ∷ codes "linkonce_odr" ∷ codes "available_externally" ∷ codes "appending" ∷ []

abbrev pub aggregate_words : List (List ℕ)
aggregate_words = codes "extractvalue" ∷ codes "insertvalue" ∷ []

abbrev pub by_value_words : List (List ℕ)
by_value_words = codes "byval" ∷ codes "sret" ∷ codes "inalloca" ∷ codes "preallocated" ∷ []

-- `i` (105) and digits
abbrev pub is_integer_type : List ℕ → Bool
is_integer_type [] = false
is_integer_type (c ∷ cs) = c == 105 && are_digits cs

-- the integer types of the grammar
abbrev pub integer_types : List (List ℕ)
integer_types = codes "i1" ∷ codes "i8" ∷ codes "i16" ∷ codes "i32" ∷ codes "i64" ∷ []

-- an integer type of another width
abbrev pub is_other_integer : List ℕ → Bool
is_other_integer text = is_integer_type text && not (is_one_of integer_types text)

-- these bytes, and letters behind them
abbrev pub begins_letters : List ℕ → List ℕ → Bool
begins_letters [] text = list_all is_ascii_alphabetic text
begins_letters (w ∷ ws) [] = false
begins_letters (w ∷ ws) (c ∷ cs) = w == c && begins_letters ws cs

-- `#dbg_` and letters
abbrev pub is_debug_record : List ℕ → Bool
is_debug_record text = begins_letters (codes "#dbg_") text

-- the first lexeme of an array, of a structure or of a named type
abbrev pub begins_aggregate : List ℕ → Bool
begins_aggregate text = (same_text (codes "[") text || same_text (codes "{") text) || is_local text

-- the word of an instruction of the grammar
abbrev pub is_instruction_word : List ℕ → Bool
is_instruction_word text =
    (is_some (entry_of operator_words text) || is_some (entry_of cast_words text)) || is_one_of other_instruction_words text

-- ---- the constructs

-- At this lexeme, before which these stand and behind which the next one has these bytes, stands a construct of this name; a
-- refusal tells it at the place `at`.
abbrev pub IsConstruct : List ℕ → List Lexeme → Lexeme → List ℕ → ℕ → What → Type 0
IsConstruct text before l next at what.FloatingPoint = IsTrue (is_one_of floating_words (piece text l)) × (at ≡ l.start)
IsConstruct text before l next at what.Vector =
    (IsTrue (is_one_of vector_words (piece text l))
    ⊎ (IsTrue (same_text (codes "<") (piece text l)) × WantsType text l.start × (same_text (codes "{") next ≡ false)))
    × (at ≡ l.start)
IsConstruct text before l next at what.PackedStruct =
    (IsTrue (same_text (codes "<") (piece text l)) × WantsType text l.start × IsTrue (same_text (codes "{") next)) × (at ≡ l.start)
IsConstruct text before l next at what.Atomic = IsTrue (is_one_of atomic_words (piece text l)) × (at ≡ l.start)
IsConstruct text before l next at what.Exceptions = IsTrue (is_one_of exception_words (piece text l)) × (at ≡ l.start)
IsConstruct text before l next at what.Varargs = IsTrue (is_one_of varargs_words (piece text l)) × (at ≡ l.start)
IsConstruct text before l next at what.IndirectCall =
    (IsTrue (same_text (codes "indirectbr") (piece text l)) ⊎ (IsTrue (is_local (piece text l)) × Wants text l.start callee)) × (at ≡ l.start)
IsConstruct text before l next at what.ThreadLocal = IsTrue (same_text (codes "thread_local") (piece text l)) × (at ≡ l.start)
IsConstruct text before l next at what.InlineAssembly = IsTrue (is_one_of assembly_words (piece text l)) × (at ≡ l.start)
IsConstruct text before l next at what.ExternalGlobal = IsTrue (is_one_of external_words (piece text l)) × (at ≡ l.start)
IsConstruct text before l next at what.Linkage = IsTrue (is_one_of refused_linkage_words (piece text l)) × (at ≡ l.start)
IsConstruct text before l next at what.IntegerType = IsTrue (is_other_integer (piece text l)) × (at ≡ l.start)
IsConstruct text before l next at what.TypedPointer =
    (IsTrue (same_text (codes "*") (piece text l)) × TypeEnds text (last_end 0 before)) × (at ≡ l.start)
IsConstruct text before l next at what.DynamicAlloca =
    (IsTrue (same_text (codes "alloca") (piece text l)) × Wants text l.start operation × (at ≡ l.start))
    ⊎ (IsTrue (is_name_or_word (piece text l)) × Wants text l.start count × (last_place (codes "alloca") text None before ≡ Some at))
IsConstruct text before l next at what.ConstantExpression =
    (IsTrue (is_instruction_word (piece text l)) × (Wants text l.start operand ⊎ Wants text l.start initial)) × (at ≡ l.start)
IsConstruct text before l next at what.AggregateValue =
    (IsTrue (is_one_of aggregate_words (piece text l)) ⊎ (IsTrue (begins_aggregate (piece text l)) × Wants text l.start value_type)) × (at ≡ l.start)
IsConstruct text before l next at what.ByValueArgument = IsTrue (is_one_of by_value_words (piece text l)) × (at ≡ l.start)
IsConstruct text before l next at what.Musttail = IsTrue (same_text (codes "musttail") (piece text l)) × (at ≡ l.start)
IsConstruct text before l next at what.Intrinsic =
    (IsTrue (is_global (piece text l) && is_intrinsic (name_bytes (piece text l))) × Wants text l.start callee) × (at ≡ l.start)
IsConstruct text before l next at what.DebugRecord = IsTrue (is_debug_record (piece text l)) × (at ≡ l.start)
-- these two are asked of texts of the grammar
IsConstruct text before l next at what.ExternalFunction = ⊥
IsConstruct text before l next at what.FunctionAddress = ⊥

-- the bytes of the first of lexemes
abbrev pub first_piece : List ℕ → List Lexeme → List ℕ
first_piece text [] = []
first_piece text (l ∷ ls) = piece text l

-- the text leaves the grammar at a construct of this name, and not where `ptr`, `i1` or an integer type alone may stand
pub record LeavesAtConstruct (text : List ℕ) (at : ℕ) (w : What) : Type 0 where
  pub before : List Lexeme
  pub lexeme : Lexeme
  pub leaves : LeavesAtLexeme text before lexeme
  pub construct : IsConstruct text before lexeme (first_piece text leaves.behind) at w
  pub no_fixed : ¬ Wants text lexeme.start fixed_type

-- the text leaves the grammar at this place, and not at a construct that has a name
pub record LeavesAtSyntax (text : List ℕ) (at : ℕ) : Type 0 where
  pub place : ((before : List Lexeme) × (l : Lexeme) × LeavesAtLexeme text before l × (at ≡ l.start)) ⊎ (LeavesAtEnd text × (at ≡ length text))
  pub unnamed : (n : ℕ) (w : What) → ¬ LeavesAtConstruct text n w

-- a text of the grammar with these parts has this fault all the same, asked in this order: a number of a `switch` repeats
-- one; a function's name stands as an operand or initialiser; a function that is called isn't defined
abbrev pub IsLateFault : Parts → IrFault → Type 0
IsLateFault m (faults.Syntax at) = (at.unit ≡ 0) × (least (repeats m) ≡ Some at.at)
IsLateFault m (faults.Named at what.FunctionAddress) = (at.unit ≡ 0) × (repeats m ≡ []) × (least (function_addresses m) ≡ Some at.at)
IsLateFault m (faults.Named at what.ExternalFunction) =
    (at.unit ≡ 0) × (repeats m ≡ []) × (function_addresses m ≡ []) × (least (external_functions m) ≡ Some at.at)
IsLateFault m _ = ⊥

-- the fault of a text that leaves the grammar
abbrev pub IsEarlyFault : List ℕ → IrFault → Type 0
IsEarlyFault text (faults.Syntax at) = (at.unit ≡ 0) × LeavesAtSyntax text at.at
IsEarlyFault text (faults.Named at w) = (at.unit ≡ 0) × LeavesAtConstruct text at.at w
IsEarlyFault text _ = ⊥

-- the text is no module, and this is why
abbrev pub IsFault : List ℕ → IrFault → Type 0
IsFault text fault = IsEarlyFault text fault ⊎ ((m : Parts) × HasParts text m × IsLateFault m fault)
