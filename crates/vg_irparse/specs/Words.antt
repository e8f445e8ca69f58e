-- The words of the grammar, in tables.
use Rattle.std.specs.Prelude.{ℕ, Bool, true, false, ◌&&◌, ◌==◌, if◌then◌else◌, List, [], ◌∷◌, codes, Option, Some, None, is_some}
use Rattle.std.specs.Str.{bytes_eq}
use Rattle.vg_ir.specs.declared.operator.BinaryOperator.{BinaryOperator}
use Rattle.vg_ir.specs.declared.operator.BinaryOperator.TheVariants as binary
use Rattle.vg_ir.specs.declared.operator.CastOperator.{CastOperator}
use Rattle.vg_ir.specs.declared.operator.CastOperator.TheVariants as casts
use Rattle.vg_ir.specs.declared.operator.Predicate.{Predicate}
use Rattle.vg_ir.specs.declared.operator.Predicate.TheVariants as predicates
use Rattle.vg_ir.specs.declared.global.Linkage.{Linkage}
use Rattle.vg_ir.specs.declared.global.Linkage.TheVariants as linkages

-- two texts have the same bytes
abbrev pub same_text : List ℕ → List ℕ → Bool
same_text a b = bytes_eq a b

-- what a table has under a word
abbrev pub entry_of : {X : Type 0} → List (List ℕ × X) → List ℕ → Option X
entry_of [] text = None
entry_of (e ∷ es) text = if same_text e.0 text then Some e.1 else entry_of es text

-- a word is one of a list
abbrev pub is_one_of : List (List ℕ) → List ℕ → Bool
is_one_of [] text = false
is_one_of (w ∷ ws) text = if same_text w text then true else is_one_of ws text

-- who may name a function or a global
abbrev pub linkage_words : List (List ℕ × Linkage)
linkage_words =
    (codes "private", linkages.Private) ∷ (codes "internal", linkages.Internal) ∷ (codes "common", linkages.Common) ∷ []

-- calling conventions, which are skipped
abbrev pub convention_words : List (List ℕ)
convention_words = codes "ccc" ∷ codes "fastcc" ∷ codes "coldcc" ∷ []

-- whether an address counts, which is skipped
abbrev pub address_words : List (List ℕ)
address_words = codes "unnamed_addr" ∷ codes "local_unnamed_addr" ∷ []

-- attributes of values that are one word
abbrev pub attribute_words : List (List ℕ)
attribute_words =
    codes "noundef" ∷ codes "signext" ∷ codes "zeroext" ∷ codes "nonnull" ∷ codes "noalias" ∷ codes "nocapture"
    ∷ codes "readonly" ∷ codes "readnone" ∷ codes "writeonly" ∷ codes "returned" ∷ []

-- attributes of values with any lexemes in parentheses
abbrev pub bracketed_words : List (List ℕ)
bracketed_words = codes "captures" ∷ codes "range" ∷ []

-- attributes of functions that are one word
abbrev pub function_words : List (List ℕ)
function_words =
    codes "nounwind" ∷ codes "noinline" ∷ codes "noreturn" ∷ codes "willreturn" ∷ codes "mustprogress" ∷ codes "optnone" ∷ []

-- what a `target` line tells
abbrev pub target_words : List (List ℕ)
target_words = codes "datalayout" ∷ codes "triple" ∷ []

-- operands and initialisers that are words
abbrev pub constant_words : List (List ℕ)
constant_words = codes "true" ∷ codes "false" ∷ codes "null" ∷ codes "undef" ∷ codes "poison" ∷ []

-- the integer types, with their widths
abbrev pub integer_words : List (List ℕ × ℕ)
integer_words = (codes "i1", 1) ∷ (codes "i8", 8) ∷ (codes "i16", 16) ∷ (codes "i32", 32) ∷ (codes "i64", 64) ∷ []

-- instructions with two operands
abbrev pub operator_words : List (List ℕ × BinaryOperator)
operator_words =
    (codes "add", binary.Add) ∷ (codes "sub", binary.Sub) ∷ (codes "mul", binary.Mul) ∷ (codes "udiv", binary.Udiv)
    ∷ (codes "sdiv", binary.Sdiv) ∷ (codes "urem", binary.Urem) ∷ (codes "srem", binary.Srem) ∷ (codes "shl", binary.Shl)
    ∷ (codes "lshr", binary.Lshr) ∷ (codes "ashr", binary.Ashr) ∷ (codes "and", binary.And) ∷ (codes "or", binary.Or)
    ∷ (codes "xor", binary.Xor) ∷ []

-- casts
abbrev pub cast_words : List (List ℕ × CastOperator)
cast_words =
    (codes "zext", casts.Zext) ∷ (codes "sext", casts.Sext) ∷ (codes "trunc", casts.Trunc) ∷ (codes "ptrtoint", casts.PtrToInt)
    ∷ (codes "inttoptr", casts.IntToPtr) ∷ (codes "bitcast", casts.Bitcast) ∷ []

-- what `icmp` asks
abbrev pub predicate_words : List (List ℕ × Predicate)
predicate_words =
    (codes "eq", predicates.Eq) ∷ (codes "ne", predicates.Ne) ∷ (codes "ugt", predicates.Ugt) ∷ (codes "uge", predicates.Uge)
    ∷ (codes "ult", predicates.Ult) ∷ (codes "ule", predicates.Ule) ∷ (codes "sgt", predicates.Sgt) ∷ (codes "sge", predicates.Sge)
    ∷ (codes "slt", predicates.Slt) ∷ (codes "sle", predicates.Sle) ∷ []

-- the flags of an instruction with two operands, in their order
abbrev pub operator_flags : BinaryOperator → List (List ℕ)
operator_flags binary.Add = codes "nuw" ∷ codes "nsw" ∷ []
operator_flags binary.Sub = codes "nuw" ∷ codes "nsw" ∷ []
operator_flags binary.Mul = codes "nuw" ∷ codes "nsw" ∷ []
operator_flags binary.Shl = codes "nuw" ∷ codes "nsw" ∷ []
operator_flags binary.Udiv = codes "exact" ∷ []
operator_flags binary.Sdiv = codes "exact" ∷ []
operator_flags binary.Lshr = codes "exact" ∷ []
operator_flags binary.Ashr = codes "exact" ∷ []
operator_flags binary.Urem = codes "disjoint" ∷ []
operator_flags binary.Srem = codes "disjoint" ∷ []
operator_flags binary.And = codes "disjoint" ∷ []
operator_flags binary.Or = codes "disjoint" ∷ []
operator_flags binary.Xor = codes "disjoint" ∷ []

-- the flags of a cast, in their order
abbrev pub cast_flags : CastOperator → List (List ℕ)
cast_flags casts.Zext = codes "nneg" ∷ []
cast_flags casts.Sext = codes "nneg" ∷ []
cast_flags casts.Trunc = codes "nuw" ∷ codes "nsw" ∷ []
cast_flags casts.PtrToInt = []
cast_flags casts.IntToPtr = []
cast_flags casts.Bitcast = []

-- the flags of `getelementptr`, which stand in any order
abbrev pub element_flags : List (List ℕ)
element_flags = codes "inbounds" ∷ codes "nusw" ∷ codes "nuw" ∷ []

-- each word of the instruction table
abbrev pub other_instruction_words : List (List ℕ)
other_instruction_words =
    codes "icmp" ∷ codes "select" ∷ codes "freeze" ∷ codes "alloca" ∷ codes "load" ∷ codes "store" ∷ codes "getelementptr"
    ∷ codes "call" ∷ codes "br" ∷ codes "switch" ∷ codes "ret" ∷ codes "phi" ∷ codes "unreachable" ∷ []
