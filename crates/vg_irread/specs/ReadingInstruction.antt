-- Reading instructions.
use Rattle.std.specs.Prelude.{ℕ, cond, List, [], ◌∷◌, codes, Option, Some}
use Rattle.std.specs.Option.{option_map}
use Rattle.std.specs.Str.{bytes_eq}
use Rattle.vg_ir.specs.declared.name.NameAt.{NameAt}
use Rattle.vg_ir.specs.declared.operand.Operand.{Operand}
use Rattle.vg_ir.specs.declared.operator.BinaryOperator.{BinaryOperator}
use Rattle.vg_ir.specs.declared.operator.CastOperator.{CastOperator}
use Rattle.vg_ir.specs.declared.operator.Predicate.{Predicate}
use Rattle.vg_ir.specs.declared.instruction.Instruction.{Instruction}
use Rattle.vg_ir.specs.declared.instruction.Instruction.TheVariants as instructions
use Rattle.vg_ir.specs.Shape.{integer_width}
use Rattle.vg_irparse.specs.declared.role.Role.TheVariants as roles
use Rattle.vg_irparse.specs.Placed.{Placed}
use Rattle.vg_irparse.specs.Text.{spot}
use Rattle.vg_irparse.specs.Answer.{reads}
use Rattle.vg_irparse.specs.ReadingType.{wanted}
use Rattle.vg_irparse.specs.Words.{entry_of, operator_words, operator_flags, cast_words, cast_flags, predicate_words}
use Rattle.vg_irread.specs.Kinds.{words}
use Rattle.vg_irread.specs.Reading.{Reader, done, token_at, either_at, ◌>>=◌}
use Rattle.vg_irread.specs.ReadingType.{type_at}
use Rattle.vg_irread.specs.ReadingOperand.{behind, sign_at, operand_at, value_type_at, value_at, any_typed_at}

-- ---- flags in their order

-- lexemes behind a word, where it comes first
abbrev pub skipped_word : List ℕ → List Placed → List Placed
skipped_word word [] = []
skipped_word word (t ∷ ts) = cond (bytes_eq t.text word) ts (t ∷ ts)

abbrev pub skipped_words : List (List ℕ) → List Placed → List Placed
skipped_words [] ts = ts
skipped_words (word ∷ ws) ts = skipped_words ws (skipped_word word ts)

-- words that may lack, in this order
abbrev pub flags_at : List (List ℕ) → Reader (Unit {0})
flags_at ws d ts = reads (tt, skipped_words ws ts)

-- ---- words of tables

-- what a table has under a lexeme, and where this stands
abbrev pub entry : {X : Type 0} → List (List ℕ × X) → Placed → Option (X × ℕ)
entry table l = option_map (λ x. (x, l.at)) (entry_of table l.text)

abbrev pub operator_at : Reader (BinaryOperator × ℕ)
operator_at = token_at (entry operator_words) (wanted roles.Operation)

abbrev pub cast_word_at : Reader (CastOperator × ℕ)
cast_word_at = token_at (entry cast_words) (wanted roles.Operation)

abbrev pub predicate_at : Reader (Predicate × ℕ)
predicate_at = token_at (entry predicate_words) (wanted roles.Plain)

-- ---- instructions behind their result

-- op {flag} T a , b
unfoldable pub binary_at : NameAt → Reader Instruction
binary_at result = do
  op ← operator_at
  _ ← flags_at (operator_flags op.0)
  t ← value_type_at (wanted roles.ValueType)
  left ← operand_at (integer_width t.ty) (behind roles.Operand)
  _ ← sign_at (codes ",") (wanted roles.Plain)
  right ← operand_at (integer_width t.ty) (wanted roles.Operand)
  done (instructions.Binary (record {
    at = spot op.1;
    result = result;
    operator = op.0;
    ty = t;
    left = left;
    right = right;
  }))

-- icmp [samesign] P T a , b
unfoldable pub compare_at : NameAt → Reader Instruction
compare_at result = do
  at ← sign_at (codes "icmp") (wanted roles.Operation)
  _ ← flags_at (codes "samesign" ∷ [])
  predicate ← predicate_at
  t ← type_at (wanted roles.AnyType)
  left ← operand_at (integer_width t.ty) (behind roles.Operand)
  _ ← sign_at (codes ",") (wanted roles.Plain)
  right ← operand_at (integer_width t.ty) (wanted roles.Operand)
  done (instructions.Compare (record {
    at = spot at;
    result = result;
    predicate = predicate.0;
    ty = t;
    left = left;
    right = right;
  }))

-- i1 and a condition
abbrev pub condition_at : Reader Operand
condition_at = do
  _ ← sign_at (codes "i1") (wanted roles.FixedType)
  operand_at (Some 1) (behind roles.Operand)

-- select i1 c , T a , T b
unfoldable pub select_at : NameAt → Reader Instruction
select_at result = do
  at ← sign_at (codes "select") (wanted roles.Operation)
  condition ← condition_at
  _ ← sign_at (codes ",") (wanted roles.Plain)
  then ← value_at (wanted roles.ValueType)
  _ ← sign_at (codes ",") (wanted roles.Plain)
  otherwise ← any_typed_at (wanted roles.AnyType)
  done (instructions.Select (record {
    at = spot at;
    result = result;
    condition = condition;
    then = then;
    otherwise = otherwise;
  }))

-- op {flag} T a to U
unfoldable pub cast_at : NameAt → Reader Instruction
cast_at result = do
  op ← cast_word_at
  _ ← flags_at (cast_flags op.0)
  from ← any_typed_at (wanted roles.AnyType)
  _ ← sign_at (codes "to") (wanted roles.Plain)
  target ← value_type_at (wanted roles.ValueType)
  done (instructions.Cast (record {
    at = spot op.1;
    result = result;
    operator = op.0;
    operand = from;
    target = target;
  }))

-- freeze T a
unfoldable pub freeze_at : NameAt → Reader Instruction
freeze_at result = do
  at ← sign_at (codes "freeze") (wanted roles.Operation)
  from ← value_at (wanted roles.ValueType)
  done (instructions.Freeze (record { at = spot at; result = result; operand = from }))

-- ---- by the word

-- the words of a table
abbrev pub words_of : {X : Type 0} → List (List ℕ × X) → List (List ℕ)
words_of [] = []
words_of (e ∷ es) = e.0 ∷ words_of es

-- behind %r = an instruction of one of the forms above
abbrev pub operation_at : NameAt → Reader Instruction
operation_at result =
    either_at (words (words_of operator_words) ∷ []) (binary_at result)
    (either_at (words (words_of cast_words) ∷ []) (cast_at result)
    (either_at (words (codes "icmp" ∷ []) ∷ []) (compare_at result)
    (either_at (words (codes "select" ∷ []) ∷ []) (select_at result) (freeze_at result))))
