-- The reader of instructions with two operands is exact.
use Rattle.std.proofs.Common.{◌≡◌, ℕ, Bool, true, false, cond, ◌&&◌, Option, Some, None, is_some, unwrap_or, List, [], ◌∷◌, codes, refl, sym, ap, subst, ◌∙◌, arith, IsTrue}
use Rattle.std.specs.Option.{option_map, option_map_or}
use Rattle.vg_ir.specs.declared.name.NameAt.{NameAt}
use Rattle.vg_ir.specs.declared.ty.TypeAt.{TypeAt}
use Rattle.vg_ir.specs.declared.operand.Operand.{Operand}
use Rattle.vg_ir.specs.declared.operator.BinaryOperator.{BinaryOperator}
use Rattle.vg_ir.specs.declared.operator.BinaryOperator.TheVariants as operators
use Rattle.vg_ir.specs.declared.instruction.Instruction.{Instruction}
use Rattle.vg_ir.specs.declared.instruction.Instruction.TheVariants as instructions
use Rattle.vg_ir.specs.Shape.{integer_width}
use Rattle.vg_irparse.specs.declared.role.Role.{Role}
use Rattle.vg_irparse.specs.declared.role.Role.TheVariants as roles
use Rattle.vg_irparse.specs.declared.role.Wanted.{Wanted}
use Rattle.vg_irparse.specs.Placed.{Placed, Mark, plain, operation}
use Rattle.vg_irparse.specs.Text.{spot}
use Rattle.vg_irparse.specs.ReadingType.{wanted}
use Rattle.vg_irparse.specs.Words.{same_text, entry_of, is_one_of, operator_words, operator_flags}
use Rattle.vg_irparse.specs.Grammar.{are_flags, is_operator, is_result_name, is_value_type, is_operand_at}
use Rattle.vg_irparse.specs.Concrete.{ResultName, TypeTree}
use Rattle.vg_irparse.specs.ConcreteInstruction.{InstructionTree, binary}
use Rattle.vg_irparse.specs.Tree as tree
use Rattle.vg_irparse.specs.TreeInstruction.{result_of}
use Rattle.vg_irread.specs.Kinds.{words, local}
use Rattle.vg_irread.specs.Reading.{token_at, ◌>>=◌}
use Rattle.vg_irread.specs.Exact.{Spelling, one, sign, both, nothing, IsExact}
use Rattle.vg_irread.specs.ReadingOperand.{behind, a_result_name, result_name_at, is_operand_for, an_operand, a_value_type}
use Rattle.vg_irread.specs.ReadingInstruction.{words_of, entry, flags_at, binary_at}
use Rattle.vg_irread.specs.ExactInstruction.{flags, an_instruction, is_binary, BinaryIsExact}
use Rattle.vg_irread.proofs.Single.{token_exact, done_exact}
use Rattle.vg_irread.proofs.Pairs.{both_exact}
use Rattle.vg_irread.proofs.Same.{Covers, same_exact}
use Rattle.vg_irread.proofs.OperandsExact.{one_takes, result_name_exact, value_type_exact, operand_exact_at, operand_same, width_same, sign_exact}
use Rattle.vg_irread.proofs.Flags.{operator_flag_kinds, operator_flags_exact}

-- ---- the word

entry_kind : {X : Type 0} (table : List (List ℕ × X)) (text : List ℕ) → is_some (entry_of table text) ≡ true → is_one_of (words_of table) text ≡ true
entry_kind [] text h = h
entry_kind (e ∷ es) text h = by_test (same_text e.0 text) (λ k. entry_kind es text k) h
  where
    by_test : (b : Bool) → (is_some (entry_of es text) ≡ true → is_one_of (words_of es) text ≡ true) → is_some (cond b (Some e.1) (entry_of es text)) ≡ true → cond b true (is_one_of (words_of es) text) ≡ true
    by_test true go k = refl
    by_test false go k = go k

in_one : (b : Bool) → b ≡ true → cond b true false ≡ true
in_one b h = rw h refl

entry_takes : {X : Type 0} (o : Option X) (d : X) (at : ℕ) → ◌≡◌ {A = Option (X × ℕ)} (option_map (λ (x : X). (x, at)) o) (cond (is_some o) (Some (unwrap_or o d, at)) None)
entry_takes None d at = refl
entry_takes (Some x) d at = refl

-- a word of a table
abbrev pub an_entry : {X : Type 0} → Role → List (List ℕ × X) → X → Spelling Placed (X × ℕ)
an_entry role table d = one role (λ l. is_some (entry_of table l.text)) (λ l. (unwrap_or (entry_of table l.text) d, l.at))

pub entry_exact : {X : Type 0} (role : Role) (w : Wanted) (table : List (List ℕ × X)) (d : X) (text : List ℕ) → is_some (entry_of table text) ≡ true
    → IsExact (an_entry role table d) (words (words_of table) ∷ []) false [] (token_at (entry table) w)
entry_exact role w table d text h =
    token_exact (one_takes role (λ l. is_some (entry_of table l.text)) (λ l. (unwrap_or (entry_of table l.text) d, l.at)) (words (words_of table) ∷ []) (entry table)
    (λ l. entry_takes (entry_of table l.text) d l.at) (record { text = text; at = 0; fresh = false }) h (λ l g. in_one _ (entry_kind table l.text g))) w

-- ---- all of it

abbrev pub operator_of : Placed → BinaryOperator
operator_of op = unwrap_or (entry_of operator_words op.text) operators.Add

flags_exact_at : (v u : BinaryOperator) → v ≡ u → IsExact (flags (operator_flags u)) operator_flag_kinds true operator_flag_kinds (flags_at (operator_flags v))
flags_exact_at v u e = subst (λ z. IsExact (flags (operator_flags u)) operator_flag_kinds true operator_flag_kinds (flags_at (operator_flags z))) (sym e) (operator_flags_exact u)

abbrev pub made : NameAt → BinaryOperator × ℕ → TypeAt → Operand → Operand → Instruction
made result op t left right = instructions.Binary (record { at = spot op.1; result = result; operator = op.0; ty = t; left = left; right = right })

made_same : (r s : NameAt) (o p : BinaryOperator × ℕ) (t u : TypeAt) (a b c d : Operand) → r ≡ s → o ≡ p → t ≡ u → a ≡ b → c ≡ d → made r o t a c ≡ made s p u b d
made_same r s o p t u a b c d e f g h i =
    ap (λ z. made z o t a c) e ∙ (ap (λ z. made s z t a c) f ∙ (ap (λ z. made s p z a c) g ∙ (ap (λ z. made s p u z c) h ∙ ap (λ z. made s p u b z) i)))

abbrev pub width_of : TypeTree → Option ℕ
width_of t = integer_width (tree.type_of t)

-- the parts of the text, one behind another
abbrev pub binary_body : ResultName → Spelling (Placed × (List Placed × (TypeTree × (Placed × (Mark × (Placed × Unit {0})))))) Instruction
binary_body r = both (an_entry operation operator_words operators.Add) (λ op. both (flags (operator_flags (operator_of op))) (λ fs. both a_value_type (λ t.
    both (an_operand (width_of t)) (λ left. both (sign plain (codes ",")) (λ comma. both (an_operand (width_of t)) (λ right.
    nothing (made (result_of r) (operator_of op, op.at) (tree.type_at t) (tree.operand_of left) (tree.operand_of right))))))))

abbrev pub parts : Spelling (ResultName × (Placed × (List Placed × (TypeTree × (Placed × (Mark × (Placed × Unit {0}))))))) Instruction
parts = both a_result_name binary_body

pub binary_body_exact : (r : NameAt) (rt : ResultName) → r ≡ result_of rt → IsExact (binary_body rt) (words (words_of operator_words) ∷ []) false [] (binary_at r)
unfolding binary_at
binary_body_exact r rt re =
    both_exact (entry_exact operation (wanted roles.Operation) operator_words operators.Add (codes "add") refl) (λ op ot og oe.
    both_exact (flags_exact_at op.0 (operator_of ot) (ap (λ (z : BinaryOperator × ℕ). z.0) oe)) (λ fs ft fg fe.
    both_exact (value_type_exact (wanted roles.ValueType)) (λ t tt' tg te.
    both_exact (operand_exact_at (integer_width t.ty) (width_of tt') (width_same t (tree.type_at tt') te) (behind roles.Operand)) (λ left lt lg le.
    both_exact (sign_exact plain (codes ",") (wanted roles.Plain)) (λ comma ct cg ce.
    both_exact (operand_exact_at (integer_width t.ty) (width_of tt') (width_same t (tree.type_at tt') te) (wanted roles.Operand)) (λ right rt' rg' re'.
    done_exact _ _ (made_same r (result_of rt) op (operator_of ot, ot.at) t (tree.type_at tt') left (tree.operand_of lt) right (tree.operand_of rt') re oe te le re'))
    refl) refl) refl) refl) refl) refl

parts_exact : IsExact parts (local ∷ []) false [] (result_name_at >>= binary_at)
parts_exact = both_exact result_name_exact (λ r rt rg re. binary_body_exact r rt re) refl

operator_split : (e : Option BinaryOperator) (fs : List Placed) → option_map_or (λ o. are_flags (operator_flags o) fs) e false ≡ (is_some e && are_flags (operator_flags (unwrap_or e operators.Add)) fs)
operator_split None fs = refl
operator_split (Some o) fs = refl

regroup : (a b c d e f : Bool) → (a && (b && (c && (d && (e && (true && (f && true))))))) ≡ (true && (((a && (b && c)) && d) && (e && f)))
regroup false b c d e f = refl
regroup true false c d e f = refl
regroup true true false d e f = refl
regroup true true true false e f = refl
regroup true true true true false f = refl
regroup true true true true true false = refl
regroup true true true true true true = refl

pub grammar_same : (r : ResultName) (op : Placed) (fs : List Placed) (t : TypeTree) (left : Placed) (comma : Mark) (right : Placed)
    → parts.grammar (r, (op, (fs, (t, (left, (comma, (right, tt))))))) ≡ (an_instruction is_binary).grammar (binary r op fs t left comma right)
grammar_same r op fs t left comma right =
    let a = is_result_name r in
    let d = is_value_type t in
    regroup a (is_some (entry_of operator_words op.text)) (are_flags (operator_flags (operator_of op)) fs) d (is_operand_for (width_of t) left.text) (is_operand_for (width_of t) right.text)
    ∙ (ap (λ z. true && (((a && z) && d) && (is_operand_for (width_of t) left.text && is_operand_for (width_of t) right.text))) (sym (operator_split (entry_of operator_words op.text) fs))
    ∙ (ap (λ z. true && (((a && is_operator op fs) && d) && (z && is_operand_for (width_of t) right.text))) (sym (operand_same t left.text))
    ∙ ap (λ z. true && (((a && is_operator op fs) && d) && (is_operand_at t left.text && z))) (sym (operand_same t right.text))))

back : (u : InstructionTree) → IsTrue ((an_instruction is_binary).grammar u) → Covers (an_instruction is_binary) parts u
back (binary r op fs t left comma right) g = record {
  other = (r, (op, (fs, (t, (left, (comma, (right, tt)))))));
  is_one = grammar_same r op fs t left comma right ∙ g;
  same = record { spelled = λ ts. refl; means = refl; nests = omega arith };
}
back _ g = absurd (cc)

pub binary_exact : BinaryIsExact
binary_exact =
    same_exact parts_exact
    (λ p g. record {
      other = binary p.0 p.1.0 p.1.1.0 p.1.1.1.0 p.1.1.1.1.0 p.1.1.1.1.1.0 p.1.1.1.1.1.1.0;
      is_one = sym (grammar_same p.0 p.1.0 p.1.1.0 p.1.1.1.0 p.1.1.1.1.0 p.1.1.1.1.1.0 p.1.1.1.1.1.1.0) ∙ g;
      same = record { spelled = λ ts. refl; means = refl; nests = omega arith };
    })
    back
