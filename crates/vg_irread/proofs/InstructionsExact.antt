-- The readers of `icmp`, `select`, casts and `freeze` are exact.
use Rattle.std.proofs.Common.{◌≡◌, ℕ, Bool, true, false, cond, ◌&&◌, Option, Some, None, is_some, unwrap_or, List, [], ◌∷◌, codes, refl, sym, ap, subst, ◌∙◌, arith, IsTrue}
use mathlib.Core.Path.{fun_ext}
use Rattle.std.specs.Option.{option_map_or}
use Rattle.vg_ir.specs.declared.name.NameAt.{NameAt}
use Rattle.vg_ir.specs.declared.ty.TypeAt.{TypeAt}
use Rattle.vg_ir.specs.declared.operand.Operand.{Operand}
use Rattle.vg_ir.specs.declared.operand.TypedOperand.{TypedOperand}
use Rattle.vg_ir.specs.declared.operator.CastOperator.{CastOperator}
use Rattle.vg_ir.specs.declared.operator.CastOperator.TheVariants as casts
use Rattle.vg_ir.specs.declared.operator.Predicate.{Predicate}
use Rattle.vg_ir.specs.declared.operator.Predicate.TheVariants as predicates
use Rattle.vg_ir.specs.declared.instruction.Instruction.{Instruction}
use Rattle.vg_ir.specs.declared.instruction.Instruction.TheVariants as instructions
use Rattle.vg_ir.specs.Shape.{integer_width}
use Rattle.vg_irparse.specs.declared.role.Role.TheVariants as roles
use Rattle.vg_irparse.specs.Placed.{Placed, Mark, plain, operation, any_type, fixed_type, marked, last_of_type}
use Rattle.vg_irparse.specs.Text.{spot}
use Rattle.vg_irparse.specs.ReadingType.{wanted}
use Rattle.vg_irparse.specs.Words.{same_text, entry_of, cast_words, cast_flags, predicate_words}
use Rattle.vg_irparse.specs.Grammar.{are_flags, is_result_name, is_type, is_value_type, is_operand_at, is_operand_of, is_typed, is_value}
use Rattle.vg_irparse.specs.Concrete.{ResultName, TypeTree, TypedTree}
use Rattle.vg_irparse.specs.ConcreteInstruction.{InstructionTree, compare, select, cast, freeze}
use Rattle.vg_irparse.specs.Tree as tree
use Rattle.vg_irparse.specs.TreeInstruction.{result_of}
use Rattle.vg_irread.specs.Kinds.{Kind, words, local}
use Rattle.vg_irread.specs.Reading.{done, ◌>>=◌, optional_at}
use Rattle.vg_irread.specs.Exact.{Spelling, sign, single, both, may, nothing, IsExact}
use Rattle.vg_irread.specs.ReadingType.{a_type}
use Rattle.vg_irread.specs.ReadingOperand.{behind, a_result_name, result_name_at, is_operand_for, an_operand, a_value_type, sign_at, a_typed, a_value}
use Rattle.vg_irread.specs.ReadingInstruction.{words_of, flags_at, compare_at, select_at, cast_at, freeze_at, condition_at}
use Rattle.vg_irread.specs.ExactInstruction.{flags, an_instruction, is_compare, is_select, is_cast_tree, is_freeze, CompareIsExact, SelectIsExact, CastIsExact, FreezeIsExact}
use Rattle.vg_irread.proofs.Single.{done_exact}
use Rattle.vg_irread.proofs.Pairs.{both_exact}
use Rattle.vg_irread.proofs.Optional.{optional_exact}
use Rattle.vg_irread.proofs.Same.{Covers, same_exact}
use Rattle.vg_irread.proofs.Weaker.{Within, weaker_exact}
use Rattle.vg_irread.proofs.TypesExact.{type_exact}
use Rattle.vg_irread.proofs.OperandsExact.{result_name_exact, value_type_exact, operand_exact, operand_exact_at, operand_same, width_same, sign_exact, ending_exact, any_typed_exact, value_exact}
use Rattle.vg_irread.proofs.Flags.{one_word, flag_kinds, flag_read, flags_exact}
use Rattle.vg_irread.proofs.BinaryExact.{an_entry, entry_exact}

-- ---- a word that may lack

abbrev pub a_word : List ℕ → Spelling (Option Mark) (Unit {0})
a_word w = record { grammar = λ m. true; spelled = λ m ts. (may (sign plain w)).spelled m ts; means = λ m. tt; nests = λ m. 0 }

-- the word, and nothing behind it
abbrev with_nothing : List ℕ → Spelling (Option Mark × Unit {0}) (Unit {0})
with_nothing w = both (may (sign plain w)) (λ _. nothing (tt {0}))

word_grammar : (w : List ℕ) (m : Option Mark) → (with_nothing w).grammar (m, tt) ≡ true
word_grammar w None = refl
word_grammar w (Some m) = refl

word_nests : (w : List ℕ) (m : Option Mark) → (with_nothing w).nests (m, tt) ≡ 0
word_nests w None = refl
word_nests w (Some m) = refl

word_parts : (w : List ℕ) → IsExact (with_nothing w) (one_word w) true (one_word w) (optional_at (one_word w) (sign_at w (wanted roles.Plain)) >>= λ _. done (tt {0}))
word_parts w = both_exact (optional_exact (sign_exact plain w (wanted roles.Plain))) (λ x a g e. done_exact tt tt refl) refl

pub word_exact : (w : List ℕ) → IsExact (a_word w) (one_word w) true (one_word w) (flags_at (w ∷ []))
word_exact w =
    same_exact
    (subst (IsExact (with_nothing w) (one_word w) true (one_word w)) (fun_ext (λ d. fun_ext (λ ts. flag_read w [] (wanted roles.Plain) d ts))) (word_parts w))
    (λ t g. record { other = t.0; is_one = refl; same = record { spelled = λ ts. refl; means = refl; nests = word_nests w t.0 } })
    (λ u g. record { other = (u, tt); is_one = word_grammar w u; same = record { spelled = λ ts. refl; means = refl; nests = sym (word_nests w u) } })

-- ---- icmp

abbrev pub width_of : TypeTree → Option ℕ
width_of t = integer_width (tree.type_of t)

abbrev pub predicate_of : Placed → Predicate
predicate_of l = unwrap_or (entry_of predicate_words l.text) predicates.Eq

abbrev pub compared : NameAt → ℕ → Predicate → TypeAt → Operand → Operand → Instruction
compared r at p t left right = instructions.Compare (record { at = spot at; result = r; predicate = p; ty = t; left = left; right = right })

compared_same : (r s : NameAt) (m n : ℕ) (o p : Predicate) (t u : TypeAt) (a b c d : Operand) → r ≡ s → m ≡ n → o ≡ p → t ≡ u → a ≡ b → c ≡ d → compared r m o t a c ≡ compared s n p u b d
compared_same r s m n o p t u a b c d e f g h i j =
    ap (λ z. compared z m o t a c) e ∙ (ap (λ z. compared s z o t a c) f ∙ (ap (λ z. compared s n z t a c) g ∙ (ap (λ z. compared s n p z a c) h ∙ (ap (λ z. compared s n p u z c) i ∙ ap (λ z. compared s n p u b z) j))))

abbrev pub compare_body : ResultName → Spelling (Mark × (Option Mark × (Placed × (TypeTree × (Placed × (Mark × (Placed × Unit {0}))))))) Instruction
compare_body r = both (sign operation (codes "icmp")) (λ at. both (a_word (codes "samesign")) (λ s. both (an_entry plain predicate_words predicates.Eq) (λ p.
    both (a_type any_type) (λ t. both (an_operand (width_of t)) (λ left. both (sign plain (codes ",")) (λ comma. both (an_operand (width_of t)) (λ right.
    nothing (compared (result_of r) at.at (predicate_of p) (tree.type_at t) (tree.operand_of left) (tree.operand_of right)))))))))

abbrev pub compare_parts : Spelling (ResultName × (Mark × (Option Mark × (Placed × (TypeTree × (Placed × (Mark × (Placed × Unit {0})))))))) Instruction
compare_parts = both a_result_name compare_body

pub compare_body_exact : (r : NameAt) (rt : ResultName) → r ≡ result_of rt → IsExact (compare_body rt) (words (codes "icmp" ∷ []) ∷ []) false [] (compare_at r)
unfolding compare_at
compare_body_exact r rt re =
    both_exact (sign_exact operation (codes "icmp") (wanted roles.Operation)) (λ at am ag ae.
    both_exact (word_exact (codes "samesign")) (λ s sm sg se.
    both_exact (entry_exact plain (wanted roles.Plain) predicate_words predicates.Eq (codes "eq") refl) (λ p pt pg pe.
    both_exact (type_exact any_type (wanted roles.AnyType)) (λ t tw tg te.
    both_exact (operand_exact_at (integer_width t.ty) (width_of tw) (width_same t (tree.type_at tw) te) (behind roles.Operand)) (λ left lt lg le.
    both_exact (sign_exact plain (codes ",") (wanted roles.Plain)) (λ comma ct cg ce.
    both_exact (operand_exact_at (integer_width t.ty) (width_of tw) (width_same t (tree.type_at tw) te) (wanted roles.Operand)) (λ right ot og oe.
    done_exact _ _ (compared_same r (result_of rt) at am.at p.0 (predicate_of pt) t (tree.type_at tw) left (tree.operand_of lt) right (tree.operand_of ot) re ae (ap (λ (z : Predicate × ℕ). z.0) pe) te le oe))
    refl) refl) refl) refl) refl) refl) refl

compare_parts_exact : IsExact compare_parts (local ∷ []) false [] (result_name_at >>= compare_at)
compare_parts_exact = both_exact result_name_exact (λ r rt rg re. compare_body_exact r rt re) refl

compare_regroup : (a b c d e : Bool) → (a && (true && (true && (b && (c && (d && (true && (e && true)))))))) ≡ (true && (((a && b) && c) && (d && e)))
compare_regroup false b c d e = refl
compare_regroup true false c d e = refl
compare_regroup true true false d e = refl
compare_regroup true true true false e = refl
compare_regroup true true true true false = refl
compare_regroup true true true true true = refl

pub compare_grammar : (r : ResultName) (at : Mark) (s : Option Mark) (p : Placed) (t : TypeTree) (left : Placed) (comma : Mark) (right : Placed)
    → compare_parts.grammar (r, (at, (s, (p, (t, (left, (comma, (right, tt)))))))) ≡ (an_instruction is_compare).grammar (compare r at s p t left comma right)
compare_grammar r at s p t left comma right =
    let a = is_result_name r && is_some (entry_of predicate_words p.text) in
    compare_regroup (is_result_name r) (is_some (entry_of predicate_words p.text)) (is_type t) (is_operand_for (width_of t) left.text) (is_operand_for (width_of t) right.text)
    ∙ (ap (λ z. true && ((a && is_type t) && (z && is_operand_for (width_of t) right.text))) (sym (operand_same t left.text))
    ∙ ap (λ z. true && ((a && is_type t) && (is_operand_at t left.text && z))) (sym (operand_same t right.text)))

compare_back : (u : InstructionTree) → IsTrue ((an_instruction is_compare).grammar u) → Covers (an_instruction is_compare) compare_parts u
compare_back (compare r at s p t left comma right) g = record {
  other = (r, (at, (s, (p, (t, (left, (comma, (right, tt))))))));
  is_one = compare_grammar r at s p t left comma right ∙ g;
  same = record { spelled = λ ts. refl; means = refl; nests = omega arith };
}
compare_back _ g = absurd (cc)

pub compare_exact : CompareIsExact
compare_exact =
    same_exact compare_parts_exact
    (λ p g. record {
      other = compare p.0 p.1.0 p.1.1.0 p.1.1.1.0 p.1.1.1.1.0 p.1.1.1.1.1.0 p.1.1.1.1.1.1.0 p.1.1.1.1.1.1.1.0;
      is_one = sym (compare_grammar p.0 p.1.0 p.1.1.0 p.1.1.1.0 p.1.1.1.1.0 p.1.1.1.1.1.0 p.1.1.1.1.1.1.0 p.1.1.1.1.1.1.1.0) ∙ g;
      same = record { spelled = λ ts. refl; means = refl; nests = omega arith };
    })
    compare_back

-- ---- select

-- i1 and a condition
abbrev pub a_condition : Spelling (Mark × Placed) Operand
a_condition = both (single (λ m. last_of_type fixed_type (marked (codes "i1") m)) (λ m. true) (λ m. m.at)) (λ m. an_operand (Some 1))

pub condition_exact : IsExact a_condition (words (codes "i1" ∷ []) ∷ []) false [] condition_at
condition_exact = both_exact (ending_exact fixed_type (codes "i1") (wanted roles.FixedType)) (λ x m g e. operand_exact (Some 1) (behind roles.Operand)) refl

abbrev pub selected : NameAt → ℕ → Operand → TypedOperand → TypedOperand → Instruction
selected r at c a b = instructions.Select (record { at = spot at; result = r; condition = c; then = a; otherwise = b })

selected_same : (r s : NameAt) (m n : ℕ) (c d : Operand) (t u a b : TypedOperand) → r ≡ s → m ≡ n → c ≡ d → t ≡ u → a ≡ b → selected r m c t a ≡ selected s n d u b
selected_same r s m n c d t u a b e f g h i =
    ap (λ z. selected z m c t a) e ∙ (ap (λ z. selected s z c t a) f ∙ (ap (λ z. selected s n z t a) g ∙ (ap (λ z. selected s n d z a) h ∙ ap (λ z. selected s n d u z) i)))

abbrev pub select_body : ResultName → Spelling (Mark × ((Mark × Placed) × (Mark × (TypedTree × (Mark × (TypedTree × Unit {0})))))) Instruction
select_body r = both (sign operation (codes "select")) (λ at. both a_condition (λ c. both (sign plain (codes ",")) (λ comma. both a_value (λ then.
    both (sign plain (codes ",")) (λ second_comma. both (a_typed any_type) (λ otherwise.
    nothing (selected (result_of r) at.at (tree.operand_of c.1) (tree.typed_of then) (tree.typed_of otherwise))))))))

abbrev pub select_parts : Spelling (ResultName × (Mark × ((Mark × Placed) × (Mark × (TypedTree × (Mark × (TypedTree × Unit {0}))))))) Instruction
select_parts = both a_result_name select_body

pub select_body_exact : (r : NameAt) (rt : ResultName) → r ≡ result_of rt → IsExact (select_body rt) (words (codes "select" ∷ []) ∷ []) false [] (select_at r)
unfolding select_at
select_body_exact r rt re =
    both_exact (sign_exact operation (codes "select") (wanted roles.Operation)) (λ at am ag ae.
    both_exact condition_exact (λ c ct cg ce.
    both_exact (sign_exact plain (codes ",") (wanted roles.Plain)) (λ x xm xg xe.
    both_exact (value_exact (wanted roles.ValueType)) (λ t tw tg te.
    both_exact (sign_exact plain (codes ",") (wanted roles.Plain)) (λ y ym yg ye.
    both_exact (any_typed_exact any_type (wanted roles.AnyType)) (λ o ot og oe.
    done_exact _ _ (selected_same r (result_of rt) at am.at c (tree.operand_of ct.1) t (tree.typed_of tw) o (tree.typed_of ot) re ae ce te oe))
    refl) refl) refl) refl) refl) refl

select_parts_exact : IsExact select_parts (local ∷ []) false [] (result_name_at >>= select_at)
select_parts_exact = both_exact result_name_exact (λ r rt rg re. select_body_exact r rt re) refl

pub select_regroup : (a b c d : Bool) → (a && (true && ((true && b) && (true && (c && (true && (d && true))))))) ≡ (true && ((a && b) && (c && d)))
select_regroup false b c d = refl
select_regroup true false c d = refl
select_regroup true true false d = refl
select_regroup true true true false = refl
select_regroup true true true true = refl

select_back : (u : InstructionTree) → IsTrue ((an_instruction is_select).grammar u) → Covers (an_instruction is_select) select_parts u
select_back (select r at bit c comma then second_comma otherwise) g = record {
  other = (r, (at, ((bit, c), (comma, (then, (second_comma, (otherwise, tt)))))));
  is_one = select_regroup (is_result_name r) (is_operand_of 1 c.text) (is_value then) (is_typed otherwise) ∙ g;
  same = record { spelled = λ ts. refl; means = refl; nests = omega arith };
}
select_back _ g = absurd (cc)

pub select_exact : SelectIsExact
select_exact =
    same_exact select_parts_exact
    (λ p g. record {
      other = select p.0 p.1.0 p.1.1.0.0 p.1.1.0.1 p.1.1.1.0 p.1.1.1.1.0 p.1.1.1.1.1.0 p.1.1.1.1.1.1.0;
      is_one = sym (select_regroup (is_result_name p.0) (is_operand_of 1 p.1.1.0.1.text) (is_value p.1.1.1.1.0) (is_typed p.1.1.1.1.1.1.0)) ∙ g;
      same = record { spelled = λ ts. refl; means = refl; nests = omega arith };
    })
    select_back

-- ---- casts

abbrev cast_flag_kinds : List Kind
cast_flag_kinds = words (codes "nneg" ∷ codes "nuw" ∷ codes "nsw" ∷ []) ∷ []

nneg_within : Within (flag_kinds (codes "nneg" ∷ [])) cast_flag_kinds
nneg_within t h = by_test (same_text (codes "nneg") t) h
  where
    by_test : (a : Bool) → cond (cond a true false) true false ≡ true → cond (cond a true (cond (same_text (codes "nuw") t) true (cond (same_text (codes "nsw") t) true false))) true false ≡ true
    by_test true k = refl
    by_test false k = absurd (cc)

wrap_within : Within (flag_kinds (codes "nuw" ∷ codes "nsw" ∷ [])) cast_flag_kinds
wrap_within t h = by_test (same_text (codes "nneg") t) (same_text (codes "nuw") t) (same_text (codes "nsw") t) h
  where
    by_test : (a b c : Bool) → cond (cond b true false) true (cond (cond c true false) true false) ≡ true → cond (cond a true (cond b true (cond c true false))) true false ≡ true
    by_test true b c k = refl
    by_test false true c k = refl
    by_test false false true k = refl
    by_test false false false k = absurd (cc)

none_within : Within [] cast_flag_kinds
none_within t h = absurd (cc)

cast_flags_exact : (o : CastOperator) → IsExact (flags (cast_flags o)) cast_flag_kinds true cast_flag_kinds (flags_at (cast_flags o))
cast_flags_exact casts.Zext = weaker_exact (flags_exact (codes "nneg" ∷ []) refl) cast_flag_kinds nneg_within cast_flag_kinds nneg_within
cast_flags_exact casts.Sext = weaker_exact (flags_exact (codes "nneg" ∷ []) refl) cast_flag_kinds nneg_within cast_flag_kinds nneg_within
cast_flags_exact casts.Trunc = weaker_exact (flags_exact (codes "nuw" ∷ codes "nsw" ∷ []) refl) cast_flag_kinds wrap_within cast_flag_kinds wrap_within
cast_flags_exact casts.PtrToInt = weaker_exact (flags_exact [] refl) cast_flag_kinds none_within cast_flag_kinds none_within
cast_flags_exact casts.IntToPtr = weaker_exact (flags_exact [] refl) cast_flag_kinds none_within cast_flag_kinds none_within
cast_flags_exact casts.Bitcast = weaker_exact (flags_exact [] refl) cast_flag_kinds none_within cast_flag_kinds none_within

cast_flags_at : (v u : CastOperator) → v ≡ u → IsExact (flags (cast_flags u)) cast_flag_kinds true cast_flag_kinds (flags_at (cast_flags v))
cast_flags_at v u e = subst (λ z. IsExact (flags (cast_flags u)) cast_flag_kinds true cast_flag_kinds (flags_at (cast_flags z))) (sym e) (cast_flags_exact u)

abbrev pub cast_of : Placed → CastOperator
cast_of op = unwrap_or (entry_of cast_words op.text) casts.Zext

abbrev pub casted : NameAt → CastOperator × ℕ → TypedOperand → TypeAt → Instruction
casted r op from to = instructions.Cast (record { at = spot op.1; result = r; operator = op.0; operand = from; target = to })

casted_same : (r s : NameAt) (o p : CastOperator × ℕ) (a b : TypedOperand) (t u : TypeAt) → r ≡ s → o ≡ p → a ≡ b → t ≡ u → casted r o a t ≡ casted s p b u
casted_same r s o p a b t u e f g h = ap (λ z. casted z o a t) e ∙ (ap (λ z. casted s z a t) f ∙ (ap (λ z. casted s p z t) g ∙ ap (λ z. casted s p b z) h))

abbrev pub cast_body : ResultName → Spelling (Placed × (List Placed × (TypedTree × (Mark × (TypeTree × Unit {0}))))) Instruction
cast_body r = both (an_entry operation cast_words casts.Zext) (λ op. both (flags (cast_flags (cast_of op))) (λ fs. both (a_typed any_type) (λ from.
    both (sign plain (codes "to")) (λ at_to. both a_value_type (λ to. nothing (casted (result_of r) (cast_of op, op.at) (tree.typed_of from) (tree.type_at to)))))))

abbrev pub cast_parts : Spelling (ResultName × (Placed × (List Placed × (TypedTree × (Mark × (TypeTree × Unit {0})))))) Instruction
cast_parts = both a_result_name cast_body

pub cast_body_exact : (r : NameAt) (rt : ResultName) → r ≡ result_of rt → IsExact (cast_body rt) (words (words_of cast_words) ∷ []) false [] (cast_at r)
unfolding cast_at
cast_body_exact r rt re =
    both_exact (entry_exact operation (wanted roles.Operation) cast_words casts.Zext (codes "zext") refl) (λ op ot og oe.
    both_exact (cast_flags_at op.0 (cast_of ot) (ap (λ (z : CastOperator × ℕ). z.0) oe)) (λ fs ft fg fe.
    both_exact (any_typed_exact any_type (wanted roles.AnyType)) (λ from st sg se.
    both_exact (sign_exact plain (codes "to") (wanted roles.Plain)) (λ m mt mg me.
    both_exact (value_type_exact (wanted roles.ValueType)) (λ to tw tg te.
    done_exact _ _ (casted_same r (result_of rt) op (cast_of ot, ot.at) from (tree.typed_of st) to (tree.type_at tw) re oe se te))
    refl) refl) refl) refl) refl

cast_parts_exact : IsExact cast_parts (local ∷ []) false [] (result_name_at >>= cast_at)
cast_parts_exact = both_exact result_name_exact (λ r rt rg re. cast_body_exact r rt re) refl

cast_regroup : (a b c d e : Bool) → (a && (b && (c && (d && (true && (e && true)))))) ≡ (true && ((a && (b && c)) && (d && e)))
cast_regroup false b c d e = refl
cast_regroup true false c d e = refl
cast_regroup true true false d e = refl
cast_regroup true true true false e = refl
cast_regroup true true true true false = refl
cast_regroup true true true true true = refl

cast_split : (e : Option CastOperator) (fs : List Placed) → option_map_or (λ o. are_flags (cast_flags o) fs) e false ≡ (is_some e && are_flags (cast_flags (unwrap_or e casts.Zext)) fs)
cast_split None fs = refl
cast_split (Some o) fs = refl

pub cast_grammar : (r : ResultName) (op : Placed) (fs : List Placed) (from : TypedTree) (at_to : Mark) (to : TypeTree)
    → cast_parts.grammar (r, (op, (fs, (from, (at_to, (to, tt)))))) ≡ (an_instruction is_cast_tree).grammar (cast r op fs from at_to to)
cast_grammar r op fs from at_to to =
    cast_regroup (is_result_name r) (is_some (entry_of cast_words op.text)) (are_flags (cast_flags (cast_of op)) fs) (is_typed from) (is_value_type to)
    ∙ ap (λ z. true && ((is_result_name r && z) && (is_typed from && is_value_type to))) (sym (cast_split (entry_of cast_words op.text) fs))

cast_back : (u : InstructionTree) → IsTrue ((an_instruction is_cast_tree).grammar u) → Covers (an_instruction is_cast_tree) cast_parts u
cast_back (cast r op fs from at_to to) g = record {
  other = (r, (op, (fs, (from, (at_to, (to, tt))))));
  is_one = cast_grammar r op fs from at_to to ∙ g;
  same = record { spelled = λ ts. refl; means = refl; nests = omega arith };
}
cast_back _ g = absurd (cc)

pub cast_exact : CastIsExact
cast_exact =
    same_exact cast_parts_exact
    (λ p g. record {
      other = cast p.0 p.1.0 p.1.1.0 p.1.1.1.0 p.1.1.1.1.0 p.1.1.1.1.1.0;
      is_one = sym (cast_grammar p.0 p.1.0 p.1.1.0 p.1.1.1.0 p.1.1.1.1.0 p.1.1.1.1.1.0) ∙ g;
      same = record { spelled = λ ts. refl; means = refl; nests = omega arith };
    })
    cast_back

-- ---- freeze

abbrev pub frozen : NameAt → ℕ → TypedOperand → Instruction
frozen r at from = instructions.Freeze (record { at = spot at; result = r; operand = from })

frozen_same : (r s : NameAt) (m n : ℕ) (a b : TypedOperand) → r ≡ s → m ≡ n → a ≡ b → frozen r m a ≡ frozen s n b
frozen_same r s m n a b e f g = ap (λ z. frozen z m a) e ∙ (ap (λ z. frozen s z a) f ∙ ap (λ z. frozen s n z) g)

abbrev pub freeze_body : ResultName → Spelling (Mark × (TypedTree × Unit {0})) Instruction
freeze_body r = both (sign operation (codes "freeze")) (λ at. both a_value (λ from. nothing (frozen (result_of r) at.at (tree.typed_of from))))

abbrev pub freeze_parts : Spelling (ResultName × (Mark × (TypedTree × Unit {0}))) Instruction
freeze_parts = both a_result_name freeze_body

pub freeze_body_exact : (r : NameAt) (rt : ResultName) → r ≡ result_of rt → IsExact (freeze_body rt) (words (codes "freeze" ∷ []) ∷ []) false [] (freeze_at r)
unfolding freeze_at
freeze_body_exact r rt re =
    both_exact (sign_exact operation (codes "freeze") (wanted roles.Operation)) (λ at am ag ae.
    both_exact (value_exact (wanted roles.ValueType)) (λ t tw tg te.
    done_exact _ _ (frozen_same r (result_of rt) at am.at t (tree.typed_of tw) re ae te)) refl) refl

freeze_parts_exact : IsExact freeze_parts (local ∷ []) false [] (result_name_at >>= freeze_at)
freeze_parts_exact = both_exact result_name_exact (λ r rt rg re. freeze_body_exact r rt re) refl

pub freeze_regroup : (a b : Bool) → (a && (true && (b && true))) ≡ (true && (a && b))
freeze_regroup false b = refl
freeze_regroup true false = refl
freeze_regroup true true = refl

freeze_back : (u : InstructionTree) → IsTrue ((an_instruction is_freeze).grammar u) → Covers (an_instruction is_freeze) freeze_parts u
freeze_back (freeze r at from) g = record {
  other = (r, (at, (from, tt)));
  is_one = freeze_regroup (is_result_name r) (is_value from) ∙ g;
  same = record { spelled = λ ts. refl; means = refl; nests = omega arith };
}
freeze_back _ g = absurd (cc)

pub freeze_exact : FreezeIsExact
freeze_exact =
    same_exact freeze_parts_exact
    (λ p g. record {
      other = freeze p.0 p.1.0 p.1.1.0;
      is_one = sym (freeze_regroup (is_result_name p.0) (is_value p.1.1.0)) ∙ g;
      same = record { spelled = λ ts. refl; means = refl; nests = omega arith };
    })
    freeze_back
