-- The reader of an instruction behind its result, by its word, is exact.
use Rattle.std.proofs.Common.{◌≡◌, ◌⊎◌, false, Option, List, [], ◌∷◌, codes, refl, sym, ◌∙◌, arith, IsTrue, inl, inr}
use Rattle.vg_ir.specs.declared.name.NameAt.{NameAt}
use Rattle.vg_ir.specs.declared.instruction.Instruction.{Instruction}
use Rattle.vg_irparse.specs.Placed.{Placed, Mark}
use Rattle.vg_irparse.specs.Words.{operator_words, cast_words}
use Rattle.vg_irparse.specs.Grammar.{is_result_name, is_operand_of, is_value, is_typed}
use Rattle.vg_irparse.specs.Concrete.{ResultName, TypeTree, TypedTree}
use Rattle.vg_irparse.specs.ConcreteInstruction.{InstructionTree, binary, compare, select, cast, freeze}
use Rattle.vg_irparse.specs.TreeInstruction.{result_of}
use Rattle.vg_irread.specs.Kinds.{Kind, words, local}
use Rattle.vg_irread.specs.Reading.{◌>>=◌}
use Rattle.vg_irread.specs.Exact.{Spelling, both, either, IsExact}
use Rattle.vg_irread.specs.ReadingOperand.{a_result_name, result_name_at}
use Rattle.vg_irread.specs.ReadingInstruction.{words_of, operation_at}
use Rattle.vg_irread.specs.ExactInstruction.{an_instruction, is_operation, OperationIsExact}
use Rattle.vg_irread.proofs.Pairs.{both_exact}
use Rattle.vg_irread.proofs.Either.{either_exact}
use Rattle.vg_irread.proofs.Same.{Covers, same_exact}
use Rattle.vg_irread.proofs.OperandsExact.{result_name_exact}
use Rattle.vg_irread.proofs.BinaryExact.{binary_body, binary_body_exact, grammar_same}
use Rattle.vg_irread.proofs.InstructionsExact.{compare_body, compare_body_exact, compare_grammar, select_body, select_body_exact, select_regroup, cast_body, cast_body_exact, cast_grammar, freeze_body, freeze_body_exact, freeze_regroup}

abbrev BinaryBody : Type 0
BinaryBody = Placed × (List Placed × (TypeTree × (Placed × (Mark × (Placed × Unit {0})))))

abbrev CastBody : Type 0
CastBody = Placed × (List Placed × (TypedTree × (Mark × (TypeTree × Unit {0}))))

abbrev CompareBody : Type 0
CompareBody = Mark × (Option Mark × (Placed × (TypeTree × (Placed × (Mark × (Placed × Unit {0}))))))

abbrev SelectBody : Type 0
SelectBody = Mark × ((Mark × Placed) × (Mark × (TypedTree × (Mark × (TypedTree × Unit {0})))))

abbrev FreezeBody : Type 0
FreezeBody = Mark × (TypedTree × Unit {0})

abbrev Body : Type 0
Body = BinaryBody ⊎ (CastBody ⊎ (CompareBody ⊎ (SelectBody ⊎ FreezeBody)))

abbrev body : ResultName → Spelling Body Instruction
body r = either (binary_body r) (either (cast_body r) (either (compare_body r) (either (select_body r) (freeze_body r))))

abbrev body_kinds : List Kind
body_kinds =
    words (words_of operator_words) ∷ words (words_of cast_words) ∷ words (codes "icmp" ∷ []) ∷ words (codes "select" ∷ []) ∷ words (codes "freeze" ∷ []) ∷ []

body_exact : (x : NameAt) (r : ResultName) → x ≡ result_of r → IsExact (body r) body_kinds false [] (operation_at x)
body_exact x r e =
    either_exact (binary_body_exact x r e)
    (either_exact (cast_body_exact x r e) (either_exact (compare_body_exact x r e) (either_exact (select_body_exact x r e) (freeze_body_exact x r e) refl) refl) refl) refl

abbrev whole : Spelling (ResultName × Body) Instruction
whole = both a_result_name body

whole_exact : IsExact whole (local ∷ []) false [] (result_name_at >>= operation_at)
whole_exact = both_exact result_name_exact (λ x r g e. body_exact x r e) refl

forth : (r : ResultName) (b : Body) → IsTrue (whole.grammar (r, b)) → Covers whole (an_instruction is_operation) (r, b)
forth r (inl p) g = record {
  other = binary r p.0 p.1.0 p.1.1.0 p.1.1.1.0 p.1.1.1.1.0 p.1.1.1.1.1.0;
  is_one = sym (grammar_same r p.0 p.1.0 p.1.1.0 p.1.1.1.0 p.1.1.1.1.0 p.1.1.1.1.1.0) ∙ g;
  same = record { spelled = λ ts. refl; means = refl; nests = omega arith };
}
forth r (inr (inl p)) g = record {
  other = cast r p.0 p.1.0 p.1.1.0 p.1.1.1.0 p.1.1.1.1.0;
  is_one = sym (cast_grammar r p.0 p.1.0 p.1.1.0 p.1.1.1.0 p.1.1.1.1.0) ∙ g;
  same = record { spelled = λ ts. refl; means = refl; nests = omega arith };
}
forth r (inr (inr (inl p))) g = record {
  other = compare r p.0 p.1.0 p.1.1.0 p.1.1.1.0 p.1.1.1.1.0 p.1.1.1.1.1.0 p.1.1.1.1.1.1.0;
  is_one = sym (compare_grammar r p.0 p.1.0 p.1.1.0 p.1.1.1.0 p.1.1.1.1.0 p.1.1.1.1.1.0 p.1.1.1.1.1.1.0) ∙ g;
  same = record { spelled = λ ts. refl; means = refl; nests = omega arith };
}
forth r (inr (inr (inr (inl p)))) g = record {
  other = select r p.0 p.1.0.0 p.1.0.1 p.1.1.0 p.1.1.1.0 p.1.1.1.1.0 p.1.1.1.1.1.0;
  is_one = sym (select_regroup (is_result_name r) (is_operand_of 1 p.1.0.1.text) (is_value p.1.1.1.0) (is_typed p.1.1.1.1.1.0)) ∙ g;
  same = record { spelled = λ ts. refl; means = refl; nests = omega arith };
}
forth r (inr (inr (inr (inr p)))) g = record {
  other = freeze r p.0 p.1.0;
  is_one = sym (freeze_regroup (is_result_name r) (is_value p.1.0)) ∙ g;
  same = record { spelled = λ ts. refl; means = refl; nests = omega arith };
}

back : (u : InstructionTree) → IsTrue ((an_instruction is_operation).grammar u) → Covers (an_instruction is_operation) whole u
back (binary r op fs t left comma right) g = record {
  other = (r, inl (op, (fs, (t, (left, (comma, (right, tt)))))));
  is_one = grammar_same r op fs t left comma right ∙ g;
  same = record { spelled = λ ts. refl; means = refl; nests = omega arith };
}
back (cast r op fs from at_to to) g = record {
  other = (r, inr (inl (op, (fs, (from, (at_to, (to, tt)))))));
  is_one = cast_grammar r op fs from at_to to ∙ g;
  same = record { spelled = λ ts. refl; means = refl; nests = omega arith };
}
back (compare r at s p t left comma right) g = record {
  other = (r, inr (inr (inl (at, (s, (p, (t, (left, (comma, (right, tt))))))))));
  is_one = compare_grammar r at s p t left comma right ∙ g;
  same = record { spelled = λ ts. refl; means = refl; nests = omega arith };
}
back (select r at bit c comma then second_comma otherwise) g = record {
  other = (r, inr (inr (inr (inl (at, ((bit, c), (comma, (then, (second_comma, (otherwise, tt))))))))));
  is_one = select_regroup (is_result_name r) (is_operand_of 1 c.text) (is_value then) (is_typed otherwise) ∙ g;
  same = record { spelled = λ ts. refl; means = refl; nests = omega arith };
}
back (freeze r at from) g = record {
  other = (r, inr (inr (inr (inr (at, (from, tt))))));
  is_one = freeze_regroup (is_result_name r) (is_value from) ∙ g;
  same = record { spelled = λ ts. refl; means = refl; nests = omega arith };
}
back _ g = absurd (cc)

pub operation_exact : OperationIsExact
operation_exact = same_exact whole_exact (λ p g. forth p.0 p.1 g) back
