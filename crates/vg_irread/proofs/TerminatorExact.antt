-- The reader of terminators is exact.
use Rattle.std.proofs.Common.{◌≡◌, ◌⊎◌, ℕ, ◌<◌, ◌^◌, Bool, true, false, cond, ◌&&◌, nat_lt, Option, Some, None, List, [], ◌∷◌, codes, refl, sym, ap, subst, ◌∙◌, arith, IsTrue, inl, inr}
use Rattle.std.proofs.lemmas.Nat.{pow_pos}
use Rattle.std.proofs.lemmas.Bool.Decides.{nat_tests}
use Rattle.vg_ir.specs.declared.name.NameAt.{NameAt}
use Rattle.vg_ir.specs.declared.number.Number.{Number}
use Rattle.vg_ir.specs.declared.ty.TypeAt.{TypeAt}
use Rattle.vg_ir.specs.declared.operand.Operand.{Operand}
use Rattle.vg_ir.specs.declared.operand.TypedOperand.{TypedOperand}
use Rattle.vg_ir.specs.declared.terminator.Case.{Case}
use Rattle.vg_ir.specs.declared.terminator.Terminator.{Terminator}
use Rattle.vg_ir.specs.declared.terminator.Terminator.TheVariants as terminators
use Rattle.vg_ir.specs.Shape.{integer_width}
use Rattle.vg_irparse.specs.declared.role.Role.TheVariants as roles
use Rattle.vg_irparse.specs.declared.role.Wanted.{Wanted}
use Rattle.vg_irparse.specs.Placed.{Placed, Mark, plain, any_type}
use Rattle.vg_irparse.specs.Text.{is_local, is_number, spot, digits_value, name_of, name_bytes}
use Rattle.vg_irparse.specs.ReadingType.{wanted}
use Rattle.vg_irparse.specs.Grammar.{is_number_at, is_type, is_operand_of, is_typed, is_target}
use Rattle.vg_irparse.specs.Concrete.{TypeTree, integer, pointer, array, structure, named, TypedTree, LabelTree}
use Rattle.vg_irparse.specs.ConcreteInstruction.{CaseTree, TerminatorTree, jump, branch, switch, return, return_void, unreachable}
use Rattle.vg_irparse.specs.GrammarInstruction.{is_case}
use Rattle.std.specs.List.{list_all}
use Rattle.vg_irparse.specs.Tree as tree
use Rattle.vg_irparse.specs.Spelling.{spelled_label}
use Rattle.vg_irparse.specs.TreeInstruction.{case_of}
use Rattle.vg_irread.specs.Kinds.{Kind, words, number}
use Rattle.vg_irread.specs.Exact.{Spelling, one, sign, both, many, either, nothing, IsExact}
use Rattle.vg_irread.specs.ReadingType.{a_type, type_kinds}
use Rattle.vg_irread.specs.ReadingOperand.{behind, is_number_for, a_typed}
use Rattle.vg_irread.specs.ReadingTerminator.{label_at, jump_at, branch_at, label_kinds, br_at, placed_number, number_at, case_at, cases_at, switch_at, return_void_at, return_value_at, void_kinds, return_at, unreachable_at, terminator_at}
use Rattle.vg_irread.specs.ExactTerminator.{a_case, a_terminator, terminator_kinds, TerminatorsAreExact}
use Rattle.vg_irread.proofs.Single.{done_exact}
use Rattle.vg_irread.proofs.Pairs.{both_exact}
use Rattle.vg_irread.proofs.Many.{many_exact}
use Rattle.vg_irread.proofs.Either.{either_exact}
use Rattle.vg_irread.proofs.Same.{Covers, same_exact}
use Rattle.vg_irread.proofs.Layers.{width-Int, width-Ptr, width-Array, width-Struct, width-Named}
use Rattle.vg_irread.proofs.TypesExact.{type_exact}
use Rattle.vg_irread.proofs.OperandsExact.{taken_exact, local_exact, sign_exact, any_typed_exact, width_same}
use Rattle.vg_irread.proofs.InstructionsExact.{width_of, a_condition, condition_exact}

-- ---- label %b

-- labels, as they are spelled
abbrev pub a_label : Spelling LabelTree NameAt
a_label = record { grammar = is_target; spelled = spelled_label; means = tree.target_of; nests = λ l. 0 }

pub label_exact : IsExact a_label label_kinds false [] label_at
label_exact =
    same_exact (both_exact (sign_exact plain (codes "label") (wanted roles.Plain)) (λ x m g e. local_exact (wanted roles.Plain)) refl)
    (λ t g. record { other = record { at = t.0; name = t.1 }; is_one = g; same = record { spelled = λ ts. refl; means = refl; nests = omega arith } })
    (λ u g. record { other = (u.at, u.name); is_one = g; same = record { spelled = λ ts. refl; means = refl; nests = omega arith } })

-- ---- br

abbrev jumped : ℕ → NameAt → Terminator
jumped at target = terminators.Jump (record { at = spot at; target = target })

jumped_same : (m n : ℕ) (t u : NameAt) → m ≡ n → t ≡ u → jumped m t ≡ jumped n u
jumped_same m n t u e f = ap (λ z. jumped z t) e ∙ ap (λ z. jumped n z) f

abbrev JumpBody : Type 0
JumpBody = LabelTree × Unit {0}

abbrev jump_body : Mark → Spelling JumpBody Terminator
jump_body at = both a_label (λ l. nothing (jumped at.at (tree.target_of l)))

jump_body_exact : (x : ℕ) (m : Mark) → x ≡ m.at → IsExact (jump_body m) label_kinds false [] (jump_at x)
unfolding jump_at
jump_body_exact x m e = both_exact label_exact (λ t l g f. done_exact _ _ (jumped_same x m.at t (tree.target_of l) e f)) refl

abbrev branched : ℕ → Operand → NameAt → NameAt → Terminator
branched at c t o = terminators.Branch (record { at = spot at; condition = c; then = t; otherwise = o })

branched_same : (m n : ℕ) (c d : Operand) (t u a b : NameAt) → m ≡ n → c ≡ d → t ≡ u → a ≡ b → branched m c t a ≡ branched n d u b
branched_same m n c d t u a b e f g h = ap (λ z. branched z c t a) e ∙ (ap (λ z. branched n z t a) f ∙ (ap (λ z. branched n d z a) g ∙ ap (λ z. branched n d u z) h))

abbrev BranchBody : Type 0
BranchBody = (Mark × Placed) × (Mark × (LabelTree × (Mark × (LabelTree × Unit {0}))))

abbrev branch_body : Mark → Spelling BranchBody Terminator
branch_body at = both a_condition (λ c. both (sign plain (codes ",")) (λ comma. both a_label (λ then. both (sign plain (codes ",")) (λ second_comma. both a_label (λ otherwise.
    nothing (branched at.at (tree.operand_of c.1) (tree.target_of then) (tree.target_of otherwise)))))))

branch_body_exact : (x : ℕ) (m : Mark) → x ≡ m.at → IsExact (branch_body m) (words (codes "i1" ∷ []) ∷ []) false [] (branch_at x)
unfolding branch_at
branch_body_exact x m e =
    both_exact condition_exact (λ c ct cg ce.
    both_exact (sign_exact plain (codes ",") (wanted roles.Plain)) (λ y ym yg ye.
    both_exact label_exact (λ t tl tg te.
    both_exact (sign_exact plain (codes ",") (wanted roles.Plain)) (λ z zm zg ze.
    both_exact label_exact (λ o ol og oe.
    done_exact _ _ (branched_same x m.at c (tree.operand_of ct.1) t (tree.target_of tl) o (tree.target_of ol) e ce te oe))
    refl) refl) refl) refl) refl

abbrev BrBody : Type 0
BrBody = Mark × (JumpBody ⊎ BranchBody)

abbrev br_body : Spelling BrBody Terminator
br_body = both (sign plain (codes "br")) (λ at. either (jump_body at) (branch_body at))

br_body_exact : IsExact br_body (words (codes "br" ∷ []) ∷ []) false [] br_at
br_body_exact =
    both_exact (sign_exact plain (codes "br") (wanted roles.Plain)) (λ x m g e. either_exact (jump_body_exact x m e) (branch_body_exact x m e) refl) refl

-- ---- switch

-- numbers of an integer of so many bits, or at another type
abbrev pub a_number : Option ℕ → Spelling Placed (Number × ℕ)
a_number width = one plain (λ l. is_number_for width l.text) placed_number

zero_fits : (w : ℕ) → nat_lt 0 (2 ^ w) ≡ true
zero_fits w = let p = pow_pos w in grind (arith, nat_tests)

zero_number : (width : Option ℕ) → is_number_for width (codes "0") ≡ true
zero_number (Some w) = zero_fits w
zero_number None = refl

number_kind : (width : Option ℕ) (t : List ℕ) → is_number_for width t ≡ true → is_number t ≡ true
number_kind (Some n) t h = by_test (is_number t) _ h
  where
    by_test : (a b : Bool) → (a && b) ≡ true → a ≡ true
    by_test true b h = refl
    by_test false b h = absurd (cc)
number_kind None t h = h

of_one : (b : Bool) → b ≡ true → cond b true false ≡ true
of_one b h = rw h refl

pub number_exact : (width : Option ℕ) (w : Wanted) → IsExact (a_number width) (number ∷ []) false [] (number_at width w)
number_exact width w = taken_exact plain (is_number_for width) placed_number (number ∷ []) (codes "0") (zero_number width) (λ t g. of_one (is_number t) (number_kind width t g)) w

pub number_exact_at : (v u : Option ℕ) → v ≡ u → (w : Wanted) → IsExact (a_number u) (number ∷ []) false [] (number_at v w)
number_exact_at v u e w = subst (λ z. IsExact (a_number u) (number ∷ []) false [] (number_at z w)) (sym e) (number_exact u w)

-- a number by a type's tree is one by its width
pub number_same : (t : TypeTree) (text : List ℕ) → is_number_at t text ≡ is_number_for (integer_width (tree.type_of t)) text
number_same (integer width at) text = ap (λ z. is_number_for z text) (sym (width-Int width))
number_same (pointer at) text = ap (λ z. is_number_for z text) (sym width-Ptr)
number_same (array opening n by element closing) text = ap (λ z. is_number_for z text) (sym (width-Array (digits_value n.text) (tree.type_of element)))
number_same (structure opening first more closing) text = ap (λ z. is_number_for z text) (sym (width-Struct (tree.type_of first ∷ tree.types_of more)))
number_same (named name) text = ap (λ z. is_number_for z text) (sym (width-Named (name_of (name_bytes name.text))))

abbrev cased : TypeAt → Number × ℕ → NameAt → Case
cased t n l = record { ty = t; number = n.0; at = spot n.1; target = l }

cased_same : (t u : TypeAt) (m n : Number × ℕ) (k l : NameAt) → t ≡ u → m ≡ n → k ≡ l → cased t m k ≡ cased u n l
cased_same t u m n k l e f g = ap (λ z. cased z m k) e ∙ (ap (λ z. cased u z k) f ∙ ap (λ z. cased u n z) g)

abbrev case_body : Spelling (TypeTree × (Placed × (Mark × (LabelTree × Unit {0})))) Case
case_body = both (a_type any_type) (λ t. both (a_number (width_of t)) (λ n. both (sign plain (codes ",")) (λ comma. both a_label (λ l.
    nothing (cased (tree.type_at t) (placed_number n) (tree.target_of l))))))

case_parts : IsExact case_body type_kinds false [] case_at
unfolding case_at
case_parts =
    both_exact (type_exact any_type (wanted roles.AnyType)) (λ t tw tg te.
    both_exact (number_exact_at (integer_width t.ty) (width_of tw) (width_same t (tree.type_at tw) te) (behind roles.Plain)) (λ n nl ng ne.
    both_exact (sign_exact plain (codes ",") (wanted roles.Plain)) (λ c cm cg ce.
    both_exact label_exact (λ l ll lg le.
    done_exact _ _ (cased_same t (tree.type_at tw) n (placed_number nl) l (tree.target_of ll) te ne le))
    refl) refl) refl) refl

case_regroup : (a b c : Bool) → (a && (b && (true && (c && true)))) ≡ ((a && b) && c)
case_regroup false b c = refl
case_regroup true false c = refl
case_regroup true true false = refl
case_regroup true true true = refl

case_grammar : (t : TypeTree) (n : Placed) (comma : Mark) (l : LabelTree) → case_body.grammar (t, (n, (comma, (l, tt)))) ≡ is_case (record { ty = t; number = n; comma = comma; target = l })
case_grammar t n comma l =
    case_regroup (is_type t) (is_number_for (width_of t) n.text) (is_target l) ∙ ap (λ z. (is_type t && z) && is_target l) (sym (number_same t n.text))

case_exact : IsExact a_case type_kinds false [] case_at
case_exact =
    same_exact case_parts
    (λ p g. record {
      other = record { ty = p.0; number = p.1.0; comma = p.1.1.0; target = p.1.1.1.0 };
      is_one = sym (case_grammar p.0 p.1.0 p.1.1.0 p.1.1.1.0) ∙ g;
      same = record { spelled = λ ts. refl; means = refl; nests = omega arith };
    })
    (λ u g. record {
      other = (u.ty, (u.number, (u.comma, (u.target, tt))));
      is_one = case_grammar u.ty u.number u.comma u.target ∙ g;
      same = record { spelled = λ ts. refl; means = refl; nests = omega arith };
    })

abbrev switched : ℕ → TypedOperand → NameAt → List Case → Terminator
switched at v o cases = terminators.Switch (record { at = spot at; value = v; otherwise = o; cases = cases })

switched_same : (m n : ℕ) (v u : TypedOperand) (a b : NameAt) (c d : List Case) → m ≡ n → v ≡ u → a ≡ b → c ≡ d → switched m v a c ≡ switched n u b d
switched_same m n v u a b c d e f g h = ap (λ z. switched z v a c) e ∙ (ap (λ z. switched n z a c) f ∙ (ap (λ z. switched n u z c) g ∙ ap (λ z. switched n u b z) h))

abbrev SwitchBody : Type 0
SwitchBody = Mark × (TypedTree × (Mark × (LabelTree × (Mark × (List CaseTree × (Mark × Unit {0}))))))

abbrev switch_body : Spelling SwitchBody Terminator
switch_body = both (sign plain (codes "switch")) (λ at. both (a_typed any_type) (λ v. both (sign plain (codes ",")) (λ comma. both a_label (λ o.
    both (sign plain (codes "[")) (λ opening. both (many a_case) (λ cs. both (sign plain (codes "]")) (λ closing.
    nothing (switched at.at (tree.typed_of v) (tree.target_of o) ((many a_case).means cs)))))))))

switch_body_exact : IsExact switch_body (words (codes "switch" ∷ []) ∷ []) false [] switch_at
unfolding switch_at
switch_body_exact =
    both_exact (sign_exact plain (codes "switch") (wanted roles.Plain)) (λ x m g e.
    both_exact (any_typed_exact any_type (wanted roles.AnyType)) (λ v vt vg ve.
    both_exact (sign_exact plain (codes ",") (wanted roles.Plain)) (λ y ym yg ye.
    both_exact label_exact (λ o ol og oe.
    both_exact (sign_exact plain (codes "[") (wanted roles.Plain)) (λ z zm zg ze.
    both_exact (many_exact case_exact refl) (λ cs ct cg ce.
    both_exact (sign_exact plain (codes "]") (wanted roles.AnyType)) (λ q qm qg qe.
    done_exact _ _ (switched_same x m.at v (tree.typed_of vt) o (tree.target_of ol) cs ((many a_case).means ct) e ve oe ce))
    refl) refl) refl) refl) refl) refl) refl

-- ---- ret and unreachable

abbrev returned : ℕ → Option TypedOperand → Terminator
returned at v = terminators.Return (record { at = spot at; value = v })

returned_same : (m n : ℕ) (v u : Option TypedOperand) → m ≡ n → v ≡ u → returned m v ≡ returned n u
returned_same m n v u e f = ap (λ z. returned z v) e ∙ ap (λ z. returned n z) f

abbrev VoidBody : Type 0
VoidBody = Mark × Unit {0}

abbrev ValueBody : Type 0
ValueBody = TypedTree × Unit {0}

abbrev void_body : Mark → Spelling VoidBody Terminator
void_body at = both (sign plain (codes "void")) (λ m. nothing (returned at.at None))

abbrev value_body : Mark → Spelling ValueBody Terminator
value_body at = both (a_typed any_type) (λ v. nothing (returned at.at (Some (tree.typed_of v))))

void_body_exact : (x : ℕ) (m : Mark) → x ≡ m.at → IsExact (void_body m) void_kinds false [] (return_void_at x)
unfolding return_void_at
void_body_exact x m e = both_exact (sign_exact plain (codes "void") (wanted roles.AnyType)) (λ y ym yg ye. done_exact _ _ (returned_same x m.at None None e refl)) refl

value_body_exact : (x : ℕ) (m : Mark) → x ≡ m.at → IsExact (value_body m) type_kinds false [] (return_value_at x)
unfolding return_value_at
value_body_exact x m e =
    both_exact (any_typed_exact any_type (wanted roles.AnyType)) (λ v vt vg ve. done_exact _ _ (returned_same x m.at (Some v) (Some (tree.typed_of vt)) e (ap (λ z. Some z) ve))) refl

abbrev ReturnBody : Type 0
ReturnBody = Mark × (VoidBody ⊎ ValueBody)

abbrev return_body : Spelling ReturnBody Terminator
return_body = both (sign plain (codes "ret")) (λ at. either (void_body at) (value_body at))

return_body_exact : IsExact return_body (words (codes "ret" ∷ []) ∷ []) false [] return_at
return_body_exact =
    both_exact (sign_exact plain (codes "ret") (wanted roles.Plain)) (λ x m g e. either_exact (void_body_exact x m e) (value_body_exact x m e) refl) refl

abbrev UnreachableBody : Type 0
UnreachableBody = Mark × Unit {0}

abbrev unreachable_body : Spelling UnreachableBody Terminator
unreachable_body = both (sign plain (codes "unreachable")) (λ at. nothing (terminators.Unreachable (spot at.at)))

unreachable_body_exact : IsExact unreachable_body (words (codes "unreachable" ∷ []) ∷ []) false [] unreachable_at
unfolding unreachable_at
unreachable_body_exact =
    both_exact (sign_exact plain (codes "unreachable") (wanted roles.Plain)) (λ x m g e. done_exact _ _ (ap (λ z. terminators.Unreachable (spot z)) e)) refl

-- ---- by the word

abbrev Body : Type 0
Body = BrBody ⊎ (SwitchBody ⊎ (ReturnBody ⊎ UnreachableBody))

abbrev body : Spelling Body Terminator
body = either br_body (either switch_body (either return_body unreachable_body))

body_exact : IsExact body terminator_kinds false [] terminator_at
body_exact = either_exact br_body_exact (either_exact switch_body_exact (either_exact return_body_exact unreachable_body_exact refl) refl) refl

one_regroup : (a : Bool) → (true && (a && true)) ≡ a
one_regroup false = refl
one_regroup true = refl

branch_regroup : (a b c : Bool) → (true && ((true && a) && (true && (b && (true && (c && true)))))) ≡ (a && (b && c))
branch_regroup false b c = refl
branch_regroup true false c = refl
branch_regroup true true false = refl
branch_regroup true true true = refl

switch_regroup : (a b c : Bool) → (true && (a && (true && (b && (true && (c && (true && true))))))) ≡ ((a && b) && c)
switch_regroup false b c = refl
switch_regroup true false c = refl
switch_regroup true true false = refl
switch_regroup true true true = refl

br_forth : (m : Mark) (b : JumpBody ⊎ BranchBody) → IsTrue (body.grammar (inl (m, b))) → Covers body a_terminator (inl (m, b))
br_forth m (inl p) g = record {
  other = jump m p.0;
  is_one = sym (one_regroup (is_target p.0)) ∙ g;
  same = record { spelled = λ ts. refl; means = refl; nests = omega arith };
}
br_forth m (inr p) g = record {
  other = branch m p.0.0 p.0.1 p.1.0 p.1.1.0 p.1.1.1.0 p.1.1.1.1.0;
  is_one = sym (branch_regroup (is_operand_of 1 p.0.1.text) (is_target p.1.1.0) (is_target p.1.1.1.1.0)) ∙ g;
  same = record { spelled = λ ts. refl; means = refl; nests = omega arith };
}

return_forth : (m : Mark) (b : VoidBody ⊎ ValueBody) → IsTrue (body.grammar (inr (inr (inl (m, b))))) → Covers body a_terminator (inr (inr (inl (m, b))))
return_forth m (inl p) g = record { other = return_void m p.0; is_one = refl; same = record { spelled = λ ts. refl; means = refl; nests = omega arith } }
return_forth m (inr p) g = record {
  other = return m p.0;
  is_one = sym (one_regroup (is_typed p.0)) ∙ g;
  same = record { spelled = λ ts. refl; means = refl; nests = omega arith };
}

forth : (b : Body) → IsTrue (body.grammar b) → Covers body a_terminator b
forth (inl p) g = br_forth p.0 p.1 g
forth (inr (inl p)) g = record {
  other = switch p.0 p.1.0 p.1.1.0 p.1.1.1.0 p.1.1.1.1.0 p.1.1.1.1.1.0 p.1.1.1.1.1.1.0;
  is_one = sym (switch_regroup (is_typed p.1.0) (is_target p.1.1.1.0) (list_all is_case p.1.1.1.1.1.0)) ∙ g;
  same = record { spelled = λ ts. refl; means = refl; nests = omega arith };
}
forth (inr (inr (inl p))) g = return_forth p.0 p.1 g
forth (inr (inr (inr p))) g = record { other = unreachable p.0; is_one = refl; same = record { spelled = λ ts. refl; means = refl; nests = omega arith } }

back : (u : TerminatorTree) → IsTrue (a_terminator.grammar u) → Covers a_terminator body u
back (jump at target) g = record {
  other = inl (at, inl (target, tt));
  is_one = one_regroup (is_target target) ∙ g;
  same = record { spelled = λ ts. refl; means = refl; nests = omega arith };
}
back (branch at bit condition comma then second_comma otherwise) g = record {
  other = inl (at, inr ((bit, condition), (comma, (then, (second_comma, (otherwise, tt))))));
  is_one = branch_regroup (is_operand_of 1 condition.text) (is_target then) (is_target otherwise) ∙ g;
  same = record { spelled = λ ts. refl; means = refl; nests = omega arith };
}
back (switch at value comma otherwise opening cases closing) g = record {
  other = inr (inl (at, (value, (comma, (otherwise, (opening, (cases, (closing, tt))))))));
  is_one = switch_regroup (is_typed value) (is_target otherwise) (list_all is_case cases) ∙ g;
  same = record { spelled = λ ts. refl; means = refl; nests = omega arith };
}
back (return at value) g = record {
  other = inr (inr (inl (at, inr (value, tt))));
  is_one = one_regroup (is_typed value) ∙ g;
  same = record { spelled = λ ts. refl; means = refl; nests = omega arith };
}
back (return_void at void) g = record { other = inr (inr (inl (at, inl (void, tt)))); is_one = refl; same = record { spelled = λ ts. refl; means = refl; nests = omega arith } }
back (unreachable at) g = record { other = inr (inr (inr (at, tt))); is_one = refl; same = record { spelled = λ ts. refl; means = refl; nests = omega arith } }

pub terminators_exact : TerminatorsAreExact
terminators_exact = same_exact body_exact forth back
