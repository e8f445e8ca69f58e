-- A tree of the grammar is read, where it ends: reading goes on from the whole tree.
use Rattle.std.proofs.Common.{◌≡◌, ℕ, zero, suc, ◌+◌, ◌-◌, ◌≤◌, max, Bool, true, false, not, ◌&&◌, ◌||◌, nat_eq, nat_le, nat_lt, List, [], ◌∷◌, Option, Some, None, refl, sym, ap, subst, ◌∙◌, arith}
use Rattle.std.proofs.lemmas.Bool.Decides.{nat_tests}
use Rattle.vg_tok.specs.declared.sign.Sign.TheVariants as signs
use Rattle.vg_tok.specs.declared.word.Word.TheVariants as words
use Rattle.vg_ast.specs.declared.name.Name.{Name}
use Rattle.vg_ast.specs.declared.expr.Expr.TheVariants as trees
use Rattle.vg_ast.specs.declared.operator.BinaryOperator.{BinaryOperator}
use Rattle.vg_ast.specs.declared.operator.BinaryOperator.TheVariants as binaries
use Rattle.vg_ast.specs.Placed.{Placed, sign, word, name}
use Rattle.vg_ast.specs.Operator.{binary_sign, operator_level, left_level, right_level}
use Rattle.vg_ast.specs.Concrete.{Expr, number, variable, call, access, joined, parentheses, unary, binary, cast, slice, conditional, binding, TypeTree}
use Rattle.vg_ast.specs.Spelling.{spelled, spelled_arguments, spelled_type}
use Rattle.vg_ast.specs.Grouping.{level, is_grouped, is_grouped_type}
use Rattle.vg_ast.specs.Depth.{depth, depth_type}
use Rattle.vg_ast.specs.Tree.{tree_of, type_of}
use Rattle.vg_parse_expr.specs.declared.operand.Operand.{Operand}
use Rattle.vg_parse_expr.specs.declared.infix.Infix.{Infix}
use Rattle.vg_parse_expr.specs.declared.infix.Infix.TheVariants as infixes
use Rattle.vg_parse_expr.specs.Lexeme.{◌>>=◌, begins_with, begins_with_word}
use Rattle.vg_parse_expr.specs.Lookahead.{is_access}
use Rattle.vg_parse_expr.specs.Reading.{Reader, type_at, operand_at, kind_infix, infix_level, infix_left_level, binary_at, cast_at, slice_at, infix_by, taken, rest_step, rest_at, conditional_at, binding_at, expression_by, expression_within, expression}
use Rattle.vg_parse_expr.specs.Exact.{is_next, continues, goes_on_as_access, ends, ExpressionIsComplete, TypeIsComplete}
use Rattle.vg_parse_expr.proofs.Tests.{both, three, four, both-from, none_of-parts, either_left, other_part, le_trans, lt_of_le, one_part, two_parts, room, le_suc}
use Rattle.vg_parse_expr.proofs.Passed.{compared, left_reaches}
use Rattle.vg_parse_expr.proofs.Taking.{then_is, if_true, if_false, sign_is, word_is, over_is, name_is}
use Rattle.vg_parse_expr.proofs.Following.{ends_at_sign, ends_at_word, compared_weaker, ends_weaker, operator_infix, ends_at_operator, not_compared_at_operator}
use Rattle.vg_parse_expr.proofs.Primary.{whole, IsComplete, type_is, begins_no_word, part_is, call_is, access_is, join_is, parentheses_is, unary_is, unary_signed, variable_is, call_named, le_self, access_named}

-- the least level of what may not follow a tree, as its right end would take it
abbrev pub opened : Expr → ℕ
opened (unary op at operand) = 10
opened (binary left op at right) = right_level op
opened _ = 12

-- the steps from the first operand to the tree
abbrev pub spine : Expr → ℕ
spine (binary left op at right) = suc (spine left)
spine (cast operand at target) = suc (spine operand)
spine (slice operand opening high dots low closing) = suc (spine operand)
spine _ = 0

spine_depth : (c : Expr) → spine c ≤ depth c
spine_depth (binary left op at right) = omega (arith, spine_depth left)
spine_depth (cast operand at target) = omega (arith, spine_depth operand)
spine_depth (slice operand opening high dots low closing) = omega (arith, spine_depth operand)
spine_depth _ = omega arith

operator_most : (op : BinaryOperator) → nat_le (operator_level op) 8 ≡ true
operator_most binaries.Or = refl
operator_most _ = refl

below_next : (a b : ℕ) → nat_le a b ≡ true → nat_lt a (b + 1) ≡ true
below_next a b h = grind (arith, nat_tests)

below_most : (a b : ℕ) → nat_le a 8 ≡ true → nat_le 9 b ≡ true → nat_lt a b ≡ true
below_most a b h k = grind (arith, nat_tests)

-- an operator that takes a tree at its left isn't taken by the tree's right end
opened_operator : (c : Expr) (op : BinaryOperator) → nat_le (operator_level op) (level c) ≡ true → nat_lt (operator_level op) (opened c) ≡ true
opened_operator (binary left own at right) op h = below_next (operator_level op) (operator_level own) h
opened_operator (unary own at operand) op h = below_most (operator_level op) 10 (operator_most op) refl
opened_operator _ op h = below_most (operator_level op) 12 (operator_most op) refl

not_loose : {A : Type 0} (a : ℕ) → nat_le a 8 ≡ true → nat_le 9 a ≡ true → A
not_loose a h k = absurd (grind (arith, nat_tests))

-- nor is a cast, nor a slice
opened_cast : (c : Expr) (at : ℕ) (ts : List Placed) → nat_le 9 (level c) ≡ true → ends (opened c) (word words.As at ∷ ts) ≡ true
opened_cast (binary left own place right) at ts h = not_loose (operator_level own) (operator_most own) h
opened_cast (conditional own condition at_then one at_else other) at ts h = absurd (cc)
opened_cast (binding own n equal bound at_in body) at ts h = absurd (cc)
opened_cast _ at ts h = refl

opened_slice : (c : Expr) (at : ℕ) (ts : List Placed) → nat_le 11 (level c) ≡ true → ends (opened c) (sign signs.OpenBracket at ∷ ts) ≡ true
opened_slice (binary left own place right) at ts h = not_loose (operator_level own) (operator_most own) (le_trans 9 11 (operator_level own) refl h)
opened_slice (unary op own operand) at ts h = absurd (cc)
opened_slice (cast operand own target) at ts h = absurd (cc)
opened_slice (conditional own condition at_then one at_else other) at ts h = absurd (cc)
opened_slice (binding own n equal bound at_in body) at ts h = absurd (cc)
opened_slice _ at ts h = refl

-- the tokens behind a tree with which reading goes on from it
record Follows (c : Expr) (rest : List Placed) : Type 0 where
  right_ends : ends (opened c) rest ≡ true
  not_compared : (nat_lt 5 (level c) || not (is_access rest)) ≡ true

infix_step : (steps : ℕ) (read : Reader) (least : ℕ) (left : Operand) (t : Placed) (ts : List Placed) (i : Infix) (found : Operand) (rest : List Placed)
    → kind_infix t.kind ≡ Some i → nat_le least (infix_level i) ≡ true → nat_le (infix_left_level i) left.level ≡ true → infix_by read left i t.at ts ≡ Some (found, rest)
    → rest_at (suc steps) read least left (t ∷ ts) ≡ rest_at steps read least found rest
unfolding rest_at
infix_step steps read least left t ts i found rest e h k f =
    ap (λ (o : Option Infix). rest_step (rest_at steps read least) read left (t ∷ ts) (taken least left.level o)) e
    ∙ (ap (λ (o : Option Infix). rest_step (rest_at steps read least) read left (t ∷ ts) o)
    (if_true (nat_le least (infix_level i) && nat_le (infix_left_level i) left.level) (Some i) None (Some i) (both-from _ _ h k) refl)
    ∙ then_is (infix_by read left i t.at ts) _ (found, rest) _ f refl)

binary_is : (n : ℕ) (read : Reader) → IsComplete n read → nat_lt n 64 ≡ true → (left : Expr) (op : BinaryOperator) (at : ℕ) (right : Expr) (rest : List Placed)
    → is_grouped right ≡ true → nat_le (right_level op) (level right) ≡ true → nat_le (1 + max (depth left) (depth right)) (suc n) ≡ true → ends (right_level op) rest ≡ true
    → binary_at read (whole left) op at (spelled right rest) ≡ Some (whole (binary left op at right), rest)
unfolding binary_at
binary_is n read complete small left op at right rest g l d f =
    let e : nat_le (max (depth left) (depth right)) n ≡ true = one_part (max (depth left) (depth right)) n d in
    then_is (read (right_level op) (spelled right rest)) _ (whole right, rest) _ (complete (right_level op) right rest g l (two_parts (depth left) (depth right) n e).1 f)
    (over_is (trees.Binary op at (tree_of left) (tree_of right)) (operator_level op) (max (depth left) (depth right)) rest (room (max (depth left) (depth right)) n e small))

cast_is : (n : ℕ) (read : Reader) → IsComplete n read → nat_lt n 64 ≡ true → (left : Expr) (at : ℕ) (target : TypeTree) (rest : List Placed)
    → is_grouped_type target ≡ true → nat_le (1 + max (depth left) (depth_type target)) (suc n) ≡ true
    → cast_at read (whole left) at (spelled_type target rest) ≡ Some (whole (cast left at target), rest)
unfolding cast_at
cast_is n read complete small left at target rest g d =
    let e : nat_le (max (depth left) (depth_type target)) n ≡ true = one_part (max (depth left) (depth_type target)) n d in
    then_is (type_at read (spelled_type target rest)) _ (record { tree = type_of target; depth = depth_type target }, rest) _ (type_is n read complete target rest g (two_parts (depth left) (depth_type target) n e).1)
    (over_is (trees.Cast (tree_of left) at (type_of target)) 9 (max (depth left) (depth_type target)) rest (room (max (depth left) (depth_type target)) n e small))

slice_is : (n : ℕ) (read : Reader) → IsComplete n read → nat_lt n 64 ≡ true → (left : Expr) (at : ℕ) (high : Expr) (dots : ℕ) (low : Expr) (closing : ℕ) (rest : List Placed)
    → is_grouped high ≡ true → is_grouped low ≡ true → nat_le (1 + max (depth left) (max (depth high) (depth low))) (suc n) ≡ true
    → slice_at read (whole left) at (spelled high (sign signs.DotDot dots ∷ spelled low (sign signs.CloseBracket closing ∷ rest))) ≡ Some (whole (slice left at high dots low closing), rest)
unfolding slice_at
slice_is n read complete small left at high dots low closing rest g h d =
    let e : nat_le (max (depth left) (max (depth high) (depth low))) n ≡ true = one_part (max (depth left) (max (depth high) (depth low))) n d in
    let q = two_parts (depth high) (depth low) n (two_parts (depth left) (max (depth high) (depth low)) n e).1 in
    let end : List Placed = sign signs.CloseBracket closing ∷ rest in
    let ts : List Placed = sign signs.DotDot dots ∷ spelled low end in
    then_is (read 0 (spelled high ts)) _ (whole high, ts) _ (part_is n read complete high ts g q.0 (ends_at_sign signs.DotDot dots (spelled low end) refl))
    (then_is _ _ (dots, spelled low end) _ (sign_is signs.DotDot dots _)
    (then_is (read 0 (spelled low end)) _ (whole low, end) _ (part_is n read complete low end h q.1 (ends_at_sign signs.CloseBracket closing rest refl))
    (then_is _ _ (closing, rest) _ (sign_is signs.CloseBracket closing rest)
    (over_is (trees.Slice (tree_of left) at (tree_of high) (tree_of low)) 11 (max (depth left) (max (depth high) (depth low))) rest (room (max (depth left) (max (depth high) (depth low))) n e small)))))

start_is : (read : Reader) (least steps k : ℕ) (o : Option (Operand × List Placed)) (w : Operand) (rest : List Placed) → o ≡ Some (w, rest) → steps ≡ k + 0
    → (o >>= λ left. rest_at steps read least left.0 left.1) ≡ rest_at k read least w rest
start_is read least steps k o w rest e h = then_is o _ (w, rest) _ e (let f : steps ≡ k = omega arith in ap (λ (j : ℕ). rest_at j read least w rest) f)

-- what stands right of `<` is no access where the whole makes none
less_right : (op : BinaryOperator) (right : Expr) (rest : List Placed) → is_grouped right ≡ true → nat_le (right_level op) (level right) ≡ true
    → (nat_lt 5 (operator_level op) || not (is_access rest)) ≡ true → op ≡ binaries.Less → is_access (spelled right rest) ≡ false
less_right op right rest g h k e =
    let l : nat_le 6 (level right) ≡ true = ap (λ (o : BinaryOperator). nat_le (right_level o) (level right)) (sym e) ∙ h in
    let m : not (is_access rest) ≡ true = ap (λ (o : BinaryOperator). nat_lt 5 (operator_level o) || not (is_access rest)) (sym e) ∙ k in
    compared right rest g l (other_part false (is_access rest) m refl)

goes_on : (n : ℕ) (read : Reader) → IsComplete n read → nat_lt n 64 ≡ true → (c : Expr) (least steps k : ℕ) (rest : List Placed)
    → is_grouped c ≡ true → nat_le least (level c) ≡ true → nat_le 1 (level c) ≡ true → nat_le (depth c) (suc n) ≡ true → Follows c rest → steps ≡ k + spine c
    → (operand_at read (spelled c rest) >>= λ left. rest_at steps read least left.0 left.1) ≡ rest_at k read least (whole c) rest
unfolding operand_at
goes_on n read complete small (number value at) least steps k rest g l b d f s = start_is read least steps k _ _ rest refl s
goes_on n read complete small (variable m) least steps k rest g l b d f s = start_is read least steps k _ _ rest (variable_is read m rest f.right_ends) s
goes_on n read complete small (call m opening given closing) least steps k rest g l b d f s =
    start_is read least steps k _ _ rest (call_named read m opening (spelled_arguments given (sign signs.CloseParenthesis closing ∷ rest)) ∙ call_is n read complete small m opening given closing rest g d) s
goes_on n read complete small (access m less size greater opening address closing) least steps k rest g l b d f s =
    let p = three (is_grouped size) (nat_le 7 (level size)) (is_grouped address) g in
    start_is read least steps k _ _ rest (access_named read m less size greater opening (spelled address (sign signs.CloseParenthesis closing ∷ rest)) p.0 p.1
    ∙ access_is n read complete small m less size greater opening address closing rest g d) s
goes_on n read complete small (joined at opening high comma low closing) least steps k rest g l b d f s =
    start_is read least steps k _ _ rest (join_is n read complete small at opening high comma low closing rest g d) s
goes_on n read complete small (parentheses opening inner closing) least steps k rest g l b d f s =
    start_is read least steps k _ _ rest (parentheses_is n read complete small opening inner closing rest g d) s
goes_on n read complete small (unary op at operand) least steps k rest g l b d f s =
    start_is read least steps k _ _ rest (unary_signed read op at (spelled operand rest) ∙ unary_is n read complete small op at operand rest g d f.right_ends) s
goes_on n read complete small (binary left op at right) least steps k rest g l b d f s =
    let p = four (is_grouped left) (nat_le (left_level op) (level left)) (is_grouped right) (nat_le (right_level op) (level right)) g in
    let e = two_parts (depth left) (depth right) n (one_part (max (depth left) (depth right)) n d) in
    let ts : List Placed = spelled right rest in
    let m : op ≡ binaries.Less → is_access ts ≡ false = less_right op right rest p.2 p.3 f.not_compared in
    let q : Follows left (sign (binary_sign op) at ∷ ts) = record {
      right_ends = ends_at_operator op at ts (opened left) (opened_operator left op (left_reaches (operator_level op) op (level left) (le_self (operator_level op)) p.1)) m;
      not_compared = not_compared_at_operator op at ts (level left) p.1;
    } in
    goes_on n read complete small left least steps (suc k) (sign (binary_sign op) at ∷ ts) p.0 (left_reaches least op (level left) l p.1) (left_reaches 1 op (level left) b p.1) (le_suc (depth left) n e.0) q (omega arith)
    ∙ infix_step k read least (whole left) (sign (binary_sign op) at) ts (infixes.Operator op) (whole (binary left op at right)) rest (operator_infix op) l p.1
    (binary_is n read complete small left op at right rest p.2 p.3 d f.right_ends)
goes_on n read complete small (cast operand at target) least steps k rest g l b d f s =
    let p = three (is_grouped operand) (nat_le 9 (level operand)) (is_grouped_type target) g in
    let e = two_parts (depth operand) (depth_type target) n (one_part (max (depth operand) (depth_type target)) n d) in
    let ts : List Placed = spelled_type target rest in
    let q : Follows operand (word words.As at ∷ ts) = record {
      right_ends = opened_cast operand at ts p.1;
      not_compared = either_left (nat_lt 5 (level operand)) _ (lt_of_le 5 9 (level operand) refl p.1);
    } in
    goes_on n read complete small operand least steps (suc k) (word words.As at ∷ ts) p.0 (le_trans least 9 (level operand) l p.1) (le_trans 1 9 (level operand) refl p.1) (le_suc (depth operand) n e.0) q (omega arith)
    ∙ infix_step k read least (whole operand) (word words.As at) ts infixes.Cast (whole (cast operand at target)) rest refl l p.1
    (cast_is n read complete small operand at target rest p.2 d)
goes_on n read complete small (slice operand opening high dots low closing) least steps k rest g l b d f s =
    let p = four (is_grouped operand) (nat_le 11 (level operand)) (is_grouped high) (is_grouped low) g in
    let e = two_parts (depth operand) (max (depth high) (depth low)) n (one_part (max (depth operand) (max (depth high) (depth low))) n d) in
    let ts : List Placed = spelled high (sign signs.DotDot dots ∷ spelled low (sign signs.CloseBracket closing ∷ rest)) in
    let q : Follows operand (sign signs.OpenBracket opening ∷ ts) = record {
      right_ends = opened_slice operand opening ts p.1;
      not_compared = either_left (nat_lt 5 (level operand)) _ (lt_of_le 5 11 (level operand) refl p.1);
    } in
    goes_on n read complete small operand least steps (suc k) (sign signs.OpenBracket opening ∷ ts) p.0 (le_trans least 11 (level operand) l p.1) (le_trans 1 11 (level operand) refl p.1) (le_suc (depth operand) n e.0) q (omega arith)
    ∙ infix_step k read least (whole operand) (sign signs.OpenBracket opening) ts infixes.Slice (whole (slice operand opening high dots low closing)) rest refl l p.1
    (slice_is n read complete small operand opening high dots low closing rest p.2 p.3 d)
goes_on n read complete small (conditional at condition at_then one at_else other) least steps k rest g l b d f s = absurd (cc)
goes_on n read complete small (binding at m equal bound at_in body) least steps k rest g l b d f s = absurd (cc)

-- Whole expressions.

not_taken : (least left : ℕ) (o : Option Infix) → is_next least o ≡ false → taken least left o ≡ None
not_taken least left None h = refl
not_taken least left (Some i) h = if_false (nat_le least (infix_level i) && nat_le (infix_left_level i) left) _ _ _ (ap (λ (b : Bool). b && nat_le (infix_left_level i) left) h) refl

rest_is : (steps : ℕ) (read : Reader) (least : ℕ) (left : Operand) (rest : List Placed) → continues least rest ≡ false → rest_at steps read least left rest ≡ Some (left, rest)
unfolding rest_at
rest_is zero read least left rest h = refl
rest_is (suc steps) read least left [] h = refl
rest_is (suc steps) read least left (t ∷ ts) h = ap (λ (o : Option Infix). rest_step (rest_at steps read least) read left (t ∷ ts) o) (not_taken least left.level (kind_infix t.kind) h)

conditional_is : (n : ℕ) (read : Reader) → IsComplete n read → nat_lt n 64 ≡ true → (at : ℕ) (condition : Expr) (at_then : ℕ) (one : Expr) (at_else : ℕ) (other : Expr) (rest : List Placed)
    → is_grouped (conditional at condition at_then one at_else other) ≡ true → nat_le (1 + max (depth condition) (max (depth one) (depth other))) (suc n) ≡ true → ends 0 rest ≡ true
    → conditional_at read at (spelled condition (word words.Then at_then ∷ spelled one (word words.Else at_else ∷ spelled other rest)))
    ≡ Some (whole (conditional at condition at_then one at_else other), rest)
unfolding conditional_at
conditional_is n read complete small at condition at_then one at_else other rest g d f =
    let p = three (is_grouped condition) (is_grouped one) (is_grouped other) g in
    let parts : ℕ = max (depth condition) (max (depth one) (depth other)) in
    let e : nat_le parts n ≡ true = one_part parts n d in
    let q = two_parts (depth condition) (max (depth one) (depth other)) n e in
    let r = two_parts (depth one) (depth other) n q.1 in
    let third : List Placed = spelled other rest in
    let second : List Placed = spelled one (word words.Else at_else ∷ third) in
    then_is (read 0 (spelled condition (word words.Then at_then ∷ second))) _ (whole condition, word words.Then at_then ∷ second) _
    (part_is n read complete condition (word words.Then at_then ∷ second) p.0 q.0 (ends_at_word words.Then at_then second refl))
    (then_is _ _ (at_then, second) _ (word_is words.Then at_then second)
    (then_is (read 0 second) _ (whole one, word words.Else at_else ∷ third) _
    (part_is n read complete one (word words.Else at_else ∷ third) p.1 r.0 (ends_at_word words.Else at_else third refl))
    (then_is _ _ (at_else, third) _ (word_is words.Else at_else third)
    (then_is (read 0 third) _ (whole other, rest) _ (part_is n read complete other rest p.2 r.1 f)
    (over_is (trees.If at (tree_of condition) (tree_of one) (tree_of other)) 0 parts rest (room parts n e small))))))

binding_is : (n : ℕ) (read : Reader) → IsComplete n read → nat_lt n 64 ≡ true → (at : ℕ) (m : Name) (equal : ℕ) (bound : Expr) (at_in : ℕ) (body : Expr) (rest : List Placed)
    → is_grouped (binding at m equal bound at_in body) ≡ true → nat_le (1 + max (depth bound) (depth body)) (suc n) ≡ true → ends 0 rest ≡ true
    → binding_at read at (name m ∷ sign signs.Equal equal ∷ spelled bound (word words.In at_in ∷ spelled body rest)) ≡ Some (whole (binding at m equal bound at_in body), rest)
unfolding binding_at
binding_is n read complete small at m equal bound at_in body rest g d f =
    let p = both (is_grouped bound) (is_grouped body) g in
    let parts : ℕ = max (depth bound) (depth body) in
    let e : nat_le parts n ≡ true = one_part parts n d in
    let q = two_parts (depth bound) (depth body) n e in
    let second : List Placed = spelled body rest in
    let first : List Placed = spelled bound (word words.In at_in ∷ second) in
    then_is _ _ (m, sign signs.Equal equal ∷ first) _ (name_is m (sign signs.Equal equal ∷ first))
    (then_is _ _ (equal, first) _ (sign_is signs.Equal equal first)
    (then_is (read 0 first) _ (whole bound, word words.In at_in ∷ second) _ (part_is n read complete bound (word words.In at_in ∷ second) p.0 q.0 (ends_at_word words.In at_in second refl))
    (then_is _ _ (at_in, second) _ (word_is words.In at_in second)
    (then_is (read 0 second) _ (whole body, rest) _ (part_is n read complete body rest p.1 q.1 f)
    (over_is (trees.Let at m (tree_of bound) (tree_of body)) 0 parts rest (room parts n e small))))))

-- what has an operator, or stands by itself

own_level : (n : ℕ) → nat_le n (n + 1) ≡ true
own_level n = grind (arith, nat_tests)

level_opened : (c : Expr) → nat_le (level c) (opened c) ≡ true
level_opened (binary left op at right) = own_level (operator_level op)
level_opened _ = refl

follows_end : (c : Expr) (least : ℕ) (rest : List Placed) → nat_le least (level c) ≡ true → ends least rest ≡ true → Follows c rest
follows_end c least rest l f = record {
  right_ends = ends_weaker least (opened c) rest (le_trans least (level c) (opened c) l (level_opened c)) f;
  not_compared = compared_weaker least (level c) (not (is_access rest)) l
      (none_of-parts (continues least rest) (begins_with signs.OpenParenthesis rest) (goes_on_as_access rest) (nat_lt 5 least || not (is_access rest)) f).3;
}

and_false : (a b : Bool) → b ≡ false → (a && b) ≡ false
and_false true b h = h
and_false false b h = refl

spine_steps : (c : Expr) (n : ℕ) → nat_le (depth c) (suc n) ≡ true → nat_lt n 64 ≡ true → spine c ≤ 64
spine_steps c n d s = few (spine c) (depth c) n (spine_depth c) d s
  where
    few : (a b n : ℕ) → a ≤ b → nat_le b (suc n) ≡ true → nat_lt n 64 ≡ true → a ≤ 64
    few a b n h k s = grind (arith, nat_tests)

operated_is : (n : ℕ) (read : Reader) → IsComplete n read → nat_lt n 64 ≡ true → (least : ℕ) (c : Expr) (rest : List Placed) → is_grouped c ≡ true → nat_le least (level c) ≡ true
    → nat_le 1 (level c) ≡ true → nat_le (depth c) (suc n) ≡ true → ends least rest ≡ true → expression_by read least (spelled c rest) ≡ Some (whole c, rest)
unfolding expression_by
operated_is n read complete small least c rest g l b d f =
    let w = begins_no_word c rest g b in
    let k : spine c ≤ 64 = spine_steps c n d small in
    if_false (nat_eq least 0 && begins_with_word words.If (spelled c rest)) _ _ _ (and_false (nat_eq least 0) _ w.0)
    (if_false (nat_eq least 0 && begins_with_word words.Let (spelled c rest)) _ _ _ (and_false (nat_eq least 0) _ w.1)
    (goes_on n read complete small c least 64 (64 - spine c) rest g l b d (follows_end c least rest l f) (omega arith)
    ∙ rest_is (64 - spine c) read least (whole c) rest
    (none_of-parts (continues least rest) (begins_with signs.OpenParenthesis rest) (goes_on_as_access rest) (nat_lt 5 least || not (is_access rest)) f).0))

operator_level_some : (op : BinaryOperator) → nat_le 1 (operator_level op) ≡ true
operator_level_some binaries.Or = refl
operator_level_some _ = refl

pub some_depth : (m : ℕ) → nat_le (1 + m) 0 ≡ true → ⊥
some_depth m h = grind (arith, nat_tests)

no_depth : (c : Expr) → nat_le (depth c) 0 ≡ true → ⊥
no_depth (number value at) h = cc
no_depth (variable n) h = cc
no_depth _ h = some_depth _ h

zero_least : (least : ℕ) → nat_le least 0 ≡ true → least ≡ 0
zero_least least h = grind (arith, nat_tests)

conditional_by : (n : ℕ) (read : Reader) → IsComplete n read → nat_lt n 64 ≡ true → (at : ℕ) (condition : Expr) (at_then : ℕ) (one : Expr) (at_else : ℕ) (other : Expr) (rest : List Placed)
    → is_grouped (conditional at condition at_then one at_else other) ≡ true → nat_le (1 + max (depth condition) (max (depth one) (depth other))) (suc n) ≡ true → ends 0 rest ≡ true
    → expression_by read 0 (spelled (conditional at condition at_then one at_else other) rest) ≡ Some (whole (conditional at condition at_then one at_else other), rest)
unfolding expression_by
conditional_by n read complete small at condition at_then one at_else other rest g d f =
    then_is _ _ (at, spelled condition (word words.Then at_then ∷ spelled one (word words.Else at_else ∷ spelled other rest))) _ (word_is words.If at _)
    (conditional_is n read complete small at condition at_then one at_else other rest g d f)

binding_by : (n : ℕ) (read : Reader) → IsComplete n read → nat_lt n 64 ≡ true → (at : ℕ) (m : Name) (equal : ℕ) (bound : Expr) (at_in : ℕ) (body : Expr) (rest : List Placed)
    → is_grouped (binding at m equal bound at_in body) ≡ true → nat_le (1 + max (depth bound) (depth body)) (suc n) ≡ true → ends 0 rest ≡ true
    → expression_by read 0 (spelled (binding at m equal bound at_in body) rest) ≡ Some (whole (binding at m equal bound at_in body), rest)
unfolding expression_by
binding_by n read complete small at m equal bound at_in body rest g d f =
    then_is _ _ (at, name m ∷ sign signs.Equal equal ∷ spelled bound (word words.In at_in ∷ spelled body rest)) _ (word_is words.Let at _)
    (binding_is n read complete small at m equal bound at_in body rest g d f)

by_is : (n : ℕ) (read : Reader) → IsComplete n read → nat_lt n 64 ≡ true → IsComplete (suc n) (expression_by read)
by_is n read complete small least (conditional at condition at_then one at_else other) rest g l d f =
    let P : ℕ → Type 0 = λ x. ends x rest ≡ true → expression_by read x (spelled (conditional at condition at_then one at_else other) rest) ≡ Some (whole (conditional at condition at_then one at_else other), rest) in
    subst P (sym (zero_least least l)) (conditional_by n read complete small at condition at_then one at_else other rest g d) f
by_is n read complete small least (binding at m equal bound at_in body) rest g l d f =
    let P : ℕ → Type 0 = λ x. ends x rest ≡ true → expression_by read x (spelled (binding at m equal bound at_in body) rest) ≡ Some (whole (binding at m equal bound at_in body), rest) in
    subst P (sym (zero_least least l)) (binding_by n read complete small at m equal bound at_in body rest g d) f
by_is n read complete small least (binary left op at right) rest g l d f = operated_is n read complete small least (binary left op at right) rest g l (operator_level_some op) d f
by_is n read complete small least c rest g l d f = operated_is n read complete small least c rest g l refl d f

within_is : (fuel : ℕ) → nat_le fuel 64 ≡ true → IsComplete fuel (expression_within fuel)
unfolding expression_within
within_is zero s least c rest g l d f = absurd (no_depth c d)
within_is (suc fuel) s least c rest g l d f = by_is fuel (expression_within fuel) (within_is fuel (less fuel s)) (under fuel s) least c rest g l d f
  where
    less : (n : ℕ) → nat_le (suc n) 64 ≡ true → nat_le n 64 ≡ true
    less n h = grind (arith, nat_tests)

    under : (n : ℕ) → nat_le (suc n) 64 ≡ true → nat_lt n 64 ≡ true
    under n h = grind (arith, nat_tests)

pub expression_complete : ExpressionIsComplete
expression_complete least c rest h f =
    let p = three (is_grouped c) (nat_le least (level c)) (nat_le (depth c) 64) h in
    within_is 64 refl least c rest p.0 p.1 p.2 f

pub type_complete : TypeIsComplete
type_complete c rest h =
    let p = both (is_grouped_type c) (nat_le (depth_type c) 64) h in
    type_is 64 expression (within_is 64 refl) c rest p.0 p.1
