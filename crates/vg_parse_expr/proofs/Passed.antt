-- What the look-ahead passes over: whole trees in brackets, and outside of brackets those of sums.
use Rattle.std.proofs.Common.{◌≡◌, ℕ, suc, Bool, true, false, nat_le, List, ◌∷◌, refl, ◌∙◌}
use Rattle.vg_tok.specs.declared.sign.Sign.TheVariants as signs
use Rattle.vg_ast.specs.declared.operator.UnaryOperator.{UnaryOperator}
use Rattle.vg_ast.specs.declared.operator.UnaryOperator.TheVariants as unaries
use Rattle.vg_ast.specs.declared.operator.BinaryOperator.{BinaryOperator}
use Rattle.vg_ast.specs.declared.operator.BinaryOperator.TheVariants as binaries
use Rattle.vg_ast.specs.declared.type_expr.BitsKind.{BitsKind}
use Rattle.vg_ast.specs.declared.type_expr.BitsKind.TheVariants as kinds
use Rattle.vg_ast.specs.Placed.{Placed, sign, word}
use Rattle.vg_ast.specs.Operator.{unary_sign, binary_sign, kind_word, operator_level, left_level, right_level}
use Rattle.vg_ast.specs.Concrete.{Expr, number, variable, call, access, joined, parentheses, unary, binary, cast, slice, conditional, binding, Arguments, no_argument, arguments, MoreArguments, no_more, one_more, TypeTree, sized, bool, alias}
use Rattle.vg_ast.specs.Spelling.{spelled, spelled_arguments, spelled_more, spelled_type}
use Rattle.vg_ast.specs.Grouping.{level, is_grouped, is_grouped_type}
use Rattle.vg_parse_expr.specs.Lookahead.{searches, is_access}
use Rattle.vg_parse_expr.proofs.Tests.{both, three, four, le_trans}

-- Each operator of the grammar.

unary_nested : (op : UnaryOperator) (at : ℕ) (ts : List Placed) (n a : ℕ) → searches (sign (unary_sign op) at ∷ ts) (suc n) a ≡ searches ts (suc n) a
unfolding searches
unary_nested unaries.Complement at ts n a = refl
unary_nested unaries.Negate at ts n a = refl
unary_nested unaries.Not at ts n a = refl

unary_outside : (op : UnaryOperator) (at : ℕ) (ts : List Placed) (a : ℕ) → searches (sign (unary_sign op) at ∷ ts) 0 a ≡ searches ts 0 a
unfolding searches
unary_outside unaries.Complement at ts a = refl
unary_outside unaries.Negate at ts a = refl
unary_outside unaries.Not at ts a = refl

kind_nested : (kind : BitsKind) (at : ℕ) (ts : List Placed) (n a : ℕ) → searches (word (kind_word kind) at ∷ ts) (suc n) a ≡ searches ts (suc n) a
unfolding searches
kind_nested kinds.Bits at ts n a = refl
kind_nested kinds.UInt at ts n a = refl
kind_nested kinds.SInt at ts n a = refl

kind_outside : (kind : BitsKind) (at : ℕ) (ts : List Placed) (a : ℕ) → searches (word (kind_word kind) at ∷ ts) 0 a ≡ searches ts 0 a
unfolding searches
kind_outside kinds.Bits at ts a = refl
kind_outside kinds.UInt at ts a = refl
kind_outside kinds.SInt at ts a = refl

-- in brackets each operator between operands is passed over
binary_nested : (op : BinaryOperator) (at : ℕ) (ts : List Placed) (n a : ℕ) → searches (sign (binary_sign op) at ∷ ts) (suc n) a ≡ searches ts (suc n) a
unfolding searches
binary_nested binaries.Or at ts n a = refl
binary_nested _ at ts n a = refl

-- outside of them one of a sum or a product
sum_outside : (op : BinaryOperator) (at : ℕ) (ts : List Placed) (a : ℕ) → nat_le 7 (operator_level op) ≡ true → searches (sign (binary_sign op) at ∷ ts) 0 a ≡ searches ts 0 a
unfolding searches
sum_outside binaries.Add at ts a h = refl
sum_outside binaries.Subtract at ts a h = refl
sum_outside binaries.Multiply at ts a h = refl
sum_outside binaries.MultiplyLong at ts a h = refl
sum_outside binaries.Divide at ts a h = refl
sum_outside binaries.Remainder at ts a h = refl
sum_outside _ at ts a h = absurd (cc)

pub left_least : (op : BinaryOperator) → nat_le (operator_level op) (left_level op) ≡ true
left_least binaries.Or = refl
left_least _ = refl

-- a left operand has at least each level that the whole has
pub left_reaches : (least : ℕ) (op : BinaryOperator) (n : ℕ) → nat_le least (operator_level op) ≡ true → nat_le (left_level op) n ≡ true → nat_le least n ≡ true
left_reaches least op n h k = le_trans least (operator_level op) n h (le_trans (operator_level op) (left_level op) n (left_least op) k)

-- and so has a right operand
pub right_least : (op : BinaryOperator) → nat_le (operator_level op) (right_level op) ≡ true
right_least binaries.Or = refl
right_least _ = refl

pub right_reaches : (least : ℕ) (op : BinaryOperator) (n : ℕ) → nat_le least (operator_level op) ≡ true → nat_le (right_level op) n ≡ true → nat_le least n ≡ true
right_reaches least op n h k = le_trans least (operator_level op) n h (le_trans (operator_level op) (right_level op) n (right_least op) k)

pub right_most : (op : BinaryOperator) → nat_le (right_level op) 10 ≡ true
right_most binaries.Or = refl
right_most _ = refl

-- In brackets each tree is passed over.
mutual
  unfolding searches

  pub nested : (c : Expr) (rest : List Placed) (n a : ℕ) → searches (spelled c rest) (suc n) a ≡ searches rest (suc n) a
  nested (number value at) rest n a = refl
  nested (variable name) rest n a = refl
  nested (call name opening given closing) rest n a = nested_arguments given (sign signs.CloseParenthesis closing ∷ rest) (suc n) a
  nested (access name less size greater opening address closing) rest n a =
      nested size (sign signs.Greater greater ∷ sign signs.OpenParenthesis opening ∷ spelled address (sign signs.CloseParenthesis closing ∷ rest)) n a
      ∙ nested address (sign signs.CloseParenthesis closing ∷ rest) (suc n) a
  nested (joined at opening high comma low closing) rest n a =
      nested high (sign signs.Comma comma ∷ spelled low (sign signs.CloseParenthesis closing ∷ rest)) (suc n) a ∙ nested low (sign signs.CloseParenthesis closing ∷ rest) (suc n) a
  nested (parentheses opening inner closing) rest n a = nested inner (sign signs.CloseParenthesis closing ∷ rest) (suc n) a
  nested (unary op at operand) rest n a = unary_nested op at (spelled operand rest) n a ∙ nested operand rest n a
  nested (binary left op at right) rest n a = nested left (sign (binary_sign op) at ∷ spelled right rest) n a ∙ (binary_nested op at (spelled right rest) n a ∙ nested right rest n a)
  nested (cast operand at target) rest n a = nested operand _ n a ∙ nested_type target rest n a
  nested (slice operand opening high dots low closing) rest n a =
      nested operand _ n a ∙ (nested high (sign signs.DotDot dots ∷ spelled low (sign signs.CloseBracket closing ∷ rest)) (suc n) a ∙ nested low (sign signs.CloseBracket closing ∷ rest) (suc n) a)
  nested (conditional at condition at_then one at_else other) rest n a =
      nested condition _ n a ∙ (nested one _ n a ∙ nested other rest n a)
  nested (binding at name equal bound at_in body) rest n a = nested bound _ n a ∙ nested body rest n a

  nested_arguments : (c : Arguments) (rest : List Placed) (n a : ℕ) → searches (spelled_arguments c rest) (suc n) a ≡ searches rest (suc n) a
  nested_arguments no_argument rest n a = refl
  nested_arguments (arguments first more) rest n a = nested first _ n a ∙ nested_more more rest n a

  nested_more : (c : MoreArguments) (rest : List Placed) (n a : ℕ) → searches (spelled_more c rest) (suc n) a ≡ searches rest (suc n) a
  nested_more no_more rest n a = refl
  nested_more (one_more comma e more) rest n a = nested e _ n a ∙ nested_more more rest n a

  nested_type : (c : TypeTree) (rest : List Placed) (n a : ℕ) → searches (spelled_type c rest) (suc n) a ≡ searches rest (suc n) a
  nested_type (sized kind at less width greater) rest n a =
      kind_nested kind at (sign signs.Less less ∷ spelled width (sign signs.Greater greater ∷ rest)) n a ∙ nested width (sign signs.Greater greater ∷ rest) n a
  nested_type (bool at) rest n a = refl
  nested_type (alias name) rest n a = refl

-- Outside of brackets each tree that may stand in a sum is passed over.
mutual
  unfolding searches

  pub outside : (c : Expr) (rest : List Placed) (a : ℕ) → is_grouped c ≡ true → nat_le 7 (level c) ≡ true → searches (spelled c rest) 0 a ≡ searches rest 0 a
  outside (number value at) rest a g h = refl
  outside (variable name) rest a g h = refl
  outside (call name opening given closing) rest a g h = nested_arguments given (sign signs.CloseParenthesis closing ∷ rest) 0 a
  outside (access name less size greater opening address closing) rest a g h =
      let p = three (is_grouped size) (nat_le 7 (level size)) (is_grouped address) g in
      outside size (sign signs.Greater greater ∷ sign signs.OpenParenthesis opening ∷ spelled address (sign signs.CloseParenthesis closing ∷ rest)) (suc a) p.0 p.1
      ∙ nested address (sign signs.CloseParenthesis closing ∷ rest) 0 a
  outside (joined at opening high comma low closing) rest a g h =
      nested high (sign signs.Comma comma ∷ spelled low (sign signs.CloseParenthesis closing ∷ rest)) 0 a ∙ nested low (sign signs.CloseParenthesis closing ∷ rest) 0 a
  outside (parentheses opening inner closing) rest a g h = nested inner (sign signs.CloseParenthesis closing ∷ rest) 0 a
  outside (unary op at operand) rest a g h =
      let p = both (is_grouped operand) (nat_le 10 (level operand)) g in
      unary_outside op at (spelled operand rest) a ∙ outside operand rest a p.0 (le_trans 7 10 (level operand) refl p.1)
  outside (binary left op at right) rest a g h =
      let p = four (is_grouped left) (nat_le (left_level op) (level left)) (is_grouped right) (nat_le (right_level op) (level right)) g in
      outside left (sign (binary_sign op) at ∷ spelled right rest) a p.0 (left_reaches 7 op (level left) h p.1)
      ∙ (sum_outside op at (spelled right rest) a h
      ∙ outside right rest a p.2 (right_reaches 7 op (level right) h p.3))
  outside (cast operand at target) rest a g h =
      let p = three (is_grouped operand) (nat_le 9 (level operand)) (is_grouped_type target) g in
      outside operand _ a p.0 (le_trans 7 9 (level operand) refl p.1) ∙ outside_type target rest a p.2
  outside (slice operand opening high dots low closing) rest a g h =
      let p = four (is_grouped operand) (nat_le 11 (level operand)) (is_grouped high) (is_grouped low) g in
      outside operand _ a p.0 (le_trans 7 11 (level operand) refl p.1)
      ∙ (nested high (sign signs.DotDot dots ∷ spelled low (sign signs.CloseBracket closing ∷ rest)) 0 a ∙ nested low (sign signs.CloseBracket closing ∷ rest) 0 a)
  outside (conditional at condition at_then one at_else other) rest a g h = absurd (cc)
  outside (binding at name equal bound at_in body) rest a g h = absurd (cc)

  pub outside_type : (c : TypeTree) (rest : List Placed) (a : ℕ) → is_grouped_type c ≡ true → searches (spelled_type c rest) 0 a ≡ searches rest 0 a
  outside_type (sized kind at less width greater) rest a g =
      let p = both (is_grouped width) (nat_le 7 (level width)) g in
      kind_outside kind at (sign signs.Less less ∷ spelled width (sign signs.Greater greater ∷ rest)) a ∙ outside width (sign signs.Greater greater ∷ rest) (suc a) p.0 p.1
  outside_type (bool at) rest a g = refl
  outside_type (alias name) rest a g = refl

-- one of a shift ends the search
shift_stops : (op : BinaryOperator) (at : ℕ) (ts : List Placed) → nat_le 7 (operator_level op) ≡ false → nat_le 6 (operator_level op) ≡ true → is_access (sign (binary_sign op) at ∷ ts) ≡ false
unfolding searches
shift_stops binaries.ShiftLeft at ts h k = refl
shift_stops binaries.ShiftRight at ts h k = refl
shift_stops _ at ts h k = absurd (cc)

by_level : (b x : Bool) → (b ≡ true → x ≡ false) → (b ≡ false → x ≡ false) → x ≡ false
by_level true x f g = f refl
by_level false x f g = g refl

-- What stands at the right of `<` makes no access of a comparison, where the tokens behind it don't.
pub compared : (c : Expr) (rest : List Placed) → is_grouped c ≡ true → nat_le 6 (level c) ≡ true → is_access rest ≡ false → is_access (spelled c rest) ≡ false
compared (binary left op at right) rest g h n =
    let p = four (is_grouped left) (nat_le (left_level op) (level left)) (is_grouped right) (nat_le (right_level op) (level right)) g in
    by_level (nat_le 7 (operator_level op)) (is_access (spelled (binary left op at right) rest))
    (λ e. outside (binary left op at right) rest 0 g e ∙ n)
    (λ e. compared left (sign (binary_sign op) at ∷ spelled right rest) p.0 (left_reaches 6 op (level left) h p.1) (shift_stops op at (spelled right rest) e h))
compared (conditional at condition at_then one at_else other) rest g h n = absurd (cc)
compared (binding at name equal bound at_in body) rest g h n = absurd (cc)
compared c rest g h n = outside c rest 0 g refl ∙ n
