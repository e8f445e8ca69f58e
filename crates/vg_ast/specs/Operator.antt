-- Operators, by their signs and by how tightly they bind.
use Rattle.std.specs.Prelude.{ℕ, ◌+◌}
use Rattle.vg_tok.specs.declared.sign.Sign.{Sign}
use Rattle.vg_tok.specs.declared.sign.Sign.TheVariants as signs
use Rattle.vg_tok.specs.declared.word.Word.{Word}
use Rattle.vg_tok.specs.declared.word.Word.TheVariants as words
use Rattle.vg_ast.specs.declared.operator.UnaryOperator.{UnaryOperator}
use Rattle.vg_ast.specs.declared.operator.UnaryOperator.TheVariants as unary
use Rattle.vg_ast.specs.declared.operator.BinaryOperator.{BinaryOperator}
use Rattle.vg_ast.specs.declared.operator.BinaryOperator.TheVariants as binary
use Rattle.vg_ast.specs.declared.type_expr.BitsKind.{BitsKind}
use Rattle.vg_ast.specs.declared.type_expr.BitsKind.TheVariants as kinds

abbrev pub unary_sign : UnaryOperator → Sign
unary_sign unary.Complement = signs.Tilde
unary_sign unary.Negate = signs.Minus
unary_sign unary.Not = signs.Bang

abbrev pub binary_sign : BinaryOperator → Sign
binary_sign binary.Or = signs.Bar
binary_sign binary.Xor = signs.Caret
binary_sign binary.And = signs.Ampersand
binary_sign binary.Equal = signs.Equal
binary_sign binary.NotEqual = signs.BangEqual
binary_sign binary.Less = signs.Less
binary_sign binary.LessEqual = signs.LessEqual
binary_sign binary.Greater = signs.Greater
binary_sign binary.GreaterEqual = signs.GreaterEqual
binary_sign binary.ShiftLeft = signs.LessLess
binary_sign binary.ShiftRight = signs.GreaterGreater
binary_sign binary.Add = signs.Plus
binary_sign binary.Subtract = signs.Minus
binary_sign binary.Multiply = signs.Star
binary_sign binary.MultiplyLong = signs.StarHash
binary_sign binary.Divide = signs.Slash
binary_sign binary.Remainder = signs.Percent

abbrev pub kind_word : BitsKind → Word
kind_word kinds.Bits = words.Bits
kind_word kinds.UInt = words.UInt
kind_word kinds.SInt = words.SInt

-- The levels of expressions, the loosest first: 0 `if` and `let`, 1 `|`, 2 `^`, 3 `&`, 4 `=` and `!=`, 5 the orders,
-- 6 shifts, 7 sums, 8 products, 9 casts, 10 operators before an operand, 11 slices, 12 what stands by itself.

abbrev pub operator_level : BinaryOperator → ℕ
operator_level binary.Or = 1
operator_level binary.Xor = 2
operator_level binary.And = 3
operator_level binary.Equal = 4
operator_level binary.NotEqual = 4
operator_level binary.Less = 5
operator_level binary.LessEqual = 5
operator_level binary.Greater = 5
operator_level binary.GreaterEqual = 5
operator_level binary.ShiftLeft = 6
operator_level binary.ShiftRight = 6
operator_level binary.Add = 7
operator_level binary.Subtract = 7
operator_level binary.Multiply = 8
operator_level binary.MultiplyLong = 8
operator_level binary.Divide = 8
operator_level binary.Remainder = 8

-- the least level of a left operand: the operator's own, as it groups from the left, and one more where it isn't
-- repeated
abbrev pub left_level : BinaryOperator → ℕ
left_level binary.Equal = 5
left_level binary.NotEqual = 5
left_level binary.Less = 6
left_level binary.LessEqual = 6
left_level binary.Greater = 6
left_level binary.GreaterEqual = 6
left_level op = operator_level op

-- the least level of a right operand
abbrev pub right_level : BinaryOperator → ℕ
right_level op = operator_level op + 1

abbrev pub sum_level : ℕ
sum_level = 7

abbrev pub cast_level : ℕ
cast_level = 9

abbrev pub unary_level : ℕ
unary_level = 10

abbrev pub slice_level : ℕ
slice_level = 11

abbrev pub primary_level : ℕ
primary_level = 12
