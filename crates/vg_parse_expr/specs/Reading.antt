-- Reading expressions and types from the front of a list of tokens, by the levels of their operators. The reader of an
-- expression in a part of another is a parameter: it is given the least level that the part may have.
use Rattle.std.specs.Prelude.{ℕ, zero, suc, ◌+◌, ◌&&◌, max, nat_eq, nat_le, nat_lt, List, [], ◌∷◌, ◌++◌, length, Option, Some, None, if◌then◌else◌}
use Rattle.vg_tok.specs.declared.token.Kind.{Kind}
use Rattle.vg_tok.specs.declared.token.Kind.TheVariants as kind
use Rattle.vg_tok.specs.declared.sign.Sign.{Sign}
use Rattle.vg_tok.specs.declared.sign.Sign.TheVariants as signs
use Rattle.vg_tok.specs.declared.word.Word.TheVariants as words
use Rattle.vg_ast.specs.declared.name.Name.{Name}
use Rattle.vg_ast.specs.declared.expr.Expr.{Expr}
use Rattle.vg_ast.specs.declared.expr.Expr.TheVariants as tree
use Rattle.vg_ast.specs.declared.type_expr.TypeExpr.TheVariants as types
use Rattle.vg_ast.specs.declared.type_expr.BitsKind.{BitsKind}
use Rattle.vg_ast.specs.declared.type_expr.BitsKind.TheVariants as kinds
use Rattle.vg_ast.specs.declared.operator.UnaryOperator.{UnaryOperator}
use Rattle.vg_ast.specs.declared.operator.UnaryOperator.TheVariants as unary
use Rattle.vg_ast.specs.declared.operator.BinaryOperator.{BinaryOperator}
use Rattle.vg_ast.specs.declared.operator.BinaryOperator.TheVariants as binary
use Rattle.vg_ast.specs.Placed.{Placed}
use Rattle.vg_ast.specs.Operator.{operator_level, left_level, right_level, sum_level, cast_level, unary_level, slice_level, primary_level}
use Rattle.vg_parse_expr.specs.declared.operand.Operand.{Operand}
use Rattle.vg_parse_expr.specs.declared.operand.SizedType.{SizedType}
use Rattle.vg_parse_expr.specs.declared.infix.Infix.{Infix}
use Rattle.vg_parse_expr.specs.declared.infix.Infix.TheVariants as infixes
use Rattle.vg_parse_expr.specs.Lexeme.{◌>>=◌, is_sign_kind, begins_with, begins_with_word, sign_at, word_at, name_at}
use Rattle.vg_parse_expr.specs.Lookahead.{is_access}

-- the greatest depth of a tree
abbrev pub most_depth : ℕ
most_depth = 64

-- an expression of at least this level that the tokens begin with, and the tokens behind it
abbrev pub Reader : Type 0
Reader = ℕ → List Placed → Option (Operand × List Placed)

-- a tree of this level without parts
abbrev pub leaf : Expr → List Placed → Option (Operand × List Placed)
leaf tree rest = Some (record { tree = tree; level = primary_level; depth = 1 }, rest)

-- a tree of this level over parts of this depth, where it isn't too deep
abbrev pub over : Expr → ℕ → ℕ → List Placed → Option (Operand × List Placed)
over tree level parts rest =
    if nat_lt parts most_depth then Some (record { tree = tree; level = level; depth = 1 + parts }, rest) else None

-- Types.

abbrev pub bits_kind : Kind → Option BitsKind
bits_kind (kind.Word words.Bits) = Some kinds.Bits
bits_kind (kind.Word words.UInt) = Some kinds.UInt
bits_kind (kind.Word words.SInt) = Some kinds.SInt
bits_kind _ = None

unfoldable pub sized_at : Reader → BitsKind → ℕ → List Placed → Option (SizedType × List Placed)
sized_at read kind at ts = do
  less ← sign_at signs.Less ts
  width ← read sum_level less.1
  greater ← sign_at signs.Greater width.1
  Some (record { tree = types.Sized kind at width.0.tree; depth = width.0.depth }, greater.1)

abbrev pub unsized_of : Kind → ℕ → List Placed → Option (SizedType × List Placed)
unsized_of (kind.Word words.Bool) at ts = Some (record { tree = types.Bool at; depth = 1 }, ts)
unsized_of (kind.Name text) at ts = Some (record { tree = types.Alias (record { text = text; at = at }); depth = 1 }, ts)
unsized_of _ at ts = None

abbrev pub type_by : Option BitsKind → Reader → Kind → ℕ → List Placed → Option (SizedType × List Placed)
type_by (Some sized) read kind at ts = sized_at read sized at ts
type_by None read kind at ts = unsized_of kind at ts

unfoldable pub type_at : Reader → List Placed → Option (SizedType × List Placed)
type_at read [] = None
type_at read (t ∷ ts) = type_by (bits_kind t.kind) read t.kind t.at ts

-- Operands.

-- The arguments of a call from one that must come on, up to the `)` behind them: the arguments in front are read, and
-- none of them is deeper than deepest. The fuel is at least the number of tokens.
unfoldable pub arguments_at : ℕ → Reader → List Expr → ℕ → List Placed → Option ((List Expr × ℕ) × List Placed)
arguments_at zero read front deepest ts = None
arguments_at (suc fuel) read front deepest ts =
    read 0 ts >>= λ found.
    if begins_with signs.CloseParenthesis found.1
    then (sign_at signs.CloseParenthesis found.1 >>= λ closing. Some ((front ++ found.0.tree ∷ [], max deepest found.0.depth), closing.1))
    else (sign_at signs.Comma found.1 >>= λ comma. arguments_at fuel read (front ++ found.0.tree ∷ []) (max deepest found.0.depth) comma.1)

-- behind the `(` of a call
unfoldable pub call_at : Reader → Name → List Placed → Option (Operand × List Placed)
call_at read name ts =
    if begins_with signs.CloseParenthesis ts
    then (sign_at signs.CloseParenthesis ts >>= λ closing. over (tree.Call name []) primary_level 0 closing.1)
    else (arguments_at (length ts) read [] 0 ts >>= λ found. over (tree.Call name found.0.0) primary_level found.0.1 found.1)

-- behind the `<` of an access, which stands at the place less
unfoldable pub access_at : Reader → Name → ℕ → List Placed → Option (Operand × List Placed)
access_at read name less ts = do
  size ← read sum_level ts
  greater ← sign_at signs.Greater size.1
  opening ← sign_at signs.OpenParenthesis greater.1
  address ← read 0 opening.1
  closing ← sign_at signs.CloseParenthesis address.1
  over (tree.Access name less size.0.tree address.0.tree) primary_level (max size.0.depth address.0.depth) closing.1

-- behind a name
unfoldable pub named_at : Reader → Name → List Placed → Option (Operand × List Placed)
named_at read name [] = leaf (tree.Name name) []
named_at read name (t ∷ ts) =
    if is_sign_kind signs.OpenParenthesis t.kind then call_at read name ts
    else (if is_sign_kind signs.Less t.kind && is_access ts then access_at read name t.at ts else leaf (tree.Name name) (t ∷ ts))

-- behind the word `join`
unfoldable pub join_at : Reader → ℕ → List Placed → Option (Operand × List Placed)
join_at read at ts = do
  opening ← sign_at signs.OpenParenthesis ts
  high ← read 0 opening.1
  comma ← sign_at signs.Comma high.1
  low ← read 0 comma.1
  closing ← sign_at signs.CloseParenthesis low.1
  over (tree.Join at high.0.tree low.0.tree) primary_level (max high.0.depth low.0.depth) closing.1

-- behind a `(`
unfoldable pub parentheses_at : Reader → ℕ → List Placed → Option (Operand × List Placed)
parentheses_at read at ts = do
  inner ← read 0 ts
  closing ← sign_at signs.CloseParenthesis inner.1
  over (tree.Parentheses at inner.0.tree) primary_level inner.0.depth closing.1

-- behind an operator that stands before its operand
unfoldable pub unary_at : Reader → UnaryOperator → ℕ → List Placed → Option (Operand × List Placed)
unary_at read op at ts = do
  operand ← read unary_level ts
  over (tree.Unary op at operand.0.tree) unary_level operand.0.depth operand.1

abbrev pub unary_operator : Sign → Option UnaryOperator
unary_operator signs.Tilde = Some unary.Complement
unary_operator signs.Minus = Some unary.Negate
unary_operator signs.Bang = Some unary.Not
unary_operator _ = None

abbrev pub unary_by : Option UnaryOperator → Reader → ℕ → List Placed → Option (Operand × List Placed)
unary_by (Some op) read at ts = unary_at read op at ts
unary_by None read at ts = None

abbrev pub signed_by : Reader → Sign → ℕ → List Placed → Option (Operand × List Placed)
signed_by read signs.OpenParenthesis at ts = parentheses_at read at ts
signed_by read s at ts = unary_by (unary_operator s) read at ts

abbrev pub operand_by : Reader → Kind → ℕ → List Placed → Option (Operand × List Placed)
operand_by read (kind.Number value) at ts = leaf (tree.Number value at) ts
operand_by read (kind.Name text) at ts = named_at read (record { text = text; at = at }) ts
operand_by read (kind.Sign s) at ts = signed_by read s at ts
operand_by read (kind.Word words.Join) at ts = join_at read at ts
operand_by read (kind.Word _) at ts = None
operand_by read (kind.Str text) at ts = None

-- what stands at the left of the first operator between operands, cast or slice
unfoldable pub operand_at : Reader → List Placed → Option (Operand × List Placed)
operand_at read [] = None
operand_at read (t ∷ ts) = operand_by read t.kind t.at ts

-- What an expression goes on with.

abbrev pub sign_infix : Sign → Option Infix
sign_infix signs.Bar = Some (infixes.Operator binary.Or)
sign_infix signs.Caret = Some (infixes.Operator binary.Xor)
sign_infix signs.Ampersand = Some (infixes.Operator binary.And)
sign_infix signs.Equal = Some (infixes.Operator binary.Equal)
sign_infix signs.BangEqual = Some (infixes.Operator binary.NotEqual)
sign_infix signs.Less = Some (infixes.Operator binary.Less)
sign_infix signs.LessEqual = Some (infixes.Operator binary.LessEqual)
sign_infix signs.Greater = Some (infixes.Operator binary.Greater)
sign_infix signs.GreaterEqual = Some (infixes.Operator binary.GreaterEqual)
sign_infix signs.LessLess = Some (infixes.Operator binary.ShiftLeft)
sign_infix signs.GreaterGreater = Some (infixes.Operator binary.ShiftRight)
sign_infix signs.Plus = Some (infixes.Operator binary.Add)
sign_infix signs.Minus = Some (infixes.Operator binary.Subtract)
sign_infix signs.Star = Some (infixes.Operator binary.Multiply)
sign_infix signs.StarHash = Some (infixes.Operator binary.MultiplyLong)
sign_infix signs.Slash = Some (infixes.Operator binary.Divide)
sign_infix signs.Percent = Some (infixes.Operator binary.Remainder)
sign_infix signs.OpenBracket = Some infixes.Slice
sign_infix _ = None

abbrev pub kind_infix : Kind → Option Infix
kind_infix (kind.Sign s) = sign_infix s
kind_infix (kind.Word words.As) = Some infixes.Cast
kind_infix _ = None

-- the level of the whole, and the least of what stands at the left

abbrev pub infix_level : Infix → ℕ
infix_level (infixes.Operator op) = operator_level op
infix_level infixes.Cast = cast_level
infix_level infixes.Slice = slice_level

abbrev pub infix_left_level : Infix → ℕ
infix_left_level (infixes.Operator op) = left_level op
infix_left_level infixes.Cast = cast_level
infix_left_level infixes.Slice = slice_level

-- behind an operator between operands
unfoldable pub binary_at : Reader → Operand → BinaryOperator → ℕ → List Placed → Option (Operand × List Placed)
binary_at read left op at ts = do
  right ← read (right_level op) ts
  over (tree.Binary op at left.tree right.0.tree) (operator_level op) (max left.depth right.0.depth) right.1

-- behind the word `as`
unfoldable pub cast_at : Reader → Operand → ℕ → List Placed → Option (Operand × List Placed)
cast_at read left at ts = do
  target ← type_at read ts
  over (tree.Cast left.tree at target.0.tree) cast_level (max left.depth target.0.depth) target.1

-- behind the `[` of a slice
unfoldable pub slice_at : Reader → Operand → ℕ → List Placed → Option (Operand × List Placed)
slice_at read left at ts = do
  high ← read 0 ts
  dots ← sign_at signs.DotDot high.1
  low ← read 0 dots.1
  closing ← sign_at signs.CloseBracket low.1
  over (tree.Slice left.tree at high.0.tree low.0.tree) slice_level (max left.depth (max high.0.depth low.0.depth)) closing.1

abbrev pub infix_by : Reader → Operand → Infix → ℕ → List Placed → Option (Operand × List Placed)
infix_by read left (infixes.Operator op) at ts = binary_at read left op at ts
infix_by read left infixes.Cast at ts = cast_at read left at ts
infix_by read left infixes.Slice at ts = slice_at read left at ts

-- what an operand at the left goes on with, in an expression of at least this level
abbrev pub taken : ℕ → ℕ → Option Infix → Option Infix
taken least left None = None
taken least left (Some infix_found) = if nat_le least (infix_level infix_found) && nat_le (infix_left_level infix_found) left then Some infix_found else None

abbrev pub next_infix : ℕ → ℕ → List Placed → Option Infix
next_infix least left [] = None
next_infix least left (t ∷ ts) = taken least left (kind_infix t.kind)

-- The expression of at least this level that goes on from the operand at the left. Each step makes the tree deeper, so
-- that most_depth steps are enough.
abbrev pub rest_step : (Operand → List Placed → Option (Operand × List Placed)) → Reader → Operand → List Placed → Option Infix → Option (Operand × List Placed)
rest_step go read left [] next = Some (left, [])
rest_step go read left (t ∷ ts) None = Some (left, t ∷ ts)
rest_step go read left (t ∷ ts) (Some next) = infix_by read left next t.at ts >>= λ found. go found.0 found.1

unfoldable pub rest_at : ℕ → Reader → ℕ → Operand → List Placed → Option (Operand × List Placed)
rest_at zero read least left ts = Some (left, ts)
rest_at (suc steps) read least left ts = rest_step (rest_at steps read least) read left ts (next_infix least left.level ts)

-- Whole expressions.

-- behind the word `if`
unfoldable pub conditional_at : Reader → ℕ → List Placed → Option (Operand × List Placed)
conditional_at read at ts = do
  condition ← read 0 ts
  one_word ← word_at words.Then condition.1
  one ← read 0 one_word.1
  other_word ← word_at words.Else one.1
  other ← read 0 other_word.1
  over (tree.If at condition.0.tree one.0.tree other.0.tree) 0 (max condition.0.depth (max one.0.depth other.0.depth)) other.1

-- behind the word `let`
unfoldable pub binding_at : Reader → ℕ → List Placed → Option (Operand × List Placed)
binding_at read at ts = do
  name ← name_at ts
  equal ← sign_at signs.Equal name.1
  bound ← read 0 equal.1
  body_word ← word_at words.In bound.1
  body ← read 0 body_word.1
  over (tree.Let at name.0 bound.0.tree body.0.tree) 0 (max bound.0.depth body.0.depth) body.1

unfoldable pub expression_by : Reader → Reader
expression_by read least ts =
    if nat_eq least 0 && begins_with_word words.If ts then (word_at words.If ts >>= λ at. conditional_at read at.0 at.1)
    else (if nat_eq least 0 && begins_with_word words.Let ts then (word_at words.Let ts >>= λ at. binding_at read at.0 at.1)
    else (operand_at read ts >>= λ left. rest_at most_depth read least left.0 left.1))

-- an expression of at least a level that the tokens begin with, in which no more readings than the fuel stand in one
-- another
unfoldable pub expression_within : ℕ → Reader
expression_within zero least ts = None
expression_within (suc fuel) least ts = expression_by (expression_within fuel) least ts

-- an expression of at least a level that the tokens begin with
abbrev pub expression : Reader
expression = expression_within most_depth

-- a type that the tokens begin with
abbrev pub type_expr : List Placed → Option (SizedType × List Placed)
type_expr ts = type_at expression ts
