-- What an expression may be followed by: where it ends, and where an operator goes on with it.
use Rattle.std.proofs.Common.{◌≡◌, ℕ, Bool, true, false, not, ◌||◌, nat_le, nat_lt, List, [], ◌∷◌, Option, Some, None, IsTrue, refl, ap, ◌∙◌, arith}
use Rattle.std.proofs.lemmas.Bool.Decides.{nat_tests}
use Rattle.vg_tok.specs.declared.token.Kind.TheVariants as kind
use Rattle.vg_tok.specs.declared.sign.Sign.{Sign}
use Rattle.vg_tok.specs.declared.sign.Sign.TheVariants as signs
use Rattle.vg_tok.specs.declared.word.Word.{Word}
use Rattle.vg_tok.specs.declared.word.Word.TheVariants as words
use Rattle.vg_ast.specs.declared.operator.BinaryOperator.{BinaryOperator}
use Rattle.vg_ast.specs.declared.operator.BinaryOperator.TheVariants as binaries
use Rattle.vg_ast.specs.Placed.{Placed, sign, word}
use Rattle.vg_ast.specs.Operator.{binary_sign, operator_level, left_level}
use Rattle.vg_ast.specs.Concrete.{Goal, whole, indexed, cells, Statement, block, local, when, choice, assign, Statements, no_statement, statements}
use Rattle.vg_ast.specs.Spelling.{spelled, spelled_goal, spelled_statement, spelled_statements}
use Rattle.vg_ast.specs.Grouping.{level, is_grouped, is_grouped_goal, is_grouped_statement, are_grouped_statements}
use Rattle.vg_parse_expr.specs.declared.lookahead.Passing.TheVariants.{Stops}
use Rattle.vg_parse_expr.specs.declared.infix.Infix.{Infix}
use Rattle.vg_parse_expr.specs.declared.infix.Infix.TheVariants as infixes
use Rattle.vg_parse_expr.specs.Lexeme.{is_sign_kind, begins_with}
use Rattle.vg_parse_expr.specs.Lookahead.{word_passing, searches, is_access}
use Rattle.vg_parse_expr.specs.Reading.{sign_infix, kind_infix, infix_level}
use Rattle.vg_parse_expr.specs.Exact.{is_next, continues, goes_on_as_access, ends}
use Rattle.vg_parse_expr.proofs.Tests.{three, both, none_of, none_of-parts, either_left, either_right, le_trans, not_reached, lt_of_le}
use Rattle.vg_parse_expr.proofs.Passed.{nested, outside}

-- Where an expression of any level ends.

pub ends_at_nothing : IsTrue (ends 0 [])
unfolding searches
ends_at_nothing = refl

-- a sign that stands between the parts of what is written
abbrev pub is_separator : Sign → Bool
is_separator signs.CloseParenthesis = true
is_separator signs.CloseBracket = true
is_separator signs.OpenBrace = true
is_separator signs.CloseBrace = true
is_separator signs.Comma = true
is_separator signs.Colon = true
is_separator signs.ColonEqual = true
is_separator signs.DotDot = true
is_separator signs.Arrow = true
is_separator _ = false

pub ends_at_sign : (s : Sign) (at : ℕ) (rest : List Placed) → IsTrue (is_separator s) → IsTrue (ends 0 (sign s at ∷ rest))
unfolding searches
ends_at_sign signs.CloseParenthesis at rest h = refl
ends_at_sign signs.CloseBracket at rest h = refl
ends_at_sign signs.OpenBrace at rest h = refl
ends_at_sign signs.CloseBrace at rest h = refl
ends_at_sign signs.Comma at rest h = refl
ends_at_sign signs.Colon at rest h = refl
ends_at_sign signs.ColonEqual at rest h = refl
ends_at_sign signs.DotDot at rest h = refl
ends_at_sign signs.Arrow at rest h = refl
ends_at_sign _ at rest h = absurd (cc)

-- a reserved word with which no sum goes on
pub ends_at_word : (w : Word) (at : ℕ) (rest : List Placed) → word_passing w ≡ Stops → IsTrue (ends 0 (word w at ∷ rest))
unfolding searches
ends_at_word words.As at rest h = absurd (cc)
ends_at_word words.Join at rest h = absurd (cc)
ends_at_word words.Bits at rest h = absurd (cc)
ends_at_word words.UInt at rest h = absurd (cc)
ends_at_word words.SInt at rest h = absurd (cc)
ends_at_word words.Bool at rest h = absurd (cc)
ends_at_word _ at rest h = refl

-- a sum ends before `>`
pub ends_at_greater : (at : ℕ) (rest : List Placed) → IsTrue (ends 7 (sign signs.Greater at ∷ rest))
ends_at_greater at rest = refl

-- an expression of a level ends where one of a lower level does

next_weaker : (a b : ℕ) (o : Option Infix) → nat_le a b ≡ true → is_next a o ≡ false → is_next b o ≡ false
next_weaker a b None h k = refl
next_weaker a b (Some i) h k = below a b (infix_level i) h k
  where
    below : (a b c : ℕ) → nat_le a b ≡ true → nat_le a c ≡ false → nat_le b c ≡ false
    below a b c h k = grind (arith, nat_tests)

continues_weaker : (a b : ℕ) (ts : List Placed) → nat_le a b ≡ true → continues a ts ≡ false → continues b ts ≡ false
continues_weaker a b [] h k = refl
continues_weaker a b (t ∷ ts) h k = next_weaker a b (kind_infix t.kind) h k

pub compared_weaker : (a b : ℕ) (x : Bool) → nat_le a b ≡ true → (nat_lt 5 a || x) ≡ true → (nat_lt 5 b || x) ≡ true
compared_weaker a b x h k = by_test (nat_lt 5 a) refl k
  where
    by_test : (y : Bool) → nat_lt 5 a ≡ y → (y || x) ≡ true → (nat_lt 5 b || x) ≡ true
    by_test true e l = either_left _ x (lt_of_le 5 a b e h)
    by_test false e l = either_x (nat_lt 5 b) l
      where
        either_x : (z : Bool) → x ≡ true → (z || x) ≡ true
        either_x true m = refl
        either_x false m = m

pub ends_weaker : (a b : ℕ) (ts : List Placed) → nat_le a b ≡ true → ends a ts ≡ true → ends b ts ≡ true
ends_weaker a b ts h k =
    let p = none_of-parts (continues a ts) (begins_with signs.OpenParenthesis ts) (goes_on_as_access ts) (nat_lt 5 a || not (is_access ts)) k in
    none_of (continues b ts) (begins_with signs.OpenParenthesis ts) (goes_on_as_access ts) (nat_lt 5 b || not (is_access ts))
    (continues_weaker a b ts h p.0) p.1 p.2 (compared_weaker a b (not (is_access ts)) h p.3)

-- Where a statement or its goal begins, the expression before it ends.

pub ends_at_goal : (g : Goal) (at : ℕ) (rest : List Placed) → IsTrue (is_grouped_goal g) → IsTrue (ends 0 (spelled_goal g (sign signs.ColonEqual at ∷ rest)))
unfolding searches
ends_at_goal (whole n) at rest g = refl
ends_at_goal (indexed n opening index closing) at rest g = ap not (nested index (sign signs.CloseParenthesis closing ∷ sign signs.ColonEqual at ∷ rest) 0 0)
ends_at_goal (cells n less size greater opening address closing) at rest g =
    let p = three (is_grouped size) (nat_le 7 (level size)) (is_grouped address) g in
    ap not (outside size (sign signs.Greater greater ∷ sign signs.OpenParenthesis opening ∷ spelled address (sign signs.CloseParenthesis closing ∷ sign signs.ColonEqual at ∷ rest)) 1 p.0 p.1
    ∙ nested address (sign signs.CloseParenthesis closing ∷ sign signs.ColonEqual at ∷ rest) 0 0)

pub ends_at_statement : (s : Statement) (rest : List Placed) → IsTrue (is_grouped_statement s) → IsTrue (ends 0 (spelled_statement s rest))
ends_at_statement (block opening body closing) rest g = ends_at_sign signs.OpenBrace opening _ refl
ends_at_statement (local at n equal bound at_in body) rest g = ends_at_word words.Let at _ refl
ends_at_statement (when at condition at_then body) rest g = ends_at_word words.If at _ refl
ends_at_statement (choice at condition at_then body at_else other) rest g = ends_at_word words.If at _ refl
ends_at_statement (assign goal colon_equal value) rest g =
    ends_at_goal goal colon_equal (spelled value rest) (both (is_grouped_goal goal) (is_grouped value) g).0

pub ends_at_statements : (ss : Statements) (rest : List Placed) → IsTrue (are_grouped_statements ss) → IsTrue (ends 0 rest) → IsTrue (ends 0 (spelled_statements ss rest))
ends_at_statements no_statement rest g h = h
ends_at_statements (statements first more) rest g h =
    ends_at_statement first (spelled_statements more rest) (both (is_grouped_statement first) (are_grouped_statements more) g).0

-- An operator behind its left operand.

pub operator_infix : (op : BinaryOperator) → sign_infix (binary_sign op) ≡ Some (infixes.Operator op)
operator_infix binaries.Or = refl
operator_infix _ = refl

operator_no_parenthesis : (op : BinaryOperator) → is_sign_kind signs.OpenParenthesis (kind.Sign (binary_sign op)) ≡ false
operator_no_parenthesis binaries.Or = refl
operator_no_parenthesis _ = refl

operator_no_access : (op : BinaryOperator) (at : ℕ) (ts : List Placed) → (op ≡ binaries.Less → is_access ts ≡ false) → goes_on_as_access (sign (binary_sign op) at ∷ ts) ≡ false
operator_no_access binaries.Less at ts h = h refl
operator_no_access _ at ts h = refl

loose_stops : (op : BinaryOperator) (at : ℕ) (ts : List Placed) → nat_le 5 (operator_level op) ≡ false → is_access (sign (binary_sign op) at ∷ ts) ≡ false
unfolding searches
loose_stops binaries.Or at ts h = refl
loose_stops binaries.Xor at ts h = refl
loose_stops binaries.And at ts h = refl
loose_stops binaries.Equal at ts h = refl
loose_stops binaries.NotEqual at ts h = refl
loose_stops _ at ts h = absurd (cc)

order_left : (op : BinaryOperator) → nat_le 5 (operator_level op) ≡ true → nat_le 6 (left_level op) ≡ true
order_left binaries.Or h = absurd (cc)
order_left binaries.Xor h = absurd (cc)
order_left binaries.And h = absurd (cc)
order_left binaries.Equal h = absurd (cc)
order_left binaries.NotEqual h = absurd (cc)
order_left _ h = refl

or_stops : (op : BinaryOperator) (at : ℕ) (ts : List Placed) (b : Bool) → (nat_le 5 (operator_level op) ≡ true → b ≡ true) → (b || not (is_access (sign (binary_sign op) at ∷ ts))) ≡ true
or_stops op at ts b h = by_test (nat_le 5 (operator_level op)) refl
  where
    by_test : (y : Bool) → nat_le 5 (operator_level op) ≡ y → (b || not (is_access (sign (binary_sign op) at ∷ ts))) ≡ true
    by_test true e = either_left b _ (h e)
    by_test false e = either_right b _ (loose_stops op at ts e)

-- a left operand's right end, which takes operators of at least the level opened
pub ends_at_operator : (op : BinaryOperator) (at : ℕ) (ts : List Placed) (opened : ℕ) → nat_lt (operator_level op) opened ≡ true → (op ≡ binaries.Less → is_access ts ≡ false)
    → ends opened (sign (binary_sign op) at ∷ ts) ≡ true
ends_at_operator op at ts opened h k =
    none_of (continues opened (sign (binary_sign op) at ∷ ts)) (begins_with signs.OpenParenthesis (sign (binary_sign op) at ∷ ts)) (goes_on_as_access (sign (binary_sign op) at ∷ ts))
    (nat_lt 5 opened || not (is_access (sign (binary_sign op) at ∷ ts)))
    (ap (is_next opened) (operator_infix op) ∙ not_reached opened (operator_level op) h) (operator_no_parenthesis op) (operator_no_access op at ts k)
    (or_stops op at ts (nat_lt 5 opened) (λ e. above (operator_level op) opened e h))
  where
    above : (a b : ℕ) → nat_le 5 a ≡ true → nat_lt a b ≡ true → nat_lt 5 b ≡ true
    above a b h k = grind (arith, nat_tests)

pub not_compared_at_operator : (op : BinaryOperator) (at : ℕ) (ts : List Placed) (left : ℕ) → nat_le (left_level op) left ≡ true
    → (nat_lt 5 left || not (is_access (sign (binary_sign op) at ∷ ts))) ≡ true
not_compared_at_operator op at ts left h = or_stops op at ts (nat_lt 5 left) (λ e. lt_of_le 5 6 left refl (le_trans 6 (left_level op) left (order_left op e) h))
