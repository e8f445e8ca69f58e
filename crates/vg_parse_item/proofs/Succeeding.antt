-- Steps of reading that succeed, and how many tokens trees spell.
use Rattle.std.proofs.Common.{◌≡◌, ℕ, zero, suc, ◌+◌, ◌<◌, ◌≤◌, Bool, true, false, nat_le, List, [], ◌∷◌, ◌++◌, length, map, Option, Some, None, refl, ap, ◌∙◌, arith, append_assoc}
use Rattle.std.specs.Prelude.{⊤}
use Rattle.std.specs.List.{list_all}
use Rattle.vg_tok.specs.declared.sign.Sign.{Sign}
use Rattle.vg_tok.specs.declared.sign.Sign.TheVariants as signs
use Rattle.vg_tok.specs.declared.word.Word.TheVariants as words
use Rattle.vg_ast.specs.Placed.{Placed, sign, word}
use Rattle.vg_ast.specs.Operator.{binary_sign}
use Rattle.vg_ast.specs.Concrete.{Expr, number, variable, call, access, joined, parentheses, unary, binary, cast, slice, conditional, binding, no_argument, arguments, MoreArguments, no_more, one_more, TypeTree, sized, bool, alias}
use Rattle.vg_ast.specs.ConcreteItem.{Row}
use Rattle.vg_ast.specs.Spelling as spelling
use Rattle.vg_ast.specs.Spelling.{spelled, spelled_type}
use Rattle.vg_ast.specs.SpellingItem.{Spells, spelled_more, spelled_row, spelled_optional_row}
use Rattle.vg_ast.specs.Grouping.{level, is_grouped}
use Rattle.vg_ast.specs.Depth.{depth, depth_type}
use Rattle.vg_ast.specs.Grammar.{is_expression, is_type, is_row, is_optional_row}
use Rattle.vg_ast.specs.Tree.{tree_of, type_of}
use Rattle.vg_ast.specs.TreeItem.{row_of, optional_row_of}
use Rattle.vg_parse_expr.specs.declared.operand.Operand.{Operand}
use Rattle.vg_parse_expr.specs.declared.operand.SizedType.{SizedType}
use Rattle.vg_parse_expr.specs.Lexeme.{◌>>=◌, begins_with, sign_at}
use Rattle.vg_parse_expr.specs.Reading.{expression, type_expr}
use Rattle.vg_parse_expr.specs.Exact.{ends}
use Rattle.vg_parse_expr.proofs.Tests.{both, three-from}
use Rattle.vg_parse_expr.proofs.Primary.{longer, at_least_zero}
use Rattle.vg_parse_expr.proofs.Complete.{expression_complete, type_complete}
use Rattle.vg_parse_item.specs.ReadingRow.{Reader, row_from, row_at, optional_row_at}
pub use Rattle.vg_parse_expr.proofs.Taking.{then_is, if_true, if_false}

-- An expression that is read, and what follows it.

abbrev pub operand_of : Expr → Operand
operand_of c = record { tree = tree_of c; level = level c; depth = depth c }

pub expression_then : {B : Type 0} (f : Operand × List Placed → Option B) (least : ℕ) (c : Expr) (rest : List Placed) (y : Option B)
    → is_expression c ≡ true → nat_le least (level c) ≡ true → ends least rest ≡ true → f (operand_of c, rest) ≡ y → (expression least (spelled c rest) >>= f) ≡ y
expression_then f least c rest y h l e k =
    let p = both (is_grouped c) (nat_le (depth c) 64) h in
    then_is (expression least (spelled c rest)) f (operand_of c, rest) y (expression_complete least c rest (three-from _ _ _ p.0 l p.1) e) k

-- an expression of any level

pub expression_is : (c : Expr) (rest : List Placed) → is_expression c ≡ true → ends 0 rest ≡ true → expression 0 (spelled c rest) ≡ Some (operand_of c, rest)
expression_is c rest h e =
    let p = both (is_grouped c) (nat_le (depth c) 64) h in
    expression_complete 0 c rest (three-from _ _ _ p.0 (at_least_zero (level c)) p.1) e

pub any_then : {B : Type 0} (f : Operand × List Placed → Option B) (c : Expr) (rest : List Placed) (y : Option B)
    → is_expression c ≡ true → ends 0 rest ≡ true → f (operand_of c, rest) ≡ y → (expression 0 (spelled c rest) >>= f) ≡ y
any_then f c rest y h e k = then_is (expression 0 (spelled c rest)) f (operand_of c, rest) y (expression_is c rest h e) k

abbrev pub sized_type_of : TypeTree → SizedType
sized_type_of c = record { tree = type_of c; depth = depth_type c }

pub type_then : {B : Type 0} (f : SizedType × List Placed → Option B) (c : TypeTree) (rest : List Placed) (y : Option B)
    → is_type c ≡ true → f (sized_type_of c, rest) ≡ y → (type_expr (spelled_type c rest) >>= f) ≡ y
type_then f c rest y h k = then_is (type_expr (spelled_type c rest)) f (sized_type_of c, rest) y (type_complete c rest h) k

-- Each tree has a token.

pub some_type_token : (c : TypeTree) (ts : List Placed) → length ts < length (spelled_type c ts)
some_type_token (sized kind at less width greater) ts = omega (arith, longer width (sign signs.Greater greater ∷ ts))
some_type_token (bool at) ts = omega arith
some_type_token (alias n) ts = omega arith

more_arguments : (more : MoreArguments) (ts : List Placed) → length ts ≤ length (spelling.spelled_more more ts)
more_arguments no_more ts = omega arith
more_arguments (one_more comma e more) ts = omega (arith, more_arguments more ts, longer e (spelling.spelled_more more ts))

pub some_token : (c : Expr) (ts : List Placed) → length ts < length (spelled c ts)
some_token (number value at) ts = omega arith
some_token (variable n) ts = omega arith
some_token (call n opening no_argument closing) ts = omega arith
some_token (call n opening (arguments first more) closing) ts =
    omega (arith, longer first (spelling.spelled_more more (sign signs.CloseParenthesis closing ∷ ts)), more_arguments more (sign signs.CloseParenthesis closing ∷ ts))
some_token (access n less size greater opening address closing) ts =
    omega (arith, longer size (sign signs.Greater greater ∷ sign signs.OpenParenthesis opening ∷ spelled address (sign signs.CloseParenthesis closing ∷ ts)), longer address (sign signs.CloseParenthesis closing ∷ ts))
some_token (joined at opening high comma low closing) ts =
    omega (arith, longer low (sign signs.CloseParenthesis closing ∷ ts), longer high (sign signs.Comma comma ∷ spelled low (sign signs.CloseParenthesis closing ∷ ts)))
some_token (parentheses opening inner closing) ts = omega (arith, longer inner (sign signs.CloseParenthesis closing ∷ ts))
some_token (unary op at operand) ts = omega (arith, longer operand ts)
some_token (binary left op at right) ts = omega (arith, longer right ts, longer left (sign (binary_sign op) at ∷ spelled right ts))
some_token (cast operand at target) ts = omega (arith, some_type_token target ts, longer operand (word words.As at ∷ spelled_type target ts))
some_token (slice operand opening high dots low closing) ts =
    omega (
      arith,
      longer low (sign signs.CloseBracket closing ∷ ts),
      longer high (sign signs.DotDot dots ∷ spelled low (sign signs.CloseBracket closing ∷ ts)),
      longer operand (sign signs.OpenBracket opening ∷ spelled high (sign signs.DotDot dots ∷ spelled low (sign signs.CloseBracket closing ∷ ts))),
    )
some_token (conditional at condition at_then one at_else other) ts =
    omega (arith, longer other ts, longer one (word words.Else at_else ∷ spelled other ts), longer condition (word words.Then at_then ∷ spelled one (word words.Else at_else ∷ spelled other ts)))
some_token (binding at n equal bound at_in body) ts = omega (arith, longer body ts, longer bound (word words.In at_in ∷ spelled body ts))

-- Rows.

-- each element and each comma spells a token
pub counted : {C : Type 0} (spells : Spells C) → ((c : C) (ts : List Placed) → length ts < length (spells c ts)) → (more : List (ℕ × C)) (ts : List Placed)
    → length more + length ts ≤ length (spelled_more spells more ts)
counted spells some [] ts = omega arith
counted spells some (x ∷ more) ts = omega (arith, counted spells some more ts, some x.1 (spelled_more spells more ts))

-- whatever stands behind
abbrev pub Anything : List Placed → Type 0
Anything ts = ⊤

-- an element is read where this holds of the tokens behind it
abbrev pub IsComplete : {C X : Type 0} → Reader X → Spells C → (C → Bool) → (C → X) → (List Placed → Type 0) → Type 0
IsComplete {C = C} {X = X} read spells is_right tree End = (c : C) (rest : List Placed) → is_right c ≡ true → End rest → read (spells c rest) ≡ Some (tree c, rest)

module _ {C X : Type 0} (read : Reader X) (spells : Spells C) (is_right : C → Bool) (tree : C → X) (End : List Placed → Type 0)
    (complete : IsComplete read spells is_right tree End) (comma_ends : (at : ℕ) (ts : List Placed) → End (sign signs.Comma at ∷ ts))
    (some : (c : C) (ts : List Placed) → length ts < length (spells c ts)) where
  row_from_is : (fuel : ℕ) (first : C) (more : List (ℕ × C)) (front : List X) (rest : List Placed) → length more < fuel
      → is_right first ≡ true → list_all (λ x. is_right x.1) more ≡ true → End rest → begins_with signs.Comma rest ≡ false
      → row_from read fuel front (spells first (spelled_more spells more rest)) ≡ Some (front ++ (tree first ∷ map (λ x. tree x.1) more), rest)
  unfolding row_from sign_at
  row_from_is zero first more front rest f g h e c = absurd (omega arith)
  row_from_is (suc fuel) first [] front rest f g h e c =
      then_is (read (spells first rest)) _ (tree first, rest) _ (complete first rest g e) (if_false (begins_with signs.Comma rest) _ _ _ c refl)
  row_from_is (suc fuel) first (x ∷ more) front rest f g h e c =
      let ts : List Placed = spells x.1 (spelled_more spells more rest) in
      let p = both (is_right x.1) (list_all (λ y. is_right y.1) more) h in
      then_is (read (spells first (sign signs.Comma x.0 ∷ ts))) _ (tree first, sign signs.Comma x.0 ∷ ts) _ (complete first (sign signs.Comma x.0 ∷ ts) g (comma_ends x.0 ts))
      (row_from_is fuel x.1 more (front ++ tree first ∷ []) rest (omega arith) p.0 p.1 e c
      ∙ ap (λ (l : List X). Some (l, rest)) (append_assoc front (tree first ∷ []) (tree x.1 ∷ map (λ y. tree y.1) more)))

  pub row_is : (row : Row C) (rest : List Placed) → is_row is_right row ≡ true → End rest → begins_with signs.Comma rest ≡ false
      → row_at read (spelled_row spells row rest) ≡ Some (row_of tree row, rest)
  unfolding row_at
  row_is row rest h e c =
      let p = both (is_right row.first) (list_all (λ x. is_right x.1) row.more) h in
      row_from_is (length (spelled_row spells row rest)) row.first row.more [] rest
      (omega (arith, counted spells some row.more rest, some row.first (spelled_more spells row.more rest))) p.0 p.1 e c

  pub optional_row_is : (closing : Sign) (row : Option (Row C)) (rest : List Placed) → ((c : C) (ts : List Placed) → begins_with closing (spells c ts) ≡ false)
      → is_optional_row is_right row ≡ true → begins_with closing rest ≡ true → End rest → begins_with signs.Comma rest ≡ false
      → optional_row_at closing read (spelled_optional_row spells row rest) ≡ Some (optional_row_of tree row, rest)
  unfolding optional_row_at
  optional_row_is closing None rest n h k e c = if_true (begins_with closing rest) _ _ _ k refl
  optional_row_is closing (Some row) rest n h k e c =
      if_false (begins_with closing (spelled_row spells row rest)) _ _ _ (n row.first (spelled_more spells row.more rest)) (row_is row rest h e c)
