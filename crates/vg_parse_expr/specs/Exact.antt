-- What readers are held to: they read exactly the trees of the grammar.
use Rattle.std.specs.Prelude.{◌≡◌, ℕ, Bool, false, not, ◌&&◌, nat_le, nat_lt, ◌||◌, IsTrue, List, [], ◌∷◌, Option, Some, None, IfSome}
use Rattle.vg_tok.specs.declared.sign.Sign.TheVariants as signs
use Rattle.vg_ast.specs.Placed.{Placed}
use Rattle.vg_ast.specs.Concrete as concrete
use Rattle.vg_ast.specs.Spelling.{spelled, spelled_type}
use Rattle.vg_ast.specs.Grouping.{level, is_grouped, is_grouped_type}
use Rattle.vg_ast.specs.Depth.{depth, depth_type}
use Rattle.vg_ast.specs.Operator.{unary_level}
use Rattle.vg_ast.specs.Tree.{tree_of, type_of}
use Rattle.vg_parse_expr.specs.Lexeme.{begins_with, is_sign_kind}
use Rattle.vg_parse_expr.specs.Lookahead.{is_access}
use Rattle.vg_parse_expr.specs.Reading.{most_depth, kind_infix, infix_level, expression, type_expr}
use Rattle.vg_parse_expr.specs.declared.infix.Infix.{Infix}

-- a concrete tree of the grammar of at least this level
abbrev pub is_expression : ℕ → concrete.Expr → Bool
is_expression least e = is_grouped e && nat_le least (level e) && nat_le (depth e) most_depth

abbrev pub is_type : concrete.TypeTree → Bool
is_type t = is_grouped_type t && nat_le (depth_type t) most_depth

-- whether an operator, cast or slice of at least this level is next
abbrev pub is_next : ℕ → Option Infix → Bool
is_next least None = false
is_next least (Some next) = nat_le least (infix_level next)

abbrev pub continues : ℕ → List Placed → Bool
continues least [] = false
continues least (t ∷ ts) = is_next least (kind_infix t.kind)

-- whether a name before these tokens would begin an access to memory
abbrev pub goes_on_as_access : List Placed → Bool
goes_on_as_access [] = false
goes_on_as_access (t ∷ ts) = is_sign_kind signs.Less t.kind && is_access ts

-- An expression of at least this level ends where these tokens begin: nothing that goes on with it is next, nor a `(`;
-- a name at its end doesn't begin an access; and a comparison at its end doesn't become one.
abbrev pub ends : ℕ → List Placed → Bool
ends least ts = not (continues least ts) && not (begins_with signs.OpenParenthesis ts) && not (goes_on_as_access ts) && (nat_lt 5 least || not (is_access ts))

-- What is read is a tree of the grammar, and the tokens in front of what follows spell it. No place of the grammar
-- asks for more than the level of an operator before an operand.
abbrev pub ExpressionIsSound : Type 0
ExpressionIsSound = (least : ℕ) (ts : List Placed) → IsTrue (nat_le least unary_level) → IfSome (expression least ts) (λ found.
    (c : concrete.Expr) × IsTrue (is_expression least c) × (ts ≡ spelled c found.1)
    × (found.0.tree ≡ tree_of c) × (found.0.level ≡ level c) × (found.0.depth ≡ depth c))

-- a tree of the grammar is read, where it ends
abbrev pub ExpressionIsComplete : Type 0
ExpressionIsComplete = (least : ℕ) (c : concrete.Expr) (rest : List Placed) → IsTrue (is_expression least c) → IsTrue (ends least rest)
    → expression least (spelled c rest) ≡ Some (record { tree = tree_of c; level = level c; depth = depth c }, rest)

abbrev pub TypeIsSound : Type 0
TypeIsSound = (ts : List Placed) → IfSome (type_expr ts) (λ found.
    (c : concrete.TypeTree) × IsTrue (is_type c) × (ts ≡ spelled_type c found.1) × (found.0.tree ≡ type_of c) × (found.0.depth ≡ depth_type c))

abbrev pub TypeIsComplete : Type 0
TypeIsComplete = (c : concrete.TypeTree) (rest : List Placed) → IsTrue (is_type c)
    → type_expr (spelled_type c rest) ≡ Some (record { tree = type_of c; depth = depth_type c }, rest)
