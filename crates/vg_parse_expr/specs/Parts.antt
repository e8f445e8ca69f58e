-- Reading a part of an expression: by a function value, and with the sign or the word behind it.
use Rattle.std.specs.Prelude.{ℕ, List, Option, Some, Result, IfOk}
use Rattle.std.specs.Borrow.{Bor}
use Rattle.std.specs.declared.alloc.Global.{Global}
use Rattle.std.specs.declared.alloc.AllocError.{AllocError}
use Rattle.vg_tok.specs.declared.token.Token.{Token}
use Rattle.vg_tok.specs.declared.sign.Sign.{Sign}
use Rattle.vg_tok.specs.declared.word.Word.{Word}
use Rattle.vg_ast.specs.Placed.{Placed, placed}
use Rattle.vg_parse_expr.specs.declared.operand.Operand.{Operand}
use Rattle.vg_parse_expr.specs.Lexeme.{◌>>=◌, Reads, sign_at, word_at}
use Rattle.vg_parse_expr.specs.Reading.{Reader, most_depth, operand_at, rest_at, expression_within}

-- it may be called, and reads the expressions in which no more readings than the fuel stand in one another
pub record ReadsWithin (fuel : ℕ) (pre : Global → ℕ → ℕ → Bor (List Token) → Type 0)
    (post : Global → ℕ → ℕ → Bor (List Token) → Result (Option (Operand × Bor (List Token))) AllocError → Type 0) : Type 0 where
  pub callable : (alloc : Global) (least : ℕ) (tokens : Bor (List Token)) → pre alloc fuel least tokens
  pub reads : (alloc : Global) (least : ℕ) (tokens : Bor (List Token)) (r : Result (Option (Operand × Bor (List Token))) AllocError)
      → post alloc fuel least tokens r → IfOk r (λ found. Reads (λ x. (x.0, placed x.1.now)) found (expression_within fuel least (placed tokens.now)))

-- an expression of at least a level, and a sign behind it
unfoldable pub part_then_sign : Reader → ℕ → Sign → List Placed → Option (Operand × List Placed)
part_then_sign read least s ts = do
  part ← read least ts
  behind ← sign_at s part.1
  Some (part.0, behind.1)

-- an expression, and a reserved word behind it
unfoldable pub part_then_word : Reader → Word → List Placed → Option (Operand × List Placed)
part_then_word read w ts = do
  part ← read 0 ts
  behind ← word_at w part.1
  Some (part.0, behind.1)

-- an operand and what it goes on with, in an expression of at least a level
unfoldable pub operation_at : Reader → ℕ → List Placed → Option (Operand × List Placed)
operation_at read least ts = do
  left ← operand_at read ts
  rest_at most_depth read least left.0 left.1
