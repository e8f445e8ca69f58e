-- A role of the grammar, and a stage line, is read.
use Rattle.std.proofs.Common.{◌≡◌, ℕ, ◌<◌, true, List, [], ◌∷◌, length, Option, Some, None, refl, arith}
use Rattle.std.specs.List.{list_all}
use Rattle.vg_tok.specs.declared.sign.Sign.TheVariants as signs
use Rattle.vg_ast.specs.Placed.{Placed, sign}
use Rattle.vg_ast.specs.Concrete.{Expr}
use Rattle.vg_ast.specs.ConcreteItem.{Row, Register, Role, stack_pointer, return_address, return_value, arguments, temporaries, saved, code_base, data_base, stack, Act, read, write, compute, resolve, MicroItem, stage, forward}
use Rattle.vg_ast.specs.Spelling.{spelled}
use Rattle.vg_ast.specs.SpellingItem.{spelled_row, spelled_register, spelled_role, spelled_act, spelled_acts, spelled_micro_item}
use Rattle.vg_ast.specs.Grammar.{is_expression, is_row, is_register, is_role}
use Rattle.vg_ast.specs.TreeItem.{row_of, register_of, role_of, act_of, acts_of, micro_item_of}
use Rattle.vg_parse_expr.specs.Lexeme.{sign_at, word_at, name_at}
use Rattle.vg_parse_expr.specs.Exact.{ends}
use Rattle.vg_parse_expr.proofs.Tests.{both}
use Rattle.vg_parse_expr.proofs.Following.{ends_at_nothing, ends_at_sign}
use Rattle.vg_parse_expr.proofs.Primary.{longer}
use Rattle.vg_parse_item.specs.ReadingRole.{register_at, assigned_register_at, assigned_registers_at, assigned_expression_at, stack_pointer_at, ends_of_stack_at, stack_at, return_address_at, return_value_at, return_at, arguments_at, temporaries_at, saved_at, code_at, data_at, role_at, read_act_at, write_act_at, act_at, acts_at, stage_at, forward_at, micro_item_at}
use Rattle.vg_parse_item.proofs.Succeeding.{then_is, operand_of, expression_is, any_then, IsComplete, Anything, row_is}

register_is : IsComplete register_at spelled_register is_register register_of Anything
unfolding register_at name_at sign_at
register_is c rest h e = any_then _ c.index (sign signs.CloseParenthesis c.closing ∷ rest) _ h (ends_at_sign signs.CloseParenthesis c.closing rest refl) refl

register_longer : (c : Register) (ts : List Placed) → length ts < length (spelled_register c ts)
register_longer c ts = omega (arith, longer c.index (sign signs.CloseParenthesis c.closing ∷ ts))

-- Behind the words of a role.

register_behind : (equal : ℕ) (c : Register) → is_register c ≡ true → assigned_register_at (sign signs.Equal equal ∷ spelled_register c []) ≡ Some (register_of c, [])
unfolding assigned_register_at sign_at
register_behind equal c h = register_is c [] h tt

registers_behind : (equal : ℕ) (row : Row Register) → is_row is_register row ≡ true
    → assigned_registers_at (sign signs.Equal equal ∷ spelled_row spelled_register row []) ≡ Some (row_of register_of row, [])
unfolding assigned_registers_at sign_at
registers_behind equal row h = row_is register_at spelled_register is_register register_of Anything register_is (λ x y. tt) register_longer row [] h tt refl

expression_behind : (equal : ℕ) (c : Expr) (rest : List Placed) → is_expression c ≡ true → ends 0 rest ≡ true
    → assigned_expression_at (sign signs.Equal equal ∷ spelled c rest) ≡ Some (operand_of c, rest)
unfolding assigned_expression_at sign_at
expression_behind equal c rest h e = expression_is c rest h e

-- Roles.

pub role_is : (c : Role) → is_role c ≡ true → role_at (spelled_role c []) ≡ Some (role_of c, [])
unfolding role_at stack_at stack_pointer_at ends_of_stack_at return_at return_address_at return_value_at arguments_at temporaries_at saved_at code_at data_at sign_at word_at
role_is (stack_pointer at second equal reg) h = then_is (assigned_register_at (sign signs.Equal equal ∷ spelled_register reg [])) _ (register_of reg, []) _ (register_behind equal reg h) refl
role_is (return_address at second equal reg) h = then_is (assigned_register_at (sign signs.Equal equal ∷ spelled_register reg [])) _ (register_of reg, []) _ (register_behind equal reg h) refl
role_is (return_value at second equal reg) h = then_is (assigned_register_at (sign signs.Equal equal ∷ spelled_register reg [])) _ (register_of reg, []) _ (register_behind equal reg h) refl
role_is (arguments at equal row) h =
    then_is (assigned_registers_at (sign signs.Equal equal ∷ spelled_row spelled_register row [])) _ (row_of register_of row, []) _ (registers_behind equal row h) refl
role_is (temporaries at equal row) h =
    then_is (assigned_registers_at (sign signs.Equal equal ∷ spelled_row spelled_register row [])) _ (row_of register_of row, []) _ (registers_behind equal row h) refl
role_is (saved at equal row) h =
    then_is (assigned_registers_at (sign signs.Equal equal ∷ spelled_row spelled_register row [])) _ (row_of register_of row, []) _ (registers_behind equal row h) refl
role_is (code_base at equal base) h = then_is (assigned_expression_at (sign signs.Equal equal ∷ spelled base [])) _ (operand_of base, []) _ (expression_behind equal base [] h ends_at_nothing) refl
role_is (data_base at equal base) h = then_is (assigned_expression_at (sign signs.Equal equal ∷ spelled base [])) _ (operand_of base, []) _ (expression_behind equal base [] h ends_at_nothing) refl
role_is (stack at equal low dots high) h =
    let p = both (is_expression low) (is_expression high) h in
    let ts : List Placed = sign signs.DotDot dots ∷ spelled high [] in
    then_is (assigned_expression_at (sign signs.Equal equal ∷ spelled low ts)) _ (operand_of low, ts) _ (expression_behind equal low ts p.0 (ends_at_sign signs.DotDot dots (spelled high []) refl))
    (any_then _ high [] _ p.1 ends_at_nothing refl)

-- Stage lines.

act_is : IsComplete act_at spelled_act (λ c. true) act_of Anything
unfolding act_at read_act_at write_act_at name_at
act_is (read at resource) rest h e = refl
act_is (write at resource) rest h e = refl
act_is (compute at) rest h e = refl
act_is (resolve at) rest h e = refl

act_longer : (c : Act) (ts : List Placed) → length ts < length (spelled_act c ts)
act_longer (read at resource) ts = omega arith
act_longer (write at resource) ts = omega arith
act_longer (compute at) ts = omega arith
act_longer (resolve at) ts = omega arith

all_right : (xs : List (ℕ × Act)) → list_all (λ x. true) xs ≡ true
all_right [] = refl
all_right (x ∷ xs) = all_right xs

acts_are : (acts : Option (ℕ × Row Act)) → acts_at (spelled_acts acts []) ≡ Some (acts_of acts, [])
unfolding acts_at sign_at
acts_are None = refl
acts_are (Some acts) = row_is act_at spelled_act (λ c. true) act_of Anything act_is (λ x y. tt) act_longer acts.1 [] (all_right acts.1.more) tt refl

pub micro_item_is : (c : MicroItem) → micro_item_at (spelled_micro_item c []) ≡ Some (micro_item_of c, [])
unfolding micro_item_at stage_at forward_at name_at
micro_item_is (stage at n acts) = then_is (acts_at (spelled_acts acts [])) _ (acts_of acts, []) _ (acts_are acts) refl
micro_item_is (forward at n) = refl
