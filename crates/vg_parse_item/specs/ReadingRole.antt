-- Reading roles and stage lines from the front of a list of tokens.
use Rattle.std.specs.Prelude.{ℕ, List, [], ◌∷◌, Some, None, if◌then◌else◌}
use Rattle.vg_tok.specs.declared.token.Kind.{Kind}
use Rattle.vg_tok.specs.declared.token.Kind.TheVariants as kind
use Rattle.vg_tok.specs.declared.sign.Sign.TheVariants as signs
use Rattle.vg_tok.specs.declared.word.Word.{Word}
use Rattle.vg_tok.specs.declared.word.Word.TheVariants as words
use Rattle.vg_ast.specs.declared.register.Register.{Register}
use Rattle.vg_ast.specs.declared.role.Role.{Role}
use Rattle.vg_ast.specs.declared.role.Role.TheVariants as roles
use Rattle.vg_ast.specs.declared.act.Act.{Act}
use Rattle.vg_ast.specs.declared.act.Act.TheVariants as acts
use Rattle.vg_ast.specs.declared.micro_item.MicroItem.{MicroItem}
use Rattle.vg_ast.specs.declared.micro_item.MicroItem.TheVariants as micro_items
use Rattle.vg_parse_expr.specs.declared.operand.Operand.{Operand}
use Rattle.vg_parse_expr.specs.Lexeme.{◌>>=◌, begins_with, begins_with_word, sign_at, word_at, name_at}
use Rattle.vg_parse_expr.specs.Reading.{expression}
use Rattle.vg_parse_item.specs.ReadingRow.{Reader, row_at}

-- Roles.

unfoldable pub register_at : Reader Register
register_at ts = do
  file ← name_at ts
  opening ← sign_at signs.OpenParenthesis file.1
  index ← expression 0 opening.1
  closing ← sign_at signs.CloseParenthesis index.1
  Some (record { file = file.0; index = index.0.tree }, closing.1)

-- Behind the words of a role: `=`, and a register, registers or an expression.

unfoldable pub assigned_register_at : Reader Register
assigned_register_at ts = sign_at signs.Equal ts >>= λ equal. register_at equal.1

unfoldable pub assigned_registers_at : Reader (List Register)
assigned_registers_at ts = sign_at signs.Equal ts >>= λ equal. row_at register_at equal.1

unfoldable pub assigned_expression_at : Reader Operand
assigned_expression_at ts = sign_at signs.Equal ts >>= λ equal. expression 0 equal.1

-- The roles, each behind its first word.

unfoldable pub stack_pointer_at : ℕ → Reader Role
stack_pointer_at at ts = assigned_register_at ts >>= λ register. Some (roles.StackPointer at register.0, register.1)

unfoldable pub ends_of_stack_at : ℕ → Reader Role
ends_of_stack_at at ts = do
  low ← assigned_expression_at ts
  dots ← sign_at signs.DotDot low.1
  high ← expression 0 dots.1
  Some (roles.Stack at low.0.tree high.0.tree, high.1)

unfoldable pub stack_at : ℕ → Reader Role
stack_at at ts =
    if begins_with_word words.Pointer ts then (word_at words.Pointer ts >>= λ second. stack_pointer_at at second.1)
    else ends_of_stack_at at ts

unfoldable pub return_address_at : ℕ → Reader Role
return_address_at at ts = assigned_register_at ts >>= λ register. Some (roles.ReturnAddress at register.0, register.1)

unfoldable pub return_value_at : ℕ → Reader Role
return_value_at at ts = assigned_register_at ts >>= λ register. Some (roles.ReturnValue at register.0, register.1)

unfoldable pub return_at : ℕ → Reader Role
return_at at ts =
    if begins_with_word words.Address ts then (word_at words.Address ts >>= λ second. return_address_at at second.1)
    else (word_at words.Value ts >>= λ second. return_value_at at second.1)

unfoldable pub arguments_at : ℕ → Reader Role
arguments_at at ts = assigned_registers_at ts >>= λ registers. Some (roles.Arguments at registers.0, registers.1)

unfoldable pub temporaries_at : ℕ → Reader Role
temporaries_at at ts = assigned_registers_at ts >>= λ registers. Some (roles.Temporaries at registers.0, registers.1)

unfoldable pub saved_at : ℕ → Reader Role
saved_at at ts = assigned_registers_at ts >>= λ registers. Some (roles.Saved at registers.0, registers.1)

unfoldable pub code_at : ℕ → Reader Role
code_at at ts = assigned_expression_at ts >>= λ base. Some (roles.Code at base.0.tree, base.1)

unfoldable pub data_at : ℕ → Reader Role
data_at at ts = assigned_expression_at ts >>= λ base. Some (roles.Data at base.0.tree, base.1)

-- what a reserved word begins
abbrev pub word_role_by : Word → ℕ → Reader Role
word_role_by words.Stack at ts = stack_at at ts
word_role_by words.Return at ts = return_at at ts
word_role_by words.Arguments at ts = arguments_at at ts
word_role_by words.Temporaries at ts = temporaries_at at ts
word_role_by words.Saved at ts = saved_at at ts
word_role_by words.Code at ts = code_at at ts
word_role_by words.Data at ts = data_at at ts
word_role_by _ at ts = None

abbrev pub role_by : Kind → ℕ → Reader Role
role_by (kind.Word w) at ts = word_role_by w at ts
role_by _ at ts = None

unfoldable pub role_at : Reader Role
role_at [] = None
role_at (t ∷ ts) = role_by t.kind t.at ts

-- Stage lines.

unfoldable pub read_act_at : ℕ → Reader Act
read_act_at at ts = name_at ts >>= λ resource. Some (acts.Read at resource.0, resource.1)

unfoldable pub write_act_at : ℕ → Reader Act
write_act_at at ts = name_at ts >>= λ resource. Some (acts.Write at resource.0, resource.1)

abbrev pub word_act_by : Word → ℕ → Reader Act
word_act_by words.Read at ts = read_act_at at ts
word_act_by words.Write at ts = write_act_at at ts
word_act_by words.Compute at ts = Some (acts.Compute at, ts)
word_act_by words.Resolve at ts = Some (acts.Resolve at, ts)
word_act_by _ at ts = None

abbrev pub act_by : Kind → ℕ → Reader Act
act_by (kind.Word w) at ts = word_act_by w at ts
act_by _ at ts = None

unfoldable pub act_at : Reader Act
act_at [] = None
act_at (t ∷ ts) = act_by t.kind t.at ts

-- what a stage does, behind its name
unfoldable pub acts_at : Reader (List Act)
acts_at ts =
    if begins_with signs.Colon ts then (sign_at signs.Colon ts >>= λ colon. row_at act_at colon.1)
    else Some ([], ts)

unfoldable pub stage_at : ℕ → Reader MicroItem
stage_at at ts = do
  name ← name_at ts
  row ← acts_at name.1
  Some (micro_items.Stage at name.0 row.0, row.1)

unfoldable pub forward_at : ℕ → Reader MicroItem
forward_at at ts = name_at ts >>= λ resource. Some (micro_items.Forward at resource.0, resource.1)

abbrev pub word_micro_item_by : Word → ℕ → Reader MicroItem
word_micro_item_by words.Stage at ts = stage_at at ts
word_micro_item_by words.Forward at ts = forward_at at ts
word_micro_item_by _ at ts = None

abbrev pub micro_item_by : Kind → ℕ → Reader MicroItem
micro_item_by (kind.Word w) at ts = word_micro_item_by w at ts
micro_item_by _ at ts = None

unfoldable pub micro_item_at : Reader MicroItem
micro_item_at [] = None
micro_item_at (t ∷ ts) = micro_item_by t.kind t.at ts
