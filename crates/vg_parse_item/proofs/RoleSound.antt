-- What is read as a role or a stage line is one, and the tokens in front of what follows spell it.
use Rattle.std.proofs.Common.{◌≡◌, ℕ, Bool, true, List, [], ◌∷◌, Some, None, IfSome, refl, sym, ap, subst, ◌∙◌}
use Rattle.vg_tok.specs.declared.token.Kind.{Kind}
use Rattle.vg_tok.specs.declared.token.Kind.TheVariants as kind
use Rattle.vg_tok.specs.declared.sign.Sign.TheVariants as signs
use Rattle.vg_tok.specs.declared.word.Word.{Word}
use Rattle.vg_tok.specs.declared.word.Word.TheVariants as words
use Rattle.vg_ast.specs.declared.role.Role.{Role}
use Rattle.vg_ast.specs.declared.act.Act.{Act}
use Rattle.vg_ast.specs.declared.micro_item.MicroItem.{MicroItem}
use Rattle.vg_ast.specs.Placed.{Placed, sign, word}
use Rattle.vg_ast.specs.Concrete.{Expr}
use Rattle.vg_ast.specs.ConcreteItem as concrete
use Rattle.vg_ast.specs.Spelling.{spelled}
use Rattle.vg_ast.specs.SpellingItem.{Spells, spelled_row, spelled_register, spelled_role, spelled_act, spelled_acts, spelled_micro_item}
use Rattle.vg_ast.specs.Grammar.{is_expression, is_row, is_register, is_role}
use Rattle.vg_ast.specs.Tree.{tree_of}
use Rattle.vg_ast.specs.TreeItem.{row_of, register_of, role_of, act_of, acts_of, micro_item_of}
use Rattle.vg_parse_expr.specs.declared.operand.Operand.{Operand}
use Rattle.vg_parse_expr.specs.Lexeme.{◌>>=◌, begins_with, begins_with_word, sign_at, word_at, name_at}
use Rattle.vg_parse_expr.specs.Reading.{expression}
use Rattle.vg_parse_expr.proofs.Tests.{both-from}
use Rattle.vg_parse_expr.proofs.Taking.{then_some, some_map, choose_some, sign_read, word_read, name_read}
use Rattle.vg_parse_item.specs.ReadingRow.{Reader, row_at}
use Rattle.vg_parse_item.specs.ReadingRole.{register_at, assigned_register_at, assigned_registers_at, assigned_expression_at, stack_pointer_at, ends_of_stack_at, stack_at, return_address_at, return_value_at, return_at, arguments_at, temporaries_at, saved_at, code_at, data_at, word_role_by, role_by, role_at, read_act_at, write_act_at, word_act_by, act_by, act_at, acts_at, stage_at, forward_at, word_micro_item_by, micro_item_by, micro_item_at}
use Rattle.vg_parse_item.proofs.Standing.{expression_read, Stands, IsSound, row_read}

abbrev pub StandsRole : List Placed → Role × List Placed → Type 0
StandsRole = Stands spelled_role is_role role_of

abbrev StandsAct : List Placed → Act × List Placed → Type 0
StandsAct = Stands spelled_act (λ c. true) act_of

abbrev pub StandsLine : List Placed → MicroItem × List Placed → Type 0
StandsLine = Stands spelled_micro_item (λ c. true) micro_item_of

register_read : (ts : List Placed) → IfSome (register_at ts) (Stands spelled_register is_register register_of ts)
unfolding register_at
register_read ts =
    then_some (name_at ts) _ _ _ (name_read ts) (λ file file_is.
    then_some (sign_at signs.OpenParenthesis file.1) _ _ _ (sign_read signs.OpenParenthesis file.1) (λ opening opening_is.
    then_some (expression 0 opening.1) _ _ _ (expression_read 0 opening.1 refl) (λ index index_is.
    then_some (sign_at signs.CloseParenthesis index.1) _ _ _ (sign_read signs.CloseParenthesis index.1) (λ closing closing_is.
    record { c = record { file = file.0; opening = opening.0; index = index_is.c; closing = closing.0 }; right = index_is.right; spells = let s = index_is.spells in cc; tree_is = let t = index_is.tree_is in cc }))))

-- Behind the words of a role: the place of the `=`, and what stands behind it.

record StandsAssigned {C X : Type 0} (spells_it : Spells C) (is_right : C → Bool) (tree : C → X) (ts : List Placed) (found : X × List Placed) : Type 0 where
  equal : ℕ
  c : C
  right : is_right c ≡ true
  spells : ts ≡ sign signs.Equal equal ∷ spells_it c found.1
  tree_is : found.0 ≡ tree c

assigned : {C X : Type 0} (read : Reader X) (spells : Spells C) (is_right : C → Bool) (tree : C → X) → IsSound read spells is_right tree
    → (ts : List Placed) → IfSome (sign_at signs.Equal ts >>= λ equal. read equal.1) (StandsAssigned spells is_right tree ts)
assigned read spells is_right tree sound ts =
    then_some (sign_at signs.Equal ts) _ _ _ (sign_read signs.Equal ts) (λ equal e.
    some_map (read equal.1) _ _ (λ found s. record { equal = equal.0; c = s.c; right = s.right; spells = e ∙ ap (λ (x : List Placed). sign signs.Equal equal.0 ∷ x) s.spells; tree_is = s.tree_is }) (sound equal.1))

register_behind : (ts : List Placed) → IfSome (assigned_register_at ts) (StandsAssigned spelled_register is_register register_of ts)
unfolding assigned_register_at
register_behind ts = assigned register_at spelled_register is_register register_of register_read ts

registers_behind : (ts : List Placed) → IfSome (assigned_registers_at ts) (StandsAssigned (spelled_row spelled_register) (is_row is_register) (row_of register_of) ts)
unfolding assigned_registers_at
registers_behind ts = assigned (row_at register_at) (spelled_row spelled_register) (is_row is_register) (row_of register_of) (row_read register_at spelled_register is_register register_of register_read) ts

record StandsBase (ts : List Placed) (found : Operand × List Placed) : Type 0 where
  equal : ℕ
  c : Expr
  right : is_expression c ≡ true
  spells : ts ≡ sign signs.Equal equal ∷ spelled c found.1
  tree_is : found.0.tree ≡ tree_of c

expression_behind : (ts : List Placed) → IfSome (assigned_expression_at ts) (StandsBase ts)
unfolding assigned_expression_at
expression_behind ts =
    then_some (sign_at signs.Equal ts) _ _ _ (sign_read signs.Equal ts) (λ equal e.
    some_map (expression 0 equal.1) _ _ (λ found s. record { equal = equal.0; c = s.c; right = s.right; spells = let x = s.spells in cc; tree_is = s.tree_is }) (expression_read 0 equal.1 refl))

-- Roles.

stack_pointer_read : (at : ℕ) (second : ℕ) (ts : List Placed) → IfSome (stack_pointer_at at ts) (StandsRole (word words.Stack at ∷ word words.Pointer second ∷ ts))
unfolding stack_pointer_at
stack_pointer_read at second ts =
    then_some (assigned_register_at ts) _ _ _ (register_behind ts) (λ register register_is.
    record { c = concrete.stack_pointer at second register_is.equal register_is.c; right = register_is.right; spells = let s = register_is.spells in cc; tree_is = let t = register_is.tree_is in cc })

return_address_read : (at : ℕ) (second : ℕ) (ts : List Placed) → IfSome (return_address_at at ts) (StandsRole (word words.Return at ∷ word words.Address second ∷ ts))
unfolding return_address_at
return_address_read at second ts =
    then_some (assigned_register_at ts) _ _ _ (register_behind ts) (λ register register_is.
    record { c = concrete.return_address at second register_is.equal register_is.c; right = register_is.right; spells = let s = register_is.spells in cc; tree_is = let t = register_is.tree_is in cc })

return_value_read : (at : ℕ) (second : ℕ) (ts : List Placed) → IfSome (return_value_at at ts) (StandsRole (word words.Return at ∷ word words.Value second ∷ ts))
unfolding return_value_at
return_value_read at second ts =
    then_some (assigned_register_at ts) _ _ _ (register_behind ts) (λ register register_is.
    record { c = concrete.return_value at second register_is.equal register_is.c; right = register_is.right; spells = let s = register_is.spells in cc; tree_is = let t = register_is.tree_is in cc })

arguments_read : (at : ℕ) (ts : List Placed) → IfSome (arguments_at at ts) (StandsRole (word words.Arguments at ∷ ts))
unfolding arguments_at
arguments_read at ts =
    then_some (assigned_registers_at ts) _ _ _ (registers_behind ts) (λ registers registers_is.
    record { c = concrete.arguments at registers_is.equal registers_is.c; right = registers_is.right; spells = let s = registers_is.spells in cc; tree_is = let t = registers_is.tree_is in cc })

temporaries_read : (at : ℕ) (ts : List Placed) → IfSome (temporaries_at at ts) (StandsRole (word words.Temporaries at ∷ ts))
unfolding temporaries_at
temporaries_read at ts =
    then_some (assigned_registers_at ts) _ _ _ (registers_behind ts) (λ registers registers_is.
    record { c = concrete.temporaries at registers_is.equal registers_is.c; right = registers_is.right; spells = let s = registers_is.spells in cc; tree_is = let t = registers_is.tree_is in cc })

saved_read : (at : ℕ) (ts : List Placed) → IfSome (saved_at at ts) (StandsRole (word words.Saved at ∷ ts))
unfolding saved_at
saved_read at ts =
    then_some (assigned_registers_at ts) _ _ _ (registers_behind ts) (λ registers registers_is.
    record { c = concrete.saved at registers_is.equal registers_is.c; right = registers_is.right; spells = let s = registers_is.spells in cc; tree_is = let t = registers_is.tree_is in cc })

code_read : (at : ℕ) (ts : List Placed) → IfSome (code_at at ts) (StandsRole (word words.Code at ∷ ts))
unfolding code_at
code_read at ts =
    then_some (assigned_expression_at ts) _ _ _ (expression_behind ts) (λ base base_is.
    record { c = concrete.code_base at base_is.equal base_is.c; right = base_is.right; spells = let s = base_is.spells in cc; tree_is = let t = base_is.tree_is in cc })

data_read : (at : ℕ) (ts : List Placed) → IfSome (data_at at ts) (StandsRole (word words.Data at ∷ ts))
unfolding data_at
data_read at ts =
    then_some (assigned_expression_at ts) _ _ _ (expression_behind ts) (λ base base_is.
    record { c = concrete.data_base at base_is.equal base_is.c; right = base_is.right; spells = let s = base_is.spells in cc; tree_is = let t = base_is.tree_is in cc })

ends_of_stack_read : (at : ℕ) (ts : List Placed) → IfSome (ends_of_stack_at at ts) (StandsRole (word words.Stack at ∷ ts))
unfolding ends_of_stack_at
ends_of_stack_read at ts =
    then_some (assigned_expression_at ts) _ _ _ (expression_behind ts) (λ low low_is.
    then_some (sign_at signs.DotDot low.1) _ _ _ (sign_read signs.DotDot low.1) (λ dots dots_is.
    then_some (expression 0 dots.1) _ _ _ (expression_read 0 dots.1 refl) (λ high high_is.
    record { c = concrete.stack at low_is.equal low_is.c dots.0 high_is.c; right = both-from _ _ low_is.right high_is.right; spells = let s1 = low_is.spells in let s2 = high_is.spells in cc; tree_is = let t1 = low_is.tree_is in let t2 = high_is.tree_is in cc })))

stack_read : (at : ℕ) (ts : List Placed) → IfSome (stack_at at ts) (StandsRole (word words.Stack at ∷ ts))
unfolding stack_at
stack_read at ts = choose_some (begins_with_word words.Pointer ts) _ _ _
    (λ h. then_some (word_at words.Pointer ts) _ _ _ (word_read words.Pointer ts) (λ second e.
    subst (λ (x : List Placed). IfSome (stack_pointer_at at second.1) (StandsRole (word words.Stack at ∷ x))) (sym e) (stack_pointer_read at second.0 second.1)))
    (λ h. ends_of_stack_read at ts)

return_read : (at : ℕ) (ts : List Placed) → IfSome (return_at at ts) (StandsRole (word words.Return at ∷ ts))
unfolding return_at
return_read at ts = choose_some (begins_with_word words.Address ts) _ _ _
    (λ h. then_some (word_at words.Address ts) _ _ _ (word_read words.Address ts) (λ second e.
    subst (λ (x : List Placed). IfSome (return_address_at at second.1) (StandsRole (word words.Return at ∷ x))) (sym e) (return_address_read at second.0 second.1)))
    (λ h. then_some (word_at words.Value ts) _ _ _ (word_read words.Value ts) (λ second e.
    subst (λ (x : List Placed). IfSome (return_value_at at second.1) (StandsRole (word words.Return at ∷ x))) (sym e) (return_value_read at second.0 second.1)))

word_role_read : (w : Word) (at : ℕ) (ts : List Placed) → IfSome (word_role_by w at ts) (StandsRole (word w at ∷ ts))
word_role_read words.Stack at ts = stack_read at ts
word_role_read words.Return at ts = return_read at ts
word_role_read words.Arguments at ts = arguments_read at ts
word_role_read words.Temporaries at ts = temporaries_read at ts
word_role_read words.Saved at ts = saved_read at ts
word_role_read words.Code at ts = code_read at ts
word_role_read words.Data at ts = data_read at ts
word_role_read _ at ts = tt

role_read_by : (k : Kind) (at : ℕ) (ts : List Placed) → IfSome (role_by k at ts) (StandsRole (record { kind = k; at = at } ∷ ts))
role_read_by (kind.Word w) at ts = word_role_read w at ts
role_read_by (kind.Name text) at ts = tt
role_read_by (kind.Number n) at ts = tt
role_read_by (kind.Str text) at ts = tt
role_read_by (kind.Sign s) at ts = tt

pub role_read : (ts : List Placed) → IfSome (role_at ts) (StandsRole ts)
unfolding role_at
role_read [] = tt
role_read (t ∷ ts) = role_read_by t.kind t.at ts

-- Stage lines.

read_act_read : (at : ℕ) (ts : List Placed) → IfSome (read_act_at at ts) (StandsAct (word words.Read at ∷ ts))
unfolding read_act_at
read_act_read at ts =
    then_some (name_at ts) _ _ _ (name_read ts) (λ resource resource_is.
    record { c = concrete.read at resource.0; right = refl; spells = cc; tree_is = refl })

write_act_read : (at : ℕ) (ts : List Placed) → IfSome (write_act_at at ts) (StandsAct (word words.Write at ∷ ts))
unfolding write_act_at
write_act_read at ts =
    then_some (name_at ts) _ _ _ (name_read ts) (λ resource resource_is.
    record { c = concrete.write at resource.0; right = refl; spells = cc; tree_is = refl })

word_act_read : (w : Word) (at : ℕ) (ts : List Placed) → IfSome (word_act_by w at ts) (StandsAct (word w at ∷ ts))
word_act_read words.Read at ts = read_act_read at ts
word_act_read words.Write at ts = write_act_read at ts
word_act_read words.Compute at ts = record { c = concrete.compute at; right = refl; spells = refl; tree_is = refl }
word_act_read words.Resolve at ts = record { c = concrete.resolve at; right = refl; spells = refl; tree_is = refl }
word_act_read _ at ts = tt

act_read_by : (k : Kind) (at : ℕ) (ts : List Placed) → IfSome (act_by k at ts) (StandsAct (record { kind = k; at = at } ∷ ts))
act_read_by (kind.Word w) at ts = word_act_read w at ts
act_read_by (kind.Name text) at ts = tt
act_read_by (kind.Number n) at ts = tt
act_read_by (kind.Str text) at ts = tt
act_read_by (kind.Sign s) at ts = tt

act_read : (ts : List Placed) → IfSome (act_at ts) (StandsAct ts)
unfolding act_at
act_read [] = tt
act_read (t ∷ ts) = act_read_by t.kind t.at ts

acts_read : (ts : List Placed) → IfSome (acts_at ts) (Stands spelled_acts (λ c. true) acts_of ts)
unfolding acts_at
acts_read ts = choose_some (begins_with signs.Colon ts) _ _ _
    (λ h. then_some (sign_at signs.Colon ts) _ _ _ (sign_read signs.Colon ts) (λ colon e.
    some_map (row_at act_at colon.1) _ _
    (λ found s. record { c = Some (colon.0, s.c); right = refl; spells = e ∙ ap (λ (x : List Placed). sign signs.Colon colon.0 ∷ x) s.spells; tree_is = s.tree_is })
    (row_read act_at spelled_act (λ c. true) act_of act_read colon.1)))
    (λ h. record { c = None; right = refl; spells = refl; tree_is = refl })

stage_read : (at : ℕ) (ts : List Placed) → IfSome (stage_at at ts) (StandsLine (word words.Stage at ∷ ts))
unfolding stage_at
stage_read at ts =
    then_some (name_at ts) _ _ _ (name_read ts) (λ name name_is.
    then_some (acts_at name.1) _ _ _ (acts_read name.1) (λ row row_is.
    record { c = concrete.stage at name.0 row_is.c; right = refl; spells = let s = row_is.spells in cc; tree_is = let t = row_is.tree_is in cc }))

forward_read : (at : ℕ) (ts : List Placed) → IfSome (forward_at at ts) (StandsLine (word words.Forward at ∷ ts))
unfolding forward_at
forward_read at ts =
    then_some (name_at ts) _ _ _ (name_read ts) (λ resource resource_is.
    record { c = concrete.forward at resource.0; right = refl; spells = cc; tree_is = refl })

word_micro_item_read : (w : Word) (at : ℕ) (ts : List Placed) → IfSome (word_micro_item_by w at ts) (StandsLine (word w at ∷ ts))
word_micro_item_read words.Stage at ts = stage_read at ts
word_micro_item_read words.Forward at ts = forward_read at ts
word_micro_item_read _ at ts = tt

micro_item_read_by : (k : Kind) (at : ℕ) (ts : List Placed) → IfSome (micro_item_by k at ts) (StandsLine (record { kind = k; at = at } ∷ ts))
micro_item_read_by (kind.Word w) at ts = word_micro_item_read w at ts
micro_item_read_by (kind.Name text) at ts = tt
micro_item_read_by (kind.Number n) at ts = tt
micro_item_read_by (kind.Str text) at ts = tt
micro_item_read_by (kind.Sign s) at ts = tt

pub micro_item_read : (ts : List Placed) → IfSome (micro_item_at ts) (StandsLine ts)
unfolding micro_item_at
micro_item_read [] = tt
micro_item_read (t ∷ ts) = micro_item_read_by t.kind t.at ts
