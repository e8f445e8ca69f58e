-- The reader of a format, as the code takes its steps.
use Rattle.std.proofs.Common.{◌≡◌, ℕ, List, Option, Some, None, refl, ◌∙◌}
use Rattle.vg_tok.specs.declared.sign.Sign.TheVariants as signs
use Rattle.vg_ast.specs.declared.field.Field.{Field}
use Rattle.vg_ast.specs.declared.item.Item.TheVariants as items
use Rattle.vg_ast.specs.Placed.{Placed}
use Rattle.vg_parse_expr.specs.Lexeme.{◌>>=◌, sign_at, name_at}
use Rattle.vg_parse_expr.specs.Reading.{type_expr}
use Rattle.vg_parse_expr.proofs.Steps.{then_same}
use Rattle.vg_parse_item.specs.ReadingRow.{row_at}
use Rattle.vg_parse_item.specs.ReadingItem.{field_at, format_at}
use Rattle.vg_parse_item.specs.ReadingBehind.{fields_at, fields_behind}

regrouped : {A B C : Type 0} (x : Option A) (f : A → Option B) (g : B → Option C) → (x >>= λ a. f a >>= g) ≡ ((x >>= f) >>= g)
regrouped None f g = refl
regrouped (Some a) f g = refl

-- what goes on behind the fields of a format
braced : {C : Type 0} (ts : List Placed) (k : List Field × List Placed → Option C)
    → (sign_at signs.Equal ts >>= λ equal. sign_at signs.OpenBrace equal.1 >>= λ opening. row_at field_at opening.1
    >>= λ fields. sign_at signs.CloseBrace fields.1 >>= λ closing. k (fields.0, closing.1)) ≡ (fields_at ts >>= k)
unfolding fields_at
braced ts k =
    then_same (sign_at signs.Equal ts) _ _ (λ equal.
    then_same (sign_at signs.OpenBrace equal.1) _ _ (λ opening.
    then_same (row_at field_at opening.1) _ _ (λ fields. regrouped (sign_at signs.CloseBrace fields.1) (λ closing. Some (fields.0, closing.1)) k)
    ∙ regrouped (row_at field_at opening.1) (λ fields. sign_at signs.CloseBrace fields.1 >>= λ closing. Some (fields.0, closing.1)) k)
    ∙ regrouped (sign_at signs.OpenBrace equal.1) (λ opening. row_at field_at opening.1 >>= λ fields. sign_at signs.CloseBrace fields.1 >>= λ closing. Some (fields.0, closing.1)) k)
    ∙ regrouped (sign_at signs.Equal ts)
    (λ equal. sign_at signs.OpenBrace equal.1 >>= λ opening. row_at field_at opening.1 >>= λ fields. sign_at signs.CloseBrace fields.1 >>= λ closing. Some (fields.0, closing.1)) k

pub format_parts : (at : ℕ) (ts : List Placed)
    → format_at at ts
    ≡ (name_at ts >>= λ name. sign_at signs.Colon name.1 >>= λ colon. type_expr colon.1 >>= λ declared. fields_behind at name.0 declared.0.tree declared.1)
unfolding format_at fields_behind
format_parts at ts =
    then_same (name_at ts) _ _ (λ name. then_same (sign_at signs.Colon name.1) _ _ (λ colon. then_same (type_expr colon.1) _ _ (λ declared.
    braced declared.1 (λ fields. Some (items.Format at name.0 declared.0.tree fields.0, fields.1)))))

pub ruleset format_steps = (format_parts)
