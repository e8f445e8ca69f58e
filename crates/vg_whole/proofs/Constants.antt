-- What the constants are worth is worked out one behind the other.
use Rattle.std.proofs.Common.{◌≡◌, ℕ, Bool, true, false, List, [], Option, Some, None, refl, ap, true≢false}
use Rattle.vg_ast.specs.declared.item.Item.{Item}
use Rattle.vg_ast.specs.declared.item.Item.TheVariants as items
use Rattle.vg_ast.specs.declared.desc.Desc.{Desc}
use Rattle.vg_names.specs.Duplicate.{duplicates}
use Rattle.vg_names.specs.Uses.{uses_of}
use Rattle.vg_names.specs.Cyclic.{is_replaced, IsOrder}
use Rattle.vg_names.specs.Worked.{IsStep, worked}
use Rattle.vg_names.proofs.Working.{is_worked, only_one}
use Rattle.vg_whole.specs.declared.worth.Worth.{Worth}
use Rattle.vg_whole.specs.declared.worth.Worth.TheVariants as worths
use Rattle.vg_whole.specs.Whole.{Constants, Judged, constant_whole, constant_worth}
use Rattle.vg_whole.specs.Worths.{constants_of, ConstantsAreWorked}
use Rattle.vg_whole.proofs.Agreement.{Agree, alike}

not_replaced : (c : Constants) (o : Option Item) → is_replaced o ≡ false → constant_whole c o ≡ worths.Typed
not_replaced c (Some (items.Constant at name value)) r = absurd (true≢false r)
not_replaced c _ r = refl

same_item : (a b : Constants) (item : Item) → Agree a b (uses_of item) → constant_whole a (Some item) ≡ constant_whole b (Some item)
same_item a b (items.Constant at name value) same = ap (λ (j : Judged). constant_worth j.worth) (alike a b value [] same)
same_item a b _ same = refl

pub constants_step : IsStep Worth worths.Typed constant_whole
constants_step = record { plainly = not_replaced; locally = same_item }

pub constants_are_worked : ConstantsAreWorked
constants_are_worked d order distinct is =
    let worked_out = is_worked Worth worths.Typed constant_whole constants_step d distinct order is in
    record {
      worked_out = worked_out;
      only = λ other are text. only_one Worth worths.Typed constant_whole constants_step d distinct order is other (constants_of d.items) are worked_out text;
    }
