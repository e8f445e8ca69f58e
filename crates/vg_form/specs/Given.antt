-- What functions are given: the values of a context, and the items that are left, each with what it does.
use Rattle.std.specs.Prelude.{List, [], ◌∷◌, map, Option}
use Rattle.std.specs.List.{filter}
use Rattle.vg_ast.specs.declared.desc.Desc.{Desc}
use Rattle.vg_ast.specs.declared.item.Item.{Item}
use Rattle.vg_whole.specs.declared.worth.Worth.{Worth}
use Rattle.vg_whole.specs.Whole.{Constants, whole_of}
use Rattle.vg_whole.specs.Worths.{constants_by}
use Rattle.vg_inline.specs.declared.context.Context.{Context}
use Rattle.vg_inline.specs.declared.declared.Declared.{Declared}
use Rattle.vg_inline.specs.declared.effect.Effect.{Effect}
use Rattle.vg_inline.specs.declared.keep.Keep.{Keep}
use Rattle.vg_inline.specs.declared.kept.Kept.{Kept}
use Rattle.vg_inline.specs.Context.{aliases_by, aliases_in, constants_in, items_of, known_as, known_in}
use Rattle.vg_inline.specs.KeptBehaviour.{behaviour_kept}
use Rattle.vg_inline.specs.Types.{Aliases, type_of, type_worths}
use Rattle.vg_form.specs.declared.form.Form.{Form}
use Rattle.vg_form.specs.declared.remaining.Remaining.{Remaining}
use Rattle.vg_form.specs.Description.{Found, Values, Doing, declares, form_by}

abbrev pub values_where : Constants → Aliases → Values
values_where constants aliases = record { worth = λ e. whole_of constants e []; declared = λ t. type_of aliases (type_worths (λ e. whole_of constants e []) t) }

abbrev pub values_in : Context → Values
values_in x = values_where (constants_in x) (aliases_in x)

-- what an item does, by what is kept in a context
abbrev pub effect_in : Context → Item → Option Effect
effect_in x item = behaviour_kept x.keep (items_of x) (known_in x) item

abbrev pub doing : Context → Item → Doing
doing x item = (item, effect_in x item)

abbrev pub items_in : List Remaining → List Item
items_in list = map (λ (remaining : Remaining). remaining.item.now) list

abbrev pub all_doing : Context → List Remaining → List Doing
all_doing x list = map (doing x) (items_in list)

-- the form of a description, by lists of what its items are worth, stand for and have as bodies
abbrev pub form_given : Desc → List Item → List Worth → List Declared → Keep → List (Option Kept) → Found Form
form_given d all worths aliases keep bodies =
    form_by d (values_where (constants_by all worths) (aliases_by all aliases))
    (map (λ (item : Item). (item, behaviour_kept keep all (known_as keep all (constants_by all worths) (aliases_by all aliases) bodies) item)) (filter declares d.items))
