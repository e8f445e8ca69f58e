-- The form by what is known of a folded description is its form.
use Rattle.std.proofs.Common.{◌≡◌, Bool, true, false, List, [], ◌∷◌, map, Option, ap, sym, ◌∙◌, refl, if◌then◌else◌}
use Rattle.std.specs.List.{filter}
use Rattle.vg_ast.specs.declared.desc.Desc.{Desc}
use Rattle.vg_ast.specs.declared.item.Item.{Item}
use Rattle.vg_whole.specs.Whole.{Constants}
use Rattle.vg_inline.specs.declared.effect.Effect.{Effect}
use Rattle.vg_inline.specs.InPlace.{Known, behaviour_of}
use Rattle.vg_inline.specs.Types.{Aliases}
use Rattle.vg_form.specs.Description.{Values, Doing, declares, values_of, form_by, form_of}
use Rattle.vg_form.specs.Given.{values_where}

abbrev pub with_effect : (Item → Option Effect) → Item → Doing
with_effect f item = (item, f item)

-- the items that are left, where there is one effect or none for each item
abbrev left_of : List Item → List (Option Effect) → List Doing
left_of [] effects = []
left_of (item ∷ items) [] = []
left_of (item ∷ items) (effect ∷ effects) = if declares item then (item, effect) ∷ left_of items effects else left_of items effects

one_more : (f : Item → Option Effect) (item : Item) (left : List Doing) (items : List Item) → left ≡ map (with_effect f) items → (t : Bool) → (if t then (item, f item) ∷ left else left) ≡ map (with_effect f) (if t then item ∷ items else items)
one_more f item left items same true = ap (λ (more : List Doing). (item, f item) ∷ more) same
one_more f item left items same false = same

-- what is left of items, where each has its effect
left_of-map : (f : Item → Option Effect) (items : List Item) → left_of items (map f items) ≡ map (with_effect f) (filter declares items)
left_of-map f [] = refl
left_of-map f (item ∷ items) = one_more f item (left_of items (map f items)) (filter declares items) (left_of-map f items) (declares item)

-- what is found by what is known of the items is the form
pub form_same : (d : Desc) (known : Known) (constants : Constants) (aliases : Aliases) (f : Item → Option Effect) → constants ≡ known.constants → aliases ≡ known.aliases → map f d.items ≡ map (behaviour_of d.items known) d.items
    → form_by d (values_where constants aliases) (map (with_effect f) (filter declares d.items)) ≡ form_of d known
form_same d known constants aliases f same also effects =
    ap (λ (values : Values). form_by d values (map (with_effect f) (filter declares d.items))) ((λ i. values_where (same i) (also i)))
    ∙ ap (form_by d (values_of known)) (sym (left_of-map f d.items) ∙ ap (left_of d.items) effects ∙ left_of-map (behaviour_of d.items known) d.items)
