-- What a setting is of, and the fields of a format by its number.
use Rattle.std.proofs.Common.{◌≡◌, ℕ, List, [], Some, None, sym, ap, ◌∙◌}
use Rattle.std.specs.Prelude.{slice_get}
use Rattle.vg_ast.specs.declared.item.Item.{Item}
use Rattle.vg_names.specs.Definition.{Text, item_named}
use Rattle.vg_names.specs.Numbers.{number_named}
use Rattle.vg_names.proofs.InnerLemmas.{numbered_item, unnumbered_item}
use Rattle.vg_whole.specs.Whole.{Inner, Constants}
use Rattle.vg_whole.specs.Worths.{constants_of}
use Rattle.vg_inline.specs.declared.context.Context.{Context}
use Rattle.vg_inline.specs.Context.{aliases_in, constants_in, items_of}
use Rattle.vg_inline.specs.Types.{Aliases, aliases_of}
use Rattle.vg_type.specs.declared.sort.Sort.{Sort}
use Rattle.vg_type.specs.Item.{setting_by, setting_of}
use Rattle.vg_type.specs.Scope.{field_sorts}
use Rattle.vg_type.specs.Setting.{setting_in}

pub known_setting : (x : Context) → constants_in x ≡ constants_of (items_of x) → aliases_in x ≡ aliases_of (items_of x) (constants_of (items_of x)) → setting_in x ≡ setting_of (items_of x)
known_setting x e h =
    ap (λ (c : Constants). setting_by (items_of x) (record { constants = c; aliases = aliases_in x })) e
    ∙ ap (λ (a : Aliases). setting_by (items_of x) (record { constants = constants_of (items_of x); aliases = a })) h

pub fields_missing : (constants : Constants) (all : List Item) (text : Text) → number_named all text ≡ None → (let none : Inner Sort = [] in none) ≡ field_sorts constants (item_named all text)
fields_missing constants all text e = ap (field_sorts constants) (unnumbered_item all text (sym e))

pub fields_found : (constants : Constants) (all : List Item) (text : Text) (k : ℕ) → number_named all text ≡ Some k → field_sorts constants (slice_get all k) ≡ field_sorts constants (item_named all text)
fields_found constants all text k e = ap (field_sorts constants) (numbered_item all text k (sym e))
