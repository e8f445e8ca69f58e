-- What the code is given: a context of the items, and the inner names at a place.
use Rattle.std.specs.Prelude.{[], ◌∷◌, slice_get}
use Rattle.vg_whole.specs.Whole.{Inner}
use Rattle.vg_inline.specs.declared.context.Context.{Context}
use Rattle.vg_inline.specs.Context.{constants_in, aliases_in, items_of}
use Rattle.vg_type.specs.declared.sort.Sort.{Sort}
use Rattle.vg_type.specs.declared.names.Names.{Names, Nothing, Fields, Parameters, Let'}
use Rattle.vg_type.specs.Expression.{Scope}
use Rattle.vg_type.specs.Scope.{Globals, scope_of, parameter_sorts, field_sorts}
use Rattle.vg_type.specs.Item.{Setting, setting_by}

abbrev pub globals_in : Context → Globals
globals_in x = record { constants = constants_in x; aliases = aliases_in x }

abbrev pub scope_in : Context → Scope
scope_in x = scope_of (items_of x) (globals_in x)

-- the items of a context, and what is known of their names
abbrev pub setting_in : Context → Setting
setting_in x = setting_by (items_of x) (globals_in x)

-- what the inner names are
abbrev pub sorts_of : Context → Names → Inner Sort
sorts_of x Nothing = []
sorts_of x (Fields format) = field_sorts (constants_in x) (slice_get (items_of x) format)
sorts_of x (Parameters parameters) = parameter_sorts (globals_in x) parameters.now
sorts_of x (Let' name sort p outer) = (name.now.text, sort) ∷ sorts_of x outer
