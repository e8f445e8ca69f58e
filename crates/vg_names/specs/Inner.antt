-- The inner names at a place.
use Rattle.std.specs.Prelude.{List, [], ◌∷◌, slice_get}
use Rattle.vg_ast.specs.declared.item.Item.{Item}
use Rattle.vg_names.specs.Definition.{Text, fields_of_format}
use Rattle.vg_names.specs.Table.{parameters_of}
use Rattle.vg_names.specs.declared.inner.Inner.{Inner, Nothing, Fields, Parameters, Let'}

-- the names, where the items are all items; the innermost first
abbrev pub inner_names : List Item → Inner → List Text
inner_names all Nothing = []
inner_names all (Fields item) = fields_of_format (slice_get all item)
inner_names all (Parameters item) = parameters_of (slice_get all item)
inner_names all (Let' name p outer) = name.now.text ∷ inner_names all outer
