-- The tests of the declarations.
use Rattle.std.specs.Prelude.{Bool}
use Rattle.vg_ast.specs.declared.item.Item.{Item}
use Rattle.vg_form.specs.declared.declaration.Declaration.{Declaration}
use Rattle.vg_form.specs.declared.declaration.Declaration.TheVariants.{Counter, Memory, File, Format}
use Rattle.vg_form.specs.Description.{Values, is_counter, is_memory, is_file, is_format}

abbrev pub is_declared : Values → Declaration → Item → Bool
is_declared values Counter item = is_counter values item
is_declared values Memory item = is_memory values item
is_declared values File item = is_file values item
is_declared values Format item = is_format values item
