-- What the inner names at a place are worth.
use Rattle.std.specs.Prelude.{List, ◌∷◌}
use Rattle.vg_ast.specs.declared.item.Item.{Item}
use Rattle.vg_names.specs.Inner.{inner_names}
use Rattle.vg_whole.specs.declared.worth.Worth.{Worth}
use Rattle.vg_whole.specs.declared.bindings.Bindings.{Bindings, Typed, Let'}
use Rattle.vg_whole.specs.Whole.{Inner}
use Rattle.vg_whole.specs.Overflow.{typed_names}

-- the names with their worths, where the items are all items; the innermost first
abbrev pub inner_worths : List Item → Bindings → Inner Worth
inner_worths all (Typed inner) = typed_names (inner_names all inner)
inner_worths all (Let' name worth p outer) = (name.now.text, worth) ∷ inner_worths all outer
