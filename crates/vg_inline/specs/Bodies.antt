-- The bodies of functions by which what instructions do is made.
use Rattle.std.specs.Prelude.{◌≡◌, ℕ, min, true, List, map}
use Rattle.vg_ast.specs.declared.item.Item.{Item}
use Rattle.vg_whole.specs.Worths.{constants_of}
use Rattle.vg_inline.specs.declared.behaviours.Bodies.{Bodies}
use Rattle.vg_inline.specs.declared.keep.Keep.{Keep}
use Rattle.vg_inline.specs.Context.{known_as}
use Rattle.vg_inline.specs.InPlace.{behaviour_of, known_of}
use Rattle.vg_inline.specs.KeptBehaviour.{behaviour_kept}
use Rattle.vg_inline.specs.Size.{most_nodes}
use Rattle.vg_inline.specs.Types.{aliases_of}

-- trees of up to so many nodes are kept, and of no more than a behaviour may have
abbrev pub trees_up_to : ℕ → Keep
trees_up_to most = record { most = min most most_nodes; trees = true }

-- what the instructions do by these bodies is what they do
abbrev pub AreBodies : List Item → Bodies → Type 0
AreBodies all bodies =
    map (behaviour_kept bodies.keep all (known_as bodies.keep all (constants_of all) (aliases_of all (constants_of all)) bodies.trees)) all ≡ map (behaviour_of all (known_of all)) all
