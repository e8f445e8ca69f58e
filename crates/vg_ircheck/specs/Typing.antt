-- Where a module breaks the rule of types: an operand, a result, an initialiser or a call hasn't the type that its instruction
-- needs, or a name has no definition or two.
use Rattle.std.specs.Prelude.{List, ◌++◌, flat_map}
use Rattle.vg_ir.specs.declared.spot.Spot.{Spot}
use Rattle.vg_ir.specs.declared.module.Parts.{Parts}
use Rattle.vg_ircheck.specs.Types.{unknown_places}
use Rattle.vg_ircheck.specs.Names.{twice_places}
use Rattle.vg_ircheck.specs.Written.{module_types}
use Rattle.vg_ircheck.specs.Holding.{holding_places}
use Rattle.vg_ircheck.specs.InitialTyping.{global_places}
use Rattle.vg_ircheck.specs.InstructionTyping.{function_places}

-- all places where it does, in no order
abbrev pub typing_places : Parts → List Spot
typing_places m =
    twice_places m
    ++ holding_places m
    ++ flat_map (unknown_places m) (module_types m)
    ++ flat_map (global_places m) m.globals
    ++ flat_map (function_places m) m.functions
