use Rattle.std.proofs.Common.{◌≡◌, drop, flat_map}
use Rattle.vg_declare.specs.AbiRole.{registers_of}
use Rattle.vg_declare.specs.Registers.{first_register}
use Rattle.vg_processor.proofs.interface.first_register.Given as goal

abbrev pub invariant-loop-role : goal.invariant-loop-role
invariant-loop-role l = first_register (flat_map registers_of l.roles) ≡ first_register (flat_map registers_of (drop l.role-index l.roles))
