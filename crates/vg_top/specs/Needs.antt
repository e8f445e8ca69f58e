-- What a command needs of a description, beyond what each description has.
use Rattle.std.specs.Prelude.{false}
use Rattle.vg_top.specs.declared.needs.Needs.{Needs}

abbrev pub nothing_more : Needs
nothing_more = record { abi = false; micro = false }
