-- By the cases of a step.
use Rattle.vg_ir.proofs.Keeping.{bytes_stay, objects_stay}
use Rattle.vg_ir.proofs.laws.memory_kept.Goals as goal

pub returns : goal.returns
returns c = record { bytes = bytes_stay; objects = objects_stay }
