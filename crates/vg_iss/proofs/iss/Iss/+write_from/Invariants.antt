use Rattle.std.proofs.Common.{◌-◌, length}
use Rattle.vg_iss.proofs.iss.Iss.+write_from.Given as goal

abbrev pub decreases-write_from : goal.decreases-write_from
decreases-write_from l = length l.writes.now - l.k
