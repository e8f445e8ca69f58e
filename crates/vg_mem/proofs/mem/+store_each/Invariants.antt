use Rattle.vg_mem.proofs.mem.+store_each.Given as goal

abbrev pub decreases-store_each : goal.decreases-store_each
decreases-store_each l = l.bytes
