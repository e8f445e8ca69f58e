use Rattle.vg_mem.proofs.page.Page.+write_each.Given as goal

abbrev pub decreases-write_each : goal.decreases-write_each
decreases-write_each l = l.bytes
