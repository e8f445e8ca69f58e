use Rattle.std.proofs.Common.{inl}
use Rattle.vg_io.proofs.mem_files.MemFilesFiles.load.Goals as goal

-- The schedule said that this call fails.
pub returns-then-fails-clause-why : goal.returns-then-fails-clause-why
returns-then-fails-clause-why c =
    λ _. inl (rw (← c.self.view_is) (c.next_fails-fails.ensures.fails.0 c.if-fails.true))
