use Rattle.std.proofs.Common.{◌≡◌, length}
use Rattle.vg_top.proofs.Driving.{IsAlong}
use Rattle.vg_top.proofs.driver.drive.Given as goal

-- the files that were asked for so far are the first of the names, none failed to load, and the answers from here on are right
abbrev pub invariant-loop-answer : goal.invariant-loop-answer
invariant-loop-answer g l =
    IsAlong g.T.Task.name g.T.Task.limit g.T.Task.more g.T.Task.behind l.fn.task l.task (g.F.Files.held l.fn.files) (g.F.Files.asked l.fn.files) (g.F.Files.asked l.files)
    × (g.F.Files.faults l.files ≡ g.F.Files.faults l.fn.files)
    × (g.F.Files.held l.files ≡ g.F.Files.held l.fn.files)

abbrev pub decreases-loop-answer : goal.decreases-loop-answer
decreases-loop-answer g l = length (g.T.Task.more l.task)
