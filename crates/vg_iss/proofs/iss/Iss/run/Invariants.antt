use Rattle.std.proofs.Common.{◌-◌, ◌≤◌}
use Rattle.vg_image.proofs.Runs.{Behind}
use Rattle.vg_iss.specs.Simulator.{description_of, image_of, state_of, RunsSame}
use Rattle.vg_iss.proofs.iss.Iss.run.Given as goal

-- the steps so far lead here
abbrev pub invariant-loop-done : goal.invariant-loop-done
invariant-loop-done l =
    Behind (description_of l.initial.self) (image_of l.initial.self) (state_of l.initial.self) l.done (state_of l.self) l.done
    × RunsSame l.initial.self l.self × (l.done ≤ l.n)

abbrev pub decreases-loop-done : goal.decreases-loop-done
decreases-loop-done l = l.n - l.done
