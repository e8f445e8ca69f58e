-- What contracts see of a sink in memory.
use Rattle.std.specs.Prelude.{ℕ, List, [], ◌∷◌}
use Rattle.vg_io.specs.Schedule.{Schedule, after_call}

-- what a sink in memory has: the bytes that it took, the most that it takes of a piece, and its counts
pub record MemSinkState : Type 0 where
  pub bytes : List ℕ
  pub piece : ℕ
  pub schedule : Schedule
  pub faults : ℕ
  pub nones : ℕ

-- the calls after a put of these bytes: a put of an empty piece is none
abbrev pub calls_after : Schedule → List ℕ → Schedule
calls_after schedule [] = schedule
calls_after schedule (_ ∷ _) = after_call schedule
