-- What contracts see of the files of the system.
use Rattle.std.specs.Prelude.{ℕ, List}

-- what the system's files tell: the names loaded so far, and how many loads gave no bytes
pub record RealFilesState : Type 0 where
  pub asked : List (List ℕ)
  pub faults : ℕ
