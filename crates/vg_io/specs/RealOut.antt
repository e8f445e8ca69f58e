-- What contracts see of the standard output.
use Rattle.std.specs.Prelude.{ℕ}

-- what the standard output tells: how many puts failed, and how many took nothing
pub record RealOutState : Type 0 where
  pub faults : ℕ
  pub nones : ℕ
