-- What a call changes of the files and the output that it is given.
use Rattle.std.specs.Prelude.{ℕ, List, Option}
use Rattle.vg_top.specs.Answers.{Held}

-- what files tell: their bytes by name, where they tell them; the names asked for so far; how many loads failed
pub record FilesTold : Type 0 where
  pub held : Option Held
  pub asked : List (List ℕ)
  pub faults : ℕ

-- what an output tells: the bytes written so far, where it tells them; how many puts failed, and how many took nothing
pub record OutputTold : Type 0 where
  pub written : Option (List ℕ)
  pub faults : ℕ
  pub nones : ℕ

-- what they tell before a call, and behind it
pub record Change : Type 0 where
  pub files : FilesTold
  pub files_after : FilesTold
  pub output : OutputTold
  pub output_after : OutputTold
