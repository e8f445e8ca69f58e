-- Which calls of the files and the sink in memory fail.
use Rattle.std.specs.Prelude.{ℕ, ◌+◌, ◌-◌, ◌^◌, min, List, Contains}

-- which calls fail, by their numbers counted from 0, and how many were made
pub record Schedule : Type 0 where
  pub failing : List ℕ
  pub made : ℕ

-- the next call is one of those that fail
abbrev pub IsFailing : Schedule → Type 0
IsFailing schedule = Contains schedule.failing schedule.made

-- after one more call; the count stands still where no 64-bit number comes any more
abbrev pub after_call : Schedule → Schedule
after_call schedule = record schedule { made = min (schedule.made + 1) (2 ^ 128 - 1) }
