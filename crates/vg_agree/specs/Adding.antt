-- A small pair, on which the law is tried: a program that adds up numbers, and a machine that fetches before it adds.
use Rattle.std.specs.Prelude.{◌≡◌, ℕ, zero, suc, ◌+◌, nat_le, List, [], ◌∷◌, if◌then◌else◌}
use Rattle.vg_agree.specs.Meaning.{Outcome, Next, End, StackFull, Undefined}
use Rattle.vg_agree.specs.Machine.{Ended, Full, Failed, Move, Moved, Halted}
use Rattle.vg_agree.specs.Diagram.{Diagram}

-- the numbers that are left, and the sum so far
pub record Sum : Type 0 where
  pub left : List ℕ
  pub total : ℕ

-- adding a 0 has no meaning
pub data ZeroAdded : Type 0 where
  zero_added : ZeroAdded

-- the step that adds the first number left; a total has room up to 255
abbrev pub sum_step : List ℕ → ℕ → Outcome Sum ℕ ZeroAdded
sum_step [] total = End total
sum_step (zero ∷ left) total = Undefined zero_added
sum_step (suc n ∷ left) total =
    if nat_le (total + suc n) 255 then Next (record { left = left; total = total + suc n }) else StackFull

-- where the machine stands: before its start, before it fetches a number, and with a number fetched
pub data Place : Type 0 where
  Off : List ℕ → Place
  Fetch : List ℕ → ℕ → Place
  Add : List ℕ → ℕ → Place

-- a move of the machine, whose total has room up to a limit
abbrev pub add_move : ℕ → Place → Move Place ZeroAdded
add_move limit (Off left) = Moved (Fetch left 0)
add_move limit (Fetch left total) = Moved (Add left total)
add_move limit (Add [] total) = Halted Ended
add_move limit (Add (zero ∷ left) total) = Halted (Failed zero_added)
add_move limit (Add (suc n ∷ left) total) =
    if nat_le (total + suc n) limit then Moved (Fetch left (total + suc n)) else Halted Full

-- the total at a place
abbrev pub total_at : Place → ℕ
total_at (Off left) = 0
total_at (Fetch left total) = total
total_at (Add left total) = total

-- the diagram of numbers to be added, with a machine of a limit and the costs that are claimed of it
abbrev pub adding : (limit start_cost step_cost : ℕ) → List ℕ → Diagram
adding limit start_cost step_cost xs = record {
  State = Sum;
  Result = ℕ;
  Cause = ZeroAdded;
  step = λ s. sum_step s.left s.total;
  start = Next (record { left = xs; total = 0 });
  Place = Place;
  Fault = ZeroAdded;
  move = add_move limit;
  first = Off xs;
  Related = λ s m. m ≡ Fetch s.left s.total;
  Shows = λ r m. total_at m ≡ r;
  start_cost = start_cost;
  step_cost = step_cost;
}
