-- What is true of moves some of which are done, and of the copies that were made for these.
use Rattle.std.specs.Prelude.{◌≡◌, ◌≢◌, ℕ, ◌+◌, ◌-◌, ◌*◌, ◌<◌, ◌≤◌, Bool, true, false, not, ◌&&◌, ◌⊎◌, List, map, length, count_by, slice_get, slice_index, slice_set, Option, Some, None, MatchOption, if◌then◌else◌}
use Rattle.std.specs.List.{Contains}
use Rattle.indexmap.specs.IndexMap.{IndexMap, get_by}
use Rattle.vg_goal.specs.declared.place.Place.{Place}
use Rattle.vg_goal.specs.Places.{same_place}
use Rattle.vg_copies.specs.declared.pending.Pending.{Pending}
use Rattle.vg_copies.specs.declared.schedule.Schedule.{Schedule}
use Rattle.vg_copies.specs.Copies.{Move, Cells, after}

-- a move that isn't done
abbrev pub pending_of : Move → Pending
pending_of move = record { source = move.0; destination = move.1; is_done = false }

-- the two ends of a move
abbrev pub ends_of : Pending → Move
ends_of step = (step.source, step.destination)

-- the move stands at this place of the list
abbrev pub IsAt : List Pending → ℕ → Pending → Type 0
IsAt steps number step = slice_get steps number ≡ Some step

-- the move of this number waits
abbrev pub Waits : List Pending → ℕ → Pending → Type 0
Waits steps number step = IsAt steps number step × (step.is_done ≡ false)

-- the move of this number waits, and isn't the one that is done next
abbrev pub WaitsBehind : Option ℕ → List Pending → ℕ → Pending → Type 0
WaitsBehind next steps number step = Waits steps number step × (next ≢ Some number)

-- whether a move waits and reads the place
abbrev pub reads : Place → Pending → Bool
reads place step = not step.is_done && same_place step.source place

-- whether a move is done
abbrev pub finished : Pending → Bool
finished step = step.is_done

-- whether the spare holds what the place held first
abbrev pub is_saved : Option Place → Place → Bool
is_saved None place = false
is_saved (Some saved) place = same_place saved place

-- where the first content of a place can be read
abbrev pub holder : Place → Option Place → Place → Place
holder spare saved place = if is_saved saved place then spare else place

-- the number of the move into the place, unless that is read from the spare
abbrev pub writer : {S : Type 0} → Option Place → IndexMap Place ℕ S → Place → Option ℕ
writer saved numbers place = if is_saved saved place then None else get_by (same_place place) numbers

-- the counts, with one less for this move
abbrev pub lowered : Option ℕ → List ℕ → List ℕ
lowered None readers = readers
lowered (Some k) readers = slice_set readers k (slice_index readers k - 1)

-- the counts, with one more for this move
abbrev pub raised : Option ℕ → List ℕ → List ℕ
raised None readers = readers
raised (Some k) readers = slice_set readers k (slice_index readers k + 1)

-- how many copies the opening of a ring is ahead
abbrev pub ahead_by : Option ℕ → ℕ
ahead_by (Some number) = 1
ahead_by None = 0

-- the table has the number of the move into each destination
abbrev pub IsNumbered : {S : Type 0} → IndexMap Place ℕ S → List Pending → Type 0
IsNumbered numbers steps =
    (place : Place) → MatchOption (get_by (same_place place) numbers) ((k : ℕ) (step : Pending) → IsAt steps k step → step.destination ≢ place) (λ k. (step : Pending) × IsAt steps k step × (step.destination ≡ place))

-- no two moves have one destination
abbrev pub AreSingle : List Pending → Type 0
AreSingle steps = (j k : ℕ) (a b : Pending) → IsAt steps j a → IsAt steps k b → a.destination ≡ b.destination → j ≡ k

-- there are as many moves that wait and read the destination of each move that waits as the list says
abbrev pub AreCounted : List ℕ → List Pending → Type 0
AreCounted readers steps = (k : ℕ) (step : Pending) → Waits steps k step → slice_index readers k ≡ count_by (reads step.destination) steps

-- Some of the moves are done by the copies. `saved` is the place whose first content the spare holds. Where a ring was
-- opened, `next` is the move that has to be done next.
pub record Stands (spare : Place) (next : Option ℕ) (steps : List Pending) (readers : List ℕ) (saved : Option Place) (copies : List Move) : Type 0 where
  pub lengths : length readers ≡ length steps
  pub apart : (k : ℕ) (step : Pending) → IsAt steps k step → (step.source ≢ spare) × (step.destination ≢ spare) × (step.source ≢ step.destination)
  pub single : AreSingle steps
  -- the destination of a move that is done holds what its source held, and no other place but the spare has changed
  pub done : (k : ℕ) (step : Pending) → IsAt steps k step → step.is_done ≡ true → (cells : Cells) → after copies cells step.destination ≡ cells step.source
  pub kept : (cells : Cells) (place : Place) → place ≢ spare → ((k : ℕ) (step : Pending) → IsAt steps k step → step.is_done ≡ true → step.destination ≢ place) → after copies cells place ≡ cells place
  -- what a move that waits reads stands in its source, or in the spare
  pub unread : (j k : ℕ) (a b : Pending) → Waits steps j a → IsAt steps k b → b.is_done ≡ true → a.source ≡ b.destination → saved ≡ Some a.source
  pub aside : (place : Place) → saved ≡ Some place → (cells : Cells) → after copies cells spare ≡ cells place
  pub gone : (k : ℕ) (step : Pending) → WaitsBehind next steps k step → saved ≢ Some step.destination
  pub counted : AreCounted readers steps
  pub ends : (copy : Move) → Contains copies copy → ((copy.0 ≡ spare) ⊎ Contains (map (λ step. step.source) steps) copy.0) × ((copy.1 ≡ spare) ⊎ Contains (map (λ step. step.destination) steps) copy.1)
  -- three copies for two moves, where nothing waits for the spare
  pub within : 2 * length copies ≤ 3 * count_by finished steps + 1 + ahead_by next
  pub settled : ((k : ℕ) (step : Pending) → WaitsBehind next steps k step → saved ≢ Some step.source) → 2 * length copies ≤ 3 * count_by finished steps + ahead_by next

-- the same of a schedule, whose table has the numbers of its moves
pub record IsSound (next : Option ℕ) (s : Schedule) : Type 0 where
  pub stands : Stands s.spare next s.moves.items s.readers.items s.saved s.copies.items
  pub numbered : IsNumbered s.numbers s.moves.items

-- the move of this number waits, and no move waits for its destination, unless that is read from the spare
pub record IsFree (s : Schedule) (number : ℕ) : Type 0 where
  pub step : Pending
  pub waits : Waits s.moves.items number step
  pub free : (k : ℕ) (other : Pending) → Waits s.moves.items k other → other.source ≡ step.destination → s.saved ≡ Some step.destination

-- the move of this number waits for another one
abbrev pub IsBlocked : Schedule → ℕ → Type 0
IsBlocked s number = 0 < slice_index s.readers.items number

-- Moves were done, `start` among them; the ones that wait still do, and wait for another one if they did, but `next`.
pub record Proceeds (old new : Schedule) (start : ℕ) (next : Option ℕ) : Type 0 where
  pub spare : new.spare ≡ old.spare
  pub moves : map ends_of new.moves.items ≡ map ends_of old.moves.items
  pub first : (step : Pending) → IsAt new.moves.items start step → step.is_done ≡ true
  pub waits : (k : ℕ) (step : Pending) → Waits new.moves.items k step → Waits old.moves.items k step
  pub blocked : (k : ℕ) (step : Pending) → Waits new.moves.items k step → next ≢ Some k → IsBlocked old k → IsBlocked new k
  pub fewer : count_by finished old.moves.items < count_by finished new.moves.items

-- Moves may have been done; the ones that wait still do, and wait for another one if they did.
pub record Advances (old new : Schedule) : Type 0 where
  pub spare : new.spare ≡ old.spare
  pub moves : map ends_of new.moves.items ≡ map ends_of old.moves.items
  pub waits : (k : ℕ) (step : Pending) → Waits new.moves.items k step → Waits old.moves.items k step
  pub blocked : (k : ℕ) (step : Pending) → Waits new.moves.items k step → IsBlocked old k → IsBlocked new k

-- the next move waits, if there is one
abbrev pub NextWaits : Schedule → Option ℕ → Type 0
NextWaits s next = (k : ℕ) → next ≡ Some k → (step : Pending) × Waits s.moves.items k step
