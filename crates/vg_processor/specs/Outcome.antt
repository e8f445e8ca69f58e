-- What an instruction does, gathered resource by resource.
use Rattle.std.specs.Prelude.{ℕ, nat_eq, nat_le, List, [], ◌∷◌, ◌++◌, Option, Some, None, slice_get, if◌then◌else◌}
use Rattle.std.specs.List.{list_any}
use Rattle.std.specs.Option.{option_map, option_or, option_to_list}
use Rattle.vg_inline.specs.declared.effect.Effect.{Effect}
use Rattle.vg_type.specs.Item.{Setting}
use Rattle.vg_tree.specs.Resource.{is_counter}
use Rattle.vg_tree.specs.declared.reading.Reading.{Reading}
use Rattle.vg_tree.specs.Made.{Frame}
use Rattle.vg_tree.specs.declared.written.Written.{Written}
use Rattle.vg_tree.specs.Written.{written}
use Rattle.vg_processor.specs.IsaOf.{first_reading, write_by}
use Rattle.vg_processor.specs.declared.outcome.Outcome.{Outcome}
use Rattle.vg_processor.specs.declared.read_place.ReadPlace.{ReadPlace}

-- ---- the items that are written

-- a number behind others, unless it is among them
abbrev pub with_number : List ℕ → ℕ → List ℕ
with_number numbers k = if list_any (nat_eq k) numbers then numbers else numbers ++ k ∷ []

abbrev pub with_numbers : List ℕ → List ℕ → List ℕ
with_numbers numbers [] = numbers
with_numbers numbers (k ∷ more) = with_numbers (with_number numbers k) more

-- ---- the first memory read

abbrev pub place_of : Reading → ReadPlace
place_of r = record { at = r.at; address_at = r.address_at }

-- of two memory reads the first in the text
abbrev pub nearer : Option ReadPlace → Option ReadPlace → Option ReadPlace
nearer None other = other
nearer (Some a) None = Some a
nearer (Some a) (Some b) = if nat_le a.at b.at then Some a else Some b

abbrev pub first_place : List Reading → Option ReadPlace
first_place readings = option_map place_of (first_reading readings)

abbrev pub written_place : Option Written → Option ReadPlace
written_place None = None
written_place (Some w) = first_place w.readings

-- ---- what is done to one resource after another

abbrev pub nothing_done : Outcome
nothing_done = record { writes = []; counter = None; next = None; read = None }

abbrev pub next_or : Option ℕ → Option Written → Option Written → Option Written
next_or None next w = w
next_or (Some k) next w = next

-- what is written to a program counter; the first one counts
abbrev pub with_next : Outcome → ℕ → Option Written → Outcome
with_next o k w =
    record { writes = o.writes; counter = option_or o.counter (Some k); next = next_or o.counter o.next w; read = nearer o.read (written_place w) }

-- what is written to memory or a register
abbrev pub with_write : Setting → Outcome → ℕ → Option Written → Outcome
with_write setting o k w =
    record { writes = o.writes ++ option_to_list (option_map (write_by setting k) w); counter = o.counter; next = o.next; read = nearer o.read (written_place w) }

abbrev pub with_item : Setting → Outcome → ℕ → Option Written → Outcome
with_item setting o k w = if is_counter (slice_get setting.all k) then with_next o k w else with_write setting o k w

-- what a behaviour does to these items in turn
abbrev pub with_items : Frame → Effect → Outcome → List ℕ → Outcome
with_items frame x o [] = o
with_items frame x o (k ∷ more) = with_items frame x (with_item frame.setting o k (written frame k x)) more
