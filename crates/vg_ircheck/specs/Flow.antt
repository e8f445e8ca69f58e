-- How control may go in a function: its blocks are counted from 0, which is the entry block, and an edge leads from each block
-- to those that its end names.
use Rattle.std.specs.Prelude.{◌≡◌, ℕ, zero, suc, Bool, true, false, ◌&&◌, ◌||◌, nat_eq, List, [], ◌∷◌, ◌++◌, length, map, Option, Some, None, option_map, slice_get, if◌then◌else◌}
use Rattle.std.specs.Option.{option_map_or}
use Rattle.std.specs.List.{list_any}
use Rattle.vg_ir.specs.declared.name.Name.{Name}
use Rattle.vg_ir.specs.declared.name.NameAt.{NameAt}
use Rattle.vg_ir.specs.declared.terminator.Terminator.{Terminator}
use Rattle.vg_ir.specs.declared.terminator.Terminator.TheVariants as terminator
use Rattle.vg_ir.specs.declared.terminator.Case.{Case}
use Rattle.vg_ir.specs.declared.block.Block.{Block}
use Rattle.vg_ir.specs.declared.function.Function.{Function}
use Rattle.vg_ir.specs.Lookup.{same_name}
use Rattle.vg_ircheck.specs.Steps.{leads}

-- ---- blocks by their numbers

-- the number of the first of some blocks that has a name
abbrev pub number_among : List Block → Name → Option ℕ
number_among [] n = None
number_among (b ∷ bs) n = if same_name b.name.name n then Some 0 else option_map suc (number_among bs n)

-- the number of the block of a name
abbrev pub block_number : Function → Name → Option ℕ
block_number f n = number_among f.blocks n

-- a name is that of the block of this number
abbrev pub names_block : Function → ℕ → Name → Bool
names_block f b n = option_map_or (nat_eq b) (block_number f n) false

-- the block of a number has a property
abbrev pub is_block_with : Function → (Block → Bool) → ℕ → Bool
is_block_with f has b = option_map_or has (slice_get f.blocks b) false

-- ---- edges

-- the blocks that the end of a block names, each as often as it stands there
abbrev pub labels_of : Terminator → List NameAt
labels_of (terminator.Jump t) = t.target ∷ []
labels_of (terminator.Branch t) = t.then ∷ t.otherwise ∷ []
labels_of (terminator.Switch t) = t.otherwise ∷ map (λ (c : Case). c.target) t.cases
labels_of (terminator.Return t) = []
labels_of (terminator.Unreachable at) = []

-- an edge leads from a block to another
abbrev pub has_edge : Function → ℕ → ℕ → Bool
has_edge f a b = is_block_with f (λ (from : Block). list_any (λ (l : NameAt). names_block f b l.name) (labels_of from.terminator)) a

-- ---- paths

-- A path of edges leads from the entry block to a block, and each block on it before that one is among some.
pub data IsReachedThrough (f : Function) (among : ℕ → Bool) : ℕ → Type 0 where
  entry : IsReachedThrough f among 0
  along : (a b : ℕ) → IsReachedThrough f among a → among a ≡ true → has_edge f a b ≡ true → IsReachedThrough f among b

-- any block
abbrev pub any_block : ℕ → Bool
any_block b = true

-- a path of edges leads from the entry block to a block
abbrev pub IsReached : Function → ℕ → Type 0
IsReached f b = IsReachedThrough f any_block b

-- ---- by a test

-- the numbers below another
abbrev pub numbers_below : ℕ → List ℕ
numbers_below zero = []
numbers_below (suc n) = numbers_below n ++ n ∷ []

-- an edge leads from a block among some to another
abbrev pub has_edge_from : Function → (ℕ → Bool) → ℕ → ℕ → Bool
has_edge_from f among a b = among a && has_edge f a b

-- a path leads from the entry block to a block, and each block on it before that one is among some
abbrev pub is_reached_through : Function → (ℕ → Bool) → ℕ → Bool
is_reached_through f among b =
    nat_eq b 0 || leads (has_edge_from f among) (numbers_below (length f.blocks)) 0 b

-- a path of edges leads from the entry block to a block
abbrev pub is_reached : Function → ℕ → Bool
is_reached f b = is_reached_through f any_block b

-- A law: the test tells a path exactly where there is one.
pub record IsTold (f : Function) (among : ℕ → Bool) (b : ℕ) : Type 0 where
  pub told : is_reached_through f among b ≡ true → IsReachedThrough f among b
  pub tells : IsReachedThrough f among b → is_reached_through f among b ≡ true
