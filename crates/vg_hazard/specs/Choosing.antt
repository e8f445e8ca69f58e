-- Which value a stage takes of a location that older instructions may still write.
use Rattle.std.specs.Prelude.{◌≡◌, Bool, true, false, ◌⊎◌, ◌↔◌, List, [], ◌∷◌, reverse, All, find, Option, Some, None, IsSomeAnd, if◌then◌else◌}
use Rattle.std.specs.Option.{option_map_or}
use Rattle.vg_bits.specs.BitValue.{BitValue}
use Rattle.vg_hazard.specs.declared.writer.Writer.{Writer}
use Rattle.vg_hazard.specs.declared.choice.Choice.{Choice}
use Rattle.vg_hazard.specs.declared.choice.Choice.TheVariants.{Take, Register, Wait}

-- the writer's guard isn't known to be false
abbrev pub may_write : Writer → Bool
may_write w = option_map_or (λ (guard : Bool). guard) w.guard true

-- a value is taken where it may be forwarded, the guard is true and the value is there
abbrev pub taken : Bool → Option Bool → Option BitValue → Choice
taken true (Some true) (Some v) = Take v
taken _ _ _ = Wait

-- what a writer that may write gives
abbrev pub given_by : Bool → Writer → Choice
given_by forward w = taken forward w.guard w.value

-- of writers, oldest first, the one that decides: the youngest whose guard isn't false
abbrev pub deciding : List Writer → Option Writer
deciding writers = find may_write (reverse writers)

-- the choice by the writers of a location, oldest first
abbrev pub choice_of : Bool → List Writer → Choice
choice_of forward writers = option_map_or (given_by forward) (deciding writers) Register

-- a writer's say over the choice that the older ones make
abbrev pub choice_over : Bool → Writer → Choice → Choice
choice_over forward w older = if may_write w then given_by forward w else older

-- the choice by writers youngest first
abbrev pub choice_down : Bool → List Writer → Choice
choice_down forward [] = Register
choice_down forward (w ∷ older) = choice_over forward w (choice_down forward older)

-- When each choice comes.
pub record IsExact (forward : Bool) (writers : List Writer) (choice : Choice) : Type 0 where
  pub register : (choice ≡ Register) ↔ All (λ w. w.guard ≡ Some false) writers
  pub take : (v : BitValue) → (choice ≡ Take v) ↔ ((forward ≡ true) × IsSomeAnd (deciding writers) (λ w. (w.guard ≡ Some true) × (w.value ≡ Some v)))
  pub wait : (choice ≡ Wait) ↔ IsSomeAnd (deciding writers) (λ w. (w.guard ≡ None) ⊎ ((w.guard ≡ Some true) × ((w.value ≡ None) ⊎ (forward ≡ false))))
