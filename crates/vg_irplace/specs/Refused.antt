-- What is refused for the processor's sake: arguments that don't fit, and behind them what is too large.
use Rattle.std.specs.Prelude.{◌≡◌, ◌⊎◌, ℕ, ◌+◌, ◌-◌, ◌^◌, Bool, true, false, ◌&&◌, nat_lt, nat_le, List, [], ◌∷◌, ◌++◌, flat_map, Option, Some, if◌then◌else◌}
use Rattle.std.specs.Option.{option_map_or}
use Rattle.vg_ir.specs.declared.spot.Spot.{Spot}
use Rattle.vg_ir.specs.declared.ty.IntegerAt.{IntegerAt}
use Rattle.vg_ir.specs.declared.global.Alignment.{Alignment}
use Rattle.vg_ir.specs.declared.global.Global.{Global}
use Rattle.vg_ir.specs.declared.instruction.Alloca.{Alloca}
use Rattle.vg_ir.specs.declared.function.Function.{Function}
use Rattle.vg_ir.specs.declared.function.Parameter.{Parameter}
use Rattle.vg_ir.specs.declared.module.Parts.{Parts}
use Rattle.vg_ir.specs.Operands.{value_width}
use Rattle.vg_ir.specs.TypeLayout.{size_of}
use Rattle.vg_ircheck.specs.Place.{unless, first_place}
use Rattle.vg_ircheck.specs.Types.{wide_places}
use Rattle.vg_ircheck.specs.Written.{module_types, module_integers}
use Rattle.vg_irplace.specs.declared.argument.Argument.{Argument}
use Rattle.vg_irplace.specs.declared.target.Target.{Target}
use Rattle.vg_irplace.specs.Frames.{allocas_of, frame_size}
use Rattle.vg_irplace.specs.Addresses.{global_end, entry_of}

-- ---- arguments

-- from -2 ^ (width - 1) to 2 ^ width - 1
abbrev pub argument_fits : ℕ → Argument → Bool
argument_fits width a = if a.negative then nat_le a.value (2 ^ (width - 1)) else nat_lt a.value (2 ^ width)

-- as many arguments as parameters, and each fits its own
abbrev pub arguments_fit : ℕ → List Parameter → List Argument → Bool
arguments_fit width [] [] = true
arguments_fit width [] (a ∷ more) = false
arguments_fit width (q ∷ qs) [] = false
arguments_fit width (q ∷ qs) (a ∷ more) =
    option_map_or (λ n. argument_fits n a) (value_width width q.ty.ty) false && arguments_fit width qs more

-- the arguments fit the function in which the run begins
abbrev pub are_arguments : Parts → Target → List ℕ → List Argument → Bool
are_arguments m t entry arguments =
    option_map_or (λ (f : Function). arguments_fit t.width f.parameters arguments) (entry_of m entry) false

-- ---- sizes

abbrev pub most_align : ℕ
most_align = 16

-- 16 MiB
abbrev pub most_bytes : ℕ
most_bytes = 16777216

-- a written alignment that is too great
abbrev pub align_places : Option Alignment → List Spot
align_places a = option_map_or (λ (n : Alignment). unless (nat_le n.bytes most_align) n.at) a []

-- globals that end above the stack's low end, or with which there are too many bytes in all, from an address and so many
-- bytes on
abbrev pub high_places : Parts → Target → ℕ → ℕ → List Global → List Spot
high_places m t at bytes [] = []
high_places m t at bytes (g ∷ gs) =
    unless (nat_le (global_end m t at g) t.low && nat_le (bytes + size_of m t.width g.ty.ty) most_bytes) g.name.at
    ++ high_places m t (global_end m t at g) (bytes + size_of m t.width g.ty.ty) gs

-- the alignments of a function's allocas that are too great
abbrev pub alloca_places : Function → List Spot
alloca_places f = flat_map (λ (i : Alloca). align_places i.align) (allocas_of f)

-- a function whose frame is too large
abbrev pub frame_places : Parts → Target → Function → List Spot
frame_places m t f = unless (nat_lt (frame_size m t f) (2 ^ t.width)) f.name.at

-- all places where something is too large, in no order
abbrev pub size_places : Parts → Target → List Spot
size_places m t =
    flat_map (wide_places t.width) (module_types m)
    ++ flat_map (λ (i : IntegerAt). unless (nat_le i.width t.width) i.at) (module_integers m)
    ++ flat_map (λ (g : Global). align_places g.align) m.globals
    ++ flat_map alloca_places m.functions
    ++ high_places m t t.data_base 0 m.globals
    ++ flat_map (frame_places m t) m.functions

-- ---- in their order

-- why a module isn't placed
pub data Refusal : Type 0 where
  Args : Refusal
  Limit : Spot → Refusal

-- a module is placed: its arguments fit, and nothing is too large
pub record IsPlaceable (m : Parts) (t : Target) (entry : List ℕ) (arguments : List Argument) : Type 0 where
  pub fit : are_arguments m t entry arguments ≡ true
  pub sizes : size_places m t ≡ []

-- a module isn't placed for this: its arguments, or where they fit the first place where something is too large
abbrev pub IsUnplaced : Parts → Target → List ℕ → List Argument → Refusal → Type 0
IsUnplaced m t entry arguments Args = are_arguments m t entry arguments ≡ false
IsUnplaced m t entry arguments (Limit at) =
    (are_arguments m t entry arguments ≡ true) × (first_place (size_places m t) ≡ Some at)

-- A law: no module is unplaced for two things, and none that may be placed is.
pub record OneRefusal (m : Parts) (t : Target) (entry : List ℕ) (arguments : List Argument) : Type 0 where
  pub one : (a b : Refusal) → IsUnplaced m t entry arguments a → IsUnplaced m t entry arguments b → a ≡ b
  pub none : (a : Refusal) → IsUnplaced m t entry arguments a → IsPlaceable m t entry arguments → ⊥
  pub some : IsPlaceable m t entry arguments ⊎ ((a : Refusal) × IsUnplaced m t entry arguments a)
