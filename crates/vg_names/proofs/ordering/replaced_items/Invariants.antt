use Rattle.std.proofs.Common.{◌≡◌, ℕ, take}
use Rattle.std.specs.Prelude.{slice_get}
use Rattle.std.specs.List.{filter}
use Rattle.vg_names.specs.Cyclic.{is_replaced}
use Rattle.vg_names.proofs.ordering.replaced_items.Given as goal

abbrev pub invariant-loop-number : goal.invariant-loop-number
invariant-loop-number l = l.replaced ≡ filter (λ (number : ℕ). is_replaced (slice_get l.items number)) (take l.number-index l.order)
