-- What is found of the index of a node and of what is written.
use Rattle.std.specs.Prelude.{ℕ, Bool, false, Option, Some, None}
use Rattle.vg_inline.specs.declared.head.Head.{Head}
use Rattle.vg_inline.specs.declared.head.Head.TheVariants as heads
use Rattle.vg_inline.specs.declared.effect.Target.{Target}
use Rattle.vg_inline.specs.declared.effect.Target.TheVariants as targets

-- the place of a node's own index, where the test of its parts fails
abbrev pub own_index : Head → Bool → Option ℕ
own_index (heads.Indexed k at index_at) false = Some index_at
own_index _ _ = None

-- the place of the index of what is written, where the test of it fails
abbrev pub target_index : Target → Bool → Option ℕ
target_index (targets.Indexed k at index_at) false = Some index_at
target_index _ _ = None
