-- How many nodes there are in a tree, and in a statement with everything in place of its names. A whole-number expression is
-- one; so is each other operator, conditional, cast, slice, `join`, read, field and use of the program counter.
use Rattle.std.specs.Prelude.{ℕ, ◌+◌, List, [], ◌∷◌, map, Option, Some, None}
use Rattle.vg_inline.specs.declared.head.Head.{Head}
use Rattle.vg_inline.specs.declared.head.Head.TheVariants as heads
use Rattle.vg_inline.specs.declared.tree.Tree.{Tree, fold-Tree}
use Rattle.vg_inline.specs.declared.tree.Tree.TheOpen.{Tree-F}
use Rattle.vg_inline.specs.declared.effect.Effect.{Effect, fold-Effect}
use Rattle.vg_inline.specs.declared.effect.Effect.TheOpen.{Effect-F}

-- the greatest number of nodes of a behaviour
abbrev pub most_nodes : ℕ
most_nodes = 4096

abbrev pub sum_of : List ℕ → ℕ
sum_of [] = 0
sum_of (n ∷ ns) = n + sum_of ns

-- what stands in place of a parameter counts for it, and a missing argument counts nothing
abbrev pub head_nodes : Head → ℕ
head_nodes (heads.Parameter parameter) = 0
head_nodes heads.Missing = 0
head_nodes _ = 1

-- one level of a tree
abbrev pub size_step : Tree-F ℕ → ℕ
size_step layer = head_nodes layer.head + sum_of layer.parts

abbrev pub size : Tree → ℕ
size t = fold-Tree ℕ size_step t

abbrev pub else_size : Option ℕ → ℕ
else_size None = 0
else_size (Some other) = other

-- One level of a statement. A target counts nothing, but its index or address does.
abbrev pub effect_size_step : Effect-F ℕ → ℕ
effect_size_step (Effect-F.Block effects) = sum_of effects
effect_size_step (Effect-F.If at condition body other) = 1 + (size condition + (body + else_size other))
effect_size_step (Effect-F.Assign target parts at value) = sum_of (map size parts) + size value

abbrev pub effect_size : Effect → ℕ
effect_size x = fold-Effect ℕ effect_size_step x
