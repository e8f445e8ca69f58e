-- The body of a function with arguments in place of its parameters.
use Rattle.std.specs.Prelude.{ℕ, List, [], ◌∷◌, Option, Some, None, slice_get}
use Rattle.vg_inline.specs.declared.head.Head.{Head}
use Rattle.vg_inline.specs.declared.head.Head.TheVariants as heads
use Rattle.vg_inline.specs.declared.tree.Tree.{Tree, fold-Tree, roll-Tree}
use Rattle.vg_inline.specs.declared.tree.Tree.TheOpen.{Tree-F}

-- a node over its parts
abbrev pub node : Head → List Tree → Tree
node head parts = roll-Tree (record { head = head; parts = parts })

abbrev pub missing : Tree
missing = node heads.Missing []

-- an argument in place of a parameter, or a leaf of its own where it is missing
abbrev pub argument_or : Option Tree → Tree
argument_or None = missing
argument_or (Some argument) = argument

abbrev pub leaf_parameter : Head → Option ℕ
leaf_parameter (heads.Parameter parameter) = Some parameter
leaf_parameter _ = None

-- the parameter that a node is, over these parts
abbrev pub parameter_of : {X : Type 0} → Head → List X → Option ℕ
parameter_of head [] = leaf_parameter head
parameter_of head (part ∷ more) = None

abbrev pub instantiated : List Tree → Option ℕ → Head → List Tree → Tree
instantiated arguments None head parts = node head parts
instantiated arguments (Some parameter) head parts = argument_or (slice_get arguments parameter)

-- one level of a tree, with the arguments in place of the parameters
abbrev pub instantiate_step : List Tree → Tree-F Tree → Tree
instantiate_step arguments layer = instantiated arguments (parameter_of layer.head layer.parts) layer.head layer.parts

abbrev pub instantiate : List Tree → Tree → Tree
instantiate arguments t = fold-Tree Tree (instantiate_step arguments) t
