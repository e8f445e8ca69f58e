-- What is kept of trees and statements that don't have too many nodes; of all others nothing is kept. Either the trees
-- themselves are kept, or only how many nodes they have and which parameters.
use Rattle.std.specs.Prelude.{ℕ, ◌+◌, suc, nat_le, false, List, [], ◌∷◌, ◌++◌, Option, Some, None, slice_get, if◌then◌else◌}
use Rattle.std.specs.Option.{option_to_list}
use Rattle.vg_inline.specs.declared.head.Head.{Head}
use Rattle.vg_inline.specs.declared.head.Head.TheVariants as heads
use Rattle.vg_inline.specs.declared.tree.Tree.{Tree, fold-Tree}
use Rattle.vg_inline.specs.declared.tree.Tree.TheOpen.{Tree-F}
use Rattle.vg_inline.specs.declared.effect.Target.{Target}
use Rattle.vg_inline.specs.declared.effect.Effect.{Effect}
use Rattle.vg_inline.specs.declared.effect.Effect.TheVariants as effects
use Rattle.vg_inline.specs.declared.keep.Keep.{Keep}
use Rattle.vg_inline.specs.declared.kept.Kept.{Kept}
use Rattle.vg_inline.specs.declared.kept.KeptList.{KeptList}
use Rattle.vg_inline.specs.declared.kept.KeptEffect.{KeptEffect}
use Rattle.vg_inline.specs.declared.kept.KeptEffects.{KeptEffects}
use Rattle.vg_inline.specs.Size.{most_nodes, head_nodes, size, effect_size}
use Rattle.vg_inline.specs.Instantiate.{node, missing, parameter_of}
use Rattle.vg_inline.specs.Inline.{Making}
use Rattle.vg_inline.specs.Behaviour.{Stating}

-- only the numbers of nodes, up to the greatest that a behaviour may have
abbrev pub counts : Keep
counts = record { most = most_nodes; trees = false }

-- ---- trees

-- lists one behind the other
abbrev pub joined_lists : List (List ℕ) → List ℕ
joined_lists [] = []
joined_lists (list ∷ more) = list ++ joined_lists more

-- one level of a tree
abbrev pub parameters_step : Tree-F (List ℕ) → List ℕ
parameters_step layer = joined_lists layer.parts ++ option_to_list (parameter_of layer.head layer.parts)

-- the parameters in a tree, each as often as it stands there
abbrev pub parameters : Tree → List ℕ
parameters t = fold-Tree (List ℕ) parameters_step t

-- the tree itself, where trees are kept, and a leaf for all others
abbrev pub shown : Keep → Tree → Tree
shown keep t = if keep.trees then t else missing

-- a tree of so many nodes and these parameters, unless the nodes are too many
abbrev pub kept : Keep → ℕ → List ℕ → Tree → Option Kept
kept keep nodes parameters t = if nat_le nodes keep.most then Some (record { tree = shown keep t; nodes = nodes; parameters = parameters }) else None

-- what is kept of a tree
abbrev pub within : Keep → Tree → Option Kept
within keep t = kept keep (size t) (parameters t) t

abbrev pub no_trees : Option KeptList
no_trees = Some (record { trees = []; nodes = 0; parameters = [] })

-- a tree behind others, of which no more is kept if they are too many
abbrev pub added : Keep → Option KeptList → Option Kept → Option KeptList
added keep None t = None
added keep (Some list) None = None
added keep (Some list) (Some t) =
    if nat_le (list.nodes + t.nodes) keep.most then Some (record { trees = list.trees ++ t.tree ∷ []; nodes = list.nodes + t.nodes; parameters = list.parameters ++ t.parameters }) else None

-- all these trees behind others
abbrev pub gathered : Keep → Option KeptList → List (Option Kept) → Option KeptList
gathered keep list [] = list
gathered keep list (t ∷ ts) = gathered keep (added keep list t) ts

abbrev pub node_over : Keep → Head → Option KeptList → Option Kept
node_over keep head None = None
node_over keep head (Some list) = kept keep (head_nodes head + list.nodes) (list.parameters ++ option_to_list (parameter_of head list.trees)) (node head list.trees)

abbrev pub kept_node : Keep → Head → List (Option Kept) → Option Kept
kept_node keep head parts = node_over keep head (gathered keep no_trees parts)

-- ---- bodies with arguments in them

abbrev pub kept_missing : Keep → Option Kept
kept_missing keep = kept_node keep heads.Missing []

abbrev pub kept_argument : Keep → Option (Option Kept) → Option Kept
kept_argument keep None = kept_missing keep
kept_argument keep (Some t) = t

abbrev pub filled : Keep → List (Option Kept) → Option ℕ → Head → List (Option Kept) → Option Kept
filled keep arguments None head parts = kept_node keep head parts
filled keep arguments (Some parameter) head parts = kept_argument keep (slice_get arguments parameter)

abbrev pub filling_step : Keep → List (Option Kept) → Tree-F (Option Kept) → Option Kept
filling_step keep arguments layer = filled keep arguments (parameter_of layer.head layer.parts) layer.head layer.parts

abbrev pub filling : Keep → List (Option Kept) → Tree → Option Kept
filling keep arguments t = fold-Tree (Option Kept) (filling_step keep arguments) t

-- more than may be, where nothing is kept
abbrev pub kept_nodes : Keep → Option Kept → ℕ
kept_nodes keep None = suc keep.most
kept_nodes keep (Some t) = t.nodes

abbrev pub kept_parameters : Option Kept → List ℕ
kept_parameters None = []
kept_parameters (Some t) = t.parameters

-- an argument that is missing counts nothing
abbrev pub argument_nodes : Keep → Option (Option Kept) → ℕ
argument_nodes keep None = 0
argument_nodes keep (Some t) = kept_nodes keep t

abbrev pub argument_parameters : Option (Option Kept) → List ℕ
argument_parameters None = []
argument_parameters (Some t) = kept_parameters t

-- the nodes of the arguments in place of these parameters
abbrev pub nodes_of : Keep → List (Option Kept) → List ℕ → ℕ
nodes_of keep arguments [] = 0
nodes_of keep arguments (parameter ∷ more) = argument_nodes keep (slice_get arguments parameter) + nodes_of keep arguments more

-- the parameters in them
abbrev pub parameters_in : List (Option Kept) → List ℕ → List ℕ
parameters_in arguments [] = []
parameters_in arguments (parameter ∷ more) = argument_parameters (slice_get arguments parameter) ++ parameters_in arguments more

-- a body with arguments in it, of so many nodes
abbrev pub kept_body : Keep → List (Option Kept) → Kept → ℕ → Option Kept
kept_body keep arguments body nodes =
    if keep.trees then filling keep arguments body.tree else Some (record { tree = missing; nodes = nodes; parameters = parameters_in arguments body.parameters })

-- the nodes are counted before anything is made
abbrev pub kept_call : Keep → List (Option Kept) → Option Kept → Option Kept
kept_call keep arguments None = None
kept_call keep arguments (Some body) =
    if nat_le (body.nodes + nodes_of keep arguments body.parameters) keep.most then kept_body keep arguments body (body.nodes + nodes_of keep arguments body.parameters) else None

-- trees as they are kept
abbrev pub keeping_as : Keep → Making (Option Kept)
keeping_as keep = record { node = kept_node keep; instantiate = kept_call keep }

-- how many nodes trees have
abbrev pub keeping : Making (Option Kept)
keeping = keeping_as counts

-- ---- statements

abbrev pub nothing_done : Effect
nothing_done = effects.Block []

abbrev pub shown_effect : Keep → Effect → Effect
shown_effect keep x = if keep.trees then x else nothing_done

abbrev pub kept_effect : Keep → ℕ → Effect → Option KeptEffect
kept_effect keep nodes x = if nat_le nodes keep.most then Some (record { effect = shown_effect keep x; nodes = nodes }) else None

-- what is kept of a statement
abbrev pub effect_within : Keep → Effect → Option KeptEffect
effect_within keep x = kept_effect keep (effect_size x) x

abbrev pub no_effects : Option KeptEffects
no_effects = Some (record { effects = []; nodes = 0 })

abbrev pub added_effect : Keep → Option KeptEffects → Option KeptEffect → Option KeptEffects
added_effect keep None x = None
added_effect keep (Some list) None = None
added_effect keep (Some list) (Some x) = if nat_le (list.nodes + x.nodes) keep.most then Some (record { effects = list.effects ++ x.effect ∷ []; nodes = list.nodes + x.nodes }) else None

abbrev pub gathered_effects : Keep → Option KeptEffects → List (Option KeptEffect) → Option KeptEffects
gathered_effects keep list [] = list
gathered_effects keep list (x ∷ xs) = gathered_effects keep (added_effect keep list x) xs

abbrev pub block_over : Keep → Option KeptEffects → Option KeptEffect
block_over keep None = None
block_over keep (Some list) = kept_effect keep list.nodes (effects.Block list.effects)

abbrev pub kept_block : Keep → List (Option KeptEffect) → Option KeptEffect
kept_block keep body = block_over keep (gathered_effects keep no_effects body)

abbrev pub kept_if : Keep → ℕ → Option Kept → Option KeptEffect → Option KeptEffect
kept_if keep at None body = None
kept_if keep at (Some condition) None = None
kept_if keep at (Some condition) (Some body) = kept_effect keep (1 + (condition.nodes + body.nodes)) (effects.If at condition.tree body.effect None)

abbrev pub kept_if_else : Keep → ℕ → Option Kept → Option KeptEffect → Option KeptEffect → Option KeptEffect
kept_if_else keep at None body other = None
kept_if_else keep at (Some condition) None other = None
kept_if_else keep at (Some condition) (Some body) None = None
kept_if_else keep at (Some condition) (Some body) (Some other) =
    kept_effect keep (1 + (condition.nodes + (body.nodes + other.nodes))) (effects.If at condition.tree body.effect (Some other.effect))

abbrev pub kept_choice : Keep → ℕ → Option Kept → Option KeptEffect → Option (Option KeptEffect) → Option KeptEffect
kept_choice keep at condition body None = kept_if keep at condition body
kept_choice keep at condition body (Some other) = kept_if_else keep at condition body other

abbrev pub assign_over : Keep → Target → Option KeptList → ℕ → Option Kept → Option KeptEffect
assign_over keep target None at value = None
assign_over keep target (Some parts) at None = None
assign_over keep target (Some parts) at (Some value) = kept_effect keep (parts.nodes + value.nodes) (effects.Assign target parts.trees at value.tree)

abbrev pub kept_assign : Keep → Target → List (Option Kept) → ℕ → Option Kept → Option KeptEffect
kept_assign keep target parts at value = assign_over keep target (gathered keep no_trees parts) at value

-- statements as they are kept
abbrev pub stating_as : Keep → Stating (Option Kept) (Option KeptEffect)
stating_as keep = record { making = keeping_as keep; block = kept_block keep; choice = kept_choice keep; assign = kept_assign keep }
