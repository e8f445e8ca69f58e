-- What behaviours read and write, by their parts.
use Rattle.std.proofs.Common.{◌≡◌, ℕ, ◌+◌, ◌<◌, Bool, true, false, ◌||◌, List, map, flat_map, [], ◌∷◌, ◌++◌, length, get_or, drop, add-one, drop-cons, Option, Some, None, refl, ap, sym, ◌∙◌}
use Rattle.std.specs.Option.{option_map}
use Rattle.std.proofs.lemmas.List.Folds.{list_any-append}
use Rattle.vg_inline.specs.declared.tree.Tree.{Tree, fold-roll-Tree}
use Rattle.vg_inline.specs.declared.effect.Target.{Target}
use Rattle.vg_inline.specs.declared.effect.Effect.{Effect, fold-roll-Effect}
use Rattle.vg_inline.specs.declared.effect.Effect.TheOpen.{Effect-F}
use Rattle.vg_inline.specs.declared.effect.Effect.TheVariants as effects
use Rattle.vg_inline.specs.declared.effect.Effect.TheVariants.{rolls-Block, rolls-If, rolls-Assign}
use Rattle.vg_type.specs.Item.{Setting}
use Rattle.vg_stage.specs.StageLack.{some_lack}
use Rattle.vg_stage.specs.StageOrder.{all_of, head_reads, reads_step, tree_reads, else_numbers, effect_reads_step, effect_reads, effect_writes_step, effect_writes}
use Rattle.vg_tree.specs.Written.{target_number}
use Rattle.vg_stage.proofs.TreeParts.{head_of, parts_of, node_again}

pub all_of_map : {X : Type 0} (f : X → List ℕ) (xs : List X) → all_of (map f xs) ≡ flat_map f xs
all_of_map f [] = refl
all_of_map f (x ∷ xs) = ap (λ ys. f x ++ ys) (all_of_map f xs)

lack_append : (flags : List Bool) (xs ys : List ℕ) → some_lack flags (xs ++ ys) ≡ (some_lack flags xs || some_lack flags ys)
lack_append flags xs ys = list_any-append _ xs ys

module _ (setting : Setting) where
  tree_node : (t : Tree) → tree_reads setting t ≡ head_reads setting (head_of t) ++ flat_map (tree_reads setting) (parts_of t)
  tree_node t =
      ap (tree_reads setting) (sym (node_again t)) ∙ fold-roll-Tree (List ℕ) (reads_step setting) (record { head = head_of t; parts = parts_of t })
      ∙ ap (λ ys. head_reads setting (head_of t) ++ ys) (all_of_map (tree_reads setting) (parts_of t))

  reads-Block : (xs : List Effect) → effect_reads setting (effects.Block xs) ≡ flat_map (effect_reads setting) xs
  reads-Block xs = ap (effect_reads setting) (sym (rolls-Block xs)) ∙ fold-roll-Effect (List ℕ) (effect_reads_step setting) (Effect-F.Block xs) ∙ all_of_map (effect_reads setting) xs

  reads-If : (at : ℕ) (c : Tree) (x : Effect) (o : Option Effect) → effect_reads setting (effects.If at c x o) ≡ (tree_reads setting c ++ effect_reads setting x) ++ else_numbers (option_map (effect_reads setting) o)
  reads-If at c x None = ap (effect_reads setting) (sym (rolls-If at c x None)) ∙ fold-roll-Effect (List ℕ) (effect_reads_step setting) (Effect-F.If at c x None)
  reads-If at c x (Some o) = ap (effect_reads setting) (sym (rolls-If at c x (Some o))) ∙ fold-roll-Effect (List ℕ) (effect_reads_step setting) (Effect-F.If at c x (Some o))

  reads-Assign : (target : Target) (parts : List Tree) (at : ℕ) (v : Tree) → effect_reads setting (effects.Assign target parts at v) ≡ flat_map (tree_reads setting) parts ++ tree_reads setting v
  reads-Assign target parts at v = ap (effect_reads setting) (sym (rolls-Assign target parts at v)) ∙ fold-roll-Effect (List ℕ) (effect_reads_step setting) (Effect-F.Assign target parts at v)

  writes-Block : (xs : List Effect) → effect_writes setting (effects.Block xs) ≡ flat_map (effect_writes setting) xs
  writes-Block xs = ap (effect_writes setting) (sym (rolls-Block xs)) ∙ fold-roll-Effect (List ℕ) (effect_writes_step setting) (Effect-F.Block xs) ∙ all_of_map (effect_writes setting) xs

  writes-If : (at : ℕ) (c : Tree) (x : Effect) (o : Option Effect) → effect_writes setting (effects.If at c x o) ≡ effect_writes setting x ++ else_numbers (option_map (effect_writes setting) o)
  writes-If at c x None = ap (effect_writes setting) (sym (rolls-If at c x None)) ∙ fold-roll-Effect (List ℕ) (effect_writes_step setting) (Effect-F.If at c x None)
  writes-If at c x (Some o) = ap (effect_writes setting) (sym (rolls-If at c x (Some o))) ∙ fold-roll-Effect (List ℕ) (effect_writes_step setting) (Effect-F.If at c x (Some o))

  writes-Assign : (target : Target) (parts : List Tree) (at : ℕ) (v : Tree) → effect_writes setting (effects.Assign target parts at v) ≡ target_number setting target ∷ []
  writes-Assign target parts at v = ap (effect_writes setting) (sym (rolls-Assign target parts at v)) ∙ fold-roll-Effect (List ℕ) (effect_writes_step setting) (Effect-F.Assign target parts at v)

  module _ (flags : List Bool) where
    pub lack-Tree : (t : Tree) → some_lack flags (tree_reads setting t) ≡ (some_lack flags (head_reads setting (head_of t)) || some_lack flags (flat_map (tree_reads setting) (parts_of t)))
    lack-Tree t = ap (some_lack flags) (tree_node t) ∙ lack_append flags (head_reads setting (head_of t)) (flat_map (tree_reads setting) (parts_of t))

    pub lack_reads-Block : (xs : List Effect) → some_lack flags (effect_reads setting (effects.Block xs)) ≡ some_lack flags (flat_map (effect_reads setting) xs)
    lack_reads-Block xs = ap (some_lack flags) (reads-Block xs)

    pub lack_reads-If : (at : ℕ) (c : Tree) (x : Effect) (o : Option Effect) → some_lack flags (effect_reads setting (effects.If at c x o)) ≡ ((some_lack flags (tree_reads setting c) || some_lack flags (effect_reads setting x)) || some_lack flags (else_numbers (option_map (effect_reads setting) o)))
    lack_reads-If at c x o =
        ap (some_lack flags) (reads-If at c x o) ∙ lack_append flags (tree_reads setting c ++ effect_reads setting x) (else_numbers (option_map (effect_reads setting) o))
        ∙ ap (λ b. b || some_lack flags (else_numbers (option_map (effect_reads setting) o))) (lack_append flags (tree_reads setting c) (effect_reads setting x))

    pub lack_reads-Assign : (target : Target) (parts : List Tree) (at : ℕ) (v : Tree) → some_lack flags (effect_reads setting (effects.Assign target parts at v)) ≡ (some_lack flags (flat_map (tree_reads setting) parts) || some_lack flags (tree_reads setting v))
    lack_reads-Assign target parts at v = ap (some_lack flags) (reads-Assign target parts at v) ∙ lack_append flags (flat_map (tree_reads setting) parts) (tree_reads setting v)

    pub lack_writes-Block : (xs : List Effect) → some_lack flags (effect_writes setting (effects.Block xs)) ≡ some_lack flags (flat_map (effect_writes setting) xs)
    lack_writes-Block xs = ap (some_lack flags) (writes-Block xs)

    pub lack_writes-If : (at : ℕ) (c : Tree) (x : Effect) (o : Option Effect) → some_lack flags (effect_writes setting (effects.If at c x o)) ≡ (some_lack flags (effect_writes setting x) || some_lack flags (else_numbers (option_map (effect_writes setting) o)))
    lack_writes-If at c x o = ap (some_lack flags) (writes-If at c x o) ∙ lack_append flags (effect_writes setting x) (else_numbers (option_map (effect_writes setting) o))

    pub lack_writes-Assign : (target : Target) (parts : List Tree) (at : ℕ) (v : Tree) → some_lack flags (effect_writes setting (effects.Assign target parts at v)) ≡ some_lack flags (target_number setting target ∷ [])
    lack_writes-Assign target parts at v = ap (some_lack flags) (writes-Assign target parts at v)

-- A test of each of a list, from one of its elements on.
module _ {X : Type 0} (f : X → List ℕ) (flags : List Bool) (xs : List X) (i : ℕ) (x : X) (within : i < length xs) (is : x ≡ get_or xs i x) where
  from_one : some_lack flags (flat_map f (drop i xs)) ≡ (some_lack flags (f x) || some_lack flags (flat_map f (drop (i + 1) xs)))
  from_one =
      ap (λ (l : List X). some_lack flags (flat_map f l)) (drop-cons xs i x within ∙ ap (λ n. get_or xs i x ∷ drop n xs) (sym (add-one i)) ∙ ap (λ (y : X). y ∷ drop (i + 1) xs) (sym is))
      ∙ lack_append flags (f x) (flat_map f (drop (i + 1) xs))

  pub lack_behind : false ≡ some_lack flags (f x) → some_lack flags (flat_map f (drop i xs)) ≡ some_lack flags (flat_map f (drop (i + 1) xs))
  lack_behind none = from_one ∙ ap (λ b. b || some_lack flags (flat_map f (drop (i + 1) xs))) (sym none)

  pub lack_here : true ≡ some_lack flags (f x) → some_lack flags (flat_map f (drop i xs)) ≡ true
  lack_here some = from_one ∙ ap (λ b. b || some_lack flags (flat_map f (drop (i + 1) xs))) (sym some)

pub ruleset lack_steps = (lack-Tree)

pub ruleset read_steps = (lack_reads-Block, lack_reads-If, lack_reads-Assign)

pub ruleset write_steps = (lack_writes-Block, lack_writes-If, lack_writes-Assign)
