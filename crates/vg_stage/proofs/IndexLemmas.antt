-- The indices of behaviours, by their parts.
use Rattle.std.proofs.Common.{◌≡◌, ℕ, ◌+◌, ◌<◌, ◌≤◌, Bool, true, false, ◌&&◌, not, List, map, flat_map, [], ◌∷◌, ◌++◌, length, get_or, drop, Option, Some, None, if◌then◌else◌, refl, ap, sym, ◌∙◌}
use Rattle.std.specs.Option.{option_map}
use Rattle.std.proofs.lemmas.List.{drop_all}
use Rattle.vg_inline.specs.declared.head.Head.{Head}
use Rattle.vg_inline.specs.declared.head.Head.TheVariants as heads
use Rattle.vg_inline.specs.declared.tree.Tree.{Tree, fold-roll-Tree}
use Rattle.vg_inline.specs.declared.effect.Target.{Target}
use Rattle.vg_inline.specs.declared.effect.Target.TheVariants as targets
use Rattle.vg_inline.specs.declared.effect.Effect.{Effect, fold-roll-Effect}
use Rattle.vg_inline.specs.declared.effect.Effect.TheOpen.{Effect-F}
use Rattle.vg_inline.specs.declared.effect.Effect.TheVariants as effects
use Rattle.vg_inline.specs.declared.effect.Effect.TheVariants.{rolls-Block, rolls-If, rolls-Assign}
use Rattle.vg_tree.specs.Access.{Indexing, is_plain_head, all_plain, all_places, own_places, indexing_step, indexing, tree_indices, target_indices, else_indices, indices_step, wrong_indices}
use Rattle.vg_stage.specs.Earliest.{earlier, least}
use Rattle.vg_stage.specs.IndexFound.{own_index, target_index}
use Rattle.vg_stage.proofs.EarliestLemmas.{earlier_none, earlier_assoc, least_append}
use Rattle.vg_stage.proofs.StageLemmas.{drop_here}
use Rattle.vg_stage.proofs.StageUses.{all_of_map}
use Rattle.vg_stage.proofs.TreeParts.{head_of, parts_of, node_again}

own_least : (head : Head) (parts : List Indexing) → least (own_places head parts) ≡ own_index head (all_plain parts)
own_least (heads.Indexed k at index_at) parts = by (all_plain parts)
  where
    by : (b : Bool) → least (if not b then index_at ∷ [] else []) ≡ own_index (heads.Indexed k at index_at) b
    by true = refl
    by false = refl
own_least (heads.Whole value) parts = refl
own_least (heads.Constant value given) parts = refl
own_least (heads.Field k) parts = refl
own_least (heads.Parameter k) parts = refl
own_least heads.Missing parts = refl
own_least (heads.Resource k) parts = refl
own_least (heads.Access at size address_at) parts = refl
own_least heads.Join parts = refl
own_least (heads.Unary op) parts = refl
own_least (heads.Binary op) parts = refl
own_least (heads.Cast target) parts = refl
own_least (heads.Slice high low) parts = refl
own_least heads.If parts = refl

tree_node : (t : Tree) → indexing t ≡ indexing_step (record { head = head_of t; parts = map indexing (parts_of t) })
tree_node t = ap indexing (sym (node_again t)) ∙ fold-roll-Tree Indexing indexing_step (record { head = head_of t; parts = parts_of t })

pub plain_tree : (t : Tree) → (indexing t).is_plain ≡ (is_plain_head (head_of t) && all_plain (map indexing (parts_of t)))
plain_tree t = ap (λ (x : Indexing). x.is_plain) (tree_node t)

pub least_tree : (t : Tree) → least (indexing t).places ≡ earlier (own_index (head_of t) (all_plain (map indexing (parts_of t)))) (least (all_places (map indexing (parts_of t))))
least_tree t =
    ap (λ (x : Indexing). least x.places) (tree_node t)
    ∙ least_append (own_places (head_of t) (map indexing (parts_of t))) (all_places (map indexing (parts_of t)))
    ∙ ap (λ o. earlier o (least (all_places (map indexing (parts_of t))))) (own_least (head_of t) (map indexing (parts_of t)))

-- trees in turn

and_assoc : (a b c : Bool) → ((a && b) && c) ≡ (a && (b && c))
and_assoc true b c = refl
and_assoc false b c = refl

-- what was found of the trees in front, and the others
pub record AreFound (trees : List Tree) (i : ℕ) (plain : Bool) (first : Option ℕ) : Type 0 where
  pub plains : (plain && all_plain (map indexing (drop i trees))) ≡ all_plain (map indexing trees)
  pub firsts : earlier first (least (all_places (map indexing (drop i trees)))) ≡ least (all_places (map indexing trees))

pub found_more : (trees : List Tree) (i : ℕ) (x : Tree) (plain next_plain : Bool) (first next_first found : Option ℕ) → AreFound trees i plain first → i < length trees → x ≡ get_or trees i x
    → found ≡ least (indexing x).places → next_plain ≡ (plain && (indexing x).is_plain) → next_first ≡ earlier first found → AreFound trees (i + 1) next_plain next_first
found_more trees i x plain next_plain first next_first found h within is e p f = record {
  plains =
      ap (λ b. b && all_plain (map indexing (drop (i + 1) trees))) p ∙ and_assoc plain (indexing x).is_plain (all_plain (map indexing (drop (i + 1) trees)))
      ∙ ap (λ (l : List Tree). plain && all_plain (map indexing l)) (sym (drop_here trees i x within is)) ∙ h.plains;
  firsts =
      ap (λ o. earlier o (least (all_places (map indexing (drop (i + 1) trees))))) (f ∙ ap (earlier first) e)
      ∙ earlier_assoc first (least (indexing x).places) (least (all_places (map indexing (drop (i + 1) trees))))
      ∙ ap (earlier first) (sym (least_append (indexing x).places (all_places (map indexing (drop (i + 1) trees)))))
      ∙ ap (λ (l : List Tree). earlier first (least (all_places (map indexing l)))) (sym (drop_here trees i x within is)) ∙ h.firsts;
}

and_true : (b : Bool) → (b && true) ≡ b
and_true true = refl
and_true false = refl

pub plain_all : (trees : List Tree) (i : ℕ) (plain : Bool) (first : Option ℕ) → AreFound trees i plain first → length trees ≤ i → plain ≡ all_plain (map indexing trees)
plain_all trees i plain first h past = sym (and_true plain) ∙ ap (λ (l : List Tree). plain && all_plain (map indexing l)) (sym (drop_all i trees past)) ∙ h.plains

pub first_all : (trees : List Tree) (i : ℕ) (plain : Bool) (first : Option ℕ) → AreFound trees i plain first → length trees ≤ i → first ≡ least (all_places (map indexing trees))
first_all trees i plain first h past = sym (earlier_none first) ∙ ap (λ (l : List Tree). earlier first (least (all_places (map indexing l)))) (sym (drop_all i trees past)) ∙ h.firsts

-- statements

places_of_map : (xs : List Tree) → flat_map tree_indices xs ≡ all_places (map indexing xs)
places_of_map [] = refl
places_of_map (x ∷ xs) = ap (λ ys. tree_indices x ++ ys) (places_of_map xs)

target_least : (target : Target) (parts : List Tree) → least (target_indices target parts) ≡ target_index target (all_plain (map indexing parts))
target_least (targets.Resource k at) parts = refl
target_least (targets.Indexed k at index_at) parts = own_least (heads.Indexed k at index_at) (map indexing parts) ∙ by (all_plain (map indexing parts))
  where
    by : (b : Bool) → own_index (heads.Indexed k at index_at) b ≡ target_index (targets.Indexed k at index_at) b
    by true = refl
    by false = refl
target_least (targets.Access at size address_at) parts = refl

pub effect-Block : (xs : List Effect) → least (wrong_indices (effects.Block xs)) ≡ least (flat_map wrong_indices xs)
effect-Block xs = ap least (ap wrong_indices (sym (rolls-Block xs)) ∙ fold-roll-Effect (List ℕ) indices_step (Effect-F.Block xs) ∙ all_of_map wrong_indices xs)

pub effect-If : (at : ℕ) (c : Tree) (x : Effect) (o : Option Effect) → least (wrong_indices (effects.If at c x o)) ≡ earlier (earlier (least (indexing c).places) (least (wrong_indices x))) (least (else_indices (option_map wrong_indices o)))
effect-If at c x o = ap least (if_indices o) ∙ least_append (tree_indices c ++ wrong_indices x) (else_indices (option_map wrong_indices o)) ∙ ap (λ p. earlier p (least (else_indices (option_map wrong_indices o)))) (least_append (tree_indices c) (wrong_indices x))
  where
    if_indices : (o : Option Effect) → wrong_indices (effects.If at c x o) ≡ (tree_indices c ++ wrong_indices x) ++ else_indices (option_map wrong_indices o)
    if_indices None = ap wrong_indices (sym (rolls-If at c x None)) ∙ fold-roll-Effect (List ℕ) indices_step (Effect-F.If at c x None)
    if_indices (Some other) = ap wrong_indices (sym (rolls-If at c x (Some other))) ∙ fold-roll-Effect (List ℕ) indices_step (Effect-F.If at c x (Some other))

-- a conditional, where this is found of its parts
pub found_if : (e : Effect) (at : ℕ) (c : Tree) (x : Effect) (o : Option Effect) (condition taken other body found : Option ℕ) → e ≡ effects.If at c x o → condition ≡ least (indexing c).places → taken ≡ least (wrong_indices x) → other ≡ least (else_indices (option_map wrong_indices o)) → body ≡ earlier condition taken → found ≡ earlier body other → found ≡ least (wrong_indices e)
found_if e at c x o condition taken other body found is p q r f g =
    g ∙ ap (λ b. earlier b other) (f ∙ ap (λ b. earlier b taken) p ∙ ap (earlier (least (indexing c).places)) q)
    ∙ ap (earlier (earlier (least (indexing c).places) (least (wrong_indices x)))) r ∙ sym (effect-If at c x o) ∙ ap (λ (y : Effect). least (wrong_indices y)) (sym is)

pub effect-Assign : (target : Target) (parts : List Tree) (at : ℕ) (v : Tree) → least (wrong_indices (effects.Assign target parts at v)) ≡ earlier (earlier (target_index target (all_plain (map indexing parts))) (least (all_places (map indexing parts)))) (least (indexing v).places)
effect-Assign target parts at v =
    ap least (assign_indices)
    ∙ least_append (target_indices target parts ++ flat_map tree_indices parts) (tree_indices v)
    ∙ ap (λ p. earlier p (least (tree_indices v))) (least_append (target_indices target parts) (flat_map tree_indices parts) ∙ ap (λ p. earlier p (least (flat_map tree_indices parts))) (target_least target parts))
    ∙ ap (λ ys. earlier (earlier (target_index target (all_plain (map indexing parts))) (least ys)) (least (tree_indices v))) (places_of_map parts)
  where
    assign_indices : wrong_indices (effects.Assign target parts at v) ≡ (target_indices target parts ++ flat_map tree_indices parts) ++ tree_indices v
    assign_indices = ap wrong_indices (sym (rolls-Assign target parts at v)) ∙ fold-roll-Effect (List ℕ) indices_step (Effect-F.Assign target parts at v)

-- places in turn, of which the least is asked for

abbrev pub LeastLeft : {X : Type 0} → (X → List ℕ) → List X → ℕ → Option ℕ → Type 0
LeastLeft places xs i first = earlier first (least (flat_map places (drop i xs))) ≡ least (flat_map places xs)

pub least_more : {X : Type 0} (places : X → List ℕ) (xs : List X) (i : ℕ) (x : X) (first next found : Option ℕ) → LeastLeft places xs i first → i < length xs → x ≡ get_or xs i x → found ≡ least (places x) → next ≡ earlier first found → LeastLeft places xs (i + 1) next
least_more places xs i x first next found h within is e f =
    ap (λ o. earlier o (least (flat_map places (drop (i + 1) xs)))) (f ∙ ap (earlier first) e)
    ∙ earlier_assoc first (least (places x)) (least (flat_map places (drop (i + 1) xs)))
    ∙ ap (earlier first) (sym (least_append (places x) (flat_map places (drop (i + 1) xs))))
    ∙ ap (λ (l : List _). earlier first (least (flat_map places l))) (sym (drop_here xs i x within is)) ∙ h

pub least_all : {X : Type 0} (places : X → List ℕ) (xs : List X) (i : ℕ) (first : Option ℕ) → LeastLeft places xs i first → length xs ≤ i → first ≡ least (flat_map places xs)
least_all places xs i first h past = sym (earlier_none first) ∙ ap (λ (l : List _). earlier first (least (flat_map places l))) (sym (drop_all i xs past)) ∙ h

pub ruleset tree_steps = (plain_tree, least_tree)

pub ruleset effect_steps = (effect-Block, effect-If, effect-Assign)
