-- What is kept of a statement is put together from what is kept of its parts.
use Rattle.std.proofs.Common.{◌≡◌, ℕ, suc, ◌+◌, ◌<◌, ◌≤◌, Bool, true, false, List, map, [], ◌∷◌, ◌++◌, Option, Some, None, inl, inr, sym, ap, ◌∙◌, refl, arith, nat_le, if◌then◌else◌}
use Rattle.std.specs.Option.{option_map}
use Rattle.std.proofs.lemmas.Bool.{cases_lt, le-leb, lt-leb}
use Rattle.vg_inline.specs.declared.tree.Tree.{Tree}
use Rattle.vg_inline.specs.declared.effect.Target.{Target}
use Rattle.vg_inline.specs.declared.effect.Effect.{Effect, fold-roll-Effect}
use Rattle.vg_inline.specs.declared.effect.Effect.TheOpen.{Effect-F}
use Rattle.vg_inline.specs.declared.effect.Effect.TheVariants as effects
use Rattle.vg_inline.specs.declared.effect.Effect.TheVariants.{rolls-Block, rolls-If, rolls-Assign}
use Rattle.vg_inline.specs.declared.keep.Keep.{Keep}
use Rattle.vg_inline.specs.declared.kept.Kept.{Kept}
use Rattle.vg_inline.specs.declared.kept.KeptList.{KeptList}
use Rattle.vg_inline.specs.declared.kept.KeptEffect.{KeptEffect}
use Rattle.vg_inline.specs.declared.kept.KeptEffects.{KeptEffects}
use Rattle.vg_inline.specs.Size.{sum_of, size, effect_size_step, effect_size}
use Rattle.vg_inline.specs.Instantiate.{missing}
use Rattle.vg_inline.specs.Inline.{trees}
use Rattle.vg_inline.specs.Behaviour.{statements}
use Rattle.vg_inline.specs.Kept.{joined_lists, parameters, shown, nothing_done, shown_effect, within, kept_effect, effect_within, added_effect, gathered_effects, block_over, kept_block, kept_if, kept_if_else, kept_choice, assign_over, kept_assign, stating_as}
use Rattle.vg_inline.proofs.Loops.{ending, regroup}
use Rattle.vg_inline.proofs.Within.{few as tree_few, many as tree_many, gathers_few, gathers_many, keeping_is_picture, same_list}
use Rattle.vg_inline.proofs.StatePicture.{IsStatePicture}

size-Block : (xs : List Effect) → effect_size (effects.Block xs) ≡ sum_of (map effect_size xs)
size-Block xs = ap effect_size (sym (rolls-Block xs)) ∙ fold-roll-Effect ℕ effect_size_step (Effect-F.Block xs)

size-If_alone : (at : ℕ) (c : Tree) (x : Effect) → effect_size (effects.If at c x None) ≡ 1 + (size c + (effect_size x + 0))
size-If_alone at c x = ap effect_size (sym (rolls-If at c x None)) ∙ fold-roll-Effect ℕ effect_size_step (Effect-F.If at c x None)

size-If_else : (at : ℕ) (c : Tree) (x y : Effect) → effect_size (effects.If at c x (Some y)) ≡ 1 + (size c + (effect_size x + effect_size y))
size-If_else at c x y = ap effect_size (sym (rolls-If at c x (Some y))) ∙ fold-roll-Effect ℕ effect_size_step (Effect-F.If at c x (Some y))

size-Assign : (target : Target) (parts : List Tree) (at : ℕ) (v : Tree) → effect_size (effects.Assign target parts at v) ≡ sum_of (map size parts) + size v
size-Assign target parts at v = ap effect_size (sym (rolls-Assign target parts at v)) ∙ fold-roll-Effect ℕ effect_size_step (Effect-F.Assign target parts at v)

same_effects : (xs : List Effect) → map (λ (x : Effect). x) xs ≡ xs
same_effects [] = refl
same_effects (x ∷ xs) = ap (λ (l : List Effect). x ∷ l) (same_effects xs)

-- what is shown of a statement over what is shown of its parts is what is shown of the statement

shown-Block : (keep : Keep) (xs : List Effect) → shown_effect keep (effects.Block (map (shown_effect keep) xs)) ≡ shown_effect keep (effects.Block xs)
shown-Block keep xs = by keep.trees
  where
    by : (b : Bool) → (if b then effects.Block (map (λ (x : Effect). if b then x else nothing_done) xs) else nothing_done) ≡ (if b then effects.Block xs else nothing_done)
    by true = ap effects.Block (same_effects xs)
    by false = refl

shown-If_alone : (keep : Keep) (at : ℕ) (c : Tree) (x : Effect) → shown_effect keep (effects.If at (shown keep c) (shown_effect keep x) None) ≡ shown_effect keep (effects.If at c x None)
shown-If_alone keep at c x = by keep.trees
  where
    by : (b : Bool) → (if b then effects.If at (if b then c else missing) (if b then x else nothing_done) None else nothing_done) ≡ (if b then effects.If at c x None else nothing_done)
    by true = refl
    by false = refl

shown-If_else : (keep : Keep) (at : ℕ) (c : Tree) (x y : Effect) → shown_effect keep (effects.If at (shown keep c) (shown_effect keep x) (Some (shown_effect keep y))) ≡ shown_effect keep (effects.If at c x (Some y))
shown-If_else keep at c x y = by keep.trees
  where
    by : (b : Bool) → (if b then effects.If at (if b then c else missing) (if b then x else nothing_done) (Some (if b then y else nothing_done)) else nothing_done) ≡ (if b then effects.If at c x (Some y) else nothing_done)
    by true = refl
    by false = refl

shown-Assign : (keep : Keep) (target : Target) (parts : List Tree) (at : ℕ) (v : Tree) → shown_effect keep (effects.Assign target (map (shown keep) parts) at (shown keep v)) ≡ shown_effect keep (effects.Assign target parts at v)
shown-Assign keep target parts at v = by keep.trees
  where
    by : (b : Bool) → (if b then effects.Assign target (map (λ (t : Tree). if b then t else missing) parts) at (if b then v else missing) else nothing_done) ≡ (if b then effects.Assign target parts at v else nothing_done)
    by true = ap (λ (l : List Tree). effects.Assign target l at v) (same_list parts)
    by false = refl

module _ (keep : Keep) where
  abbrev effect_as : Effect → ℕ → KeptEffect
  effect_as x n = record { effect = shown_effect keep x; nodes = n }

  abbrev effects_as : List Effect → ℕ → KeptEffects
  effects_as xs n = record { effects = map (shown_effect keep) xs; nodes = n }

  -- a statement of so many nodes, over what is shown of its parts
  again : (n : ℕ) (x y : Effect) → shown_effect keep x ≡ shown_effect keep y → kept_effect keep n x ≡ kept_effect keep n y
  again n x y e = ap (λ (z : Effect). let k : Option KeptEffect = if nat_le n keep.most then Some (record { effect = z; nodes = n }) else None in k) e

  pub few : (n : ℕ) (x : Effect) → n ≤ keep.most → kept_effect keep n x ≡ Some (effect_as x n)
  few n x le = ap (λ (b : Bool). if b then Some (effect_as x n) else None) (le-leb n keep.most le)

  pub many : (n : ℕ) (x : Effect) → keep.most < n → kept_effect keep n x ≡ None
  many n x lt = ap (λ (b : Bool). if b then Some (effect_as x n) else None) (lt-leb n keep.most lt)

  nothing_gathered : (xs : List (Option KeptEffect)) → gathered_effects keep None xs ≡ None
  nothing_gathered [] = refl
  nothing_gathered (x ∷ xs) = nothing_gathered xs

  map_more : (xs : List Effect) (y : Effect) → map (shown_effect keep) (xs ++ y ∷ []) ≡ map (shown_effect keep) xs ++ shown_effect keep y ∷ []
  map_more [] y = refl
  map_more (x ∷ xs) y = ap (λ (l : List Effect). shown_effect keep x ∷ l) (map_more xs y)

  add_few : (front : List Effect) (n : ℕ) (x : Effect) → n + effect_size x ≤ keep.most → added_effect keep (Some (effects_as front n)) (effect_within keep x) ≡ Some (effects_as (front ++ x ∷ []) (n + effect_size x))
  add_few front n x le =
      ap (added_effect keep (Some (effects_as front n))) (few (effect_size x) x (omega arith))
      ∙ ap (λ (b : Bool). if b then Some (record { effects = map (shown_effect keep) front ++ shown_effect keep x ∷ []; nodes = n + effect_size x }) else None) (le-leb (n + effect_size x) keep.most le)
      ∙ ap (λ (l : List Effect). let k : Option KeptEffects = Some (record { effects = l; nodes = n + effect_size x }) in k) (sym (map_more front x))

  add_many : (front : List Effect) (n : ℕ) (x : Effect) → keep.most < n + effect_size x → added_effect keep (Some (effects_as front n)) (effect_within keep x) ≡ None
  add_many front n x lt = elim (cases_lt (effect_size x) (suc keep.most)) [
    | inl less ↦ ap (added_effect keep (Some (effects_as front n))) (few (effect_size x) x (omega arith))
        ∙ ap (λ (b : Bool). if b then Some (record { effects = map (shown_effect keep) front ++ shown_effect keep x ∷ []; nodes = n + effect_size x }) else None) (lt-leb (n + effect_size x) keep.most lt)
    | inr ge ↦ ap (added_effect keep (Some (effects_as front n))) (many (effect_size x) x (omega arith))
  ]

  gather_few : (xs front : List Effect) (n : ℕ) → n + sum_of (map effect_size xs) ≤ keep.most → gathered_effects keep (Some (effects_as front n)) (map (effect_within keep) xs) ≡ Some (effects_as (front ++ xs) (n + sum_of (map effect_size xs)))
  gather_few [] front n le =
      let e : n ≡ n + 0 = omega arith in
      ap (λ (l : List Effect). Some (effects_as l n)) (sym (ending front)) ∙ ap (λ (k : ℕ). Some (effects_as (front ++ []) k)) e
  gather_few (x ∷ xs) front n le =
      let more : (n + effect_size x) + sum_of (map effect_size xs) ≤ keep.most = omega arith in
      let e : (n + effect_size x) + sum_of (map effect_size xs) ≡ n + (effect_size x + sum_of (map effect_size xs)) = omega arith in
      ap (λ (l : Option KeptEffects). gathered_effects keep l (map (effect_within keep) xs)) (add_few front n x (omega arith))
      ∙ gather_few xs (front ++ x ∷ []) (n + effect_size x) more
      ∙ ap (λ (l : List Effect). Some (effects_as l ((n + effect_size x) + sum_of (map effect_size xs)))) (sym (regroup front x xs))
      ∙ ap (λ (k : ℕ). Some (effects_as (front ++ x ∷ xs) k)) e

  gather_many : (xs front : List Effect) (n : ℕ) → n ≤ keep.most → keep.most < n + sum_of (map effect_size xs) → gathered_effects keep (Some (effects_as front n)) (map (effect_within keep) xs) ≡ None
  gather_many [] front n le lt = absurd (omega arith)
  gather_many (x ∷ xs) front n le lt = elim (cases_lt (n + effect_size x) (suc keep.most)) [
    | inl less ↦ (let more : keep.most < (n + effect_size x) + sum_of (map effect_size xs) = omega arith in
        ap (λ (l : Option KeptEffects). gathered_effects keep l (map (effect_within keep) xs)) (add_few front n x (omega arith)) ∙ gather_many xs (front ++ x ∷ []) (n + effect_size x) (omega arith) more)
    | inr ge ↦ ap (λ (l : Option KeptEffects). gathered_effects keep l (map (effect_within keep) xs)) (add_many front n x (omega arith)) ∙ nothing_gathered (map (effect_within keep) xs)
  ]

  within-Block : (xs : List Effect) → effect_within keep (effects.Block xs) ≡ kept_block keep (map (effect_within keep) xs)
  within-Block xs = elim (cases_lt (sum_of (map effect_size xs)) (suc keep.most)) [
    | inl less ↦ (let zero_more : 0 + sum_of (map effect_size xs) ≡ sum_of (map effect_size xs) = omega arith in
        ap (λ (n : ℕ). kept_effect keep n (effects.Block xs)) (size-Block xs)
        ∙ again (sum_of (map effect_size xs)) (effects.Block xs) (effects.Block (map (shown_effect keep) xs)) (sym (shown-Block keep xs))
        ∙ sym (ap (block_over keep) (gather_few xs [] 0 (omega arith) ∙ ap (λ (k : ℕ). Some (effects_as xs k)) zero_more)))
    | inr ge ↦ ap (λ (n : ℕ). kept_effect keep n (effects.Block xs)) (size-Block xs) ∙ many (sum_of (map effect_size xs)) (effects.Block xs) (omega arith)
        ∙ sym (ap (block_over keep) (gather_many xs [] 0 (omega arith) (omega arith)))
  ]

  abbrev tree_as : Tree → Kept
  tree_as c = record { tree = shown keep c; nodes = size c; parameters = parameters c }

  abbrev trees_as : List Tree → KeptList
  trees_as ts = record { trees = map (shown keep) ts; nodes = sum_of (map size ts); parameters = joined_lists (map parameters ts) }

  within-If_alone : (at : ℕ) (c : Tree) (x : Effect) → effect_within keep (effects.If at c x None) ≡ kept_if keep at (within keep c) (effect_within keep x)
  within-If_alone at c x =
      let same : 1 + (size c + (effect_size x + 0)) ≡ 1 + (size c + effect_size x) = omega arith in
      ap (λ (n : ℕ). kept_effect keep n (effects.If at c x None)) (size-If_alone at c x ∙ same) ∙ elim (cases_lt (size c) (suc keep.most)) [
        | inr ge ↦ many (1 + (size c + effect_size x)) (effects.If at c x None) (omega arith) ∙ sym (ap (λ (o : Option Kept). kept_if keep at o (effect_within keep x)) (tree_many keep (size c) (parameters c) c (omega arith)))
        | inl less ↦ elim (cases_lt (effect_size x) (suc keep.most)) [
          | inr ge ↦ many (1 + (size c + effect_size x)) (effects.If at c x None) (omega arith)
              ∙ sym (ap (λ (o : Option Kept). kept_if keep at o (effect_within keep x)) (tree_few keep (size c) (parameters c) c (omega arith)) ∙ ap (kept_if keep at (Some (tree_as c))) (many (effect_size x) x (omega arith)))
          | inl little ↦ again (1 + (size c + effect_size x)) (effects.If at c x None) (effects.If at (shown keep c) (shown_effect keep x) None) (sym (shown-If_alone keep at c x))
              ∙ sym (ap (λ (o : Option Kept). kept_if keep at o (effect_within keep x)) (tree_few keep (size c) (parameters c) c (omega arith)) ∙ ap (kept_if keep at (Some (tree_as c))) (few (effect_size x) x (omega arith)))
        ]
      ]

  within-If_else : (at : ℕ) (c : Tree) (x y : Effect) → effect_within keep (effects.If at c x (Some y)) ≡ kept_if_else keep at (within keep c) (effect_within keep x) (effect_within keep y)
  within-If_else at c x y =
      let total = 1 + (size c + (effect_size x + effect_size y)) in
      ap (λ (n : ℕ). kept_effect keep n (effects.If at c x (Some y))) (size-If_else at c x y) ∙ elim (cases_lt (size c) (suc keep.most)) [
        | inr ge ↦ many (1 + (size c + (effect_size x + effect_size y))) (effects.If at c x (Some y)) (omega arith) ∙ sym (ap (λ (o : Option Kept). kept_if_else keep at o (effect_within keep x) (effect_within keep y)) (tree_many keep (size c) (parameters c) c (omega arith)))
        | inl less ↦ elim (cases_lt (effect_size x) (suc keep.most)) [
          | inr ge ↦ many (1 + (size c + (effect_size x + effect_size y))) (effects.If at c x (Some y)) (omega arith)
              ∙ sym (ap (λ (o : Option Kept). kept_if_else keep at o (effect_within keep x) (effect_within keep y)) (tree_few keep (size c) (parameters c) c (omega arith))
              ∙ ap (λ (o : Option KeptEffect). kept_if_else keep at (Some (tree_as c)) o (effect_within keep y)) (many (effect_size x) x (omega arith)))
          | inl little ↦ elim (cases_lt (effect_size y) (suc keep.most)) [
            | inr ge ↦ many (1 + (size c + (effect_size x + effect_size y))) (effects.If at c x (Some y)) (omega arith)
                ∙ sym (ap (λ (o : Option Kept). kept_if_else keep at o (effect_within keep x) (effect_within keep y)) (tree_few keep (size c) (parameters c) c (omega arith))
                ∙ ap (λ (o : Option KeptEffect). kept_if_else keep at (Some (tree_as c)) o (effect_within keep y)) (few (effect_size x) x (omega arith))
                ∙ ap (kept_if_else keep at (Some (tree_as c)) (Some (effect_as x (effect_size x)))) (many (effect_size y) y (omega arith)))
            | inl least ↦ again (1 + (size c + (effect_size x + effect_size y))) (effects.If at c x (Some y)) (effects.If at (shown keep c) (shown_effect keep x) (Some (shown_effect keep y))) (sym (shown-If_else keep at c x y))
                ∙ sym (ap (λ (o : Option Kept). kept_if_else keep at o (effect_within keep x) (effect_within keep y)) (tree_few keep (size c) (parameters c) c (omega arith))
                ∙ ap (λ (o : Option KeptEffect). kept_if_else keep at (Some (tree_as c)) o (effect_within keep y)) (few (effect_size x) x (omega arith))
                ∙ ap (kept_if_else keep at (Some (tree_as c)) (Some (effect_as x (effect_size x)))) (few (effect_size y) y (omega arith)))
          ]
        ]
      ]

  within-choice : (at : ℕ) (c : Tree) (x : Effect) (o : Option Effect) → effect_within keep (effects.If at c x o) ≡ kept_choice keep at (within keep c) (effect_within keep x) (option_map (effect_within keep) o)
  within-choice at c x None = within-If_alone at c x
  within-choice at c x (Some y) = within-If_else at c x y

  within-Assign : (target : Target) (parts : List Tree) (at : ℕ) (v : Tree) → effect_within keep (effects.Assign target parts at v) ≡ kept_assign keep target (map (within keep) parts) at (within keep v)
  within-Assign target parts at v =
      ap (λ (n : ℕ). kept_effect keep n (effects.Assign target parts at v)) (size-Assign target parts at v) ∙ elim (cases_lt (sum_of (map size parts)) (suc keep.most)) [
        | inr ge ↦ many (sum_of (map size parts) + size v) (effects.Assign target parts at v) (omega arith) ∙ sym (ap (λ (l : Option KeptList). assign_over keep target l at (within keep v)) (gathers_many keep parts (omega arith)))
        | inl less ↦ elim (cases_lt (size v) (suc keep.most)) [
          | inr ge ↦ many (sum_of (map size parts) + size v) (effects.Assign target parts at v) (omega arith)
              ∙ sym (ap (λ (l : Option KeptList). assign_over keep target l at (within keep v)) (gathers_few keep parts (omega arith)) ∙ ap (assign_over keep target (Some (trees_as parts)) at) (tree_many keep (size v) (parameters v) v (omega arith)))
          | inl little ↦ again (sum_of (map size parts) + size v) (effects.Assign target parts at v) (effects.Assign target (map (shown keep) parts) at (shown keep v)) (sym (shown-Assign keep target parts at v))
              ∙ sym (ap (λ (l : Option KeptList). assign_over keep target l at (within keep v)) (gathers_few keep parts (omega arith)) ∙ ap (assign_over keep target (Some (trees_as parts)) at) (tree_few keep (size v) (parameters v) v (omega arith)))
        ]
      ]

pub stating_is_picture : (keep : Keep) → IsStatePicture Tree (Option Kept) Effect (Option KeptEffect) (statements trees) (stating_as keep) (within keep) (effect_within keep)
stating_is_picture keep = record { making = keeping_is_picture keep; blocks = within-Block keep; choices = within-choice keep; assigns = within-Assign keep }
