-- The items that behaviours write, each once.
use Rattle.std.proofs.Common.{◌≡◌, ℕ, ◌+◌, ◌<◌, ◌≤◌, Bool, true, false, ◌||◌, nat_eq, List, [], ◌∷◌, ◌++◌, flat_map, length, get_or, drop, Option, Some, None, refl, ap, sym, ◌∙◌, if◌then◌else◌}
use Rattle.std.specs.List.{list_any}
use Rattle.std.proofs.lemmas.List.{drop_all}
use Rattle.std.proofs.lemmas.List.Folds.{list_any-append}
use Rattle.std.specs.Option.{option_map}
use Rattle.vg_inline.specs.declared.tree.Tree.{Tree}
use Rattle.vg_inline.specs.declared.effect.Target.{Target}
use Rattle.vg_inline.specs.declared.effect.Effect.{Effect, fold-roll-Effect}
use Rattle.vg_inline.specs.declared.effect.Effect.TheOpen.{Effect-F}
use Rattle.vg_inline.specs.declared.effect.Effect.TheVariants as effects
use Rattle.vg_inline.specs.declared.effect.Effect.TheVariants.{rolls-Block, rolls-If, rolls-Assign}
use Rattle.vg_type.specs.Item.{Setting}
use Rattle.vg_tree.specs.Written.{target_number}
use Rattle.vg_stage.specs.StageOrder.{effect_writes, effect_writes_step, else_numbers}
use Rattle.vg_stage.proofs.StageLemmas.{drop_here}
use Rattle.vg_stage.proofs.StageUses.{all_of_map}
use Rattle.vg_processor.specs.IsaOf.{once}
use Rattle.vg_processor.specs.Outcome.{with_number, with_numbers}
use Rattle.vg_processor.proofs.LoopLemmas.{right_nil, grouped}

-- ---- in turn

both_parts : (xs ys zs : List ℕ) → with_numbers xs (ys ++ zs) ≡ with_numbers (with_numbers xs ys) zs
both_parts xs [] zs = refl
both_parts xs (k ∷ ys) zs = both_parts (with_number xs k) ys zs

pub numbers_more : {X : Type 0} (f : X → List ℕ) (xs : List X) (i : ℕ) (x : X) (done longer whole : List ℕ) → with_numbers done (flat_map f (drop i xs)) ≡ whole → i < length xs → x ≡ get_or xs i x
    → longer ≡ with_numbers done (f x) → with_numbers longer (flat_map f (drop (i + 1) xs)) ≡ whole
numbers_more f xs i x done longer whole h within is e =
    ap (λ ys. with_numbers ys (flat_map f (drop (i + 1) xs))) e ∙ sym (both_parts done (f x) (flat_map f (drop (i + 1) xs)))
    ∙ ap (λ (l : List _). with_numbers done (flat_map f l)) (sym (drop_here xs i x within is)) ∙ h

pub numbers_all : {X : Type 0} (f : X → List ℕ) (xs : List X) (i : ℕ) (done whole : List ℕ) → with_numbers done (flat_map f (drop i xs)) ≡ whole → length xs ≤ i → done ≡ whole
numbers_all f xs i done whole h past = ap (λ (l : List _). with_numbers done (flat_map f l)) (sym (drop_all i xs past)) ∙ h

-- ---- once

swapped : (a b : Bool) → (a || (b || false)) ≡ (b || a)
swapped true true = refl
swapped true false = refl
swapped false true = refl
swapped false false = refl

-- one more is met
met_more : (xs met : List ℕ) (k : ℕ) → ((j : ℕ) → list_any (nat_eq j) xs ≡ list_any (nat_eq j) met) → (j : ℕ) → list_any (nat_eq j) (xs ++ k ∷ []) ≡ list_any (nat_eq j) (k ∷ met)
met_more xs met k same j = list_any-append (nat_eq j) xs (k ∷ []) ∙ swapped (list_any (nat_eq j) xs) (nat_eq j k) ∙ ap (λ b. nat_eq j k || b) (same j)

behind : (xs met ks : List ℕ) → ((j : ℕ) → list_any (nat_eq j) xs ≡ list_any (nat_eq j) met) → with_numbers xs ks ≡ xs ++ once met ks
behind xs met [] same = sym (right_nil xs)
behind xs met (k ∷ more) same =
    ap (λ (b : Bool). with_numbers (if b then xs else xs ++ k ∷ []) more) (same k)
    ∙ by (behind xs met more same) (behind (xs ++ k ∷ []) (k ∷ met) more (met_more xs met k same)) (list_any (nat_eq k) met)
  where
    by : with_numbers xs more ≡ xs ++ once met more → with_numbers (xs ++ k ∷ []) more ≡ (xs ++ k ∷ []) ++ once (k ∷ met) more → (b : Bool)
        → with_numbers (if b then xs else xs ++ k ∷ []) more ≡ xs ++ (if b then once met more else k ∷ once (k ∷ met) more)
    by there new true = there
    by there new false = new ∙ grouped xs (k ∷ []) (once (k ∷ met) more)

-- each number once, where it first stands
pub each_once : (ks : List ℕ) → with_numbers [] ks ≡ once [] ks
each_once ks = behind [] [] ks (λ j. refl)

-- ---- by the parts of a behaviour

module _ (setting : Setting) (done : List ℕ) where
  pub targets-Block : (xs : List Effect) → with_numbers done (effect_writes setting (effects.Block xs)) ≡ with_numbers done (flat_map (effect_writes setting) xs)
  targets-Block xs =
      ap (with_numbers done) (ap (effect_writes setting) (sym (rolls-Block xs)) ∙ fold-roll-Effect (List ℕ) (effect_writes_step setting) (Effect-F.Block xs) ∙ all_of_map (effect_writes setting) xs)

  if_writes : (at : ℕ) (c : Tree) (x : Effect) (o : Option Effect) → effect_writes setting (effects.If at c x o) ≡ effect_writes setting x ++ else_numbers (option_map (effect_writes setting) o)
  if_writes at c x None = ap (effect_writes setting) (sym (rolls-If at c x None)) ∙ fold-roll-Effect (List ℕ) (effect_writes_step setting) (Effect-F.If at c x None)
  if_writes at c x (Some o) = ap (effect_writes setting) (sym (rolls-If at c x (Some o))) ∙ fold-roll-Effect (List ℕ) (effect_writes_step setting) (Effect-F.If at c x (Some o))

  pub targets-If : (at : ℕ) (c : Tree) (x : Effect) (o : Option Effect)
      → with_numbers done (effect_writes setting (effects.If at c x o)) ≡ with_numbers (with_numbers done (effect_writes setting x)) (else_numbers (option_map (effect_writes setting) o))
  targets-If at c x o = ap (with_numbers done) (if_writes at c x o) ∙ both_parts done (effect_writes setting x) (else_numbers (option_map (effect_writes setting) o))

  pub targets-Assign : (target : Target) (parts : List Tree) (at : ℕ) (v : Tree) → with_numbers done (effect_writes setting (effects.Assign target parts at v)) ≡ with_number done (target_number setting target)
  targets-Assign target parts at v =
      ap (with_numbers done) (ap (effect_writes setting) (sym (rolls-Assign target parts at v)) ∙ fold-roll-Effect (List ℕ) (effect_writes_step setting) (Effect-F.Assign target parts at v))

  -- the sides of a conditional, one behind the other
  pub sides_written : (e x : Effect) (at : ℕ) (c : Tree) (one_side : Effect) (o : Option Effect) (one both : List ℕ) → e ≡ effects.If at c one_side o → x ≡ one_side → one ≡ with_numbers done (effect_writes setting x)
      → both ≡ with_numbers one (else_numbers (option_map (effect_writes setting) o)) → both ≡ with_numbers done (effect_writes setting e)
  sides_written e x at c one_side o one both is same here there =
      there ∙ ap (λ ks. with_numbers ks (else_numbers (option_map (effect_writes setting) o))) (here ∙ ap (λ (y : Effect). with_numbers done (effect_writes setting y)) same)
      ∙ sym (targets-If at c one_side o) ∙ ap (λ (y : Effect). with_numbers done (effect_writes setting y)) (sym is)

pub ruleset target_steps = (targets-Block, targets-If, targets-Assign)
