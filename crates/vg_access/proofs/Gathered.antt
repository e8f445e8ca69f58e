-- The memory reads of a behaviour, by its parts.
use Rattle.std.proofs.Common.{◌≡◌, ℕ, ◌+◌, ◌<◌, List, map, flat_map, [], ◌∷◌, ◌++◌, length, get_or, drop, ◌≤◌, Option, Some, None, refl, ap, sym, ◌∙◌}
use Rattle.std.specs.Option.{option_map}
use Rattle.std.proofs.lemmas.List.{drop_all}
use Rattle.vg_inline.specs.declared.tree.Tree.{Tree}
use Rattle.vg_inline.specs.declared.effect.Target.{Target}
use Rattle.vg_inline.specs.declared.effect.Effect.{Effect, fold-roll-Effect}
use Rattle.vg_inline.specs.declared.effect.Effect.TheOpen.{Effect-F}
use Rattle.vg_inline.specs.declared.effect.Effect.TheVariants as effects
use Rattle.vg_inline.specs.declared.effect.Effect.TheVariants.{rolls-Block, rolls-If, rolls-Assign}
use Rattle.vg_tree.specs.declared.reading.Reading.{Reading}
use Rattle.vg_tree.specs.Made.{Frame}
use Rattle.vg_tree.specs.Access.{else_readings, readings_of, readings_step, tree_readings}
use Rattle.vg_stage.proofs.StageLemmas.{drop_here}

each_of_map : {X Y : Type 0} (f : X → List Y) (xs : List X) → flat_map (λ (ys : List Y). ys) (map f xs) ≡ flat_map f xs
each_of_map f [] = refl
each_of_map f (x ∷ xs) = ap (λ ys. f x ++ ys) (each_of_map f xs)

grouped : {Y : Type 0} (xs ys zs : List Y) → (xs ++ ys) ++ zs ≡ xs ++ (ys ++ zs)
grouped [] ys zs = refl
grouped (x ∷ xs) ys zs = ap (λ vs. x ∷ vs) (grouped xs ys zs)

right_nil : {Y : Type 0} (xs : List Y) → xs ++ [] ≡ xs
right_nil [] = refl
right_nil (x ∷ xs) = ap (λ ys. x ∷ ys) (right_nil xs)

-- what is put behind others of elements in turn
pub put_more : {X Y : Type 0} (f : X → List Y) (xs : List X) (i : ℕ) (x : X) (done longer whole : List Y) → done ++ flat_map f (drop i xs) ≡ whole → i < length xs → x ≡ get_or xs i x → longer ≡ done ++ f x
    → longer ++ flat_map f (drop (i + 1) xs) ≡ whole
put_more f xs i x done longer whole h within is e =
    ap (λ ys. ys ++ flat_map f (drop (i + 1) xs)) e ∙ grouped done (f x) (flat_map f (drop (i + 1) xs))
    ∙ ap (λ (l : List _). done ++ flat_map f l) (sym (drop_here xs i x within is)) ∙ h

pub put_all : {X Y : Type 0} (f : X → List Y) (xs : List X) (i : ℕ) (done whole : List Y) → done ++ flat_map f (drop i xs) ≡ whole → length xs ≤ i → done ≡ whole
put_all f xs i done whole h past = sym (right_nil done) ∙ ap (λ (l : List _). done ++ flat_map f l) (sym (drop_all i xs past)) ∙ h

module _ (frame : Frame) where
  pub readings-Block : (xs : List Effect) → readings_of frame (effects.Block xs) ≡ flat_map (readings_of frame) xs
  readings-Block xs = ap (readings_of frame) (sym (rolls-Block xs)) ∙ fold-roll-Effect (List Reading) (readings_step frame) (Effect-F.Block xs) ∙ each_of_map (readings_of frame) xs

  pub readings-If : (at : ℕ) (c : Tree) (x : Effect) (o : Option Effect) → readings_of frame (effects.If at c x o) ≡ (tree_readings frame c ++ readings_of frame x) ++ else_readings (option_map (readings_of frame) o)
  readings-If at c x None = ap (readings_of frame) (sym (rolls-If at c x None)) ∙ fold-roll-Effect (List Reading) (readings_step frame) (Effect-F.If at c x None)
  readings-If at c x (Some o) = ap (readings_of frame) (sym (rolls-If at c x (Some o))) ∙ fold-roll-Effect (List Reading) (readings_step frame) (Effect-F.If at c x (Some o))

  pub readings-Assign : (target : Target) (parts : List Tree) (at : ℕ) (v : Tree) → readings_of frame (effects.Assign target parts at v) ≡ flat_map (tree_readings frame) parts ++ tree_readings frame v
  readings-Assign target parts at v = ap (readings_of frame) (sym (rolls-Assign target parts at v)) ∙ fold-roll-Effect (List Reading) (readings_step frame) (Effect-F.Assign target parts at v)

pub ruleset gathered_steps = (readings-Block, readings-If, readings-Assign)
