-- What is kept of the instructions of a description is what they do, unless they have too many nodes.
use Rattle.std.proofs.Common.{◌≡◌, ℕ, ◌≤◌, Bool, true, false, arith, List, map, [], ◌∷◌, ◌++◌, Option, Some, None, refl, sym, ap, ◌∙◌, nat_le, if◌then◌else◌}
use Rattle.std.specs.List.{list_all}
use Rattle.std.proofs.lemmas.Bool.{and_parts, leb-true}
use Rattle.vg_ast.specs.declared.name.Name.{Name}
use Rattle.vg_ast.specs.declared.statement.Statement.{Statement}
use Rattle.vg_ast.specs.declared.item.Item.{Item}
use Rattle.vg_ast.specs.declared.item.Item.TheVariants as items
use Rattle.vg_names.specs.Unknown.{in_each}
use Rattle.vg_names.specs.Definition.{item_named, fields_of_format}
use Rattle.vg_whole.specs.Worths.{constants_of}
use Rattle.vg_inline.specs.declared.tree.Tree.{Tree}
use Rattle.vg_inline.specs.declared.effect.Effect.{Effect}
use Rattle.vg_inline.specs.declared.keep.Keep.{Keep}
use Rattle.vg_inline.specs.declared.kept.Kept.{Kept}
use Rattle.vg_inline.specs.declared.kept.KeptEffect.{KeptEffect}
use Rattle.vg_inline.specs.Size.{most_nodes, effect_size}
use Rattle.vg_inline.specs.Types.{aliases_of}
use Rattle.vg_inline.specs.Inline.{Known as KnownAs, trees, bodies_of, field_values}
use Rattle.vg_inline.specs.Behaviour.{statements, effect_of}
use Rattle.vg_inline.specs.Kept.{counts, keeping_as, within, shown_effect, effect_within, stating_as}
use Rattle.vg_inline.specs.InPlace.{Known, known_of, behaviour_of, excess, item_excess}
use Rattle.vg_inline.specs.KeptBehaviour.{instruction_kept, kept_excess, item_kept_excess, effect_kept, behaviour_kept, fits, item_fits}
use Rattle.vg_inline.specs.Bodies.{trees_up_to}
use Rattle.vg_inline.proofs.Picture.{pictured_bodies}
use Rattle.vg_inline.proofs.Within.{keeping_is_picture}
use Rattle.vg_inline.proofs.StatePicture.{pictured_instruction}
use Rattle.vg_inline.proofs.EffectWithin.{few as effect_few, stating_is_picture}

-- what is known of the items as it is kept
abbrev pub kept_known : Keep → Known → KnownAs (Option Kept)
kept_known keep known = record { constants = known.constants; aliases = known.aliases; bodies = λ text. within keep (known.bodies text) }

-- the same from the bodies that are worked out as they are kept
pub known_kept : (keep : Keep) (all : List Item)
    → (let k : KnownAs (Option Kept) = record { constants = constants_of all; aliases = aliases_of all (constants_of all); bodies = bodies_of (keeping_as keep) all (constants_of all) (aliases_of all (constants_of all)) } in k) ≡ kept_known keep (known_of all)
known_kept keep all i = record {
  constants = constants_of all;
  aliases = aliases_of all (constants_of all);
  bodies = pictured_bodies Tree (Option Kept) trees (keeping_as keep) (within keep) (keeping_is_picture keep) all (constants_of all) (aliases_of all (constants_of all)) i;
}

module _ (all : List Item) (known : Known) where
  abbrev done : Name → Statement → Effect
  done format behaviour = effect_of (statements trees) all known behaviour (field_values trees 0 (fields_of_format (item_named all format.text)))

  instruction : (keep : Keep) (format : Name) (behaviour : Statement) → instruction_kept keep all (kept_known keep known) format behaviour ≡ effect_within keep (done format behaviour)
  instruction keep format behaviour = pictured_instruction Tree (Option Kept) Effect (Option KeptEffect) (statements trees) (stating_as keep) (within keep) (effect_within keep) (stating_is_picture keep) all known format behaviour

  excess_kept : (name : Name) (x : Effect) → kept_excess name (effect_within counts x) ≡ excess name (Some x)
  excess_kept name x = by (nat_le (effect_size x) most_nodes)
    where
      by : (b : Bool) → kept_excess name (if b then Some (record { effect = shown_effect counts x; nodes = effect_size x }) else None) ≡ (if b then [] else name.at ∷ [])
      by true = refl
      by false = refl

  pub same_excess : (item : Item) → item_kept_excess counts all (kept_known counts known) item ≡ item_excess all known item
  same_excess (items.Instruction at name format behaviour) = ap (kept_excess name) (instruction counts format behaviour) ∙ excess_kept name (done format behaviour)
  same_excess _ = refl

  pub same_excesses : (more : List Item) → in_each (item_kept_excess counts all (kept_known counts known)) more ≡ in_each (item_excess all known) more
  same_excesses [] = refl
  same_excesses (item ∷ more) = ap (λ (l : List ℕ). l ++ in_each (item_kept_excess counts all (kept_known counts known)) more) (same_excess item) ∙ ap (λ (l : List ℕ). item_excess all known item ++ l) (same_excesses more)

  -- where trees of up to so many nodes are kept, a statement that doesn't have more is kept whole
  tree_whole : (most : ℕ) (x : Effect) → effect_size x ≤ most_nodes → effect_size x ≤ most → effect_kept (effect_within (trees_up_to most) x) ≡ Some x
  tree_whole most x le few = ap effect_kept (effect_few (trees_up_to most) (effect_size x) x (omega arith))

  not_excess : (name : Name) (x : Effect) → excess name (Some x) ≡ [] → effect_size x ≤ most_nodes
  not_excess name x = by (nat_le (effect_size x) most_nodes) refl
    where
      by : (b : Bool) → nat_le (effect_size x) most_nodes ≡ b → (if b then [] else name.at ∷ []) ≡ [] → effect_size x ≤ most_nodes
      by true is e = leb-true (effect_size x) most_nodes is
      by false is e = absurd (cc)

  -- an instruction that doesn't have too many nodes, nor more than so many, is kept whole
  pub kept_whole : (most : ℕ) (item : Item) → item_excess all known item ≡ [] → item_fits counts all (kept_known counts known) most item ≡ true
      → behaviour_kept (trees_up_to most) all (kept_known (trees_up_to most) known) item ≡ behaviour_of all known item
  kept_whole most (items.Instruction at name format behaviour) none fit =
      let x = done format behaviour in
      let le = not_excess name x none in
      let counted : fits most (effect_within counts x) ≡ true = ap (fits most) (sym (instruction counts format behaviour)) ∙ fit in
      let nodes : nat_le (effect_size x) most ≡ true = ap (fits most) (sym (effect_few counts (effect_size x) x le)) ∙ counted in
      ap effect_kept (instruction (trees_up_to most) format behaviour) ∙ tree_whole most x le (leb-true (effect_size x) most nodes)
  kept_whole most _ none fit = refl

  nothing_left : (xs ys : List ℕ) → xs ++ ys ≡ [] → (xs ≡ []) × (ys ≡ [])
  nothing_left [] ys e = (refl, e)
  nothing_left (x ∷ xs) ys e = absurd (cc)

  pub all_whole : (most : ℕ) (more : List Item) → in_each (item_excess all known) more ≡ [] → list_all (item_fits counts all (kept_known counts known) most) more ≡ true
      → map (behaviour_kept (trees_up_to most) all (kept_known (trees_up_to most) known)) more ≡ map (behaviour_of all known) more
  all_whole most [] e fit = refl
  all_whole most (item ∷ more) e fit =
      let parts = nothing_left (item_excess all known item) (in_each (item_excess all known) more) e in
      let fitting = and_parts (item_fits counts all (kept_known counts known) most item) (list_all (item_fits counts all (kept_known counts known) most) more) fit in
      ap (λ (x : Option Effect). x ∷ map (behaviour_kept (trees_up_to most) all (kept_known (trees_up_to most) known)) more) (kept_whole most item parts.0 fitting.0)
      ∙ ap (λ (l : List (Option Effect)). behaviour_of all known item ∷ l) (all_whole most more parts.1 fitting.1)
