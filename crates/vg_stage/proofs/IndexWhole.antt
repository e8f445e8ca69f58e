-- The first index at fault of all instructions.
use Rattle.std.proofs.Common.{◌≡◌, ℕ, zero, suc, ◌+◌, List, flat_map, [], ◌∷◌, ◌++◌, drop, add-one, slice_get, Option, Some, refl, ap, sym, ◌∙◌}
use Rattle.std.specs.Option.{option_map}
use Rattle.vg_ast.specs.declared.item.Item.{Item}
use Rattle.vg_ast.specs.declared.item.Item.TheVariants as items
use Rattle.vg_inline.specs.InPlace.{Known, behaviour_of}
use Rattle.vg_names.specs.First.{first_of}
use Rattle.vg_names.specs.Unknown.{in_each}
use Rattle.vg_type.specs.Item.{Setting}
use Rattle.vg_tree.specs.Access.{in_behaviour, in_instruction, indices_not_fields, wrong_indices}
use Rattle.vg_stage.specs.Earliest.{earlier, least}
use Rattle.vg_stage.proofs.EarliestLemmas.{earlier_assoc, least_append, first_in_order}
use Rattle.vg_stage.proofs.IndexLemmas.{LeastLeft}

same_some : {Y : Type 0} (a b : Y) → Some a ≡ Some b → a ≡ b
same_some a b h = cc

places_at : {X Y : Type 0} (places : Y → List ℕ) (done : X → Y) (xs : List X) (n : ℕ) (y : Y) → Some y ≡ option_map done (slice_get xs n) → flat_map (λ (x : X). places (done x)) (drop n xs) ≡ places y ++ flat_map (λ (x : X). places (done x)) (drop (suc n) xs)
places_at places done [] n y e = absurd (cc)
places_at places done (x ∷ xs) zero y e = ap (λ ys. ys ++ flat_map (λ x. places (done x)) xs) (ap places (sym (same_some y (done x) e)))
places_at places done (x ∷ xs) (suc n) y e = places_at places done xs n y e

-- the places of what one item does, and of what those behind it do
places_from : {X Y : Type 0} (places : Y → List ℕ) (done : X → Y) (xs : List X) (n : ℕ) (y : Y) → Some y ≡ option_map done (slice_get xs n) → flat_map (λ (x : X). places (done x)) (drop n xs) ≡ places y ++ flat_map (λ (x : X). places (done x)) (drop (n + 1) xs)
places_from places done xs n y e = places_at places done xs n y e ∙ ap (λ m. places y ++ flat_map (λ x. places (done x)) (drop m xs)) (sym (add-one n))

pub least_done : {X Y : Type 0} (places : Y → List ℕ) (done : X → Y) (xs : List X) (n : ℕ) (y : Y) (first next found : Option ℕ) → LeastLeft (λ (x : X). places (done x)) xs n first → Some y ≡ option_map done (slice_get xs n) → found ≡ least (places y) → next ≡ earlier first found → LeastLeft (λ (x : X). places (done x)) xs (n + 1) next
least_done places done xs n y first next found h e f g =
    ap (λ o. earlier o (least (flat_map (λ x. places (done x)) (drop (n + 1) xs)))) (g ∙ ap (earlier first) f)
    ∙ earlier_assoc first (least (places y)) (least (flat_map (λ x. places (done x)) (drop (n + 1) xs)))
    ∙ ap (earlier first) (sym (least_append (places y) (flat_map (λ x. places (done x)) (drop (n + 1) xs))) ∙ ap least (sym (places_from places done xs n y e)))
    ∙ h

module _ (setting : Setting) (known : Known) where
  one_item : (item : Item) → in_instruction setting known (λ frame x. wrong_indices x) item ≡ in_behaviour wrong_indices (behaviour_of setting.all known item)
  one_item (items.Instruction at name format behaviour) = refl
  one_item (items.Constant at name value) = refl
  one_item (items.Using at name meaning) = refl
  one_item (items.Function at name parameters given body) = refl
  one_item (items.ProgramCounter at name given) = refl
  one_item (items.Memory at name address cell) = refl
  one_item (items.Register at name given) = refl
  one_item (items.RegisterFile at name index given constant) = refl
  one_item (items.Format at name given fields) = refl
  one_item (items.Encoding at name fixes) = refl
  one_item (items.Assembly at name row) = refl

  each_item : (xs : List Item) → in_each (in_instruction setting known (λ frame x. wrong_indices x)) xs ≡ flat_map (λ item. in_behaviour wrong_indices (behaviour_of setting.all known item)) xs
  each_item [] = refl
  each_item (item ∷ xs) = ap (λ ys. ys ++ in_each (in_instruction setting known (λ frame x. wrong_indices x)) xs) (one_item item) ∙ ap (λ ys. in_behaviour wrong_indices (behaviour_of setting.all known item) ++ ys) (each_item xs)

  -- the first place is the least
  pub first_index : first_of (indices_not_fields setting known) ≡ least (flat_map (λ item. in_behaviour wrong_indices (behaviour_of setting.all known item)) setting.all)
  first_index = first_in_order (in_each (in_instruction setting known (λ frame x. wrong_indices x)) setting.all) ∙ ap least (each_item setting.all)
