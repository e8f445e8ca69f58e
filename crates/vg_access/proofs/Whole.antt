-- The second reads of all instructions.
use Rattle.std.proofs.Common.{◌≡◌, ℕ, suc, zero, List, flat_map, [], ◌∷◌, ◌++◌, get_or, slice_get, Some, refl, ap, ◌∙◌}
use Rattle.std.specs.Option.{option_map}
use Rattle.vg_ast.specs.declared.item.Item.{Item}
use Rattle.vg_inline.specs.InPlace.{Known}
use Rattle.vg_names.specs.First.{first_of}
use Rattle.vg_names.specs.Unknown.{in_each}
use Rattle.vg_type.specs.Item.{Setting}
use Rattle.vg_tree.specs.Access.{in_instruction, second_readings, two_accesses}
use Rattle.vg_stage.specs.Earliest.{least}
use Rattle.vg_stage.proofs.EarliestLemmas.{first_in_order}

each_is : (places : Item → List ℕ) (xs : List Item) → in_each places xs ≡ flat_map places xs
each_is places [] = refl
each_is places (x ∷ xs) = ap (λ ys. places x ++ ys) (each_is places xs)

-- the first place is the least
pub first_access : (setting : Setting) (known : Known) → first_of (two_accesses setting known) ≡ least (flat_map (in_instruction setting known second_readings) setting.all)
first_access setting known =
    first_in_order (in_each (in_instruction setting known second_readings) setting.all) ∙ ap least (each_is (in_instruction setting known second_readings) setting.all)

same_some : {Y : Type 0} (a b : Y) → Some a ≡ Some b → a ≡ b
same_some a b h = cc

-- what was worked out of the element at a number
pub done_at : {X Y : Type 0} (done : X → Y) (xs : List X) (n : ℕ) (y : Y) (d : X) → Some y ≡ option_map done (slice_get xs n) → y ≡ done (get_or xs n d)
done_at done [] n y d e = absurd (cc)
done_at done (x ∷ xs) zero y d e = same_some y (done x) e
done_at done (x ∷ xs) (suc n) y d e = done_at done xs n y d e
