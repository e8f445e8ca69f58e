-- Instructions that don't have more nodes than the greatest.
use Rattle.std.proofs.Common.{◌≡◌, ℕ, ◌+◌, ◌<◌, ◌≤◌, Bool, true, ◌&&◌, List, [], ◌∷◌, Option, Some, None, length, get_or, refl, sym, ap, ◌∙◌, arith}
use Rattle.std.specs.Prelude.{take}
use Rattle.std.specs.List.{list_all}
use Rattle.std.proofs.lemmas.Bool.{and_parts, leb-true, le-leb}
use Rattle.std.proofs.lemmas.List.{take_more, take_all}
use Rattle.std.proofs.lemmas.List.Folds.{list_all-append}
use Rattle.vg_ast.specs.declared.item.Item.{Item}
use Rattle.vg_ast.specs.declared.item.Item.TheVariants as items
use Rattle.vg_inline.specs.declared.keep.Keep.{Keep}
use Rattle.vg_inline.specs.declared.kept.Kept.{Kept}
use Rattle.vg_inline.specs.declared.kept.KeptEffect.{KeptEffect}
use Rattle.vg_inline.specs.Inline.{Known}
use Rattle.vg_inline.specs.KeptBehaviour.{fits, item_fits, instruction_kept}

fits_more : (most next : ℕ) → most ≤ next → (x : Option KeptEffect) → fits most x ≡ true → fits next x ≡ true
fits_more most next le None e = refl
fits_more most next le (Some x) e = let few : x.nodes ≤ most = leb-true x.nodes most e in le-leb x.nodes next (omega arith)

module _ (keep : Keep) (all : List Item) (known : Known (Option Kept)) where
  item_more : (most next : ℕ) → most ≤ next → (item : Item) → item_fits keep all known most item ≡ true → item_fits keep all known next item ≡ true
  item_more most next le (items.Instruction at name format behaviour) e = fits_more most next le (instruction_kept keep all known format behaviour) e
  item_more most next le _ e = refl

  all_more : (most next : ℕ) → most ≤ next → (xs : List Item) → list_all (item_fits keep all known most) xs ≡ true → list_all (item_fits keep all known next) xs ≡ true
  all_more most next le [] e = refl
  all_more most next le (x ∷ xs) e =
      let parts = and_parts (item_fits keep all known most x) (list_all (item_fits keep all known most) xs) e in
      ap (λ (b : Bool). b && list_all (item_fits keep all known next) xs) (item_more most next le x parts.0) ∙ all_more most next le xs parts.1

  -- those before number i fit
  abbrev pub Fitting : List Item → ℕ → ℕ → Type 0
  Fitting xs i most = list_all (item_fits keep all known most) (take i xs) ≡ true

  pub fitting_more : (xs : List Item) (i most next : ℕ) (x : Item) → Fitting xs i most → i < length xs → x ≡ get_or xs i x → most ≤ next → item_fits keep all known next x ≡ true → Fitting xs (i + 1) next
  fitting_more xs i most next x h lt read le e =
      ap (list_all (item_fits keep all known next)) (take_more xs i x lt)
      ∙ list_all-append (item_fits keep all known next) (take i xs) (get_or xs i x ∷ [])
      ∙ ap (λ (b : Bool). b && (item_fits keep all known next (get_or xs i x) && true)) (all_more most next le (take i xs) h)
      ∙ ap (λ (y : Item). item_fits keep all known next y && true) (sym read) ∙ ap (λ (b : Bool). b && true) e

  pub fitting_all : (xs : List Item) (i most : ℕ) → Fitting xs i most → length xs ≤ i → list_all (item_fits keep all known most) xs ≡ true
  fitting_all xs i most h le = ap (list_all (item_fits keep all known most)) (sym (take_all i xs le)) ∙ h
