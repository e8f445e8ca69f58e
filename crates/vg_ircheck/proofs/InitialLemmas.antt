-- The fold over initialisers, by the form of the initialiser.
use Rattle.std.proofs.Common.{◌≡◌, ℕ, Bool, List, map, sym, ap, ◌∙◌}
use Rattle.vg_ir.specs.declared.name.Name.{Name}
use Rattle.vg_ir.specs.declared.spot.Spot.{Spot}
use Rattle.vg_ir.specs.declared.number.Number.{Number}
use Rattle.vg_ir.specs.declared.ty.Ty.{Ty}
use Rattle.vg_ir.specs.declared.ty.TypeAt.{TypeAt}
use Rattle.vg_ir.specs.declared.initializer.Initializer.{Initializer, fold-roll-Initializer}
use Rattle.vg_ir.specs.declared.initializer.Initializer.TheOpen.{Initializer-F}
use Rattle.vg_ir.specs.declared.initializer.Initializer.TheVariants as initial
use Rattle.vg_ir.specs.declared.module.Parts.{Parts}
use Rattle.vg_ircheck.specs.InitialTyping.{Judged, initial_step, initial_places}

module _ (m : Parts) (fits : Bool) (t : Ty) where
  pub places_Number : (n : Number) (at : Spot) → initial_places m (initial.Number n at) fits t ≡ initial_step m (Initializer-F.Number n at) fits t
  places_Number n at = ap (λ i. initial_places m i fits t) (sym (initial.rolls-Number n at)) ∙ ap (λ (f : Judged). f fits t) (fold-roll-Initializer Judged (initial_step m) (Initializer-F.Number n at))

  pub places_Array : (elements : List (TypeAt × Initializer)) (at : Spot) → initial_places m (initial.Array elements at) fits t ≡ initial_step m (Initializer-F.Array (map (λ (e : TypeAt × Initializer). (e.0, initial_places m e.1)) elements) at) fits t
  places_Array elements at = ap (λ i. initial_places m i fits t) (sym (initial.rolls-Array elements at)) ∙ ap (λ (f : Judged). f fits t) (fold-roll-Initializer Judged (initial_step m) (Initializer-F.Array elements at))

  pub places_True : (at : Spot) → initial_places m (initial.True at) fits t ≡ initial_step m (Initializer-F.True at) fits t
  places_True at = ap (λ i. initial_places m i fits t) (sym (initial.rolls-True at)) ∙ ap (λ (f : Judged). f fits t) (fold-roll-Initializer Judged (initial_step m) (Initializer-F.True at))

  pub places_False : (at : Spot) → initial_places m (initial.False at) fits t ≡ initial_step m (Initializer-F.False at) fits t
  places_False at = ap (λ i. initial_places m i fits t) (sym (initial.rolls-False at)) ∙ ap (λ (f : Judged). f fits t) (fold-roll-Initializer Judged (initial_step m) (Initializer-F.False at))

  pub places_Null : (at : Spot) → initial_places m (initial.Null at) fits t ≡ initial_step m (Initializer-F.Null at) fits t
  places_Null at = ap (λ i. initial_places m i fits t) (sym (initial.rolls-Null at)) ∙ ap (λ (f : Judged). f fits t) (fold-roll-Initializer Judged (initial_step m) (Initializer-F.Null at))

  pub places_Zero : (at : Spot) → initial_places m (initial.Zero at) fits t ≡ initial_step m (Initializer-F.Zero at) fits t
  places_Zero at = ap (λ i. initial_places m i fits t) (sym (initial.rolls-Zero at)) ∙ ap (λ (f : Judged). f fits t) (fold-roll-Initializer Judged (initial_step m) (Initializer-F.Zero at))

  pub places_Undef : (at : Spot) → initial_places m (initial.Undef at) fits t ≡ initial_step m (Initializer-F.Undef at) fits t
  places_Undef at = ap (λ i. initial_places m i fits t) (sym (initial.rolls-Undef at)) ∙ ap (λ (f : Judged). f fits t) (fold-roll-Initializer Judged (initial_step m) (Initializer-F.Undef at))

  pub places_Poison : (at : Spot) → initial_places m (initial.Poison at) fits t ≡ initial_step m (Initializer-F.Poison at) fits t
  places_Poison at = ap (λ i. initial_places m i fits t) (sym (initial.rolls-Poison at)) ∙ ap (λ (f : Judged). f fits t) (fold-roll-Initializer Judged (initial_step m) (Initializer-F.Poison at))

  pub places_Text : (text : List ℕ) (at : Spot) → initial_places m (initial.Text text at) fits t ≡ initial_step m (Initializer-F.Text text at) fits t
  places_Text text at = ap (λ i. initial_places m i fits t) (sym (initial.rolls-Text text at)) ∙ ap (λ (f : Judged). f fits t) (fold-roll-Initializer Judged (initial_step m) (Initializer-F.Text text at))

  pub places_Global : (n : Name) (at : Spot) → initial_places m (initial.Global n at) fits t ≡ initial_step m (Initializer-F.Global n at) fits t
  places_Global n at = ap (λ i. initial_places m i fits t) (sym (initial.rolls-Global n at)) ∙ ap (λ (f : Judged). f fits t) (fold-roll-Initializer Judged (initial_step m) (Initializer-F.Global n at))

  pub places_Struct : (fields : List (TypeAt × Initializer)) (at : Spot) → initial_places m (initial.Struct fields at) fits t ≡ initial_step m (Initializer-F.Struct (map (λ (e : TypeAt × Initializer). (e.0, initial_places m e.1)) fields) at) fits t
  places_Struct fields at = ap (λ i. initial_places m i fits t) (sym (initial.rolls-Struct fields at)) ∙ ap (λ (f : Judged). f fits t) (fold-roll-Initializer Judged (initial_step m) (Initializer-F.Struct fields at))
