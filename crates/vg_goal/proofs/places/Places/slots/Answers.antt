-- One more value has its slot.
use Rattle.std.proofs.Common.{◌∷◌, ◌++◌, [], sym, ap, ◌∙◌, zero-add, List, rules, ◌≡◌}
use Rattle.std.proofs.lemmas.List.FromFn.{map-range_with_len_more}
use Rattle.vg_goal.specs.declared.place.Place.{Place}
use Rattle.vg_goal.specs.Slots.{slot_of}
use Rattle.vg_goal.proofs.places.Places.slots.Goals as goal

pub loop-value-preserved : goal.loop-value-preserved
loop-value-preserved c =
    let value = c.loop-value.value in
    let pushed : c.push.new.self.items ≡ c.loop-value.places.items ++ slot_of value ∷ [] = search rules in
    pushed
    ∙ ap (λ (xs : List Place). xs ++ slot_of value ∷ []) c.loop-value.invariant
    ∙ sym (map-range_with_len_more slot_of 0 value value (zero-add value))
