use Rattle.vg_inline.specs.InPlace.{behaviour_of, known_of}
use Rattle.vg_tree.specs.Access.{in_behaviour, wrong_indices}
use Rattle.vg_stage.proofs.IndexLemmas.{LeastLeft}
use Rattle.vg_stage.proofs.index_field.first_index_not_field.Given as goal

abbrev pub invariant-loop-number : goal.invariant-loop-number
invariant-loop-number l =
    let all = l.plain.description.items in
    LeastLeft (λ item. in_behaviour wrong_indices (behaviour_of all (known_of all) item)) all l.number l.first
