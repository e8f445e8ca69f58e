-- By the trees of types.
use Rattle.vg_irparse.proofs.TypesComplete.{type_complete}
use Rattle.vg_irparse.proofs.TypesSound.{type_sound}
use Rattle.vg_irparse.proofs.TypesPlace.{type_placed}
use Rattle.vg_irparse.proofs.laws.exact_types.Goals as goal

pub returns-clause-sound : goal.returns-clause-sound
returns-clause-sound c = type_sound

pub returns-clause-complete : goal.returns-clause-complete
returns-clause-complete c = type_complete

pub returns-clause-placed : goal.returns-clause-placed
returns-clause-placed c = type_placed
