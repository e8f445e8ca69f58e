-- The first instruction with too many nodes, by what is known of the items.
use Rattle.std.proofs.Common.{◌≡◌, List, Option, ap, ◌∙◌}
use Rattle.vg_ast.specs.declared.item.Item.{Item}
use Rattle.vg_names.specs.First.{first_of}
use Rattle.vg_names.specs.Unknown.{in_each}
use Rattle.vg_whole.specs.Worths.{constants_of, constants_by}
use Rattle.vg_whole.specs.declared.worth.Worth.{Worth}
use Rattle.vg_inline.specs.declared.declared.Declared.{Declared}
use Rattle.vg_inline.specs.declared.kept.Kept.{Kept}
use Rattle.vg_inline.specs.Types.{aliases_of}
use Rattle.vg_inline.specs.Inline.{Known as KnownAs, bodies_of}
use Rattle.vg_inline.specs.Kept.{counts, keeping}
use Rattle.vg_inline.specs.Context.{aliases_by, bodies_by, known_by}
use Rattle.vg_inline.specs.InPlace.{known_of, excesses}
use Rattle.vg_inline.specs.KeptBehaviour.{item_kept_excess}
use Rattle.vg_inline.proofs.WholeBehaviours.{known_kept, same_excesses}

pub first_excess : (all : List Item) (worths : List Worth) (aliases : List Declared) (bodies : List (Option Kept)) → constants_by all worths ≡ constants_of all → aliases_by all aliases ≡ aliases_of all (constants_of all)
    → bodies_by all bodies ≡ bodies_of keeping all (constants_of all) (aliases_of all (constants_of all))
    → first_of (in_each (item_kept_excess counts all (known_by all (constants_by all worths) (aliases_by all aliases) bodies)) all) ≡ first_of (excesses all)
first_excess all worths aliases bodies constant alias body =
    ap (λ (k : KnownAs (Option Kept)). first_of (in_each (item_kept_excess counts all k) all)) ((λ i. record { constants = constant i; aliases = alias i; bodies = body i }) ∙ known_kept counts all)
    ∙ ap first_of (same_excesses all (known_of all) all)
