-- By the pieces of the tokens, which are read in one way at most.
use Rattle.vg_parse.proofs.Readers.{readers}
use Rattle.vg_parse.proofs.Place.{tree_once, place_once, tree_or_place, not_both}
use Rattle.vg_parse.proofs.laws.one_tree.Goals as goal

pub returns : goal.returns
returns c = record {
  tree = tree_once readers;
  place = place_once readers;
  some = tree_or_place readers;
  either = λ t d at x y. not_both t d at x y;
}
