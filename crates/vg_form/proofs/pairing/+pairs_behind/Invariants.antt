use Rattle.vg_form.proofs.pairing.+pairs_behind.Given as goal

abbrev pub decreases-pairs_behind : goal.decreases-pairs_behind
decreases-pairs_behind l = l.room
