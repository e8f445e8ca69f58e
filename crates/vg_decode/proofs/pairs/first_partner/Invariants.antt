use Rattle.std.proofs.Common.{◌≡◌, drop}
use Rattle.vg_decode.specs.Pairs.{first_partner}
use Rattle.vg_decode.proofs.pairs.first_partner.Given as goal

-- none so far shares a word, so those from here on decide
abbrev pub invariant-loop-other : goal.invariant-loop-other
invariant-loop-other l = first_partner l.one (drop l.other-index l.later) ≡ first_partner l.one l.later
