use Rattle.std.proofs.Common.{◌≡◌, drop}
use Rattle.vg_decode.specs.Decoding.{first_fit}
use Rattle.vg_decode.proofs.candidate.first_fit.Given as goal

-- the word fits none so far, so those from here on decide
abbrev pub invariant-loop-candidate : goal.invariant-loop-candidate
invariant-loop-candidate l = first_fit (drop l.candidate-index l.candidates) l.word ≡ first_fit l.candidates l.word
