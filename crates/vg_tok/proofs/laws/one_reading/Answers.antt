-- By the longest token in each place, and since no element stands where a row of them ends.
use Rattle.vg_tok.proofs.Total.{tokens_or_first_fault}
use Rattle.vg_tok.proofs.Unique.{tokens_once, first_fault_once, tokens_or_fault}
use Rattle.vg_tok.proofs.laws.one_reading.Goals as goal

pub returns : goal.returns
returns c = record { tokens = tokens_once; fault = first_fault_once; either = λ bytes ts f x y. tokens_or_fault bytes ts f x y; some = tokens_or_first_fault }
