-- Two refusals are told at the first place of one rule.
use Rattle.vg_ircheck.proofs.Refusals.{one_refusal}
use Rattle.vg_ircheck.proofs.laws.one_refusal.Goals as goal

pub returns : goal.returns
returns c = one_refusal
