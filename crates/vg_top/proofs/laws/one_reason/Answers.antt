use Rattle.vg_top.proofs.EachText.{each_reason}
use Rattle.vg_top.proofs.OneReason as one
use Rattle.vg_top.proofs.laws.one_reason.Goals as goal

pub returns : goal.returns
returns c = record { some = each_reason; alike = one.one_reason; described_or_refused = one.described_or_refused }
