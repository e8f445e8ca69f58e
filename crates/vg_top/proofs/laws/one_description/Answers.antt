-- By the laws of the readers.
use Rattle.vg_top.proofs.EachText.{each_text}
use Rattle.vg_top.proofs.OneDescription as one
use Rattle.vg_top.proofs.laws.one_description.Goals as goal

pub returns : goal.returns
returns c = record {
  some = each_text;
  description = one.one_description;
  broken = one.one_broken;
  unbuilt = one.one_unbuilt;
  description_or_broken = one.described_or_broken;
  description_or_unbuilt = one.described_or_unbuilt;
  unbuilt_or_broken = one.unbuilt_or_broken;
}
