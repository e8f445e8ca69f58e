use Rattle.std.proofs.Common.{◌<◌, ◌^◌, get_or, ap, ◌∙◌, subst}
use Rattle.vg_format.specs.Replaced.{with_range}
use Rattle.vg_format.proofs.FieldLemmas.{only_range}
use Rattle.vg_format.proofs.setting.number_with.Goals as goal

pub returns-in-len1 : goal.returns-in-len1
returns-in-len1 c =
    c.with_range.ensures
    ∙ ap (with_range (get_or c.args.ranges.now 0 (0, 0)) c.args.word) c.value.ensures.value
    ∙ only_range c.args.ranges.now c.args.word c.args.value.number c.in-len1.len_at_least c.in-len1.len_below
    (subst (λ n. c.args.value.number < 2 ^ n) c.requires.value c.value.ensures.below)
