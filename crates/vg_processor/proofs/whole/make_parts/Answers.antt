-- The setting is that of the description.
use Rattle.std.proofs.Common.{◌≡◌, ap, ◌∙◌}
use Rattle.std.proofs.lemmas.Result.{IfOk-weaker}
use Rattle.vg_inline.specs.InPlace.{known_of}
use Rattle.vg_isa.specs.declared.isa.Parts.{Parts}
use Rattle.vg_type.specs.declared.setting.Setting.{Setting}
use Rattle.vg_type.specs.Setting.{setting_in}
use Rattle.vg_processor.specs.IsaOf.{isa_by, isa_of}
use Rattle.vg_processor.proofs.WholeLemmas.{whole_is}
use Rattle.vg_processor.proofs.whole.make_parts.Goals as goal

pub returns : goal.returns
returns c =
    let d = c.args.plain.now.description in
    IfOk-weaker c.parts_of-parts.result
    (λ (it : Parts). it ≡ isa_by (setting_in c.in_ok-machine.machine.setting.now.context.now) (known_of d.items) d)
    (λ (it : Parts). it ≡ isa_of d)
    (λ it h.
    whole_is (setting_in c.args.setting.now.context.now) d it
    (h ∙ ap (λ (s : Setting). isa_by (setting_in s.context.now) (known_of d.items) d) c.in_ok-machine.ensures) c.requires.setting)
    c.parts_of-parts.ensures
