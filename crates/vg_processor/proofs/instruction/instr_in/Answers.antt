-- The frame is in the setting, and of the format.
use Rattle.std.proofs.Common.{◌≡◌, ap, ◌∙◌}
use Rattle.std.proofs.lemmas.Result.{IfOk-weaker}
use Rattle.vg_isa.specs.declared.instr.Instr.{Instr}
use Rattle.vg_names.specs.Definition.{Text}
use Rattle.vg_type.specs.declared.setting.Setting.{Setting}
use Rattle.vg_type.specs.Setting.{setting_in}
use Rattle.vg_processor.specs.IsaOf.{instr_of}
use Rattle.vg_processor.proofs.instruction.instr_in.Goals as goal

pub returns : goal.returns
returns c =
    let frame = c.named_frame-frame.result in
    IfOk-weaker c.instr_of-made.result
    (λ (it : Instr). it ≡ instr_of (setting_in frame.setting.now.context.now) c.args.name.now frame.name.now c.args.effect.now)
    (λ (it : Instr). it ≡ instr_of (setting_in c.args.machine.now.setting.now.context.now) c.args.name.now c.args.format.now c.args.effect.now)
    (λ it h.
    h ∙ ap (λ (s : Setting). instr_of (setting_in s.context.now) c.args.name.now frame.name.now c.args.effect.now) c.named_frame-frame.ensures.setting
    ∙ ap (λ (text : Text). instr_of (setting_in c.args.machine.now.setting.now.context.now) c.args.name.now text c.args.effect.now) c.named_frame-frame.ensures.name)
    c.instr_of-made.ensures
