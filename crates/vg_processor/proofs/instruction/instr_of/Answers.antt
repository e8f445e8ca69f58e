-- The instruction is that of its parts.
use Rattle.std.proofs.Common.{flat_map, ap, ◌∙◌}
use Rattle.std.specs.List.{filter_map}
use Rattle.vg_names.specs.Definition.{Text}
use Rattle.vg_type.specs.Setting.{setting_in}
use Rattle.vg_processor.specs.IsaOf.{bytes_of, first_some, fixed_by, template_by}
use Rattle.vg_processor.proofs.InstrLemmas.{instr_is}
use Rattle.vg_processor.proofs.instruction.instr_of.Goals as goal

pub returns : goal.returns
returns c =
    let setting = setting_in c.args.frame.now.setting.now.context.now in
    let format = c.args.frame.now.name.now in
    c.instr_from.ensures
    ∙ instr_is setting c.args.name.now format c.args.effect.now c.in_ok-written.written c.args.frame.now.format c.in_ok-fixed.fixed c.in_ok-template.template c.in_ok-outcome.outcome
    (c.in_ok-written.ensures ∙ ap (λ (text : Text). bytes_of text) c.as_slice.ensures) c.args.frame.now.placed
    (c.in_ok-fixed.ensures ∙ ap (λ (text : Text). flat_map (fixed_by setting text format) setting.all) c.as_slice-2.ensures)
    (c.in_ok-template.ensures ∙ ap (λ (text : Text). first_some (filter_map (template_by setting text format) setting.all)) c.as_slice-3.ensures)
    c.in_ok-outcome.ensures
