-- An act or `forward` is at fault, or something lacks.
use Rattle.std.proofs.Common.{◌≡◌, [], Some, None, if◌then◌else◌, ap, sym, ◌∙◌, rules}
use Rattle.vg_inline.specs.Context.{items_of}
use Rattle.vg_inline.specs.InPlace.{known_of}
use Rattle.vg_type.specs.Item.{setting_of}
use Rattle.vg_type.specs.Setting.{setting_in}
use Rattle.vg_stage.specs.StageMet.{first_wrong_line}
use Rattle.vg_stage.specs.StageOrder.{acts_from}
use Rattle.vg_stage.proofs.StageWhole.{break_within, break_behind}
use Rattle.vg_stage.proofs.stage_order.micro_break.Goals as goal

pub returns-in-Some : goal.returns-in-Some
returns-in-Some c =
    let all = c.args.plain.now.description.items in
    break_within (setting_in c.args.setting.now.context.now) (setting_of all) (known_of all) c.args.micro.now c.as_slice-lines.result.now c.requires.setting c.as_slice-lines.ensures c.in-Some.at (sym c.in-Some.is ∙ c.in_ok-at.ensures)

pub returns-then-branch : goal.returns-then-branch
returns-then-branch c =
    let all = c.args.plain.now.description.items in
    let none : None ≡ first_wrong_line (items_of c.args.setting.now.context.now) (acts_from 0 c.as_slice-lines.result.now) [] 0 c.as_slice-lines.result.now = search rules in
    ap (λ b. if b then Some c.args.micro.now.close else None) (sym c.if-branch.true)
    ∙ break_behind (setting_in c.args.setting.now.context.now) (setting_of all) (known_of all) c.args.micro.now c.as_slice-lines.result.now c.requires.setting c.as_slice-lines.ensures _ none c.in_ok-lack.ensures

pub returns-else-branch : goal.returns-else-branch
returns-else-branch c =
    let all = c.args.plain.now.description.items in
    let none : None ≡ first_wrong_line (items_of c.args.setting.now.context.now) (acts_from 0 c.as_slice-lines.result.now) [] 0 c.as_slice-lines.result.now = search rules in
    ap (λ b. if b then Some c.args.micro.now.close else None) (sym c.if-branch.false)
    ∙ break_behind (setting_in c.args.setting.now.context.now) (setting_of all) (known_of all) c.args.micro.now c.as_slice-lines.result.now c.requires.setting c.as_slice-lines.ensures _ none c.in_ok-lack.ensures
