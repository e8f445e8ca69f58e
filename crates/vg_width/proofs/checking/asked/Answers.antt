-- Each rule is asked behind those before it.
use Rattle.std.proofs.Common.{◌≡◌, None, refl, sym, ◌∙◌}
use Rattle.vg_rule.specs.declared.desc_fault.DescFault.TheVariants as faults
use Rattle.vg_width.proofs.Asked.{width_told, range_told, cover_told, value_told, write_told, access_told, index_told, role_told, stage_told, limit_told, all_kept}
use Rattle.vg_width.proofs.checking.asked.Goals as goal

pub returns-in-Some-clause-fault : goal.returns-in-Some-clause-fault
returns-in-Some-clause-fault c =
    width_told c.args.plain.now.description
    (faults.Width c.in-Some.at)
    (refl, sym c.first_faults-mistyped.ensures.widths ∙ c.in-Some.is)

pub returns-in-Some-range-clause-fault : goal.returns-in-Some-range-clause-fault
returns-in-Some-range-clause-fault c =
    range_told c.args.plain.now.description
    (sym c.first_faults-mistyped.ensures.widths ∙ c.in_default.is) (faults.Range c.in-Some-range.at)
    (refl, sym c.first_faults-mistyped.ensures.ranges ∙ c.in-Some-range.is)

pub returns-in-Some-uncovered-clause-fault : goal.returns-in-Some-uncovered-clause-fault
returns-in-Some-uncovered-clause-fault c =
    cover_told c.args.plain.now.description
    (sym c.first_faults-mistyped.ensures.widths ∙ c.in_default.is)
    (sym c.first_faults-mistyped.ensures.ranges ∙ c.in_default-range.is) (faults.FieldCover c.in-Some-uncovered.at)
    (refl, sym c.uncovered.ensures ∙ c.in-Some-uncovered.is)

pub returns-in-Some-2-clause-fault : goal.returns-in-Some-2-clause-fault
returns-in-Some-2-clause-fault c =
    value_told c.args.plain.now.description
    (sym c.first_faults-mistyped.ensures.widths ∙ c.in_default.is)
    (sym c.first_faults-mistyped.ensures.ranges ∙ c.in_default-range.is)
    (sym c.uncovered.ensures ∙ c.in_default-uncovered.is) (faults.FieldValue c.in-Some-2.at)
    (refl, sym c.in_ok-at.ensures ∙ c.in-Some-2.is)

pub returns-in-Some-3-clause-fault : goal.returns-in-Some-3-clause-fault
returns-in-Some-3-clause-fault c =
    write_told c.args.plain.now.description
    (sym c.first_faults-mistyped.ensures.widths ∙ c.in_default.is)
    (sym c.first_faults-mistyped.ensures.ranges ∙ c.in_default-range.is)
    (sym c.uncovered.ensures ∙ c.in_default-uncovered.is)
    (sym c.in_ok-at.ensures ∙ c.in_default-2.is) (faults.TwoWrites c.in-Some-3.at)
    (refl, sym c.in_ok-at-2.ensures ∙ c.in-Some-3.is)

pub returns-in-Some-4-clause-fault : goal.returns-in-Some-4-clause-fault
returns-in-Some-4-clause-fault c =
    access_told c.args.plain.now.description
    (sym c.first_faults-mistyped.ensures.widths ∙ c.in_default.is)
    (sym c.first_faults-mistyped.ensures.ranges ∙ c.in_default-range.is)
    (sym c.uncovered.ensures ∙ c.in_default-uncovered.is)
    (sym c.in_ok-at.ensures ∙ c.in_default-2.is)
    (sym c.in_ok-at-2.ensures ∙ c.in_default-3.is) (faults.TwoAccesses c.in-Some-4.at)
    (refl, sym c.in_ok-at-3.ensures ∙ c.in-Some-4.is)

pub returns-in-Some-5-clause-fault : goal.returns-in-Some-5-clause-fault
returns-in-Some-5-clause-fault c =
    index_told c.args.plain.now.description
    (sym c.first_faults-mistyped.ensures.widths ∙ c.in_default.is)
    (sym c.first_faults-mistyped.ensures.ranges ∙ c.in_default-range.is)
    (sym c.uncovered.ensures ∙ c.in_default-uncovered.is)
    (sym c.in_ok-at.ensures ∙ c.in_default-2.is)
    (sym c.in_ok-at-2.ensures ∙ c.in_default-3.is)
    (sym c.in_ok-at-3.ensures ∙ c.in_default-4.is) (faults.IndexNotField c.in-Some-5.at)
    (refl, sym c.in_ok-at-4.ensures ∙ c.in-Some-5.is)

pub returns-in-Some-6-clause-fault : goal.returns-in-Some-6-clause-fault
returns-in-Some-6-clause-fault c =
    role_told c.args.plain.now.description
    (sym c.first_faults-mistyped.ensures.widths ∙ c.in_default.is)
    (sym c.first_faults-mistyped.ensures.ranges ∙ c.in_default-range.is)
    (sym c.uncovered.ensures ∙ c.in_default-uncovered.is)
    (sym c.in_ok-at.ensures ∙ c.in_default-2.is)
    (sym c.in_ok-at-2.ensures ∙ c.in_default-3.is)
    (sym c.in_ok-at-3.ensures ∙ c.in_default-4.is)
    (sym c.in_ok-at-4.ensures ∙ c.in_default-5.is) (faults.AbiRole c.in-Some-6.at)
    (refl, sym c.in_ok-at-5.ensures ∙ c.in-Some-6.is)

pub returns-in-Some-7-clause-fault : goal.returns-in-Some-7-clause-fault
returns-in-Some-7-clause-fault c =
    stage_told c.args.plain.now.description
    (sym c.first_faults-mistyped.ensures.widths ∙ c.in_default.is)
    (sym c.first_faults-mistyped.ensures.ranges ∙ c.in_default-range.is)
    (sym c.uncovered.ensures ∙ c.in_default-uncovered.is)
    (sym c.in_ok-at.ensures ∙ c.in_default-2.is)
    (sym c.in_ok-at-2.ensures ∙ c.in_default-3.is)
    (sym c.in_ok-at-3.ensures ∙ c.in_default-4.is)
    (sym c.in_ok-at-4.ensures ∙ c.in_default-5.is)
    (sym c.in_ok-at-5.ensures ∙ c.in_default-6.is) (faults.StageOrder c.in-Some-7.at)
    (refl, sym c.in_ok-at-6.ensures ∙ c.in-Some-7.is)

pub returns-in-Some-beyond-clause-fault : goal.returns-in-Some-beyond-clause-fault
returns-in-Some-beyond-clause-fault c =
    limit_told c.args.plain.now.description
    (sym c.first_faults-mistyped.ensures.widths ∙ c.in_default.is)
    (sym c.first_faults-mistyped.ensures.ranges ∙ c.in_default-range.is)
    (sym c.uncovered.ensures ∙ c.in_default-uncovered.is)
    (sym c.in_ok-at.ensures ∙ c.in_default-2.is)
    (sym c.in_ok-at-2.ensures ∙ c.in_default-3.is)
    (sym c.in_ok-at-3.ensures ∙ c.in_default-4.is)
    (sym c.in_ok-at-4.ensures ∙ c.in_default-5.is)
    (sym c.in_ok-at-5.ensures ∙ c.in_default-6.is)
    (sym c.in_ok-at-6.ensures ∙ c.in_default-7.is) (faults.Limit c.in-Some-beyond.at)
    (refl, sym c.beyond.ensures ∙ c.in-Some-beyond.is)

pub returns-clause-kept : goal.returns-clause-kept
returns-clause-kept c =
    all_kept c.args.plain.now.description
    (sym c.first_faults-mistyped.ensures.widths ∙ c.in_default.is)
    (sym c.first_faults-mistyped.ensures.ranges ∙ c.in_default-range.is)
    (sym c.uncovered.ensures ∙ c.in_default-uncovered.is)
    (sym c.in_ok-at.ensures ∙ c.in_default-2.is)
    (sym c.in_ok-at-2.ensures ∙ c.in_default-3.is)
    (sym c.in_ok-at-3.ensures ∙ c.in_default-4.is)
    (sym c.in_ok-at-4.ensures ∙ c.in_default-5.is)
    (sym c.in_ok-at-5.ensures ∙ c.in_default-6.is)
    (sym c.in_ok-at-6.ensures ∙ c.in_default-7.is)
    (sym c.beyond.ensures ∙ c.in_default-beyond.is)
