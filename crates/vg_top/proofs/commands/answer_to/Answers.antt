use Rattle.vg_top.proofs.commands.answer_to.Goals as goal

pub returns-in-Some-of-clause-told : goal.returns-in-Some-of-clause-told
returns-in-Some-of-clause-told g c =
    rw (← c.of.ensures, ← c.of-2.ensures, c.in_default.is, c.in-Some-of.is) c.drive-in-Some-of.ensures.told
