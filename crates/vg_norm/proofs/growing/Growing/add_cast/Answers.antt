use Rattle.std.proofs.Common.{◌≡◌, sym, ◌∙◌}
use Rattle.std.specs.Prelude.{slice_index_or}
use Rattle.vg_norm.proofs.GrowingLemmas.{cast_bare, idle_stands}
use Rattle.vg_norm.proofs.growing.Growing.add_cast.Goals as goal

pub returns-then-bits-clause-stands : goal.returns-then-bits-clause-stands
returns-then-bits-clause-stands c =
    let same : slice_index_or c.args.self.now.widths.items c.args.a 0 ≡ c.args.width = sym c.width_of.ensures.width ∙ sym c.bits.ensures.value ∙ c.if-bits.true ∙ c.bits-2.ensures.value in
    idle_stands c.args.self.now.graph c.args.self.now.widths.items c.args.op c.args.width c.args.a c.requires.growing.widths c.requires.fit same

pub put-requires-clause-bare : goal.put-requires-clause-bare
put-requires-clause-bare c =
    cast_bare c.args.self.now.graph c.args.self.now.widths.items c.args.op c.args.width c.args.a c.requires.growing.graph c.requires.growing.widths c.requires.fit
    (λ same. c.if-bits.false (c.bits.ensures.value ∙ c.width_of.ensures.width ∙ same ∙ sym c.bits-2.ensures.value))
