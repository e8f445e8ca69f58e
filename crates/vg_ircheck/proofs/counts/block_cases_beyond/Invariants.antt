-- the first place so far, and that of what is left
use Rattle.std.specs.Prelude.{◌≡◌, drop, flat_map}
use Rattle.vg_ir.specs.declared.block.Block.{Block}
use Rattle.vg_ircheck.specs.Place.{first_of, first_place}
use Rattle.vg_ircheck.specs.Counts.{first_beyond, most_cases, case_numbers}
use Rattle.vg_ircheck.proofs.counts.block_cases_beyond.Given as goal

abbrev pub invariant-loop-block : goal.invariant-loop-block
invariant-loop-block l = first_of l.first (first_place (flat_map (λ (b : Block). first_beyond most_cases (case_numbers b.terminator)) (drop l.block-index l.blocks))) ≡ first_place (flat_map (λ (b : Block). first_beyond most_cases (case_numbers b.terminator)) l.blocks)
