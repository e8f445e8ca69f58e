use Rattle.std.proofs.Common.{◌≡◌, ◌<◌, ℕ, length, get_or, sym, ap, ◌∙◌, subst, List, add-one, find, drop}
use Rattle.vg_isa.specs.declared.instr.Instr.{Instr}
use Rattle.vg_format.specs.Matching.{matches}
use Rattle.vg_iss.proofs.Decoded.{find-here, find-past}
use Rattle.vg_iss.proofs.decoding.decode.Goals as goal

-- an item of the list that is gone over is one of the description's instructions
within_all : (all instrs : List Instr) (k : ℕ) → all ≡ instrs → k < length all → k < length instrs
within_all all instrs k same within = subst (λ (xs : List Instr). k < length xs) same within

item : (all instrs : List Instr) (k : ℕ) (instr : Instr) → all ≡ instrs → instr ≡ get_or all k instr → instr ≡ get_or instrs k instr
item all instrs k instr same is = is ∙ ap (λ (xs : List Instr). get_or xs k instr) same

pub returns-then-matches-clause-first : goal.returns-then-matches-clause-first
returns-then-matches-clause-first c =
    find-here (matches c.args.isa.now c.args.word.number) c.args.isa.now.instrs c.loop-instr.instr-index c.instr-item.result
    (within_all c.instrs-instr-items.result.now c.args.isa.now.instrs c.loop-instr.instr-index c.instrs-instr-items.ensures.value c.loop-instr-test.true)
    (item c.instrs-instr-items.result.now c.args.isa.now.instrs c.loop-instr.instr-index c.instr-item.result c.instrs-instr-items.ensures.value c.instr-item.is)
    (sym c.matches.ensures ∙ c.if-matches.true) c.loop-instr.invariant

pub loop-instr-preserved : goal.loop-instr-preserved
loop-instr-preserved c =
    find-past (matches c.args.isa.now c.args.word.number) c.args.isa.now.instrs c.loop-instr.instr-index c.instr-item.result
    (within_all c.instrs-instr-items.result.now c.args.isa.now.instrs c.loop-instr.instr-index c.instrs-instr-items.ensures.value c.loop-instr-test.true)
    (item c.instrs-instr-items.result.now c.args.isa.now.instrs c.loop-instr.instr-index c.instr-item.result c.instrs-instr-items.ensures.value c.instr-item.is)
    (sym c.matches.ensures ∙ c.if-matches.false) c.loop-instr.invariant
    ∙ ap (λ (n : ℕ). find (matches c.args.isa.now c.args.word.number) (drop n c.args.isa.now.instrs)) (sym (add-one c.loop-instr.instr-index))
