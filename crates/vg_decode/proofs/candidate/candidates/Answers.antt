use Rattle.std.proofs.Common.{◌≡◌, ◌<◌, ◌≤◌, ◌+◌, ◌∷◌, ◌++◌, [], length, take, min, arith, sym, ap, ◌∙◌, subst}
use Rattle.std.proofs.lemmas.List.{take_more}
use Rattle.std.proofs.Math.ListN.{length-take}
use Rattle.vg_decode.specs.declared.candidate.Candidate.{Candidate}
use Rattle.vg_decode.specs.Candidates.{AreOf}
use Rattle.vg_decode.proofs.Found.{instrs_few, one_more}
use Rattle.vg_decode.proofs.candidate.candidates.Goals as goal

pub overflow_cast-k : goal.overflow_cast-k
overflow_cast-k c =
    let few : length c.args.isa.now.instrs ≤ 512 = instrs_few c.args.isa.now c.parts.ensures.typed in
    let same : length c.instrs-instr-items.result.now ≡ length c.args.isa.now.instrs = ap length c.instrs-instr-items.ensures.value in
    let within : c.loop-k.k < length c.instrs-instr-items.result.now = c.loop-k-test.true in
    omega arith

pub loop-k-preserved : goal.loop-k-preserved
loop-k-preserved c =
    let d = c.args.isa.now in
    let xs = c.instrs-instr-items.result.now in
    let k = c.loop-k.k in
    let item = c.instr-item.result in
    let within : k < length xs = c.loop-k-test.true in
    let taken : length (take k xs) ≡ min k (length xs) = length-take k xs in
    let number : k ≡ 0 + length (take k xs) = omega arith in
    let new : Candidate = record { instr = record { 0 = k }; pattern = c.pattern_of.result } in
    let step : AreOf d 0 (take k xs ++ item ∷ []) (c.loop-k.candidates.items ++ new ∷ []) = one_more d 0 (take k xs) c.loop-k.candidates.items item new c.loop-k.invariant number c.pattern_of.ensures in
    let more : take (k + 1) xs ≡ take k xs ++ item ∷ [] = take_more xs k item within ∙ ap (λ y. take k xs ++ y ∷ []) (sym c.instr-item.is) in
    subst (λ ys. AreOf d 0 ys c.push.new.self.items) (sym more) (subst (λ zs. AreOf d 0 (take k xs ++ item ∷ []) zs) (sym c.in_ok-push.ensures.items) step)
