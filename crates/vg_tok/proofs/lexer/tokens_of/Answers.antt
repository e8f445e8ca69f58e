-- Each element that is read goes to the end of the row.
use Rattle.std.proofs.Common.{◌+◌, ◌++◌, ◌∙◌, sym, ap, arith}
use Rattle.std.proofs.lemmas.List.{append-nil}
use Rattle.vg_tok.specs.Lexing.{placed}
use Rattle.vg_tok.proofs.Rows.{IsReadTo-fits, IsReadTo-step, byte_len-front}
use Rattle.vg_tok.proofs.lexer.tokens_of.Goals as goal

pub element_at-requires-clause-fits : goal.element_at-requires-clause-fits
element_at-requires-clause-fits c = omega (arith, IsReadTo-fits _ _ _ _ c.loop-rest.invariant, c.requires)

pub byte_len-requires : goal.byte_len-requires
byte_len-requires c =
    omega (arith, byte_len-front _ _ _ _ c.in_ok-kind.ensures.element c.split_at.ensures.front, IsReadTo-fits _ _ _ _ c.loop-rest.invariant, c.requires)

pub overflow_add-end : goal.overflow_add-end
overflow_add-end c =
    omega (arith, byte_len-front _ _ _ _ c.in_ok-kind.ensures.element c.split_at.ensures.front, IsReadTo-fits _ _ _ _ c.loop-rest.invariant, c.requires, c.byte_len.ensures)

pub loop-rest-preserved-in_ok-push-in-Some : goal.loop-rest-preserved-in_ok-push-in-Some
loop-rest-preserved-in_ok-push-in-Some c =
    let placed_is = ap (λ k. c.loop-rest.tokens ++ placed k c.loop-rest.at (c.loop-rest.at + c.byte_len.result)) (sym c.in-Some.is) in
    IsReadTo-step _ _ _ _ _ _ _ _ _ _ c.loop-rest.invariant c.in_ok-kind.ensures.element c.split_at.ensures.front c.split_at.ensures.back
    c.byte_len.ensures (c.in_ok-push-in-Some.ensures.ok ∙ placed_is)

pub loop-rest-preserved : goal.loop-rest-preserved
loop-rest-preserved c =
    let placed_is = ap (λ k. c.loop-rest.tokens ++ placed k c.loop-rest.at (c.loop-rest.at + c.byte_len.result)) (sym c.in-None.is) in
    IsReadTo-step _ _ _ _ _ _ _ _ _ _ c.loop-rest.invariant c.in_ok-kind.ensures.element c.split_at.ensures.front c.split_at.ensures.back
    c.byte_len.ensures (sym (append-nil c.loop-rest.tokens) ∙ placed_is)
