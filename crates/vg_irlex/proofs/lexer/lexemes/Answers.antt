-- Each element is put behind those in front of it.
use Rattle.std.proofs.Common.{◌≡◌, ◌+◌, Bool, ◌||◌, subst, sym, ap, ◌∙◌}
use Rattle.vg_irlex.specs.Lexing.{is_line_feed}
use Rattle.vg_irlex.specs.Front.{Begins}
use Rattle.vg_irlex.proofs.Rows.{IsReadTo, gap_step, lexeme_step}
use Rattle.vg_irlex.proofs.lexer.lexemes.Goals as goal

pub loop-rest-preserved-in_ok-push : goal.loop-rest-preserved-in_ok-push
loop-rest-preserved-in_ok-push c =
    let b = subst (λ (p : Bool). Begins c.loop-rest.rest.now p c.element_at-is_lexeme.result.1) c.if-is_lexeme.true c.element_at-is_lexeme.ensures in
    lexeme_step _ _ _ _ _ _ _ _ c.loop-rest.invariant b c.split_at.ensures.back c.in_ok-push.ensures.ok

pub loop-rest-preserved-then-fresh : goal.loop-rest-preserved-then-fresh
loop-rest-preserved-then-fresh c =
    let b = subst (λ (p : Bool). Begins c.loop-rest.rest.now p c.element_at-is_lexeme.result.1) c.if-is_lexeme.false c.element_at-is_lexeme.ensures in
    let s = gap_step _ _ _ _ _ _ _ _ c.loop-rest.invariant b c.split_at.ensures.front c.split_at.ensures.back in
    let f : (c.loop-rest.fresh || is_line_feed c.split_at.result.0.now) ≡ c.loop-rest.fresh =
    ap (λ x. x || is_line_feed c.split_at.result.0.now) c.if-fresh.true ∙ sym c.if-fresh.true in
    subst (λ (x : Bool). IsReadTo c.args.text.now c.loop-rest.lexemes c.split_at.result.1.now (c.loop-rest.at + c.element_at-is_lexeme.result.1) x) f s

pub loop-rest-preserved : goal.loop-rest-preserved
loop-rest-preserved c =
    let b = subst (λ (p : Bool). Begins c.loop-rest.rest.now p c.element_at-is_lexeme.result.1) c.if-is_lexeme.false c.element_at-is_lexeme.ensures in
    let s = gap_step _ _ _ _ _ _ _ _ c.loop-rest.invariant b c.split_at.ensures.front c.split_at.ensures.back in
    let f : (c.loop-rest.fresh || is_line_feed c.split_at.result.0.now) ≡ c.is_line_feed-fresh.result =
    ap (λ x. x || is_line_feed c.split_at.result.0.now) c.if-fresh.false ∙ sym c.is_line_feed-fresh.ensures in
    subst (λ (x : Bool). IsReadTo c.args.text.now c.loop-rest.lexemes c.split_at.result.1.now (c.loop-rest.at + c.element_at-is_lexeme.result.1) x) f s
