use Rattle.std.proofs.Common.{◌≡◌, ℕ, ◌+◌, ◌<◌, length, List, ap, sym, ◌∙◌, Some, subst, arith, inl, inr}
use Rattle.vg_image.specs.Reader.{line_read, line_split}
use Rattle.vg_image.proofs.Lines.{is_split}
use Rattle.vg_image.proofs.Images.{IsReached, at_end, at_next, at_short, at_start, at_wrong, left_of, none_of, not_wrong}
use Rattle.vg_image.proofs.reader.read.Goals as goal

pub loop-rest-init : goal.loop-rest-init
loop-rest-init c = rw c.in_ok-progress.ensures.nothing (at_start c.args.isa.now c.args.text.now)

pub returns-in-Err-Wrong-clause-refused : goal.returns-in-Err-Wrong-clause-refused
returns-in-Err-Wrong-clause-refused c =
    at_wrong c.args.isa.now c.args.text.now c.loop-rest.rest.now c.loop-rest.progress c.loop-rest.line c.in_ok-progress.ensures.accepted (left_of c.loop-rest.rest.now c.loop-rest-test.ensures) c.loop-rest.invariant
    (ap (λ split. line_read c.args.isa.now c.loop-rest.progress split.0) (sym c.line_split.ensures) ∙ not_wrong c.in-Err-Wrong.field-0 _ c.in-Err-Wrong.field-0-is c.in-Err-Wrong.ensures)

pub loop-rest-smaller : goal.loop-rest-smaller
loop-rest-smaller c =
    let rest : List ℕ = c.loop-rest.rest.now in
    let behind : length c.line_split.result.1.now ≡ length (line_split rest).1 = ap (λ (split : List ℕ × List ℕ). length split.1) c.line_split.ensures in
    omega (arith, behind, (is_split rest (left_of rest c.loop-rest-test.ensures)).shorter)

pub loop-rest-preserved : goal.loop-rest-preserved
loop-rest-preserved c =
    let rest : List ℕ = c.loop-rest.rest.now in
    let read : line_read c.args.isa.now c.loop-rest.progress (line_split rest).0 ≡ Some c.read_line.new.self =
    ap (λ (split : List ℕ × List ℕ). line_read c.args.isa.now c.loop-rest.progress split.0) (sym c.line_split.ensures) ∙ c.in-Ok.ensures in
    subst (λ (split : List ℕ × List ℕ). IsReached c.args.isa.now c.args.text.now c.read_line.new.self (c.loop-rest.line + 1) split.1) (sym c.line_split.ensures)
    (at_next c.args.isa.now c.args.text.now rest c.loop-rest.progress c.read_line.new.self c.loop-rest.line (left_of rest c.loop-rest-test.ensures) c.loop-rest.invariant read)

pub returns-then-not-is_ended-clause-refused : goal.returns-then-not-is_ended-clause-refused
returns-then-not-is_ended-clause-refused c =
    at_short c.args.isa.now c.args.text.now c.loop-rest.rest.now c.loop-rest.progress c.loop-rest.line c.in_ok-progress.ensures.accepted (none_of c.loop-rest.rest.now c.loop-rest-test.ensures) c.loop-rest.invariant
    (inl (sym c.is_ended.ensures ∙ c.if-not-is_ended.true))

pub returns-then-not-ends_with_feed-clause-refused : goal.returns-then-not-ends_with_feed-clause-refused
returns-then-not-ends_with_feed-clause-refused c =
    at_short c.args.isa.now c.args.text.now c.loop-rest.rest.now c.loop-rest.progress c.loop-rest.line c.in_ok-progress.ensures.accepted (none_of c.loop-rest.rest.now c.loop-rest-test.ensures) c.loop-rest.invariant
    (inr (sym c.ends_with_feed.ensures ∙ c.if-not-ends_with_feed.true))

pub returns-clause-found : goal.returns-clause-found
returns-clause-found c =
    at_end c.args.isa.now c.args.text.now c.loop-rest.rest.now c.loop-rest.progress c.loop-rest.line c.in_ok-progress.ensures.accepted (none_of c.loop-rest.rest.now c.loop-rest-test.ensures) c.loop-rest.invariant
    (sym c.is_ended.ensures ∙ c.if-not-is_ended.false) (sym c.ends_with_feed.ensures ∙ c.if-not-ends_with_feed.false)
