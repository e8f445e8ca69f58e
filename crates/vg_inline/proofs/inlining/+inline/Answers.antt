use Rattle.std.proofs.Common.{◌≡◌, Option, sym, ap, rules, ◌∙◌}
use Rattle.std.proofs.lemmas.Result.{IfOk-weaker}
use Rattle.vg_names.specs.Definition.{Text, item_named}
use Rattle.vg_whole.specs.Whole.{inner_of}
use Rattle.vg_inline.specs.declared.kept.Kept.{Kept}
use Rattle.vg_inline.specs.Inline.{callee_of, typed}
use Rattle.vg_inline.specs.Kept.{keeping_as}
use Rattle.vg_inline.specs.Context.{inlined_at, inner_at, items_of, known_in, parameter_type, parameters_called}
use Rattle.vg_inline.proofs.InlineLemmas.{call_inlined, register_called, taking_more}
use Rattle.vg_inline.proofs.inlining.+inline.Goals as goal

pub inline-returns-in-Call : goal.inline-returns-in-Call
inline-returns-in-Call t c =
    let x = c.args.context.now in
    let e = call_inlined (Option Kept) (keeping_as x.keep) (items_of x) (known_in x) (inner_at x c.args.names.now) c.args.e.now c.in-Call.name c.in-Call.arguments c.as_slice-in-Call.result.now c.in-Call.is c.as_slice-in-Call.ensures in
    IfOk-weaker c.inline_call.result _ _ (λ m g. g ∙ e) c.inline_call.ensures

pub inline_arguments-loop-position-preserved : goal.inline_arguments-loop-position-preserved
inline_arguments-loop-position-preserved t c =
    let x = c.args.context.now in
    taking_more x.keep (parameter_type x) (inlined_at x c.args.names.now) c.args.parameters.now c.args.arguments.now c.loop-position.position c.index-arguments-position.result c.loop-position.list c.push.new.self
    c.in_ok-value.value c.in_ok-tree.tree c.loop-position.invariant c.loop-position-test.true c.index-arguments-position.is c.in_ok-value.ensures c.in_ok-tree.ensures c.in_ok-push.ensures.ok

pub inline_call-returns-in_ok-register-in-None : goal.inline_call-returns-in_ok-register-in-None
inline_call-returns-in_ok-register-in-None t c =
    let x = c.args.context.now in
    let text : c.as_slice.result.now ≡ c.args.name.now.text = search rules in
    let again : c.as_slice-in-None.result.now ≡ c.args.name.now.text = search rules in
    let none = ap (λ (t : Text). parameters_called (callee_of (inner_of (inner_at x c.args.names.now) t) (item_named (items_of x) t))) (sym text) ∙ sym c.in-None.ensures in
    c.typed-in-None.ensures ∙ ap typed (c.in_ok-register-in-None.ensures
    ∙ register_called x.keep (items_of x) (known_in x) (callee_of (inner_of (inner_at x c.args.names.now) c.args.name.now.text) (item_named (items_of x) c.args.name.now.text)) c.args.name.now c.number.result c.first_start.result
    (inlined_at x c.args.names.now) c.args.arguments.now c.in_ok-list-in-None.list none (search rules) c.in_ok-list-in-None.ensures
    ∙ search rules)
