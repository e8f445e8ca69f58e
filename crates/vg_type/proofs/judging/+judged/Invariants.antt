use Rattle.std.proofs.Common.{◌≡◌, drop, length, map}
use Rattle.vg_type.specs.Expression.{judged}
use Rattle.vg_type.specs.Setting.{scope_in, sorts_of}
use Rattle.vg_type.specs.Calls.{both_taken, signature_in, taken_from, types_asked}
use Rattle.vg_type.proofs.judging.+judged.Given as goal

abbrev pub invariant-taken-loop-k : goal.invariant-taken-loop-k
invariant-taken-loop-k l =
    taken_from (types_asked (signature_in l.setting.context.now l.callee) (length l.arguments)) 0 (map (λ e. judged (scope_in l.setting.context.now) e (sorts_of l.setting.context.now l.names)) l.arguments)
    ≡ both_taken l.taking (taken_from (types_asked (signature_in l.setting.context.now l.callee) (length l.arguments)) l.k (map (λ e. judged (scope_in l.setting.context.now) e (sorts_of l.setting.context.now l.names)) (drop l.k l.arguments)))
