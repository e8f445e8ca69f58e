use Rattle.std.proofs.Common.{◌≡◌, ℕ, ◌+◌, ◌<◌, List, [], ◌∷◌, ◌++◌, Some, sym, ap, ◌∙◌, subst, arith, rules}
use Rattle.vg_isa.specs.declared.isa.Parts.{Parts}
use Rattle.vg_isa.specs.declared.expr.Expr.{Expr}
use Rattle.vg_graph.specs.declared.task.Task.{Task}
use Rattle.vg_graph.specs.Building.{AreTyped, IsReady, StandAll, Step, enter, leave, entering, from_top, operands_of, step_of, weight_of}
use Rattle.vg_graph.proofs.BuildLemmas.{Extends-trans, last_stands, ready_enter, taken_step, typed_enter, weight-entering}
use Rattle.vg_graph.proofs.building.add_tree.Goals as goal

pub loop-task-smaller-in-Continue-branch-2 : goal.loop-task-smaller-in-Continue-branch-2
loop-task-smaller-in-Continue-branch-2 c =
    let e = c.in-Enter.e.now in
    let below = from_top c.pop.new.self.items [] in
    let steps : from_top c.loop-task.tasks.items [] ≡ enter e ∷ below = taken_step c.loop-task.tasks.items c.pop.new.self.items c.in-Some.task (enter e) c.in-Some.ensures.items (ap step_of c.in-Enter.is) in
    let now : from_top c.enter.new.tasks.items [] ≡ entering e ++ below = c.in_ok-enter-in-Enter.ensures in
    subst (λ (s : List Step). weight_of (from_top c.enter.new.tasks.items []) < weight_of s) (sym steps)
    (subst (λ (s : List Step). weight_of s < weight_of (enter e ∷ below)) (sym now) (weight-entering e below))

pub loop-task-preserved-in-Continue-branch-2 : goal.loop-task-preserved-in-Continue-branch-2
loop-task-preserved-in-Continue-branch-2 c =
    let e = c.in-Enter.e.now in
    let inv = c.loop-task.invariant in
    let out = c.args.e.now ∷ [] in
    let below = from_top c.pop.new.self.items [] in
    let steps : from_top c.loop-task.tasks.items [] ≡ enter e ∷ below = taken_step c.loop-task.tasks.items c.pop.new.self.items c.in-Some.task (enter e) c.in-Some.ensures.items (ap step_of c.in-Enter.is) in
    let now : from_top c.enter.new.tasks.items [] ≡ entering e ++ below = c.in_ok-enter-in-Enter.ensures in
    let typed : AreTyped c.loop-task.graph.isa (enter e ∷ below) = subst (λ (s : List Step). AreTyped c.loop-task.graph.isa s) steps inv.typed in
    let ready : IsReady (enter e ∷ below) inv.ready.0 out = subst (λ (s : List Step). IsReady s inv.ready.0 out) steps inv.ready.2 in
    record {
      extends = inv.extends;
      typed = subst (λ (s : List Step). AreTyped c.loop-task.graph.isa s) (sym now) (typed_enter c.loop-task.graph.isa e below typed);
      ready = (inv.ready.0, inv.ready.1, subst (λ (s : List Step). IsReady s inv.ready.0 out) (sym now) (ready_enter e below inv.ready.0 out ready));
    }

pub leave-requires-clause-typed : goal.leave-requires-clause-typed
leave-requires-clause-typed c =
    let e = c.in-Leave.e.now in
    let below = from_top c.pop.new.self.items [] in
    let steps : from_top c.loop-task.tasks.items [] ≡ leave e ∷ below = taken_step c.loop-task.tasks.items c.pop.new.self.items c.in-Some.task (leave e) c.in-Some.ensures.items (ap step_of c.in-Leave.is) in
    let typed : AreTyped c.loop-task.graph.isa (leave e ∷ below) = subst (λ (s : List Step). AreTyped c.loop-task.graph.isa s) steps c.loop-task.invariant.typed in
    typed.0

pub leave-requires-clause-operands : goal.leave-requires-clause-operands
leave-requires-clause-operands c =
    let e = c.in-Leave.e.now in
    let inv = c.loop-task.invariant in
    let out = c.args.e.now ∷ [] in
    let below = from_top c.pop.new.self.items [] in
    let steps : from_top c.loop-task.tasks.items [] ≡ leave e ∷ below = taken_step c.loop-task.tasks.items c.pop.new.self.items c.in-Some.task (leave e) c.in-Some.ensures.items (ap step_of c.in-Leave.is) in
    let ready : IsReady (leave e ∷ below) inv.ready.0 out = subst (λ (s : List Step). IsReady s inv.ready.0 out) steps inv.ready.2 in
    (ready.0, subst (λ (es : List Expr). StandAll c.loop-task.graph.nodes c.loop-task.values.items es) ready.1 inv.ready.1)

pub loop-task-smaller : goal.loop-task-smaller
loop-task-smaller c =
    let e = c.in-Leave.e.now in
    let below = from_top c.pop.new.self.items [] in
    let steps : from_top c.loop-task.tasks.items [] ≡ leave e ∷ below = taken_step c.loop-task.tasks.items c.pop.new.self.items c.in-Some.task (leave e) c.in-Some.ensures.items (ap step_of c.in-Leave.is) in
    let less : weight_of below < weight_of (leave e ∷ below) = omega arith in
    subst (λ (s : List Step). weight_of below < weight_of s) (sym steps) less

pub loop-task-preserved : goal.loop-task-preserved
loop-task-preserved c =
    let e = c.in-Leave.e.now in
    let inv = c.loop-task.invariant in
    let out = c.args.e.now ∷ [] in
    let below = from_top c.pop.new.self.items [] in
    let steps : from_top c.loop-task.tasks.items [] ≡ leave e ∷ below = taken_step c.loop-task.tasks.items c.pop.new.self.items c.in-Some.task (leave e) c.in-Some.ensures.items (ap step_of c.in-Leave.is) in
    let typed : AreTyped c.loop-task.graph.isa (leave e ∷ below) = subst (λ (s : List Step). AreTyped c.loop-task.graph.isa s) steps inv.typed in
    let ready : IsReady (leave e ∷ below) inv.ready.0 out = subst (λ (s : List Step). IsReady s inv.ready.0 out) steps inv.ready.2 in
    let more = c.in_ok-leave-in-Leave.ensures.extends in
    record {
      extends = Extends-trans c.args.graph.now c.loop-task.graph c.leave.new.graph inv.extends more;
      typed = subst (λ (d : Parts). AreTyped d below) (sym more.isa) typed.1;
      ready = (ready.0 ++ e ∷ [], c.in_ok-leave-in-Leave.ensures.stand ready.0 (subst (λ (es : List Expr). StandAll c.loop-task.graph.nodes c.loop-task.values.items es) ready.1 inv.ready.1), ready.2);
    }

pub returns-clause-tree : goal.returns-clause-tree
returns-clause-tree c =
    let inv = c.loop-task.invariant in
    let empty : c.loop-task.tasks.items ≡ [] = search rules in
    let done : inv.ready.0 ≡ c.args.e.now ∷ [] = subst (λ (ts : List Task). IsReady (from_top ts []) inv.ready.0 (c.args.e.now ∷ [])) empty inv.ready.2 in
    let value : c.loop-task.values.items ≡ c.pop-2.new.self.items ++ c.unwrap.result ∷ [] = search rules in
    last_stands c.loop-task.graph.nodes c.loop-task.values.items c.pop-2.new.self.items c.unwrap.result c.args.e.now value (subst (λ (es : List Expr). StandAll c.loop-task.graph.nodes c.loop-task.values.items es) done inv.ready.1)
