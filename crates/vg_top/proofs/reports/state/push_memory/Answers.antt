use Rattle.std.proofs.Common.{◌≡◌, IsTrue, refl, subst, ap}
use Rattle.vg_isa.specs.declared.declaration.PcDecl.{PcDecl}
use Rattle.vg_isa.specs.Accepted.{is_machine_width}
use Rattle.vg_top.proofs.MemoryLines.{memory_next, memory_done, memory_end, row_within, sum_of, no_sum}
use Rattle.vg_top.proofs.reports.state.push_memory.Goals as goal

pub push_row-requires-clause-room : goal.push_row-requires-clause-room
push_row-requires-clause-room g c =
    row_within c.args.isa.now.pc.width c.in-Some.at (subst (λ (p : PcDecl). IsTrue (is_machine_width p.width)) c.pc.ensures.value c.pc.ensures.machine) (rw c.requires.width at c.in-Some.ensures.within)

pub returns-in_default-checked_add : goal.returns-in_default-checked_add
returns-in_default-checked_add g c = record {
  ok = memory_end c.args.isa.now c.args.image.now (g.M.View.reads c.args.machine.now).byte c.args.out.now.items c.loop-at.out.items c.push_row.new.out.items c.loop-at.from c.in-Some.at _
      refl (no_sum c.checked_add.result _ _ c.in_default-checked_add.is c.checked_add.ensures) (rw c.requires.width at c.in-Some.ensures.within)
      (subst (λ (p : PcDecl). IsTrue (is_machine_width p.width)) c.pc.ensures.value c.pc.ensures.machine) c.loop-at.invariant c.in-Some.ensures.next c.in_ok-push_row.ensures.ok;
}

pub loop-at-preserved : goal.loop-at-preserved
loop-at-preserved g c =
    memory_next c.args.isa.now c.args.image.now (g.M.View.reads c.args.machine.now).byte c.args.out.now.items c.loop-at.out.items c.push_row.new.out.items c.loop-at.from c.in-Some.at _ c.in-Some-checked_add.behind
    refl (sum_of c.checked_add.result _ _ _ c.in-Some-checked_add.is c.checked_add.ensures) (rw c.requires.width at c.in-Some.ensures.within)
    (subst (λ (p : PcDecl). IsTrue (is_machine_width p.width)) c.pc.ensures.value c.pc.ensures.machine) c.loop-at.invariant c.in-Some.ensures.next c.in_ok-push_row.ensures.ok

pub returns : goal.returns
returns g c = record {
  ok = memory_done c.args.isa.now c.args.image.now (g.M.View.reads c.args.machine.now).byte c.args.out.now.items c.loop-at.out.items c.loop-at.from
      c.loop-at.invariant.0 c.loop-at.invariant.1 c.in_default.ensures.next c.loop-at.invariant.2;
}
