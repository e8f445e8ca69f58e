use Rattle.std.proofs.Common.{◌≡◌, ◌++◌, ◌+◌, ◌*◌}
use Rattle.vg_gen.specs.Drawing.{number_after}
use Rattle.vg_gen.specs.ModuleText.{texts, instruction}
use Rattle.vg_gen.proofs.text.push_function.Given as goal

-- the instructions so far stand behind the heading, each of three draws
abbrev pub invariant-loop-i : goal.invariant-loop-i
invariant-loop-i l = record {
  text : l.out.items ≡ l.initial.out.items ++ texts (λ i. instruction (number_after l.fn.draws.x (3 * i)) (i + 2)) l.i;
  draws : l.draws.x ≡ number_after l.fn.draws.x (3 * l.i);
}
