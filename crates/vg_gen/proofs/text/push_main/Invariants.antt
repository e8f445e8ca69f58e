use Rattle.std.proofs.Common.{◌≡◌, ◌++◌}
use Rattle.vg_gen.specs.ModuleText.{texts, call}
use Rattle.vg_gen.proofs.text.push_main.Given as goal

-- the calls of the functions so far stand behind the heading
abbrev pub invariant-loop-k : goal.invariant-loop-k
invariant-loop-k l = l.out.items ≡ l.initial.out.items ++ texts call l.k
