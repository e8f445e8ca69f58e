use Rattle.std.proofs.Common.{◌≡◌, ◌*◌}
use Rattle.vg_gen.specs.Drawing.{number_after}
use Rattle.vg_gen.specs.ModuleText.{texts, function}
use Rattle.vg_gen.proofs.text.module.Given as goal

-- the functions so far have been written, each of 120 draws
abbrev pub invariant-loop-function : goal.invariant-loop-function
invariant-loop-function l = record {
  text : l.out.items ≡ texts (λ k. function (number_after l.fn.number (120 * k)) k) l.function;
  draws : l.draws.x ≡ number_after l.fn.number (120 * l.function);
}
