use Rattle.std.proofs.Common.{◌≡◌, take}
use Rattle.vg_form.proofs.naming.text_of.Given as goal

-- the characters so far
abbrev pub invariant-loop-c : goal.invariant-loop-c
invariant-loop-c l = l.text ≡ take l.c-index l.name
