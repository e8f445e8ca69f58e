use Rattle.std.proofs.Common.{◌≡◌, ◌-◌, ◌^◌, ◌<◌, ◌++◌, length, drop}
use Rattle.vg_text.specs.Number.{hexadecimal_after, hexadecimal_at}
use Rattle.vg_text.proofs.number.hexadecimal_at.Given as goal

-- the number so far and the digits that are left make the number of all
abbrev pub invariant-loop-c : goal.invariant-loop-c
invariant-loop-c l = record {
  number : hexadecimal_after l.n (length l.front - l.c-index) (drop l.c-index l.front ++ l.rest) ≡ hexadecimal_at l.fn.digits l.fn.text;
  below : l.n < 16 ^ l.c-index;
}
