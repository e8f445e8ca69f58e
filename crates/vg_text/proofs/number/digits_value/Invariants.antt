use Rattle.std.proofs.Common.{◌≡◌, ◌<◌, ◌^◌, drop}
use Rattle.vg_text.specs.Number.{decimal_after}
use Rattle.vg_text.proofs.number.digits_value.Given as goal

-- the number so far and the digits that are left make the number of all
abbrev pub invariant-loop-c : goal.invariant-loop-c
invariant-loop-c l = record {
  number : decimal_after l.n (drop l.c-index l.text) ≡ decimal_after 0 l.text;
  below : l.n < 2 ^ 64;
}
