use Rattle.std.proofs.Common.{◌≡◌, ◌-◌, ◌/◌, ◌^◌, ◌<◌, ◌≤◌, ◌⊎◌}
use Rattle.vg_asm.proofs.number.hex_digits.Given as goal

-- the digits that are counted are needed, and the rest is what they leave
abbrev pub invariant-loop-rest : goal.invariant-loop-rest
invariant-loop-rest l = record {
  rest : l.rest ≡ l.n / 16 ^ l.digits;
  some : 0 < l.digits;
  most : l.digits ≤ 16;
  least : (l.digits ≡ 1) ⊎ (16 ^ (l.digits - 1) ≤ l.n);
}

abbrev pub decreases-loop-rest : goal.decreases-loop-rest
decreases-loop-rest l = l.rest
