use Rattle.std.proofs.Common.{◌≡◌, ◌≤◌, drop, false}
use Rattle.vg_tok.specs.Front.{digits_from}
use Rattle.vg_tok.proofs.number.digits_len.Given as goal

abbrev pub invariant-loop-i : goal.invariant-loop-i
invariant-loop-i l =
    (digits_from l.base l.i l.len l.after (drop l.i l.text) ≡ digits_from l.base 0 0 false l.text) × (l.len ≤ l.i)
