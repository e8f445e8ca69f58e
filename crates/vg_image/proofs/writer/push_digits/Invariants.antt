use Rattle.std.proofs.Common.{◌≡◌, ◌++◌, flat_map, take}
use Rattle.vg_text.specs.Number.{hexadecimal}
use Rattle.vg_image.proofs.writer.push_digits.Given as goal

abbrev pub invariant-loop-byte : goal.invariant-loop-byte
invariant-loop-byte l = l.out.items ≡ l.fn.out.items ++ flat_map (hexadecimal 2) (take l.byte-index l.bytes)
