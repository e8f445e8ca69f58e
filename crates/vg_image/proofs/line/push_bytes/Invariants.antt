use Rattle.std.proofs.Common.{◌≡◌, ◌-◌}
use Rattle.vg_image.specs.Reader.{bytes_at, with_front}
use Rattle.vg_image.proofs.line.push_bytes.Given as goal

-- the bytes so far, and those that are left, are all bytes
abbrev pub invariant-loop : goal.invariant-loop
invariant-loop l = with_front l.bytes (bytes_at (l.count - l.counter) l.rest) ≡ with_front l.initial.bytes (bytes_at l.count l.text)
