use Rattle.std.proofs.Common.{◌≡◌, drop}
use Rattle.vg_format.specs.Replaced.{with_fields}
use Rattle.vg_format.proofs.encoding.set_fields.Given as goal

-- the fields from here on, set in what is there, give the whole
abbrev pub invariant-loop-id : goal.invariant-loop-id
invariant-loop-id l = (l.changed.width ≡ l.fn.word.width) × (with_fields l.isa (drop l.id-index l.fields) l.changed.number ≡ with_fields l.isa l.fields l.fn.word.number)
