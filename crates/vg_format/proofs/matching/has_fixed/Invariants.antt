use Rattle.std.proofs.Common.{◌≡◌, nat_eq, drop}
use Rattle.std.specs.List.{list_all}
use Rattle.vg_isa.specs.Declaration.{field_of}
use Rattle.vg_format.proofs.matching.has_fixed.Given as goal

-- the fields so far have their values, so those from here on decide
abbrev pub invariant-loop-id : goal.invariant-loop-id
invariant-loop-id l =
    list_all (λ fix. nat_eq (field_of l.isa fix.0 l.word.number).number fix.1.number) l.fixed
    ≡ list_all (λ fix. nat_eq (field_of l.isa fix.0 l.word.number).number fix.1.number) (drop l.id-index l.fixed)
