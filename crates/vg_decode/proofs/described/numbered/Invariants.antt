use Rattle.std.proofs.Common.{◌≡◌, ◌-◌, ◌∷◌, [], length, IsTrue}
use Rattle.std.specs.List.{list_all}
use Rattle.vg_isa.specs.declared.isa.Parts.{Parts}
use Rattle.vg_isa.specs.declared.format.Format.{Format}
use Rattle.vg_isa.specs.Accepted.{is_instr}
use Rattle.vg_decode.proofs.Idle.{ranges_at}
use Rattle.vg_decode.proofs.described.numbered.Given as goal

-- each instruction so far keeps the rules
abbrev pub invariant-loop-k : goal.invariant-loop-k
invariant-loop-k l =
    (length l.instrs.items ≡ l.k)
    × ((d : Parts) (f : Format) → d.formats ≡ f ∷ [] → ranges_at f 0 ≡ (8, 0) ∷ [] → IsTrue (list_all (is_instr d) l.instrs.items))

abbrev pub decreases-loop-k : goal.decreases-loop-k
decreases-loop-k l = 512 - l.k
