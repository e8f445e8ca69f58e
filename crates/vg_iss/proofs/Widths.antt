-- Widths of addresses and indices.
use Rattle.std.proofs.Common.{◌≡◌, ℕ, ◌<◌, ◌≤◌, ◌^◌, IsTrue, arith, subst, Some, Option}
use Rattle.std.proofs.Math.Nat.{pow-le-pow_right}
use Rattle.vg_bits.specs.BitValue.{BitValue}
use Rattle.vg_isa.specs.declared.isa.Parts.{Parts}
use Rattle.vg_isa.specs.declared.ids.ResourceId.{ResourceId}
use Rattle.vg_isa.specs.declared.ids.ResourceId.TheVariants.{Reg}
use Rattle.vg_isa.specs.declared.ids.RegId.{RegId}
use Rattle.vg_isa.specs.Accepted.{is_isa, is_machine_width}
use Rattle.vg_isa.specs.Typing.{is_made_of}
use Rattle.vg_isa.proofs.Registers.{index_below}
use Rattle.vg_isa.proofs.Tests.{both}
use Rattle.vg_isa.proofs.Kept.{kept, machine_width_most}

two_positive : 0 < 2
two_positive = omega arith

pc_machine : (d : Parts) → IsTrue (is_isa d) → IsTrue (is_machine_width d.pc.width)
pc_machine d h = (kept d h).address

-- an address is below 2 ^ 64
pub address_below : (d : Parts) (w n : ℕ) → IsTrue (is_isa d) → w ≡ d.pc.width → n < 2 ^ w → n < 2 ^ 64
address_below d w n h width below =
    let few : d.pc.width ≤ 64 = machine_width_most d.pc.width (pc_machine d h) in
    let less : w ≤ 64 = omega arith in
    let most : 2 ^ w ≤ 2 ^ 64 = pow-le-pow_right two_positive less in
    omega arith

-- the index of a write of a register file is below 64
pub index_small : (d : Parts) (resource : ResourceId) (r : RegId) (o : Option BitValue) (at value : BitValue) → IsTrue (is_isa d) → resource ≡ Reg r → o ≡ Some at → IsTrue (is_made_of d resource o value) → at.number < 2 ^ at.width → at.number < 64
index_small d resource r o at value h is_reg is_some made below =
    let as_reg : IsTrue (is_made_of d (Reg r) o value) = subst (λ x. IsTrue (is_made_of d x o value)) is_reg made in
    let as_some : IsTrue (is_made_of d (Reg r) (Some at) value) = subst (λ x. IsTrue (is_made_of d (Reg r) x value)) is_some as_reg in
    index_below d r.0 at.width at.number h (both _ _ as_some).0 below
