-- What a checked write gives.
use Rattle.std.proofs.Common.{◌≡◌, IsTrue, Option, Some, None, arith}
use Rattle.std.specs.Option.{option_map}
use Rattle.std.proofs.lemmas.Bool.Decides.{nat_tests}
use Rattle.vg_bits.specs.BitValue.{BitValue}
use Rattle.vg_isa.specs.declared.isa.Parts.{Parts}
use Rattle.vg_isa.specs.declared.expr.Expr.{Expr}
use Rattle.vg_isa.specs.declared.ids.ResourceId.{ResourceId}
use Rattle.vg_isa.specs.declared.ids.ResourceId.TheVariants.{Memory, Reg}
use Rattle.vg_isa.specs.Typing.{is_write_of, is_made_of, width_of}

-- values of the widths of the trees have the widths that the resource needs
pub widths_fit : (d : Parts) (resource : ResourceId) (at : Option Expr) (value : Expr) (a : Option BitValue) (v : BitValue) → IsTrue (is_write_of d resource at value) → option_map (λ (x : BitValue). x.width) a ≡ option_map (λ (e : Expr). width_of d e) at → v.width ≡ width_of d value → IsTrue (is_made_of d resource a v)
widths_fit d Memory (Some at) value (Some a) v h ea ev = grind (arith, nat_tests)
widths_fit d Memory (Some at) value None v h ea ev = cc
widths_fit d Memory None value a v h ea ev = cc
widths_fit d (Reg r) (Some at) value (Some a) v h ea ev = grind (arith, nat_tests)
widths_fit d (Reg r) (Some at) value None v h ea ev = cc
widths_fit d (Reg r) None value None v h ea ev = grind (arith, nat_tests)
widths_fit d (Reg r) None value (Some a) v h ea ev = cc
