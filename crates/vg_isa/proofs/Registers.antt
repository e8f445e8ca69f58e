-- What the tests of a register's declaration tell.
use Rattle.std.proofs.Common.{◌≡◌, ℕ, zero, suc, ◌<◌, ◌≤◌, ◌^◌, true, false, ◌&&◌, List, [], ◌∷◌, length, IsTrue, nat_le, nat_lt, nat_eq, slice_get, Some, None, Option, is_none, arith, refl, sym, subst, ap, get_or}
use Rattle.std.specs.Option.{option_map_or}
use Rattle.std.specs.List.{list_all}
use Rattle.std.proofs.lemmas.Bool.Decides.{nat_tests}
use Rattle.std.proofs.lemmas.Option.{slice_get_read}
use Rattle.vg_isa.specs.declared.declaration.RegDecl.{RegDecl}
use Rattle.vg_isa.specs.Declaration.{has_register, is_file, is_single, register_count, register_width}
use Rattle.vg_isa.specs.Accepted.{is_register_decl, is_isa}
use Rattle.vg_isa.specs.declared.isa.Parts.{Parts}
use Rattle.std.proofs.Math.Nat.{pow-le-pow_right}
use Rattle.vg_isa.proofs.Tests.{both, nat_lt-true, true-nat_eq, true-nat_le, true-nat_lt}
use Rattle.vg_isa.proofs.Kept.{kept}

-- a register file is declared
pub file_within : (regs : List RegDecl) (r w : ℕ) → IsTrue (is_file regs r w) → r < length regs
file_within [] r w h = cc
file_within (decl ∷ regs) zero w h = omega arith
file_within (decl ∷ regs) (suc r) w h = omega (arith, file_within regs r w h)

-- a single register is declared
pub single_within : (regs : List RegDecl) (r : ℕ) → IsTrue (is_single regs r) → r < length regs
single_within [] r h = cc
single_within (decl ∷ regs) zero h = omega arith
single_within (decl ∷ regs) (suc r) h = omega (arith, single_within regs r h)

index_small : (o : Option ℕ) (w : ℕ) → option_map_or (λ (v : ℕ). nat_eq v w) o false ≡ true → option_map_or (λ (v : ℕ). nat_le 1 v && nat_le v 6) o true ≡ true → w ≤ 6
index_small None w h k = cc
index_small (Some v) w h k = grind (arith, nat_tests)

-- an index is at most 6 bits wide
file_index : (regs : List RegDecl) (r w : ℕ) → IsTrue (list_all is_register_decl regs) → IsTrue (is_file regs r w) → w ≤ 6
file_index [] r w all h = cc
file_index (decl ∷ regs) zero w all h = index_small decl.index w h (both _ _ (both _ _ (both _ _ all).0).0).1
file_index (decl ∷ regs) (suc r) w all h = file_index regs r w (both _ _ all).1 h

below_sixty_four : (m n : ℕ) → n < m → m ≤ 2 ^ 6 → n < 64
below_sixty_four m n b h = omega arith

two_positive : 0 < 2
two_positive = omega arith

-- an index of a register file is below 64
pub index_below : (d : Parts) (r w n : ℕ) → IsTrue (is_isa d) → IsTrue (is_file d.regs r w) → n < 2 ^ w → n < 64
index_below d r w n h f b =
    let small : w ≤ 6 = file_index d.regs r w (kept d h).registers f in
    let most : 2 ^ w ≤ 2 ^ 6 = pow-le-pow_right two_positive small in
    below_sixty_four (2 ^ w) n b most

-- an index of a register is below their count
pub register_below : (regs : List RegDecl) (r i : ℕ) (decl : RegDecl) → IsTrue (has_register regs r i) → slice_get regs r ≡ Some decl → i < register_count decl
register_below regs r i decl h at =
    true-nat_lt _ _ (subst (λ (o : Option RegDecl). option_map_or (λ (x : RegDecl). nat_lt i (register_count x)) o false ≡ true) at h)

-- the width of a declared register
pub register_width-at : (regs : List RegDecl) (r : ℕ) (decl : RegDecl) → slice_get regs r ≡ Some decl → register_width regs r ≡ decl.width
register_width-at regs r decl at = ap (λ (o : Option RegDecl). option_map_or (λ (x : RegDecl). x.width) o 0) at

in_count : (decl : RegDecl) (w n : ℕ) → option_map_or (λ (v : ℕ). nat_eq v w) decl.index false ≡ true → n < 2 ^ w → nat_lt n (register_count decl) ≡ true
in_count decl w n h below = counted decl.index h
  where
    counted : (o : Option ℕ) → option_map_or (λ (v : ℕ). nat_eq v w) o false ≡ true → nat_lt n (option_map_or (λ (v : ℕ). 2 ^ v) o 1) ≡ true
    counted None k = cc
    counted (Some v) k = let same : v ≡ w = true-nat_eq v w k in subst (λ (x : ℕ). nat_lt n (2 ^ x) ≡ true) (sym same) (nat_lt-true _ _ below)

-- a register file has each index of its width
pub file_register : (regs : List RegDecl) (r w n : ℕ) → IsTrue (is_file regs r w) → n < 2 ^ w → IsTrue (has_register regs r n)
file_register [] r w n h below = cc
file_register (decl ∷ regs) zero w n h below = in_count decl w n h below
file_register (decl ∷ regs) (suc r) w n h below = file_register regs r w n h below

-- a single register has the index 0
pub single_register : (regs : List RegDecl) (r : ℕ) → IsTrue (is_single regs r) → IsTrue (has_register regs r 0)
single_register [] r h = cc
single_register (decl ∷ regs) zero h = counted decl.index h
  where
    counted : (o : Option ℕ) → is_none o ≡ true → nat_lt 0 (option_map_or (λ (v : ℕ). 2 ^ v) o 1) ≡ true
    counted None k = refl
    counted (Some v) k = cc
single_register (decl ∷ regs) (suc r) h = single_register regs r h

-- a register is one of a declaration
pub register_within : (regs : List RegDecl) (r i : ℕ) → IsTrue (has_register regs r i) → r < length regs
register_within [] r i h = cc
register_within (decl ∷ regs) zero i h = omega arith
register_within (decl ∷ regs) (suc r) i h = omega (arith, register_within regs r i h)

-- the declaration of a register
pub declared_at : (regs : List RegDecl) (r i : ℕ) (decl : RegDecl) → IsTrue (has_register regs r i) → decl ≡ get_or regs r decl → slice_get regs r ≡ Some decl
declared_at regs r i decl h is = slice_get_read regs (length regs) r decl refl (register_within regs r i h) is

-- the width of a declared register
pub record KeepsWidth (regs : List RegDecl) (r : ℕ) : Type 0 where
  pub least : 1 ≤ register_width regs r
  pub most : register_width regs r ≤ 128

pub width_kept : (regs : List RegDecl) (r : ℕ) → IsTrue (list_all is_register_decl regs) → r < length regs → KeepsWidth regs r
width_kept [] r all h = absurd (omega arith)
width_kept (decl ∷ regs) zero all h =
    let decl_kept = both (is_register_decl decl) (list_all is_register_decl regs) all in
    let width = (both _ _ (both _ _ decl_kept.0).0).0 in
    record { least = true-nat_le _ _ (both _ _ width).0; most = true-nat_le _ _ (both _ _ width).1 }
width_kept (decl ∷ regs) (suc r) all h =
    let later : KeepsWidth regs r = width_kept regs r (both (is_register_decl decl) (list_all is_register_decl regs) all).1 (omega arith) in
    record { least = later.least; most = later.most }
