-- The lines of memory, from one byte that isn't 0 to the next.
use Rattle.std.proofs.Common.{◌≡◌, ℕ, zero, suc, ◌+◌, ◌-◌, ◌*◌, ◌/◌, ◌%◌, ◌^◌, ◌<◌, ◌≤◌, Bool, true, false, List, [], ◌∷◌, ◌++◌, map, nat_eq, refl, ap, sym, ◌∙◌, arith, flat_map, length, IsTrue, Option, Some, None, IfSome, SomeIff, unwrap_or, if◌then◌else◌}
use Rattle.std.specs.List.{list_all, range_with_len}
use Rattle.std.specs.FinMap.{empty, get-empty}
use Rattle.std.specs.Ordering.{nat_cmp}
use Rattle.std.proofs.lemmas.Nat.{pow-add}
use Rattle.std.proofs.Math.Nat.{pow-le-pow_right}
use Rattle.std.proofs.lemmas.Bool.Decides.{nat_tests}
use Rattle.vg_isa.specs.Accepted.{is_machine_width}
use Rattle.vg_image.specs.State.{byte_at}
use Rattle.vg_isa.specs.declared.isa.Parts.{Parts}
use Rattle.vg_isa.specs.Value.{IsNextSet}
use Rattle.vg_image.specs.declared.image.Image.{Image}
use Rattle.vg_top.specs.Reports.State.{in_code, data_byte, row_of, row_line, memory_line, memory_lines}
use Rattle.vg_top.proofs.Ranges.{range_beyond, range_step}

zeros : (g : ℕ → ℕ) (a n : ℕ) → ((k : ℕ) → a ≤ k → k < a + n → g k ≡ 0) → list_all (λ byte. nat_eq byte 0) (map g (range_with_len a n)) ≡ true
zeros g a zero none = refl
zeros g a (suc n) none =
    rw (none a (omega arith) (omega arith)) (zeros g (a + 1) n (λ k h i. none k (omega (arith, h)) (omega (arith, i))))

same_choice : (b : Bool) (n : ℕ) → n ≡ 0 → (if b then 0 else n) ≡ 0
same_choice true n h = refl
same_choice false n h = h

no_byte : (d : Parts) (i : Image) (byte : ℕ → ℕ) (at : ℕ) → byte at ≡ 0 → data_byte d i byte at ≡ 0
unfolding data_byte
no_byte d i byte at h = same_choice (in_code d i at) (byte at) h

no_row : (d : Parts) (at : ℕ) (row : List ℕ) → list_all (λ byte. nat_eq byte 0) row ≡ true → row_line d at row ≡ []
unfolding row_line
no_row d at row all = rw all

-- 16 bytes that are 0 have no line
no_line : (d : Parts) (i : Image) (byte : ℕ → ℕ) (k : ℕ) → ((at : ℕ) → 16 * k ≤ at → at < 16 * k + 16 → byte at ≡ 0) → memory_line d i byte k ≡ []
unfolding memory_line row_of
no_line d i byte k none =
    no_row d (16 * k) (row_of d i byte (16 * k))
    (zeros (λ j. data_byte d i byte (16 * k + j)) 0 16 (λ j low high. no_byte d i byte (16 * k + j) (none (16 * k + j) (omega arith) (omega (arith, high)))))

-- rows between two addresses, the bytes between which are 0
no_lines : (d : Parts) (i : Image) (byte : ℕ → ℕ) (from to : ℕ) → from % 16 ≡ 0 → ((at : ℕ) → from ≤ at → at < to → byte at ≡ 0)
    → (k : ℕ) → from / 16 ≤ k → k < to / 16 → memory_line d i byte k ≡ []
no_lines d i byte from to aligned none k low high =
    no_line d i byte k (λ at above below. none at (omega (arith, aligned, low, above)) (omega (arith, high, below)))

-- the line of the next byte that isn't 0
memory_step : (d : Parts) (i : Image) (byte : ℕ → ℕ) (start out new : List ℕ) (from at row : ℕ) → from % 16 ≡ 0 → IsNextSet byte from (Some at) → row ≡ at / 16 * 16
    → new ≡ out ++ row_line d row (row_of d i byte row) → out ≡ start ++ flat_map (memory_line d i byte) (range_with_len 0 (from / 16))
    → new ≡ start ++ flat_map (memory_line d i byte) (range_with_len 0 ((row + 16) / 16))
unfolding memory_line
memory_step d i byte start out new from at row aligned next is pushed so_far =
    let line : ℕ → List ℕ = memory_line d i byte in
    let k : ℕ = at / 16 in
    let e : row ≡ 16 * k = is ∙ omega arith in
    let here : new ≡ out ++ line k = pushed ∙ ap (λ (r : ℕ). out ++ row_line d r (row_of d i byte r)) e in
    let before : flat_map line (range_with_len 0 k) ≡ flat_map line (range_with_len 0 (from / 16)) =
    range_beyond line (from / 16) k (omega (arith, next.0)) (no_lines d i byte from at aligned next.2) in
    let count : k + 1 ≡ (row + 16) / 16 = omega (arith, is) in
    range_step start out new line k here (so_far ∙ ap (λ (l : List ℕ). start ++ l) (sym before))
    ∙ ap (λ (n : ℕ). start ++ flat_map line (range_with_len 0 n)) count

-- no byte is left
pub memory_done : (d : Parts) (i : Image) (byte : ℕ → ℕ) (start out : List ℕ) (from : ℕ) → from % 16 ≡ 0 → from ≤ 2 ^ d.pc.width → IsNextSet byte from None
    → out ≡ start ++ flat_map (memory_line d i byte) (range_with_len 0 (from / 16)) → out ≡ start ++ memory_lines d i byte
unfolding memory_lines
memory_done d i byte start out from aligned within next so_far =
    so_far ∙ ap (λ (l : List ℕ). start ++ l)
    (sym (range_beyond (memory_line d i byte) (from / 16) (2 ^ d.pc.width / 16) (omega (arith, within))
    (no_lines d i byte from (2 ^ d.pc.width) aligned (λ at low high. next at low))))

-- all rows are written
memory_whole : (d : Parts) (i : Image) (byte : ℕ → ℕ) (start out : List ℕ) (row : ℕ) → row + 16 ≡ 2 ^ d.pc.width
    → out ≡ start ++ flat_map (memory_line d i byte) (range_with_len 0 ((row + 16) / 16)) → out ≡ start ++ memory_lines d i byte
unfolding memory_lines
memory_whole d i byte start out row e so_far = so_far ∙ ap (λ (n : ℕ). start ++ flat_map (memory_line d i byte) (range_with_len 0 (n / 16))) e

-- an address space has a whole number of rows
space_rows : (w : ℕ) → 4 ≤ w → 2 ^ w ≡ 16 * 2 ^ (w - 4)
space_rows w h = let e : w ≡ 4 + (w - 4) = omega (arith, h) in ap (λ (k : ℕ). 2 ^ k) e ∙ pow-add 2 4 (w - 4)

wide : (w : ℕ) → IsTrue (is_machine_width w) → 4 ≤ w
wide w h = grind (arith, nat_tests)

-- so the row of an address is within it
pub row_within : (w at : ℕ) → IsTrue (is_machine_width w) → at < 2 ^ w → at / 16 * 16 + 16 ≤ 2 ^ w
row_within w at h below = omega (arith, space_rows w (wide w h), below)

-- and the last row ends with it
row_last : (w row : ℕ) → row + 16 ≤ 2 ^ w → 2 ^ 64 ≤ row + 16 → 2 ^ w ≤ 2 ^ 64 → row + 16 ≡ 2 ^ w
row_last w row within most less = omega (arith, within, most, less)

-- nothing is set where nothing is stored
pub nothing_set : (pc from : ℕ) (registers : List (List ℕ)) (found : Option ℕ) (P : ℕ → Type 0) → IsNextSet (byte_at (record { pc = pc; registers = registers; bytes = empty })) from found → IfSome found P
nothing_set pc from registers None P h = tt
nothing_set pc from registers (Some at) P h = absurd (h.1 (ap (λ (o : Option ℕ). unwrap_or o 0) (get-empty nat_cmp at)))

-- the next 16 bytes
pub memory_next : (d : Parts) (i : Image) (byte : ℕ → ℕ) (start out new : List ℕ) (from at row behind : ℕ) → row ≡ at / 16 * 16 → behind ≡ row + 16 → at < 2 ^ d.pc.width → IsTrue (is_machine_width d.pc.width)
    → (from % 16 ≡ 0) × (from ≤ 2 ^ d.pc.width) × (out ≡ start ++ flat_map (memory_line d i byte) (range_with_len 0 (from / 16)))
    → IsNextSet byte from (Some at) → new ≡ out ++ row_line d row (row_of d i byte row)
    → (behind % 16 ≡ 0) × (behind ≤ 2 ^ d.pc.width) × (new ≡ start ++ flat_map (memory_line d i byte) (range_with_len 0 (behind / 16)))
memory_next d i byte start out new from at row behind is next below machine (aligned, within, so_far) found pushed = (
  omega (arith, is, next),
  omega (arith, is, next, row_within d.pc.width at machine below),
  memory_step d i byte start out new from at row aligned found is pushed so_far ∙ ap (λ (n : ℕ). start ++ flat_map (memory_line d i byte) (range_with_len 0 (n / 16))) (sym next),
)

space_least : (w : ℕ) → IsTrue (is_machine_width w) → 2 ^ w ≤ 2 ^ 64
space_least w h = pow-le-pow_right (omega arith) (most w h)
  where
    most : (w : ℕ) → IsTrue (is_machine_width w) → w ≤ 64
    most w h = grind (arith, nat_tests)

-- the last 16 bytes of the whole space
pub memory_end : (d : Parts) (i : Image) (byte : ℕ → ℕ) (start out new : List ℕ) (from at row : ℕ) → row ≡ at / 16 * 16 → (row + 16 < 2 ^ 64 → ⊥) → at < 2 ^ d.pc.width → IsTrue (is_machine_width d.pc.width)
    → (from % 16 ≡ 0) × (from ≤ 2 ^ d.pc.width) × (out ≡ start ++ flat_map (memory_line d i byte) (range_with_len 0 (from / 16)))
    → IsNextSet byte from (Some at) → new ≡ out ++ row_line d row (row_of d i byte row) → new ≡ start ++ memory_lines d i byte
memory_end d i byte start out new from at row is past below machine (aligned, within, so_far) found pushed =
    memory_whole d i byte start new row
    (row_last d.pc.width row (omega (arith, is, row_within d.pc.width at machine below)) (omega (arith, past)) (space_least d.pc.width machine))
    (memory_step d i byte start out new from at row aligned found is pushed so_far)

-- a sum that fits, and one that doesn't
pub sum_of : (result : Option ℕ) (P : Type 0) (sum found : ℕ) → result ≡ Some found → SomeIff result P sum → found ≡ sum
sum_of None P sum found is h = cc
sum_of (Some x) P sum found is h = let e : x ≡ found = cc in sym e ∙ h.1

pub no_sum : (result : Option ℕ) (P : Type 0) (sum : ℕ) → result ≡ None → SomeIff result P sum → ¬ P
no_sum None P sum is h = h
no_sum (Some x) P sum is h = cc
