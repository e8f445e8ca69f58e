-- The line of the first data or symbol of an image.
use Rattle.std.proofs.Common.{◌≡◌, ℕ, ◌+◌, ◌*◌, ◌/◌, ◌^◌, ◌<◌, ◌≤◌, IsTrue, length, subst, sym, inl, inr, arith}
use Rattle.vg_isa.specs.declared.isa.Parts.{Parts}
use Rattle.vg_isa.specs.Accepted.{is_isa}
use Rattle.vg_image.specs.declared.image.Image.{Image}
use Rattle.vg_image.specs.Spelling.{IsImage}
use Rattle.vg_image.proofs.MachineWidths.{IsMachineWidth, are_widths}

space_fits : (n : ℕ) → IsMachineWidth n → 2 ^ n ≤ 2 ^ 64
space_fits n is =
    let P : ℕ → Type 0 = λ m. 2 ^ m ≤ 2 ^ 64 in
    elim is [ inl e ↦ subst P (sym e) (omega arith) | inr w ↦ elim w [ inl e ↦ subst P (sym e) (omega arith) | inr e ↦ subst P (sym e) (omega arith) ] ]

words_fit : (n base count space : ℕ) → IsMachineWidth n → base + n / 8 * count ≤ space → 2 * count ≤ space
words_fit n base count space is ends =
    let P : ℕ → Type 0 = λ m. base + m / 8 * count ≤ space → 2 * count ≤ space in
    let at : P n =
    elim is [
      | inl e ↦ subst P (sym e) (λ r. omega (arith, r))
      | inr w ↦ elim w [ inl e ↦ subst P (sym e) (λ r. omega (arith, r)) | inr e ↦ subst P (sym e) (λ r. omega (arith, r)) ]
    ] in
    at ends

-- it is a number of 64 bits
pub line_fits : (d : Parts) (i : Image) → IsTrue (is_isa d) → IsImage d i → length i.code + 7 < 2 ^ 64
line_fits d i accepted is =
    let widths = are_widths d accepted in
    omega (arith, space_fits d.pc.width widths.pc, words_fit d.word i.base (length i.code) (2 ^ d.pc.width) widths.word is.code_end)
