-- The widths of a description: an address has a digit for each four bits, and a code word two for each byte.
use Rattle.std.proofs.Common.{◌≡◌, ℕ, ◌+◌, ◌-◌, ◌*◌, ◌/◌, ◌^◌, ◌≤◌, ◌⊎◌, refl, sym, subst, inl, inr, arith}
use Rattle.std.specs.Prelude.{IsTrue}
use Rattle.std.proofs.lemmas.Bool.Decides.{nat_tests}
use Rattle.vg_isa.specs.declared.isa.Parts.{Parts}
use Rattle.vg_isa.specs.Accepted.{is_isa, is_machine_width}
use Rattle.vg_isa.proofs.Kept.{kept}

abbrev pub IsMachineWidth : ℕ → Type 0
IsMachineWidth n = (n ≡ 16) ⊎ ((n ≡ 32) ⊎ (n ≡ 64))

machine_width : (n : ℕ) → IsTrue (is_machine_width n) → IsMachineWidth n
machine_width n is = grind (arith, nat_tests)

pub record AreWidths (d : Parts) : Type 0 where
  pub word : IsMachineWidth d.word
  pub pc : IsMachineWidth d.pc.width

pub are_widths : (d : Parts) → IsTrue (is_isa d) → AreWidths d
are_widths d is = record { word = machine_width d.word (kept d is).word; pc = machine_width d.pc.width (kept d is).address }

pub address_space : (n : ℕ) → IsMachineWidth n → 16 ^ (n / 4) ≡ 2 ^ n
address_space n is =
    let P : ℕ → Type 0 = λ m. 16 ^ (m / 4) ≡ 2 ^ m in
    elim is [ inl e ↦ subst P (sym e) refl | inr w ↦ elim w [ inl e ↦ subst P (sym e) refl | inr e ↦ subst P (sym e) refl ] ]

pub word_space : (n : ℕ) → IsMachineWidth n → 16 ^ (2 * (n / 8)) ≡ 2 ^ n
word_space n is =
    let P : ℕ → Type 0 = λ m. 16 ^ (2 * (m / 8)) ≡ 2 ^ m in
    elim is [ inl e ↦ subst P (sym e) refl | inr w ↦ elim w [ inl e ↦ subst P (sym e) refl | inr e ↦ subst P (sym e) refl ] ]

-- so many words have room from a base on exactly where they end in the address space
pub ends_from_room : (n base space count : ℕ) → IsMachineWidth n → base ≤ space → count ≤ (space - base) / (n / 8) → base + (n / 8) * count ≤ space
ends_from_room n base space count is within room =
    let P : ℕ → Type 0 = λ m. count ≤ (space - base) / (m / 8) → base + (m / 8) * count ≤ space in
    let at : P n =
    elim is [
      | inl e ↦ subst P (sym e) (λ r. omega (arith, r))
      | inr w ↦ elim w [ inl e ↦ subst P (sym e) (λ r. omega (arith, r)) | inr e ↦ subst P (sym e) (λ r. omega (arith, r)) ]
    ] in
    at room

pub room_from_ends : (n base space count : ℕ) → IsMachineWidth n → base + (n / 8) * count ≤ space → count ≤ (space - base) / (n / 8)
room_from_ends n base space count is ends =
    let P : ℕ → Type 0 = λ m. base + (m / 8) * count ≤ space → count ≤ (space - base) / (m / 8) in
    let at : P n =
    elim is [
      | inl e ↦ subst P (sym e) (λ r. omega (arith, r))
      | inr w ↦ elim w [ inl e ↦ subst P (sym e) (λ r. omega (arith, r)) | inr e ↦ subst P (sym e) (λ r. omega (arith, r)) ]
    ] in
    at ends
