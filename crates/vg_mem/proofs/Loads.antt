-- So many bytes make a number of so many bits.
use Rattle.std.proofs.Common.{◌≡◌, ℕ, ◌+◌, ◌-◌, ◌*◌, ◌^◌, ◌<◌, ◌≤◌, arith, subst, sym, lit<}
use Rattle.std.proofs.lemmas.Nat.{pow-add}
use Rattle.std.proofs.Math.Nat.{pow-le-pow_right}

-- a byte below a number of some bytes makes one of one byte more
pub byte_more : (bytes byte rest : ℕ) → 0 < bytes → byte < 256 → rest < 2 ^ (8 * (bytes - 1)) → byte + 256 * rest < 2 ^ (8 * bytes)
byte_more bytes byte rest some small below =
    let whole : 2 ^ (8 * bytes) ≡ 256 * 2 ^ (8 * (bytes - 1)) = more (8 * (bytes - 1)) (8 * bytes) (omega arith) in
    omega arith
  where
    more : (i j : ℕ) → j ≡ 8 + i → 2 ^ j ≡ 256 * 2 ^ i
    more i j e = let P : ℕ → Type 0 = λ k. 2 ^ k ≡ 256 * 2 ^ i in subst P (sym e) (pow-add 2 8 i)

-- at most 16 bytes have at most 128 bits
pub bytes_fit : (bytes value : ℕ) → bytes ≤ 16 → value < 2 ^ (8 * bytes) → value < 2 ^ 128
bytes_fit bytes value few below =
    let most : 2 ^ (8 * bytes) ≤ 2 ^ 128 = pow-le-pow_right (lit< tt) {i = 8 * bytes} {j = 128} (omega arith) in
    omega arith
