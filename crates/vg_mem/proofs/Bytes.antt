-- What a map of bytes keeps, and that two with the same bytes are one.
use Rattle.std.proofs.Common.{◌≡◌, ℕ, zero, suc, ◌+◌, ◌/◌, ◌%◌, ◌<◌, ◌≤◌, Bool, true, false, cond, nat_eq, nat_lt, List, [], ◌∷◌, length, Some, None, Option, unwrap_or, arith, refl, sym, ap, ◌∙◌, if◌then◌else◌}
use Rattle.std.specs.List.{AllByRecursion}
use Rattle.std.specs.Ordering.{nat_cmp, eq_by_cmp}
use Rattle.std.specs.Cmp.{nat_cmp_total}
use Rattle.std.specs.FinMap.{FinMap, empty, get, insert, remove, get-empty, get-insert, get-remove, same_map, nat_cmp-IsAntisymmetric}
use Rattle.std.proofs.lemmas.Bool.Decides.{nat_tests}
use Rattle.std.proofs.lemmas.Nat.{mod_below}
use Rattle.vg_mem.specs.Bytes.{AreBytes, laid, put, stored}

-- ---- what writing keeps

-- a choice of what is at an address keeps what both choices keep
either_byte : (space at byte : ℕ) (b : Bool) (x y : Option ℕ) → (x ≡ Some byte → (at < space) × (0 < byte) × (byte < 256)) → (y ≡ Some byte → (at < space) × (0 < byte) × (byte < 256)) → cond b x y ≡ Some byte → (at < space) × (0 < byte) × (byte < 256)
either_byte space at byte true x y f g h = f h
either_byte space at byte false x y f g h = g h

-- no byte is none
pub no_byte : (byte : ℕ) → None ≡ Some byte → ⊥
no_byte byte h = cc

-- an equal key is the key
pub tied : (q k : ℕ) → eq_by_cmp nat_cmp q k ≡ true → q ≡ k
tied q k h = grind (arith, nat_tests)

-- a byte may be stored at an address below space
pub put_keeps : (space : ℕ) (m : FinMap nat_cmp ℕ) (k byte : ℕ) → AreBytes space m → k < space → byte < 256 → AreBytes space (put m k byte)
put_keeps space m k byte kept within small = of (nat_eq byte 0) refl
  where
    of : (b : Bool) → nat_eq byte 0 ≡ b → AreBytes space (if b then remove m k else insert m k byte)
    of true e q x h = either_byte space q x (eq_by_cmp nat_cmp q k) None (get m q) (λ none. absurd (no_byte x none)) (kept q x) (sym (get-remove nat_cmp_total m k q) ∙ h)
    of false e q x h = at (eq_by_cmp nat_cmp q k) refl (sym (get-insert nat_cmp_total m k byte q) ∙ h)
      where
        same : Some byte ≡ Some x → byte ≡ x
        same s = cc

        some : 0 < byte
        some = grind (arith, nat_tests)

        at : (b : Bool) → eq_by_cmp nat_cmp q k ≡ b → cond b (Some byte) (get m q) ≡ Some x → (q < space) × (0 < x) × (x < 256)
        at true key found =
            let is : byte ≡ x = same found in
            let here : q ≡ k = tied q k key in
            (omega arith, omega (arith, some), omega arith)
        at false key found = kept q x found

-- a number may be stored at any address
pub stored_keeps : (space at n value : ℕ) (m : FinMap nat_cmp ℕ) → 0 < space → AreBytes space m → AreBytes space (stored space at n value m)
stored_keeps space at zero value m some kept = kept
stored_keeps space at (suc n) value m some kept =
    put_keeps space (stored space (at + 1) n (value / 256) m) (at % space) (value % 256) (stored_keeps space (at + 1) n (value / 256) m some kept) (mod_below at space some) (mod_below value 256 (omega arith))

-- nothing is stored in an empty map
pub empty_keeps : (space : ℕ) → AreBytes space empty
empty_keeps space q x h = absurd (no_byte x (sym (get-empty nat_cmp q) ∙ h))

-- bytes may be laid where they end in the space
pub laid_keeps : (space at : ℕ) (bytes : List ℕ) (m : FinMap nat_cmp ℕ) → AreBytes space m → AllByRecursion (λ byte. byte < 256) bytes → at + length bytes ≤ space → AreBytes space (laid at bytes m)
laid_keeps space at [] m kept small within = kept
laid_keeps space at (byte ∷ bytes) m kept small within =
    put_keeps space (laid (at + 1) bytes m) at byte (laid_keeps space (at + 1) bytes m kept small.1 (omega arith)) (omega arith) small.0

-- what is read is a byte
pub byte_small : (space at : ℕ) (m : FinMap nat_cmp ℕ) → AreBytes space m → unwrap_or (get m at) 0 < 256
byte_small space at m kept = small (get m at) refl
  where
    small : (o : Option ℕ) → get m at ≡ o → unwrap_or o 0 < 256
    small None e = omega arith
    small (Some byte) e = (kept at byte e).2

-- ---- two maps with the same bytes

-- a byte that is stored isn't 0
byte_same : (x y : Option ℕ) → ((b : ℕ) → x ≡ Some b → 0 < b) → ((b : ℕ) → y ≡ Some b → 0 < b) → unwrap_or x 0 ≡ unwrap_or y 0 → x ≡ y
byte_same None None f g e = refl
byte_same None (Some b) f g e = absurd (some b (g b refl) e)
  where
    some : (n : ℕ) → 0 < n → 0 ≡ n → ⊥
    some n h k = omega arith
byte_same (Some a) None f g e = absurd (some a (f a refl) e)
  where
    some : (n : ℕ) → 0 < n → n ≡ 0 → ⊥
    some n h k = omega arith
byte_same (Some a) (Some b) f g e = ap Some e

-- nothing is stored above
pub none_above : (space at : ℕ) (m : FinMap nat_cmp ℕ) → AreBytes space m → space ≤ at → get m at ≡ None
none_above space at m kept above = of (get m at) refl
  where
    of : (o : Option ℕ) → get m at ≡ o → o ≡ None
    of None e = refl
    of (Some b) e = absurd (let below : at < space = (kept at b e).0 in omega arith)

-- two maps with the same bytes are one
pub bytes_same : (space : ℕ) (m n : FinMap nat_cmp ℕ) → AreBytes space m → AreBytes space n → ((at : ℕ) → at < space → unwrap_or (get m at) 0 ≡ unwrap_or (get n at) 0) → m ≡ n
bytes_same space m n g h alike = same_map nat_cmp_total nat_cmp-IsAntisymmetric m n (λ q. at q (nat_lt q space) refl)
  where
    at : (q : ℕ) (b : Bool) → nat_lt q space ≡ b → get m q ≡ get n q
    at q true e = byte_same (get m q) (get n q) (λ b is. (g q b is).1) (λ b is. (h q b is).1) (alike q (grind (arith, nat_tests)))
    at q false e =
        let above : space ≤ q = grind (arith, nat_tests) in
        none_above space q m g above ∙ sym (none_above space q n h above)
