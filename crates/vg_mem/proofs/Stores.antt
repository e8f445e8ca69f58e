-- What is read after a store, and after bytes are laid.
use Rattle.std.proofs.Common.{◌≡◌, ◌≢◌, ℕ, zero, suc, ◌+◌, ◌-◌, ◌*◌, ◌/◌, ◌%◌, ◌^◌, ◌<◌, ◌≤◌, Bool, true, false, nat_eq, nat_lt, List, [], ◌∷◌, ◌++◌, length, arith, refl, sym, ap, ◌∙◌, subst, if◌then◌else◌}
use Rattle.std.specs.Ordering.{nat_cmp}
use Rattle.std.specs.FinMap.{FinMap}
use Rattle.std.proofs.lemmas.Bool.Decides.{nat_tests}
use Rattle.std.proofs.lemmas.Nat.{mod_below, pow-add, pow_pos}
use Rattle.std.proofs.Math.Arith.{mod-mul}
use Rattle.std.proofs.Math.Nat.{mod-add-mod, mod-eq_of_lt}
use Rattle.vg_mem.specs.Bytes.{byte_in, laid, loaded, put, stored}
use Rattle.vg_mem.proofs.Wraps.{past}
use Rattle.vg_mem.proofs.Zeros.{KeepsNoZero, byte_in-put, laid_keeps_no_zero, put_keeps_no_zero, same_bytes}

apart_test : (x y : ℕ) → x ≢ y → nat_eq x y ≡ false
apart_test x y h = grind (arith, nat_tests)

itself : (x : ℕ) → nat_eq x x ≡ true
itself x = grind (arith, nat_tests)

-- a byte that isn't put is as it was
put_other : (m : FinMap nat_cmp ℕ) (k byte q : ℕ) → q ≢ k → byte_in (put m k byte) q ≡ byte_in m q
put_other m k byte q apart = byte_in-put m k byte q ∙ ap (λ b. if b then byte else byte_in m q) (apart_test q k apart)

-- a byte that is put is read
put_here : (m : FinMap nat_cmp ℕ) (k byte : ℕ) → byte_in (put m k byte) k ≡ byte
put_here m k byte = byte_in-put m k byte k ∙ ap (λ b. if b then byte else byte_in m k) (itself k)

shifted : (at k : ℕ) → at + 1 + k ≡ at + (k + 1)
shifted at k = omega arith

-- a store keeps each byte that it doesn't name
pub stored_other : (space at bytes value : ℕ) (m : FinMap nat_cmp ℕ) (q : ℕ) → ((k : ℕ) → k < bytes → q ≢ (at + k) % space) → byte_in (stored space at bytes value m) q ≡ byte_in m q
stored_other space at zero value m q apart = refl
stored_other space at (suc bytes) value m q apart =
    put_other (stored space (at + 1) bytes (value / 256) m) (at % space) (value % 256) q (λ e. apart 0 (omega arith) (e ∙ ap (λ n. n % space) (first at)))
    ∙ stored_other space (at + 1) bytes (value / 256) m q (λ k below e. apart (k + 1) (omega arith) (e ∙ ap (λ n. n % space) (shifted at k)))
  where
    first : (n : ℕ) → n ≡ n + 0
    first n = omega arith

-- addresses that lie less than the space apart are two
pub two_addresses : (space at k : ℕ) → 0 < k → k < space → (at + k) % space ≢ at % space
two_addresses space at k some less e = of (nat_lt (at % space + k) space) refl
  where
    rest : (at % space + k) % space ≡ at % space
    rest = mod-add-mod at space k ∙ e

    below : at % space < space
    below = mod_below at space (omega arith)

    of : (b : Bool) → nat_lt (at % space + k) space ≡ b → ⊥
    of true t =
        let within : at % space + k < space = grind (arith, nat_tests) in
        let same : at % space + k ≡ at % space = sym (mod-eq_of_lt {n = at % space + k} {m = space} within) ∙ rest in
        omega arith
    of false t =
        let beyond : space ≤ at % space + k = grind (arith, nat_tests) in
        let same : at % space + k - space ≡ at % space = sym (past space (at % space + k) beyond (omega arith)) ∙ rest in
        omega arith

-- bytes that read alike are loaded alike
loaded_alike : (f g : ℕ → ℕ) (space at bytes : ℕ) → ((k : ℕ) → k < bytes → f ((at + k) % space) ≡ g ((at + k) % space)) → loaded f space at bytes ≡ loaded g space at bytes
loaded_alike f g space at zero alike = refl
loaded_alike f g space at (suc bytes) alike =
    both (subst (λ (n : ℕ). f (n % space) ≡ g (n % space)) (first at) (alike 0 (omega arith)))
    (loaded_alike f g space (at + 1) bytes (λ k below. subst (λ (n : ℕ). f (n % space) ≡ g (n % space)) (sym (shifted at k)) (alike (k + 1) (omega arith))))
  where
    first : (n : ℕ) → n + 0 ≡ n
    first n = omega arith

    both : {a b x y : ℕ} → a ≡ b → x ≡ y → a + 256 * x ≡ b + 256 * y
    both p q = λ i. p i + 256 * q i

-- what was stored is loaded
pub loaded-stored : (space at bytes value : ℕ) (m : FinMap nat_cmp ℕ) → bytes ≤ space → loaded (byte_in (stored space at bytes value m)) space at bytes ≡ value % 2 ^ (8 * bytes)
loaded-stored space at zero value m few = sym (one value)
  where
    one : (n : ℕ) → n % 1 ≡ 0
    one n = omega arith
loaded-stored space at (suc bytes) value m few =
    both (put_here rest (at % space) (value % 256))
    (loaded_alike (byte_in (put rest (at % space) (value % 256))) (byte_in rest) space (at + 1) bytes
    (λ k below. put_other rest (at % space) (value % 256) ((at + 1 + k) % space) (λ e. two_addresses space at (k + 1) (omega arith) (omega arith) (ap (λ n. n % space) (sym (shifted at k)) ∙ e)))
    ∙ loaded-stored space (at + 1) bytes (value / 256) m (omega arith))
    ∙ joined
  where
    rest : FinMap nat_cmp ℕ
    rest = stored space (at + 1) bytes (value / 256) m

    both : {a b x y : ℕ} → a ≡ b → x ≡ y → a + 256 * x ≡ b + 256 * y
    both p q = λ i. p i + 256 * q i

    power : (n : ℕ) → 2 ^ (8 * suc n) ≡ 2 ^ (8 * n) * 256
    power n = ap (λ k. 2 ^ k) (more n) ∙ pow-add 2 (8 * n) 8
      where
        more : (j : ℕ) → 8 * suc j ≡ 8 * j + 8
        more j = omega arith

    joined : value % 256 + 256 * (value / 256 % 2 ^ (8 * bytes)) ≡ value % 2 ^ (8 * suc bytes)
    joined =
        let split : value % (2 ^ (8 * bytes) * 256) ≡ (value / 256 % 2 ^ (8 * bytes)) * 256 + value % 256 = mod-mul value {m = 2 ^ (8 * bytes)} {c = 256} (pow_pos (8 * bytes)) (omega arith) in
        let whole : value % 2 ^ (8 * suc bytes) ≡ value % (2 ^ (8 * bytes) * 256) = ap (λ k. value % k) (power bytes) in
        omega arith

-- ---- bytes that are laid

-- a store of one byte puts it
pub stored_byte : (space at byte : ℕ) (m : FinMap nat_cmp ℕ) → at < space → byte < 256 → stored space at 1 byte m ≡ put m at byte
stored_byte space at byte m below small =
    ap (λ n. put m n (byte % 256)) (mod-eq_of_lt {n = at} {m = space} below) ∙ ap (put m at) (mod-eq_of_lt {n = byte} {m = 256} small)

-- two bytes at two addresses may be put in any order
put_twice : (m : FinMap nat_cmp ℕ) (j a k b : ℕ) → KeepsNoZero m → j ≢ k → put (put m j a) k b ≡ put (put m k b) j a
put_twice m j a k b kept apart =
    same_bytes (put (put m j a) k b) (put (put m k b) j a) (put_keeps_no_zero (put m j a) k b (put_keeps_no_zero m j a kept)) (put_keeps_no_zero (put m k b) j a (put_keeps_no_zero m k b kept))
    (λ q. byte_in-put (put m j a) k b q ∙ ap (λ n. if nat_eq q k then b else n) (byte_in-put m j a q)
    ∙ chosen q (nat_eq q k) (nat_eq q j) refl refl
    ∙ sym (byte_in-put (put m k b) j a q ∙ ap (λ n. if nat_eq q j then a else n) (byte_in-put m k b q)))
  where
    chosen : (q : ℕ) (s t : Bool) → nat_eq q k ≡ s → nat_eq q j ≡ t → (if s then b else (if t then a else byte_in m q)) ≡ (if t then a else (if s then b else byte_in m q))
    chosen q true true d e = absurd (apart (same q j k e d))
      where
        same : (x y z : ℕ) → nat_eq x y ≡ true → nat_eq x z ≡ true → y ≡ z
        same x y z f g = grind (arith, nat_tests)
    chosen q true false d e = refl
    chosen q false true d e = refl
    chosen q false false d e = refl

-- bytes may be laid from the first on: one more behind them is put
pub laid_push : (at : ℕ) (bytes : List ℕ) (byte : ℕ) (m : FinMap nat_cmp ℕ) → KeepsNoZero m → laid at (bytes ++ byte ∷ []) m ≡ put (laid at bytes m) (at + length bytes) byte
laid_push at [] byte m kept = ap (λ n. put m n byte) (first at)
  where
    first : (n : ℕ) → n ≡ n + 0
    first n = omega arith
laid_push at (b ∷ bytes) byte m kept =
    ap (λ rest. put rest at b) (laid_push (at + 1) bytes byte m kept)
    ∙ put_twice (laid (at + 1) bytes m) (at + 1 + length bytes) byte at b (laid_keeps_no_zero (at + 1) bytes m kept) (behind at (length bytes))
    ∙ ap (λ n. put (put (laid (at + 1) bytes m) at b) n byte) (next at (length bytes))
  where
    behind : (n k : ℕ) → n + 1 + k ≢ n
    behind n k e = omega arith

    next : (n k : ℕ) → n + 1 + k ≡ n + suc k
    next n k = omega arith
