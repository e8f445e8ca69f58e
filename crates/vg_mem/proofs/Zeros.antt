-- Maps of bytes that keep no 0, read as functions: two that read alike are one.
use Rattle.std.proofs.Common.{◌≡◌, ◌≢◌, ℕ, zero, suc, ◌+◌, ◌<◌, Bool, true, false, cond, nat_eq, List, [], ◌∷◌, length, get_or, Some, None, Option, unwrap_or, arith, refl, sym, ap, ◌∙◌, if◌then◌else◌}
use Rattle.std.specs.Ordering.{nat_cmp, eq_by_cmp}
use Rattle.std.specs.Cmp.{nat_cmp_total}
use Rattle.std.specs.FinMap.{FinMap, empty, get, insert, remove, get-empty, get-insert, get-remove, same_map, nat_cmp-IsAntisymmetric}
use Rattle.std.proofs.lemmas.Bool.Decides.{nat_tests}
use Rattle.vg_mem.specs.Bytes.{byte_in, laid, put}
use Rattle.vg_mem.proofs.Bytes.{no_byte}

-- no 0 is kept
abbrev pub KeepsNoZero : FinMap nat_cmp ℕ → Type 0
KeepsNoZero m = (q : ℕ) → get m q ≢ Some 0

-- the test of an equal key, as the test of numbers
key_test : (q k : ℕ) → eq_by_cmp nat_cmp q k ≡ nat_eq q k
key_test q k = grind (arith, nat_tests)

-- what is read after a byte is put
pub byte_in-put : (m : FinMap nat_cmp ℕ) (k byte q : ℕ) → byte_in (put m k byte) q ≡ (if nat_eq q k then byte else byte_in m q)
byte_in-put m k byte q = of (nat_eq byte 0) refl
  where
    kept : (b : Bool) → unwrap_or (cond b (Some byte) (get m q)) 0 ≡ (if b then byte else byte_in m q)
    kept true = refl
    kept false = refl

    left : (b : Bool) → byte ≡ 0 → unwrap_or (cond b None (get m q)) 0 ≡ (if b then byte else byte_in m q)
    left true none = sym none
    left false none = refl

    of : (b : Bool) → nat_eq byte 0 ≡ b → byte_in (if b then remove m k else insert m k byte) q ≡ (if nat_eq q k then byte else byte_in m q)
    of true e = ap (λ o. unwrap_or o 0) (get-remove nat_cmp_total m k q ∙ ap (λ b. cond b None (get m q)) (key_test q k)) ∙ left (nat_eq q k) (grind (arith, nat_tests))
    of false e = ap (λ o. unwrap_or o 0) (get-insert nat_cmp_total m k byte q ∙ ap (λ b. cond b (Some byte) (get m q)) (key_test q k)) ∙ kept (nat_eq q k)

pub empty_keeps_no_zero : KeepsNoZero empty
empty_keeps_no_zero q e = no_byte 0 (sym (get-empty nat_cmp q) ∙ e)

pub put_keeps_no_zero : (m : FinMap nat_cmp ℕ) (k byte : ℕ) → KeepsNoZero m → KeepsNoZero (put m k byte)
put_keeps_no_zero m k byte kept q = of (nat_eq byte 0) refl
  where
    some : byte ≢ 0 → Some byte ≡ Some 0 → ⊥
    some apart e = apart (cc)

    gone : (b : Bool) → cond b None (get m q) ≡ Some 0 → ⊥
    gone true e = no_byte 0 e
    gone false e = kept q e

    there : (b : Bool) → byte ≢ 0 → cond b (Some byte) (get m q) ≡ Some 0 → ⊥
    there true apart e = some apart e
    there false apart e = kept q e

    of : (b : Bool) → nat_eq byte 0 ≡ b → get (if b then remove m k else insert m k byte) q ≢ Some 0
    of true e h = gone (eq_by_cmp nat_cmp q k) (sym (get-remove nat_cmp_total m k q) ∙ h)
    of false e h = there (eq_by_cmp nat_cmp q k) (grind (arith, nat_tests)) (sym (get-insert nat_cmp_total m k byte q) ∙ h)

pub laid_keeps_no_zero : (at : ℕ) (bytes : List ℕ) (m : FinMap nat_cmp ℕ) → KeepsNoZero m → KeepsNoZero (laid at bytes m)
laid_keeps_no_zero at [] m kept = kept
laid_keeps_no_zero at (byte ∷ bytes) m kept = put_keeps_no_zero (laid (at + 1) bytes m) at byte (laid_keeps_no_zero (at + 1) bytes m kept)

-- two entries that aren't 0 and read alike are one
same_entry : (x y : Option ℕ) → x ≢ Some 0 → y ≢ Some 0 → unwrap_or x 0 ≡ unwrap_or y 0 → x ≡ y
same_entry None None f g e = refl
same_entry None (Some b) f g e = absurd (g (ap Some (sym e)))
same_entry (Some a) None f g e = absurd (f (ap Some e))
same_entry (Some a) (Some b) f g e = ap Some e

-- two maps that keep no 0 and read alike are one
pub same_bytes : (m n : FinMap nat_cmp ℕ) → KeepsNoZero m → KeepsNoZero n → ((q : ℕ) → byte_in m q ≡ byte_in n q) → m ≡ n
same_bytes m n f g alike = same_map nat_cmp_total nat_cmp-IsAntisymmetric m n (λ q. same_entry (get m q) (get n q) (f q) (g q) (alike q))

-- what is read where bytes are laid: inside
pub byte_in-laid_inside : (at : ℕ) (bytes : List ℕ) (m : FinMap nat_cmp ℕ) (k : ℕ) → k < length bytes → byte_in (laid at bytes m) (at + k) ≡ get_or bytes k 0
byte_in-laid_inside at [] m k within = absurd (omega arith)
byte_in-laid_inside at (byte ∷ bytes) m zero within =
    byte_in-put (laid (at + 1) bytes m) at byte (at + 0) ∙ ap (λ b. if b then byte else byte_in (laid (at + 1) bytes m) (at + 0)) (here at)
  where
    here : (n : ℕ) → nat_eq (n + 0) n ≡ true
    here n = grind (arith, nat_tests)
byte_in-laid_inside at (byte ∷ bytes) m (suc k) within =
    byte_in-put (laid (at + 1) bytes m) at byte (at + suc k)
    ∙ ap (λ b. if b then byte else byte_in (laid (at + 1) bytes m) (at + suc k)) (other at k)
    ∙ ap (byte_in (laid (at + 1) bytes m)) (shift at k)
    ∙ byte_in-laid_inside (at + 1) bytes m k (omega arith)
  where
    other : (n k : ℕ) → nat_eq (n + suc k) n ≡ false
    other n k = grind (arith, nat_tests)

    shift : (n k : ℕ) → n + suc k ≡ n + 1 + k
    shift n k = omega arith

-- what is read where bytes are laid: outside
pub byte_in-laid_outside : (at : ℕ) (bytes : List ℕ) (m : FinMap nat_cmp ℕ) (q : ℕ) → ((k : ℕ) → k < length bytes → q ≢ at + k) → byte_in (laid at bytes m) q ≡ byte_in m q
byte_in-laid_outside at [] m q apart = refl
byte_in-laid_outside at (byte ∷ bytes) m q apart =
    byte_in-put (laid (at + 1) bytes m) at byte q
    ∙ ap (λ b. if b then byte else byte_in (laid (at + 1) bytes m) q) (other (apart 0 (omega arith)))
    ∙ byte_in-laid_outside (at + 1) bytes m q (λ k within e. apart (suc k) (omega arith) (e ∙ shift at k))
  where
    other : q ≢ at + 0 → nat_eq q at ≡ false
    other h = grind (arith, nat_tests)

    shift : (n k : ℕ) → n + 1 + k ≡ n + suc k
    shift n k = omega arith
