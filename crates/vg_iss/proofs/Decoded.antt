-- Trying items of a list in their order.
use Rattle.std.proofs.Common.{◌≡◌, ℕ, suc, ◌+◌, ◌<◌, Bool, true, false, not, cond, List, [], ◌∷◌, length, nat_lt, nat_eq, slice_get, get_or, drop, drop-cons, Some, None, Option, refl, sym, ap, ◌∙◌, subst, arith, if◌then◌else◌}
use Rattle.std.specs.List.{find, list_all, position, position_or_len}
use Rattle.std.specs.Option.{option_and_then}
use Rattle.std.proofs.lemmas.Bool.Decides.{nat_tests}
use Rattle.vg_isa.specs.declared.isa.Parts.{Parts}
use Rattle.vg_image.specs.State.{State}
use Rattle.vg_format.specs.Matching.{matches, decoded}
use Rattle.vg_image.specs.declared.image.Image.{Image}
use Rattle.vg_image.specs.declared.ending.Ending.TheVariants.{End, StackEnd}
use Rattle.vg_image.specs.Step.{Over, instr_step, executed, word_at, word_step, step_of}
use Rattle.vg_isa.proofs.Tests.{both}

nat_lt-suc : (m n : ℕ) → nat_lt (suc m) (suc n) ≡ nat_lt m n
nat_lt-suc m n = grind (arith, nat_tests)

nat_lt-zero : (n : ℕ) → nat_lt 0 (suc n) ≡ true
nat_lt-zero n = grind (arith, nat_tests)

-- numbers that differ fail the test
pub nat_eq-false : (m n : ℕ) → (m ≡ n → ⊥) → nat_eq m n ≡ false
nat_eq-false m n h = grind (arith, nat_tests)

-- what stands at the first place is what is found
position_found : {X : Type 0} (p : X → Bool) (xs : List X) → option_and_then (λ (k : ℕ). slice_get xs k) (position p xs) ≡ find p xs
position_found p [] = refl
position_found p (x ∷ xs) = first (p x) (position_or_len p xs) (1 + position_or_len p xs) (omega arith) (position_found p xs)
  where
    shifted : (rest : ℕ) (b : Bool) → option_and_then (λ (k : ℕ). slice_get (x ∷ xs) k) (cond b (Some (suc rest)) None) ≡ option_and_then (λ (k : ℕ). slice_get xs k) (cond b (Some rest) None)
    shifted rest true = refl
    shifted rest false = refl

    first : (b : Bool) (rest next : ℕ) → next ≡ suc rest → option_and_then (λ (k : ℕ). slice_get xs k) (cond (nat_lt rest (length xs)) (Some rest) None) ≡ find p xs → option_and_then (λ (k : ℕ). slice_get (x ∷ xs) k) (cond (nat_lt (cond (not b) next 0) (suc (length xs))) (Some (cond (not b) next 0)) None) ≡ cond b (Some x) (find p xs)
    first true rest next is later = ap (λ (b : Bool). option_and_then (λ (k : ℕ). slice_get (x ∷ xs) k) (cond b (Some 0) None)) (nat_lt-zero (length xs))
    first false rest next is later =
        ap (λ (n : ℕ). option_and_then (λ (k : ℕ). slice_get (x ∷ xs) k) (cond (nat_lt n (suc (length xs))) (Some n) None)) is
        ∙ ap (λ (b : Bool). option_and_then (λ (k : ℕ). slice_get (x ∷ xs) k) (cond b (Some (suc rest)) None)) (nat_lt-suc rest (length xs))
        ∙ shifted rest (nat_lt rest (length xs)) ∙ later

-- an item that passes is found where none before it passes
pub find-here : {X : Type 0} (p : X → Bool) (xs : List X) (i : ℕ) (x : X) → i < length xs → x ≡ get_or xs i x → p x ≡ true → find p xs ≡ find p (drop i xs) → Some x ≡ find p xs
find-here p xs i x within is passes so_far =
    let cons : drop i xs ≡ x ∷ drop (suc i) xs = drop-cons xs i x within ∙ ap (λ y. y ∷ drop (suc i) xs) (sym is) in
    sym (so_far ∙ ap (find p) cons ∙ ap (λ (b : Bool). cond b (Some x) (find p (drop (suc i) xs))) passes)

-- an item that doesn't pass is passed over
pub find-past : {X : Type 0} (p : X → Bool) (xs : List X) (i : ℕ) (x : X) → i < length xs → x ≡ get_or xs i x → p x ≡ false → find p xs ≡ find p (drop i xs) → find p xs ≡ find p (drop (suc i) xs)
find-past p xs i x within is fails so_far =
    let cons : drop i xs ≡ x ∷ drop (suc i) xs = drop-cons xs i x within ∙ ap (λ y. y ∷ drop (suc i) xs) (sym is) in
    so_far ∙ ap (find p) cons ∙ ap (λ (b : Bool). cond b (Some x) (find p (drop (suc i) xs))) fails

-- what is found has what each item has
pub find-all : {X : Type 0} (p q : X → Bool) (xs : List X) (x : X) → list_all q xs ≡ true → find p xs ≡ Some x → q x ≡ true
find-all p q [] x all found = cc
find-all p q (y ∷ ys) x all found = either (p y) found (find-all p q ys x (both _ _ all).1)
  where
    either : (b : Bool) → cond b (Some y) (find p ys) ≡ Some x → (find p ys ≡ Some x → q x ≡ true) → q x ≡ true
    either true here later = let same : y ≡ x = cc in subst (λ z. q z ≡ true) same (both (q y) (list_all q ys) all).0
    either false here later = later here

-- the step of the instruction that is found first
pub instr_step-decoded : (d : Parts) (word : ℕ) (s : State) → instr_step d word s (decoded d word) ≡ executed d word s (find (matches d word) d.instrs)
instr_step-decoded d word s = numbered (decoded d word) ∙ ap (executed d word s) (position_found (matches d word) d.instrs)
  where
    numbered : (k : Option ℕ) → instr_step d word s k ≡ executed d word s (option_and_then (λ (k : ℕ). slice_get d.instrs k) k)
    numbered None = refl
    numbered (Some k) = refl

-- the step at a word of the code, where the program counter is neither stop nor full stop
pub step_of-word : (d : Parts) (i : Image) (s : State) (word : ℕ) → nat_eq s.pc i.stop ≡ false → nat_eq s.pc i.full ≡ false → Some word ≡ word_at d i s.pc → step_of d i s ≡ executed d word s (find (matches d word) d.instrs)
step_of-word d i s word no_stop no_full at =
    ap (λ (b : Bool). if b then Over End else (if nat_eq s.pc i.full then Over StackEnd else word_step d s (word_at d i s.pc))) no_stop
    ∙ ap (λ (b : Bool). if b then Over StackEnd else word_step d s (word_at d i s.pc)) no_full
    ∙ ap (word_step d s) (sym at)
    ∙ instr_step-decoded d word s
