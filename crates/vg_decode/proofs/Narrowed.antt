-- A test of a word loses no candidate that the word fits.
use Rattle.std.proofs.Common.{◌≡◌, ℕ, Bool, true, false, not, cond, nat_eq, bit_and, filter, List, [], ◌∷◌, Option, Some, refl, sym, ap, ◌∙◌, if◌then◌else◌}
use Rattle.std.specs.Int.Bits.{and_zero_l}
use Rattle.std.proofs.lemmas.Bool.{both_ways, false_from_ne_true, true_from_ne_false, or_parts, not-false}
use Rattle.std.proofs.lemmas.Nat.{and_assoc, and_comm}
use Rattle.vg_isa.proofs.Tests.{true-nat_eq, nat_eq-true}
use Rattle.vg_format.specs.Pattern.{fits}
use Rattle.vg_decode.specs.declared.candidate.Candidate.{Candidate}
use Rattle.vg_decode.specs.declared.tree.Tree.{Tree, fold-roll-Tree}
use Rattle.vg_decode.specs.declared.tree.Tree.TheOpen.{Tree-F}
use Rattle.vg_decode.specs.declared.tree.Tree.TheVariants.{Leaf, Test, rolls-Leaf, rolls-Test}
use Rattle.vg_decode.specs.Decoding.{first_fit, finds_step, found_in}
use Rattle.vg_decode.specs.Narrowing.{may_lack, may_have}

-- what is left out of a list doesn't matter, where the word fits none of it
kept_fit : (keep : Candidate → Bool) (word : ℕ) (cs : List Candidate) → ((c : Candidate) → fits c.pattern word ≡ true → keep c ≡ true) → first_fit (filter keep cs) word ≡ first_fit cs word
kept_fit keep word [] keeps = refl
kept_fit keep word (c ∷ cs) keeps = at (keep c) refl (kept_fit keep word cs keeps)
  where
    at : (b : Bool) → keep c ≡ b → first_fit (filter keep cs) word ≡ first_fit cs word → first_fit (cond b (c ∷ filter keep cs) (filter keep cs)) word ≡ first_fit (c ∷ cs) word
    at true e rest = ap (λ o. if fits c.pattern word then Some c.instr.0 else o) rest
    at false e rest =
        let out : fits c.pattern word ≡ false = false_from_ne_true (fits c.pattern word) (λ fit. both_ways (keep c) e (keeps c fit)) in
        rest ∙ ap (λ b. if b then Some c.instr.0 else first_fit cs word) (sym out)

-- what a word has of a pattern's value is what it has of the mask
value_part : (word mask : ℕ) (c : Candidate) → fits c.pattern word ≡ true → bit_and c.pattern.value mask ≡ bit_and word (bit_and c.pattern.mask mask)
value_part word mask c fit = ap (λ n. bit_and n mask) (sym (true-nat_eq _ _ fit)) ∙ and_assoc mask word c.pattern.mask

lacking_kept : (word mask : ℕ) → bit_and word mask ≡ 0 → (c : Candidate) → fits c.pattern word ≡ true → may_lack mask c ≡ true
lacking_kept word mask none c fit =
    nat_eq-true _ _
    (value_part word mask c fit ∙ ap (bit_and word) (and_comm c.pattern.mask mask) ∙ sym (and_assoc c.pattern.mask word mask) ∙ ap (λ n. bit_and n c.pattern.mask) none ∙ and_zero_l c.pattern.mask)

having_kept : (word mask : ℕ) → (bit_and word mask ≡ 0 → ⊥) → (c : Candidate) → fits c.pattern word ≡ true → may_have mask c ≡ true
having_kept word mask some c fit = true_from_ne_false (may_have mask c) refused
  where
    refused : may_have mask c ≡ false → ⊥
    refused h =
        let parts = or_parts (not (nat_eq (bit_and c.pattern.value mask) 0)) (not (nat_eq (bit_and c.pattern.mask mask) mask)) h in
        let value : bit_and c.pattern.value mask ≡ 0 = true-nat_eq _ _ (not-false _ parts.0) in
        let whole : bit_and c.pattern.mask mask ≡ mask = true-nat_eq _ _ (not-false _ parts.1) in
        some (ap (bit_and word) (sym whole) ∙ sym (value_part word mask c fit) ∙ value)

found_leaf : (cs : List Candidate) (word : ℕ) → found_in (Leaf cs) word ≡ first_fit cs word
found_leaf cs word = ap (λ t. found_in t word) (sym (rolls-Leaf cs)) ∙ ap (λ (f : ℕ → Option ℕ). f word) (fold-roll-Tree (ℕ → Option ℕ) finds_step (Tree-F.Leaf cs))

found_test : (mask : ℕ) (none some : Tree) (word : ℕ) → found_in (Test mask none some) word ≡ (if nat_eq (bit_and word mask) 0 then found_in none word else found_in some word)
found_test mask none some word =
    ap (λ t. found_in t word) (sym (rolls-Test mask none some)) ∙ ap (λ (f : ℕ → Option ℕ). f word) (fold-roll-Tree (ℕ → Option ℕ) finds_step (Tree-F.Test mask none some))

-- a leaf of a list finds what a search along it finds
pub leaf_finds : (cs leaf : List Candidate) → leaf ≡ cs → (word : ℕ) → found_in (Leaf leaf) word ≡ first_fit cs word
leaf_finds cs leaf same word = found_leaf leaf word ∙ ap (λ xs. first_fit xs word) same

-- a test over trees of what it leaves finds what a search along the whole list finds
pub test_finds : (cs : List Candidate) (mask : ℕ) (none some : Tree) → ((word : ℕ) → found_in none word ≡ first_fit (filter (may_lack mask) cs) word) → ((word : ℕ) → found_in some word ≡ first_fit (filter (may_have mask) cs) word) → (word : ℕ) → found_in (Test mask none some) word ≡ first_fit cs word
test_finds cs mask none some lacks has word = found_test mask none some word ∙ at (nat_eq (bit_and word mask) 0) refl
  where
    at : (b : Bool) → nat_eq (bit_and word mask) 0 ≡ b → (if b then found_in none word else found_in some word) ≡ first_fit cs word
    at true e = lacks word ∙ kept_fit (may_lack mask) word cs (lacking_kept word mask (true-nat_eq _ _ e))
    at false e = has word ∙ kept_fit (may_have mask) word cs (having_kept word mask (λ zero. both_ways _ e (nat_eq-true _ _ zero)))
