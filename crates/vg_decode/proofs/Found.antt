-- Searching along the candidates of a description.
use Rattle.std.proofs.Common.{◌≡◌, ℕ, zero, suc, ◌+◌, ◌≤◌, Bool, true, false, not, cond, IsTrue, nat_lt, List, [], ◌∷◌, ◌++◌, length, slice_get, Option, Some, None, arith, refl, sym, ap, ◌∙◌, if◌then◌else◌}
use Rattle.std.specs.List.{position_or_len}
use Rattle.std.specs.Option.{option_map_or}
use Rattle.std.proofs.lemmas.Bool.Decides.{nat_tests}
use Rattle.vg_isa.specs.declared.isa.Parts.{Parts}
use Rattle.vg_isa.specs.declared.instr.Instr.{Instr}
use Rattle.vg_isa.specs.Accepted.{is_isa}
use Rattle.vg_isa.proofs.Kept.{kept}
use Rattle.vg_isa.proofs.Tests.{both, true-nat_le}
use Rattle.vg_format.specs.Matching.{matches, decoded}
use Rattle.vg_format.specs.Pattern.{IsPatternOf, fits}
use Rattle.vg_decode.specs.declared.candidate.Candidate.{Candidate}
use Rattle.vg_decode.specs.Candidates.{AreOf}
use Rattle.vg_decode.specs.Decoding.{first_fit}

-- there are at most 512 instructions
pub instrs_few : (d : Parts) → IsTrue (is_isa d) → length d.instrs ≤ 512
instrs_few d h = true-nat_le _ _ (both _ _ (both _ _ (kept d h).limits).0).0

-- one more candidate
pub one_more : (d : Parts) (k : ℕ) (instrs : List Instr) (cs : List Candidate) (instr : Instr) (c : Candidate) → AreOf d k instrs cs → c.instr.0 ≡ k + length instrs → IsPatternOf d instr c.pattern → AreOf d k (instrs ++ instr ∷ []) (cs ++ c ∷ [])
one_more d k [] [] instr c are number is = (number ∙ plus_none, is, tt)
  where
    plus_none : k + length {A = Instr} [] ≡ k
    plus_none = omega arith
one_more d k [] (x ∷ cs) instr c are number is = absurd are
one_more d k (i ∷ instrs) [] instr c are number is = absurd are
one_more d k (i ∷ instrs) (x ∷ cs) instr c are number is =
    (are.0, are.1, one_more d (suc k) instrs cs instr c are.2 (number ∙ later) is)
  where
    later : k + length (i ∷ instrs) ≡ suc k + length instrs
    later = omega arith

-- the word fits the candidate of this place
abbrev pub fits_at : List Candidate → ℕ → ℕ → Bool
fits_at cs i word = option_map_or (λ (c : Candidate). fits c.pattern word) (slice_get cs i) false

-- a word fits a candidate where it matches its instruction
pub same_fit : (d : Parts) (k : ℕ) (instrs : List Instr) (cs : List Candidate) (word i : ℕ) → AreOf d k instrs cs → fits_at cs i word ≡ option_map_or (matches d word) (slice_get instrs i) false
same_fit d k [] [] word i are = refl
same_fit d k [] (c ∷ cs) word i are = absurd are
same_fit d k (instr ∷ instrs) [] word i are = absurd are
same_fit d k (instr ∷ instrs) (c ∷ cs) word zero are = sym (are.1.tells word)
same_fit d k (instr ∷ instrs) (c ∷ cs) word (suc i) are = same_fit d (suc k) instrs cs word i are.2

-- the number of the first that passes, where there is one
abbrev first_from : (Instr → Bool) → ℕ → List Instr → Option ℕ
first_from p k instrs = cond (nat_lt (position_or_len p instrs) (length instrs)) (Some (k + position_or_len p instrs)) None

found_step : (p : Instr → Bool) (k : ℕ) (instr : Instr) (instrs : List Instr) (number : ℕ) (rest : Option ℕ) (b : Bool) → p instr ≡ b → number ≡ k → rest ≡ first_from p (suc k) instrs → (if b then Some number else rest) ≡ first_from p k (instr ∷ instrs)
found_step p k instr instrs number rest true e is later =
    let first : position_or_len p (instr ∷ instrs) ≡ 0 = ap (λ b. cond (not b) (1 + position_or_len p instrs) 0) e in
    let test : nat_lt 0 (suc (length instrs)) ≡ true = grind (arith, nat_tests) in
    let same : k + 0 ≡ k = omega arith in
    rw first (rw test (ap Some (is ∙ sym same)))
found_step p k instr instrs number rest false e is later =
    let next : position_or_len p (instr ∷ instrs) ≡ 1 + position_or_len p instrs = ap (λ b. cond (not b) (1 + position_or_len p instrs) 0) e in
    later ∙ shifted (position_or_len p instrs) (length instrs) ∙ ap (λ n. cond (nat_lt n (suc (length instrs))) (Some (k + n)) None) (sym next)
  where
    same_test : (m n : ℕ) → nat_lt m n ≡ nat_lt (1 + m) (suc n)
    same_test m n = grind (arith, nat_tests)

    same_sum : (m : ℕ) → suc k + m ≡ k + (1 + m)
    same_sum m = omega arith

    shifted : (m n : ℕ) → cond (nat_lt m n) (Some (suc k + m)) None ≡ cond (nat_lt (1 + m) (suc n)) (Some (k + (1 + m))) None
    shifted m n = ap (λ b. cond b (Some (suc k + m)) None) (same_test m n) ∙ ap (λ s. cond (nat_lt (1 + m) (suc n)) (Some s) None) (same_sum m)

found_from : (d : Parts) (k : ℕ) (instrs : List Instr) (cs : List Candidate) (word : ℕ) → AreOf d k instrs cs → first_fit cs word ≡ first_from (matches d word) k instrs
found_from d k [] [] word are = refl
found_from d k [] (c ∷ cs) word are = absurd are
found_from d k (instr ∷ instrs) [] word are = absurd are
found_from d k (instr ∷ instrs) (c ∷ cs) word are =
    found_step (matches d word) k instr instrs c.instr.0 (first_fit cs word) (fits c.pattern word) (are.1.tells word) are.0 (found_from d (suc k) instrs cs word are.2)

-- the first candidate that a word fits is the first instruction that it matches
pub first_found : (d : Parts) (cs : List Candidate) (word : ℕ) → AreOf d 0 d.instrs cs → first_fit cs word ≡ decoded d word
first_found d cs word are = found_from d 0 d.instrs cs word are ∙ ap (λ n. cond (nat_lt (position_or_len (matches d word) d.instrs) (length d.instrs)) (Some n) None) from_zero
  where
    from_zero : 0 + position_or_len (matches d word) d.instrs ≡ position_or_len (matches d word) d.instrs
    from_zero = omega arith
