-- The first two candidates that share a word.
use Rattle.std.proofs.Common.{◌≡◌, ℕ, zero, suc, ◌+◌, ◌<◌, ◌≤◌, ◌^◌, ◌⊎◌, true, List, [], ◌∷◌, Option, Some, None, arith, refl, sym, ap, ◌∙◌, subst, inl, inr}
use Rattle.std.specs.Option.{option_map_or, option_or}
use Rattle.std.proofs.lemmas.Bool.{cases_order}
use Rattle.vg_isa.specs.declared.isa.Parts.{Parts}
use Rattle.vg_isa.specs.declared.instr.Instr.{Instr}
use Rattle.vg_format.specs.Matching.{matches_at, IsUnambiguous}
use Rattle.vg_format.specs.Pattern.{fits}
use Rattle.vg_decode.specs.declared.candidate.Candidate.{Candidate}
use Rattle.vg_decode.specs.declared.pairs.Pair.{Pair}
use Rattle.vg_decode.specs.Candidates.{AreOf}
use Rattle.vg_decode.specs.Overlap.{IsFirstOverlap, Share}
use Rattle.vg_decode.specs.Pairs.{shared_word, first_partner, first_pair}
use Rattle.vg_decode.proofs.Found.{fits_at, same_fit}
use Rattle.vg_decode.proofs.Shared.{IsProper, IsShared, shared_is, shared_none}

-- candidates with patterns of words of so many bits, numbered from k on
abbrev pub AreNumbered : ℕ → ℕ → List Candidate → Type 0
AreNumbered n k [] = Unit {0}
AreNumbered n k (c ∷ cs) = (c.instr.0 ≡ k) × IsProper n c.pattern × AreNumbered n (suc k) cs

pub are_numbered : (d : Parts) (k : ℕ) (instrs : List Instr) (cs : List Candidate) → AreOf d k instrs cs → AreNumbered d.word k cs
are_numbered d k [] [] are = tt
are_numbered d k [] (c ∷ cs) are = absurd are
are_numbered d k (instr ∷ instrs) [] are = absurd are
are_numbered d k (instr ∷ instrs) (c ∷ cs) are = (are.0, record { mask = are.1.mask; value = are.1.value }, are_numbered d (suc k) instrs cs are.2)

-- ---- the first of a list that shares a word with one before it

pub record IsPartner (n k : ℕ) (one : Candidate) (cs : List Candidate) (pair : Pair) : Type 0 where
  pub j : ℕ
  pub a : pair.a.0 ≡ one.instr.0
  pub b : pair.b.0 ≡ k + j
  pub below : pair.word < 2 ^ n
  pub one_fits : fits one.pattern pair.word ≡ true
  pub other_fits : fits_at cs j pair.word ≡ true
  pub least : (word : ℕ) → fits one.pattern word ≡ true → fits_at cs j word ≡ true → pair.word ≤ word
  pub first : (i word : ℕ) → fits one.pattern word ≡ true → fits_at cs i word ≡ true → j ≤ i

no_candidate : (i word : ℕ) → fits_at [] i word ≡ true → ⊥
no_candidate i word h = cc

partner_none : (one : Candidate) (cs : List Candidate) → first_partner one cs ≡ None → (i word : ℕ) → fits one.pattern word ≡ true → fits_at cs i word ≡ true → ⊥
partner_none one [] h i word fit_one fit = no_candidate i word fit
partner_none one (c ∷ cs) h i word fit_one fit = at (shared_word one.pattern c.pattern) refl h (partner_none one cs) i fit
  where
    at : (o : Option ℕ) → shared_word one.pattern c.pattern ≡ o → option_map_or (λ w. Some (record { a = one.instr; b = c.instr; word = w })) o (first_partner one cs) ≡ None
        → (first_partner one cs ≡ None → (x w : ℕ) → fits one.pattern w ≡ true → fits_at cs x w ≡ true → ⊥) → (y : ℕ) → fits_at (c ∷ cs) y word ≡ true → ⊥
    at (Some w) e h rest y fits_y = cc
    at None e h rest zero fits_y = shared_none one.pattern c.pattern e word fit_one fits_y
    at None e h rest (suc y) fits_y = rest h y word fit_one fits_y

partner_here : (n k : ℕ) (one c : Candidate) (cs : List Candidate) (pair : Pair) (word : ℕ) → c.instr.0 ≡ k → IsShared n one.pattern c.pattern word → record { a = one.instr; b = c.instr; word = word } ≡ pair → IsPartner n k one (c ∷ cs) pair
partner_here n k one c cs pair word number shared is = subst (IsPartner n k one (c ∷ cs)) is (record {
  j = 0;
  a = refl;
  b = number ∙ no_more;
  below = shared.below;
  one_fits = shared.first;
  other_fits = shared.second;
  least = shared.least;
  first = λ i w fit_one fit. at_zero i;
})
  where
    no_more : k ≡ k + 0
    no_more = omega arith

    at_zero : (i : ℕ) → 0 ≤ i
    at_zero i = omega arith

partner_later : (n k : ℕ) (one c : Candidate) (cs : List Candidate) (pair : Pair) → shared_word one.pattern c.pattern ≡ None → IsPartner n (suc k) one cs pair → IsPartner n k one (c ∷ cs) pair
partner_later n k one c cs pair none is = record {
  j = suc is.j;
  a = is.a;
  b = is.b ∙ moved is.j;
  below = is.below;
  one_fits = is.one_fits;
  other_fits = is.other_fits;
  least = is.least;
  first = first;
}
  where
    moved : (j : ℕ) → suc k + j ≡ k + suc j
    moved j = omega arith

    up : (j i : ℕ) → j ≤ i → suc j ≤ suc i
    up j i h = omega arith

    first : (i word : ℕ) → fits one.pattern word ≡ true → fits_at (c ∷ cs) i word ≡ true → suc is.j ≤ i
    first zero word fit_one fit = absurd (shared_none one.pattern c.pattern none word fit_one fit)
    first (suc i) word fit_one fit = up is.j i (is.first i word fit_one fit)

partner_some : (n k : ℕ) (one : Candidate) (cs : List Candidate) (pair : Pair) → IsProper n one.pattern → AreNumbered n k cs → first_partner one cs ≡ Some pair → IsPartner n k one cs pair
partner_some n k one [] pair proper are h = cc
partner_some n k one (c ∷ cs) pair proper are h = at (shared_word one.pattern c.pattern) refl h (partner_some n (suc k) one cs pair proper are.2)
  where
    at : (o : Option ℕ) → shared_word one.pattern c.pattern ≡ o → option_map_or (λ w. Some (record { a = one.instr; b = c.instr; word = w })) o (first_partner one cs) ≡ Some pair
        → (first_partner one cs ≡ Some pair → IsPartner n (suc k) one cs pair) → IsPartner n k one (c ∷ cs) pair
    at (Some w) e h rest =
        let is : record { a = one.instr; b = c.instr; word = w } ≡ pair = cc in
        partner_here n k one c cs pair w are.0 (shared_is n one.pattern c.pattern w proper are.1 e) is
    at None e h rest = partner_later n k one c cs pair e (rest h)

-- ---- the first two

pub record IsFirstPair (n k : ℕ) (cs : List Candidate) (pair : Pair) : Type 0 where
  pub i : ℕ
  pub j : ℕ
  pub a : pair.a.0 ≡ k + i
  pub b : pair.b.0 ≡ k + j
  pub order : i < j
  pub below : pair.word < 2 ^ n
  pub one_fits : fits_at cs i pair.word ≡ true
  pub other_fits : fits_at cs j pair.word ≡ true
  pub least : (word : ℕ) → fits_at cs i word ≡ true → fits_at cs j word ≡ true → pair.word ≤ word
  pub first : (x y word : ℕ) → x < y → fits_at cs x word ≡ true → fits_at cs y word ≡ true → (i < x) ⊎ ((i ≡ x) × (j ≤ y))

pub pair_none : (cs : List Candidate) → first_pair cs ≡ None → (x y word : ℕ) → x < y → fits_at cs x word ≡ true → fits_at cs y word ≡ true → ⊥
pair_none [] h x y word order fit_x fit_y = no_candidate x word fit_x
pair_none (one ∷ cs) h x y word order fit_x fit_y = at (first_partner one cs) refl h (pair_none cs) x y order fit_x fit_y
  where
    down : (m n : ℕ) → suc m < suc n → m < n
    down m n p = omega arith

    at : (o : Option Pair) → first_partner one cs ≡ o → option_or o (first_pair cs) ≡ None
        → (first_pair cs ≡ None → (p q w : ℕ) → p < q → fits_at cs p w ≡ true → fits_at cs q w ≡ true → ⊥)
        → (p q : ℕ) → p < q → fits_at (one ∷ cs) p word ≡ true → fits_at (one ∷ cs) q word ≡ true → ⊥
    at (Some pair) e h rest p q less fit_p fit_q = cc
    at None e h rest p zero less fit_p fit_q = absurd (omega arith)
    at None e h rest zero (suc q) less fit_p fit_q = partner_none one cs e q word fit_p fit_q
    at None e h rest (suc p) (suc q) less fit_p fit_q = rest h p q word (down p q less) fit_p fit_q

pair_here : (n k : ℕ) (one : Candidate) (cs : List Candidate) (pair : Pair) → one.instr.0 ≡ k → IsPartner n (suc k) one cs pair → IsFirstPair n k (one ∷ cs) pair
pair_here n k one cs pair number is = record {
  i = 0;
  j = suc is.j;
  a = is.a ∙ number ∙ no_more;
  b = is.b ∙ moved is.j;
  order = behind is.j;
  below = is.below;
  one_fits = is.one_fits;
  other_fits = is.other_fits;
  least = is.least;
  first = first;
}
  where
    no_more : k ≡ k + 0
    no_more = omega arith

    moved : (j : ℕ) → suc k + j ≡ k + suc j
    moved j = omega arith

    behind : (j : ℕ) → 0 < suc j
    behind j = omega arith

    up : (j i : ℕ) → j ≤ i → suc j ≤ suc i
    up j i h = omega arith

    first : (x y word : ℕ) → x < y → fits_at (one ∷ cs) x word ≡ true → fits_at (one ∷ cs) y word ≡ true → (0 < x) ⊎ ((0 ≡ x) × (suc is.j ≤ y))
    first x zero word less fit_x fit_y = absurd (omega arith)
    first zero (suc y) word less fit_x fit_y = inr (refl, up is.j y (is.first y word fit_x fit_y))
    first (suc x) (suc y) word less fit_x fit_y = inl (behind x)

pair_later : (n k : ℕ) (one : Candidate) (cs : List Candidate) (pair : Pair) → first_partner one cs ≡ None → IsFirstPair n (suc k) cs pair → IsFirstPair n k (one ∷ cs) pair
pair_later n k one cs pair none is = record {
  i = suc is.i;
  j = suc is.j;
  a = is.a ∙ moved is.i;
  b = is.b ∙ moved is.j;
  order = up_less is.i is.j is.order;
  below = is.below;
  one_fits = is.one_fits;
  other_fits = is.other_fits;
  least = is.least;
  first = first;
}
  where
    moved : (j : ℕ) → suc k + j ≡ k + suc j
    moved j = omega arith

    up_less : (m l : ℕ) → m < l → suc m < suc l
    up_less m l h = omega arith

    up : (m l : ℕ) → m ≤ l → suc m ≤ suc l
    up m l h = omega arith

    down : (m l : ℕ) → suc m < suc l → m < l
    down m l h = omega arith

    lift : (x y : ℕ) → (is.i < x) ⊎ ((is.i ≡ x) × (is.j ≤ y)) → (suc is.i < suc x) ⊎ ((suc is.i ≡ suc x) × (suc is.j ≤ suc y))
    lift x y (inl h) = inl (up_less is.i x h)
    lift x y (inr h) = inr (ap suc h.0, up is.j y h.1)

    first : (x y word : ℕ) → x < y → fits_at (one ∷ cs) x word ≡ true → fits_at (one ∷ cs) y word ≡ true → (suc is.i < x) ⊎ ((suc is.i ≡ x) × (suc is.j ≤ y))
    first x zero word less fit_x fit_y = absurd (omega arith)
    first zero (suc y) word less fit_x fit_y = absurd (partner_none one cs none y word fit_x fit_y)
    first (suc x) (suc y) word less fit_x fit_y = lift x y (is.first x y word (down x y less) fit_x fit_y)

pub pair_some : (n k : ℕ) (cs : List Candidate) (pair : Pair) → AreNumbered n k cs → first_pair cs ≡ Some pair → IsFirstPair n k cs pair
pair_some n k [] pair are h = cc
pair_some n k (one ∷ cs) pair are h = at (first_partner one cs) refl h (pair_some n (suc k) cs pair are.2)
  where
    at : (o : Option Pair) → first_partner one cs ≡ o → option_or o (first_pair cs) ≡ Some pair → (first_pair cs ≡ Some pair → IsFirstPair n (suc k) cs pair) → IsFirstPair n k (one ∷ cs) pair
    at (Some p) e h rest =
        let is : p ≡ pair = cc in
        pair_here n k one cs pair are.0 (partner_some n (suc k) one cs pair are.1 are.2 (e ∙ ap Some is))
    at None e h rest = pair_later n k one cs pair e (rest h)

-- ---- of a description

module _ (d : Parts) (cs : List Candidate) (are : AreOf d 0 d.instrs cs) where
  fits_both : (word i : ℕ) → matches_at d word i ≡ true → fits_at cs i word ≡ true
  fits_both word i h = same_fit d 0 d.instrs cs word i are ∙ h

  matches_both : (word i : ℕ) → fits_at cs i word ≡ true → matches_at d word i ≡ true
  matches_both word i h = sym (same_fit d 0 d.instrs cs word i are) ∙ h

  pub pair_is_overlap : (pair : Pair) → first_pair cs ≡ Some pair → IsFirstOverlap d pair.a.0 pair.b.0 pair.word
  pair_is_overlap pair h = along (pair_some d.word 0 cs pair (are_numbered d 0 d.instrs cs are) h)
    where
      at_zero : (i : ℕ) → 0 + i ≡ i
      at_zero i = omega arith

      along : IsFirstPair d.word 0 cs pair → IsFirstOverlap d pair.a.0 pair.b.0 pair.word
      along is =
          subst (λ a. IsFirstOverlap d a pair.b.0 pair.word) (sym (is.a ∙ at_zero is.i))
          (subst (λ b. IsFirstOverlap d is.i b pair.word) (sym (is.b ∙ at_zero is.j)) (record {
            order = is.order;
            share = (is.below, matches_both pair.word is.i is.one_fits, matches_both pair.word is.j is.other_fits);
            least = λ other share. is.least other (fits_both other is.i share.1) (fits_both other is.j share.2);
            first = λ i k other less share. is.first i k other less (fits_both other i share.1) (fits_both other k share.2);
          }))

  pub pair_below : (pair : Pair) → first_pair cs ≡ Some pair → pair.word < 2 ^ d.word
  pair_below pair h = (pair_some d.word 0 cs pair (are_numbered d 0 d.instrs cs are) h).below

  pub no_pair_unambiguous : first_pair cs ≡ None → IsUnambiguous d
  no_pair_unambiguous h word small i k match_i match_k = at (cases_order i k)
    where
      at : (i ≡ k) ⊎ ((i < k) ⊎ (k < i)) → i ≡ k
      at (inl same) = same
      at (inr (inl less)) = absurd (pair_none cs h i k word less (fits_both word i match_i) (fits_both word k match_k))
      at (inr (inr more)) = absurd (pair_none cs h k i word more (fits_both word k match_k) (fits_both word i match_i))

-- ---- laws

-- at most one overlap is the first
pub one_first : (d : Parts) (a b word i k other : ℕ) → IsFirstOverlap d a b word → IsFirstOverlap d i k other → (a ≡ i) × (b ≡ k) × (word ≡ other)
one_first d a b word i k other p q = at (p.first i k other q.order q.share) (q.first a b word p.order p.share)
  where
    words : a ≡ i → b ≡ k → word ≡ other
    words e f =
        let here : word ≤ other = p.least other (subst (λ y. Share d a y other) (sym f) (subst (λ x. Share d x k other) (sym e) q.share)) in
        let there : other ≤ word = q.least word (subst (λ y. Share d i y word) f (subst (λ x. Share d x b word) e p.share)) in
        omega arith

    at : (a < i) ⊎ ((a ≡ i) × (b ≤ k)) → (i < a) ⊎ ((i ≡ a) × (k ≤ b)) → (a ≡ i) × (b ≡ k) × (word ≡ other)
    at (inl x) (inl y) = absurd (omega arith)
    at (inl x) (inr y) = let same : i ≡ a = y.0 in absurd (omega arith)
    at (inr x) (inl y) = let same : a ≡ i = x.0 in absurd (omega arith)
    at (inr x) (inr y) =
        let low : b ≤ k = x.1 in
        let high : k ≤ b = y.1 in
        let second : b ≡ k = omega arith in
        (x.0, second, words x.0 second)

-- where there is an overlap, some word matches two instructions
pub overlap_ambiguous : (d : Parts) (a b word : ℕ) → IsFirstOverlap d a b word → IsUnambiguous d → ⊥
overlap_ambiguous d a b word is un =
    let same : a ≡ b = un word is.share.0 a b is.share.1 is.share.2 in
    let less : a < b = is.order in
    absurd (omega arith)
