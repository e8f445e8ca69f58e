-- Texts in a row.
use Rattle.std.proofs.Common.{◌≡◌, ℕ, ◌+◌, List, [], ◌++◌, refl, sym, ◌∙◌, ap, append_assoc, append-nil, add-one}
use Rattle.vg_gen.specs.ModuleText.{texts}

-- the texts of no numbers
pub texts-zero : (text : ℕ → List ℕ) → texts text 0 ≡ []
unfolding texts
texts-zero text = refl

-- the texts of one number more
pub texts-suc : (text : ℕ → List ℕ) (n : ℕ) → texts text (n + 1) ≡ texts text n ++ text n
unfolding texts
texts-suc text n = ap (texts text) (add-one n)

-- the texts of no numbers, behind a start
pub begun : (text : ℕ → List ℕ) (start : List ℕ) → start ≡ start ++ texts text 0
begun text start = sym (ap (λ t. start ++ t) (texts-zero text) ∙ append-nil start)

-- the texts of one number more, behind a start
pub grown : (text : ℕ → List ℕ) (n : ℕ) (start before after : List ℕ) → before ≡ start ++ texts text n → after ≡ before ++ text n → after ≡ start ++ texts text (n + 1)
grown text n start before after so_far written =
    written ∙ ap (λ t. t ++ text n) so_far ∙ append_assoc start (texts text n) (text n) ∙ ap (λ t. start ++ t) (sym (texts-suc text n))

-- two texts, each with a number behind it, and a third text behind both
pub joined : (start one two all first m second n rest : List ℕ) → one ≡ start ++ (first ++ m) → two ≡ one ++ (second ++ n) → all ≡ two ++ rest → all ≡ start ++ (first ++ m ++ second ++ n ++ rest)
joined start one two all first m second n rest is_one is_two is_all =
    is_all ∙ ap (λ t. t ++ rest) (is_two ∙ ap (λ t. t ++ (second ++ n)) is_one) ∙ simp append_assoc

-- a heading with a number in it, what stands behind it, and the end
pub headed : (start one two three all first m second rest end : List ℕ) → one ≡ start ++ (first ++ m) → two ≡ one ++ second → three ≡ two ++ rest → all ≡ three ++ end → all ≡ start ++ (first ++ m ++ second ++ rest ++ end)
headed start one two three all first m second rest end is_one is_two is_three is_all =
    is_all ∙ ap (λ t. t ++ end) (is_three ∙ ap (λ t. t ++ rest) (is_two ∙ ap (λ t. t ++ second) is_one)) ∙ simp append_assoc
