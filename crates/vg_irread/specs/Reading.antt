-- Readers of what stands in front of lexemes, and how they are put together. A reader is told how many brackets may stand in
-- one another.
use Rattle.std.specs.Prelude.{ℕ, zero, suc, ◌+◌, Bool, true, false, if◌then◌else◌, List, [], ◌∷◌, ◌++◌, length, Option, Some, None}
use Rattle.vg_irparse.specs.declared.role.Wanted.{Wanted}
use Rattle.vg_irparse.specs.Placed.{Placed}
use Rattle.vg_irparse.specs.Answer.{Answer, reads, leaves, too_deep}
use Rattle.vg_irparse.specs.Answer as answer
use Rattle.vg_irread.specs.Kinds.{Kind, is_in}

abbrev pub Reader : Type 0 → Type 0
Reader X = ℕ → List Placed → Answer (X × List Placed)

-- nothing, which is this
abbrev pub done : {X : Type 0} → X → Reader X
done x d ts = reads (x, ts)

-- one behind another, which may depend on it
infixl 10 ◌>>=◌
abbrev pub ◌>>=◌ : {X Y : Type 0} → Reader X → (X → Reader Y) → Reader Y
(read >>= next) d ts = answer.◌>>=◌ (read d ts) (λ x. next x.0 d x.1)

-- ---- one lexeme

abbrev pub token_by : {X : Type 0} → Option X → Wanted → List Placed → Answer (X × List Placed)
token_by (Some x) w ts = reads (x, ts)
token_by None w ts = leaves (length ts + 1) w

-- a lexeme that stands for something
abbrev pub token_at : {X : Type 0} → (Placed → Option X) → Wanted → Reader X
token_at take w d [] = leaves 0 w
token_at take w d (t ∷ ts) = token_by (take t) w ts

-- the next lexeme is of these kinds
abbrev pub next_in : List Kind → List Placed → Bool
next_in kinds [] = false
next_in kinds (t ∷ ts) = is_in kinds t.text

-- ---- what may lack, and rows

abbrev pub optional_by : {X : Type 0} → Bool → Reader X → Reader (Option X)
optional_by true read d ts = answer.◌>>=◌ (read d ts) (λ x. reads (Some x.0, x.1))
optional_by false read d ts = reads (None, ts)

-- something, where the next lexeme is of these kinds
abbrev pub optional_at : {X : Type 0} → List Kind → Reader X → Reader (Option X)
optional_at kinds read d [] = reads (None, [])
optional_at kinds read d (t ∷ ts) = optional_by (is_in kinds t.text) read d (t ∷ ts)

-- as many as there are while the next lexeme is of these kinds, with some in front. The fuel is more than the number of lexemes.
abbrev pub many_from : {X : Type 0} → ℕ → List Kind → Reader X → List X → Reader (List X)
many_from zero kinds read xs d ts = too_deep
many_from (suc fuel) kinds read xs d [] = reads (xs, [])
many_from (suc fuel) kinds read xs d (t ∷ ts) =
    if is_in kinds t.text then answer.◌>>=◌ (read d (t ∷ ts)) (λ x. many_from fuel kinds read (xs ++ x.0 ∷ []) d x.1) else reads (xs, t ∷ ts)

abbrev pub many_at : {X : Type 0} → List Kind → Reader X → Reader (List X)
many_at kinds read d ts = many_from (length ts + 1) kinds read [] d ts

-- ---- steps from a state to the next

-- While the next lexeme is of these kinds, what is read makes a state of the one before. The fuel is more than the number of
-- lexemes.
abbrev pub loop_from : {S : Type 0} → ℕ → List Kind → (S → Reader S) → S → Reader S
loop_from zero kinds read s d ts = too_deep
loop_from (suc fuel) kinds read s d [] = reads (s, [])
loop_from (suc fuel) kinds read s d (t ∷ ts) =
    if is_in kinds t.text then answer.◌>>=◌ (read s d (t ∷ ts)) (λ x. loop_from fuel kinds read x.0 d x.1) else reads (s, t ∷ ts)

abbrev pub loop_at : {S : Type 0} → List Kind → (S → Reader S) → S → Reader S
loop_at kinds read s d ts = loop_from (length ts + 1) kinds read s d ts

-- whether some are read, as many as there are
abbrev pub skipped_at : {X : Type 0} → List Kind → Reader X → Reader Bool
skipped_at kinds read = loop_at kinds (λ b. read >>= λ x. done true) false

-- as many as there are, behind those so far
abbrev pub row_at : {X : Type 0} → List Kind → Reader X → List X → Reader (List X)
row_at kinds read xs = loop_at kinds (λ ys. read >>= λ x. done (ys ++ x ∷ [])) xs

-- ---- one or another

-- the first where the next lexeme is of these kinds, else the second
abbrev pub either_at : {X : Type 0} → List Kind → Reader X → Reader X → Reader X
either_at kinds first second d [] = second d []
either_at kinds first second d (t ∷ ts) = if is_in kinds t.text then first d (t ∷ ts) else second d (t ∷ ts)

-- the first where it may stand and the next lexeme is of these kinds, else the second
abbrev pub allowed_at : {X : Type 0} → Bool → List Kind → Reader X → Reader X → Reader X
allowed_at may kinds first second = if may then either_at kinds first second else second
