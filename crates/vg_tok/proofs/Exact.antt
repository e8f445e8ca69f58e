-- An answer is the only one.
use Rattle.std.proofs.Common.{◌≡◌, ◌⊎◌, inl, inr, ℕ, List, Result, Ok, Err, IfOk, IfErr, IsErrAnd, MatchResult}
use Rattle.vg_tok.specs.declared.token.Token.{Token}
use Rattle.vg_tok.specs.declared.fault.TokFault.{TokFault}
use Rattle.vg_tok.specs.declared.fault.TokFault.TheVariants.{OutOfMemory}
use Rattle.vg_tok.specs.Lexing.{Lexes, IsFault}
use Rattle.vg_tok.specs.Reading.{IsFaultOr}
use Rattle.vg_tok.proofs.Unique.{tokens_once, first_fault_once, tokens_or_fault}

pub accepts : (bytes : List ℕ) (r : Result (List Token) TokFault) → IfOk r (λ us. Lexes bytes us) → IfErr r (λ f. IsFaultOr f (IsFault bytes f))
    → (ts : List Token) → Lexes bytes ts → MatchResult r (λ us. us ≡ ts) (λ f. f ≡ OutOfMemory)
accepts bytes (Ok us) a b ts x = tokens_once bytes us ts a x
accepts bytes (Err f) a (inl e) ts x = e
accepts bytes (Err f) a (inr y) ts x = tokens_or_fault bytes ts f x y

pub refuses : (bytes : List ℕ) (r : Result (List Token) TokFault) → IfOk r (λ us. Lexes bytes us) → IfErr r (λ f. IsFaultOr f (IsFault bytes f))
    → (g : TokFault) → IsFault bytes g → IsErrAnd r (λ f. (f ≡ OutOfMemory) ⊎ (f ≡ g))
refuses bytes (Ok us) a b g y = tokens_or_fault bytes us g a y
refuses bytes (Err f) a (inl e) g y = inl e
refuses bytes (Err f) a (inr x) g y = inr (first_fault_once bytes f g x y)
