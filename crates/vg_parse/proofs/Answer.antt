-- An answer is the only one.
use Rattle.std.proofs.Common.{◌≡◌, ◌⊎◌, inl, inr, ℕ, List, Result, Ok, Err, IfOk, IfErr, IsErrAnd, MatchResult, ap, ◌∙◌}
use Rattle.vg_tok.specs.declared.token.Token.{Token}
use Rattle.vg_ast.specs.declared.desc.Desc.{Desc}
use Rattle.vg_ast.specs.Description.{Reads}
use Rattle.vg_ast.specs.Leaving.{LeavesAt}
use Rattle.vg_parse.specs.declared.fault.ParseFault.{ParseFault}
use Rattle.vg_parse.specs.declared.fault.ParseFault.TheVariants.{OutOfMemory, Syntax}
use Rattle.vg_parse.specs.Run.{IsRead, StopsAt}
use Rattle.vg_parse.proofs.Open.{AreExact}
use Rattle.vg_parse.proofs.Place.{reads_from_read, leaves_from_stops, tree_once, place_once, not_both}

abbrev IsFaultWith : (ℕ → Type 0) → ParseFault → Type 0
IsFaultWith P f = (f ≡ OutOfMemory) ⊎ ((at : ℕ) × (f ≡ Syntax at) × P at)

pub tree : AreExact → (t : List Token) (r : Result Desc ParseFault) → IfOk r (λ d. IsRead t d) → IfOk r (λ d. Reads t d)
tree exact t (Ok d) h = reads_from_read exact t d h
tree exact t (Err f) h = tt

pub fault : AreExact → (t : List Token) (r : Result Desc ParseFault) → IfErr r (λ f. IsFaultWith (StopsAt t) f) → IfErr r (λ f. IsFaultWith (LeavesAt t) f)
fault exact t (Ok d) h = tt
fault exact t (Err f) (inl e) = inl e
fault exact t (Err f) (inr (at, e, s)) = inr (at, e, leaves_from_stops exact t at s)

pub accepts : AreExact → (t : List Token) (r : Result Desc ParseFault) → IfOk r (λ d. Reads t d) → IfErr r (λ f. IsFaultWith (LeavesAt t) f)
    → (d : Desc) → Reads t d → MatchResult r (λ tree. tree ≡ d) (λ f. f ≡ OutOfMemory)
accepts exact t (Ok e) a b d x = tree_once exact t e d a x
accepts exact t (Err f) a (inl e) d x = e
accepts exact t (Err f) a (inr (at, e, y)) d x = not_both t d at x y

pub refuses : AreExact → (t : List Token) (r : Result Desc ParseFault) → IfOk r (λ d. Reads t d) → IfErr r (λ f. IsFaultWith (LeavesAt t) f)
    → (at : ℕ) → LeavesAt t at → IsErrAnd r (λ f. (f ≡ OutOfMemory) ⊎ (f ≡ Syntax at))
refuses exact t (Ok d) a b at y = not_both t d at a y
refuses exact t (Err f) a (inl e) at y = inl e
refuses exact t (Err f) a (inr (place, e, x)) at y = inr (e ∙ ap Syntax (place_once exact t place at x y))
