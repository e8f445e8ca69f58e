-- What an act names is cleared.
use Rattle.std.proofs.Common.{◌≡◌, ℕ, ◌+◌, ◌<◌, Bool, true, false, ◌&&◌, ◌||◌, not, List, length, get_or, take, refl, ap, sym, ◌∙◌}
use Rattle.std.specs.List.{list_any}
use Rattle.std.proofs.lemmas.List.Folds.{list_any_more}
use Rattle.vg_ast.specs.declared.act.Act.{Act}

both_cleared : (a b c : Bool) → ((a && not b) && not c) ≡ (a && not (b || c))
both_cleared true true c = refl
both_cleared true false c = refl
both_cleared false b c = refl

pub cleared_more : (test : Act → Bool) (xs : List Act) (i : ℕ) (x : Act) (first now next : Bool) → now ≡ (first && not (list_any test (take i xs))) → i < length xs → x ≡ get_or xs i x → next ≡ (now && not (test x)) → next ≡ (first && not (list_any test (take (i + 1) xs)))
cleared_more test xs i x first now next h within is e =
    e ∙ ap (λ b. b && not (test x)) h ∙ both_cleared first (list_any test (take i xs)) (test x)
    ∙ ap (λ b. first && not (list_any test (take i xs) || b)) (ap test is)
    ∙ ap (λ b. first && not b) (sym (list_any_more test xs i x within))
