-- One pair more, of the loop over the pairs.
use Rattle.std.proofs.Common.{◌≡◌, ℕ, suc, true, false, true≢false, ◌&&◌, IsTrue, nat_eq, length, List, [], ◌∷◌, ◌++◌, refl, ap, sym, ◌∙◌}
use Rattle.std.specs.List.{list_all}
use Rattle.std.proofs.lemmas.List.Folds.{list_all-append}
use Rattle.vg_form.specs.declared.form.Pair.{Pair}
use Rattle.vg_form.specs.declared.remaining.Remaining.{Remaining}
use Rattle.vg_form.specs.Form.{fits_fields}
use Rattle.vg_form.specs.Description.{Found, found, Doing, Values, ◌>>=◌, pair_of, pairs_behind, pairs_of}
use Rattle.vg_inline.specs.declared.context.Context.{Context}
use Rattle.vg_form.specs.Given.{all_doing}

-- the pairs go on behind a pair that is found
pub pairs_more : (file : ℕ) (values : Values) (room less : ℕ) (front : List Pair) (doing other : Doing) (more : List Doing) (pair : Pair) → suc less ≡ room → pair_of file values front doing (other ∷ []) ≡ found pair → pairs_behind file values room front (doing ∷ other ∷ more) ≡ pairs_behind file values less (front ++ pair ∷ []) more
pairs_more file values room less front doing other more pair room_is pair_is =
    ap (λ (n : ℕ). pairs_behind file values n front (doing ∷ other ∷ more)) (sym room_is)
    ∙ ap (λ (sought : Found Pair). sought >>= λ next. pairs_behind file values less (front ++ next ∷ []) more) pair_is

-- pairs that fit their fields, and one more
pub fit_more : (front : List Pair) (pair : Pair) → IsTrue (list_all fits_fields front) → IsTrue (fits_fields pair) → IsTrue (list_all fits_fields (front ++ pair ∷ []))
fit_more front pair front_fits pair_fits =
    list_all-append fits_fields front (pair ∷ [])
    ∙ ap (λ b. b && list_all fits_fields (pair ∷ [])) front_fits
    ∙ ap (λ b. b && true) pair_fits

-- where there is a first item there is a pair
pub pairs_of_some : (file : ℕ) (values : Values) (close : ℕ) (x : Context) (items : List Remaining) → nat_eq (length items) 0 ≡ false → pairs_of file values close (all_doing x items) ≡ pairs_behind file values 512 [] (all_doing x items)
pairs_of_some file values close x [] e = absurd (true≢false e)
pairs_of_some file values close x (item ∷ items) e = refl
