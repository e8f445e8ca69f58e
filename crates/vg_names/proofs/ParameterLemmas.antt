-- The set of the names of parameters, after one more is inserted.
use Rattle.std.proofs.Common.{◌≡◌, ℕ, ◌+◌, ◌<◌, Bool, true, false, cond, List, [], ◌∷◌, ◌++◌, length, get_or, take, refl, sym, ap, subst, ◌∙◌, if◌then◌else◌}
use Rattle.std.specs.Str.{bytes_eq}
use Rattle.std.specs.Borrow.{Bor}
use Rattle.std.proofs.lemmas.List.{take_more}
use Rattle.indexmap.specs.IndexSet.{IndexSet}
use Rattle.indexmap.specs.IndexSet as named
use Rattle.vg_ast.specs.declared.parameter.Parameter.{Parameter}
use Rattle.vg_names.specs.Definition.{Text, is_among}
use Rattle.vg_names.specs.Scoped.{parameter_texts, HasNames}

abbrev same_key : Bor Text → Bor Text → Bool
same_key x y = bytes_eq x.now y.now

abbrev key_of : Text → Bor Text
key_of text = record { ref_ptr = (0, 0); now = text }

among_push : (text : Text) (parameters : List Parameter) (parameter : Parameter) → is_among text (parameter_texts (parameters ++ parameter ∷ [])) ≡ cond (bytes_eq parameter.name.text text) true (is_among text (parameter_texts parameters))
among_push text [] parameter = refl
among_push text (first ∷ parameters) parameter =
    ap (λ (b : Bool). if bytes_eq first.name.text text then true else b) (among_push text parameters parameter)
    ∙ swapped (bytes_eq first.name.text text) (bytes_eq parameter.name.text text) (is_among text (parameter_texts parameters))
  where
    swapped : (a b c : Bool) → (if a then true else cond b true c) ≡ cond b true (if a then true else c)
    swapped true true c = refl
    swapped true false c = refl
    swapped false b c = refl

-- the name of one more parameter
pub names_more : {S : Type 0} (parameters : List Parameter) (parameter : Parameter) (key : Bor Text) (old new : IndexSet (Bor Text) S) → key.now ≡ parameter.name.text → named.Updates same_key old new key true
    → HasNames old parameters → HasNames new (parameters ++ parameter ∷ [])
names_more parameters parameter key old new same u h text =
    u.0 (key_of text)
    ∙ ap (λ (b : Bool). cond (bytes_eq key.now text) true b) (h text)
    ∙ ap (λ (t : Text). cond (bytes_eq t text) true (is_among text (parameter_texts parameters))) same
    ∙ sym (among_push text parameters parameter)

pub names_read : {S : Type 0} (parameters : List Parameter) (i : ℕ) (parameter : Parameter) (key : Bor Text) (old new : IndexSet (Bor Text) S) → i < length parameters → parameter ≡ get_or parameters i parameter
    → key.now ≡ parameter.name.text → named.Updates same_key old new key true → HasNames old (take i parameters) → HasNames new (take (i + 1) parameters)
names_read parameters i parameter key old new lt read same u h =
    subst (HasNames new) (ap (λ (p : Parameter). take i parameters ++ p ∷ []) read ∙ sym (take_more parameters i parameter lt))
    (names_more (take i parameters) parameter key old new same u h)
