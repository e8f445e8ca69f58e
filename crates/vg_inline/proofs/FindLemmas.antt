-- Fields and parameters, as they are looked for from the first on.
use Rattle.std.proofs.Common.{◌≡◌, ℕ, ◌+◌, ◌<◌, ◌≤◌, Bool, true, false, List, map, [], ◌∷◌, length, get_or, drop, Some, None, sym, ap, ◌∙◌, if◌then◌else◌}
use Rattle.std.proofs.lemmas.List.{drop_more, drop_all}
use Rattle.std.specs.Str.{bytes_eq}
use Rattle.vg_ast.specs.declared.field.Field.{Field}
use Rattle.vg_ast.specs.declared.parameter.Parameter.{Parameter}
use Rattle.vg_names.specs.Definition.{Text}
use Rattle.vg_whole.specs.Whole.{Inner, inner_of}
use Rattle.vg_inline.specs.declared.head.Head.TheVariants as heads
use Rattle.vg_inline.specs.Inline.{typed, field_values, parameter_values}
use Rattle.vg_inline.specs.Context.{Kepts}
use Rattle.vg_inline.specs.declared.keep.Keep.{Keep}
use Rattle.vg_inline.specs.Kept.{keeping_as, kept_node}

abbrev pub fields_from : Keep → List Field → ℕ → Inner Kepts
fields_from keep fields i = field_values (keeping_as keep) i (map (λ (field : Field). field.name.text) (drop i fields))

abbrev pub parameters_from : Keep → List Parameter → ℕ → Inner Kepts
parameters_from keep parameters i = parameter_values (keeping_as keep) i (drop i parameters)

-- a name isn't among those before number i
abbrev pub Seeking : (ℕ → Inner Kepts) → Text → ℕ → Type 0
Seeking from text i = inner_of (from 0) text ≡ inner_of (from i) text

first_is : (x : Text × Kepts) (rest : Inner Kepts) (text : Text) (b : Bool) → b ≡ bytes_eq x.0 text → b ≡ true → inner_of (x ∷ rest) text ≡ Some x.1
first_is x rest text b e g = ap (λ (t : Bool). if t then Some x.1 else inner_of rest text) (sym e ∙ g)

first_not : (x : Text × Kepts) (rest : Inner Kepts) (text : Text) (b : Bool) → b ≡ bytes_eq x.0 text → b ≡ false → inner_of (x ∷ rest) text ≡ inner_of rest text
first_not x rest text b e g = ap (λ (t : Bool). if t then Some x.1 else inner_of rest text) (sym e ∙ g)

field_at : (keep : Keep) (fields : List Field) (i : ℕ) (field : Field) → i < length fields → field ≡ get_or fields i field → fields_from keep fields i ≡ (field.name.text, typed (kept_node keep (heads.Field i) [])) ∷ fields_from keep fields (i + 1)
field_at keep fields i field lt read =
    ap (λ (l : List Field). field_values (keeping_as keep) i (map (λ (x : Field). x.name.text) l)) (drop_more fields i field lt)
    ∙ ap (λ (x : Field). (x.name.text, typed (kept_node keep (heads.Field i) [])) ∷ fields_from keep fields (i + 1)) (sym read)

parameter_at : (keep : Keep) (parameters : List Parameter) (i : ℕ) (parameter : Parameter) → i < length parameters → parameter ≡ get_or parameters i parameter
    → parameters_from keep parameters i ≡ (parameter.name.text, typed (kept_node keep (heads.Parameter i) [])) ∷ parameters_from keep parameters (i + 1)
parameter_at keep parameters i parameter lt read =
    ap (parameter_values (keeping_as keep) i) (drop_more parameters i parameter lt)
    ∙ ap (λ (x : Parameter). (x.name.text, typed (kept_node keep (heads.Parameter i) [])) ∷ parameters_from keep parameters (i + 1)) (sym read)

pub field_found : (keep : Keep) (fields : List Field) (i : ℕ) (field : Field) (text : Text) (b : Bool) → Seeking (fields_from keep fields) text i → i < length fields → field ≡ get_or fields i field → b ≡ bytes_eq field.name.text text → b ≡ true
    → Some (typed (kept_node keep (heads.Field i) [])) ≡ inner_of (fields_from keep fields 0) text
field_found keep fields i field text b h lt read e g = sym (h ∙ ap (λ (l : Inner Kepts). inner_of l text) (field_at keep fields i field lt read) ∙ first_is _ (fields_from keep fields (i + 1)) text b e g)

pub field_passed : (keep : Keep) (fields : List Field) (i : ℕ) (field : Field) (text : Text) (b : Bool) → Seeking (fields_from keep fields) text i → i < length fields → field ≡ get_or fields i field → b ≡ bytes_eq field.name.text text → b ≡ false
    → Seeking (fields_from keep fields) text (i + 1)
field_passed keep fields i field text b h lt read e g = h ∙ ap (λ (l : Inner Kepts). inner_of l text) (field_at keep fields i field lt read) ∙ first_not _ (fields_from keep fields (i + 1)) text b e g

pub no_field : (keep : Keep) (fields : List Field) (i : ℕ) (text : Text) → Seeking (fields_from keep fields) text i → length fields ≤ i → None ≡ inner_of (fields_from keep fields 0) text
no_field keep fields i text h le = sym (h ∙ ap (λ (l : List Field). inner_of (field_values (keeping_as keep) i (map (λ (x : Field). x.name.text) l)) text) (drop_all i fields le))

pub parameter_found : (keep : Keep) (parameters : List Parameter) (i : ℕ) (parameter : Parameter) (text : Text) (b : Bool) → Seeking (parameters_from keep parameters) text i → i < length parameters → parameter ≡ get_or parameters i parameter
    → b ≡ bytes_eq parameter.name.text text → b ≡ true → Some (typed (kept_node keep (heads.Parameter i) [])) ≡ inner_of (parameters_from keep parameters 0) text
parameter_found keep parameters i parameter text b h lt read e g =
    sym (h ∙ ap (λ (l : Inner Kepts). inner_of l text) (parameter_at keep parameters i parameter lt read) ∙ first_is _ (parameters_from keep parameters (i + 1)) text b e g)

pub parameter_passed : (keep : Keep) (parameters : List Parameter) (i : ℕ) (parameter : Parameter) (text : Text) (b : Bool) → Seeking (parameters_from keep parameters) text i → i < length parameters → parameter ≡ get_or parameters i parameter
    → b ≡ bytes_eq parameter.name.text text → b ≡ false → Seeking (parameters_from keep parameters) text (i + 1)
parameter_passed keep parameters i parameter text b h lt read e g =
    h ∙ ap (λ (l : Inner Kepts). inner_of l text) (parameter_at keep parameters i parameter lt read) ∙ first_not _ (parameters_from keep parameters (i + 1)) text b e g

pub no_parameter : (keep : Keep) (parameters : List Parameter) (i : ℕ) (text : Text) → Seeking (parameters_from keep parameters) text i → length parameters ≤ i → None ≡ inner_of (parameters_from keep parameters 0) text
no_parameter keep parameters i text h le = sym (h ∙ ap (λ (l : List Parameter). inner_of (parameter_values (keeping_as keep) i l) text) (drop_all i parameters le))
