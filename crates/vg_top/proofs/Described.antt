-- From the answers of the readers to what is said of a text.
use Rattle.std.proofs.Common.{Result, Ok, Err, ◌≡◌, ◌⊎◌, inl, inr, ℕ, List, Option, Some, None, IfSome, IsTrue, length, refl, sym, subst, map, ap, ◌∙◌}
use Rattle.std.specs.Option.{option_map_or}
use Rattle.std.specs.Result.{IfErr, IsErrAnd}
use Rattle.vg_tok.specs.declared.token.Token.{Token}
use Rattle.vg_tok.specs.declared.fault.TokFault.{TokFault}
use Rattle.vg_tok.specs.declared.fault.TokFault.TheVariants as token_faults
use Rattle.vg_tok.specs.Lexing.{Lexes, IsFault}
use Rattle.vg_ast.specs.declared.desc.Desc.{Desc}
use Rattle.vg_ast.specs.Description.{Reads}
use Rattle.vg_rule.specs.declared.breach.Breach.{Breach}
use Rattle.vg_rule.specs.declared.desc_fault.DescFault.{DescFault}
use Rattle.vg_rule.specs.Fault.{told_by, Tells}
use Rattle.vg_inline.specs.declared.plain.Plain.{Plain}
use Rattle.vg_inline.specs.InPlace.{known_of}
use Rattle.vg_inline.specs.Rules.{IsFolded, breach_of}
use Rattle.vg_rule.specs.Breach.{or_later}
use Rattle.vg_width.specs.Rules.{KeepsRules, breach_in, first_broken}
use Rattle.vg_isa.specs.declared.isa.Parts.{Parts}
use Rattle.vg_isa.specs.Accepted.{is_isa}
use Rattle.vg_form.specs.declared.fault.FormFault.{FormFault}
use Rattle.vg_form.specs.declared.fault.FormFault.TheVariants as form_faults
use Rattle.vg_form.specs.declared.form.Form.{Form}
use Rattle.vg_form.specs.Form.{parts_of}
use Rattle.vg_form.specs.Description.{form_of, found, unlike}
use Rattle.vg_top.specs.declared.description_fault.DescriptionFault.{DescriptionFault}
use Rattle.vg_top.specs.declared.description_fault.DescriptionFault.TheVariants as why
use Rattle.vg_top.specs.declared.reason.Reason.TheVariants as reasons
use Rattle.vg_rule.specs.declared.rule.Rule.{Rule}
use Rattle.vg_top.specs.declared.needs.Needs.{Needs}
use Rattle.vg_top.specs.Reason.{lacking}
use Rattle.vg_top.specs.Description.{HasTree, IsBuilt, IsUnlike, IsDescription, IsFaultOf}
use Rattle.vg_top.specs.Faulting.{token_fault_of, rule_fault_of, IsBuildFault, IsFaultFor}

-- what is an error of which something holds
pub err_then : {T E : Type 0} (r : Result T E) (P : E → Type 0) → IsErrAnd r P → IfErr r P
err_then (Ok x) P h = tt
err_then (Err e) P h = h

pub has_tree : (bytes : List ℕ) (tokens : List Token) (tree : Desc) → Lexes bytes tokens → Reads tokens tree → HasTree bytes tree
has_tree bytes tokens tree l r = record { tokens = tokens; lexes = l; reads = r }

pub token_faulty : (bytes : List ℕ) (f : TokFault) → (f ≡ token_faults.OutOfMemory) ⊎ IsFault bytes f → IsFaultOf bytes (token_fault_of f)
token_faulty bytes token_faults.OutOfMemory h = tt
token_faulty bytes (token_faults.NotUtf8 at) (inl e) = absurd (cc)
token_faulty bytes (token_faults.BadChar at) (inl e) = absurd (cc)
token_faulty bytes (token_faults.Wide at) (inl e) = absurd (cc)
token_faulty bytes (token_faults.NotUtf8 at) (inr h) = inl (refl, inl (token_faults.NotUtf8 at, h, refl))
token_faulty bytes (token_faults.BadChar at) (inr h) = inl (refl, inl (token_faults.BadChar at, h, refl))
token_faulty bytes (token_faults.Wide at) (inr h) = inl (refl, inl (token_faults.Wide at, h, refl))

-- a rule that is asked first and is broken is the first that is broken
pub broken_before : (tree : Desc) (b : Breach) → breach_of tree ≡ Some b → first_broken tree ≡ Some b
unfolding first_broken
broken_before tree b broken = ap (λ (x : Option Breach). or_later x (breach_in tree)) broken

-- behind those that are kept the first that is broken is that of the others
pub broken_behind : (tree : Desc) → breach_of tree ≡ None → first_broken tree ≡ breach_in tree
unfolding first_broken
broken_behind tree kept = ap (λ (x : Option Breach). or_later x (breach_in tree)) kept

pub told_fault : (bytes : List ℕ) (tree : Desc) → HasTree bytes tree → (told : Option Breach) → IfSome told (λ b. first_broken tree ≡ Some b)
    → IsFaultOf bytes (option_map_or (λ (breach : Breach). why.Refused (reasons.Broken breach.rule breach.at)) told why.OutOfMemory)
told_fault bytes tree has None h = tt
told_fault bytes tree has (Some breach) h = inr (tree, has, h)

pub rule_faulty : (bytes : List ℕ) (tree : Desc) → HasTree bytes tree → (f : DescFault) → Tells (breach_of tree) f → IsFaultOf bytes (rule_fault_of f)
rule_faulty bytes tree has f tells = told_fault bytes tree has (told_by f) (by (told_by f) tells)
  where
    by : (told : Option Breach) → IfSome told (λ b. breach_of tree ≡ Some b) → IfSome told (λ b. first_broken tree ≡ Some b)
    by None h = h
    by (Some breach) h = broken_before tree breach h

-- what is asked of a folded description
pub check_faulty : (bytes : List ℕ) (tree : Desc) → HasTree bytes tree → (plain : Plain) → IsFolded tree plain → (f : DescFault) → Tells (breach_in plain.description) f → IsFaultOf bytes (rule_fault_of f)
check_faulty bytes tree has plain folded f tells = told_fault bytes tree has (told_by f) (by (told_by f) tells)
  where
    by : (told : Option Breach) → IfSome told (λ b. breach_in plain.description ≡ Some b) → IfSome told (λ b. first_broken tree ≡ Some b)
    by None h = h
    by (Some breach) h = broken_behind tree folded.accepted ∙ ap breach_in (sym folded.description) ∙ h

pub keeps_rules : (tree : Desc) → breach_of tree ≡ None → breach_in tree ≡ None → KeepsRules tree
keeps_rules tree kept behind = broken_behind tree kept ∙ behind

-- what a description is folded to is that of its own tree
pub folded_itself : (tree : Desc) (plain : Plain) → IsFolded tree plain → IsFolded plain.description plain
folded_itself tree plain folded = subst (λ (t : Desc). IsFolded t plain) (sym folded.description) folded

module _ (tree : Desc) where
  pub is_built : (d : Parts) → (form : Form) × (form_of tree (known_of tree.items) ≡ found form) × (d ≡ parts_of form) → IsBuilt tree d
  is_built d (form, so, parts) = record { form = form; built = so; parts = parts }

  pub told_unlike : (f : FormFault) → (f ≡ form_faults.OutOfMemory) ⊎ ((at : ℕ) × (f ≡ form_faults.Unlike at) × (form_of tree (known_of tree.items) ≡ unlike at))
      → (f ≡ form_faults.OutOfMemory) ⊎ ((at : ℕ) × (f ≡ form_faults.Unlike at) × IsUnlike tree at)
  told_unlike f (inl none) = inl none
  told_unlike f (inr (at, same, so)) = inr (at, same, record { unlike_at = so })

module _ (bytes : List ℕ) (tree : Desc) (has : HasTree bytes tree) (plain : Plain) (folded : IsFolded tree plain) (kept : breach_in plain.description ≡ None) where
  accepted : KeepsRules tree
  accepted = keeps_rules tree folded.accepted (ap breach_in (sym folded.description) ∙ kept)

  pub described : (d : Parts) → IsBuilt plain.description d → IsTrue (is_isa d) → IsDescription bytes d
  described d built accepts = record {
    tree = tree;
    has_tree = has;
    accepted = accepted;
    built = subst (λ (t : Desc). IsBuilt t d) folded.description built;
    accepts = accepts;
  }

  pub build_faulty : (f : DescriptionFault) → IsBuildFault plain.description f → IsFaultOf bytes f
  build_faulty (why.Refused (reasons.Broken rule at)) h = absurd h
  build_faulty (why.Refused (reasons.NotBuilt at)) h = record {
    tree = tree;
    has_tree = has;
    accepted = accepted;
    unbuilt = subst (λ (t : Desc). IsUnlike t at) folded.description h;
  }
  build_faulty why.OutOfMemory h = tt

-- why there is no processor, whatever is needed of it
pub faulty_for : (bytes : List ℕ) (needs : Needs) (f : DescriptionFault) → IsFaultOf bytes f → IsFaultFor bytes needs f
faulty_for bytes needs (why.Refused (reasons.Broken rule at)) h = inl h
faulty_for bytes needs (why.Refused (reasons.NotBuilt at)) h = h
faulty_for bytes needs why.OutOfMemory h = tt

-- what is needed lacks
pub lacking_fault : (bytes : List ℕ) (needs : Needs) (d : Parts) (rule : Rule) → IsDescription bytes d → lacking needs d ≡ Some rule
    → IsFaultFor bytes needs (why.Refused (reasons.Broken rule (length bytes)))
lacking_fault bytes needs d rule is lacks = inr (record { parts = d; description = is; lacks = lacks; place = refl })
