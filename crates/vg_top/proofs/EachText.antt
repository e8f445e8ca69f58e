-- Each text is a description, or breaks a rule first, or has something that isn't built.
use Rattle.std.proofs.Common.{◌≡◌, ◌⊎◌, inl, inr, ℕ, List, Option, Some, None, refl, sym, subst, length}
use Rattle.vg_tok.specs.declared.token.Token.{Token}
use Rattle.vg_tok.specs.declared.fault.TokFault.{TokFault}
use Rattle.vg_tok.specs.Lexing.{Lexes, IsFault}
use Rattle.vg_tok.proofs.Total.{tokens_or_first_fault}
use Rattle.vg_ast.specs.declared.desc.Desc.{Desc}
use Rattle.vg_ast.specs.Description.{Reads}
use Rattle.vg_ast.specs.Leaving.{LeavesAt}
use Rattle.vg_parse.proofs.Readers.{readers}
use Rattle.vg_parse.proofs.Place.{tree_or_place}
use Rattle.vg_rule.specs.declared.breach.Breach.{Breach}
use Rattle.vg_rule.specs.declared.rule.Rule.{Rule}
use Rattle.vg_rule.specs.declared.rule.Rule.TheVariants as rules
use Rattle.vg_inline.specs.InPlace.{known_of}
use Rattle.vg_width.specs.Rules.{first_broken, KeepsRules}
use Rattle.vg_isa.specs.declared.isa.Parts.{Parts}
use Rattle.vg_form.specs.declared.form.Form.{Form}
use Rattle.vg_form.specs.Form.{parts_of}
use Rattle.vg_form.specs.Description.{Found, form_of, found, unlike}
use Rattle.vg_top.specs.declared.needs.Needs.{Needs}
use Rattle.vg_top.specs.declared.reason.Reason.{Reason}
use Rattle.vg_top.specs.declared.reason.Reason.TheVariants as reasons
use Rattle.vg_top.specs.Description.{HasTree, IsBroken, IsDescription, IsUnbuilt, HasOutcome, place_of}
use Rattle.vg_top.specs.Reason.{lacking, IsReason}
use Rattle.vg_top.proofs.FormFits.{found_accepted}

module _ (bytes : List ℕ) where
  is_broken : (rule : Rule) (at : ℕ) → IsBroken bytes rule at → HasOutcome bytes
  is_broken rule at h = inr (inl (rule, at, h))

  by_form : (tree : Desc) → HasTree bytes tree → KeepsRules tree → (sought : Found Form) → form_of tree (known_of tree.items) ≡ sought → HasOutcome bytes
  by_form tree has accepted (found form) e = inl (
    parts_of form,
    record {
      tree = tree;
      has_tree = has;
      accepted = accepted;
      built = record { form = form; built = e; parts = refl };
      accepts = found_accepted tree (known_of tree.items) form e;
    },
  )
  by_form tree has accepted (unlike at) e = inr (inr (at, record { tree = tree; has_tree = has; accepted = accepted; unbuilt = record { unlike_at = e } }))

  by_breach : (tree : Desc) → HasTree bytes tree → (breach : Option Breach) → first_broken tree ≡ breach → HasOutcome bytes
  by_breach tree has None e = by_form tree has e (form_of tree (known_of tree.items)) refl
  by_breach tree has (Some breach) e = is_broken breach.rule breach.at (inr (tree, has, e))

  by_tree : (tokens : List Token) → Lexes bytes tokens → ((tree : Desc) × Reads tokens tree) ⊎ ((at : ℕ) × LeavesAt tokens at) → HasOutcome bytes
  by_tree tokens lexes (inl (tree, reads)) = by_breach tree (record { tokens = tokens; lexes = lexes; reads = reads }) (first_broken tree) refl
  by_tree tokens lexes (inr (at, leaves)) = is_broken rules.Syntax at (inl (refl, inr (tokens, lexes, leaves)))

  by_tokens : ((tokens : List Token) × Lexes bytes tokens) ⊎ ((fault : TokFault) × IsFault bytes fault) → HasOutcome bytes
  by_tokens (inl (tokens, lexes)) = by_tree tokens lexes (tree_or_place readers tokens)
  by_tokens (inr (fault, is)) = is_broken rules.Syntax (place_of fault) (inl (refl, inl (fault, is, refl)))

  pub each_text : HasOutcome bytes
  each_text = by_tokens (tokens_or_first_fault bytes)

  module _ (needs : Needs) where
    abbrev Suffices : Type 0
    Suffices = (d : Parts) × IsDescription bytes d × (lacking needs d ≡ None)

    by_needs : (d : Parts) → IsDescription bytes d → (lack : Option Rule) → lacking needs d ≡ lack → Suffices ⊎ ((reason : Reason) × IsReason bytes needs reason)
    by_needs d is None e = inl (d, is, e)
    by_needs d is (Some rule) e = inr (reasons.Broken rule (length bytes), inr (record { parts = d; description = is; lacks = e; place = refl }))

    by_outcome : HasOutcome bytes → Suffices ⊎ ((reason : Reason) × IsReason bytes needs reason)
    by_outcome (inl (d, is)) = by_needs d is (lacking needs d) refl
    by_outcome (inr (inl (rule, at, h))) = inr (reasons.Broken rule at, inl h)
    by_outcome (inr (inr (at, h))) = inr (reasons.NotBuilt at, h)

    -- each text has what is needed, or is refused for a reason
    pub each_reason : Suffices ⊎ ((reason : Reason) × IsReason bytes needs reason)
    each_reason = by_outcome each_text
