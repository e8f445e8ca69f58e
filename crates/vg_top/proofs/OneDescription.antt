-- A text is the description of one processor, or breaks one rule first, or isn't built at one place.
use Rattle.std.proofs.Common.{◌≡◌, ◌⊎◌, inl, inr, ℕ, List, Some, None, sym, ap, subst, ◌∙◌}
use Rattle.vg_tok.specs.declared.token.Token.{Token}
use Rattle.vg_tok.proofs.Unique.{tokens_once, first_fault_once, tokens_or_fault}
use Rattle.vg_ast.specs.declared.desc.Desc.{Desc}
use Rattle.vg_ast.specs.Description.{Reads}
use Rattle.vg_ast.specs.Leaving.{LeavesAt}
use Rattle.vg_parse.proofs.Readers.{readers}
use Rattle.vg_parse.proofs.Place.{tree_once, place_once, not_both}
use Rattle.vg_rule.specs.declared.breach.Breach.{Breach}
use Rattle.vg_width.specs.Rules.{KeepsRules, first_broken}
use Rattle.vg_inline.specs.InPlace.{known_of}
use Rattle.vg_isa.specs.declared.isa.Parts.{Parts}
use Rattle.vg_form.specs.declared.form.Form.{Form}
use Rattle.vg_form.specs.Form.{parts_of}
use Rattle.vg_form.specs.Description.{Found, form_of, found, unlike}
use Rattle.vg_rule.specs.declared.rule.Rule.{Rule}
use Rattle.vg_top.specs.Description.{HasTree, IsDescription, IsUnbuilt, IsSyntaxFault, BreaksFirst, IsBroken, place_of}

-- the form that was found
abbrev found_or : Form → Found Form → Form
found_or other (found form) = form
found_or other (unlike at) = other

abbrev place_or : ℕ → Found Form → ℕ
place_or other (found form) = other
place_or other (unlike at) = at

abbrev is_found : Found Form → Type 0
is_found (found form) = Unit {0}
is_found (unlike at) = ⊥

abbrev breach : Rule → ℕ → Breach
breach rule at = record { rule = rule; at = at }

some_same : {a b : Breach} → Some a ≡ Some b → a ≡ b
some_same h = cc

never : {a : Breach} → None ≡ Some a → ⊥
never h = absurd (cc)

module _ (bytes : List ℕ) where
  one_tree : (s t : Desc) → HasTree bytes s → HasTree bytes t → s ≡ t
  one_tree s t a b =
      tree_once readers a.tokens s t a.reads (subst (λ (ts : List Token). Reads ts t) (tokens_once bytes b.tokens a.tokens b.lexes a.lexes) b.reads)

  tree_or_syntax : (t : Desc) (at : ℕ) → HasTree bytes t → IsSyntaxFault bytes at → ⊥
  tree_or_syntax t at a (inl (fault, is, e)) = tokens_or_fault bytes a.tokens fault a.lexes is
  tree_or_syntax t at a (inr (tokens, lexes, leaves)) =
      not_both tokens t at (subst (λ (ts : List Token). Reads ts t) (tokens_once bytes a.tokens tokens a.lexes lexes) a.reads) leaves

  one_syntax : (a b : ℕ) → IsSyntaxFault bytes a → IsSyntaxFault bytes b → a ≡ b
  one_syntax a b (inl (f, x, e)) (inl (g, y, d)) = e ∙ ap place_of (first_fault_once bytes f g x y) ∙ sym d
  one_syntax a b (inl (f, x, e)) (inr (tokens, lexes, leaves)) = absurd (tokens_or_fault bytes tokens f lexes x)
  one_syntax a b (inr (tokens, lexes, leaves)) (inl (g, y, d)) = absurd (tokens_or_fault bytes tokens g lexes y)
  one_syntax a b (inr (tokens, lexes, leaves)) (inr (others, also, behind)) =
      place_once readers tokens a b leaves (subst (λ (ts : List Token). LeavesAt ts b) (tokens_once bytes others tokens also lexes) behind)

  one_breach : (a b : Breach) → BreaksFirst bytes a → BreaksFirst bytes b → a ≡ b
  one_breach a b (s, x, e) (t, y, d) = some_same (sym e ∙ ap first_broken (one_tree s t x y) ∙ d)

  same_breach : (r s : Rule) (a b : ℕ) → breach r a ≡ breach s b → (r ≡ s) × (a ≡ b)
  same_breach r s a b e = (ap (λ (x : Breach). x.rule) e, ap (λ (x : Breach). x.at) e)

  pub one_broken : (r s : Rule) (a b : ℕ) → IsBroken bytes r a → IsBroken bytes s b → (r ≡ s) × (a ≡ b)
  one_broken r s a b (inl (e, x)) (inl (d, y)) = (e ∙ sym d, one_syntax a b x y)
  one_broken r s a b (inl (e, x)) (inr (t, has, y)) = absurd (tree_or_syntax t a has x)
  one_broken r s a b (inr (t, has, x)) (inl (d, y)) = absurd (tree_or_syntax t b has y)
  one_broken r s a b (inr x) (inr y) = same_breach r s a b (one_breach (breach r a) (breach s b) x y)

  accepted_or_broken : (t : Desc) (r : Rule) (a : ℕ) → HasTree bytes t → KeepsRules t → IsBroken bytes r a → ⊥
  accepted_or_broken t r a has accepted (inl (e, x)) = tree_or_syntax t a has x
  accepted_or_broken t r a has accepted (inr (s, also, x)) = never (sym accepted ∙ ap first_broken (one_tree t s has also) ∙ x)

  pub described_or_broken : (d : Parts) (r : Rule) (a : ℕ) → IsDescription bytes d → IsBroken bytes r a → ⊥
  described_or_broken d r a h x = accepted_or_broken h.tree r a h.has_tree h.accepted x

  pub unbuilt_or_broken : (at : ℕ) (r : Rule) (a : ℕ) → IsUnbuilt bytes at → IsBroken bytes r a → ⊥
  unbuilt_or_broken at r a h x = accepted_or_broken h.tree r a h.has_tree h.accepted x

  one_form : (s t : Desc) → HasTree bytes s → HasTree bytes t → form_of s (known_of s.items) ≡ form_of t (known_of t.items)
  one_form s t has also = ap (λ (d : Desc). form_of d (known_of d.items)) (one_tree s t has also)

  pub one_description : (d e : Parts) → IsDescription bytes d → IsDescription bytes e → d ≡ e
  one_description d e x y =
      x.built.parts
      ∙ ap parts_of (ap (found_or x.built.form) (sym x.built.built ∙ one_form x.tree y.tree x.has_tree y.has_tree ∙ y.built.built))
      ∙ sym y.built.parts

  pub one_unbuilt : (a b : ℕ) → IsUnbuilt bytes a → IsUnbuilt bytes b → a ≡ b
  one_unbuilt a b x y =
      ap (place_or a) (sym x.unbuilt.unlike_at ∙ one_form x.tree y.tree x.has_tree y.has_tree ∙ y.unbuilt.unlike_at)

  pub described_or_unbuilt : (d : Parts) (a : ℕ) → IsDescription bytes d → IsUnbuilt bytes a → ⊥
  described_or_unbuilt d a x y =
      subst is_found (sym x.built.built ∙ one_form x.tree y.tree x.has_tree y.has_tree ∙ y.unbuilt.unlike_at) tt
