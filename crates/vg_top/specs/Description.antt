-- Which processor the text of a description stands for; or which rule it breaks first, and where; or what in it isn't
-- built yet. The rules are asked in this order: the text has a tree; nothing is defined twice; all names are known;
-- nothing uses itself; no operator leaves the whole numbers; no behaviour has too many nodes; and behind these those of types,
-- ranges, formats, encodings, behaviours, the binary interface, stages and limits.
use Rattle.std.specs.Prelude.{◌≡◌, ◌⊎◌, ⊤, ℕ, List, Some, IsTrue}
use Rattle.vg_tok.specs.declared.token.Token.{Token}
use Rattle.vg_tok.specs.declared.fault.TokFault.{TokFault}
use Rattle.vg_tok.specs.declared.fault.TokFault.TheVariants as token_faults
use Rattle.vg_tok.specs.Lexing.{Lexes, IsFault}
use Rattle.vg_ast.specs.declared.desc.Desc.{Desc}
use Rattle.vg_ast.specs.Description.{Reads}
use Rattle.vg_ast.specs.Leaving.{LeavesAt}
use Rattle.vg_rule.specs.declared.breach.Breach.{Breach}
use Rattle.vg_width.specs.Rules.{KeepsRules, first_broken}
use Rattle.vg_inline.specs.InPlace.{known_of}
use Rattle.vg_isa.specs.declared.isa.Parts.{Parts}
use Rattle.vg_isa.specs.Accepted.{is_isa}
use Rattle.vg_form.specs.declared.form.Form.{Form}
use Rattle.vg_form.specs.Form.{parts_of}
use Rattle.vg_form.specs.Description.{form_of, found, unlike}
use Rattle.vg_rule.specs.declared.rule.Rule.{Rule}
use Rattle.vg_rule.specs.declared.rule.Rule.TheVariants as rules
use Rattle.vg_top.specs.declared.description_fault.DescriptionFault.{DescriptionFault}
use Rattle.vg_top.specs.declared.description_fault.DescriptionFault.TheVariants as why
use Rattle.vg_top.specs.declared.reason.Reason.{Reason}
use Rattle.vg_top.specs.declared.reason.Reason.TheVariants as reasons

-- the tokens of the text have this tree
pub record HasTree (bytes : List ℕ) (tree : Desc) : Type 0 where
  pub tokens : List Token
  pub lexes : Lexes bytes tokens
  pub reads : Reads tokens tree

-- with everything in place of its names the tree is of the form of these parts
pub record IsBuilt (tree : Desc) (d : Parts) : Type 0 where
  pub form : Form
  pub built : form_of tree (known_of tree.items) ≡ found form
  pub parts : d ≡ parts_of form

-- with everything in place of its names this is the place of the first thing in the tree that isn't of the form
pub record IsUnlike (tree : Desc) (at : ℕ) : Type 0 where
  pub unlike_at : form_of tree (known_of tree.items) ≡ unlike at

-- the text keeps all rules, and is the description of these parts, which keep what an accepted description keeps
pub record IsDescription (bytes : List ℕ) (d : Parts) : Type 0 where
  pub tree : Desc
  pub has_tree : HasTree bytes tree
  pub accepted : KeepsRules tree
  pub built : IsBuilt tree d
  pub accepts : IsTrue (is_isa d)

-- the text keeps all rules, and the first thing in it that isn't built yet is here
pub record IsUnbuilt (bytes : List ℕ) (at : ℕ) : Type 0 where
  pub tree : Desc
  pub has_tree : HasTree bytes tree
  pub accepted : KeepsRules tree
  pub unbuilt : IsUnlike tree at

abbrev pub place_of : TokFault → ℕ
place_of (token_faults.NotUtf8 at) = at
place_of (token_faults.BadChar at) = at
place_of (token_faults.Wide at) = at
place_of token_faults.OutOfMemory = 0

-- the text has no tree: it isn't text, or no tokens, at the first such byte; or its tokens leave the grammar here
abbrev pub IsSyntaxFault : List ℕ → ℕ → Type 0
IsSyntaxFault bytes at =
    ((fault : TokFault) × IsFault bytes fault × (at ≡ place_of fault))
    ⊎ ((tokens : List Token) × Lexes bytes tokens × LeavesAt tokens at)

-- the tree of the text breaks this rule first, at this place
abbrev pub BreaksFirst : List ℕ → Breach → Type 0
BreaksFirst bytes breach = (tree : Desc) × HasTree bytes tree × (first_broken tree ≡ Some breach)

-- This is the first rule that the text breaks, and the first place where it does: the text has no tree, or its tree breaks
-- the rule.
abbrev pub IsBroken : List ℕ → Rule → ℕ → Type 0
IsBroken bytes rule at = ((rule ≡ rules.Syntax) × IsSyntaxFault bytes at) ⊎ BreaksFirst bytes (record { rule = rule; at = at })

-- a text is the description of a processor, or breaks a rule first at a place, or has a first place that isn't built yet
abbrev pub HasOutcome : List ℕ → Type 0
HasOutcome bytes =
    ((d : Parts) × IsDescription bytes d) ⊎ (((rule : Rule) × (at : ℕ) × IsBroken bytes rule at) ⊎ ((at : ℕ) × IsUnbuilt bytes at))

-- the text is refused for this reason, whatever a command needs of it
abbrev pub IsRefused : List ℕ → Reason → Type 0
IsRefused bytes (reasons.Broken rule at) = IsBroken bytes rule at
IsRefused bytes (reasons.NotBuilt at) = IsUnbuilt bytes at

-- why there is no processor of the text; want of memory has no cause
abbrev pub IsFaultOf : List ℕ → DescriptionFault → Type 0
IsFaultOf bytes (why.Refused reason) = IsRefused bytes reason
IsFaultOf bytes why.OutOfMemory = ⊤
