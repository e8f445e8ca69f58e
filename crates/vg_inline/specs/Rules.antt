-- The rules of names, constants and the number of nodes: at which places a description breaks each, which it breaks first,
-- and what a description that keeps them is folded to.
use Rattle.std.specs.Prelude.{◌≡◌, ℕ, List, [], Option, Some, None}
use Rattle.vg_rule.specs.declared.breach.Breach.{Breach}
use Rattle.vg_rule.specs.declared.rule.Rule.{Rule}
use Rattle.vg_rule.specs.declared.rule.Rule.TheVariants as rules
use Rattle.vg_rule.specs.Breach.{first_breach}
use Rattle.vg_rule.specs.Order.{fold_order}
use Rattle.vg_ast.specs.declared.desc.Desc.{Desc}
use Rattle.vg_names.specs.Cycle.{cycles}
use Rattle.vg_names.specs.Cyclic.{IsOrder}
use Rattle.vg_names.specs.Duplicate.{duplicates}
use Rattle.vg_names.specs.Unknown.{unknowns}
use Rattle.vg_whole.specs.Overflow.{overflows}
use Rattle.vg_whole.specs.Worths.{constants_of, constants_by}
use Rattle.vg_inline.specs.declared.plain.Plain.{Plain}
use Rattle.vg_inline.specs.Types.{aliases_of}
use Rattle.vg_inline.specs.Inline.{bodies_of}
use Rattle.vg_inline.specs.Kept.{keeping}
use Rattle.vg_inline.specs.Context.{aliases_by, bodies_by}
use Rattle.vg_inline.specs.InPlace.{excesses}

-- the places at which a description breaks a rule, in the order of the text; of limits, only that of nodes is asked here
abbrev pub places_of : Desc → Rule → List ℕ
places_of d rules.Duplicate = duplicates d
places_of d rules.Unknown = unknowns d
places_of d rules.Cyclic = cycles d.items
places_of d rules.Overflow = overflows d (constants_of d.items)
places_of d rules.Limit = excesses d.items
places_of d _ = []

-- the rule of these that a description breaks first, at its first place; none where it keeps them all
unfoldable pub breach_of : Desc → Option Breach
breach_of d = first_breach (places_of d) fold_order

-- a description keeps all these rules
abbrev pub IsAccepted : Desc → Type 0
IsAccepted d = breach_of d ≡ None

-- a description breaks a rule first at a place, and no rule before it
abbrev pub Breaks : Desc → Breach → Type 0
Breaks d breach = breach_of d ≡ Some breach

-- What a description is folded to: itself, what its constants are worth, what its aliases stand for, how many nodes the
-- bodies of its functions have as far as they are not too many, and an order of them all.
pub record IsFolded (d : Desc) (plain : Plain) : Type 0 where
  pub description : plain.description ≡ d
  pub accepted : IsAccepted d
  pub constants : constants_by d.items plain.worths ≡ constants_of d.items
  pub aliases : aliases_by d.items plain.aliases ≡ aliases_of d.items (constants_of d.items)
  pub bodies : bodies_by d.items plain.bodies ≡ bodies_of keeping d.items (constants_of d.items) (aliases_of d.items (constants_of d.items))
  pub ordered : IsOrder d.items plain.order
