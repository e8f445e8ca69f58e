-- A text is refused for one reason, and for none where it is a description that lacks nothing.
use Rattle.std.proofs.Common.{inl, inr, ◌≡◌, ℕ, List, Option, Some, None, unwrap_or, refl, sym, ap, subst, ◌∙◌}
use Rattle.vg_isa.specs.declared.isa.Parts.{Parts}
use Rattle.vg_top.specs.declared.needs.Needs.{Needs}
use Rattle.vg_top.specs.declared.reason.Reason.{Reason}
use Rattle.vg_top.specs.declared.reason.Reason.TheVariants as reasons
use Rattle.vg_rule.specs.declared.rule.Rule.{Rule}
use Rattle.vg_top.specs.Description.{IsDescription}
use Rattle.vg_top.specs.Reason.{lacking, IsLacking, IsReason, AreAlike}
use Rattle.vg_top.proofs.OneDescription as one

some_once : (o : Option Rule) (r s : Rule) → o ≡ Some r → o ≡ Some s → s ≡ r
some_once None r s x y = cc
some_once (Some t) r s x y = cc

some_or_none : (o : Option Rule) (r : Rule) → o ≡ Some r → o ≡ None → ⊥
some_or_none None r x y = cc
some_or_none (Some t) r x y = cc

module _ (bytes : List ℕ) (needs : Needs) where
  same_lack : (r s : Rule) (a b : ℕ) → IsLacking bytes needs r a → IsLacking bytes needs s b → s ≡ r
  same_lack r s a b x y =
      some_once (lacking needs x.parts) r s x.lacks (ap (lacking needs) (one.one_description bytes x.parts y.parts x.description y.description) ∙ y.lacks)

  broken : (r s : Rule) (a b : ℕ) → s ≡ r → b ≡ a → reasons.Broken s b ≡ reasons.Broken r a
  broken r s a b e d = λ j. reasons.Broken (e j) (d j)

  pub one_reason : (r s : Reason) → IsReason bytes needs r → IsReason bytes needs s → AreAlike r s
  one_reason (reasons.Broken r a) (reasons.Broken s b) (inl x) (inl y) = let same = one.one_broken bytes s r b a y x in broken r s a b same.0 same.1
  one_reason (reasons.Broken r a) (reasons.Broken s b) (inl x) (inr y) = absurd (one.described_or_broken bytes y.parts r a y.description x)
  one_reason (reasons.Broken r a) (reasons.Broken s b) (inr x) (inl y) = absurd (one.described_or_broken bytes x.parts s b x.description y)
  one_reason (reasons.Broken r a) (reasons.Broken s b) (inr x) (inr y) = broken r s a b (same_lack r s a b x y) (y.place ∙ sym x.place)
  one_reason (reasons.Broken r a) (reasons.NotBuilt b) (inl x) y = absurd (one.unbuilt_or_broken bytes b r a y x)
  one_reason (reasons.Broken r a) (reasons.NotBuilt b) (inr x) y = absurd (one.described_or_unbuilt bytes x.parts b x.description y)
  one_reason (reasons.NotBuilt a) (reasons.Broken s b) x (inl y) = absurd (one.unbuilt_or_broken bytes a s b x y)
  one_reason (reasons.NotBuilt a) (reasons.Broken s b) x (inr y) = absurd (one.described_or_unbuilt bytes y.parts a y.description x)
  one_reason (reasons.NotBuilt a) (reasons.NotBuilt b) x y = ap reasons.NotBuilt (one.one_unbuilt bytes b a y x)

  pub described_or_refused : (d : Parts) (r : Reason) → IsDescription bytes d → lacking needs d ≡ None → IsReason bytes needs r → ⊥
  described_or_refused d (reasons.Broken r a) is none (inl x) = one.described_or_broken bytes d r a is x
  described_or_refused d (reasons.Broken r a) is none (inr x) =
      some_or_none (lacking needs d) r (ap (lacking needs) (one.one_description bytes d x.parts is x.description) ∙ x.lacks) none
  described_or_refused d (reasons.NotBuilt a) is none x = one.described_or_unbuilt bytes d a is x

  -- reasons that are alike have one line
  pub same_reason : (r s : Reason) → AreAlike r s → s ≡ r
  same_reason (reasons.Broken r a) s h = h
  same_reason (reasons.NotBuilt a) s h = h
