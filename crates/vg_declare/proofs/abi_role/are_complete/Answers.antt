use Rattle.std.proofs.Common.{◌≡◌, ℕ, true, nat_eq, sym, ◌∙◌, arith, below_more}
use Rattle.std.specs.List.{list_any}
use Rattle.vg_ast.specs.declared.role.Role.{Role}
use Rattle.vg_declare.specs.AbiRole.{role_number}
use Rattle.vg_declare.proofs.AbiLemmas.{lacking, none_lacking, stands_as}
use Rattle.vg_declare.proofs.abi_role.are_complete.Goals as goal

pub loop-number-init : goal.loop-number-init
loop-number-init c = λ k h. absurd (omega (arith, h))

pub returns-then-not-stands : goal.returns-then-not-stands
returns-then-not-stands c = lacking c.args.roles.now c.loop-number.number c.loop-number-test.true (sym c.stands.ensures ∙ c.if-not-stands.true)

pub loop-number-preserved : goal.loop-number-preserved
loop-number-preserved c =
    below_more (λ (k : ℕ). list_any (λ (role : Role). nat_eq (role_number role) k) c.args.roles.now ≡ true) c.loop-number.number c.loop-number.invariant
    (sym (stands_as c.loop-number.number c.args.roles.now) ∙ sym c.stands.ensures ∙ c.if-not-stands.false)

pub returns : goal.returns
returns c = none_lacking c.args.roles.now c.loop-number.number c.loop-number-test.false c.loop-number.invariant
