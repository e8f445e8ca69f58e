use Rattle.std.proofs.Common.{◌≡◌, ℕ, ◌+◌, Bool, true, false, not, nat_eq, List, ◌∷◌, [], ◌++◌, get_or, drop, sym, ap, refl, ◌∙◌, if◌then◌else◌}
use Rattle.std.specs.List.{list_any}
use Rattle.std.proofs.lemmas.List.{at_drop_more, at_drop_all}
use Rattle.vg_declare.proofs.DifferLemmas.{behind_none, differ_behind, differ_end, differ_met, differ_new}
use Rattle.vg_declare.proofs.abi_register.all_differ.Goals as goal

met_when : (added met : Bool) → added ≡ not met → added ≡ false → met ≡ true
met_when added true e h = refl
met_when added false e h = sym h ∙ e

new_when : (added met : Bool) → added ≡ not met → added ≡ true → met ≡ false
new_when added true e h = sym h ∙ e
new_when added false e h = refl

inserted : (keys new : List ℕ) (n : ℕ) → new ≡ (if list_any (nat_eq n) keys then keys else keys ++ n ∷ []) → list_any (nat_eq n) keys ≡ false → keys ++ n ∷ [] ≡ new
inserted keys new n e h = sym (e ∙ ap (λ t. if t then keys else keys ++ n ∷ []) h)

pub loop-number-init : goal.loop-number-init
loop-number-init c = behind_none c.args.numbers.now ∙ ap (λ (keys : List ℕ). differ_behind keys c.args.numbers.now) (sym c.new-met.ensures.empty)

pub returns-then-not-branch : goal.returns-then-not-branch
returns-then-not-branch c =
    let i = c.loop-number.number-index in
    let numbers = c.args.numbers.now in
    sym (c.loop-number.invariant ∙ at_drop_more (differ_behind c.loop-number.met.keys) numbers i 0 c.loop-number-test.true
    ∙ differ_met c.loop-number.met.keys (get_or numbers i 0) (drop (i + 1) numbers) (met_when c.in_ok-insert.field-0 (list_any (nat_eq (get_or numbers i 0)) c.loop-number.met.keys) c.in_ok-insert.ensures.added c.if-not-branch.true))

pub loop-number-preserved : goal.loop-number-preserved
loop-number-preserved c =
    let i = c.loop-number.number-index in
    let numbers = c.args.numbers.now in
    let absent = new_when c.in_ok-insert.field-0 (list_any (nat_eq (get_or numbers i 0)) c.loop-number.met.keys) c.in_ok-insert.ensures.added c.if-not-branch.false in
    c.loop-number.invariant ∙ at_drop_more (differ_behind c.loop-number.met.keys) numbers i 0 c.loop-number-test.true
    ∙ differ_new c.loop-number.met.keys (get_or numbers i 0) (drop (i + 1) numbers) absent
    ∙ ap (λ (keys : List ℕ). differ_behind keys (drop (i + 1) numbers)) (inserted c.loop-number.met.keys c.insert.new.self.keys (get_or numbers i 0) c.in_ok-insert.ensures.keys absent)

pub returns : goal.returns
returns c =
    let numbers = c.args.numbers.now in
    sym (c.loop-number.invariant ∙ at_drop_all (differ_behind c.loop-number.met.keys) numbers c.loop-number.number-index c.loop-number-test.false ∙ differ_end c.loop-number.met.keys)
