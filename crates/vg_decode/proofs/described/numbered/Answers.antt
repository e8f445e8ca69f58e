use Rattle.std.proofs.Common.{◌≡◌, ◌+◌, ◌^◌, ◌&&◌, ◌<◌, ◌∷◌, ◌++◌, [], List, length, IsTrue, true, nat_eq, nat_lt, refl, sym, subst, ap, ◌∙◌, arith}
use Rattle.std.specs.List.{list_all}
use Rattle.std.proofs.lemmas.List.{length-append}
use Rattle.vg_isa.specs.declared.isa.Parts.{Parts}
use Rattle.vg_isa.specs.declared.format.Format.{Format}
use Rattle.vg_isa.specs.declared.instr.Instr.{Instr}
use Rattle.vg_isa.specs.Declaration.{bits_of}
use Rattle.vg_isa.specs.Accepted.{is_instr}
use Rattle.vg_isa.proofs.Tests.{nat_lt-true}
use Rattle.vg_decode.proofs.Idle.{all_more, field_at, idle, one_kept, ranges_at}
use Rattle.vg_decode.proofs.described.numbered.Goals as goal

pub loop-k-preserved : goal.loop-k-preserved
loop-k-preserved c =
    let k = c.loop-k.k in
    let xs = c.loop-k.instrs.items in
    let new = c.in_ok-idle.field-0 in
    let pushed : c.push.new.self.items ≡ xs ++ new ∷ [] = c.in_ok-push.ensures.items in
    let same : new ≡ idle ((field_at 0, record { width = 9; number = k }) ∷ []) = c.in_ok-idle.ensures ∙ rw (c.field_at.ensures, c.of-in-loop-k.ensures, c.of.ensures) refl in
    let small : k < 512 = c.loop-k-test.true in
    let test : nat_lt k 512 ≡ true = nat_lt-true k 512 small in
    let fit : (nat_eq 9 (bits_of ((8, 0) ∷ [])) && nat_lt k (2 ^ 9)) ≡ true = test in
    let kept : (d : Parts) (f : Format) → d.formats ≡ f ∷ [] → ranges_at f 0 ≡ (8, 0) ∷ [] → IsTrue (list_all (is_instr d) c.push.new.self.items) = λ d f is ranges.
    let one : IsTrue (is_instr d new) = subst (λ (i : Instr). IsTrue (is_instr d i)) (sym same) (one_kept d f 0 8 0 9 k is ranges fit) in
    subst (λ (is : List Instr). IsTrue (list_all (is_instr d) is)) (sym pushed) (all_more (is_instr d) xs new (c.loop-k.invariant.1 d f is ranges) one) in
    (ap length pushed ∙ length-append xs (new ∷ []) ∙ ap (λ n. n + 1) c.loop-k.invariant.0, kept)
