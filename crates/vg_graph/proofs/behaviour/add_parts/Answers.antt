use Rattle.std.proofs.Common.{◌≡◌, ℕ, ◌+◌, ◌<◌, ◌≤◌, List, [], ◌∷◌, ◌++◌, length, take, get_or, Option, Some, IsTrue, sym, ap, ◌∙◌, subst, arith}
use Rattle.std.specs.Prelude.{slice_get}
use Rattle.std.proofs.lemmas.List.{take_all, take_more}
use Rattle.std.proofs.lemmas.Option.{slice_get-get_or}
use Rattle.vg_isa.specs.declared.isa.Parts.{Parts}
use Rattle.vg_isa.specs.declared.instr.Write.{Write}
use Rattle.vg_isa.specs.Accepted.{is_next}
use Rattle.vg_isa.specs.Typing.{is_write}
use Rattle.vg_isa.proofs.Kept.{kept_instr, write_typed}
use Rattle.vg_graph.specs.declared.roots.WriteRoots.{WriteRoots}
use Rattle.vg_graph.specs.Behaviour.{AreWritesAt}
use Rattle.vg_graph.proofs.BuildLemmas.{Extends-trans}
use Rattle.vg_graph.proofs.BehaviourLemmas.{parts_stand, writes_extended, writes_pushed}
use Rattle.vg_graph.proofs.behaviour.add_parts.Goals as goal

pub add_write-requires : goal.add_write-requires
add_write-requires c =
    let i = c.loop-write.write-index in
    let xs = c.as_slice-write-items.result.now in
    let item = c.write-item.result in
    let within : i < length xs = c.loop-write-test.true in
    let at : slice_get c.args.instr.now.writes i ≡ Some item =
    ap (λ (ys : List Write). slice_get ys i) (sym c.as_slice-write-items.ensures) ∙ slice_get-get_or xs i item within ∙ ap Some (sym c.write-item.is) in
    subst (λ (d : Parts). IsTrue (is_write d item)) (sym c.loop-write.invariant.extends.isa)
    (write_typed c.args.graph.now.isa c.args.instr.now i item c.requires at)

pub loop-write-preserved : goal.loop-write-preserved
loop-write-preserved c =
    let i = c.loop-write.write-index in
    let xs = c.as_slice-write-items.result.now in
    let item = c.write-item.result in
    let g1 = c.loop-write.graph in
    let g2 = c.add_write.new.graph in
    let more = c.in_ok-roots.ensures.extends in
    let within : i < length xs = c.loop-write-test.true in
    let step : take (i + 1) xs ≡ take i xs ++ item ∷ [] = take_more xs i item within ∙ ap (λ (y : Write). take i xs ++ y ∷ []) (sym c.write-item.is) in
    let before : AreWritesAt g1.nodes c.loop-write.writes.items (take i xs) = subst (λ (ys : List Write). AreWritesAt g1.nodes c.loop-write.writes.items (take i ys)) (sym c.as_slice-write-items.ensures) c.loop-write.invariant.stand in
    let now : AreWritesAt g2.nodes (c.loop-write.writes.items ++ c.in_ok-roots.roots ∷ []) (take i xs ++ item ∷ []) =
    writes_pushed g2.nodes c.loop-write.writes.items (take i xs) c.in_ok-roots.roots item (writes_extended g1 g2 c.loop-write.writes.items (take i xs) more before) c.in_ok-roots.ensures.stands in
    record {
      extends = Extends-trans c.args.graph.now g1 g2 c.loop-write.invariant.extends more;
      stand =
          subst (λ (ys : List Write). AreWritesAt g2.nodes c.push.new.self.items (take (i + 1) ys)) c.as_slice-write-items.ensures
          (subst (λ (ys : List Write). AreWritesAt g2.nodes c.push.new.self.items ys) (sym step)
          (subst (λ (ws : List WriteRoots). AreWritesAt g2.nodes ws (take i xs ++ item ∷ [])) (sym c.in_ok-push.ensures.items) now));
    }

pub add_next-requires : goal.add_next-requires
add_next-requires c =
    subst (λ (d : Parts). IsTrue (is_next d c.args.instr.now.next)) (sym c.loop-write.invariant.extends.isa)
    (kept_instr c.args.graph.now.isa c.args.instr.now c.requires).next

pub returns-clause-stand : goal.returns-clause-stand
returns-clause-stand c =
    let i = c.loop-write.write-index in
    let xs = c.as_slice-write-items.result.now in
    let ys = c.args.instr.now.writes in
    let g1 = c.loop-write.graph in
    let g2 = c.add_next.new.graph in
    let past : length xs ≤ i = c.loop-write-test.false in
    let all : take i xs ≡ xs = take_all i xs past in
    let whole : take i ys ≡ ys = subst (λ (zs : List Write). take i zs ≡ zs) c.as_slice-write-items.ensures all in
    let before : AreWritesAt g1.nodes c.loop-write.writes.items ys = subst (λ (zs : List Write). AreWritesAt g1.nodes c.loop-write.writes.items zs) whole c.loop-write.invariant.stand in
    let now : AreWritesAt g2.nodes c.loop-write.writes.items ys = writes_extended g1 g2 c.loop-write.writes.items ys c.in_ok-next.ensures.extends before in
    parts_stand g2.nodes (record { writes = c.from_vec.result; next = c.in_ok-next.next }) c.args.instr.now
    (subst (λ (ws : List WriteRoots). AreWritesAt g2.nodes ws ys) (sym c.from_vec.ensures) now) c.in_ok-next.ensures.stands

pub returns-clause-extends : goal.returns-clause-extends
returns-clause-extends c = Extends-trans c.args.graph.now c.loop-write.graph c.add_next.new.graph c.loop-write.invariant.extends c.in_ok-next.ensures.extends
