use Rattle.std.proofs.Common.{◌≡◌, ℕ, ◌<◌, ◌⊎◌, inl, inr, List, [], ◌∷◌, ◌++◌, Option, Some, None, length, refl, sym, ap, ◌∙◌, subst, rules}
use Rattle.std.proofs.lemmas.Option.{none-some}
use Rattle.vg_graph.specs.Node.{IsIn}
use Rattle.vg_graph.proofs.Gets.{nil-In}
use Rattle.vg_norm.specs.Images.{AreNodes, IsAdvanced, IsDone}
use Rattle.vg_graph.specs.Order.{IsPath}
use Rattle.vg_graph.proofs.PathLemmas.{path_before, path_on}
use Rattle.vg_norm.proofs.VisitLemmas.{found_popped, found_pushed, image_read, less_left, less_stacked, more_entered, more_itself, more_trans, never_opened, nodes_popped, nodes_pushed, operand_below, read_image, under_popped, under_pushed, visit_entered, visit_of, walk_of}
use Rattle.vg_norm.proofs.visit.Visit.image.Goals as goal

pub advance-requires-clause-within : goal.advance-requires-clause-within
advance-requires-clause-within c = (nodes_popped c.args.g.now c.loop-n.stack.items c.pop.new.self.items c.in-Some.n c.loop-n.invariant.nodes c.in-Some.ensures.items).1

pub loop-n-init : goal.loop-n-init
loop-n-init c =
    let g = c.args.g.now in
    let root = c.args.root in
    let stack : c.push.new.self.items ≡ c.args.root ∷ [] = c.in_ok-push.ensures.items ∙ ap (λ (ns : List ℕ). ns ++ c.args.root ∷ []) c.new-stack.ensures.items in
    record {
      visit = walk_of g c.args.self.now c.requires.visit;
      under = λ k at. inl (c.requires.visit.settled k at);
      path = subst (λ (ns : List ℕ). IsPath g.nodes ns) (sym stack) tt;
      more = more_itself c.args.self.now;
      nodes = subst (λ (ns : List ℕ). AreNodes g ns) (sym stack) (nodes_pushed g [] root (λ m among. absurd (nil-In m among)) c.requires.within);
      found = inr (subst (λ (ns : List ℕ). IsIn ns root) (sym stack) (0, refl));
    }

pub enter-requires : goal.enter-requires
enter-requires c =
    let g = c.args.g.now in
    let inv = c.loop-n.invariant in
    let n = c.in-Some.n in
    let k = c.in-Some-waiting.k in
    let waits : IsAdvanced g n c.advance.new.self (Some k) = subst (λ (o : Option ℕ). IsAdvanced g n c.advance.new.self o) c.in-Some-waiting.is c.in_ok-waiting.ensures.advanced in
    never_opened g c.loop-n.self c.advance.new.self c.loop-n.stack.items c.pop.new.self.items n k c.requires.graph c.in_ok-waiting.ensures.visit c.in_ok-waiting.ensures.more inv.under inv.path
    c.in_ok-waiting.ensures.opened c.in-Some.ensures.items waits.0 waits.1

pub loop-n-smaller-in-Continue-branch-4 : goal.loop-n-smaller-in-Continue-branch-4
loop-n-smaller-in-Continue-branch-4 c =
    let g = c.args.g.now in
    let inv = c.loop-n.invariant in
    let n = c.in-Some.n in
    let k = c.in-Some-waiting.k in
    let waits : IsAdvanced g n c.advance.new.self (Some k) = subst (λ (o : Option ℕ). IsAdvanced g n c.advance.new.self o) c.in-Some-waiting.is c.in_ok-waiting.ensures.advanced in
    let was = never_opened g c.loop-n.self c.advance.new.self c.loop-n.stack.items c.pop.new.self.items n k c.requires.graph c.in_ok-waiting.ensures.visit c.in_ok-waiting.ensures.more inv.under inv.path
    c.in_ok-waiting.ensures.opened c.in-Some.ensures.items waits.0 waits.1 in
    less_left c.loop-n.self.opened.items c.advance.new.self.opened.items c.enter.new.self.opened.items c.loop-n.stack.items c.pop.new.self.items c.push-in-Some-waiting.new.self.items c.push-in-Some-waiting-2.new.self.items n k
    c.in_ok-waiting.ensures.opened was c.enter.ensures.opened c.in-Some.ensures.items c.in_ok-push-2.ensures.items c.in_ok-push-3.ensures.items

pub loop-n-preserved-in-Continue-branch-4 : goal.loop-n-preserved-in-Continue-branch-4
loop-n-preserved-in-Continue-branch-4 c =
    let g = c.args.g.now in
    let v = c.advance.new.self in
    let w = c.enter.new.self in
    let inv = c.loop-n.invariant in
    let stack = c.loop-n.stack.items in
    let rest = c.pop.new.self.items in
    let once = c.push-in-Some-waiting.new.self.items in
    let twice = c.push-in-Some-waiting-2.new.self.items in
    let n = c.in-Some.n in
    let k = c.in-Some-waiting.k in
    let waits : IsAdvanced g n v (Some k) = subst (λ (o : Option ℕ). IsAdvanced g n v o) c.in-Some-waiting.is c.in_ok-waiting.ensures.advanced in
    let entered = more_entered v w c.enter.ensures.fresh c.enter.ensures.images in
    let went = more_trans c.loop-n.self v w c.in_ok-waiting.ensures.more entered in
    let popped = nodes_popped g stack rest n inv.nodes c.in-Some.ensures.items in
    let below : k < length g.nodes = operand_below g n k c.requires.graph waits.0 in
    let inside : k < length v.opened.items = subst (λ (count : ℕ). k < count) (sym c.in_ok-waiting.ensures.visit.open_nodes) below in
    let nodes : AreNodes g once = subst (λ (ns : List ℕ). AreNodes g ns) (sym c.in_ok-push-2.ensures.items) (nodes_pushed g rest n popped.0 popped.1) in
    let way : IsPath g.nodes (rest ++ n ∷ []) = subst (λ (ns : List ℕ). IsPath g.nodes ns) c.in-Some.ensures.items inv.path in
    let on : twice ≡ (rest ++ n ∷ []) ++ k ∷ [] = c.in_ok-push-3.ensures.items ∙ ap (λ (ns : List ℕ). ns ++ k ∷ []) c.in_ok-push-2.ensures.items in
    record {
      visit = visit_entered g v w k c.in_ok-waiting.ensures.visit c.enter.ensures.fresh c.enter.ensures.images c.enter.ensures.opened;
      under = under_pushed c.loop-n.self v w stack rest once twice n k inside went inv.under c.in_ok-waiting.ensures.opened c.enter.ensures.opened c.in-Some.ensures.items c.in_ok-push-2.ensures.items c.in_ok-push-3.ensures.items;
      path = subst (λ (ns : List ℕ). IsPath g.nodes ns) (sym on) (path_on g.nodes rest n k way waits.0);
      more = more_trans c.args.self.now c.loop-n.self w inv.more went;
      nodes = subst (λ (ns : List ℕ). AreNodes g ns) (sym c.in_ok-push-3.ensures.items) (nodes_pushed g once k nodes below);
      found = found_pushed c.loop-n.self w stack rest once twice c.args.root n k went inv.found c.in-Some.ensures.items c.in_ok-push-2.ensures.items c.in_ok-push-3.ensures.items;
    }

pub loop-n-smaller : goal.loop-n-smaller
loop-n-smaller c = less_stacked c.loop-n.self.opened.items c.advance.new.self.opened.items c.loop-n.stack.items c.pop.new.self.items c.in-Some.n c.in_ok-waiting.ensures.opened c.in-Some.ensures.items

pub loop-n-preserved : goal.loop-n-preserved
loop-n-preserved c =
    let g = c.args.g.now in
    let v = c.advance.new.self in
    let inv = c.loop-n.invariant in
    let n = c.in-Some.n in
    let none : c.in_ok-waiting.waiting ≡ None = search rules in
    let done : IsDone v.images.items n = subst (λ (o : Option ℕ). IsAdvanced g n v o) none c.in_ok-waiting.ensures.advanced in
    record {
      visit = c.in_ok-waiting.ensures.visit;
      under = under_popped c.loop-n.self v c.loop-n.stack.items c.pop.new.self.items n c.in_ok-waiting.ensures.more inv.under c.in_ok-waiting.ensures.opened c.in-Some.ensures.items done;
      path = path_before g.nodes c.pop.new.self.items n (subst (λ (ns : List ℕ). IsPath g.nodes ns) c.in-Some.ensures.items inv.path);
      more = more_trans c.args.self.now c.loop-n.self v inv.more c.in_ok-waiting.ensures.more;
      nodes = (nodes_popped g c.loop-n.stack.items c.pop.new.self.items n inv.nodes c.in-Some.ensures.items).0;
      found = found_popped c.loop-n.self v c.loop-n.stack.items c.pop.new.self.items c.args.root n c.in_ok-waiting.ensures.more inv.found c.in-Some.ensures.items done;
    }

pub unreachable-requires : goal.unreachable-requires
unreachable-requires c =
    let empty : c.loop-n.stack.items ≡ [] = search rules in
    none_left c.loop-n.invariant.found empty
  where
    none_left : IsDone c.loop-n.self.images.items c.args.root ⊎ IsIn c.loop-n.stack.items c.args.root → c.loop-n.stack.items ≡ [] → ⊥
    none_left (inl done) empty = none-some done.0 (sym c.in-None.is ∙ image_read c.loop-n.self.images.items c.args.root done.0 c.index.result.now c.index.ensures done.1)
    none_left (inr among) empty = nil-In c.args.root (subst (λ (ns : List ℕ). IsIn ns c.args.root) empty among)

pub returns-clause-image : goal.returns-clause-image
returns-clause-image c =
    let visit = c.loop-n.invariant.visit in
    let inside : c.args.root < length c.loop-n.self.images.items = subst (λ (count : ℕ). c.args.root < count) (sym visit.images) c.requires.within in
    visit.each c.args.root c.in-Some-index.j (read_image c.loop-n.self.images.items c.args.root c.in-Some-index.j c.index.result.now inside c.index.ensures c.in-Some-index.is)

pub returns-clause-visit : goal.returns-clause-visit
returns-clause-visit c =
    let empty : c.loop-n.stack.items ≡ [] = search rules in
    visit_of c.args.g.now c.loop-n.self c.loop-n.stack.items c.loop-n.invariant.visit c.loop-n.invariant.under empty
