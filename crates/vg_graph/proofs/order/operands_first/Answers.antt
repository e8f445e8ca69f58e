use Rattle.std.proofs.Common.{◌≡◌, ℕ, ◌+◌, ◌*◌, ◌<◌, ◌⊎◌, Bool, true, false, List, [], ◌∷◌, ◌++◌, length, set, Option, Some, None, sym, ap, ◌∙◌, subst, rules}
use Rattle.std.specs.Prelude.{slice_get}
use Rattle.std.proofs.lemmas.List.{length-set}
use Rattle.vg_graph.specs.Node.{AllBelow, IsIn, args_of}
use Rattle.vg_graph.specs.Tree.{IsOperand}
use Rattle.vg_graph.specs.Order.{AreWithin, IsListing, IsMarked, IsOnTheWay, IsPath, first_unmarked_in, unmarked}
use Rattle.vg_graph.proofs.OrderLemmas.{args_within, found_popped, found_pushed, less_opened, listing_more, never_opened, none_waits, operand_within, waits_for, way_popped, way_pushed, within_popped, within_pushed}
use Rattle.vg_graph.proofs.PathLemmas.{path_before, path_on}
use Rattle.vg_graph.proofs.order.operands_first.Goals as goal

pub node_at-requires : goal.node_at-requires
node_at-requires c = (within_popped c.args.nodes.now c.loop-n.stack.items c.pop.new.self.items c.in-Some.n c.loop-n.invariant.within c.in-Some.ensures.items).1

pub first_unmarked-waiting-requires : goal.first_unmarked-waiting-requires
first_unmarked-waiting-requires c =
    let nodes = c.args.nodes.now in
    let within = (within_popped nodes c.loop-n.stack.items c.pop.new.self.items c.in-Some.n c.loop-n.invariant.within c.in-Some.ensures.items).1 in
    subst (λ (count : ℕ). AllBelow count (args_of c.node_at.result.now)) (sym (ap length c.as_slice.ensures.value ∙ c.loop-n.invariant.listing.count))
    (args_within nodes c.in-Some.n c.node_at.result.now c.requires.trees within c.node_at.ensures)

pub mark-requires : goal.mark-requires
mark-requires c =
    let nodes = c.args.nodes.now in
    let inv = c.loop-n.invariant in
    let n = c.in-Some.n in
    let k = c.in-Some-waiting.k in
    let within = (within_popped nodes c.loop-n.stack.items c.pop.new.self.items n inv.within c.in-Some.ensures.items).1 in
    let found : first_unmarked_in c.loop-n.placed.items (args_of c.node_at.result.now) ≡ Some k = ap (λ (marks : List Bool). first_unmarked_in marks (args_of c.node_at.result.now)) (sym c.as_slice.ensures.value) ∙ sym c.first_unmarked-waiting.ensures ∙ c.in-Some-waiting.is in
    let waits = waits_for nodes c.loop-n.placed.items n c.node_at.result.now k c.requires.trees inv.listing.count within c.node_at.ensures found in
    let tree = c.requires.trees n within in
    subst (λ (count : ℕ). k < count) (sym inv.count) (operand_within nodes n k tree.0 tree.1 waits.0)

pub loop-n-smaller-in-Some-waiting : goal.loop-n-smaller-in-Some-waiting
loop-n-smaller-in-Some-waiting c =
    let nodes = c.args.nodes.now in
    let inv = c.loop-n.invariant in
    let opened = c.loop-n.opened.items in
    let stack = c.loop-n.stack.items in
    let rest = c.pop.new.self.items in
    let twice = c.push-in-Some-waiting-2.new.self.items in
    let n = c.in-Some.n in
    let k = c.in-Some-waiting.k in
    let within = (within_popped nodes stack rest n inv.within c.in-Some.ensures.items).1 in
    let found : first_unmarked_in c.loop-n.placed.items (args_of c.node_at.result.now) ≡ Some k = ap (λ (marks : List Bool). first_unmarked_in marks (args_of c.node_at.result.now)) (sym c.as_slice.ensures.value) ∙ sym c.first_unmarked-waiting.ensures ∙ c.in-Some-waiting.is in
    let waits = waits_for nodes c.loop-n.placed.items n c.node_at.result.now k c.requires.trees inv.listing.count within c.node_at.ensures found in
    let tree = c.requires.trees n within in
    let below : k < length nodes = operand_within nodes n k tree.0 tree.1 waits.0 in
    let was = never_opened nodes c.loop-n.placed.items opened stack rest n k c.requires.trees below inv.count inv.way inv.path c.in-Some.ensures.items waits.0 waits.1 in
    subst (λ (marks : List Bool). 3 * unmarked marks + length twice < 3 * unmarked opened + length stack) (sym c.mark.ensures)
    (less_opened opened stack rest c.push-in-Some-waiting.new.self.items twice n k was c.in-Some.ensures.items c.in_ok-push-2.ensures.items c.in_ok-push-3.ensures.items)

pub loop-n-preserved-in-Some-waiting : goal.loop-n-preserved-in-Some-waiting
loop-n-preserved-in-Some-waiting c =
    let nodes = c.args.nodes.now in
    let inv = c.loop-n.invariant in
    let placed = c.loop-n.placed.items in
    let opened = c.loop-n.opened.items in
    let stack = c.loop-n.stack.items in
    let rest = c.pop.new.self.items in
    let once = c.push-in-Some-waiting.new.self.items in
    let twice = c.push-in-Some-waiting-2.new.self.items in
    let n = c.in-Some.n in
    let k = c.in-Some-waiting.k in
    let popped = within_popped nodes stack rest n inv.within c.in-Some.ensures.items in
    let found : first_unmarked_in placed (args_of c.node_at.result.now) ≡ Some k = ap (λ (marks : List Bool). first_unmarked_in marks (args_of c.node_at.result.now)) (sym c.as_slice.ensures.value) ∙ sym c.first_unmarked-waiting.ensures ∙ c.in-Some-waiting.is in
    let waits = waits_for nodes placed n c.node_at.result.now k c.requires.trees inv.listing.count popped.1 c.node_at.ensures found in
    let tree = c.requires.trees n popped.1 in
    let below : k < length nodes = operand_within nodes n k tree.0 tree.1 waits.0 in
    let nodes_once : AreWithin nodes once = subst (λ (ns : List ℕ). AreWithin nodes ns) (sym c.in_ok-push-2.ensures.items) (within_pushed nodes rest n popped.0 popped.1) in
    let way : IsPath nodes (rest ++ n ∷ []) = subst (λ (ns : List ℕ). IsPath nodes ns) c.in-Some.ensures.items inv.path in
    let on : twice ≡ (rest ++ n ∷ []) ++ k ∷ [] = c.in_ok-push-3.ensures.items ∙ ap (λ (ns : List ℕ). ns ++ k ∷ []) c.in_ok-push-2.ensures.items in
    record {
      listing = inv.listing;
      count = ap length c.mark.ensures ∙ length-set opened k true ∙ inv.count;
      way =
          subst (λ (marks : List Bool). IsOnTheWay placed marks twice) (sym c.mark.ensures)
          (way_pushed placed opened stack rest once twice n k inv.way c.in-Some.ensures.items c.in_ok-push-2.ensures.items c.in_ok-push-3.ensures.items);
      path = subst (λ (ns : List ℕ). IsPath nodes ns) (sym on) (path_on nodes rest n k way waits.0);
      within = subst (λ (ns : List ℕ). AreWithin nodes ns) (sym c.in_ok-push-3.ensures.items) (within_pushed nodes once k nodes_once below);
      found = found_pushed placed stack rest once twice c.args.root n k inv.found c.in-Some.ensures.items c.in_ok-push-2.ensures.items c.in_ok-push-3.ensures.items;
    }

pub mark-requires-in-Some : goal.mark-requires-in-Some
mark-requires-in-Some c =
    let nodes = c.args.nodes.now in
    let inv = c.loop-n.invariant in
    let within = (within_popped nodes c.loop-n.stack.items c.pop.new.self.items c.in-Some.n inv.within c.in-Some.ensures.items).1 in
    subst (λ (count : ℕ). c.in-Some.n < count) (sym inv.listing.count) within

pub loop-n-preserved : goal.loop-n-preserved
loop-n-preserved c =
    let nodes = c.args.nodes.now in
    let inv = c.loop-n.invariant in
    let placed = c.loop-n.placed.items in
    let stack = c.loop-n.stack.items in
    let rest = c.pop.new.self.items in
    let n = c.in-Some.n in
    let popped = within_popped nodes stack rest n inv.within c.in-Some.ensures.items in
    let inside : n < length placed = subst (λ (count : ℕ). n < count) (sym inv.listing.count) popped.1 in
    let none : c.first_unmarked-waiting.result ≡ None = search rules in
    let found : first_unmarked_in placed (args_of c.node_at.result.now) ≡ None = ap (λ (marks : List Bool). first_unmarked_in marks (args_of c.node_at.result.now)) (sym c.as_slice.ensures.value) ∙ sym c.first_unmarked-waiting.ensures ∙ none in
    let all = none_waits nodes placed n c.node_at.result.now c.requires.trees inv.listing.count popped.1 c.node_at.ensures found in
    record {
      listing =
          subst (λ (ns : List ℕ). IsListing nodes ns c.mark-in-Some.new.marks.items) (sym c.in_ok-push-4.ensures.items)
          (subst (λ (marks : List Bool). IsListing nodes (c.loop-n.order.items ++ n ∷ []) marks) (sym c.mark-in-Some.ensures)
          (listing_more nodes c.loop-n.order.items placed n c.node_at.result.now inv.listing c.node_at.ensures all));
      count = inv.count;
      way =
          subst (λ (marks : List Bool). IsOnTheWay marks c.loop-n.opened.items rest) (sym c.mark-in-Some.ensures)
          (way_popped placed c.loop-n.opened.items stack rest n inside inv.way c.in-Some.ensures.items);
      path = path_before nodes rest n (subst (λ (ns : List ℕ). IsPath nodes ns) c.in-Some.ensures.items inv.path);
      within = popped.0;
      found =
          subst (λ (marks : List Bool). IsMarked marks c.args.root ⊎ IsIn rest c.args.root) (sym c.mark-in-Some.ensures)
          (found_popped placed stack rest c.args.root n inside inv.found c.in-Some.ensures.items);
    }
