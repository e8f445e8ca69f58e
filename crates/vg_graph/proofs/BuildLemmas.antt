-- How the nodes of a tree are made.
use Rattle.std.proofs.Common.{◌≡◌, ◌≢◌, ℕ, zero, suc, ◌+◌, ◌*◌, ◌<◌, ◌≤◌, ◌⊎◌, inl, inr, IsTrue, List, [], ◌∷◌, ◌++◌, append_assoc, length, map, Option, Some, None, refl, sym, ap, ◌∙◌, subst, arith}
use Rattle.std.specs.Prelude.{slice_get, sum_by}
use Rattle.std.proofs.lemmas.List.Sums.{sum_by-cons}
use Rattle.vg_bits.specs.BitValue.{BitValue}
use Rattle.vg_isa.specs.declared.isa.Parts.{Parts}
use Rattle.vg_isa.specs.declared.expr.Expr.{Expr, fold-Expr, fold-roll-Expr, fold_out-Expr, map-Expr, out-Expr, out-roll-Expr, roll-Expr, roll-out-Expr}
use Rattle.vg_isa.specs.declared.expr.Expr.TheOpen.{Expr-F}
use Rattle.vg_isa.specs.declared.expr.Expr.TheVariants.{Const, Field, Pc, Reg, Mem, Unary, Binary, Cast, Slice, Join, If, outs-Const, outs-Field, outs-Pc, outs-Reg, outs-Mem, outs-Unary, outs-Binary, outs-Cast, outs-Slice, outs-Join, outs-If}
use Rattle.vg_isa.specs.declared.ids.FieldId.{FieldId}
use Rattle.vg_isa.specs.declared.ids.RegId.{RegId}
use Rattle.vg_isa.specs.declared.operator.UnOp.{UnOp}
use Rattle.vg_isa.specs.declared.operator.BinOp.{BinOp}
use Rattle.vg_isa.specs.declared.operator.CastOp.{CastOp}
use Rattle.vg_graph.specs.declared.task.Task.{Task}
use Rattle.vg_isa.specs.Typing.{Typing, is_typed, typing_of, typing_step}
use Rattle.vg_isa.proofs.Tests.{both}
use Rattle.std.proofs.lemmas.List.{length-append}
use Rattle.vg_graph.specs.declared.operands.Operands.{Operands}
use Rattle.vg_graph.specs.declared.operands.Operands.TheVariants.{Zero, One, Two, Three}
use Rattle.vg_graph.specs.declared.node.Node.{Node}
use Rattle.vg_graph.specs.Node.{AllBelow, IsIn, args_of, node_of, numbers_of, operands_in}
use Rattle.vg_graph.specs.Tree.{IsTree, over}
use Rattle.vg_graph.specs.Graph.{GraphValue, IsAdded, IsFit, IsShared}
use Rattle.vg_graph.proofs.Gets.{gets-end, gets-pushed}
use Rattle.vg_graph.proofs.LevelLemmas.{operands_in-map}
use Rattle.vg_graph.proofs.TreeLemmas.{choose, tree_stays, tree_unique, tree_within}
use Rattle.vg_graph.specs.Building.{AreTyped, Extends, StandAll, op_in, Step, enter, leave, IsReady, entering, from_top, operands_of, step_of, weight_of, size_of}

-- the steps of a tree, one equation for each way to make one

pub entering-Const : (b : BitValue) → entering (Const b) ≡ leave (Const b) ∷ []
entering-Const b = ap (λ (x : Expr-F Expr). map enter (operands_in x) ++ leave (Const b) ∷ []) (outs-Const b)

pub entering-Field : (f : FieldId) → entering (Field f) ≡ leave (Field f) ∷ []
entering-Field f = ap (λ (x : Expr-F Expr). map enter (operands_in x) ++ leave (Field f) ∷ []) (outs-Field f)

pub entering-Pc : entering Pc ≡ leave Pc ∷ []
entering-Pc = ap (λ (x : Expr-F Expr). map enter (operands_in x) ++ leave Pc ∷ []) (outs-Pc)

pub entering-Reg_single : (r : RegId) → entering (Reg r None) ≡ leave (Reg r None) ∷ []
entering-Reg_single r = ap (λ (x : Expr-F Expr). map enter (operands_in x) ++ leave (Reg r None) ∷ []) (outs-Reg r None)

pub entering-Reg : (r : RegId) (a : Expr) → entering (Reg r (Some a)) ≡ enter a ∷ leave (Reg r (Some a)) ∷ []
entering-Reg r a = ap (λ (x : Expr-F Expr). map enter (operands_in x) ++ leave (Reg r (Some a)) ∷ []) (outs-Reg r (Some a))

pub entering-Mem : (a : Expr) (bytes : ℕ) → entering (Mem a bytes) ≡ enter a ∷ leave (Mem a bytes) ∷ []
entering-Mem a bytes = ap (λ (x : Expr-F Expr). map enter (operands_in x) ++ leave (Mem a bytes) ∷ []) (outs-Mem a bytes)

pub entering-Unary : (o : UnOp) (a : Expr) → entering (Unary o a) ≡ enter a ∷ leave (Unary o a) ∷ []
entering-Unary o a = ap (λ (x : Expr-F Expr). map enter (operands_in x) ++ leave (Unary o a) ∷ []) (outs-Unary o a)

pub entering-Binary : (o : BinOp) (a b : Expr) → entering (Binary o a b) ≡ enter a ∷ enter b ∷ leave (Binary o a b) ∷ []
entering-Binary o a b = ap (λ (x : Expr-F Expr). map enter (operands_in x) ++ leave (Binary o a b) ∷ []) (outs-Binary o a b)

pub entering-Cast : (o : CastOp) (width : ℕ) (a : Expr) → entering (Cast o width a) ≡ enter a ∷ leave (Cast o width a) ∷ []
entering-Cast o width a = ap (λ (x : Expr-F Expr). map enter (operands_in x) ++ leave (Cast o width a) ∷ []) (outs-Cast o width a)

pub entering-Slice : (a : Expr) (high low : ℕ) → entering (Slice a high low) ≡ enter a ∷ leave (Slice a high low) ∷ []
entering-Slice a high low = ap (λ (x : Expr-F Expr). map enter (operands_in x) ++ leave (Slice a high low) ∷ []) (outs-Slice a high low)

pub entering-Join : (a b : Expr) → entering (Join a b) ≡ enter a ∷ enter b ∷ leave (Join a b) ∷ []
entering-Join a b = ap (λ (x : Expr-F Expr). map enter (operands_in x) ++ leave (Join a b) ∷ []) (outs-Join a b)

pub entering-If : (c a b : Expr) → entering (If c a b) ≡ enter c ∷ enter a ∷ enter b ∷ leave (If c a b) ∷ []
entering-If c a b = ap (λ (x : Expr-F Expr). map enter (operands_in x) ++ leave (If c a b) ∷ []) (outs-If c a b)

-- one task more on the stack
pub from_top-pushed : (tasks : List Task) (task : Task) (steps : List Step) → from_top (tasks ++ task ∷ []) steps ≡ step_of task ∷ from_top tasks steps
from_top-pushed [] task steps = refl
from_top-pushed (t ∷ tasks) task steps = from_top-pushed tasks task (step_of t ∷ steps)

pub ruleset enterings = (from_top-pushed, entering-Const, entering-Field, entering-Pc, entering-Reg_single, entering-Reg, entering-Mem, entering-Unary, entering-Binary, entering-Cast, entering-Slice, entering-Join, entering-If)

-- going into operands, one after the other
ready_operands : (ops : List Expr) (steps : List Step) (done out : List Expr) → IsReady steps (done ++ ops) out → IsReady (map enter ops ++ steps) done out
ready_operands [] steps done out ready = subst (λ (d : List Expr). IsReady steps d out) (append-nil done) ready
  where
    append-nil : (xs : List Expr) → xs ++ [] ≡ xs
    append-nil [] = refl
    append-nil (x ∷ xs) = ap (λ (ys : List Expr). x ∷ ys) (append-nil xs)
ready_operands (o ∷ ops) steps done out ready = ready_operands ops steps (done ++ o ∷ []) out (subst (λ (d : List Expr). IsReady steps d out) (sym (append_assoc done (o ∷ []) ops)) ready)

-- a tree is gone into
pub ready_enter : (e : Expr) (steps : List Step) (done out : List Expr) → IsReady (enter e ∷ steps) done out → IsReady (entering e ++ steps) done out
ready_enter e steps done out ready =
    subst (λ (s : List Step). IsReady s done out) (sym (append_assoc (map enter (operands_of e)) (leave e ∷ []) steps))
    (ready_operands (operands_of e) (leave e ∷ steps) done out (done, refl, ready))

-- ---- how much is left

weight-append : (xs ys : List Step) → weight_of (xs ++ ys) ≡ weight_of xs + weight_of ys
weight-append [] ys = omega arith
weight-append (enter e ∷ xs) ys = let rest : weight_of (xs ++ ys) ≡ weight_of xs + weight_of ys = weight-append xs ys in omega arith
weight-append (leave e ∷ xs) ys = let rest : weight_of (xs ++ ys) ≡ weight_of xs + weight_of ys = weight-append xs ys in omega arith

weight-enters : (ops : List Expr) → weight_of (map enter ops) ≡ 2 * sum_by (λ (e : Expr). size_of e) ops
weight-enters [] = refl
weight-enters (o ∷ ops) =
    let rest : weight_of (map enter ops) ≡ 2 * sum_by (λ (e : Expr). size_of e) ops = weight-enters ops in
    let here : sum_by (λ (e : Expr). size_of e) (o ∷ ops) ≡ size_of o + sum_by (λ (e : Expr). size_of e) ops = sum_by-cons (λ (e : Expr). size_of e) o ops in
    omega arith

sizes : (x : Expr-F Expr) → sum_by (λ (n : ℕ). n) (operands_in (map-Expr Expr ℕ size_of x)) ≡ sum_by (λ (e : Expr). size_of e) (operands_in x)
sizes (Expr-F.Const b) = refl
sizes (Expr-F.Field f) = refl
sizes Expr-F.Pc = refl
sizes (Expr-F.Reg r None) = refl
sizes (Expr-F.Reg r (Some i)) = refl
sizes (Expr-F.Mem a bytes) = refl
sizes (Expr-F.Unary o a) = refl
sizes (Expr-F.Binary o a b) = refl
sizes (Expr-F.Cast o width a) = refl
sizes (Expr-F.Slice a high low) = refl
sizes (Expr-F.Join a b) = refl
sizes (Expr-F.If c a b) = refl

size-out : (e : Expr) → size_of e ≡ 1 + sum_by (λ (o : Expr). size_of o) (operands_of e)
size-out e = fold_out-Expr ℕ (λ (x : Expr-F ℕ). 1 + sum_by (λ (n : ℕ). n) (operands_in x)) e ∙ ap (λ (n : ℕ). 1 + n) (sizes (out-Expr e))

-- going into a tree leaves less to do
pub weight-entering : (e : Expr) (steps : List Step) → weight_of (entering e ++ steps) < weight_of (enter e ∷ steps)
weight-entering e steps =
    let whole : weight_of (entering e ++ steps) ≡ weight_of (entering e) + weight_of steps = weight-append (entering e) steps in
    let parts : weight_of (entering e) ≡ weight_of (map enter (operands_of e)) + weight_of (leave e ∷ []) = weight-append (map enter (operands_of e)) (leave e ∷ []) in
    let below : weight_of (map enter (operands_of e)) ≡ 2 * sum_by (λ (o : Expr). size_of o) (operands_of e) = weight-enters (operands_of e) in
    let size : size_of e ≡ 1 + sum_by (λ (o : Expr). size_of o) (operands_of e) = size-out e in
    omega arith

-- ---- the node of a tree over the nodes of its operands

-- the level that has these numbers as operands
record IsLevelOver (y : Expr-F Expr) (node : Node) : Type 0 where
  level : Expr-F ℕ
  node_is : node_of level ≡ node
  operands : operands_in level ≡ args_of node
  over_trees : (tree : ℕ → Expr) → map tree (operands_in level) ≡ operands_in y → map-Expr ℕ Expr tree level ≡ y

level_over : (y : Expr-F Expr) (args : Operands) → length (numbers_of args) ≡ length (operands_in y) → IsLevelOver y (record { op = op_in y; args = args })
level_over (Expr-F.Const b) Zero h = record { level = Expr-F.Const b; node_is = refl; operands = refl; over_trees = λ tree same. refl }
level_over (Expr-F.Field f) Zero h = record { level = Expr-F.Field f; node_is = refl; operands = refl; over_trees = λ tree same. refl }
level_over Expr-F.Pc Zero h = record { level = Expr-F.Pc; node_is = refl; operands = refl; over_trees = λ tree same. refl }
level_over (Expr-F.Reg r None) Zero h = record { level = Expr-F.Reg r None; node_is = refl; operands = refl; over_trees = λ tree same. refl }
level_over (Expr-F.Reg r (Some i)) (One a) h = record { level = Expr-F.Reg r (Some a); node_is = refl; operands = refl; over_trees = λ tree same. let one : tree a ≡ i = cc in λ j. Expr-F.Reg r (Some (one j)) }
level_over (Expr-F.Mem i bytes) (One a) h = record { level = Expr-F.Mem a bytes; node_is = refl; operands = refl; over_trees = λ tree same. let one : tree a ≡ i = cc in λ j. Expr-F.Mem (one j) bytes }
level_over (Expr-F.Unary o i) (One a) h = record { level = Expr-F.Unary o a; node_is = refl; operands = refl; over_trees = λ tree same. let one : tree a ≡ i = cc in λ j. Expr-F.Unary o (one j) }
level_over (Expr-F.Binary o x y) (Two a b) h = record { level = Expr-F.Binary o a b; node_is = refl; operands = refl; over_trees = λ tree same. let one : tree a ≡ x = cc in let two : tree b ≡ y = cc in λ j. Expr-F.Binary o (one j) (two j) }
level_over (Expr-F.Cast o width i) (One a) h = record { level = Expr-F.Cast o width a; node_is = refl; operands = refl; over_trees = λ tree same. let one : tree a ≡ i = cc in λ j. Expr-F.Cast o width (one j) }
level_over (Expr-F.Slice i high low) (One a) h = record { level = Expr-F.Slice a high low; node_is = refl; operands = refl; over_trees = λ tree same. let one : tree a ≡ i = cc in λ j. Expr-F.Slice (one j) high low }
level_over (Expr-F.Join x y) (Two a b) h = record { level = Expr-F.Join a b; node_is = refl; operands = refl; over_trees = λ tree same. let one : tree a ≡ x = cc in let two : tree b ≡ y = cc in λ j. Expr-F.Join (one j) (two j) }
level_over (Expr-F.If x y z) (Three a b c) h = record { level = Expr-F.If a b c; node_is = refl; operands = refl; over_trees = λ tree same. let one : tree a ≡ x = cc in let two : tree b ≡ y = cc in let three : tree c ≡ z = cc in λ j. Expr-F.If (one j) (two j) (three j) }
level_over _ _ h = absurd (omega arith)

-- ---- trees that stand at nodes, one by one

StandAll-lengths : (nodes : List Node) (ns : List ℕ) (es : List Expr) → StandAll nodes ns es → length ns ≡ length es
StandAll-lengths nodes [] [] all = refl
StandAll-lengths nodes [] (e ∷ es) all = absurd all
StandAll-lengths nodes (n ∷ ns) [] all = absurd all
StandAll-lengths nodes (n ∷ ns) (e ∷ es) all = ap suc (StandAll-lengths nodes ns es all.1)

StandAll-split : (nodes : List Node) (ms ns : List ℕ) (ds es : List Expr) → length ms ≡ length ds → StandAll nodes (ms ++ ns) (ds ++ es) → StandAll nodes ms ds × StandAll nodes ns es
StandAll-split nodes [] ns [] es same all = (tt, all)
StandAll-split nodes [] ns (d ∷ ds) es same all = absurd (omega arith)
StandAll-split nodes (m ∷ ms) ns [] es same all = absurd (omega arith)
StandAll-split nodes (m ∷ ms) ns (d ∷ ds) es same all = let rest = StandAll-split nodes ms ns ds es (omega arith) all.1 in ((all.0, rest.0), rest.1)

pub StandAll-pushed : (nodes : List Node) (ns : List ℕ) (es : List Expr) (n : ℕ) (e : Expr) → StandAll nodes ns es → IsTree nodes n e → StandAll nodes (ns ++ n ∷ []) (es ++ e ∷ [])
StandAll-pushed nodes [] [] n e all stands = (stands, tt)
StandAll-pushed nodes [] (d ∷ es) n e all stands = absurd all
StandAll-pushed nodes (m ∷ ns) [] n e all stands = absurd all
StandAll-pushed nodes (m ∷ ns) (d ∷ es) n e all stands = (all.0, StandAll-pushed nodes ns es n e all.1 stands)

pub StandAll-stays : (nodes more : List Node) (ns : List ℕ) (es : List Expr) → StandAll nodes ns es → StandAll (nodes ++ more) ns es
StandAll-stays nodes more [] [] all = tt
StandAll-stays nodes more [] (e ∷ es) all = absurd all
StandAll-stays nodes more (n ∷ ns) [] all = absurd all
StandAll-stays nodes more (n ∷ ns) (e ∷ es) all = (tree_stays nodes more n e all.0, StandAll-stays nodes more ns es all.1)

StandAll-below : (nodes : List Node) (ns : List ℕ) (es : List Expr) → StandAll nodes ns es → AllBelow (length nodes) ns
StandAll-below nodes [] es all = tt
StandAll-below nodes (n ∷ ns) [] all = absurd all
StandAll-below nodes (n ∷ ns) (e ∷ es) all = (tree_within nodes n e all.0, StandAll-below nodes ns es all.1)

-- trees at the numbers are those
StandAll-trees : (nodes : List Node) (ns : List ℕ) (es : List Expr) (tree : ℕ → Expr) → StandAll nodes ns es → ((k : ℕ) → IsIn ns k → IsTree nodes k (tree k)) → map tree ns ≡ es
StandAll-trees nodes [] [] tree all each = refl
StandAll-trees nodes [] (e ∷ es) tree all each = absurd all
StandAll-trees nodes (n ∷ ns) [] tree all each = absurd all
StandAll-trees nodes (n ∷ ns) (e ∷ es) tree all each =
    let first : tree n ≡ e = tree_unique nodes n (tree n) e (each n (0, refl)) all.0 in
    let rest : map tree ns ≡ es = StandAll-trees nodes ns es tree all.1 (λ k among. each k (suc among.0, among.1)) in
    λ i. first i ∷ rest i

-- the node of a tree over the nodes of its operands fits the graph
pub built_fits : (g : GraphValue) (e : Expr) (node : Node) → node.op ≡ op_in (out-Expr e) → StandAll g.nodes (args_of node) (operands_of e) → IsTrue (is_typed g.isa e) → IsFit g node
built_fits g e node op all typed =
    let l = level_over (out-Expr e) node.args (StandAll-lengths g.nodes (args_of node) (operands_of e) all) in
    let node_is : node_of l.level ≡ node = l.node_is ∙ (λ i. record { op = sym op i; args = node.args }) in
    record {
      level = l.level;
      is = sym node_is;
      within = StandAll-below g.nodes (args_of node) (operands_of e) all;
      typed = λ tree each.
          let trees : map tree (operands_in l.level) ≡ operands_of e =
          ap (λ (ns : List ℕ). map tree ns) l.operands ∙ StandAll-trees g.nodes (args_of node) (operands_of e) tree all (λ k among. each k (subst (λ (ns : List ℕ). IsIn ns k) (sym l.operands) among)) in
          let is : roll-Expr (map-Expr ℕ Expr tree l.level) ≡ e = ap roll-Expr (l.over_trees tree trees) ∙ roll-out-Expr e in
          subst (λ (x : Expr). IsTrue (is_typed g.isa x)) (sym is) typed;
    }

StandAll-each : (nodes : List Node) (ns : List ℕ) (es : List Expr) → StandAll nodes ns es → (k : ℕ) → IsIn ns k → (e : Expr) × IsTree nodes k e
StandAll-each nodes [] es all k (place, at) = absurd (let h : slice_get {X = ℕ} [] place ≡ Some k = at in cc)
StandAll-each nodes (n ∷ ns) [] all k among = absurd all
StandAll-each nodes (n ∷ ns) (e ∷ es) all k (zero, at) = let same : n ≡ k = cc in (e, subst (λ (m : ℕ). IsTree nodes m e) same all.0)
StandAll-each nodes (n ∷ ns) (e ∷ es) all k (suc place, at) = StandAll-each nodes ns es all.1 k (place, at)

-- the tree stands at its node
pub built_stands : (nodes : List Node) (e : Expr) (node : Node) (n : ℕ) → node.op ≡ op_in (out-Expr e) → (before : List Node) (more : List Node) → nodes ≡ before ++ more → StandAll before (args_of node) (operands_of e) → slice_get nodes n ≡ Some node → IsTree nodes n e
built_stands nodes e node n op before more extends all at =
    let l = level_over (out-Expr e) node.args (StandAll-lengths before (args_of node) (operands_of e) all) in
    let node_is : node_of l.level ≡ node = l.node_is ∙ (λ i. record { op = sym op i; args = node.args }) in
    let now : StandAll nodes (args_of node) (operands_of e) = subst (λ (ns : List Node). StandAll ns (args_of node) (operands_of e)) (sym extends) (StandAll-stays before more (args_of node) (operands_of e) all) in
    let f = choose (λ k x. IsTree nodes k x) (operands_in l.level) (λ k among. StandAll-each nodes (args_of node) (operands_of e) now k (subst (λ (ns : List ℕ). IsIn ns k) l.operands among)) in
    let trees : map f.0 (operands_in l.level) ≡ operands_of e =
    ap (λ (ns : List ℕ). map f.0 ns) l.operands ∙ StandAll-trees nodes (args_of node) (operands_of e) f.0 now (λ k among. f.1 k (subst (λ (ns : List ℕ). IsIn ns k) (sym l.operands) among)) in
    let is : roll-Expr (map-Expr ℕ Expr f.0 l.level) ≡ e = ap roll-Expr (l.over_trees f.0 trees) ∙ roll-out-Expr e in
    subst (λ (x : Expr). IsTree nodes n x) is (over n l.level f.0 (at ∙ ap Some (sym node_is)) f.1)

-- the last numbers are those of the operands
pub popped : (nodes : List Node) (items before ks : List ℕ) (rest ops : List Expr) → items ≡ before ++ ks → length ks ≡ length ops → StandAll nodes items (rest ++ ops) → StandAll nodes before rest × StandAll nodes ks ops
popped nodes items before ks rest ops is same all =
    let split : StandAll nodes (before ++ ks) (rest ++ ops) = subst (λ (ns : List ℕ). StandAll nodes ns (rest ++ ops)) is all in
    let whole : length (before ++ ks) ≡ length (rest ++ ops) = StandAll-lengths nodes (before ++ ks) (rest ++ ops) split in
    let left : length (before ++ ks) ≡ length before + length ks = length-append before ks in
    let right : length (rest ++ ops) ≡ length rest + length ops = length-append rest ops in
    StandAll-split nodes before ks rest ops (omega arith) split

-- there are as many numbers as operands
pub enough : (nodes : List Node) (items : List ℕ) (rest ops : List Expr) → StandAll nodes items (rest ++ ops) → length ops ≤ length items
enough nodes items rest ops all =
    let whole : length items ≡ length (rest ++ ops) = StandAll-lengths nodes items (rest ++ ops) all in
    let right : length (rest ++ ops) ≡ length rest + length ops = length-append rest ops in
    omega arith

-- at the end one number is left, at which the tree stands
pub last_stands : (nodes : List Node) (values before : List ℕ) (n : ℕ) (e : Expr) → values ≡ before ++ n ∷ [] → StandAll nodes values (e ∷ []) → IsTree nodes n e
last_stands nodes values before n e is all = at before (subst (λ (ns : List ℕ). StandAll nodes ns (e ∷ [])) is all)
  where
    at : (before : List ℕ) → StandAll nodes (before ++ n ∷ []) (e ∷ []) → IsTree nodes n e
    at [] all = all.0
    at (m ∷ []) all = absurd all.1
    at (m ∷ k ∷ ms) all = absurd all.1

-- the steps with one task taken from the top
pub taken_step : (items before : List Task) (task : Task) (s : Step) → items ≡ before ++ task ∷ [] → step_of task ≡ s → from_top items [] ≡ s ∷ from_top before []
taken_step items before task s is step = ap (λ (ts : List Task). from_top ts []) is ∙ from_top-pushed before task [] ∙ ap (λ (x : Step). x ∷ from_top before []) step

pub Extends-trans : (f g h : GraphValue) → Extends f g → Extends g h → Extends f h
Extends-trans f g h one two = record {
  more = one.more ++ two.more;
  isa = two.isa ∙ one.isa;
  nodes = two.nodes ∙ ap (λ (ns : List Node). ns ++ two.more) one.nodes ∙ append_assoc f.nodes one.more two.more;
  shared = λ shared. two.shared (one.shared shared);
}

-- ---- widths

-- each of these trees is typed
unfoldable pub AllTyped : Parts → List Expr → Type 0
AllTyped d [] = Unit {0}
AllTyped d (e ∷ es) = IsTrue (is_typed d e) × AllTyped d es

-- the operands of a typed level are typed
pub operands_typed : (d : Parts) (y : Expr-F Expr) → IsTrue (typing_step d (map-Expr Expr Typing (typing_of d) y)).is_typed → AllTyped d (operands_in y)
unfolding AllTyped
operands_typed d (Expr-F.Const b) h = tt
operands_typed d (Expr-F.Field f) h = tt
operands_typed d Expr-F.Pc h = tt
operands_typed d (Expr-F.Reg r None) h = tt
operands_typed d (Expr-F.Reg r (Some i)) h = ((both _ _ h).0, tt)
operands_typed d (Expr-F.Mem a bytes) h = ((both _ _ (both _ _ (both _ _ h).0).0).0, tt)
operands_typed d (Expr-F.Unary o a) h = (h, tt)
operands_typed d (Expr-F.Binary o a b) h = ((both _ _ (both _ _ h).0).0, ((both _ _ (both _ _ h).0).1, tt))
operands_typed d (Expr-F.Cast o width a) h = ((both _ _ (both _ _ h).0).0, tt)
operands_typed d (Expr-F.Slice a high low) h = ((both _ _ (both _ _ h).0).0, tt)
operands_typed d (Expr-F.Join a b) h = ((both _ _ (both _ _ h).0).0, ((both _ _ (both _ _ h).0).1, tt))
operands_typed d (Expr-F.If c a b) h =
    let three = (both _ _ (both _ _ h).0).0 in
    ((both _ _ (both _ _ three).0).0, ((both _ _ (both _ _ three).0).1, ((both _ _ three).1, tt)))

typed_each : (d : Parts) (tree : ℕ → Expr) (ks : List ℕ) → AllTyped d (map tree ks) → (k : ℕ) → IsIn ks k → IsTrue (is_typed d (tree k))
unfolding AllTyped
typed_each d tree [] all k (place, at) = absurd (let h : slice_get {X = ℕ} [] place ≡ Some k = at in cc)
typed_each d tree (n ∷ ks) all k (zero, at) = let same : n ≡ k = cc in subst (λ (m : ℕ). IsTrue (is_typed d (tree m))) same all.0
typed_each d tree (n ∷ ks) all k (suc place, at) = typed_each d tree ks all.1 k (place, at)

-- an operand of a typed tree is typed
pub operand_typed : (d : Parts) (x : Expr-F ℕ) (tree : ℕ → Expr) → IsTrue (is_typed d (roll-Expr (map-Expr ℕ Expr tree x))) → (k : ℕ) → IsIn (operands_in x) k → IsTrue (is_typed d (tree k))
operand_typed d x tree typed k among =
    let open_ : typing_of d (roll-Expr (map-Expr ℕ Expr tree x)) ≡ typing_step d (map-Expr Expr Typing (typing_of d) (map-Expr ℕ Expr tree x)) = fold-roll-Expr Typing (typing_step d) (map-Expr ℕ Expr tree x) in
    let all : AllTyped d (operands_in (map-Expr ℕ Expr tree x)) = operands_typed d (map-Expr ℕ Expr tree x) (subst (λ (t : Typing). IsTrue t.is_typed) open_ typed) in
    typed_each d tree (operands_in x) (subst (λ (es : List Expr). AllTyped d es) (operands_in-map Expr x tree) all) k among

typed_before : (d : Parts) (ops : List Expr) (steps : List Step) → AllTyped d ops → AreTyped d steps → AreTyped d (map enter ops ++ steps)
unfolding AllTyped
typed_before d [] steps ops_typed typed = typed
typed_before d (o ∷ ops) steps ops_typed typed = (ops_typed.0, typed_before d ops steps ops_typed.1 typed)

-- the operands of a typed tree are typed
pub typed_enter : (d : Parts) (e : Expr) (steps : List Step) → AreTyped d (enter e ∷ steps) → AreTyped d (entering e ++ steps)
typed_enter d e steps typed =
    let open_ : typing_of d e ≡ typing_step d (map-Expr Expr Typing (typing_of d) (out-Expr e)) = fold_out-Expr Typing (typing_step d) e in
    let ops : AllTyped d (operands_of e) = operands_typed d (out-Expr e) (subst (λ (t : Typing). IsTrue t.is_typed) open_ typed.0) in
    subst (λ (s : List Step). AreTyped d s) (sym (append_assoc (map enter (operands_of e)) (leave e ∷ []) steps)) (typed_before d (operands_of e) (leave e ∷ steps) ops (typed.0, typed.1))

-- a node that was asked for extends the graph
pub added_extends : (old new : GraphValue) (node : Node) (n : ℕ) → IsAdded old new node n → Extends old new
added_extends old new node n (inl there) = record {
  more = [];
  isa = ap (λ (g : GraphValue). g.isa) there.same;
  nodes = ap (λ (g : GraphValue). g.nodes) there.same ∙ sym (append-none old.nodes);
  shared = λ shared. subst (λ (g : GraphValue). IsShared g) (sym there.same) shared;
}
  where
    append-none : (xs : List Node) → xs ++ [] ≡ xs
    append-none [] = refl
    append-none (x ∷ xs) = ap (λ (ys : List Node). x ∷ ys) (append-none xs)
added_extends old new node n (inr is) = record {
  more = node ∷ [];
  isa = ap (λ (g : GraphValue). g.isa) is.graph;
  nodes = ap (λ (g : GraphValue). g.nodes) is.graph;
  shared = λ shared. subst (λ (g : GraphValue). IsShared g) (sym is.graph) (λ i j x at_i at_j.
      elim (gets-pushed old.nodes node i x at_i) [
        | inl before_i ↦ elim (gets-pushed old.nodes node j x at_j) [
          | inl before_j ↦ shared i j x before_i before_j
          | inr last_j ↦ absurd (is.absent i (before_i ∙ ap Some (sym last_j.1)))
        ]
        | inr last_i ↦ elim (gets-pushed old.nodes node j x at_j) [
          | inl before_j ↦ absurd (is.absent j (before_j ∙ ap Some (sym last_i.1)))
          | inr last_j ↦ last_i.0 ∙ sym last_j.0
        ]
      ]);
}

-- the number of a node that was asked for
pub added_at : (old new : GraphValue) (node : Node) (n : ℕ) → IsAdded old new node n → slice_get new.nodes n ≡ Some node
added_at old new node n (inl there) = ap (λ (g : GraphValue). slice_get g.nodes n) there.same ∙ there.found
added_at old new node n (inr is) = ap (λ (g : GraphValue). slice_get g.nodes n) is.graph ∙ ap (λ (m : ℕ). slice_get (old.nodes ++ node ∷ []) m) is.number ∙ gets-end old.nodes node
