-- The nodes of a tree: its own, and those of its operands.
use Rattle.std.proofs.Common.{◌≡◌, ℕ, [], ◌∷◌, ◌++◌, Some, None, refl, sym, ap, ◌∙◌, subst}
use Rattle.vg_bits.specs.BitValue.{BitValue}
use Rattle.vg_isa.specs.declared.ids.FieldId.{FieldId}
use Rattle.vg_isa.specs.declared.ids.RegId.{RegId}
use Rattle.vg_isa.specs.declared.operator.BinOp.{BinOp}
use Rattle.vg_isa.specs.declared.operator.CastOp.{CastOp}
use Rattle.vg_isa.specs.declared.expr.Expr.{Expr, fold-Expr, fold-roll-Expr, roll-Expr, ind-Expr, map-Expr}
use Rattle.vg_isa.specs.declared.expr.Expr.TheOpen.{Expr-F}
use Rattle.vg_isa.specs.declared.expr.Expr.TheVariants.{Const, Field, Reg, Binary, Cast, rolls-Const, rolls-Field, rolls-Reg, rolls-Binary, rolls-Cast}
use Rattle.vg_isa.specs.Node.{Node, Walked, walk_step, node_over, nodes_below, nodes_of}

abbrev pub walk : Expr → Walked
walk = fold-Expr Walked walk_step

walked : (x : Node) → walk (roll-Expr x) ≡ walk_step (map-Expr Expr Walked walk x)
walked x = fold-roll-Expr Walked walk_step x

abbrev Same : Expr → Type 0
Same e = (walk e).0 ≡ e

abbrev Known : Type 0
Known = (e : Expr) × Same e

abbrev plain : Known → Expr
plain k = k.0

abbrev over : Node → Node
over x = node_over (map-Expr Expr Walked walk x)

over_known : (y : Expr-F Known) → over (map-Expr Known Expr plain y) ≡ map-Expr Known Expr plain y
over_known (Expr-F.Const b) = refl
over_known (Expr-F.Field f) = refl
over_known Expr-F.Pc = refl
over_known (Expr-F.Reg r None) = refl
over_known (Expr-F.Reg r (Some i)) = λ j. Expr-F.Reg r (Some (i.1 j))
over_known (Expr-F.Mem a bytes) = λ j. Expr-F.Mem (a.1 j) bytes
over_known (Expr-F.Unary op a) = λ j. Expr-F.Unary op (a.1 j)
over_known (Expr-F.Binary op a b) = λ j. Expr-F.Binary op (a.1 j) (b.1 j)
over_known (Expr-F.Cast op width a) = λ j. Expr-F.Cast op width (a.1 j)
over_known (Expr-F.Slice a hi lo) = λ j. Expr-F.Slice (a.1 j) hi lo
over_known (Expr-F.Join a b) = λ j. Expr-F.Join (a.1 j) (b.1 j)
over_known (Expr-F.If c a b) = λ j. Expr-F.If (c.1 j) (a.1 j) (b.1 j)

layer : (y : Expr-F Known) → Same (roll-Expr (map-Expr Known Expr plain y))
layer y = ap (λ (w : Walked). w.0) (walked (map-Expr Known Expr plain y)) ∙ ap roll-Expr (over_known y)

-- the walk gives the tree back
same : (e : Expr) → Same e
same = ind-Expr Same (λ x y is. subst (λ (z : Expr-F Expr). Same (roll-Expr z)) is (layer y))

over_same : (x : Node) → over x ≡ x
over_same (Expr-F.Const b) = refl
over_same (Expr-F.Field f) = refl
over_same Expr-F.Pc = refl
over_same (Expr-F.Reg r None) = refl
over_same (Expr-F.Reg r (Some i)) = λ j. Expr-F.Reg r (Some (same i j))
over_same (Expr-F.Mem a bytes) = λ j. Expr-F.Mem (same a j) bytes
over_same (Expr-F.Unary op a) = λ j. Expr-F.Unary op (same a j)
over_same (Expr-F.Binary op a b) = λ j. Expr-F.Binary op (same a j) (same b j)
over_same (Expr-F.Cast op width a) = λ j. Expr-F.Cast op width (same a j)
over_same (Expr-F.Slice a hi lo) = λ j. Expr-F.Slice (same a j) hi lo
over_same (Expr-F.Join a b) = λ j. Expr-F.Join (same a j) (same b j)
over_same (Expr-F.If c a b) = λ j. Expr-F.If (same c j) (same a j) (same b j)

-- the nodes of a tree are its own and those below it
pub nodes : (x : Node) → nodes_of (roll-Expr x) ≡ x ∷ nodes_below (map-Expr Expr Walked walk x)
nodes x = ap (λ (w : Walked). w.1) (walked x) ∙ ap (λ (n : Node). n ∷ nodes_below (map-Expr Expr Walked walk x)) (over_same x)

pub nodes-Const : (b : BitValue) → nodes_of (Const b) ≡ Expr-F.Const b ∷ []
nodes-Const b = ap nodes_of (sym (rolls-Const b)) ∙ nodes (Expr-F.Const b)

pub nodes-Field : (f : FieldId) → nodes_of (Field f) ≡ Expr-F.Field f ∷ []
nodes-Field f = ap nodes_of (sym (rolls-Field f)) ∙ nodes (Expr-F.Field f)

pub nodes-Reg : (r : RegId) (i : Expr) → nodes_of (Reg r (Some i)) ≡ Expr-F.Reg r (Some i) ∷ nodes_of i
nodes-Reg r i = ap nodes_of (sym (rolls-Reg r (Some i))) ∙ nodes (Expr-F.Reg r (Some i))

pub nodes-Binary : (op : BinOp) (a b : Expr) → nodes_of (Binary op a b) ≡ Expr-F.Binary op a b ∷ nodes_of a ++ nodes_of b
nodes-Binary op a b = ap nodes_of (sym (rolls-Binary op a b)) ∙ nodes (Expr-F.Binary op a b)

pub nodes-Cast : (op : CastOp) (width : ℕ) (a : Expr) → nodes_of (Cast op width a) ≡ Expr-F.Cast op width a ∷ nodes_of a
nodes-Cast op width a = ap nodes_of (sym (rolls-Cast op width a)) ∙ nodes (Expr-F.Cast op width a)
