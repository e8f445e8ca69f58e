-- The description of a form is accepted.
use Rattle.std.proofs.Common.{◌≡◌, ◌≤◌, ◌^◌, ℕ, Bool, true, false, ◌&&◌, IsTrue, nat_eq, nat_le, nat_lt, List, [], ◌∷◌, ◌++◌, length, map, refl, ap, ◌∙◌, Some, arith}
use Rattle.std.specs.List.{list_all}
use Rattle.std.proofs.lemmas.Bool.{and_from as conjunction}
use Rattle.std.proofs.lemmas.Bool.Decides.{nat_tests}
use Rattle.std.proofs.lemmas.List.{length-map}
use Rattle.vg_isa.specs.declared.expr.Expr.{Expr}
use Rattle.vg_isa.specs.declared.isa.Parts.{Parts}
use Rattle.vg_isa.specs.Declaration.{is_file, register_width}
use Rattle.vg_isa.specs.declared.expr.Expr.TheOpen.{Expr-F}
use Rattle.vg_isa.specs.declared.expr.Expr.TheVariants as expr
use Rattle.vg_isa.specs.declared.operator.BinOp.TheVariants as binop
use Rattle.vg_isa.specs.declared.operator.CastOp.TheVariants as castop
use Rattle.vg_isa.specs.Typing.{Typing, typing_step, typing_of, is_write}
use Rattle.vg_isa.specs.Accepted.{are_fixed, are_nodes, are_writes, is_instr, is_isa, is_within_limits}
use Rattle.vg_isa.specs.Node.{Node, nodes_of, is_plain}
use Rattle.vg_isa.proofs.NodeLemmas.{nodes-Const, nodes-Field, nodes-Reg, nodes-Binary, nodes-Cast}
use Rattle.vg_isa.proofs.Tests.{both}
use Rattle.vg_isa.proofs.TypingLemmas.{typing-Const, typing-Field, typing-Reg, typing-Binary, typing-Cast}
use Rattle.vg_form.specs.declared.form.Form.{Form}
use Rattle.vg_form.specs.declared.form.Pair.{Pair}
use Rattle.vg_form.specs.declared.form.Behaviour.{Behaviour}
use Rattle.vg_form.specs.declared.form.Behaviour.TheVariants.{AddRegisters, AddField}
use Rattle.vg_form.specs.Form.{field_at, register_of, value_tree, write_of, fits_fields, instr_of, parts_of}

-- a tree that is typed, with this width
abbrev typed : ℕ → Typing
typed width = record { width = width; is_typed = true }

-- a field of five bits is an index of the register file
typing-register_of : (form : Form) (index : ℕ) → typing_of (parts_of form) (expr.Field (field_at index)) ≡ typed 5 → typing_of (parts_of form) (register_of index) ≡ typed 32
typing-register_of form index h =
    typing-Reg (parts_of form) (record { 0 = 0 }) (expr.Field (field_at index))
    ∙ ap (λ (t : Typing). typing_step (parts_of form) (Expr-F.Reg (record { 0 = 0 }) (Some t))) h

typing-value_tree : (form : Form) (behaviour : Behaviour) → typing_of (parts_of form) (value_tree behaviour) ≡ typed 32
typing-value_tree form AddRegisters =
    let d = parts_of form in
    let left : typing_of d (register_of 2) ≡ typed 32 = typing-register_of form 2 (typing-Field d (field_at 2)) in
    let right : typing_of d (register_of 1) ≡ typed 32 = typing-register_of form 1 (typing-Field d (field_at 1)) in
    typing-Binary d binop.Add (register_of 2) (register_of 1)
    ∙ ap (λ (t : Typing). typing_step d (Expr-F.Binary binop.Add t (typing_of d (register_of 1)))) left
    ∙ ap (λ (t : Typing). typing_step d (Expr-F.Binary binop.Add (typed 32) t)) right
typing-value_tree form AddField =
    let d = parts_of form in
    let field = expr.Field (field_at 1) in
    let left : typing_of d (register_of 2) ≡ typed 32 = typing-register_of form 2 (typing-Field d (field_at 2)) in
    let right : typing_of d (expr.Cast castop.Extend 32 field) ≡ typed 32 =
    typing-Cast d castop.Extend 32 field ∙ ap (λ (t : Typing). typing_step d (Expr-F.Cast castop.Extend 32 t)) (typing-Field d (field_at 1)) in
    typing-Binary d binop.Add (register_of 2) (expr.Cast castop.Extend 32 field)
    ∙ ap (λ (t : Typing). typing_step d (Expr-F.Binary binop.Add t (typing_of d (expr.Cast castop.Extend 32 field)))) left
    ∙ ap (λ (t : Typing). typing_step d (Expr-F.Binary binop.Add (typed 32) t)) right

-- the test of a write to a register of the file, by the typings of its guard, its index and its value
abbrev register_write : Parts → Typing → Typing → Typing → Bool
register_write d guard at value =
    (guard.is_typed && nat_eq guard.width 1)
    && (at.is_typed && is_file d.regs 0 at.width && (value.is_typed && nat_eq value.width (register_width d.regs 0)))

is_write-write_of : (form : Form) (behaviour : Behaviour) → IsTrue (is_write (parts_of form) (write_of behaviour))
is_write-write_of form behaviour =
    let d = parts_of form in
    let at = typing_of d (expr.Field (field_at 4)) in
    let value = typing_of d (value_tree behaviour) in
    ap (λ (t : Typing). register_write d t at value) (typing-Const d (record { width = 1; number = 1 }))
    ∙ ap (λ (t : Typing). register_write d (typed 1) t value) (typing-Field d (field_at 4))
    ∙ ap (λ (t : Typing). register_write d (typed 1) (typed 5) t) (typing-value_tree form behaviour)

-- ---- nodes

abbrev register_nodes : ℕ → List Node
register_nodes index = Expr-F.Reg (record { 0 = 0 }) (Some (expr.Field (field_at index))) ∷ Expr-F.Field (field_at index) ∷ []

nodes-register_of : (index : ℕ) → nodes_of (register_of index) ≡ register_nodes index
nodes-register_of index =
    nodes-Reg (record { 0 = 0 }) (expr.Field (field_at index))
    ∙ ap (λ (ns : List Node). Expr-F.Reg (record { 0 = 0 }) (Some (expr.Field (field_at index))) ∷ ns) (nodes-Field (field_at index))

field_plain : (index : ℕ) → is_plain (expr.Field (field_at index)) ≡ true
field_plain index = rw (nodes-Field (field_at index)) refl

-- the nodes of a sum whose left operand is the register of rs1
nodes-sum : (right : Expr) (below : List Node) → nodes_of right ≡ below → nodes_of (expr.Binary binop.Add (register_of 2) right) ≡ Expr-F.Binary binop.Add (register_of 2) right ∷ register_nodes 2 ++ below
nodes-sum right below is =
    nodes-Binary binop.Add (register_of 2) right
    ∙ ap (λ (ns : List Node). Expr-F.Binary binop.Add (register_of 2) right ∷ ns ++ nodes_of right) (nodes-register_of 2)
    ∙ ap (λ (ns : List Node). Expr-F.Binary binop.Add (register_of 2) right ∷ register_nodes 2 ++ ns) is

abbrev extended : Expr
extended = expr.Cast castop.Extend 32 (expr.Field (field_at 1))

nodes-extended : nodes_of extended ≡ Expr-F.Cast castop.Extend 32 (expr.Field (field_at 1)) ∷ Expr-F.Field (field_at 1) ∷ []
nodes-extended = nodes-Cast castop.Extend 32 (expr.Field (field_at 1)) ∙ ap (λ (ns : List Node). Expr-F.Cast castop.Extend 32 (expr.Field (field_at 1)) ∷ ns) (nodes-Field (field_at 1))

-- the fields and indices of an instruction's trees are as they should be, and no memory is read
are_nodes-instr_of : (form : Form) (name : List ℕ) (behaviour : Behaviour) (f7 f3 op : ℕ) → IsTrue (are_nodes (parts_of form) (instr_of (record { name = name; behaviour = behaviour; f7 = f7; f3 = f3; op = op })))
are_nodes-instr_of form name AddRegisters f7 f3 op =
    rw (nodes-Const (record { width = 1; number = 1 }), nodes-Field (field_at 4), nodes-sum (register_of 1) (register_nodes 1) (nodes-register_of 1), field_plain 2, field_plain 1) refl
are_nodes-instr_of form name AddField f7 f3 op =
    rw (nodes-Const (record { width = 1; number = 1 }), nodes-Field (field_at 4), nodes-sum extended _ nodes-extended, field_plain 2) refl

-- ---- the whole

three : (a b c : Bool) → (a && b && c) ≡ true → ((a && (b && (c && true))) && true) ≡ true
three true true true h = refl
three true true false h = cc
three true false c h = cc
three false b c h = cc

are_fixed-instr_of : (form : Form) (pair : Pair) → IsTrue (fits_fields pair) → IsTrue (are_fixed (parts_of form) (instr_of pair))
are_fixed-instr_of form pair fit = three (nat_lt pair.f7 (2 ^ 7)) (nat_lt pair.f3 (2 ^ 3)) (nat_lt pair.op (2 ^ 7)) fit

are_writes-instr_of : (form : Form) (pair : Pair) → IsTrue (are_writes (parts_of form) (instr_of pair))
are_writes-instr_of form pair = rw (is_write-write_of form pair.behaviour, field_plain 4) refl

is_instr-instr_of : (form : Form) (pair : Pair) → IsTrue (fits_fields pair) → IsTrue (is_instr (parts_of form) (instr_of pair))
unfolding is_instr
is_instr-instr_of form pair fit =
    rw (are_fixed-instr_of form pair fit, are_writes-instr_of form pair, are_nodes-instr_of form pair.name pair.behaviour pair.f7 pair.f3 pair.op) refl

list_all-instr_of : (form : Form) (pairs : List Pair) → IsTrue (list_all fits_fields pairs) → IsTrue (list_all (is_instr (parts_of form)) (map instr_of pairs))
list_all-instr_of form [] fit = refl
list_all-instr_of form (pair ∷ pairs) fit =
    let split = both (fits_fields pair) (list_all fits_fields pairs) fit in
    conjunction _ _ (is_instr-instr_of form pair split.0) (list_all-instr_of form pairs split.1)

few : (pairs : List Pair) → length pairs ≤ 512 → nat_le (length (map instr_of pairs)) 512 ≡ true
few pairs h = let same : length (map instr_of pairs) ≡ length pairs = length-map pairs instr_of in grind (arith, nat_tests)

-- the description of each form is accepted
pub is_isa-parts_of : (form : Form) → IsTrue (list_all fits_fields form.pairs) → length form.pairs ≤ 512 → IsTrue (is_isa (parts_of form))
unfolding is_isa
is_isa-parts_of form fit most = rw (list_all-instr_of form form.pairs fit, few form.pairs most) refl
