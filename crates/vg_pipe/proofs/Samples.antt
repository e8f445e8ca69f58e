-- The laws' premises at a pipeline of five stages and at one of a single stage.
use Rattle.std.proofs.Common.{◌≡◌, ◌<◌, ◌^◌, Bool, true, false, ◌&&◌, nat_eq, IsTrue, List, [], ◌∷◌, ◌++◌, Option, Some, None, refl, sym, ap, ◌∙◌, arith}
use Rattle.std.specs.List.{filter_map, list_all, list_any}
use Rattle.std.specs.Option.{option_map_or}
use Rattle.std.proofs.lemmas.Bool.{and_from as conjunction}
use Rattle.vg_isa.specs.declared.isa.Parts.{Parts}
use Rattle.vg_isa.specs.declared.instr.Instr.{Instr}
use Rattle.vg_isa.specs.declared.expr.Expr.{Expr, fold-roll-Expr}
use Rattle.vg_isa.specs.declared.expr.Expr.TheOpen.{Expr-F}
use Rattle.vg_isa.specs.declared.expr.Expr.TheVariants.{Const, Binary, rolls-Const, rolls-Field, rolls-Reg, rolls-Binary}
use Rattle.vg_isa.specs.declared.operator.BinOp.TheVariants.{Add}
use Rattle.vg_isa.specs.declared.ids.FieldId.{FieldId}
use Rattle.vg_isa.specs.declared.ids.ResourceId.{ResourceId}
use Rattle.vg_isa.specs.declared.ids.ResourceId.TheVariants.{Memory}
use Rattle.vg_isa.specs.declared.ids.ResourceId.TheVariants as of
use Rattle.vg_isa.specs.declared.abi.Micro.{Micro}
use Rattle.vg_isa.specs.Declaration.{is_file}
use Rattle.vg_isa.specs.Typing.{Typing, is_write, typing_of}
use Rattle.vg_isa.specs.Node.{Node, access_in, field_in, has_plain_index, instr_nodes, is_plain, is_plain_node, nodes_of, resource_in}
use Rattle.vg_isa.specs.Same.{all_same, same_access, same_resource}
use Rattle.vg_isa.specs.Accepted.{are_nodes, is_field_of, is_instr, is_isa}
use Rattle.vg_isa.specs.Micro.{is_in_order, is_micro, is_placed, is_read, is_resolve, is_written, is_written_by, none_after, stages_of}
use Rattle.vg_isa.proofs.TypingLemmas.{typing-Const, typing-Field, typing-Reg, typing-Binary}
use Rattle.vg_isa.proofs.NodeLemmas.{nodes-Const, nodes-Field, nodes-Reg, nodes-Binary}
use Rattle.vg_mem.proofs.Bytes.{empty_keeps}
use Rattle.vg_image.specs.State.{IsState}
use Rattle.vg_place.specs.declared.late.Found.{Found}
use Rattle.vg_place.specs.declared.stage_table.Stages.{Stages}
use Rattle.vg_place.specs.declared.timing.Timing.{Timing}
use Rattle.vg_place.specs.Stage.{stages_in, timed, timed_step, write_stage}
use Rattle.vg_place.specs.Unplaced.{Part, earliest, first_late, first_of}
use Rattle.vg_place.proofs.Firsts.{none_late}
use Rattle.vg_pipe.specs.Sample.{HasPipeline, blank, double, doubler, doubling, file, five_stages, index, one_stage, register}

-- ---- the nodes of the trees

abbrev field : FieldId
field = record { format = record { 0 = 0 }; index = 1 }

abbrev always : Expr
always = Const (record { width = 1; number = 1 })

index_nodes : nodes_of index ≡ Expr-F.Field field ∷ []
index_nodes = nodes-Field field

register_nodes : nodes_of register ≡ Expr-F.Reg file (Some index) ∷ Expr-F.Field field ∷ []
register_nodes = nodes-Reg file index ∙ ap (λ (ns : List Node). Expr-F.Reg file (Some index) ∷ ns) index_nodes

sum_nodes : nodes_of (Binary Add register register) ≡ Expr-F.Binary Add register register ∷ Expr-F.Reg file (Some index) ∷ Expr-F.Field field ∷ Expr-F.Reg file (Some index) ∷ Expr-F.Field field ∷ []
sum_nodes = nodes-Binary Add register register ∙ ap (λ (ns : List Node). Expr-F.Binary Add register register ∷ ns ++ ns) register_nodes

always_nodes : nodes_of always ≡ Expr-F.Const (record { width = 1; number = 1 }) ∷ []
always_nodes = nodes-Const (record { width = 1; number = 1 })

double_nodes : instr_nodes double ≡ Expr-F.Const (record { width = 1; number = 1 }) ∷ Expr-F.Field field ∷ Expr-F.Binary Add register register
    ∷ Expr-F.Reg file (Some index) ∷ Expr-F.Field field ∷ Expr-F.Reg file (Some index) ∷ Expr-F.Field field ∷ []
double_nodes = λ i. always_nodes i ++ (index_nodes i ++ (sum_nodes i ++ []))

index_plain : is_plain index ≡ true
index_plain = ap (list_all is_plain_node) index_nodes

-- ---- widths

module _ (micro : Micro) where
  abbrev d : Parts
  d = doubler micro

  index_typing : typing_of d index ≡ record { width = 5; is_typed = true }
  index_typing = typing-Field d field

  register_typing : typing_of d register ≡ record { width = 32; is_typed = true }
  register_typing = typing-Reg d file index ∙ rw index_typing refl

  sum_typing : typing_of d (Binary Add register register) ≡ record { width = 32; is_typed = true }
  sum_typing = typing-Binary d Add register register ∙ rw register_typing refl

  always_typing : typing_of d always ≡ record { width = 1; is_typed = true }
  always_typing = typing-Const d (record { width = 1; number = 1 })

  write_kept : is_write d doubling ≡ true
  write_kept =
      conjunction _ _ (ap (λ (t : Typing). t.is_typed && nat_eq t.width 1) always_typing)
      (conjunction _ _ (conjunction _ _ (ap (λ (t : Typing). t.is_typed) index_typing) (ap (λ (t : Typing). is_file d.regs 0 t.width) index_typing))
      (ap (λ (t : Typing). t.is_typed && nat_eq t.width 32) sum_typing))

  nodes_kept : are_nodes d double ≡ true
  nodes_kept =
      ap (λ (ns : List Node). list_all (λ (n : Node). option_map_or (is_field_of d double.format) (field_in n) true) ns && list_all has_plain_index ns && all_same same_access (filter_map access_in ns)) double_nodes
      ∙ conjunction _ _ (conjunction _ _ refl (conjunction _ _ index_plain (conjunction _ _ index_plain refl))) refl

  double_kept : is_instr d double ≡ true
  unfolding is_instr
  double_kept =
      conjunction _ _
      (conjunction _ _ (conjunction _ _ (conjunction _ _ refl (conjunction _ _ (conjunction _ _ (conjunction _ _ write_kept refl) (conjunction _ _ index_plain refl)) refl)) refl) nodes_kept)
      refl

  doubler_kept : is_micro d micro ≡ true → IsTrue (is_isa d)
  unfolding is_isa
  doubler_kept h = conjunction _ _ (conjunction _ _ (conjunction _ _ (conjunction _ _ refl (conjunction _ _ double_kept refl)) refl) refl) h

  state_kept : IsState d blank
  state_kept = record { pc = pc_below; files = refl; bytes = empty_keeps (2 ^ 32) }
    where
      pc_below : 0 < 2 ^ 32
      pc_below = omega arith

-- ---- stages

module _ (s : Stages) where
  index_timed : timed s index ≡ record { stage = 0; address = 0 }
  index_timed = ap (timed s) (sym (rolls-Field field)) ∙ fold-roll-Expr Timing (timed_step s) (Expr-F.Field field)

  always_timed : timed s always ≡ record { stage = 0; address = 0 }
  always_timed = ap (timed s) (sym (rolls-Const (record { width = 1; number = 1 }))) ∙ fold-roll-Expr Timing (timed_step s) (Expr-F.Const (record { width = 1; number = 1 }))

  register_timed : timed s register ≡ timed_step s (Expr-F.Reg file (Some (record { stage = 0; address = 0 })))
  register_timed =
      ap (timed s) (sym (rolls-Reg file (Some index))) ∙ fold-roll-Expr Timing (timed_step s) (Expr-F.Reg file (Some index))
      ∙ ap (λ (t : Timing). timed_step s (Expr-F.Reg file (Some t))) index_timed

  sum_timed : timed s (Binary Add register register) ≡ timed_step s (Expr-F.Binary Add (timed_step s (Expr-F.Reg file (Some (record { stage = 0; address = 0 })))) (timed_step s (Expr-F.Reg file (Some (record { stage = 0; address = 0 })))))
  sum_timed =
      ap (timed s) (sym (rolls-Binary Add register register)) ∙ fold-roll-Expr Timing (timed_step s) (Expr-F.Binary Add register register)
      ∙ ap (λ (t : Timing). timed_step s (Expr-F.Binary Add t t)) register_timed

-- a micro architecture keeps the order of a resource, by the nodes of the instruction
abbrev order_over : Micro → ResourceId → List Node → Bool
order_over micro r ns =
    is_placed (list_any (λ (i : Instr). list_any (λ (n : Node). option_map_or (same_resource r) (resource_in n) false) ns) (double ∷ [])) (stages_of micro (is_read r))
    && is_placed (list_any (is_written_by r) (double ∷ [])) (stages_of micro (is_written r))
    && none_after (stages_of micro (is_read r)) (stages_of micro (is_written r))
    && none_after (stages_of micro is_resolve) (stages_of micro (is_written r))

five_micro : is_micro (doubler five_stages) five_stages ≡ true
five_micro =
    let memory : is_in_order (doubler five_stages) five_stages Memory ≡ true = ap (order_over five_stages Memory) double_nodes in
    let registers : is_in_order (doubler five_stages) five_stages (of.Reg file) ≡ true = ap (order_over five_stages (of.Reg file)) double_nodes in
    conjunction _ _ (conjunction _ _ (conjunction _ _ refl (conjunction _ _ memory (conjunction _ _ registers refl))) refl) refl

one_micro : is_micro (doubler one_stage) one_stage ≡ true
one_micro =
    let memory : is_in_order (doubler one_stage) one_stage Memory ≡ true = ap (order_over one_stage Memory) double_nodes in
    let registers : is_in_order (doubler one_stage) one_stage (of.Reg file) ≡ true = ap (order_over one_stage (of.Reg file)) double_nodes in
    conjunction _ _ (conjunction _ _ (conjunction _ _ refl (conjunction _ _ memory (conjunction _ _ registers refl))) refl) refl

abbrev five : Stages
five = stages_in (doubler five_stages) five_stages

abbrev one : Stages
one = stages_in (doubler one_stage) one_stage

-- the parts of a tree that has its value so
abbrev timed_parts : Stages → Timing → List Part
timed_parts s t =
    record { place = 0; ready = t.stage; needed = write_stage s (of.Reg file) } ∷ record { place = 0; ready = t.address; needed = s.memory.read } ∷ []

-- what is told of the instruction, by when its guard, its index and its value are there
abbrev told_over : Stages → Timing → Timing → Timing → Option Found
told_over s guard at value = first_of None 0 (earliest (timed_parts s guard ++ timed_parts s at ++ timed_parts s value) None)

five_late : first_late five (double ∷ []) ≡ None
five_late = λ i. told_over five (always_timed five i) (index_timed five i) (sum_timed five i)

one_late : first_late one (double ∷ []) ≡ None
one_late = λ i. told_over one (always_timed one i) (index_timed one i) (sum_timed one i)

pub five_planned : HasPipeline five_stages
five_planned = record {
  planned = record { accepted = doubler_kept five_stages five_micro; has = refl; in_order = (five_micro, none_late five (double ∷ []) five_late) };
  state = state_kept five_stages;
}

pub one_planned : HasPipeline one_stage
one_planned = record {
  planned = record { accepted = doubler_kept one_stage one_micro; has = refl; in_order = (one_micro, none_late one (double ∷ []) one_late) };
  state = state_kept one_stage;
}
