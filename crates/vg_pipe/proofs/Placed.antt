-- A description whose parts come in time is placed.
use Rattle.std.proofs.Common.{◌≡◌, ℕ, zero, suc, ◌/◌, ◌^◌, ◌<◌, ◌≤◌, Bool, true, false, ◌&&◌, ◌||◌, not, nat_eq, IsTrue, List, [], ◌∷◌, ◌++◌, map, flat_map, length, take, slice_get, Option, Some, None, ◌⊎◌, inl, inr, refl, sym, ap, subst, ◌∙◌, if◌then◌else◌, arith}
use Rattle.std.specs.Option.{option_and_then, option_map_or}
use Rattle.std.specs.List.{list_all, filter_map}
use Rattle.std.proofs.lemmas.Bool.Decides.{nat_tests}
use Rattle.vg_bits.specs.BitValue.{BitValue, add}
use Rattle.vg_isa.specs.declared.isa.Parts.{Parts}
use Rattle.vg_isa.specs.declared.expr.Expr.{Expr}
use Rattle.vg_isa.specs.declared.ids.ResourceId.{ResourceId}
use Rattle.vg_isa.specs.declared.ids.ResourceId.TheVariants.{Memory, Reg}
use Rattle.vg_isa.specs.declared.instr.Instr.{Instr}
use Rattle.vg_isa.specs.declared.instr.Write.{Write}
use Rattle.vg_isa.specs.declared.abi.Micro.{Micro}
use Rattle.vg_isa.specs.Accepted.{has_plain_at}
use Rattle.vg_isa.specs.Same.{same_resource}
use Rattle.vg_isa.specs.Node.{Node, nodes_of, access_in, is_plain, has_plain_index, write_trees, next_trees}
use Rattle.vg_isa.specs.Value.{Reads, value_of, holds}
use Rattle.vg_isa.specs.Declaration.{register_width, word_bytes}
use Rattle.vg_isa.specs.Effect.{following}
use Rattle.vg_isa.proofs.Tests.{both}
use Rattle.vg_isa.proofs.Kept.{kept_instr, instr_typed}
use Rattle.vg_image.specs.declared.image.Image.{Image}
use Rattle.vg_image.specs.State.{is_zero_register}
use Rattle.vg_place.specs.declared.stage_table.Stages.{Stages}
use Rattle.vg_place.specs.Stage.{stage_of, address_stage, stages_in, write_stage}
use Rattle.vg_place.specs.Reading.{reading, stage_at, SameAt}
use Rattle.vg_place.proofs.Agreeing.{values_agree}
use Rattle.vg_place.proofs.Bounds.{micro_some}
use Rattle.vg_cycle.specs.Description.{Fetched, View, Description, Agrees, IsPlaced}
use Rattle.vg_cycle.specs.Hazard.{no_contents}
use Rattle.vg_pipe.specs.Trees.{are_reading, addresses_of, has_number, all_trees, place_of}
use Rattle.vg_pipe.specs.Seen.{byte_stored, reads_in, writes_in, next_in, write_in, is_named, put_by, put_stage, next_of, next_stage_of, read_asks, write_asks, written_in, seen}
use Rattle.vg_pipe.specs.Laws.{IsPlanned}
use Rattle.vg_pipe.proofs.Reading.{no, or_same, or_left, or_right, either, all_front, all_back, plain_value, registers_known, memory_read}
use Rattle.vg_pipe.proofs.Memory.{addresses, address_before, addresses-append, memory_agrees}
use Rattle.vg_pipe.proofs.Order.{resource_order}
use Rattle.vg_pipe.proofs.Members.{Member, by_write, member_all, In, tree_in, guard_in, value_in, at_in, AtTimely, WriteTimely, WritesTimely, NextTimely, member_timely, instr_timely, Bounded, all_bounded, in_back, number_stage}

-- ---- an instruction's trees

module _ (d : Parts) (s : Stages) (word : ℕ) where
  -- which registers trees read is known from the word
  pub trees_known : (v w : Reads) (trees : List Expr) → IsTrue (list_all has_plain_index (flat_map nodes_of trees)) → (q j : ℕ) → are_reading d word v trees (suc q) j ≡ are_reading d word w trees (suc q) j
  trees_known v w [] h q j = refl
  trees_known v w (e ∷ trees) h q j =
      or_same (registers_known d s word v w e (all_front has_plain_index (nodes_of e) (flat_map nodes_of trees) h) q j)
      (trees_known v w trees (all_back has_plain_index (nodes_of e) (flat_map nodes_of trees) h) q j)

  -- trees that read memory in one state do in the other
  pub trees_memory : (v w : Reads) (trees : List Expr) (i : ℕ) → IsTrue (are_reading d word v trees 0 i) → (j : ℕ) × IsTrue (are_reading d word w trees 0 j)
  trees_memory v w [] i h = absurd (no h)
  trees_memory v w (e ∷ trees) i h = go (trees_memory v w trees i) (either ((reading d word v e).reads 0 i) (are_reading d word v trees 0 i) h)
    where
      go : (IsTrue (are_reading d word v trees 0 i) → (j : ℕ) × IsTrue (are_reading d word w trees 0 j)) → IsTrue ((reading d word v e).reads 0 i) ⊎ IsTrue (are_reading d word v trees 0 i)
          → (j : ℕ) × IsTrue ((reading d word w e).reads 0 j || are_reading d word w trees 0 j)
      go rest (inl x) = let found = memory_read d s word v w e i x in (found.0, or_left ((reading d word w e).reads 0 found.0) (are_reading d word w trees 0 found.0) found.1)
      go rest (inr x) = let found = rest x in (found.0, or_right ((reading d word w e).reads 0 found.0) (are_reading d word w trees 0 found.0) found.1)

  module _ (u : ℕ) (v w : Reads) (pc : v.pc ≡ w.pc) where
    abbrev Agree : (ℕ → ℕ → Bool) → Type 0
    Agree reads = (r i : ℕ) → stage_at s r < u → IsTrue (reads r i) → SameAt v w r i

    -- what trees read, each of them may read
    pub tree_agrees : (trees : List Expr) (e : Expr) → In e trees → Agree (are_reading d word v trees) → Agree (reading d word v e).reads
    tree_agrees [] e m a r i l is = absurd m
    tree_agrees (t ∷ trees) e (inl same) a r i l is =
        a r i l (or_left ((reading d word v t).reads r i) (are_reading d word v trees r i) (subst (λ (z : Expr). IsTrue ((reading d word v z).reads r i)) same is))
    tree_agrees (t ∷ trees) e (inr m) a r j below read = tree_agrees trees e m (λ r i l is. a r i l (or_right ((reading d word v t).reads r i) (are_reading d word v trees r i) is)) r j below read

    -- a tree's value
    pub tree_value : (trees : List Expr) (e : Expr) → In e trees → Agree (are_reading d word v trees) → stage_of s e < u → value_of d e word v ≡ value_of d e word w
    tree_value trees e m a lt = values_agree d s word e u v w (record { pc = pc; same = tree_agrees trees e m a }) lt

    -- the bytes of memory that trees read, and their addresses
    pub trees_agree : (trees : List Expr) → Bounded s trees → Agree (are_reading d word v trees) → s.memory.read < u
        → ((i : ℕ) → are_reading d word v trees 0 i ≡ are_reading d word w trees 0 i) × (addresses d word v (flat_map nodes_of trees) ≡ addresses d word w (flat_map nodes_of trees))
    trees_agree [] b a lt = (λ i. refl, refl)
    trees_agree (e ∷ trees) b a lt =
        let bound : address_stage s e ≤ s.memory.read = b.0 in
        let first = memory_agrees d s word u v w pc e (λ r i l is. a r i l (or_left ((reading d word v e).reads r i) (are_reading d word v trees r i) is)) (omega arith) in
        let rest = trees_agree trees b.1 (λ r i l is. a r i l (or_right ((reading d word v e).reads r i) (are_reading d word v trees r i) is)) lt in (
          λ i. or_same (first.0 i) (rest.0 i),
          addresses-append d word v (nodes_of e) (flat_map nodes_of trees) ∙ (λ i. first.1 i ++ rest.1 i) ∙ sym (addresses-append d word w (nodes_of e) (flat_map nodes_of trees)),
        )

-- the addresses by nodes are those of the definition
pub addresses_are : (d : Parts) (word : ℕ) (s : Reads) (ns : List Node)
    → addresses d word s ns ≡ map (λ (access : Expr × ℕ). (value_of d access.0 word s).number) (filter_map access_in ns)
addresses_are d word s [] = refl
addresses_are d word s (n ∷ ns) = go (access_in n) refl (addresses_are d word s ns)
  where
    numbers : List (Expr × ℕ) → List ℕ
    numbers accesses = map (λ (access : Expr × ℕ). (value_of d access.0 word s).number) accesses

    go : (o : Option (Expr × ℕ)) → access_in n ≡ o → addresses d word s ns ≡ numbers (filter_map access_in ns)
        → address_before d word s (access_in n) (addresses d word s ns) ≡ map (λ (access : Expr × ℕ). (value_of d access.0 word s).number) (filter_map access_in (n ∷ ns))
    go None e rest = rw e rest
    go (Some a) e rest = rw e (ap (λ z. (value_of d a.0 word s).number ∷ z) rest)

some_number : (r : ℕ) → nat_eq (suc r) 0 ≡ true → ⊥
some_number r e = let same : suc r ≡ 0 = grind (arith, nat_tests) in omega arith

-- what an instruction keeps
pub record Sound (s : Stages) (writes : List Write) (next : Option (Expr × Expr)) : Type 0 where
  pub plain : IsTrue (list_all has_plain_index (flat_map nodes_of (all_trees writes next)))
  pub plain_at : IsTrue (list_all has_plain_at writes)
  pub timely : WritesTimely s writes
  pub next_timely : NextTimely s next

module _ (d : Parts) (micro : Micro) (planned : IsPlanned d micro) where
  pub sound : (x : Fetched) → Sound (stages_in d micro) (writes_in d x) (next_in d x)
  sound x = go (slice_get d.instrs x.instr) refl
    where
      go : (o : Option Instr) → slice_get d.instrs x.instr ≡ o → Sound (stages_in d micro) (option_map_or (λ (instr : Instr). instr.writes) o []) (option_and_then (λ (instr : Instr). instr.next) o)
      go None e = record { plain = refl; plain_at = refl; timely = tt; next_timely = tt }
      go (Some instr) e =
          let keeps = kept_instr d instr (instr_typed d x.instr instr planned.accepted e) in
          let nodes = both _ _ keeps.nodes in
          let timely = instr_timely (stages_in d micro) instr (λ part stands. planned.in_order.1 x.instr instr part e stands) in
          record {
            plain = (both _ _ nodes.0).1;
            plain_at = (both _ _ (both _ _ keeps.writes).0).1;
            timely = timely.0;
            next_timely = timely.1;
          }

  abbrev stages : Stages
  stages = stages_in d micro

  abbrev trees : Fetched → List Expr
  trees x = all_trees (writes_in d x) (next_in d x)

  module _ (i : Image) where
    abbrev D : Description
    D = seen d micro i

    -- views that agree are states that agree
    same_at : (x : Fetched) (u : ℕ) (v w : View) → Agrees D x u v w → (r j : ℕ) → stage_at stages r < u → IsTrue (are_reading d x.word (reads_in d v) (trees x) r j) → SameAt (reads_in d v) (reads_in d w) r j
    same_at x u v w a zero j lt is = ap (λ (b : BitValue). b.number) (a.has zero j lt is)
    same_at x u v w a (suc r) j lt is = a.has (suc r) j lt is

    same_pc : (v w : View) → v.pc ≡ w.pc → (reads_in d v).pc ≡ (reads_in d w).pc
    same_pc v w e = ap (λ (n : ℕ). record { width = d.pc.width; number = n }) e

    value : (x : Fetched) (u : ℕ) (v w : View) → Agrees D x u v w → (e : Expr) → In e (trees x) → stage_of stages e < u → value_of d e x.word (reads_in d v) ≡ value_of d e x.word (reads_in d w)
    value x u v w a e m lt = tree_value d stages x.word u (reads_in d v) (reads_in d w) (same_pc v w a.pc) (trees x) e m (same_at x u v w a) lt

    memory : (x : Fetched) (u : ℕ) (v w : View) → Agrees D x u v w → stages.memory.read < u
        → ((j : ℕ) → are_reading d x.word (reads_in d v) (trees x) 0 j ≡ are_reading d x.word (reads_in d w) (trees x) 0 j)
        × (addresses d x.word (reads_in d v) (flat_map nodes_of (trees x)) ≡ addresses d x.word (reads_in d w) (flat_map nodes_of (trees x)))
    memory x u v w a lt =
        trees_agree d stages x.word u (reads_in d v) (reads_in d w) (same_pc v w a.pc) (trees x)
        (all_bounded stages (writes_in d x) (next_in d x) (sound x).timely (sound x).next_timely) (same_at x u v w a) lt

    order : (r : ℕ) → (stage_at stages r ≤ written_in stages r) × (stages.resolve ≤ written_in stages r) × (written_in stages r < length micro.stages)
    order r = resource_order d micro (micro_some d micro planned.accepted planned.has) planned.in_order.0 r

    reads_agree : (x : Fetched) (u : ℕ) (v w : View) → Agrees D x u v w → (r j : ℕ) → stage_at stages r < u
        → are_reading d x.word (reads_in d v) (trees x) r j ≡ are_reading d x.word (reads_in d w) (trees x) r j
    reads_agree x u v w a zero j lt = (memory x u v w a lt).0 j
    reads_agree x u v w a (suc r) j lt = trees_known d stages x.word (reads_in d v) (reads_in d w) (trees x) (sound x).plain r j

    -- the index or address of a write
    place_agrees : (x : Fetched) (u : ℕ) (v w : View) → Agrees D x u v w → (write : Write) → Member write (writes_in d x)
        → option_map_or (λ (at : Expr). stage_of stages at) write.at 0 < u → place_of d x.word (reads_in d v) write.at ≡ place_of d x.word (reads_in d w) write.at
    place_agrees x u v w a write m lt = go write.at refl lt
      where
        go : (o : Option Expr) → write.at ≡ o → option_map_or (λ (at : Expr). stage_of stages at) o 0 < u → place_of d x.word (reads_in d v) o ≡ place_of d x.word (reads_in d w) o
        go None e l = refl
        go (Some at) e l = ap (λ (b : BitValue). b.number) (value x u v w a at (tree_in write (writes_in d x) (next_in d x) at m (at_in write at e)) l)

    -- the register that a write writes is known from the word
    index_known : (x : Fetched) (v w : View) (write : Write) → Member write (writes_in d x) → (r : ℕ) → has_number (suc r) write.resource ≡ true
        → place_of d x.word (reads_in d v) write.at ≡ place_of d x.word (reads_in d w) write.at
    index_known x v w write m r named = go write.at (plain_of write.resource named (member_all has_plain_at (writes_in d x) write (sound x).plain_at m))
      where
        plain_of : (resource : ResourceId) → has_number (suc r) resource ≡ true → IsTrue (same_resource Memory resource || option_map_or is_plain write.at true) → IsTrue (option_map_or is_plain write.at true)
        plain_of Memory e h = absurd (no e)
        plain_of (Reg q) e h = h

        go : (o : Option Expr) → IsTrue (option_map_or is_plain o true) → place_of d x.word (reads_in d v) o ≡ place_of d x.word (reads_in d w) o
        go None h = refl
        go (Some at) h = ap (λ (b : BitValue). b.number) (plain_value d stages x.word (reads_in d v) (reads_in d w) at h)

    names_agree : (x : Fetched) (v w : View) (r j : ℕ) → D.names x v r j ≡ D.names x w r j
    names_agree x v w zero j = by_write (λ (o : Option Write). option_map_or (λ (z : Write). is_named d x.word (reads_in d v) z 0 j) o false ≡ option_map_or (λ (z : Write). is_named d x.word (reads_in d w) z 0 j) o false) 0 (writes_in d x) refl (λ z m e. refl)
    names_agree x v w (suc r) j =
        by_write (λ (o : Option Write). option_map_or (λ (z : Write). is_named d x.word (reads_in d v) z (suc r) j) o false ≡ option_map_or (λ (z : Write). is_named d x.word (reads_in d w) z (suc r) j) o false) (suc r) (writes_in d x) refl
        (λ z m e. ap (λ (n : ℕ). nat_eq n j && not (is_zero_register d.regs r j)) (index_known x v w z m r e))

    guard_agrees : (x : Fetched) (u : ℕ) (v w : View) → Agrees D x u v w → (r : ℕ) → D.guard_stage x r < u → D.guard x v r ≡ D.guard x w r
    guard_agrees x u v w a r =
        by_write (λ (o : Option Write). option_map_or (λ (z : Write). stage_of stages z.guard) o 0 < u
        → option_map_or (λ (z : Write). holds (value_of d z.guard x.word (reads_in d v))) o false ≡ option_map_or (λ (z : Write). holds (value_of d z.guard x.word (reads_in d w))) o false) r (writes_in d x) (λ l. refl)
        (λ z m e l. ap holds (value x u v w a z.guard (tree_in z (writes_in d x) (next_in d x) z.guard m (guard_in z)) l))

    put_by_agrees : (x : Fetched) (u : ℕ) (v w : View) → Agrees D x u v w → (z : Write) → Member z (writes_in d x) → (r j : ℕ) (old : BitValue) → put_stage stages z < u
        → put_by d x.word (reads_in d v) z r j old ≡ put_by d x.word (reads_in d w) z r j old
    put_by_agrees x u v w a z m zero j old lt =
        let at : place_of d x.word (reads_in d v) z.at ≡ place_of d x.word (reads_in d w) z.at = place_agrees x u v w a z m (omega arith) in
        let own : value_of d z.value x.word (reads_in d v) ≡ value_of d z.value x.word (reads_in d w) = value x u v w a z.value (tree_in z (writes_in d x) (next_in d x) z.value m (value_in z)) (omega arith) in
        let put : ℕ → BitValue → BitValue = λ n b. record { width = 8; number = byte_stored (2 ^ d.pc.width) n (b.width / 8) b.number j old.number } in
        λ k. put (at k) (own k)
    put_by_agrees x u v w a z m (suc r) j old lt =
        let own : value_of d z.value x.word (reads_in d v) ≡ value_of d z.value x.word (reads_in d w) = value x u v w a z.value (tree_in z (writes_in d x) (next_in d x) z.value m (value_in z)) (omega arith) in
        λ k. record { width = register_width d.regs r; number = (own k).number }

    put_agrees : (x : Fetched) (u : ℕ) (v w : View) → Agrees D x u v w → (r j : ℕ) (old : BitValue) → D.value_stage x r < u → D.put x v r j old ≡ D.put x w r j old
    put_agrees x u v w a r j old =
        by_write (λ (o : Option Write). option_map_or (put_stage stages) o 0 < u
        → option_map_or (λ (z : Write). put_by d x.word (reads_in d v) z r j old) o no_contents ≡ option_map_or (λ (z : Write). put_by d x.word (reads_in d w) z r j old) o no_contents) r (writes_in d x) (λ l. refl)
        (λ z m e l. put_by_agrees x u v w a z m r j old l)

    next_agrees : (x : Fetched) (u : ℕ) (v w : View) → Agrees D x u v w → D.next_stage x < u → D.next x v ≡ D.next x w
    next_agrees x u v w a lt = go (next_in d x) refl lt
      where
        behind : following d (reads_in d v) ≡ following d (reads_in d w)
        behind = ap (λ (n : ℕ). add (record { width = d.pc.width; number = n }) (record { width = d.pc.width; number = word_bytes d })) a.pc

        inside : (n : Expr × Expr) → next_in d x ≡ Some n → (e : Expr) → In e (next_trees (Some n)) → In e (trees x)
        inside n is e m = in_back e (flat_map write_trees (writes_in d x)) (next_trees (next_in d x)) (subst (λ (o : Option (Expr × Expr)). In e (next_trees o)) (sym is) m)

        go : (o : Option (Expr × Expr)) → next_in d x ≡ o → next_stage_of stages o < u → (next_of d x.word (reads_in d v) o).number ≡ (next_of d x.word (reads_in d w) o).number
        go None e l = ap (λ (b : BitValue). b.number) behind
        go (Some n) e l =
            let guard : value_of d n.0 x.word (reads_in d v) ≡ value_of d n.0 x.word (reads_in d w) = value x u v w a n.0 (inside n e n.0 (inl refl)) (omega arith) in
            let to : value_of d n.1 x.word (reads_in d v) ≡ value_of d n.1 x.word (reads_in d w) = value x u v w a n.1 (inside n e n.1 (inr (inl refl))) (omega arith) in
            λ k. (if holds (guard k) then to k else behind k).number

    -- ---- asks

    read_agrees : (x : Fetched) (u : ℕ) (v w : View) → Agrees D x u v w → stages.memory.read < u → read_asks d x.word (reads_in d v) (trees x) ≡ read_asks d x.word (reads_in d w) (trees x)
    read_agrees x u v w a lt =
        let all : addresses d x.word (reads_in d v) (flat_map nodes_of (trees x)) ≡ addresses d x.word (reads_in d w) (flat_map nodes_of (trees x)) = (memory x u v w a lt).1 in
        let same : addresses_of d x.word (reads_in d v) (trees x) ≡ addresses_of d x.word (reads_in d w) (trees x)
        = sym (addresses_are d x.word (reads_in d v) (flat_map nodes_of (trees x))) ∙ all ∙ addresses_are d x.word (reads_in d w) (flat_map nodes_of (trees x)) in
        ap (λ (l : List ℕ). map (λ (at : ℕ). record { address = at; is_write = false }) (take 1 l)) same

    -- a write's parts are there in its resource's write stage
    timely : (x : Fetched) (r : ℕ) (z : Write) → Member z (writes_in d x) → has_number r z.resource ≡ true
        → (stage_of stages z.guard ≤ written_in stages r) × (put_stage stages z ≤ written_in stages r) × (option_map_or (λ (at : Expr). stage_of stages at) z.at 0 ≤ written_in stages r)
    timely x r z m e =
        let at_stage : write_stage stages z.resource ≡ written_in stages r = number_stage stages r z.resource e in
        let parts : WriteTimely stages z = member_timely stages (writes_in d x) z (sound x).timely m in
        let guard : stage_of stages z.guard ≤ write_stage stages z.resource = parts.0.0 in
        let own : stage_of stages z.value ≤ write_stage stages z.resource = parts.2.0 in
        let at : option_map_or (λ (a : Expr). stage_of stages a) z.at 0 ≤ write_stage stages z.resource = by_at z.at parts.1 in
        (omega arith, omega arith, omega arith)
      where
        by_at : (o : Option Expr) → AtTimely stages (write_stage stages z.resource) o → option_map_or (λ (a : Expr). stage_of stages a) o 0 ≤ write_stage stages z.resource
        by_at None h = omega arith
        by_at (Some a) h = h.0

    write_agrees : (x : Fetched) (u : ℕ) (v w : View) → Agrees D x u v w → stages.memory.write < u
        → write_asks d x.word (reads_in d v) (write_in d x 0) ≡ write_asks d x.word (reads_in d w) (write_in d x 0)
    write_agrees x u v w a lt =
        by_write (λ (o : Option Write). write_asks d x.word (reads_in d v) o ≡ write_asks d x.word (reads_in d w) o) 0 (writes_in d x) refl
        (λ z m e. (let t = timely x 0 z m e in
        let g : stage_of stages z.guard ≤ stages.memory.write = t.0 in
        let p : option_map_or (λ (at : Expr). stage_of stages at) z.at 0 ≤ stages.memory.write = t.2 in
        let guard : value_of d z.guard x.word (reads_in d v) ≡ value_of d z.guard x.word (reads_in d w) = value x u v w a z.guard (tree_in z (writes_in d x) (next_in d x) z.guard m (guard_in z)) (omega arith) in
        let at : place_of d x.word (reads_in d v) z.at ≡ place_of d x.word (reads_in d w) z.at = place_agrees x u v w a z m (omega arith) in
        λ k. if holds (guard k) then record { address = at k; is_write = true } ∷ [] else []))

    asks_agree : (x : Fetched) (u : ℕ) (v w : View) → Agrees D x (suc u) v w → D.asks x v u ≡ D.asks x w u
    asks_agree x u v w a = λ k. first k ++ second k
      where
        reads_now : (b : Bool) → nat_eq stages.memory.read u ≡ b → (if b then read_asks d x.word (reads_in d v) (trees x) else []) ≡ (if b then read_asks d x.word (reads_in d w) (trees x) else [])
        reads_now true e = read_agrees x (suc u) v w a (grind (arith, nat_tests))
        reads_now false e = refl

        writes_now : (b : Bool) → nat_eq stages.memory.write u ≡ b → (if b then write_asks d x.word (reads_in d v) (write_in d x 0) else []) ≡ (if b then write_asks d x.word (reads_in d w) (write_in d x 0) else [])
        writes_now true e = write_agrees x (suc u) v w a (grind (arith, nat_tests))
        writes_now false e = refl

        first : (if nat_eq stages.memory.read u then read_asks d x.word (reads_in d v) (trees x) else []) ≡ (if nat_eq stages.memory.read u then read_asks d x.word (reads_in d w) (trees x) else [])
        first = reads_now (nat_eq stages.memory.read u) refl

        second : (if nat_eq stages.memory.write u then write_asks d x.word (reads_in d v) (write_in d x 0) else []) ≡ (if nat_eq stages.memory.write u then write_asks d x.word (reads_in d w) (write_in d x 0) else [])
        second = writes_now (nat_eq stages.memory.write u) refl

    -- ---- the whole

    next_ready : (x : Fetched) → D.next_stage x ≤ D.resolve
    next_ready x = go (next_in d x) (sound x).next_timely
      where
        go : (o : Option (Expr × Expr)) → NextTimely stages o → next_stage_of stages o ≤ stages.resolve
        go None h = omega arith
        go (Some n) h = let a : stage_of stages n.0 ≤ stages.resolve = h.0.0 in let b : stage_of stages n.1 ≤ stages.resolve = h.1.0 in omega arith

    forwarded : (x : Fetched) (v : View) (r j : ℕ) (old older : BitValue) → IsTrue (D.forward r) → D.put x v r j old ≡ D.put x v r j older
    forwarded x v zero j old older h = absurd (no h)
    forwarded x v (suc r) j old older h =
        by_write (λ (o : Option Write). option_map_or (λ (z : Write). put_by d x.word (reads_in d v) z (suc r) j old) o no_contents ≡ option_map_or (λ (z : Write). put_by d x.word (reads_in d v) z (suc r) j older) o no_contents) (suc r) (writes_in d x) refl (λ z m e. refl)

    known : (x : Fetched) (v w : View) (r j : ℕ) → D.whole r ≡ false → D.reads x v r j ≡ D.reads x w r j
    known x v w zero j h = absurd (no (sym h))
    known x v w (suc r) j h = trees_known d stages x.word (reads_in d v) (reads_in d w) (trees x) (sound x).plain r j

    whole_read : (x : Fetched) (v w : View) (r j : ℕ) → D.whole r ≡ true → IsTrue (D.reads x v r j) → (k : ℕ) × IsTrue (D.reads x w r k)
    whole_read x v w zero j h is = trees_memory d stages x.word (reads_in d v) (reads_in d w) (trees x) j is
    whole_read x v w (suc r) j h is = absurd (some_number r h)

    whole_named : (x : Fetched) (v : View) (r j k : ℕ) → D.whole r ≡ true → D.names x v r j ≡ D.names x v r k
    whole_named x v zero j k h = by_write (λ (o : Option Write). option_map_or (λ (z : Write). is_named d x.word (reads_in d v) z 0 j) o false ≡ option_map_or (λ (z : Write). is_named d x.word (reads_in d v) z 0 k) o false) 0 (writes_in d x) refl (λ z m e. refl)
    whole_named x v (suc r) j k h = absurd (some_number r h)

    whole_waits : (r : ℕ) → D.whole r ≡ true → D.forward r ≡ false
    whole_waits zero h = refl
    whole_waits (suc r) h = absurd (some_number r h)

    -- the description is placed
    pub is_placed : IsPlaced D
    is_placed = record {
      read_first = λ r. (order r).0;
      resolve_first = λ r. (order r).1;
      within = λ r. (order r).2;
      guard_ready = λ x r. by_write (λ (o : Option Write). option_map_or (λ (z : Write). stage_of stages z.guard) o 0 ≤ written_in stages r) r (writes_in d x) (omega arith) (λ z m e. (timely x r z m e).0);
      value_ready = λ x r. by_write (λ (o : Option Write). option_map_or (put_stage stages) o 0 ≤ written_in stages r) r (writes_in d x) (omega arith) (λ z m e. (timely x r z m e).1);
      next_ready = next_ready;
      reads_agree = reads_agree;
      names_agree = λ x v w a r j. names_agree x v w r j;
      guard_agrees = guard_agrees;
      put_agrees = put_agrees;
      next_agrees = next_agrees;
      asks_agree = asks_agree;
      forwarded = forwarded;
      index_known = λ x v w r j h pc. known x v w r j h;
      whole_read = whole_read;
      whole_named = whole_named;
      whole_waits = whole_waits;
    }
