-- What the rules of a micro architecture say of the stages in which resources are read and written.
use Rattle.std.proofs.Common.{◌≡◌, ℕ, zero, suc, ◌+◌, ◌-◌, ◌<◌, ◌≤◌, Bool, true, false, ◌&&◌, ◌||◌, nat_le, nat_lt, IsTrue, List, [], ◌∷◌, map, length, get_or, slice_get, Option, Some, None, unwrap_or, refl, sym, ap, subst, ◌∙◌, cond, arith}
use Rattle.std.specs.Option.{option_map, option_map_or}
use Rattle.std.specs.List.{list_all, list_any, filter, position, range_with_len}
use Rattle.std.proofs.lemmas.Bool.Decides.{nat_tests}
use Rattle.std.proofs.lemmas.Option.{slice_get-map, slice_get-get_or, slice_get_past}
use Rattle.std.proofs.lemmas.List.FromFn.{get_or-range_with_len, length-range_with_len}
use Rattle.std.proofs.lemmas.List.Quantifiers.{position-Some}
use Rattle.vg_isa.specs.declared.isa.Parts.{Parts}
use Rattle.vg_isa.specs.declared.ids.ResourceId.{ResourceId}
use Rattle.vg_isa.specs.declared.ids.ResourceId.TheVariants.{Memory, Reg}
use Rattle.vg_isa.specs.declared.abi.Act.{Act}
use Rattle.vg_isa.specs.declared.abi.Stage.{Stage}
use Rattle.vg_isa.specs.declared.abi.Micro.{Micro}
use Rattle.vg_isa.specs.Micro.{is_micro, is_in_order, is_read, is_written, is_resolve, stages_from, stages_of, none_after, resources_of}
use Rattle.vg_isa.proofs.Tests.{both, list_all-slice_get, true-nat_le}
use Rattle.vg_place.specs.declared.stage_table.Access.{Access}
use Rattle.vg_place.specs.Stage.{act_stage, access_of, stages_in, read_stage, write_stage}
use Rattle.vg_place.specs.Reading.{stage_at}
use Rattle.vg_pipe.specs.Seen.{written_in}
use Rattle.vg_pipe.proofs.Reading.{no, all_front, all_back}

-- ---- a stage where an act stands

-- what holds of each place of an act holds of this one
here : (p : ℕ → Bool) (is : Act → Bool) (s : ℕ) (acts : List Act) → IsTrue (list_all p (map (λ a. s) (filter is acts))) → list_any is acts ≡ true → IsTrue (p s)
here p is s [] h any = absurd (no any)
here p is s (a ∷ acts) h any = go (here p is s acts) (is a) refl
  where
    go : (IsTrue (list_all p (map (λ x. s) (filter is acts))) → list_any is acts ≡ true → IsTrue (p s)) → (b : Bool) → is a ≡ b → IsTrue (p s)
    go rest true e =
        let all : IsTrue (p s && list_all p (map (λ x. s) (filter is acts))) = subst (λ (z : Bool). IsTrue (list_all p (map (λ x. s) (cond z (a ∷ filter is acts) (filter is acts))))) e h in
        (both (p s) (list_all p (map (λ x. s) (filter is acts))) all).0
    go rest false e =
        rest (subst (λ (z : Bool). IsTrue (list_all p (map (λ x. s) (cond z (a ∷ filter is acts) (filter is acts))))) e h)
        (subst (λ (z : Bool). (z || list_any is acts) ≡ true) e any)

there : (p : ℕ → Bool) (is : Act → Bool) (s : ℕ) (stages : List Stage) (i : ℕ) (d : Stage) → IsTrue (list_all p (stages_from s is stages))
    → i < length stages → list_any is (get_or stages i d).acts ≡ true → IsTrue (p (s + i))
there p is s [] i d h lt any = absurd (omega arith)
there p is s (stage ∷ stages) zero d h lt any =
    let e : s ≡ s + 0 = omega arith in
    subst (λ (n : ℕ). IsTrue (p n)) e (here p is s stage.acts (all_front p (map (λ a. s) (filter is stage.acts)) (stages_from (s + 1) is stages) h) any)
there p is s (stage ∷ stages) (suc i) d h lt any =
    let e : (s + 1) + i ≡ s + suc i = omega arith in
    subst (λ (n : ℕ). IsTrue (p n)) e (there p is (s + 1) stages i d (all_back p (map (λ a. s) (filter is stage.acts)) (stages_from (s + 1) is stages) h) (omega arith) any)

module _ (micro : Micro) (some : 1 ≤ length micro.stages) where
  abbrev has : (Act → Bool) → Stage → Bool
  has is stage = list_any is stage.acts

  -- the position of an act is one of its places
  placed : (p : ℕ → Bool) (is : Act → Bool) (i : ℕ) → IsTrue (list_all p (stages_of micro is)) → position (has is) micro.stages ≡ Some i → IsTrue (p i)
  placed p is i h e = by micro.stages h e
    where
      by : (stages : List Stage) → IsTrue (list_all p (stages_from 0 is stages)) → position (has is) stages ≡ Some i → IsTrue (p i)
      by [] h e = absurd (neither e)
        where
          neither : None ≡ Some i → ⊥
          neither x = cc
      by (stage ∷ stages) h e =
          let at = position-Some (has is) (stage ∷ stages) i stage e in
          let same : 0 + i ≡ i = omega arith in
          subst (λ (n : ℕ). IsTrue (p n)) same (there p is 0 (stage ∷ stages) i stage h at.0 at.1)

  -- an act stands in a stage that there is
  pub act_within : (is : Act → Bool) (i : ℕ) → position (has is) micro.stages ≡ Some i → i < length micro.stages
  act_within is i e = by micro.stages e
    where
      by : (stages : List Stage) → position (has is) stages ≡ Some i → i < length stages
      by [] e = absurd (neither e)
        where
          neither : None ≡ Some i → ⊥
          neither x = cc
      by (stage ∷ stages) e = (position-Some (has is) (stage ∷ stages) i stage e).0

  -- an act that is never after another stands no later; one that there isn't stands in the first or the last stage
  pub in_order : (first second : Act → Bool) → IsTrue (none_after (stages_of micro first) (stages_of micro second))
      → act_stage 0 first micro ≤ act_stage (length micro.stages - 1) second micro
  in_order first second h = go (position (has first) micro.stages) refl (position (has second) micro.stages) refl
    where
      go : (a : Option ℕ) → position (has first) micro.stages ≡ a → (b : Option ℕ) → position (has second) micro.stages ≡ b → unwrap_or a 0 ≤ unwrap_or b (length micro.stages - 1)
      go None ea b eb = omega arith
      go (Some i) ea None eb = let lt : i < length micro.stages = act_within first i ea in omega arith
      go (Some i) ea (Some j) eb =
          let all : IsTrue (list_all (nat_le i) (stages_of micro second)) = placed (λ s. list_all (nat_le s) (stages_of micro second)) first i h ea in
          true-nat_le i j (placed (nat_le i) second j all eb)

  pub within : (is : Act → Bool) → act_stage (length micro.stages - 1) is micro < length micro.stages
  within is = go (position (has is) micro.stages) refl
    where
      go : (a : Option ℕ) → position (has is) micro.stages ≡ a → unwrap_or a (length micro.stages - 1) < length micro.stages
      go None e = omega arith
      go (Some i) e = act_within is i e

-- ---- resources

-- the access of a register, where it is declared
at_register : {X : Type 0} (f : ℕ → X) (n r : ℕ) → r < n → slice_get (map f (range_with_len 0 n)) r ≡ Some (f r)
at_register f n r lt =
    slice_get-map f (range_with_len 0 n) r
    ∙ ap (option_map f) (slice_get-get_or (range_with_len 0 n) r 0 (let e : length (range_with_len 0 n) ≡ n = length-range_with_len 0 n in omega arith) ∙ ap Some (get_or-range_with_len 0 n r 0 lt ∙ (let z : 0 + r ≡ r = omega arith in z)))

past_registers : {X : Type 0} (f : ℕ → X) (n r : ℕ) → n ≤ r → slice_get (map f (range_with_len 0 n)) r ≡ None
past_registers f n r le =
    slice_get-map f (range_with_len 0 n) r
    ∙ ap (option_map f) (slice_get_past (range_with_len 0 n) r (let e : length (range_with_len 0 n) ≡ n = length-range_with_len 0 n in omega arith))

module _ (d : Parts) (micro : Micro) (some : 1 ≤ length micro.stages) (h : IsTrue (is_micro d micro)) where
  abbrev Ordered : ℕ → ℕ → Type 0
  Ordered read write = (read ≤ write) × ((stages_in d micro).resolve ≤ write) × (write < length micro.stages)

  all : IsTrue (list_all (is_in_order d micro) (resources_of d))
  all = (both _ _ (both _ _ (both _ _ h).0).0).1

  of_access : (r : ResourceId) → IsTrue (is_in_order d micro r) → Ordered (access_of micro r).read (access_of micro r).write
  of_access r k =
      let first = both _ _ k in
      (in_order micro some (is_read r) (is_written r) (both _ _ first.0).1, in_order micro some is_resolve (is_written r) first.1, within micro some (is_written r))

  abbrev resource : ℕ → ResourceId
  resource k = Reg (record { 0 = k })

  resolve_within : (stages_in d micro).resolve ≤ length micro.stages - 1
  resolve_within = let m = (of_access Memory (both _ _ all).0) in let a : (stages_in d micro).resolve ≤ (access_of micro Memory).write = m.1 in let b : (access_of micro Memory).write < length micro.stages = m.2 in omega arith

  -- each resource is read no later than it is written, and written no earlier than the next program counter is
  -- decided, in a stage that there is
  pub resource_order : (r : ℕ) → Ordered (stage_at (stages_in d micro) r) (written_in (stages_in d micro) r)
  resource_order zero = of_access Memory (both _ _ all).0
  resource_order (suc r) = go (nat_lt r (length d.regs)) refl
    where
      accesses : ℕ → Access
      accesses k = access_of micro (Reg (record { 0 = k }))

      by : (o : Option Access) → slice_get (map accesses (range_with_len 0 (length d.regs))) r ≡ o
          → Ordered (option_map_or (λ (a : Access). a.read) o 0) (option_map_or (λ (a : Access). a.write) o (length micro.stages - 1))
          → Ordered (read_stage (stages_in d micro) (Reg (record { 0 = r }))) (write_stage (stages_in d micro) (Reg (record { 0 = r })))
      by o e k = subst (λ (z : Option Access). Ordered (option_map_or (λ (a : Access). a.read) z 0) (option_map_or (λ (a : Access). a.write) z (length micro.stages - 1))) (sym e) k

      go : (b : Bool) → nat_lt r (length d.regs) ≡ b → Ordered (read_stage (stages_in d micro) (Reg (record { 0 = r }))) (write_stage (stages_in d micro) (Reg (record { 0 = r })))
      go true e =
          let lt : r < length d.regs = grind (arith, nat_tests) in
          by (Some (accesses r)) (at_register accesses (length d.regs) r lt)
          (of_access (Reg (record { 0 = r })) (list_all-slice_get (is_in_order d micro) (map resource (range_with_len 0 (length d.regs))) r (resource r) (both _ _ all).1 (at_register resource (length d.regs) r lt)))
      go false e =
          let le : length d.regs ≤ r = grind (arith, nat_tests) in
          let last : (stages_in d micro).resolve ≤ length micro.stages - 1 = resolve_within in
          by None (past_registers accesses (length d.regs) r le) (omega arith, last, omega arith)
