-- What an instruction that neither calls nor ends a block sets fits its types.
use Rattle.std.proofs.Common.{◌≡◌, ℕ, ◌+◌, ◌-◌, ◌^◌, ◌<◌, ◌≤◌, Bool, true, false, ◌&&◌, List, [], ◌∷◌, Some, inl, inr, refl, ap, subst, ◌∙◌, arith}
use Rattle.std.specs.Prelude.{if◌then◌else◌, option_map}
use Rattle.std.specs.List.{list_all}
use Rattle.std.proofs.lemmas.Bool.{and_parts}
use Rattle.vg_ir.specs.declared.name.Name.{Name}
use Rattle.vg_ir.specs.declared.ty.Ty.{Ty}
use Rattle.vg_ir.specs.declared.instruction.Instruction.{Instruction}
use Rattle.vg_ir.specs.declared.instruction.Instruction.TheVariants as instruction
use Rattle.vg_ir.specs.declared.block.Block.{Block}
use Rattle.vg_ir.specs.declared.function.Function.{Function}
use Rattle.vg_ir.specs.declared.module.Parts.{Parts}
use Rattle.vg_ir.specs.Lookup.{same_name}
use Rattle.vg_ir.specs.Shape.{has_widths, is_scalar}
use Rattle.vg_ir.specs.WellFormed.{is_operand, is_value_type, is_instruction, is_phi, is_terminator, is_block, has_no_alloca, are_blocks, is_result_type, is_function, is_global, is_structure, is_module}
use Rattle.vg_ir.specs.Memory.{Object}
use Rattle.vg_ir.specs.Answer.{Answer, Known, ◌>>=◌}
use Rattle.vg_ir.specs.State.{Placement, Values, with_value, Frame, IrState}
use Rattle.vg_ir.specs.Effect.{Effect, sets_result, sets_bytes, alloca_object, binary_result, compare_result, select_result, cast_result, freeze_result, load_result, element_result, store_result, effect}
use Rattle.vg_ir.specs.Outcomes.{IfKnown}
use Rattle.vg_ir.specs.Sound.{IsIn, instructions_of, at_width, SetsAt, FitsName, FitNames, IsOwn, IsFrame, AreStacked, AreBytes, IsPlaced, alloca_size}
use Rattle.vg_ir.proofs.Binding.{bind_known}
use Rattle.vg_ir.proofs.Membership.{some_same, all-in, flat_map-in}
use Rattle.vg_ir.proofs.Widths.{from_known, Below}
use Rattle.vg_ir.proofs.Results.{binary-below, compare-below, select-below, cast-below, freeze-below, element-below}
use Rattle.vg_ir.proofs.Bytes.{load-below, store-bytes}

-- one value more
pub fits_with : (p : Placement) (f : Function) (values : Values) (n : Name) (w x : ℕ) → SetsAt p f n w → x < 2 ^ w → FitNames p f values → FitNames p f (with_value n x values)
fits_with p f values n w x sets below fits q y h = by_name (same_name n q) refl h
  where
    by_name : (b : Bool) → same_name n q ≡ b → (if b then Some x else values q) ≡ Some y → FitsName p f q y
    by_name true e k = (n, w, sets, e, subst (λ z. z < 2 ^ w) (some_same x y k) below)
    by_name false e k = fits q y k

blocks-formed : (bs : List Block) → are_blocks bs ≡ true → (b : Block) → IsIn b bs → is_block b ≡ true
blocks-formed [] h b k = absurd k
blocks-formed (entry ∷ others) h b k = by_place k
  where
    both : (is_block entry && list_all is_block others) ≡ true
    both = (and_parts (is_block entry && list_all is_block others) (list_all has_no_alloca others) h).0

    by_place : IsIn b (entry ∷ others) → is_block b ≡ true
    by_place (inl e) = ap is_block e ∙ (and_parts (is_block entry) (list_all is_block others) both).0
    by_place (inr i) = all-in is_block others b (and_parts (is_block entry) (list_all is_block others) both).1 i

-- an instruction of a function of a well formed module
pub instruction-formed : (m : Parts) → is_module m ≡ true → (f : Function) (i : Instruction) → IsIn f m.functions → IsIn i (instructions_of f.blocks) → is_instruction i ≡ true
instruction-formed m formed f i in_module in_function =
    let functions : list_all is_function m.functions ≡ true = (and_parts (list_all is_structure m.structures && list_all is_global m.globals) (list_all is_function m.functions) formed).1 in
    let function : is_function f ≡ true = all-in is_function m.functions f functions in_module in
    let blocks : are_blocks f.blocks ≡ true = (and_parts (is_result_type f.gives && list_all (λ q. is_value_type q.ty) f.parameters) (are_blocks f.blocks) function).1 in
    in_block blocks (flat_map-in (λ (b : Block). b.instructions) f.blocks i in_function)
  where
    in_block : are_blocks f.blocks ≡ true → (b : Block) × IsIn b f.blocks × IsIn i b.instructions → is_instruction i ≡ true
    in_block blocks (b, in_blocks, here) =
        let block : is_block b ≡ true = blocks-formed f.blocks blocks b in_blocks in
        let all : (list_all is_phi b.phis && list_all is_instruction b.instructions) ≡ true = (and_parts (list_all is_phi b.phis && list_all is_instruction b.instructions) (is_terminator b.terminator) block).0 in
        all-in is_instruction b.instructions i (and_parts (list_all is_phi b.phis) (list_all is_instruction b.instructions) all).1 here

-- a frame ends at the stack's high end or below
pub stacked-below : (m : Parts) (p : Placement) (f : Frame) (fs : List Frame) → AreStacked m p (f ∷ fs) → f.base + p.frame f.function.name.name ≤ p.high
stacked-below m p f [] h = let e : f.base + p.frame f.function.name.name ≡ p.high - p.passed = h.0.ends in omega (arith, e)
stacked-below m p f (g ∷ gs) h =
    let e : f.base + p.frame f.function.name.name ≡ g.base = h.0.ends in
    let le : g.base + p.frame g.function.name.name ≤ p.high = stacked-below m p g gs h.1 in
    omega (arith, e, le)

-- what an effect keeps of a frame and of the bytes
pub record EffectFits (m : Parts) (p : Placement) (f : Frame) (e : Effect) : Type 0 where
  pub values : FitNames p f.function e.values
  pub bytes : AreBytes e.set
  pub objects : (o : Object) → IsIn o e.objects → IsOwn m p f o

module _ (m : Parts) (p : Placement) (placed : IsPlaced m p) (s : IrState) (frame : IsFrame m p s.frame) (bytes : AreBytes s.set) (top : s.frame.base + p.frame s.frame.function.name.name ≤ p.high) where
  abbrev Fits : Effect → Type 0
  Fits e = EffectFits m p s.frame e

  abbrev f : Function
  f = s.frame.function

  set_at : (n : Name) (w x : ℕ) → SetsAt p f n w → x < 2 ^ w → Fits (sets_result s n x)
  set_at n w x sets below = record {
    values = fits_with p f s.frame.values n w x sets below frame.values;
    bytes = bytes;
    objects = frame.objects;
  }

  -- a result of a width
  result_at : (a : Answer ℕ) (n : Name) (w : ℕ) → SetsAt p f n w → IfKnown a (λ x. x < 2 ^ w) → IfKnown (a >>= λ x. Known (sets_result s n x)) Fits
  result_at a n w sets below =
      bind_known a (λ x. Known (sets_result s n x)) Fits (λ x e. set_at n w x sets (from_known a (λ y. y < 2 ^ w) x below e))

  -- a result of the width of a type
  result_of_type : (a : Answer ℕ) (n : Name) (t : Ty) → ((w : ℕ) → at_width p n t ≡ Some (n, w) → SetsAt p f n w) → IfKnown a (Below p t) → IfKnown (a >>= λ x. Known (sets_result s n x)) Fits
  result_of_type a n t sets below =
      bind_known a (λ x. Known (sets_result s n x)) Fits (λ x e. of_below x (from_known a (Below p t) x below e))
    where
      of_below : (x : ℕ) → Below p t x → Fits (sets_result s n x)
      of_below x (w, is, h) = set_at n w x (sets w (ap (λ o. option_map (λ k. (n, k)) o) is)) h

  -- each instruction of the function
  pub effect-fits : (i : Instruction) → IsIn i (instructions_of f.blocks) → is_instruction i ≡ true → IfKnown (effect m p s i) Fits
  effect-fits (instruction.Binary i) here formed =
      let operands : (is_value_type i.ty && is_operand i.ty i.left) ≡ true = (and_parts (is_value_type i.ty && is_operand i.ty i.left) (is_operand i.ty i.right) formed).0 in
      let type : is_value_type i.ty ≡ true = (and_parts (is_value_type i.ty) (is_operand i.ty i.left) operands).0 in
      result_of_type (binary_result p s.frame.values i) i.result.name i.ty.ty (λ w e. inr (inr (instruction.Binary i, here, e))) (binary-below p placed.width s.frame.values i (and_parts (has_widths i.ty.ty) (is_scalar i.ty.ty) type).0)
  effect-fits (instruction.Compare i) here formed =
      result_at (compare_result p s.frame.values i) i.result.name 1 (inr (inr (instruction.Compare i, here, refl))) (compare-below p placed.width s.frame.values i)
  effect-fits (instruction.Select i) here formed =
      result_of_type (select_result p s.frame.values i) i.result.name i.then.ty.ty (λ w e. inr (inr (instruction.Select i, here, e))) (select-below p placed.width s.frame.values i)
  effect-fits (instruction.Cast i) here formed =
      result_of_type (cast_result p s.frame.values i) i.result.name i.target.ty (λ w e. inr (inr (instruction.Cast i, here, e))) (cast-below p placed.width s.frame.values i)
  effect-fits (instruction.Freeze i) here formed =
      result_of_type (freeze_result p s.frame.values i) i.result.name i.operand.ty.ty (λ w e. inr (inr (instruction.Freeze i, here, e))) (freeze-below p placed.width s.frame.values i)
  effect-fits (instruction.Alloca i) here formed = record {
    values = fits_with p f s.frame.values i.result.name p.width (s.frame.base + p.offset f.name.name i.result.name) (inr (inr (instruction.Alloca i, here, refl))) address frame.values;
    bytes = bytes;
    objects = objects;
  }
    where
      address : s.frame.base + p.offset f.name.name i.result.name < 2 ^ p.width
      address =
          let inside : p.offset f.name.name i.result.name + alloca_size m p i ≤ p.frame f.name.name = placed.inside f i (frame.defined, here) in
          let high : p.high < 2 ^ p.width = placed.high in
          omega (arith, inside, high, top)

      objects : (o : Object) → IsIn o (alloca_object m p s.frame i ∷ s.frame.objects) → IsOwn m p s.frame o
      objects o (inl e) = (i, here, e)
      objects o (inr k) = frame.objects o k
  effect-fits (instruction.Load i) here formed =
      result_of_type (load_result m p s i) i.result.name i.ty.ty (λ w e. inr (inr (instruction.Load i, here, e))) (load-below m p placed.width s bytes i (and_parts (has_widths i.ty.ty) (is_scalar i.ty.ty) formed).0)
  effect-fits (instruction.Store i) here formed =
      bind_known (store_result m p s i) (λ set. Known (sets_bytes s set)) Fits (λ set e. record {
        values = frame.values;
        bytes = from_known (store_result m p s i) AreBytes set (store-bytes m p placed.width s bytes i) e;
        objects = frame.objects;
      })
  effect-fits (instruction.ElementPointer i) here formed =
      result_at (element_result m p s.frame.values i) i.result.name p.width (inr (inr (instruction.ElementPointer i, here, refl))) (element-below p placed.width s.frame.values m i)
  effect-fits (instruction.Call i) here formed = tt
