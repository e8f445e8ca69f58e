-- Each step from a sound state leads to a sound state, and the start is one.
use Rattle.std.proofs.Common.{◌≡◌, ℕ, ◌+◌, ◌-◌, ◌≤◌, Bool, true, false, nat_eq, nat_lt, List, [], ◌∷◌, Option, Some, None, inl, inr, refl, sym, ap, subst, ◌∙◌, arith}
use Rattle.std.specs.Prelude.{if◌then◌else◌, option_map, option_and_then, find, zero, suc}
use Rattle.std.proofs.lemmas.Bool.{ltb-false}
use Rattle.vg_ir.specs.declared.name.Name.{Name}
use Rattle.vg_ir.specs.declared.operand.TypedOperand.{TypedOperand}
use Rattle.vg_ir.specs.declared.instruction.Instruction.{Instruction}
use Rattle.vg_ir.specs.declared.instruction.Instruction.TheVariants as instruction
use Rattle.vg_ir.specs.declared.instruction.Call.{Call}
use Rattle.vg_ir.specs.declared.terminator.Terminator.{Terminator}
use Rattle.vg_ir.specs.declared.terminator.Terminator.TheVariants as terminator
use Rattle.vg_ir.specs.declared.block.Block.{Block}
use Rattle.vg_ir.specs.declared.block.Phi.{Phi}
use Rattle.vg_ir.specs.declared.block.Incoming.{Incoming}
use Rattle.vg_ir.specs.declared.function.Function.{Function}
use Rattle.vg_ir.specs.declared.function.Parameter.{Parameter}
use Rattle.vg_ir.specs.declared.module.Parts.{Parts}
use Rattle.vg_ir.specs.Lookup.{same_name, function_named, block_named}
use Rattle.vg_ir.specs.Memory.{Bytes, cleared}
use Rattle.vg_ir.specs.Answer.{Answer, Known, Wrong, Lacking, ◌>>=◌, known}
use Rattle.vg_ir.specs.State.{Placement, Values, no_values, with_value, Destination, Frame, IrState}
use Rattle.vg_ir.specs.Operands.{value_width, of_width, operand, operand_at, typed_operand}
use Rattle.vg_ir.specs.Effect.{Effect, effect, takes_effect}
use Rattle.vg_ir.specs.Control.{Outcome, Next, End, StackFull, Undefined, Unset, go_on, phi_value, phi_values, in_block, jumped, switch_target, bound, fresh_frame, first_block, entered, argument_values, destination_of, behind_call, called, with_result, given_back, returned}
use Rattle.vg_ir.specs.Step.{terminator_step, instruction_step, step_at, ir_step}
use Rattle.vg_ir.specs.Run.{start_bytes, start, stepped, ir_run}
use Rattle.vg_ir.specs.Outcomes.{IfNext, IfKnown}
use Rattle.vg_ir.specs.Sound.{IsIn, instructions_of, phis_of, SetsAt, FitNames, IsFrame, end_of, FitsCaller, Stands, AreStacked, AreBytes, IsSound, IsPlaced}
use Rattle.vg_ir.proofs.Binding.{bind_known, go_on-next}
use Rattle.vg_ir.proofs.Membership.{some_same, none_some, found, in-flat_map}
use Rattle.vg_ir.proofs.Widths.{IsOf, operand_at-is, from_known, known_bind, Below, of_width-below}
use Rattle.vg_ir.proofs.Bytes.{cleared-bytes}
use Rattle.vg_ir.proofs.InitialBytes.{start_bytes-below}
use Rattle.vg_ir.proofs.Effects.{fits_with, instruction-formed, stacked-below, EffectFits, effect-fits}

-- behind what is looked up
pub go_on_known : {A : Type 0} (o : Option A) (f : A → Outcome) (P : IrState → Type 0) → ((x : A) → o ≡ Some x → IfNext (f x) P) → IfNext (go_on (known o) f) P
go_on_known None f P h = tt
go_on_known (Some x) f P h = h x refl

module _ (m : Parts) (p : Placement) (placed : IsPlaced m p) where
  abbrev Sound : IrState → Type 0
  Sound s = IsSound m p s

  -- ---- effects

  after_effect : (s : IrState) (left : List Instruction) → IsSound m p s → ((i : Instruction) → IsIn i left → IsIn i (instructions_of s.frame.function.blocks)) → (e : Effect) → EffectFits m p s.frame e → IsSound m p (takes_effect s e left)
  after_effect s left sound inside e fits = record {
    stacked = (
      record {
        frame = record { defined = sound.stacked.0.frame.defined; left = inside; values = fits.values; objects = fits.objects };
        ends = sound.stacked.0.ends;
        low = sound.stacked.0.low;
        fits = sound.stacked.0.fits;
      },
      sound.stacked.1,
    );
    bytes = fits.bytes;
  }

  effect-next : (s : IrState) (i : Instruction) (left : List Instruction) → IsSound m p s → ((j : Instruction) → IsIn j (i ∷ left) → IsIn j (instructions_of s.frame.function.blocks)) → IfNext (go_on (effect m p s i) (λ e. Next (takes_effect s e left))) Sound
  effect-next s i left sound inside =
      let here : IsIn i (instructions_of s.frame.function.blocks) = inside i (inl refl) in
      let frame : IsFrame m p s.frame = sound.stacked.0.frame in
      on (effect m p s i) (effect-fits m p placed s frame sound.bytes (stacked-below m p s.frame s.waiting sound.stacked) i here (instruction-formed m placed.formed s.frame.function i frame.defined here))
    where
      on : (a : Answer Effect) → IfKnown a (EffectFits m p s.frame) → IfNext (go_on a (λ e. Next (takes_effect s e left))) Sound
      on (Known e) k = after_effect s left sound (λ j h. inside j (inr h)) e k
      on (Wrong c) k = tt
      on Lacking k = tt

  -- ---- branches

  phi-below : (values : Values) (from : Name) (phi : Phi) → IfKnown (phi_value p values from phi) (Below p phi.ty.ty)
  phi-below values from phi =
      known_bind (find (λ (i : Incoming). same_name i.block.name from) phi.incoming) (λ incoming. operand_at p values phi.ty.ty incoming.operand >>= λ x. Known x.number) (Below p phi.ty.ty) (λ incoming e.
      bind_known (operand_at p values phi.ty.ty incoming.operand) (λ x. Known x.number) (Below p phi.ty.ty) (λ x k.
      let is : IsOf p phi.ty.ty x = from_known (operand_at p values phi.ty.ty incoming.operand) (IsOf p phi.ty.ty) x (operand_at-is p values phi.ty.ty incoming.operand) k in
      (x.width, is.width, is.below)))

  phis-fit : (f : Function) (before : Values) (from : Name) (phis : List Phi) → ((i : Phi) → IsIn i phis → IsIn i (phis_of f.blocks)) → (after : Values) → FitNames p f after → IfKnown (phi_values p before from phis after) (FitNames p f)
  phis-fit f before from [] inside after fits = fits
  phis-fit f before from (phi ∷ phis) inside after fits =
      bind_known (phi_value p before from phi) (λ x. phi_values p before from phis (with_value phi.result.name x after)) (FitNames p f) (λ x e.
      phis-fit f before from phis (λ i h. inside i (inr h)) (with_value phi.result.name x after) (set x (from_known (phi_value p before from phi) (Below p phi.ty.ty) x (phi-below before from phi) e)))
    where
      set : (x : ℕ) → Below p phi.ty.ty x → FitNames p f (with_value phi.result.name x after)
      set x (w, is, below) = fits_with p f after phi.result.name w x (inr (inl (phi, inside phi (inl refl), ap (λ o. option_map (λ k. (phi.result.name, k)) o) is))) below fits

  jumped-sound : (s : IrState) (target : Name) → IsSound m p s → IfNext (jumped p s target) Sound
  jumped-sound s target sound =
      go_on_known (block_named s.frame.function target) (λ b. go_on (phi_values p s.frame.values s.frame.block b.phis s.frame.values) (λ values. Next (in_block s b values))) Sound (λ b eb.
      let here : IsIn b s.frame.function.blocks = (found (λ (c : Block). same_name c.name.name target) s.frame.function.blocks b eb).0 in
      go_on-next (phi_values p s.frame.values s.frame.block b.phis s.frame.values) (λ values. Next (in_block s b values)) Sound (λ values ev.
      record {
        stacked = (
          record {
            frame = record {
              defined = sound.stacked.0.frame.defined;
              left = λ i h. in-flat_map (λ (c : Block). c.instructions) s.frame.function.blocks b i here h;
              values = from_known (phi_values p s.frame.values s.frame.block b.phis s.frame.values) (FitNames p s.frame.function) values (phis-fit s.frame.function s.frame.values s.frame.block b.phis (λ i h. in-flat_map (λ (c : Block). c.phis) s.frame.function.blocks b i here h) s.frame.values sound.stacked.0.frame.values) ev;
              objects = sound.stacked.0.frame.objects;
            };
            ends = sound.stacked.0.ends;
            low = sound.stacked.0.low;
            fits = sound.stacked.0.fits;
          },
          sound.stacked.1,
        );
        bytes = sound.bytes;
      }))

  -- ---- calls

  bound-fits : (f : Function) (qs : List Parameter) → ((q : Parameter) → IsIn q qs → IsIn q f.parameters) → (xs : List ℕ) (values after : Values) → FitNames p f values → bound p.width qs xs values ≡ Some after → FitNames p f after
  bound-fits f [] inside [] values after fits h = subst (FitNames p f) (some_same values after h) fits
  bound-fits f [] inside (x ∷ xs) values after fits h = absurd (none_some after h)
  bound-fits f (q ∷ qs) inside [] values after fits h = absurd (none_some after h)
  bound-fits f (q ∷ qs) inside (x ∷ xs) values after fits h =
      by_width (value_width p.width q.ty.ty) refl h (λ y set k. bound-fits f qs (λ r i. inside r (inr i)) xs (with_value q.name.name y values) after set k)
    where
      Rest : Type 0
      Rest = (y : ℕ) → FitNames p f (with_value q.name.name y values) → bound p.width qs xs (with_value q.name.name y values) ≡ Some after → FitNames p f after

      by_number : (w : ℕ) → value_width p.width q.ty.ty ≡ Some w → (o : Option ℕ) → of_width w x ≡ o → option_and_then (λ y. bound p.width qs xs (with_value q.name.name y values)) o ≡ Some after → ((y : ℕ) → FitNames p f (with_value q.name.name y values) → bound p.width qs xs (with_value q.name.name y values) ≡ Some after → FitNames p f after) → FitNames p f after
      by_number w ew None e k rest = absurd (none_some after k)
      by_number w ew (Some y) e k rest =
          rest y (fits_with p f values q.name.name w y (inl (q, inside q (inl refl), ap (λ o. option_map (λ j. (q.name.name, j)) o) ew)) (of_width-below w x y e).1 fits) k

      by_width : (o : Option ℕ) → value_width p.width q.ty.ty ≡ o → option_and_then (λ y. bound p.width qs xs (with_value q.name.name y values)) (option_and_then (λ n. of_width n x) o) ≡ Some after → ((y : ℕ) → FitNames p f (with_value q.name.name y values) → bound p.width qs xs (with_value q.name.name y values) ≡ Some after → FitNames p f after) → FitNames p f after
      by_width None e k rest = absurd (none_some after k)
      by_width (Some w) e k rest = by_number w e (of_width w x) refl k rest

  none-fit : (f : Function) → FitNames p f no_values
  none-fit f q x h = absurd (none_some x h)

  first_block-in : (bs : List Block) (b : Block) → first_block bs ≡ Some b → IsIn b bs
  first_block-in [] b h = absurd (none_some b h)
  first_block-in (c ∷ bs) b h = inl (sym (some_same c b h))

  -- a frame that has room
  entered-sound : (f : Function) (arguments : List ℕ) (end : ℕ) (destination : Option Destination) (waiting : List Frame) (set : Bytes) → IsIn f m.functions → p.low + p.frame f.name.name ≤ end → end ≡ end_of p waiting → ((b : Block) (values : Values) → FitsCaller p (fresh_frame f b values (end - p.frame f.name.name) destination) waiting) → AreStacked m p waiting → AreBytes set
      → IfNext (entered p f arguments end destination waiting set) Sound
  entered-sound f arguments end destination waiting set defined room same caller stacked bytes =
      go_on_known (bound p.width f.parameters arguments no_values) (λ values. go_on (known (first_block f.blocks)) (λ entry. Next (record { frame = fresh_frame f entry values (end - p.frame f.name.name) destination; waiting = waiting; set = cleared set (end - p.frame f.name.name) end }))) Sound (λ values ev.
      go_on_known (first_block f.blocks) (λ entry. Next (record { frame = fresh_frame f entry values (end - p.frame f.name.name) destination; waiting = waiting; set = cleared set (end - p.frame f.name.name) end })) Sound (λ entry ee.
      record {
        stacked = (
          record {
            frame = record {
              defined = defined;
              left = λ i h. in-flat_map (λ (c : Block). c.instructions) f.blocks entry i (first_block-in f.blocks entry ee) h;
              values = bound-fits f f.parameters (λ q h. h) arguments no_values values (none-fit f) ev;
              objects = λ o h. absurd h;
            };
            ends = whole same;
            low = omega (arith, room);
            fits = caller entry values;
          },
          stacked,
        );
        bytes = cleared-bytes set (end - p.frame f.name.name) end bytes;
      }))
    where
      whole : end ≡ end_of p waiting → end - p.frame f.name.name + p.frame f.name.name ≡ end_of p waiting
      whole e = let back : end - p.frame f.name.name + p.frame f.name.name ≡ end = omega (arith, room) in back ∙ e

  called-sound : (s : IrState) (c : Call) (left : List Instruction) → IsSound m p s → ((i : Instruction) → IsIn i (instruction.Call c ∷ left) → IsIn i (instructions_of s.frame.function.blocks)) → IfNext (called m p s c left) Sound
  called-sound s c left sound inside =
      go_on_known (function_named m c.callee.name) (λ f. go_on (argument_values p s.frame.values c.arguments) (λ arguments. if nat_lt s.frame.base (p.low + p.frame f.name.name) then StackFull else entered p f arguments s.frame.base (destination_of p c) (behind_call s.frame left ∷ s.waiting) s.set)) Sound (λ f ef.
      go_on-next (argument_values p s.frame.values c.arguments) (λ arguments. if nat_lt s.frame.base (p.low + p.frame f.name.name) then StackFull else entered p f arguments s.frame.base (destination_of p c) (behind_call s.frame left ∷ s.waiting) s.set) Sound (λ arguments ea.
      by_room f arguments (found (λ (g : Function). same_name g.name.name c.callee.name) m.functions f ef).0 (nat_lt s.frame.base (p.low + p.frame f.name.name)) refl))
    where
      sets : (d : Destination) → destination_of p c ≡ Some d → SetsAt p s.frame.function d.name d.width
      sets d e = inr (inr (instruction.Call c, inside (instruction.Call c) (inl refl), ap (λ o. option_map (λ (k : Destination). (k.name, k.width)) o) e))

      caller : Stands m p (behind_call s.frame left) s.waiting
      caller = record {
        frame = record {
          defined = sound.stacked.0.frame.defined;
          left = λ i h. inside i (inr h);
          values = sound.stacked.0.frame.values;
          objects = sound.stacked.0.frame.objects;
        };
        ends = sound.stacked.0.ends;
        low = sound.stacked.0.low;
        fits = waits s.waiting sound.stacked.0.fits;
      }
        where
          waits : (fs : List Frame) → FitsCaller p s.frame fs → FitsCaller p (behind_call s.frame left) fs
          waits [] h = tt
          waits (g ∷ gs) h = h

      by_room : (f : Function) (arguments : List ℕ) → IsIn f m.functions → (b : Bool) → nat_lt s.frame.base (p.low + p.frame f.name.name) ≡ b → IfNext (if b then StackFull else entered p f arguments s.frame.base (destination_of p c) (behind_call s.frame left ∷ s.waiting) s.set) Sound
      by_room f arguments defined true e = tt
      by_room f arguments defined false e =
          entered-sound f arguments s.frame.base (destination_of p c) (behind_call s.frame left ∷ s.waiting) s.set defined (ltb-false s.frame.base (p.low + p.frame f.name.name) e) refl (λ b values d ed. sets d ed) (caller, sound.stacked.1) sound.bytes

  -- ---- returns

  with_result-fits : (caller : Frame) (d : Option Destination) (given : Option ℕ) (values : Values) → ((e : Destination) → d ≡ Some e → SetsAt p caller.function e.name e.width) → FitNames p caller.function caller.values → with_result d given caller.values ≡ Some values → FitNames p caller.function values
  with_result-fits caller None given values sets fits h = subst (FitNames p caller.function) (some_same caller.values values h) fits
  with_result-fits caller (Some d) None values sets fits h = absurd (none_some values h)
  with_result-fits caller (Some d) (Some x) values sets fits h = by_number (of_width d.width x) refl h
    where
      by_number : (o : Option ℕ) → of_width d.width x ≡ o → option_map (λ y. with_value d.name y caller.values) o ≡ Some values → FitNames p caller.function values
      by_number None e k = absurd (none_some values k)
      by_number (Some y) e k = subst (FitNames p caller.function) (some_same (with_value d.name y caller.values) values k) (fits_with p caller.function caller.values d.name d.width y (sets d refl) (of_width-below d.width x y e).1 fits)

  given_back-sound : (s : IrState) (given : Option ℕ) (waiting : List Frame) → FitsCaller p s.frame waiting → AreStacked m p waiting → AreBytes s.set → IfNext (given_back s given waiting) Sound
  given_back-sound s given [] fits stacked bytes = tt
  given_back-sound s given (caller ∷ waiting) fits stacked bytes =
      go_on_known (with_result s.frame.destination given caller.values) (λ values. Next (record { frame = record caller { values = values }; waiting = waiting; set = s.set })) Sound (λ values ev. record {
        stacked = (
          record {
            frame = record {
              defined = stacked.0.frame.defined;
              left = stacked.0.frame.left;
              values = with_result-fits caller s.frame.destination given values fits stacked.0.frame.values ev;
              objects = stacked.0.frame.objects;
            };
            ends = stacked.0.ends;
            low = stacked.0.low;
            fits = waits waiting stacked.0.fits values;
          },
          stacked.1,
        );
        bytes = bytes;
      })
    where
      waits : (fs : List Frame) → FitsCaller p caller fs → (values : Values) → FitsCaller p (record caller { values = values }) fs
      waits [] h values = tt
      waits (g ∷ gs) h values = h

  returned-sound : (s : IrState) (o : Option TypedOperand) → IsSound m p s → IfNext (returned p s o) Sound
  returned-sound s None sound = given_back-sound s None s.waiting sound.stacked.0.fits sound.stacked.1 sound.bytes
  returned-sound s (Some o) sound =
      go_on-next (typed_operand p s.frame.values o) (λ x. given_back s (Some x.number) s.waiting) Sound (λ x e. given_back-sound s (Some x.number) s.waiting sound.stacked.0.fits sound.stacked.1 sound.bytes)

  -- ---- steps

  terminator-sound : (s : IrState) (t : Terminator) → IsSound m p s → IfNext (terminator_step p s t) Sound
  terminator-sound s (terminator.Jump t) sound = jumped-sound s t.target.name sound
  terminator-sound s (terminator.Branch t) sound =
      go_on-next (operand p s.frame.values 1 t.condition) (λ c. jumped p s (if nat_eq c.number 1 then t.then.name else t.otherwise.name)) Sound (λ c e. jumped-sound s (if nat_eq c.number 1 then t.then.name else t.otherwise.name) sound)
  terminator-sound s (terminator.Switch t) sound =
      go_on-next (typed_operand p s.frame.values t.value) (λ x. jumped p s (switch_target t x)) Sound (λ x e. jumped-sound s (switch_target t x) sound)
  terminator-sound s (terminator.Return t) sound = returned-sound s t.value sound
  terminator-sound s (terminator.Unreachable at) sound = tt

  instruction-sound : (s : IrState) (i : Instruction) (left : List Instruction) → IsSound m p s → ((j : Instruction) → IsIn j (i ∷ left) → IsIn j (instructions_of s.frame.function.blocks)) → IfNext (instruction_step m p s i left) Sound
  instruction-sound s (instruction.Call c) left sound inside = called-sound s c left sound inside
  instruction-sound s i left sound inside = effect-next s i left sound inside

  step_at-sound : (s : IrState) (left : List Instruction) → IsSound m p s → ((j : Instruction) → IsIn j left → IsIn j (instructions_of s.frame.function.blocks)) → IfNext (step_at m p s left) Sound
  step_at-sound s [] sound inside = terminator-sound s s.frame.last sound
  step_at-sound s (i ∷ left) sound inside = instruction-sound s i left sound inside

  -- a step from a sound state
  pub step-sound : (s : IrState) → IsSound m p s → IfNext (ir_step m p s) Sound
  step-sound s sound = step_at-sound s s.frame.left sound sound.stacked.0.frame.left

  -- ---- runs

  -- the start
  pub start-sound : (entry : Name) (arguments : List ℕ) → IfNext (start m p entry arguments) Sound
  start-sound entry arguments =
      go_on_known (function_named m entry) (λ f. if nat_lt p.high (p.low + p.frame f.name.name + p.passed) then StackFull else entered p f arguments (p.high - p.passed) None [] (start_bytes m p)) Sound (λ f e.
      by_room f (found (λ (g : Function). same_name g.name.name entry) m.functions f e).0 (nat_lt p.high (p.low + p.frame f.name.name + p.passed)) refl)
    where
      by_room : (f : Function) → IsIn f m.functions → (b : Bool) → nat_lt p.high (p.low + p.frame f.name.name + p.passed) ≡ b → IfNext (if b then StackFull else entered p f arguments (p.high - p.passed) None [] (start_bytes m p)) Sound
      by_room f defined true e = tt
      by_room f defined false e =
          let room : p.low + p.frame f.name.name + p.passed ≤ p.high = ltb-false p.high (p.low + p.frame f.name.name + p.passed) e in
          entered-sound f arguments (p.high - p.passed) None [] (start_bytes m p) defined (omega (arith, room)) refl (λ b values. tt) tt (start_bytes-below m p)

  stepped-sound : (o : Outcome) → IfNext o Sound → IfNext (stepped m p o) Sound
  stepped-sound (Next s) h = step-sound s h
  stepped-sound (End given set) h = tt
  stepped-sound StackFull h = tt
  stepped-sound (Undefined c) h = tt
  stepped-sound Unset h = tt

  -- each state of a run is sound
  pub run-sound : (entry : Name) (arguments : List ℕ) (k : ℕ) → IfNext (ir_run m p entry arguments k) Sound
  run-sound entry arguments zero = start-sound entry arguments
  run-sound entry arguments (suc k) = stepped-sound (ir_run m p entry arguments k) (run-sound entry arguments k)
