-- Runs, one step at a time.
use Rattle.std.proofs.Common.{◌≡◌, inl, ℕ, ◌+◌, ◌<◌, Some, None, Option, sym, ap, ◌∙◌, add-one, subst, arith}
use Rattle.std.specs.Option.{option_map}
use Rattle.vg_isa.specs.declared.isa.Parts.{Parts}
use Rattle.vg_image.specs.declared.image.Image.{Image}
use Rattle.vg_image.specs.declared.ending.Ending.{Ending}
use Rattle.vg_image.specs.declared.ending.Ending.TheVariants.{End, StackEnd, OutOfCode, Illegal}
use Rattle.vg_image.specs.State.{State}
use Rattle.vg_image.specs.Step.{Step, Moved, Over, step_of}
use Rattle.vg_image.specs.Run.{Stand, behind, ending_of, run_of}
use Rattle.vg_image.proofs.Runs.{Behind, moved_more, run_over, run_whole}
use Rattle.vg_iss.specs.declared.stepped.Stepped.{Stepped}
use Rattle.vg_iss.specs.declared.stepped.Stepped.TheVariants as stepped
use Rattle.vg_iss.specs.declared.ran.Ran.{Ran}
use Rattle.vg_iss.specs.Simulator.{answer_of, stepped_of, ran_of, IsRan}

over_moves : (e : Ending) → stepped.Moved ≡ stepped_of e → ⊥
over_moves End h = cc
over_moves StackEnd h = cc
over_moves OutOfCode h = cc
over_moves Illegal h = cc

-- no ending is want of memory
ends_otherwise : (o : Option Ending) → option_map stepped_of o ≡ Some stepped.OutOfMemory → ⊥
ends_otherwise None h = cc
ends_otherwise (Some End) h = cc
ends_otherwise (Some StackEnd) h = cc
ends_otherwise (Some OutOfCode) h = cc
ends_otherwise (Some Illegal) h = cc

-- a step that answers that it moved leads to the state behind it
moved_step : (x : Step) (s t : State) → stepped.Moved ≡ answer_of x → t ≡ behind x s → x ≡ Moved t
moved_step (Moved u) s t answer left = ap Moved (sym left)
moved_step (Over e) s t answer left = absurd (over_moves e answer)

-- the step of the same description and image
same_step : (d e : Parts) (i j : Image) (t : State) → e ≡ d → j ≡ i → step_of d i t ≡ step_of e j t
same_step d e i j t same_d same_i = ap (λ x. step_of x i t) (sym same_d) ∙ ap (λ x. step_of e x t) (sym same_i)

-- one more step at the end of a run
pub behind_more : (d e : Parts) (i j : Image) (k : ℕ) (s t u : State) → e ≡ d → j ≡ i → Behind d i s k t k → stepped.Moved ≡ answer_of (step_of e j t) → u ≡ behind (step_of e j t) t → Behind d i s (k + 1) u (k + 1)
behind_more d e i j k s t u same_d same_i so_far answer left =
    let here : step_of d i t ≡ Moved u = same_step d e i j t same_d same_i ∙ moved_step (step_of e j t) t u answer left in
    subst (λ (n : ℕ). Behind d i s n u n) (sym (add-one k)) (moved_more d i s k t u so_far here)

-- what is said of a run
pub record Ends (d : Parts) (i : Image) (n : ℕ) (s u : State) (ran : Ran) : Type 0 where
  pub run : IsRan d i n s u ran
  pub memory : ran.end ≡ Some stepped.OutOfMemory → ⊥

-- the run's steps and end
ran_so : (d : Parts) (i : Image) (n : ℕ) (s : State) (r : Stand) → run_of d i n s ≡ r → Ends d i n s r.state (ran_of r)
ran_so d i n s r is = record {
  run = inl (record { state = ap (λ (x : Stand). x.state) (sym is); answer = ap ran_of (sym is) });
  memory = ends_otherwise r.ending;
}

-- how a run ends at a step that doesn't move
over_here : (d : Parts) (i : Image) (n k : ℕ) (s t u : State) (a : Stepped) (x : Step) → Behind d i s k t k → k < n → step_of d i t ≡ x → a ≡ answer_of x → (a ≡ stepped.Moved → ⊥) → u ≡ behind x t → Ends d i n s u (record { end = Some a; done = k })
over_here d i n k s t u a (Moved v) so_far within is answer still left = absurd (still answer)
over_here d i n k s t u a (Over e) so_far within is answer still left =
    let named : Ends d i n s t (record { end = Some (stepped_of e); done = k }) = ran_so d i n s _ (run_over d i s k n t e (omega arith) so_far is) in
    subst (λ (v : State). Ends d i n s v (record { end = Some a; done = k })) (sym left)
    (subst (λ (b : Stepped). Ends d i n s t (record { end = Some b; done = k })) (sym answer) named)

pub ran_over : (d e : Parts) (i j : Image) (n k : ℕ) (s t u : State) (a : Stepped) → e ≡ d → j ≡ i → Behind d i s k t k → k < n → a ≡ answer_of (step_of e j t) → (a ≡ stepped.Moved → ⊥) → u ≡ behind (step_of e j t) t → Ends d i n s u (record { end = Some a; done = k })
ran_over d e i j n k s t u a same_d same_i so_far within answer still left =
    over_here d i n k s t u a (step_of e j t) so_far within (same_step d e i j t same_d same_i) answer still left

-- how a run stands that did all steps that were asked for
pub ran_whole : (d e : Parts) (i j : Image) (n k : ℕ) (s t : State) (o : Option Stepped) → e ≡ d → j ≡ i → Behind d i s k t k → k ≡ n → o ≡ option_map stepped_of (ending_of (step_of e j t)) → Ends d i n s t (record { end = o; done = k })
ran_whole d e i j n k s t o same_d same_i so_far all ends =
    let here : Behind d i s n t n = subst (λ (m : ℕ). Behind d i s m t m) all so_far in
    let named : Ends d i n s t (record { end = option_map stepped_of (ending_of (step_of d i t)); done = n }) = ran_so d i n s _ (run_whole d i s n t here) in
    let ending : option_map stepped_of (ending_of (step_of d i t)) ≡ o = ap (λ (x : Step). option_map stepped_of (ending_of x)) (same_step d e i j t same_d same_i) ∙ sym ends in
    subst (λ (m : ℕ). Ends d i n s t (record { end = o; done = m })) (sym all)
    (subst (λ (p : Option Stepped). Ends d i n s t (record { end = p; done = n })) ending named)
