-- The run as a relation and as a function.
use Rattle.std.proofs.Common.{◌≡◌, ◌⊎◌, inl, inr, nat_eq, ℕ, zero, suc, ◌<◌, ◌≤◌, Bool, true, false, Some, None, Option, refl, sym, ap, ◌∙◌, subst, arith, if◌then◌else◌, is_none}
use Rattle.std.specs.Prelude.{IsNone}
use Rattle.std.proofs.lemmas.Bool.Decides.{nat_tests}
use Rattle.vg_isa.specs.declared.isa.Parts.{Parts}
use Rattle.vg_image.specs.declared.image.Image.{Image}
use Rattle.vg_image.specs.declared.ending.Ending.{Ending}
use Rattle.vg_image.specs.State.{State}
use Rattle.vg_image.specs.Step.{Step, Moved, Over, step_of}
use Rattle.vg_image.specs.Run.{Stand, Steps, IsRun, ending_of, behind, after, steps_done, run_of}

is_over : (x : Step) (e : Ending) → ending_of x ≡ Some e → x ≡ Over e
is_over (Moved t) e h = cc
is_over (Over f) e h = cc

nat_cases : (a b : ℕ) → a ≤ b → (a ≡ b) ⊎ (a < b)
nat_cases a b h = split (nat_eq a b) refl
  where
    split : (t : Bool) → nat_eq a b ≡ t → (a ≡ b) ⊎ (a < b)
    split true e = inl (grind (arith, nat_tests))
    split false e = inr (grind (arith, nat_tests))

none_is : IsNone {T = Ending} None
none_is = refl

some_none : (e : Ending) → IsNone (Some e) → ⊥
some_none e h = cc

module _ (d : Parts) (i : Image) (s : State) where
  -- what is known behind so many steps
  pub record Behind (n : ℕ) (t : State) (k : ℕ) : Type 0 where
    pub state : after d i n s ≡ t
    pub done : steps_done d i n s ≡ k

  one_more : (n done : ℕ) (t : State) (x : Step) → step_of d i (after d i n s) ≡ x → steps_done d i n s ≡ done → Behind (suc n) (behind x (after d i n s)) (if is_none (ending_of x) then suc done else done)
  one_more n done t x is so_far = record {
    state = ap (λ (y : Step). behind y (after d i n s)) is;
    done = ap (λ (y : Step). if is_none (ending_of y) then suc (steps_done d i n s) else steps_done d i n s) is ∙ ap (λ (k : ℕ). if is_none (ending_of x) then suc k else k) so_far;
  }

  -- a run that is over stays as it is
  over_stays : (k n : ℕ) (e : Ending) → k ≤ n → step_of d i (after d i k s) ≡ Over e → Behind n (after d i k s) (steps_done d i k s)
  over_stays k zero e within over = let none : k ≡ 0 = omega arith in subst (λ (j : ℕ). Behind 0 (after d i j s) (steps_done d i j s)) (sym none) (record { state = refl; done = refl })
  over_stays k (suc n) e within over = elim (nat_cases k (suc n) within) [
    | inl same ↦ subst (λ (j : ℕ). Behind (suc n) (after d i j s) (steps_done d i j s)) (sym same) (record { state = refl; done = refl })
    | inr less ↦
        let before : Behind n (after d i k s) (steps_done d i k s) = over_stays k n e (omega arith) over in
        let here : step_of d i (after d i n s) ≡ Over e = ap (step_of d i) before.state ∙ over in
        let next = one_more n (steps_done d i k s) (after d i k s) (Over e) here before.done in
        record { state = next.state ∙ before.state; done = next.done }
  ]

  -- a run whose so many steps all moved, and that is then over
  pub run_over : (k n : ℕ) (t : State) (e : Ending) → k ≤ n → Behind k t k → step_of d i t ≡ Over e → run_of d i n s ≡ record { done = k; state = t; ending = Some e }
  run_over k n t e within so_far over =
      let here : step_of d i (after d i k s) ≡ Over e = ap (step_of d i) so_far.state ∙ over in
      let last = over_stays k n e within here in
      λ j. record {
        done = (last.done ∙ so_far.done) j;
        state = (last.state ∙ so_far.state) j;
        ending = (ap (λ (x : State). ending_of (step_of d i x)) (last.state ∙ so_far.state) ∙ ap ending_of over) j;
      }

  -- a run whose so many steps all moved
  pub run_whole : (n : ℕ) (t : State) → Behind n t n → run_of d i n s ≡ record { done = n; state = t; ending = ending_of (step_of d i t) }
  run_whole n t so_far = λ j. record {
    done = so_far.done j;
    state = so_far.state j;
    ending = ending_of (step_of d i (so_far.state j));
  }

  pub none_yet : Behind 0 s 0
  none_yet = record { state = refl; done = refl }

  -- one more step that moves
  pub moved_more : (n : ℕ) (t u : State) → Behind n t n → step_of d i t ≡ Moved u → Behind (suc n) u (suc n)
  moved_more n t u so_far moved =
      one_more n n t (Moved u) (ap (step_of d i) so_far.state ∙ moved) so_far.done

  -- ---- the relation

  pub steps_behind : (n : ℕ) (t : State) → Steps d i n s t → Behind n t n
  steps_behind zero t steps = record { state = sym steps; done = refl }
  steps_behind (suc n) t steps = moved_more n steps.0 t (steps_behind n steps.0 steps.1) steps.2

  -- the relation tells the function
  pub relation_run : (bound : ℕ) (r : Stand) → IsRun d i bound s r → r ≡ run_of d i bound s
  relation_run bound r is = of r.ending refl
    where
      so_far : Behind r.done r.state r.done
      so_far = steps_behind r.done r.state is.steps

      named : (o : Option Ending) → r.ending ≡ o → r ≡ record { done = r.done; state = r.state; ending = o }
      named o e = λ j. record { done = r.done; state = r.state; ending = e j }

      of : (o : Option Ending) → r.ending ≡ o → r ≡ run_of d i bound s
      of None e =
          let all : r.done ≡ bound = is.running (subst (λ (x : Option Ending). IsNone x) (sym e) none_is) in
          let whole : run_of d i r.done s ≡ record { done = r.done; state = r.state; ending = ending_of (step_of d i r.state) } = run_whole r.done r.state so_far in
          named (ending_of (step_of d i r.state)) is.ending ∙ sym whole ∙ ap (λ (n : ℕ). run_of d i n s) all
      of (Some f) e =
          let over : step_of d i r.state ≡ Over f = is_over (step_of d i r.state) f (sym is.ending ∙ e) in
          named (Some f) e ∙ sym (run_over r.done bound r.state f is.within so_far over)

  -- the function tells the relation
  pub function_run : (bound : ℕ) → IsRun d i bound s (run_of d i bound s)
  function_run bound = record {
    steps = steps_so bound;
    within = few bound;
    ending = refl;
    running = all bound;
  }
    where
      of_steps : (n : ℕ) (x : Step) → step_of d i (after d i n s) ≡ x → Steps d i (steps_done d i n s) s (after d i n s) → Steps d i (if is_none (ending_of x) then suc (steps_done d i n s) else steps_done d i n s) s (behind x (after d i n s))
      of_steps n (Moved t) is before = (after d i n s, before, is)
      of_steps n (Over e) is before = before

      steps_so : (n : ℕ) → Steps d i (steps_done d i n s) s (after d i n s)
      steps_so zero = refl
      steps_so (suc n) = of_steps n (step_of d i (after d i n s)) refl (steps_so n)

      less : (n k : ℕ) (b : Bool) → k ≤ n → (if b then suc k else k) ≤ suc n
      less n k true h = omega arith
      less n k false h = omega arith

      few : (n : ℕ) → steps_done d i n s ≤ n
      few zero = omega arith
      few (suc n) = less n (steps_done d i n s) (is_none (ending_of (step_of d i (after d i n s)))) (few n)

      -- a run that goes on has done all steps so far
      all_but : (n : ℕ) (x : Step) → step_of d i (after d i n s) ≡ x → (IsNone (ending_of (step_of d i (after d i n s))) → steps_done d i n s ≡ n) → IsNone (ending_of (step_of d i (behind x (after d i n s)))) → (if is_none (ending_of x) then suc (steps_done d i n s) else steps_done d i n s) ≡ suc n
      all_but n (Moved t) is before none = ap suc (before (subst (λ (y : Step). IsNone (ending_of y)) (sym is) none_is))
      all_but n (Over e) is before none = absurd (some_none e (subst (λ (y : Step). IsNone (ending_of y)) is none))

      all : (n : ℕ) → IsNone (ending_of (step_of d i (after d i n s))) → steps_done d i n s ≡ n
      all zero none = refl
      all (suc n) none = all_but n (step_of d i (after d i n s)) refl (all n) none
