-- Where a diagram commutes, the machine's run agrees with the program's.
use Rattle.std.proofs.Common.{◌≡◌, ℕ, zero, suc, ◌+◌, ◌-◌, ◌*◌, ◌/◌, ◌<◌, ◌≤◌, ◌⊎◌, inl, inr, Option, Some, None, refl, sym, ◌∙◌, ap, subst, arith}
use Rattle.std.proofs.Math.Nat.{div-mul-le_self}
use Rattle.vg_agree.specs.Meaning.{Outcome, Next, End, StackFull, Undefined, after}
use Rattle.vg_agree.specs.Machine.{Halt, Ended, Full, Failed, Stand}
use Rattle.vg_agree.specs.Diagram.{Diagram, Comes, Halts, EndsWith, Meets, Commutes}
use Rattle.vg_agree.specs.Agreement.{outcome_of, stand_of, IsOpen, BecomesUndefined, Tells, Agreement}
use Rattle.vg_agree.proofs.Machines.{leads_on, stand_behind, stand_halted, stand_running}

-- the moves within which the machine has done so many steps
abbrev cost_of : Diagram → ℕ → ℕ
cost_of d n = d.start_cost + n * d.step_cost

-- what the machine meets of the program's run after so many steps: a state not before as many moves
abbrev Met : (d : Diagram) → ℕ → Outcome d.State d.Result d.Cause → Type 0
Met d n (Next s) = Comes d n (cost_of d n) d.first (d.Related s)
Met d n (End r) = Comes d 0 (cost_of d n) d.first (EndsWith d r)
Met d n StackFull = Comes d 0 (cost_of d n) d.first (Halts d Full)
Met d n (Undefined c) = Unit

-- coming to a place within other bounds
widened : (d : Diagram) (least most low high : ℕ) (m : d.Place) (There : d.Place → Type 0) → low ≤ least → most ≤ high → Comes d least most m There → Comes d low high m There
widened d least most low high m There below above come = record {
  moves = come.moves;
  place = come.place;
  at_least = let h : least ≤ come.moves = come.at_least in omega arith;
  at_most = let h : come.moves ≤ most = come.at_most in omega arith;
  leads = come.leads;
  there = come.there;
}

-- coming to a place from where the machine came to
joined : (d : Diagram) (least most low high : ℕ) (m : d.Place) (Here There : d.Place → Type 0) (come : Comes d least most m Here) → Comes d low high come.place There → Comes d (least + low) (most + high) m There
joined d least most low high m Here There come rest = record {
  moves = come.moves + rest.moves;
  place = rest.place;
  at_least = let h : least ≤ come.moves = come.at_least in let k : low ≤ rest.moves = rest.at_least in omega arith;
  at_most = let h : come.moves ≤ most = come.at_most in let k : rest.moves ≤ high = rest.at_most in omega arith;
  leads = leads_on d.move come.moves rest.moves m come.place rest.place come.leads rest.leads;
  there = rest.there;
}

-- what is met at the start
met_start : (d : Diagram) (o : Outcome d.State d.Result d.Cause) → Meets d 0 d.start_cost o d.first → Met d 0 o
met_start d (Next s) come = widened d 0 d.start_cost 0 (cost_of d 0) d.first _ (omega arith) (omega arith) come
met_start d (End r) come = widened d 0 d.start_cost 0 (cost_of d 0) d.first _ (omega arith) (omega arith) come
met_start d StackFull come = widened d 0 d.start_cost 0 (cost_of d 0) d.first _ (omega arith) (omega arith) come
met_start d (Undefined c) come = tt

-- what is met of a step's outcome, from where its state was met
met_there : (d : Diagram) (n : ℕ) (Here : d.Place → Type 0) (come : Comes d n (cost_of d n) d.first Here) (o : Outcome d.State d.Result d.Cause) → Meets d 1 d.step_cost o come.place → Met d (suc n) o
met_there d n Here come (Next s) rest =
    widened d (n + 1) (cost_of d n + d.step_cost) (suc n) (cost_of d (suc n)) d.first _ (omega arith) (omega arith) (joined d n (cost_of d n) 1 d.step_cost d.first Here _ come rest)
met_there d n Here come (End r) rest =
    widened d (n + 1) (cost_of d n + d.step_cost) 0 (cost_of d (suc n)) d.first _ (omega arith) (omega arith) (joined d n (cost_of d n) 1 d.step_cost d.first Here _ come rest)
met_there d n Here come StackFull rest =
    widened d (n + 1) (cost_of d n + d.step_cost) 0 (cost_of d (suc n)) d.first _ (omega arith) (omega arith) (joined d n (cost_of d n) 1 d.step_cost d.first Here _ come rest)
met_there d n Here come (Undefined c) rest = tt

-- what is met one step on
met_after : (d : Diagram) → Commutes d → (n : ℕ) (o : Outcome d.State d.Result d.Cause) → Met d n o → Met d (suc n) (after d.step o)
met_after d commutes n (Next s) come = met_there d n (d.Related s) come (d.step s) (commutes.steps s come.place come.there)
met_after d commutes n (End r) come = widened d 0 (cost_of d n) 0 (cost_of d (suc n)) d.first _ (omega arith) (omega arith) come
met_after d commutes n StackFull come = widened d 0 (cost_of d n) 0 (cost_of d (suc n)) d.first _ (omega arith) (omega arith) come
met_after d commutes n (Undefined c) come = tt

-- each outcome of the program's run is met
met : (d : Diagram) → Commutes d → (n : ℕ) → Met d n (outcome_of d n)
met d commutes zero = met_start d d.start commutes.starts
met d commutes (suc n) = met_after d commutes n (outcome_of d n) (met d commutes n)

-- ---- what the machine says

-- with a bound that reaches, the run stands halted where it came to; with a smaller one it hasn't halted
record Halting (d : Diagram) (most : ℕ) (h : Halt d.Fault) (Shown : d.Place → Type 0) : Type 0 where
  place : d.Place
  shown : Shown place
  reached : (bound : ℕ) → most ≤ bound → stand_of d bound ≡ record { place = place; halt = Some h }
  either : (bound : ℕ) → ((stand_of d bound).halt ≡ None) ⊎ (stand_of d bound ≡ record { place = place; halt = Some h })

-- coming to a place where the machine halts
halting : (d : Diagram) (most : ℕ) (h : Halt d.Fault) (There Shown : d.Place → Type 0) → ((m : d.Place) → There m → Halts d h m × Shown m) → Comes d 0 most d.first There → Halting d most h Shown
halting d most h There Shown facts come = record {
  place = come.place;
  shown = (facts come.place come.there).1;
  reached = λ bound enough. stands bound (let k : come.moves ≤ most = come.at_most in omega arith);
  either = λ bound. let split : (bound < come.moves) ⊎ (come.moves ≤ bound) = grind arith in
      elim split [
        | inl below ↦ inl (stand_running d.move bound come.moves d.first come.place come.leads below)
        | inr enough ↦ inr (stands bound enough)
      ];
}
  where
    stands : (bound : ℕ) → come.moves ≤ bound → stand_of d bound ≡ record { place = come.place; halt = Some h }
    stands bound enough =
        let whole : bound ≡ come.moves + (bound - come.moves) = omega arith in
        ap (λ k. stand_of d k) whole ∙ stand_behind d.move come.moves (bound - come.moves) d.first come.place come.leads
        ∙ stand_halted d.move (bound - come.moves) come.place h (facts come.place come.there).0

-- where the program ends
ended : (d : Diagram) → Commutes d → (n : ℕ) (r : d.Result) → outcome_of d n ≡ End r → Halting d (cost_of d n) Ended (d.Shows r)
ended d commutes n r ends =
    let P : Outcome d.State d.Result d.Cause → Type 0 = λ o. Met d n o in
    halting d (cost_of d n) Ended (EndsWith d r) (d.Shows r) (λ m facts. facts) (subst P ends (met d commutes n))

-- where the program fills the stack
filled : (d : Diagram) → Commutes d → (n : ℕ) → outcome_of d n ≡ StackFull → Halting d (cost_of d n) Full (λ m. Unit)
filled d commutes n fills =
    let P : Outcome d.State d.Result d.Cause → Type 0 = λ o. Met d n o in
    halting d (cost_of d n) Full (Halts d Full) (λ m. Unit) (λ m facts. (facts, tt)) (subst P fills (met d commutes n))

-- while the program goes on
running : (d : Diagram) → Commutes d → (n : ℕ) (s : d.State) (bound : ℕ) → outcome_of d n ≡ Next s → bound < n → (stand_of d bound).halt ≡ None
running d commutes n s bound goes below =
    let P : Outcome d.State d.Result d.Cause → Type 0 = λ o. Met d n o in
    let come : Comes d n (cost_of d n) d.first (d.Related s) = subst P goes (met d commutes n) in
    stand_running d.move bound come.moves d.first come.place come.leads (let k : n ≤ come.moves = come.at_least in omega arith)

-- what a machine that still runs tells
open_while : (d : Diagram) → Commutes d → (bound n : ℕ) → (stand_of d bound).halt ≡ None → cost_of d n ≤ bound → (o : Outcome d.State d.Result d.Cause) → outcome_of d n ≡ o → IsOpen o
open_while d commutes bound n runs enough (Next s) is = tt
open_while d commutes bound n runs enough (End r) is =
    let stands : (stand_of d bound).halt ≡ Some Ended = ap (λ v. v.halt) ((ended d commutes n r is).reached bound enough) in cc
open_while d commutes bound n runs enough StackFull is =
    let stands : (stand_of d bound).halt ≡ Some Full = ap (λ v. v.halt) ((filled d commutes n is).reached bound enough) in cc
open_while d commutes bound n runs enough (Undefined c) is = tt

-- so does one whose stand says so
tells_running : (d : Diagram) → Commutes d → (bound : ℕ) (m : d.Place) → (stand_of d bound).halt ≡ None → Tells d bound m None
tells_running d commutes bound m runs enough =
    let n : ℕ = (bound - d.start_cost) / d.step_cost in
    let within : n * d.step_cost ≤ bound - d.start_cost = div-mul-le_self (bound - d.start_cost) d.step_cost in
    open_while d commutes bound n runs (omega arith) (outcome_of d n) refl

-- what a machine tells whose stand says that it runs
tells_none : (d : Diagram) → Commutes d → (bound : ℕ) → (stand_of d bound).halt ≡ None → Tells d bound (stand_of d bound).place (stand_of d bound).halt
tells_none d commutes bound runs =
    let P : Option (Halt d.Fault) → Type 0 = λ h. Tells d bound (stand_of d bound).place h in
    subst P (sym runs) (tells_running d commutes bound (stand_of d bound).place runs)

-- what any halt tells of a program that becomes undefined
tells_undefined : (d : Diagram) → Commutes d → (bound : ℕ) (m : d.Place) (h : Option (Halt d.Fault)) → (stand_of d bound).halt ≡ h → BecomesUndefined d → Tells d bound m h
tells_undefined d commutes bound m (Some Ended) is undefined = inr undefined
tells_undefined d commutes bound m (Some Full) is undefined = inr undefined
tells_undefined d commutes bound m (Some (Failed f)) is undefined = undefined
tells_undefined d commutes bound m None is undefined = tells_running d commutes bound m is

-- What the machine says is so: by the outcome of one step more than the bound, by which the machine, if it hasn't
-- halted, would have made more moves.
tells : (d : Diagram) → Commutes d → (bound : ℕ) (o : Outcome d.State d.Result d.Cause) → outcome_of d (suc bound) ≡ o → Tells d bound (stand_of d bound).place (stand_of d bound).halt
tells d commutes bound (Next s) is = tells_none d commutes bound (running d commutes (suc bound) s bound is (omega arith))
tells d commutes bound (End r) is =
    let P : Stand d.Place d.Fault → Type 0 = λ v. Tells d bound v.place v.halt in
    let end : Halting d (cost_of d (suc bound)) Ended (d.Shows r) = ended d commutes (suc bound) r is in
    elim (end.either bound) [
      | inl runs ↦ tells_none d commutes bound runs
      | inr stands ↦ subst P (sym stands) (inl (suc bound, r, is, end.shown))
    ]
tells d commutes bound StackFull is =
    let P : Stand d.Place d.Fault → Type 0 = λ v. Tells d bound v.place v.halt in
    elim ((filled d commutes (suc bound) is).either bound) [
      | inl runs ↦ tells_none d commutes bound runs
      | inr stands ↦ subst P (sym stands) (inl (suc bound, is))
    ]
tells d commutes bound (Undefined c) is =
    tells_undefined d commutes bound (stand_of d bound).place (stand_of d bound).halt refl (suc bound, c, is)

-- the law of agreement
pub agrees : (d : Diagram) → Commutes d → Agreement d
agrees d commutes = record {
  answers = λ bound. tells d commutes bound (outcome_of d (suc bound)) refl;
  ends = λ n r bound is enough.
      let end : Halting d (cost_of d n) Ended (d.Shows r) = ended d commutes n r is in
      let P : d.Place → Type 0 = λ m. d.Shows r m in
      (ap (λ v. v.halt) (end.reached bound enough), subst P (sym (ap (λ v. v.place) (end.reached bound enough))) end.shown);
  fills = λ n bound is enough. ap (λ v. v.halt) ((filled d commutes n is).reached bound enough);
  goes_on = λ n s bound is below. running d commutes n s bound is below;
}
