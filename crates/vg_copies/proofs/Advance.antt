-- From one number to the next, in the loops over all moves.
use Rattle.std.proofs.Common.{◌≡◌, ℕ, ◌+◌, ◌<◌, inl, inr, Bool, true, false, List, length, sym, refl, ap, ◌∙◌, subst, arith}
use Rattle.std.proofs.lemmas.Bool.Decides.{eqb_tells}
use Rattle.std.proofs.lemmas.List.{length-map}
use Rattle.vg_copies.specs.declared.pending.Pending.{Pending}
use Rattle.vg_copies.specs.declared.schedule.Schedule.{Schedule}
use Rattle.vg_copies.specs.Copies.{Move}
use Rattle.vg_copies.specs.Schedule.{IsAt, Waits, IsBlocked, Advances, ends_of}

module _ (old new : Schedule) (made : Advances old new) where
  pub Advances-length : length new.moves.items ≡ length old.moves.items
  Advances-length = sym (length-map new.moves.items ends_of) ∙ ap (λ (xs : List Move). length xs) made.moves ∙ length-map old.moves.items ends_of

  -- one more of the moves that wait is blocked
  pub blocked_more : (i : ℕ) → ((k : ℕ) (step : Pending) → k < i → Waits old.moves.items k step → IsBlocked old k) → ((step : Pending) → Waits new.moves.items i step → IsBlocked new i)
      → (k : ℕ) (step : Pending) → k < i + 1 → Waits new.moves.items k step → IsBlocked new k
  blocked_more i before here k step below waits = elim (eqb_tells k i) [
    | inl (_, same) ↦ subst (λ (n : ℕ). IsBlocked new n) (sym same) (here step (subst (λ (n : ℕ). Waits new.moves.items n step) same waits))
    | inr (_, differ) ↦ made.blocked k step waits (before k step (omega arith) (made.waits k step waits))
  ]

  pub blocked_all : ((k : ℕ) (step : Pending) → Waits old.moves.items k step → IsBlocked old k) → (k : ℕ) (step : Pending) → Waits new.moves.items k step → IsBlocked new k
  blocked_all before k step waits = made.blocked k step waits (before k step (made.waits k step waits))

  -- one more is done
  pub done_more : (i : ℕ) → ((k : ℕ) (step : Pending) → k < i → IsAt old.moves.items k step → step.is_done ≡ true) → ((step : Pending) → IsAt new.moves.items i step → step.is_done ≡ true)
      → (k : ℕ) (step : Pending) → k < i + 1 → IsAt new.moves.items k step → step.is_done ≡ true
  done_more i before here k step below at = elim (eqb_tells k i) [
    | inl (_, same) ↦ here step (subst (λ (n : ℕ). IsAt new.moves.items n step) same at)
    | inr (_, differ) ↦ by step.is_done refl (omega arith)
  ]
    where
      by : (b : Bool) → step.is_done ≡ b → k < i → step.is_done ≡ true
      by true e lower = e
      by false e lower = before k step lower (made.waits k step (at, e)).0
