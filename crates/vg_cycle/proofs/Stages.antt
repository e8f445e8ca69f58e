-- Slots and how many instructions they hold.
use Rattle.std.proofs.Common.{◌≡◌, ℕ, zero, suc, ◌+◌, ◌<◌, ◌≤◌, refl, ap, sym, subst, ◌∙◌, List, [], ◌∷◌, ◌++◌, length, drop, Option, Some, None, ◌⊎◌, inl, inr, arith}
use Rattle.vg_cycle.specs.Description.{View, Description}
use Rattle.vg_cycle.specs.Pipe.{Slot, count, HoldsAt, OnPath, Astray}
use Rattle.vg_cycle.specs.Cycle.{cleared, entered, IsOpen, retired_by}

-- the older ones count first
pub count-append : (retired : ℕ) (younger slots : List (Option Slot)) → count retired (younger ++ slots) ≡ count (count retired slots) younger
count-append retired [] slots = refl
count-append retired (None ∷ younger) slots = count-append retired younger slots
count-append retired (Some y ∷ younger) slots = ap suc (count-append retired younger slots)

-- empty slots hold nothing
pub count-cleared : (retired : ℕ) (slots : List (Option Slot)) → count retired (cleared slots) ≡ retired
count-cleared retired [] = refl
count-cleared retired (slot ∷ slots) = count-cleared retired slots

pub length-cleared : (slots : List (Option Slot)) → length (cleared slots) ≡ length slots
length-cleared [] = refl
length-cleared (slot ∷ slots) = ap suc (length-cleared slots)

-- an instruction that enters is counted once
pub count-entered : (retired : ℕ) (y : Slot) (room : List (Option Slot)) → IsOpen room → count (retired_by room retired) (entered y room) ≡ suc (count retired room)
count-entered retired y [] h = refl
count-entered retired y (None ∷ older) h = refl
count-entered retired y (Some z ∷ older) h = absurd h

-- slots behind the first ones
pub drop_past : {X : Type 0} (younger slots : List X) (n k : ℕ) → n ≡ length younger + k → drop n (younger ++ slots) ≡ drop k slots
drop_past [] slots n k e = let same : n ≡ k = omega arith in ap (λ m. drop m slots) same
drop_past (slot ∷ younger) slots zero k e = absurd (omega arith)
drop_past (slot ∷ younger) slots (suc n) k e = drop_past younger slots n k (omega arith)

pub drop_within : {X : Type 0} (younger slots : List X) (n : ℕ) → n ≤ length younger → drop n (younger ++ slots) ≡ drop n younger ++ slots
drop_within younger slots zero h = refl
drop_within [] slots (suc n) h = absurd (omega arith)
drop_within (slot ∷ younger) slots (suc n) h = drop_within younger slots n (omega arith)

-- the count of younger slots goes by that of the older ones
pub count_same : (retired after : ℕ) (younger slots others : List (Option Slot)) → count retired slots ≡ count after others → count retired (younger ++ slots) ≡ count after (younger ++ others)
count_same retired after younger slots others e =
    count-append retired younger slots ∙ ap (λ n. count n younger) e ∙ sym (count-append after younger others)

module _ (d : Description) (run : ℕ → View) where
  -- the older part of slots on the path is on the path
  pub on_older : (retired t u : ℕ) (younger slots : List (Option Slot)) → t + length younger ≡ u → OnPath d run retired t (younger ++ slots) → OnPath d run retired u slots
  on_older retired t u [] slots e h = let same : t ≡ u = omega arith in (let P : ℕ → Type 0 = λ n. OnPath d run retired n slots in subst P same h)
  on_older retired t u (None ∷ younger) slots e h = on_older retired (suc t) u younger slots (omega arith) h
  on_older retired t u (Some y ∷ younger) slots e h = on_older retired (suc t) u younger slots (omega arith) h.0

  -- a slot that holds an instruction of the run holds it however it is counted
  held : (t n m : ℕ) (y : Slot) → n ≡ m → HoldsAt d (suc t) y (run n) → HoldsAt d (suc t) y (run m)
  held t n m y e h = let P : ℕ → Type 0 = λ k. HoldsAt d (suc t) y (run k) in subst P e h

  -- other older slots that count the same
  pub on_replaced : (retired after t u : ℕ) (younger slots others : List (Option Slot)) → t + length younger ≡ u → count retired slots ≡ count after others
      → OnPath d run retired t (younger ++ slots) → OnPath d run after u others → OnPath d run after t (younger ++ others)
  on_replaced retired after t u [] slots others e c h o =
      let same : u ≡ t = omega arith in (let P : ℕ → Type 0 = λ n. OnPath d run after n others in subst P same o)
  on_replaced retired after t u (None ∷ younger) slots others e c h o = on_replaced retired after (suc t) u younger slots others (omega arith) c h o
  on_replaced retired after t u (Some y ∷ younger) slots others e c h o =
      let n : count retired (younger ++ slots) ≡ count after (younger ++ others) = count_same retired after younger slots others c in (
        on_replaced retired after (suc t) u younger slots others (omega arith) c h.0 o,
        held t _ _ y n h.1,
        λ lt. h.2 lt ∙ ap (λ k. (run (suc k)).pc) n,
      )

  -- Where a guess is wrong, it is one of the older slots, or those are on the path and may be replaced.
  pub astray_split : (retired t u : ℕ) (younger slots : List (Option Slot)) → t + length younger ≡ u → Astray d run retired t (younger ++ slots)
      → Astray d run retired u slots
      ⊎ (OnPath d run retired u slots
      × ((after : ℕ) (others : List (Option Slot)) → count retired slots ≡ count after others → OnPath d run after u others → Astray d run after t (younger ++ others)))
  astray_split retired t u [] slots e h = let same : t ≡ u = omega arith in (let P : ℕ → Type 0 = λ n. Astray d run retired n slots in inl (subst P same h))
  astray_split retired t u (None ∷ younger) slots e h = astray_split retired (suc t) u younger slots (omega arith) h
  astray_split retired t u (Some y ∷ younger) slots e (inl h) =
      elim (astray_split retired (suc t) u younger slots (omega arith) h)
      [ inl a ↦ inl a | inr b ↦ inr (b.0, λ after others c o. inl (b.1 after others c o)) ]
  astray_split retired t u (Some y ∷ younger) slots e (inr h) =
      inr (
        on_older retired (suc t) u younger slots (omega arith) h.0,
        λ after others c o.
            (let n : count retired (younger ++ slots) ≡ count after (younger ++ others) = count_same retired after younger slots others c in
            inr (
              on_replaced retired after (suc t) u younger slots others (omega arith) c h.0 o,
              held t _ _ y n h.1,
              h.2,
              λ g. h.3 (g ∙ ap (λ k. (run (suc k)).pc) (sym n)),
            )),
      )

  -- a wrong guess in older slots
  pub astray_older : (retired t u : ℕ) (younger slots : List (Option Slot)) → t + length younger ≡ u → Astray d run retired u slots → Astray d run retired t (younger ++ slots)
  astray_older retired t u [] slots e h = let same : u ≡ t = omega arith in (let P : ℕ → Type 0 = λ n. Astray d run retired n slots in subst P same h)
  astray_older retired t u (None ∷ younger) slots e h = astray_older retired (suc t) u younger slots (omega arith) h
  astray_older retired t u (Some y ∷ younger) slots e h = inl (astray_older retired (suc t) u younger slots (omega arith) h)

  -- empty slots are on the path
  pub on_cleared : (retired t u : ℕ) (younger slots : List (Option Slot)) → t + length younger ≡ u → OnPath d run retired u slots → OnPath d run retired t (cleared younger ++ slots)
  on_cleared retired t u [] slots e h = let same : u ≡ t = omega arith in (let P : ℕ → Type 0 = λ n. OnPath d run retired n slots in subst P same h)
  on_cleared retired t u (slot ∷ younger) slots e h = on_cleared retired (suc t) u younger slots (omega arith) h

  -- a wrong guess is one that isn't resolved: it stands before the stage that resolves it
  pub astray_before : (retired t : ℕ) (slots : List (Option Slot)) → Astray d run retired t slots → t < d.resolve
  astray_before retired t [] h = absurd h
  astray_before retired t (None ∷ slots) h = let below : suc t < d.resolve = astray_before retired (suc t) slots h in omega arith
  astray_before retired t (Some y ∷ slots) (inl h) = let below : suc t < d.resolve = astray_before retired (suc t) slots h in omega arith
  astray_before retired t (Some y ∷ slots) (inr h) = h.2
