-- A pipeline that stands for a run still does after one instruction did a stage, and after a fetch.
use Rattle.std.proofs.Common.{◌≡◌, ◌≢◌, ℕ, suc, ◌+◌, ◌-◌, ◌<◌, ◌≤◌, Bool, true, false, not, ◌&&◌, refl, ap, sym, ◌∙◌, List, [], ◌∷◌, ◌++◌, length, drop, Option, Some, None, ◌⊎◌, inl, inr, nat_lt, nat_eq, if◌then◌else◌, arith}
use Rattle.std.proofs.lemmas.Bool.Decides.{nat_tests}
use Rattle.vg_bits.specs.BitValue.{BitValue}
use Rattle.vg_cycle.specs.Description.{View, Description, IsPlaced, IsRun, written}
use Rattle.vg_cycle.specs.Pipe.{Slot, count, HoldsAt, OnPath, Astray}
use Rattle.vg_cycle.specs.Cycle.{contents_after, finds_wrong, cleared, entered, IsOpen, retired_by}
use Rattle.vg_cycle.proofs.Stages.{length-cleared, count-entered, count_same, on_older, on_replaced, astray_split}
use Rattle.vg_cycle.proofs.Values.{writes_same}

-- ---- contents

-- a stage that isn't the write stage leaves a resource as it was
pub not_written : (d : Description) (u : ℕ) (y : Slot) (has : ℕ → ℕ → BitValue) (r i : ℕ) → d.write_stage r ≢ u → contents_after d u y has r i ≡ has r i
not_written d u y has r i h = let test : nat_eq (d.write_stage r) u ≡ false = grind (arith, nat_tests) in rw test refl

is_written : (d : Description) (u : ℕ) (y : Slot) (has : ℕ → ℕ → BitValue) (r i : ℕ) → d.write_stage r ≡ u → contents_after d u y has r i ≡ written d y.fetched y.view r i (has r i)
is_written d u y has r i h = let test : nat_eq (d.write_stage r) u ≡ true = grind (arith, nat_tests) in rw test refl

-- behind the stage just done, nothing has changed
behind_same : (retired k : ℕ) (y : Slot) (room : List (Option Slot)) → IsOpen room → (room ≡ [] → ⊥)
    → count retired (drop (suc k) room) ≡ count (retired_by room retired) (drop (suc k) (entered y room))
behind_same retired k y [] o some = absurd (some refl)
behind_same retired k y (None ∷ older) o some = refl
behind_same retired k y (Some z ∷ older) o some = absurd o

module _ (d : Description) (placed : IsPlaced d) (run : ℕ → View) (runs : IsRun d run) where
  -- the write stage itself
  pub written_now : (retired u : ℕ) (has : ℕ → ℕ → BitValue) (room : List (Option Slot)) (y : Slot) → IsOpen room → HoldsAt d (suc u) y (run (count retired room))
      → (r i : ℕ) → d.write_stage r ≡ u → has r i ≡ (run (count retired room)).has r i
      → contents_after d u y has r i ≡ (run (count (retired_by room retired) (entered y room))).has r i
  written_now retired u has room y o h r i w b =
      let g : d.guard_stage y.fetched r ≤ d.write_stage r = placed.guard_ready y.fetched r in
      let v : d.value_stage y.fetched r ≤ d.write_stage r = placed.value_ready y.fetched r in
      let n : count (retired_by room retired) (entered y room) ≡ suc (count retired room) = count-entered retired y room o in
      is_written d u y has r i w
      ∙ writes_same d placed u y (run (count retired room)) h r i (has r i) (omega arith) (omega arith)
      ∙ ap (λ x. written d y.fetched (run (count retired room)) r i x) b
      ∙ sym (runs.has (count retired room) y.fetched h.code r i)
      ∙ ap (λ k. (run k).has r i) (sym n)

  -- a later write stage, also on a wrong path
  pub written_later : (retired u k : ℕ) (has : ℕ → ℕ → BitValue) (room : List (Option Slot)) (y : Slot) → IsOpen room → (room ≡ [] → ⊥)
      → (r i : ℕ) → u + suc k ≡ d.write_stage r → has r i ≡ (run (count retired (drop (suc k) room))).has r i
      → contents_after d u y has r i ≡ (run (count (retired_by room retired) (drop (suc k) (entered y room)))).has r i
  written_later retired u k has room y o some r i w b =
      not_written d u y has r i (λ e. omega arith) ∙ b ∙ ap (λ n. (run n).has r i) (behind_same retired k y room o some)

  -- ---- the path behind the stage just done

  -- an instruction of the run enters the next slot
  pub entered_path : (retired u : ℕ) (room : List (Option Slot)) (y : Slot) → IsOpen room → OnPath d run retired u room → HoldsAt d (suc u) y (run (count retired room))
      → (u < d.resolve → y.guess ≡ (run (suc (count retired room))).pc) → OnPath d run (retired_by room retired) u (entered y room)
  entered_path retired u [] y o path h g = tt
  entered_path retired u (None ∷ older) y o path h g = (path, h, g)
  entered_path retired u (Some z ∷ older) y o path h g = absurd o

  -- it enters with a wrong guess
  pub entered_astray : (retired u : ℕ) (room : List (Option Slot)) (y : Slot) → IsOpen room → (room ≡ [] → ⊥) → OnPath d run retired u room
      → HoldsAt d (suc u) y (run (count retired room)) → u < d.resolve → y.guess ≢ (run (suc (count retired room))).pc → Astray d run (retired_by room retired) u (entered y room)
  entered_astray retired u [] y o some path h lt g = absurd (some refl)
  entered_astray retired u (None ∷ older) y o some path h lt g = inr (path, h, lt, g)
  entered_astray retired u (Some z ∷ older) y o some path h lt g = absurd o

  -- anything enters behind a wrong guess
  pub entered_behind : (retired u : ℕ) (room : List (Option Slot)) (y : Slot) → IsOpen room → Astray d run retired u room → Astray d run (retired_by room retired) u (entered y room)
  entered_behind retired u [] y o a = absurd a
  entered_behind retired u (None ∷ older) y o a = inl a
  entered_behind retired u (Some z ∷ older) y o a = absurd o

  -- where the next program counter is decided, the right one is found
  pub decided : (u n : ℕ) (y : Slot) → HoldsAt d (suc u) y (run n) → u ≡ d.resolve → d.next y.fetched y.view ≡ (run (suc n)).pc
  decided u n y h e =
      let ready : d.next_stage y.fetched ≤ d.resolve = placed.next_ready y.fetched in
      placed.next_agrees y.fetched (suc u) y.view (run n) h.reads (omega arith) ∙ sym (runs.next n y.fetched h.code)

-- ---- shapes

pub length-entered : (y : Slot) (room : List (Option Slot)) → length (entered y room) ≡ length room
length-entered y [] = refl
length-entered y (slot ∷ older) = refl

pub length-tail : {X : Type 0} (younger slots others : List X) → length slots ≡ length others → length (younger ++ slots) ≡ length (younger ++ others)
length-tail [] slots others e = e
length-tail (z ∷ younger) slots others e = ap suc (length-tail younger slots others e)

pub length-front : {X : Type 0} (younger front slots : List X) → length younger ≡ length front → length (younger ++ slots) ≡ length (front ++ slots)
length-front [] [] slots e = refl
length-front [] (z ∷ front) slots e = absurd (omega arith)
length-front (z ∷ younger) [] slots e = absurd (omega arith)
length-front (z ∷ younger) (w ∷ front) slots e = let l : length younger ≡ length front = omega arith in ap suc (length-front younger front slots l)

pub length-back : {X : Type 0} (younger : List X) (x : X) → length (younger ++ (x ∷ [])) ≡ suc (length younger)
length-back [] x = refl
length-back (z ∷ younger) x = ap suc (length-back younger x)

-- the younger slots after a stage: all empty where a wrong guess was found
abbrev pub front_of : Bool → List (Option Slot) → List (Option Slot)
front_of true younger = cleared younger
front_of false younger = younger

pub length-front_of : (b : Bool) (younger : List (Option Slot)) → length younger ≡ length (front_of b younger)
length-front_of true younger = sym (length-cleared younger)
length-front_of false younger = refl

-- the front is as the definition has it
pub front_is : (b : Bool) (younger : List (Option Slot)) → (if b then cleared younger else younger) ≡ front_of b younger
front_is true younger = refl
front_is false younger = refl

-- which of two numbers is less, or by how much the first is greater
pub compared : (w u : ℕ) → (w < u) ⊎ ((w ≡ u) ⊎ ((k : ℕ) × (u + suc k ≡ w)))
compared w u = go (nat_lt w u) refl (nat_eq w u) refl
  where
    go : (b : Bool) → nat_lt w u ≡ b → (c : Bool) → nat_eq w u ≡ c → (w < u) ⊎ ((w ≡ u) ⊎ ((k : ℕ) × (u + suc k ≡ w)))
    go true e c f = inl (grind (arith, nat_tests))
    go false e true f = inr (inl (grind (arith, nat_tests)))
    go false e false f = let ge : u ≤ w = grind (arith, nat_tests) in let ne : w ≢ u = grind (arith, nat_tests) in inr (inr (w - suc u, omega arith))

-- a guess that is decided and isn't wrong is right
pub right_guess : (d : Description) (u : ℕ) (y : Slot) → finds_wrong d u y ≡ false → u ≡ d.resolve → d.next y.fetched y.view ≡ y.guess
right_guess d u y e h =
    let test : nat_eq u d.resolve ≡ true = grind (arith, nat_tests) in
    go (nat_eq (d.next y.fetched y.view) y.guess) refl (rw test at e)
  where
    go : (b : Bool) → nat_eq (d.next y.fetched y.view) y.guess ≡ b → (true && not (nat_eq (d.next y.fetched y.view) y.guess)) ≡ false → d.next y.fetched y.view ≡ y.guess
    go true f g = grind (arith, nat_tests)
    go false f g = absurd (let h2 : (true && not false) ≡ false = rw f at g in grind arith)

-- a guess that is found wrong is found where it is decided
pub wrong_decided : (d : Description) (u : ℕ) (y : Slot) → finds_wrong d u y ≡ true → u ≡ d.resolve
wrong_decided d u y e = go (nat_eq u d.resolve) refl
  where
    go : (b : Bool) → nat_eq u d.resolve ≡ b → u ≡ d.resolve
    go true f = grind (arith, nat_tests)
    go false f = absurd (let h : (false && not (nat_eq (d.next y.fetched y.view) y.guess)) ≡ true = rw f at e in grind arith)

module _ (d : Description) (placed : IsPlaced d) (run : ℕ → View) (runs : IsRun d run) where
  -- how the slots and the fetch address lie on the run's path
  abbrev pub PathOf : ℕ → List (Option Slot) → ℕ → Type 0
  PathOf retired slots fetch = (OnPath d run retired 0 slots × (fetch ≡ (run (count retired slots)).pc)) ⊎ Astray d run retired 0 slots

  -- an instruction in the slot behind `younger`: on a wrong path; or the run's, with its guess right so far, and what is younger goes on with any older slots; or
  -- with a wrong guess
  abbrev pub At : ℕ → List (Option Slot) → Slot → List (Option Slot) → ℕ → Type 0
  At retired younger x room fetch =
      Astray d run retired (suc (length younger)) room
      ⊎ (OnPath d run retired (suc (length younger)) room × HoldsAt d (suc (length younger)) x (run (count retired room))
      × (((length younger < d.resolve → x.guess ≡ (run (suc (count retired room))).pc)
      × ((after : ℕ) (others : List (Option Slot)) → count retired (Some x ∷ room) ≡ count after others → OnPath d run after (length younger) others
      → PathOf after (younger ++ others) fetch))
      ⊎ ((length younger < d.resolve) × (x.guess ≢ (run (suc (count retired room))).pc))))

  pub at_slot : (retired : ℕ) (younger : List (Option Slot)) (x : Slot) (room : List (Option Slot)) (fetch : ℕ) → PathOf retired (younger ++ (Some x ∷ room)) fetch → At retired younger x room fetch
  at_slot retired younger x room fetch (inl h) =
      let here : OnPath d run retired (length younger) (Some x ∷ room) = on_older d run retired 0 (length younger) younger (Some x ∷ room) (omega arith) h.0 in
      inr (
        here.0,
        here.1,
        inl (
          here.2,
          λ after others c o. inl (
            on_replaced d run retired after 0 (length younger) younger (Some x ∷ room) others (omega arith) c h.0 o,
            h.1 ∙ ap (λ n. (run n).pc) (count_same retired after younger (Some x ∷ room) others c),
          ),
        ),
      )
  at_slot retired younger x room fetch (inr h) =
      elim (astray_split d run retired 0 (length younger) younger (Some x ∷ room) (omega arith) h) [
        | inl a ↦ elim a [ inl older ↦ inl older | inr own ↦ inr (own.0, own.1, inr (own.2, own.3)) ]
        | inr b ↦ inr (b.0.0, b.0.1, inl (b.0.2, λ after others c o. inr (b.1 after others c o)))
      ]
