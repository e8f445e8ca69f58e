-- Who stays has a reason, and who has none goes; and what a slot on the path keeps.
use Rattle.std.proofs.Common.{◌≡◌, ℕ, suc, Bool, true, false, refl, ap, sym, subst, ◌∙◌, List, [], ◌∷◌, reverse, IsTrue, Option, Some, None, nat_lt, nat_eq, if◌then◌else◌, arith}
use Rattle.std.proofs.lemmas.Bool.Decides.{nat_tests}
use Rattle.std.proofs.lemmas.List.{reverse-reverse}
use Rattle.vg_bits.specs.BitValue.{BitValue}
use Rattle.vg_hazard.specs.declared.writer.Writer.{Writer}
use Rattle.vg_hazard.specs.declared.choice.Choice.{Choice}
use Rattle.vg_hazard.specs.declared.choice.Choice.TheVariants.{Take, Register, Wait}
use Rattle.vg_hazard.specs.Choosing.{choice_over, choice_of, choice_down}
use Rattle.vg_hazard.proofs.Laws.{youngest_first}
use Rattle.vg_cycle.specs.Description.{Fetched, View, Description, IsPlaced}
use Rattle.vg_cycle.specs.Pipe.{Slot}
use Rattle.vg_cycle.specs.Hazard.{writer_of, choice_by, choice_in, with_writer, writers_in}
use Rattle.vg_cycle.specs.Cycle.{Gives, Does, Waits}

-- ---- the choice by a list of writers

by_writer : (d : Description) (r i t : ℕ) (slot : Option Slot) (older : List Writer) → choice_by d r i t slot (choice_down (d.forward r) older) ≡ choice_down (d.forward r) (with_writer d r i t slot older)
by_writer d r i t None older = refl
by_writer d r i t (Some y) older = go (d.names y.fetched y.view r i)
  where
    go : (b : Bool) → (if b then choice_over (d.forward r) (writer_of d (suc t) r i y) (choice_down (d.forward r) older) else choice_down (d.forward r) older)
        ≡ choice_down (d.forward r) (if b then writer_of d (suc t) r i y ∷ older else older)
    go true = refl
    go false = refl

by_writers : (d : Description) (r i t : ℕ) (slots : List (Option Slot)) → choice_in d r i t slots ≡ choice_down (d.forward r) (writers_in d r i t slots)
by_writers d r i t [] = refl
by_writers d r i t (slot ∷ slots) = go (by_writers d r i (suc t) slots) (nat_lt t (d.write_stage r))
  where
    go : choice_in d r i (suc t) slots ≡ choice_down (d.forward r) (writers_in d r i (suc t) slots) → (b : Bool)
        → (if b then choice_by d r i t slot (choice_in d r i (suc t) slots) else Register)
        ≡ choice_down (d.forward r) (if b then with_writer d r i t slot (writers_in d r i (suc t) slots) else [])
    go h true = ap (choice_by d r i t slot) h ∙ by_writer d r i t slot (writers_in d r i (suc t) slots)
    go h false = refl

-- **The choice among slots is that of `choose`** for the writers in them, oldest first.
pub choice_is_chosen : (d : Description) (r i t : ℕ) (slots : List (Option Slot)) → choice_in d r i t slots ≡ choice_of (d.forward r) (reverse (writers_in d r i t slots))
choice_is_chosen d r i t slots =
    by_writers d r i t slots
    ∙ ap (choice_down (d.forward r)) (sym (reverse-reverse (writers_in d r i t slots)))
    ∙ sym (youngest_first (d.forward r) (reverse (writers_in d r i t slots)))

-- ---- a whole resource

-- what a writer of a whole resource says is the same for each index
whole_over : (forward : Bool) (guard : Option Bool) (v w : Option BitValue) (older other : Choice) → forward ≡ false → older ≡ other
    → choice_over forward (record { guard = guard; value = v }) older ≡ choice_over forward (record { guard = guard; value = w }) other
whole_over true guard v w older other e h = absurd (grind arith)
whole_over false None v w older other e h = refl
whole_over false (Some true) v w older other e h = refl
whole_over false (Some false) v w older other e h = h

module _ (d : Description) (placed : IsPlaced d) where
  whole_by : (r i j t : ℕ) (slot : Option Slot) (older other : Choice) → d.whole r ≡ true → older ≡ other → choice_by d r i t slot older ≡ choice_by d r j t slot other
  whole_by r i j t None older other w h = h
  whole_by r i j t (Some y) older other w h = go (d.names y.fetched y.view r i) (d.names y.fetched y.view r j) (placed.whole_named y.fetched y.view r i j w)
    where
      go : (a b : Bool) → a ≡ b → (if a then choice_over (d.forward r) (writer_of d (suc t) r i y) older else older) ≡ (if b then choice_over (d.forward r) (writer_of d (suc t) r j y) other else other)
      go true true e = whole_over (d.forward r) (writer_of d (suc t) r i y).guard (writer_of d (suc t) r i y).value (writer_of d (suc t) r j y).value older other (placed.whole_waits r w) h
      go false false e = h
      go true false e = absurd (grind arith)
      go false true e = absurd (grind arith)

  whole_choice : (r i j t : ℕ) (slots : List (Option Slot)) → d.whole r ≡ true → choice_in d r i t slots ≡ choice_in d r j t slots
  whole_choice r i j t [] w = refl
  whole_choice r i j t (slot ∷ slots) w = go (whole_choice r i j (suc t) slots w) (nat_lt t (d.write_stage r))
    where
      go : choice_in d r i (suc t) slots ≡ choice_in d r j (suc t) slots → (b : Bool)
          → (if b then choice_by d r i t slot (choice_in d r i (suc t) slots) else Register) ≡ (if b then choice_by d r j t slot (choice_in d r j (suc t) slots) else Register)
      go h true = whole_by r i j t slot (choice_in d r i (suc t) slots) (choice_in d r j (suc t) slots) w h
      go h false = refl

  -- ---- who goes

  -- what a choice gives where it gives something
  abbrev value_given : Choice → BitValue → BitValue
  value_given (Take v) now = v
  value_given Register now = now
  value_given Wait now = now

  gives : (c : Choice) (now : BitValue) → (c ≡ Wait → ⊥) → Gives c now (value_given c now)
  gives (Take v) now h = refl
  gives Register now h = refl
  gives Wait now h = h refl

  -- the instruction with what it reads in stage u
  abbrev pub done : ℕ → (ℕ → ℕ → BitValue) → List (Option Slot) → Slot → Slot
  done u has older x = record {
    fetched = x.fetched;
    view = record { pc = x.view.pc; has = λ r i. if nat_eq (d.read_stage r) u then value_given (choice_in d r i u older) (has r i) else x.view.has r i };
    guess = x.guess;
  }

  -- no location waits for another view either
  reads_wait : (u : ℕ) (older : List (Option Slot)) (x : Slot) (v : View) → v.pc ≡ x.view.pc → (Waits d u older x → ⊥)
      → (r i : ℕ) → d.read_stage r ≡ u → IsTrue (d.reads x.fetched v r i) → choice_in d r i u older ≡ Wait → ⊥
  reads_wait u older x v pc none r i e is w = go (d.whole r) refl
    where
      go : (b : Bool) → d.whole r ≡ b → ⊥
      go false h = none (record { resource = r; index = i; stage = e; reads = subst (λ (b : Bool). IsTrue b) (placed.index_known x.fetched v x.view r i h pc) is; waits = w })
      go true h =
          let other : (j : ℕ) × IsTrue (d.reads x.fetched x.view r j) = placed.whole_read x.fetched v x.view r i h is in
          none (record { resource = r; index = other.0; stage = e; reads = other.1; waits = whole_choice r other.0 i u older h ∙ w })

  -- **An instruction that waits for no location can do its stage.**
  pub could_go : (u : ℕ) (has : ℕ → ℕ → BitValue) (older : List (Option Slot)) (x : Slot) → (Waits d u older x → ⊥) → Does d u has older x (done u has older x)
  could_go u has older x none = record {
    fetched = refl;
    address = refl;
    guess = refl;
    kept = λ r i lt. (let test : nat_eq (d.read_stage r) u ≡ false = grind (arith, nat_tests) in rw test refl);
    had = λ r i e is.
        (let test : nat_eq (d.read_stage r) u ≡ true = grind (arith, nat_tests) in
        rw test (gives (choice_in d r i u older) (has r i) (reads_wait u older x (done u has older x).view refl none r i e is)));
  }

  -- **An instruction that waits for a location can't.**
  pub waits_stays : (u : ℕ) (has : ℕ → ℕ → BitValue) (older : List (Option Slot)) (x y : Slot) → Does d u has older x y → Waits d u older x → ⊥
  waits_stays u has older x y does w = go (d.whole w.resource) refl
    where
      had : (i : ℕ) → IsTrue (d.reads x.fetched y.view w.resource i) → choice_in d w.resource i u older ≡ Wait → ⊥
      had i is c =
          let F : Fetched → Type 0 = λ f. IsTrue (d.reads f y.view w.resource i) in
          let G : Choice → Type 0 = λ z. Gives z (has w.resource i) (y.view.has w.resource i) in
          subst G c (does.had w.resource i w.stage (subst F (sym does.fetched) is))

      go : (b : Bool) → d.whole w.resource ≡ b → ⊥
      go false h = had w.index (subst (λ (b : Bool). IsTrue b) (sym (placed.index_known x.fetched y.view x.view w.resource w.index h does.address)) w.reads) w.waits
      go true h =
          let other : (j : ℕ) × IsTrue (d.reads x.fetched y.view w.resource j) = placed.whole_read x.fetched x.view y.view w.resource w.index h w.reads in
          had other.0 other.1 (whole_choice w.resource other.0 w.index u older h ∙ w.waits)
