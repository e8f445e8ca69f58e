-- What an instruction reads in a stage is what the run has there.
use Rattle.std.proofs.Common.{◌≡◌, ℕ, zero, suc, ◌+◌, ◌-◌, ◌<◌, ◌≤◌, Bool, true, false, ◌&&◌, refl, ap, sym, subst, ◌∙◌, List, [], ◌∷◌, drop, IsTrue, Option, Some, None, nat_lt, if◌then◌else◌, arith}
use Rattle.std.proofs.lemmas.Bool.Decides.{nat_tests}
use Rattle.vg_bits.specs.BitValue.{BitValue}
use Rattle.vg_hazard.specs.declared.choice.Choice.{Choice}
use Rattle.vg_hazard.specs.declared.choice.Choice.TheVariants.{Take, Register, Wait}
use Rattle.vg_hazard.specs.Choosing.{choice_over}
use Rattle.vg_cycle.specs.Description.{Fetched, View, Description, Agrees, IsPlaced, IsRun, written}
use Rattle.vg_cycle.specs.Pipe.{Slot, count, HoldsAt, OnPath}
use Rattle.vg_cycle.specs.Hazard.{no_contents, choice_by, choice_in}
use Rattle.vg_cycle.specs.Cycle.{Gives, Does}

-- a choice fits what a location is to have, where it now has `now`
abbrev pub Fits : Choice → BitValue → BitValue → Type 0
Fits (Take v) now wanted = v ≡ wanted
Fits Register now wanted = now ≡ wanted
Fits Wait now wanted = Unit {0}

-- what a choice gives is what the location is to have, where the choice fits
pub given_fits : (c : Choice) (now got wanted : BitValue) → Gives c now got → Fits c now wanted → got ≡ wanted
given_fits (Take v) now got wanted g f = g ∙ f
given_fits Register now got wanted g f = g ∙ f
given_fits Wait now got wanted g f = absurd g

-- One writer's say over a choice that fits what the location has before its write.
one_write : (n nr k g gr f kv : Bool) (v old new base : BitValue) (below : Choice) → n ≡ nr → (k ≡ true → g ≡ gr) → (f ≡ true → kv ≡ true → v ≡ new) → Fits below base old
    → Fits (if n then choice_over f (record { guard = if k then Some g else None; value = if kv then Some v else None }) below else below) base (if nr && gr then new else old)
one_write false false k g gr f kv v old new base below en eg ev h = h
one_write false true k g gr f kv v old new base below en eg ev h = absurd (grind arith)
one_write true false k g gr f kv v old new base below en eg ev h = absurd (grind arith)
one_write true true false g gr true kv v old new base below en eg ev h = tt
one_write true true false g gr false kv v old new base below en eg ev h = tt
one_write true true true false false f kv v old new base below en eg ev h = h
one_write true true true false true f kv v old new base below en eg ev h = absurd (let e : false ≡ true = eg refl in grind arith)
one_write true true true true false f kv v old new base below en eg ev h = absurd (let e : true ≡ false = eg refl in grind arith)
one_write true true true true true false kv v old new base below en eg ev h = tt
one_write true true true true true true false v old new base below en eg ev h = tt
one_write true true true true true true true v old new base below en eg ev h = ev refl refl

-- fewer stages are agreed on too
pub agrees_before : (d : Description) (x : Fetched) (t u : ℕ) (v w : View) → t ≤ u → Agrees d x u v w → Agrees d x t v w
agrees_before d x t u v w h a = record { pc = a.pc; has = λ r i lt. a.has r i (omega arith) }

module _ (d : Description) (placed : IsPlaced d) where
  -- an instruction that holds the run's values writes what the run's does
  pub writes_same : (u : ℕ) (y : Slot) (s : View) → HoldsAt d (suc u) y s → (r i : ℕ) (old : BitValue) → d.guard_stage y.fetched r < suc u → d.value_stage y.fetched r < suc u
      → written d y.fetched y.view r i old ≡ written d y.fetched s r i old
  writes_same u y s h r i old g v =
      let en : d.names y.fetched y.view r i ≡ d.names y.fetched s r i = placed.names_agree y.fetched y.view s (agrees_before d y.fetched 1 (suc u) y.view s (omega arith) h.reads) r i in
      let eg : d.guard y.fetched y.view r ≡ d.guard y.fetched s r = placed.guard_agrees y.fetched (suc u) y.view s h.reads r g in
      let ev : d.put y.fetched y.view r i old ≡ d.put y.fetched s r i old = placed.put_agrees y.fetched (suc u) y.view s h.reads r i old v in
      ap (λ n. if n && d.guard y.fetched y.view r then d.put y.fetched y.view r i old else old) en
      ∙ ap (λ n. if d.names y.fetched s r i && n then d.put y.fetched y.view r i old else old) eg
      ∙ ap (λ n. if d.names y.fetched s r i && d.guard y.fetched s r then n else old) ev

  -- the say of one slot on the path
  slot_write : (t : ℕ) (y : Slot) (s : View) → HoldsAt d (suc t) y s → (r i : ℕ) (base : BitValue) (below : Choice) → Fits below base (s.has r i)
      → Fits (choice_by d r i t (Some y) below) base (written d y.fetched s r i (s.has r i))
  slot_write t y s h r i base below fits =
      one_write (d.names y.fetched y.view r i) (d.names y.fetched s r i) (nat_lt (d.guard_stage y.fetched r) (suc t)) (d.guard y.fetched y.view r) (d.guard y.fetched s r)
      (d.forward r) (nat_lt (d.value_stage y.fetched r) (suc t)) (d.put y.fetched y.view r i no_contents) (s.has r i) (d.put y.fetched s r i (s.has r i)) base below
      (placed.names_agree y.fetched y.view s (agrees_before d y.fetched 1 (suc t) y.view s (omega arith) h.reads) r i)
      (λ k. placed.guard_agrees y.fetched (suc t) y.view s h.reads r (grind (arith, nat_tests, k)))
      (λ f k. placed.forwarded y.fetched y.view r i no_contents (s.has r i) (grind (arith, f))
      ∙ placed.put_agrees y.fetched (suc t) y.view s h.reads r i (s.has r i) (grind (arith, nat_tests, k)))
      fits

  module _ (run : ℕ → View) (runs : IsRun d run) where
    -- The choice among the slots from stage t on fits what the run has behind all of them, where the location
    -- now has what the run has behind those that have done the write stage.
    pub choice_fits : (retired t k : ℕ) (slots : List (Option Slot)) → OnPath d run retired t slots → (r i : ℕ) → t + k ≡ d.write_stage r → (base : BitValue)
        → base ≡ (run (count retired (drop k slots))).has r i → Fits (choice_in d r i t slots) base ((run (count retired slots)).has r i)
    choice_fits retired t zero [] h r i e base b = b
    choice_fits retired t (suc k) [] h r i e base b = b
    choice_fits retired t zero (slot ∷ slots) h r i e base b =
        let test : nat_lt t (d.write_stage r) ≡ false = grind (arith, nat_tests) in
        rw test b
    choice_fits retired t (suc k) (None ∷ slots) h r i e base b =
        let test : nat_lt t (d.write_stage r) ≡ true = grind (arith, nat_tests) in
        rw test (choice_fits retired (suc t) k slots h r i (omega arith) base b)
    choice_fits retired t (suc k) (Some y ∷ slots) h r i e base b =
        let test : nat_lt t (d.write_stage r) ≡ true = grind (arith, nat_tests) in
        let below : Fits (choice_in d r i (suc t) slots) base ((run (count retired slots)).has r i) = choice_fits retired (suc t) k slots h.0 r i (omega arith) base b in
        let said : Fits (choice_by d r i t (Some y) (choice_in d r i (suc t) slots)) base (written d y.fetched (run (count retired slots)) r i ((run (count retired slots)).has r i))
        = slot_write t y (run (count retired slots)) h.1 r i base (choice_in d r i (suc t) slots) below in
        let e2 : written d y.fetched (run (count retired slots)) r i ((run (count retired slots)).has r i) ≡ (run (suc (count retired slots))).has r i
        = sym (runs.has (count retired slots) y.fetched h.1.code r i) in
        let P : BitValue → Type 0 = λ v. Fits (choice_by d r i t (Some y) (choice_in d r i (suc t) slots)) base v in
        rw test (subst P e2 said)

    -- An instruction that does a stage while the older ones are on the path then holds what the run has.
    pub does_hold : (retired u : ℕ) (older : List (Option Slot)) (has : ℕ → ℕ → BitValue) (x y : Slot) → OnPath d run retired u older
        → ((r i k : ℕ) → u + k ≡ d.write_stage r → has r i ≡ (run (count retired (drop k older))).has r i)
        → d.code (run (count retired older)).pc ≡ Some x.fetched → Agrees d x.fetched u x.view (run (count retired older))
        → Does d u has older x y → HoldsAt d (suc u) y (run (count retired older))
    does_hold retired u older has x y path contents code agrees does = record {
      code = code ∙ ap Some (sym does.fetched);
      reads = record {
        pc = does.address ∙ agrees.pc;
        has = λ r i lt is. by_stage r i is (nat_lt (d.read_stage r) u) refl lt;
      };
    }
      where
        kept_agrees : Agrees d y.fetched u y.view x.view
        kept_agrees = record { pc = does.address; has = λ r i lt is. does.kept r i lt }

        by_stage : (r i : ℕ) → IsTrue (d.reads y.fetched y.view r i) → (b : Bool) → nat_lt (d.read_stage r) u ≡ b → d.read_stage r < suc u → y.view.has r i ≡ (run (count retired older)).has r i
        by_stage r i is true e lt =
            let before : d.read_stage r < u = grind (arith, nat_tests) in
            let same : d.reads y.fetched y.view r i ≡ d.reads y.fetched x.view r i = placed.reads_agree y.fetched u y.view x.view kept_agrees r i before in
            let P : Bool → Type 0 = λ b. IsTrue b in
            let F : Fetched → Type 0 = λ f. IsTrue (d.reads f x.view r i) in
            does.kept r i before ∙ agrees.has r i before (subst F does.fetched (subst P same is))
        by_stage r i is false e lt =
            let now : d.read_stage r ≡ u = grind (arith, nat_tests) in
            let first : d.read_stage r ≤ d.write_stage r = placed.read_first r in
            let gap : u + (d.write_stage r - u) ≡ d.write_stage r = omega arith in
            given_fits (choice_in d r i u older) (has r i) (y.view.has r i) ((run (count retired older)).has r i)
            (does.had r i now is)
            (choice_fits retired u (d.write_stage r - u) older path r i gap (has r i) (contents r i (d.write_stage r - u) gap))
