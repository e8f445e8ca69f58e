-- The laws at a pipeline of five stages and at one of a single stage.
use Rattle.std.proofs.Common.{◌≡◌, ℕ, zero, suc, ◌+◌, ◌%◌, ◌<◌, ◌≤◌, true, false, refl, ap, sym, List, [], ◌∷◌, ◌++◌, Option, Some, None, nat_eq, arith}
use Rattle.std.proofs.lemmas.Bool.Decides.{nat_tests}
use Rattle.vg_bits.specs.BitValue.{BitValue}
use Rattle.vg_cycle.specs.Description.{Fetched, View, Description, IsPlaced, IsRun, written}
use Rattle.vg_cycle.specs.Pipe.{Slot, Pipe}
use Rattle.vg_cycle.specs.Cycle.{Outcome, Turn, Empty, Fetch, IsOver, Tick, IsNew}
use Rattle.vg_cycle.specs.Sample.{counter, counts, HasCycle, HasMove}
use Rattle.vg_cycle.proofs.Ticking.{new_stands, tick_stands}

value_same : (a b : BitValue) → a ≡ b → ◌≡◌ {A = BitValue} (record { width = 8; number = (a.number + 1) % 256 }) (record { width = 8; number = (b.number + 1) % 256 })
value_same a b e = ap (λ (v : BitValue). record { width = 8; number = (v.number + 1) % 256 }) e

waits_all : (r : ℕ) → nat_eq r 0 ≡ true → nat_eq r 1 ≡ false
waits_all zero e = refl
waits_all (suc r) e = absurd (grind (arith, nat_tests))

counter_placed : (stages read compute write : ℕ) → read ≤ compute → compute ≤ write → write < stages → IsPlaced (counter stages read compute write)
counter_placed stages read compute write a b c = record {
  read_first = λ r. omega arith;
  resolve_first = λ r. b;
  within = λ r. c;
  guard_ready = λ x r. omega arith;
  value_ready = λ x r. b;
  next_ready = λ x. omega arith;
  reads_agree = λ x u v w e r i lt. refl;
  names_agree = λ x v w e r i. refl;
  guard_agrees = λ x u v w e r lt. refl;
  put_agrees = λ x u v w e r i old lt. value_same (v.has 1 0) (w.has 1 0) (e.has 1 0 (omega arith) refl);
  next_agrees = λ x u v w e lt. ap (λ n. n + 4) e.pc;
  asks_agree = λ x u v w e. refl;
  forwarded = λ x v r i old older f. refl;
  index_known = λ x v w r i h e. refl;
  whole_read = λ x v w r i h is. (i, is);
  whole_named = λ x v r i j h. (let n : nat_eq r 1 ≡ false = waits_all r h in rw n refl);
  whole_waits = λ r h. waits_all r h;
}

counter_runs : (d : Description) → ((x : Fetched) (v : View) → d.next x v ≡ v.pc + 4) → ((x y : Fetched) (v : View) (r i : ℕ) (old : BitValue) → written d x v r i old ≡ written d y v r i old) → IsRun d (counts d)
counter_runs d next same = record {
  next = λ k x e. sym (next x (counts d k));
  has = λ k x e r i. same _ x (counts d k) r i ((counts d k).has r i);
}

abbrev none : ℕ → ℕ → BitValue
none r i = record { width = 8; number = 0 }

-- an instruction at an address, with what it has read
abbrev slot_at : ℕ → Slot
slot_at pc = record { fetched = record { instr = 0; word = 0 }; view = record { pc = pc; has = none }; guess = pc + 4 }

not_over : (d : Description) (p : Pipe) (x : Fetched) → d.code p.fetch ≡ Some x → IsOver d p → ⊥
not_over d p x e over = let s : d.code p.fetch ≡ None = over.stop in absurd (cc)

-- ---- a single stage

abbrev one : Description
one = counter 1 0 0 0

abbrev one_first : Pipe
one_first = record { slots = []; has = none; fetch = 0; retired = 0 }

abbrev one_second : Pipe
one_second = record { slots = []; has = λ r i. written one (record { instr = 0; word = 0 }) (slot_at 0).view r i (none r i); fetch = 4; retired = 1 }

pub one_stage : HasCycle one (counts one)
one_stage = record {
  placed = counter_placed 1 0 0 0 (omega arith) (omega arith) (omega arith);
  runs = counter_runs one (λ x v. refl) (λ x y v r i old. refl);
  first = one_first;
  new = record { shape = refl; empty = refl; has = λ r i. refl; fetch = refl; retired = refl };
  asked = [];
  second = one_second;
  tick = record {
    running = not_over one one_first (record { instr = 0; word = 0 }) refl;
    outcome = record { asked = []; redirected = false };
    turned = one_first;
    turns = (refl, refl, refl);
    fetch_asked = [];
    fetch = Fetch refl (slot_at 0) (slot_at 0)
        (record {
          is_open = tt;
          code = refl;
          address = refl;
          does = record { fetched = refl; address = refl; guess = refl; kept = λ r i lt. absurd (omega arith); had = λ r i e is. refl };
          slots_after = refl;
          has_after = λ r i. refl;
          fetch_after = refl;
          retired_after = refl;
        })
        refl;
    asked_are = refl;
  };
}

-- ---- five stages

abbrev five : Description
five = counter 5 1 2 4

abbrev five_first : Pipe
five_first = record { slots = None ∷ None ∷ None ∷ None ∷ []; has = none; fetch = 0; retired = 0 }

abbrev five_second : Pipe
five_second = record { slots = Some (slot_at 0) ∷ None ∷ None ∷ None ∷ []; has = none; fetch = 4; retired = 0 }

abbrev five_third : Pipe
five_third = record { slots = None ∷ Some (slot_at 0) ∷ None ∷ None ∷ []; has = none; fetch = 4; retired = 0 }

abbrev quiet : Outcome
quiet = record { asked = []; redirected = false }

empty_turn : (younger room : List (Option Slot)) → five_first.slots ≡ younger ++ (None ∷ room) → Turn five younger five_first quiet five_first
empty_turn younger room e = Empty room e refl refl refl

five_tick : Tick five five_first [] five_second
five_tick = record {
  running = not_over five five_first (record { instr = 0; word = 0 }) refl;
  outcome = quiet;
  turned = five_first;
  turns = (
    None ∷ None ∷ None ∷ [],
    refl,
    quiet,
    five_first,
    empty_turn (None ∷ None ∷ None ∷ []) [] refl,
    quiet,
    (
      None ∷ None ∷ [],
      refl,
      quiet,
      five_first,
      empty_turn (None ∷ None ∷ []) (None ∷ []) refl,
      quiet,
      (
        None ∷ [],
        refl,
        quiet,
        five_first,
        empty_turn (None ∷ []) (None ∷ None ∷ []) refl,
        quiet,
        ([], refl, quiet, five_first, empty_turn [] (None ∷ None ∷ None ∷ []) refl, quiet, (refl, refl, refl), refl, refl),
        refl,
        refl,
      ),
      refl,
      refl,
    ),
    refl,
    refl,
  );
  fetch_asked = [];
  fetch = Fetch refl (slot_at 0) (slot_at 0)
      (record {
        is_open = tt;
        code = refl;
        address = refl;
        does = record { fetched = refl; address = refl; guess = refl; kept = λ r i lt. absurd (omega arith); had = λ r i e is. absurd (let n : 1 ≡ 0 = e in omega arith) };
        slots_after = refl;
        has_after = λ r i. refl;
        fetch_after = refl;
        retired_after = refl;
      })
      refl;
  asked_are = refl;
}

five_placed : IsPlaced five
five_placed = counter_placed 5 1 2 4 (omega arith) (omega arith) (omega arith)

five_runs : IsRun five (counts five)
five_runs = counter_runs five (λ x v. refl) (λ x y v r i old. refl)

five_new : IsNew five (counts five 0) five_first
five_new = record { shape = refl; empty = refl; has = λ r i. refl; fetch = refl; retired = refl }

pub five_stages : HasCycle five (counts five)
five_stages = record { placed = five_placed; runs = five_runs; first = five_first; new = five_new; asked = []; second = five_second; tick = five_tick }

pub five_move : HasMove five (counts five)
five_move = record {
  before = five_second;
  stands = tick_stands five five_placed (counts five) five_runs five_first [] five_second (new_stands five five_placed (counts five) five_runs five_first five_new) five_tick;
  younger = [];
  x = slot_at 0;
  room = None ∷ None ∷ None ∷ [];
  y = slot_at 0;
  after = five_third;
  moves = record {
    slots = refl;
    is_open = tt;
    does = record { fetched = refl; address = refl; guess = refl; kept = λ r i lt. refl; had = λ r i e is. refl };
    slots_after = refl;
    has_after = λ r i. refl;
    fetch_after = refl;
    retired_after = refl;
  };
}
