-- What holds of whole cycles: the pipeline stands for the run, it ends only where the run does, and it gets on.
use Rattle.std.proofs.Common.{◌≡◌, ℕ, zero, suc, ◌+◌, ◌*◌, ◌<◌, ◌≤◌, Bool, true, false, ◌||◌, refl, ap, sym, subst, ◌∙◌, List, [], ◌∷◌, ◌++◌, length, drop, Option, Some, None, ◌⊎◌, inl, inr, nat_lt, if◌then◌else◌, length-append, arith}
use Rattle.vg_bits.specs.BitValue.{BitValue}
use Rattle.vg_hazard.specs.declared.choice.Choice.TheVariants.{Register, Wait}
use Rattle.vg_cycle.specs.Description.{View, Ask, Description, IsPlaced, IsRun}
use Rattle.vg_cycle.specs.Pipe.{Slot, Pipe, count, OnPath, Astray, StandsFor, older_first, oldest, progress}
use Rattle.vg_cycle.specs.Hazard.{choice_in}
use Rattle.vg_cycle.specs.Cycle.{finds_wrong, cleared, entered, IsOpen, retired_by, Moves, Fetches, Asked, granted, Refuses, Stays, Blocked, Waiting, Refused, Outcome, Turn, Empty, Goes, Remains, Turns, Full, Redirected, NoCode, Late, Fetching, Fetch, NoFetch_, IsOver, Tick, noes, Ticks, IsNew}
use Rattle.vg_cycle.proofs.Stages.{count-cleared, drop_past}
use Rattle.vg_cycle.proofs.Moving.{length-entered, length-tail, length-front, front_of, length-front_of, front_is}
use Rattle.vg_cycle.proofs.Keeping.{move_stands, fetch_stands}

-- empty slots count nothing
empty_counts : (retired k : ℕ) (slots : List (Option Slot)) → cleared slots ≡ slots → count retired (drop k slots) ≡ retired
empty_counts retired zero slots e = ap (count retired) (sym e) ∙ count-cleared retired slots
empty_counts retired (suc k) [] e = refl
empty_counts retired (suc k) (None ∷ slots) e = empty_counts retired k slots (let same : cleared slots ≡ slots = cc in same)
empty_counts retired (suc k) (Some y ∷ slots) e = absurd (cc)

module _ (d : Description) (placed : IsPlaced d) (run : ℕ → View) (runs : IsRun d run) where
  -- the slots of a new pipeline are on the path
  empty_path : (retired t : ℕ) (slots : List (Option Slot)) → cleared slots ≡ slots → OnPath d run retired t slots
  empty_path retired t [] e = tt
  empty_path retired t (None ∷ slots) e = empty_path retired (suc t) slots (let same : cleared slots ≡ slots = cc in same)
  empty_path retired t (Some y ∷ slots) e = absurd (cc)

  empty_not_astray : (retired t : ℕ) (slots : List (Option Slot)) → cleared slots ≡ slots → Astray d run retired t slots → ⊥
  empty_not_astray retired t [] e a = a
  empty_not_astray retired t (None ∷ slots) e a = empty_not_astray retired (suc t) slots (let same : cleared slots ≡ slots = cc in same) a
  empty_not_astray retired t (Some y ∷ slots) e a = absurd (cc)

  -- **A new pipeline stands for the run.**
  pub new_stands : (p : Pipe) → IsNew d (run 0) p → StandsFor d run p
  new_stands p new = record {
    shape = new.shape;
    retired = λ k lt. absurd (let e : p.retired ≡ 0 = new.retired in omega arith);
    contents = λ r i. new.has r i ∙ ap (λ n. (run n).has r i) (sym (empty_counts p.retired (d.write_stage r) p.slots new.empty ∙ new.retired));
    path = inl (
      empty_path p.retired 0 p.slots new.empty,
      new.fetch ∙ ap (λ n. (run n).pc) (sym (empty_counts p.retired 0 p.slots new.empty ∙ new.retired)),
    );
  }

  -- **Nothing is over but by the run's own end**: where no slot holds an instruction, the fetch address is the run's, so what stops the pipeline there stops the run.
  pub over_ends : (p : Pipe) → StandsFor d run p → cleared p.slots ≡ p.slots → p.fetch ≡ (run p.retired).pc
  over_ends p stands e = go stands.path
    where
      go : (OnPath d run p.retired 0 p.slots × (p.fetch ≡ (run (count p.retired p.slots)).pc)) ⊎ Astray d run p.retired 0 p.slots → p.fetch ≡ (run p.retired).pc
      go (inl h) = h.1 ∙ ap (λ n. (run n).pc) (empty_counts p.retired 0 p.slots e)
      go (inr a) = absurd (empty_not_astray p.retired 0 p.slots e a)

  same_stands : (p q : Pipe) → q ≡ p → StandsFor d run p → StandsFor d run q
  same_stands p q e s = let P : Pipe → Type 0 = λ z. StandsFor d run z in subst P (sym e) s

  turn_stands : (younger : List (Option Slot)) (p : Pipe) (o : Outcome) (q : Pipe) → StandsFor d run p → Turn d younger p o q → StandsFor d run q
  turn_stands younger p o q s (Empty room es ea er e) = same_stands p q e s
  turn_stands younger p o q s (Goes x room y m ea er) = move_stands d placed run runs p younger x room y q s m
  turn_stands younger p o q s (Remains x room es why er e) = same_stands p q e s

  turns_stand : (n : ℕ) (p : Pipe) (o : Outcome) (q : Pipe) → StandsFor d run p → Turns d n p o q → StandsFor d run q
  turns_stand zero p o q s t = same_stands p q t.2 s
  turns_stand (suc n) p o q s t = turns_stand n t.3 t.5 q (turn_stands t.0 p t.2 t.3 s t.4) t.6

  fetching_stands : (redirected : Bool) (p : Pipe) (asked : List Asked) (q : Pipe) → StandsFor d run p → Fetching d redirected p asked q → StandsFor d run q
  fetching_stands redirected p asked q s (Fetch er x y f ea) = fetch_stands d placed run runs p x y q s f
  fetching_stands redirected p asked q s (NoFetch_ why e) = same_stands p q e s

  -- **A cycle keeps what the pipeline stands for.**
  pub tick_stands : (p : Pipe) (asked : List Asked) (q : Pipe) → StandsFor d run p → Tick d p asked q → StandsFor d run q
  tick_stands p asked q s t =
      fetching_stands t.outcome.redirected t.turned t.fetch_asked q (turns_stand (length p.slots) p t.outcome t.turned s t.turns) t.fetch

-- ---- how a pipeline gets on

older_first-assoc : (a b c : ℕ) → older_first a (older_first b c) ≡ older_first (older_first a b) c
older_first-assoc a b (suc c) = refl
older_first-assoc a zero zero = refl
older_first-assoc a (suc b) zero = refl

-- the oldest of the older slots, where there is one
oldest-append : (t u : ℕ) (younger slots : List (Option Slot)) → t + length younger ≡ u → oldest t (younger ++ slots) ≡ older_first (oldest t younger) (oldest u slots)
oldest-append t u [] slots e = let same : t ≡ u = omega arith in ap (λ n. oldest n slots) same ∙ sym (first_zero (oldest u slots))
  where
    first_zero : (n : ℕ) → older_first 0 n ≡ n
    first_zero zero = refl
    first_zero (suc n) = refl
oldest-append t u (None ∷ younger) slots e = oldest-append (suc t) u younger slots (omega arith)
oldest-append t u (Some y ∷ younger) slots e =
    ap (older_first (suc t)) (oldest-append (suc t) u younger slots (omega arith)) ∙ older_first-assoc (suc t) (oldest (suc t) younger) (oldest u slots)

-- where the older slots are empty
empty_oldest : (t : ℕ) (slots : List (Option Slot)) → cleared slots ≡ slots → oldest t slots ≡ 0
empty_oldest t [] e = refl
empty_oldest t (None ∷ slots) e = empty_oldest (suc t) slots (let same : cleared slots ≡ slots = cc in same)
empty_oldest t (Some y ∷ slots) e = absurd (cc)

-- no older instruction makes one wait
empty_choice : (d : Description) (r i t : ℕ) (slots : List (Option Slot)) → cleared slots ≡ slots → choice_in d r i t slots ≡ Register
empty_choice d r i t [] e = refl
empty_choice d r i t (None ∷ slots) e = go (empty_choice d r i (suc t) slots (let same : cleared slots ≡ slots = cc in same)) (nat_lt t (d.write_stage r))
  where
    go : choice_in d r i (suc t) slots ≡ Register → (b : Bool) → (if b then choice_in d r i (suc t) slots else Register) ≡ Register
    go h true = h
    go h false = refl
empty_choice d r i t (Some y ∷ slots) e = absurd (cc)

empty_open : (slots : List (Option Slot)) → cleared slots ≡ slots → IsOpen slots
empty_open [] e = tt
empty_open (None ∷ slots) e = tt
empty_open (Some y ∷ slots) e = absurd (cc)

-- a stage done: nothing is lost, and where no older instruction is in a slot one stage is won
stage_won : (stages retired t front younger : ℕ) (room : List (Option Slot)) (y : Slot) → suc (suc (t + length room)) ≡ stages → IsOpen room
    → stages * retired + older_first younger (older_first (suc t) (oldest (suc t) room))
    ≤ stages * retired_by room retired + older_first front (oldest (suc t) (entered y room))
    × (oldest (suc t) room ≡ 0
    → stages * retired + older_first younger (older_first (suc t) (oldest (suc t) room)) + 1
    ≤ stages * retired_by room retired + older_first front (oldest (suc t) (entered y room)))
stage_won stages retired t front younger [] y shape o =
    let more : stages * suc retired ≡ stages * retired + stages = omega arith in
    (omega arith, λ e. omega arith)
stage_won stages retired t front younger (Some z ∷ older) y shape o = absurd o
stage_won stages retired t front younger (None ∷ older) y shape o = go (oldest (suc (suc t)) older) refl
  where
    go : (n : ℕ) → oldest (suc (suc t)) older ≡ n
        → stages * retired + older_first younger (older_first (suc t) (oldest (suc (suc t)) older)) ≤ stages * retired + older_first front (older_first (suc (suc t)) (oldest (suc (suc t)) older))
        × (oldest (suc (suc t)) older ≡ 0
        → stages * retired + older_first younger (older_first (suc t) (oldest (suc (suc t)) older)) + 1 ≤ stages * retired + older_first front (older_first (suc (suc t)) (oldest (suc (suc t)) older)))
    go zero e = rw e (omega arith, λ h. omega arith)
    go (suc n) e = rw e (omega arith, λ h. absurd (omega arith))

-- ---- turns

noes-append : (a b : List Asked) → noes (a ++ b) ≡ noes a + noes b
noes-append [] b = let e : noes b ≡ 0 + noes b = omega arith in e
noes-append (x ∷ a) b =
    let n : ℕ = if x.granted then 0 else 1 in
    let h : noes (a ++ b) ≡ noes a + noes b = noes-append a b in
    let e : n + noes (a ++ b) ≡ (n + noes a) + noes b = omega arith in e

-- a refusal is a no
refused_counts : (asks : List Ask) (asked : List Asked) → Refuses asks asked → 1 ≤ noes asked
refused_counts asks asked r =
    let e : noes asked ≡ noes (granted r.before) + noes (record { ask = r.ask; granted = false } ∷ []) = ap noes r.asked_are ∙ noes-append (granted r.before) _ in
    omega arith

-- the slots behind a place in the list
behind : (younger slots : List (Option Slot)) (n : ℕ) → length younger ≡ n → drop n (younger ++ slots) ≡ slots
behind younger slots n e = drop_past younger slots n 0 (omega arith)

module _ (d : Description) (placed : IsPlaced d) where
  -- a move keeps the number of slots, loses nothing, and wins a stage where no older instruction is in a slot
  move_won : (p : Pipe) (younger : List (Option Slot)) (x : Slot) (room : List (Option Slot)) (y : Slot) (q : Pipe) → suc (length p.slots) ≡ d.stages → Moves d p younger x room y q
      → (length q.slots ≡ length p.slots) × (progress d p ≤ progress d q) × (cleared room ≡ room → progress d p + 1 ≤ progress d q)
  move_won p younger x room y q shape m =
      let found : Bool = finds_wrong d (suc (length younger)) y in
      let slots : q.slots ≡ front_of found younger ++ (None ∷ entered y room) = m.slots_after ∙ ap (λ z. z ++ (None ∷ entered y room)) (front_is found younger) in
      let lp : length p.slots ≡ length (younger ++ (Some x ∷ room)) = ap length m.slots in
      let lf : length younger ≡ length (front_of found younger) = length-front_of found younger in
      let lq : length q.slots ≡ length (younger ++ (Some x ∷ room)) =
      ap length slots
      ∙ sym (length-front younger (front_of found younger) (None ∷ entered y room) lf)
      ∙ length-tail younger (None ∷ entered y room) (Some x ∷ room) (ap suc (length-entered y room)) in
      let lr : length (younger ++ (Some x ∷ room)) ≡ length younger + suc (length room) = length-append younger (Some x ∷ room) in
      let all : suc (suc (length younger + length room)) ≡ d.stages = omega arith in
      let won : (d.stages * p.retired + older_first (oldest 0 younger) (older_first (suc (length younger)) (oldest (suc (length younger)) room))
      ≤ d.stages * retired_by room p.retired + older_first (oldest 0 (front_of found younger)) (oldest (suc (length younger)) (entered y room)))
      × (oldest (suc (length younger)) room ≡ 0
      → d.stages * p.retired + older_first (oldest 0 younger) (older_first (suc (length younger)) (oldest (suc (length younger)) room)) + 1
      ≤ d.stages * retired_by room p.retired + older_first (oldest 0 (front_of found younger)) (oldest (suc (length younger)) (entered y room)))
      = stage_won d.stages p.retired (length younger) (oldest 0 (front_of found younger)) (oldest 0 younger) room y all m.is_open in
      let op : progress d p ≡ d.stages * p.retired + older_first (oldest 0 younger) (older_first (suc (length younger)) (oldest (suc (length younger)) room))
      = ap (λ z. d.stages * p.retired + oldest 0 z) m.slots ∙ ap (λ n. d.stages * p.retired + n) (oldest-append 0 (length younger) younger (Some x ∷ room) (omega arith)) in
      let oq : progress d q ≡ d.stages * retired_by room p.retired + older_first (oldest 0 (front_of found younger)) (oldest (suc (length younger)) (entered y room))
      = ap (λ n. d.stages * n + oldest 0 q.slots) m.retired_after
      ∙ ap (λ z. d.stages * retired_by room p.retired + oldest 0 z) slots
      ∙ ap (λ n. d.stages * retired_by room p.retired + n) (oldest-append 0 (length younger) (front_of found younger) (None ∷ entered y room) (omega arith)) in (
        lq ∙ sym lp,
        rw (op, oq) won.0,
        λ e. rw (op, oq) (won.1 (empty_oldest (suc (length younger)) room e)),
      )

  -- the same of a turn, whatever it does
  turn_won : (younger : List (Option Slot)) (p : Pipe) (o : Outcome) (q : Pipe) → suc (length p.slots) ≡ d.stages → Turn d younger p o q
      → (length q.slots ≡ length p.slots) × (progress d p ≤ progress d q)
  turn_won younger p o q shape (Empty room es ea er e) = (ap (λ z. length z.slots) e, let same : progress d q ≡ progress d p = ap (progress d) e in omega arith)
  turn_won younger p o q shape (Goes x room y m ea er) = let w : (length q.slots ≡ length p.slots) × (progress d p ≤ progress d q) × (cleared room ≡ room → progress d p + 1 ≤ progress d q) = move_won p younger x room y q shape m in (w.0, w.1)
  turn_won younger p o q shape (Remains x room es why er e) = (ap (λ z. length z.slots) e, let same : progress d q ≡ progress d p = ap (progress d) e in omega arith)

  turns_won : (n : ℕ) (p : Pipe) (o : Outcome) (q : Pipe) → suc (length p.slots) ≡ d.stages → Turns d n p o q → (length q.slots ≡ length p.slots) × (progress d p ≤ progress d q)
  turns_won zero p o q shape t = (ap (λ z. length z.slots) t.2, let same : progress d q ≡ progress d p = ap (progress d) t.2 in omega arith)
  turns_won (suc n) p o q shape t =
      let first : (length t.3.slots ≡ length p.slots) × (progress d p ≤ progress d t.3) = turn_won t.0 p t.2 t.3 shape t.4 in
      let rest : (length q.slots ≡ length t.3.slots) × (progress d t.3 ≤ progress d q) = turns_won n t.3 t.5 q (ap suc first.0 ∙ shape) t.6 in
      (rest.0 ∙ first.0, omega arith)

  -- an instruction with no older one in a slot stays only for a no
  alone_stays : (u : ℕ) (has : ℕ → ℕ → BitValue) (room : List (Option Slot)) (x : Slot) (asked : List Asked) → cleared room ≡ room → Stays d u has room x asked → 1 ≤ noes asked
  alone_stays u has room x asked e (Blocked h ea) = absurd (h (empty_open room e))
  alone_stays u has room x asked e (Waiting h w ea) = absurd (let r : choice_in d w.resource w.index u room ≡ Register = empty_choice d w.resource w.index u room e in let w2 : choice_in d w.resource w.index u room ≡ Wait = w.waits in cc)
  alone_stays u has room x asked e (Refused h y does r) = refused_counts (d.asks y.fetched y.view u) asked r

  -- Where the slots from the n-th on are empty, the turns of the others win a stage or get a no; or all are empty.
  turns_win : (n : ℕ) (p : Pipe) (o : Outcome) (q : Pipe) → suc (length p.slots) ≡ d.stages → cleared (drop n p.slots) ≡ drop n p.slots → Turns d n p o q
      → (progress d p + 1 ≤ progress d q + noes o.asked) ⊎ ((cleared p.slots ≡ p.slots) × (q ≡ p) × (o.redirected ≡ false) × (o.asked ≡ []))
  turns_win zero p o q shape e t = inr (e, t.2, t.1, t.0)
  turns_win (suc n) p o q shape e t = go (λ empty rest. turns_win n p t.5 q shape empty rest) t.4
    where
      asked : noes o.asked ≡ noes t.2.asked + noes t.5.asked
      asked = ap noes t.7 ∙ noes-append t.2.asked t.5.asked

      -- the slots behind the one whose turn it is
      room_empty : (z : Option Slot) (room : List (Option Slot)) → p.slots ≡ t.0 ++ (z ∷ room) → cleared room ≡ room
      room_empty z room es =
          let l : length t.0 ≡ n = t.1 in
          let b : drop (suc n) p.slots ≡ room = ap (drop (suc n)) es ∙ drop_past t.0 (z ∷ room) (suc n) 1 (omega arith) in
          sym (ap cleared b) ∙ e ∙ b

      go : (cleared (drop n p.slots) ≡ drop n p.slots → Turns d n p t.5 q
          → (progress d p + 1 ≤ progress d q + noes t.5.asked) ⊎ ((cleared p.slots ≡ p.slots) × (q ≡ p) × (t.5.redirected ≡ false) × (t.5.asked ≡ [])))
          → Turn d t.0 p t.2 t.3 → (progress d p + 1 ≤ progress d q + noes o.asked) ⊎ ((cleared p.slots ≡ p.slots) × (q ≡ p) × (o.redirected ≡ false) × (o.asked ≡ []))
      go younger (Empty room es ea er same) =
          let b : drop n p.slots ≡ None ∷ room = ap (drop n) es ∙ behind t.0 (None ∷ room) n t.1 in
          let empty : cleared (drop n p.slots) ≡ drop n p.slots = ap cleared b ∙ ap (λ z. None ∷ z) (room_empty None room es) ∙ sym b in
          let P : Pipe → Type 0 = λ z. Turns d n z t.5 q in
          let none : noes t.2.asked ≡ 0 = ap noes ea in
          let all : noes o.asked ≡ noes t.2.asked + noes t.5.asked = asked in
          elim (younger empty (subst P same t.6)) [
            | inl w ↦ inl (omega arith)
            | inr h ↦ inr (h.0, h.1, t.8 ∙ ap (λ b. b || t.5.redirected) er ∙ h.2, t.7 ∙ ap (λ a. a ++ t.5.asked) ea ∙ h.3)
          ]
      go younger (Goes x room y m ea er) =
          let w : (length t.3.slots ≡ length p.slots) × (progress d p ≤ progress d t.3) × (cleared room ≡ room → progress d p + 1 ≤ progress d t.3) = move_won p t.0 x room y t.3 shape m in
          let won : progress d p + 1 ≤ progress d t.3 = w.2 (room_empty (Some x) room m.slots) in
          let rest : (length q.slots ≡ length t.3.slots) × (progress d t.3 ≤ progress d q) = turns_won n t.3 t.5 q (ap suc w.0 ∙ shape) t.6 in
          inl (omega arith)
      go younger (Remains x room es why er same) =
          let denied : 1 ≤ noes t.2.asked = alone_stays (suc (length t.0)) p.has room x t.2.asked (room_empty (Some x) room es) why in
          let rest : (length q.slots ≡ length t.3.slots) × (progress d t.3 ≤ progress d q) = turns_won n t.3 t.5 q (ap (λ z. suc (length z.slots)) same ∙ shape) t.6 in
          let kept : progress d t.3 ≡ progress d p = ap (progress d) same in
          let all : noes o.asked ≡ noes t.2.asked + noes t.5.asked = asked in
          inl (omega arith)

  -- a fetch loses nothing, and into a pipeline whose slots are empty it wins a stage
  fetch_won : (p : Pipe) (x y : Slot) (q : Pipe) → suc (length p.slots) ≡ d.stages → Fetches d p x y q
      → (progress d p ≤ progress d q) × (cleared p.slots ≡ p.slots → progress d p + 1 ≤ progress d q)
  fetch_won p x y q shape f = all p.slots refl f.is_open
    where
      now : (slots : List (Option Slot)) → p.slots ≡ slots → progress d q ≡ d.stages * retired_by slots p.retired + oldest 0 (entered y slots)
      now slots e =
          ap (λ n. d.stages * n + oldest 0 q.slots) f.retired_after
          ∙ ap (λ z. d.stages * retired_by p.slots p.retired + oldest 0 z) f.slots_after
          ∙ ap (λ z. d.stages * retired_by z p.retired + oldest 0 (entered y z)) e

      all : (slots : List (Option Slot)) → p.slots ≡ slots → IsOpen slots → (progress d p ≤ progress d q) × (cleared p.slots ≡ p.slots → progress d p + 1 ≤ progress d q)
      all [] e o =
          let n : progress d q ≡ d.stages * suc p.retired + 0 = now [] e in
          let b : progress d p ≡ d.stages * p.retired + 0 = ap (λ z. d.stages * p.retired + oldest 0 z) e in
          let more : d.stages * suc p.retired ≡ d.stages * p.retired + d.stages = omega arith in
          (omega arith, λ h. omega arith)
      all (Some z ∷ older) e o = absurd o
      all (None ∷ older) e o = go (oldest 1 older) refl
        where
          n : progress d q ≡ d.stages * p.retired + older_first 1 (oldest 1 older)
          n = now (None ∷ older) e

          b : progress d p ≡ d.stages * p.retired + oldest 1 older
          b = ap (λ z. d.stages * p.retired + oldest 0 z) e

          go : (k : ℕ) → oldest 1 older ≡ k → (progress d p ≤ progress d q) × (cleared p.slots ≡ p.slots → progress d p + 1 ≤ progress d q)
          go zero h =
              let n2 : progress d q ≡ d.stages * p.retired + 1 = n ∙ ap (λ k. d.stages * p.retired + older_first 1 k) h in
              let b2 : progress d p ≡ d.stages * p.retired + 0 = b ∙ ap (λ k. d.stages * p.retired + k) h in
              (omega arith, λ c. omega arith)
          go (suc k) h =
              let n2 : progress d q ≡ d.stages * p.retired + suc k = n ∙ ap (λ j. d.stages * p.retired + older_first 1 j) h in
              let b2 : progress d p ≡ d.stages * p.retired + suc k = b ∙ ap (λ j. d.stages * p.retired + j) h in (
                omega arith,
                λ c. absurd
                    (let s : p.slots ≡ None ∷ older = e in
                    let c2 : cleared (None ∷ older) ≡ None ∷ older = sym (ap cleared s) ∙ c ∙ s in
                    let z : oldest 0 (None ∷ older) ≡ 0 = empty_oldest 0 (None ∷ older) c2 in omega arith),
              )

  fetching_grows : (redirected : Bool) (p : Pipe) (asked : List Asked) (q : Pipe) → suc (length p.slots) ≡ d.stages → Fetching d redirected p asked q → progress d p ≤ progress d q
  fetching_grows redirected p asked q shape (Fetch er x y f ea) = let w : (progress d p ≤ progress d q) × (cleared p.slots ≡ p.slots → progress d p + 1 ≤ progress d q) = fetch_won p x y q shape f in w.0
  fetching_grows redirected p asked q shape (NoFetch_ why e) = let same : progress d q ≡ progress d p = ap (progress d) e in omega arith

  -- nothing but a no keeps a pipeline whose slots are empty from a fetch
  fetching_wins : (p : Pipe) (asked : List Asked) (q : Pipe) → suc (length p.slots) ≡ d.stages → cleared p.slots ≡ p.slots → (IsOver d p → ⊥) → Fetching d false p asked q
      → progress d p + 1 ≤ progress d q + noes asked
  fetching_wins p asked q shape empty running (Fetch er x y f ea) =
      let w : (progress d p ≤ progress d q) × (cleared p.slots ≡ p.slots → progress d p + 1 ≤ progress d q) = fetch_won p x y q shape f in
      let won : progress d p + 1 ≤ progress d q = w.1 empty in
      omega arith
  fetching_wins p asked q shape empty running (NoFetch_ (Full h ea) e) = absurd (h (empty_open p.slots empty))
  fetching_wins p asked q shape empty running (NoFetch_ (Redirected h ea) e) = absurd (grind arith)
  fetching_wins p asked q shape empty running (NoFetch_ (NoCode h ea) e) = absurd (running (record { empty = empty; stop = h }))
  fetching_wins p asked q shape empty running (NoFetch_ (Late o er x code address why) e) =
      let denied : 1 ≤ noes asked = alone_stays 0 p.has p.slots x asked empty why in
      let same : progress d q ≡ progress d p = ap (progress d) e in
      omega arith

  -- **Each cycle wins a stage of the oldest instruction, or gets a no.**
  pub tick_wins : (p : Pipe) (asked : List Asked) (q : Pipe) → suc (length p.slots) ≡ d.stages → Tick d p asked q → progress d p + 1 ≤ progress d q + noes asked
  tick_wins p asked q shape t = go (turns_win (length p.slots) p t.outcome t.turned shape (all_behind p.slots) t.turns)
    where
      all_behind : (slots : List (Option Slot)) → cleared (drop (length slots) slots) ≡ drop (length slots) slots
      all_behind [] = refl
      all_behind (z ∷ slots) = all_behind slots

      sum : noes asked ≡ noes t.outcome.asked + noes t.fetch_asked
      sum = ap noes t.asked_are ∙ noes-append t.outcome.asked t.fetch_asked

      go : (progress d p + 1 ≤ progress d t.turned + noes t.outcome.asked) ⊎ ((cleared p.slots ≡ p.slots) × (t.turned ≡ p) × (t.outcome.redirected ≡ false) × (t.outcome.asked ≡ []))
          → progress d p + 1 ≤ progress d q + noes asked
      go (inl w) =
          let s : noes asked ≡ noes t.outcome.asked + noes t.fetch_asked = sum in
          let same : (length t.turned.slots ≡ length p.slots) × (progress d p ≤ progress d t.turned) = turns_won (length p.slots) p t.outcome t.turned shape t.turns in
          let more : progress d t.turned ≤ progress d q = fetching_grows t.outcome.redirected t.turned t.fetch_asked q (ap suc same.0 ∙ shape) t.fetch in
          omega arith
      go (inr h) =
          let s : noes asked ≡ noes t.outcome.asked + noes t.fetch_asked = sum in
          let P : Bool × Pipe → Type 0 = λ z. Fetching d z.0 z.1 t.fetch_asked q in
          let e : ◌≡◌ {A = Bool × Pipe} (t.outcome.redirected, t.turned) (false, p) = cc in
          let w : progress d p + 1 ≤ progress d q + noes t.fetch_asked = fetching_wins p t.fetch_asked q shape h.0 t.running (subst P e t.fetch) in
          omega arith

module _ (d : Description) (placed : IsPlaced d) (run : ℕ → View) (runs : IsRun d run) where
  -- **After so many cycles the pipeline stands for the run, and each cycle but the noes has won a stage.**
  pub ticks_stand : (c : ℕ) (p : Pipe) (denied : ℕ) (q : Pipe) → IsNew d (run 0) p → Ticks d c p denied q → StandsFor d run q × (c ≤ progress d q + denied)
  ticks_stand zero p denied q new t = (same_stands d placed run runs p q t.1 (new_stands d placed run runs p new), omega arith)
  ticks_stand (suc c) p denied q new t =
      let before : StandsFor d run t.1 × (c ≤ progress d t.1 + t.0) = ticks_stand c p t.0 t.1 new t.2 in
      let now : progress d t.1 + 1 ≤ progress d q + noes t.3 = tick_wins d placed t.1 t.3 q before.0.shape t.4 in
      let c2 : c ≤ progress d t.1 + t.0 = before.1 in
      let e : denied ≡ t.0 + noes t.3 = t.5 in
      (tick_stands d placed run runs t.1 t.3 q before.0 t.4, omega arith)

  -- the oldest instruction in a slot hasn't done the last stage
  oldest_bound : (t : ℕ) (slots : List (Option Slot)) → oldest t slots ≤ t + length slots
  oldest_bound t [] = omega arith
  oldest_bound t (None ∷ slots) = let h : oldest (suc t) slots ≤ suc t + length slots = oldest_bound (suc t) slots in omega arith
  oldest_bound t (Some y ∷ slots) = go (oldest (suc t) slots) (oldest_bound (suc t) slots)
    where
      go : (n : ℕ) → n ≤ suc t + length slots → older_first (suc t) n ≤ t + suc (length slots)
      go zero h = omega arith
      go (suc n) h = omega arith

  -- **n instructions have retired after n times the number of stages cycles, and one more for each no.**
  pub enough_retire : (c n : ℕ) (p : Pipe) (denied : ℕ) (q : Pipe) → IsNew d (run 0) p → Ticks d c p denied q → n * d.stages + denied ≤ c → n ≤ q.retired
  enough_retire c n p denied q new t enough =
      let s : StandsFor d run q × (c ≤ progress d q + denied) = ticks_stand c p denied q new t in
      let shape : suc (length q.slots) ≡ d.stages = s.0.shape in
      let far : c ≤ (d.stages * q.retired + oldest 0 q.slots) + denied = s.1 in
      let bound : oldest 0 q.slots ≤ 0 + length q.slots = oldest_bound 0 q.slots in
      let less : n * d.stages < suc q.retired * d.stages = (let e : suc q.retired * d.stages ≡ d.stages * q.retired + d.stages = omega arith in omega arith) in
      grind (arith, less)
