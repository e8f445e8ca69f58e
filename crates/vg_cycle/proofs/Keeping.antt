-- A pipeline that stands for a run still does after one instruction did a stage, and after a fetch.
use Rattle.std.proofs.Common.{◌≡◌, ℕ, suc, ◌+◌, ◌<◌, ◌≤◌, Bool, true, false, refl, ap, sym, subst, ◌∙◌, List, [], ◌∷◌, ◌++◌, length, drop, Option, Some, None, ◌⊎◌, inl, inr, nat_lt, nat_eq, if◌then◌else◌, arith}
use Rattle.std.proofs.lemmas.Bool.Decides.{nat_tests}
use Rattle.vg_bits.specs.BitValue.{BitValue}
use Rattle.vg_cycle.specs.Description.{Fetched, View, Description, IsPlaced, IsRun}
use Rattle.vg_cycle.specs.Pipe.{Slot, Pipe, count, HoldsAt, OnPath, Astray, StandsFor}
use Rattle.vg_cycle.specs.Cycle.{contents_after, finds_wrong, cleared, entered, IsOpen, retired_by, Moves, Fetches}
use Rattle.vg_cycle.proofs.Stages.{count-append, count-cleared, count-entered, drop_past, drop_within, count_same, astray_older, on_cleared, astray_before}
use Rattle.vg_cycle.proofs.Values.{does_hold}
use Rattle.vg_cycle.proofs.Moving.{not_written, written_now, written_later, entered_path, entered_astray, entered_behind, decided, length-entered, length-tail, length-front, length-back, front_of, length-front_of, front_is, compared, right_guess, wrong_decided, PathOf, At, at_slot}

module _ (d : Description) (placed : IsPlaced d) (run : ℕ → View) (runs : IsRun d run) where
  resolved_first : d.resolve < d.stages
  resolved_first = let a : d.resolve ≤ d.write_stage 0 = placed.resolve_first 0 in let b : d.write_stage 0 < d.stages = placed.within 0 in omega arith

  -- where there is a stage after the one done, there is a slot for it
  more_room : (younger : List (Option Slot)) (x : Slot) (room : List (Option Slot)) → suc (length (younger ++ (Some x ∷ room))) ≡ d.stages
      → (w : ℕ) → suc (length younger) < w → w < d.stages → room ≡ [] → ⊥
  more_room younger x room shape w lt within e =
      let l : length (younger ++ (Some x ∷ room)) ≡ length (younger ++ (Some x ∷ [])) = ap (λ z. length (younger ++ (Some x ∷ z))) e in
      let b : length (younger ++ (Some x ∷ [])) ≡ suc (length younger) = length-back younger (Some x) in
      omega arith

  -- the path after a stage that found no wrong guess
  path_kept : (retired : ℕ) (younger : List (Option Slot)) (x : Slot) (room : List (Option Slot)) (y : Slot) (fetch : ℕ) → suc (length (younger ++ (Some x ∷ room))) ≡ d.stages
      → IsOpen room → y.guess ≡ x.guess → finds_wrong d (suc (length younger)) y ≡ false
      → (OnPath d run retired (suc (length younger)) room → HoldsAt d (suc (length younger)) x (run (count retired room)) → HoldsAt d (suc (suc (length younger))) y (run (count retired room)))
      → At d placed run runs retired younger x room fetch
      → PathOf d placed run runs (retired_by room retired) (younger ++ (None ∷ entered y room)) fetch
  path_kept retired younger x room y fetch shape o guess found held (inl a) =
      inr (astray_older d run (retired_by room retired) 0 (length younger) younger (None ∷ entered y room) (omega arith) (entered_behind d placed run runs retired (suc (length younger)) room y o a))
  path_kept retired younger x room y fetch shape o guess found held (inr (path, own, inl right)) =
      right.1 (retired_by room retired) (None ∷ entered y room) (sym (count-entered retired y room o))
      (entered_path d placed run runs retired (suc (length younger)) room y o path (held path own) (λ lt. guess ∙ right.0 (omega arith)))
  path_kept retired younger x room y fetch shape o guess found held (inr (path, own, inr wrong)) =
      let holds : HoldsAt d (suc (suc (length younger))) y (run (count retired room)) = held path own in
      let lt : suc (length younger) < d.resolve = before holds (nat_lt (suc (length younger)) d.resolve) refl in
      let rest : d.resolve < d.stages = resolved_first in
      let some : room ≡ [] → ⊥ = more_room younger x room shape d.resolve lt rest in
      inr (astray_older d run (retired_by room retired) 0 (length younger) younger (None ∷ entered y room) (omega arith)
      (entered_astray d placed run runs retired (suc (length younger)) room y o some path holds lt (λ g. wrong.1 (sym guess ∙ g))))
    where
      before : HoldsAt d (suc (suc (length younger))) y (run (count retired room)) → (b : Bool) → nat_lt (suc (length younger)) d.resolve ≡ b → suc (length younger) < d.resolve
      before holds true e = grind (arith, nat_tests)
      before holds false e =
          let first : length younger < d.resolve = wrong.0 in
          let not_less : d.resolve ≤ suc (length younger) = grind (arith, nat_tests) in
          let now : suc (length younger) ≡ d.resolve = omega arith in
          absurd (wrong.1 (sym guess ∙ sym (right_guess d (suc (length younger)) y found now) ∙ decided d placed run runs (suc (length younger)) (count retired room) y holds now))

  -- the path after a stage that found a wrong guess
  path_redirected : (retired : ℕ) (younger : List (Option Slot)) (x : Slot) (room : List (Option Slot)) (y : Slot) (fetch : ℕ)
      → IsOpen room → finds_wrong d (suc (length younger)) y ≡ true
      → (OnPath d run retired (suc (length younger)) room → HoldsAt d (suc (length younger)) x (run (count retired room)) → HoldsAt d (suc (suc (length younger))) y (run (count retired room)))
      → At d placed run runs retired younger x room fetch
      → PathOf d placed run runs (retired_by room retired) (cleared younger ++ (None ∷ entered y room)) (d.next y.fetched y.view)
  path_redirected retired younger x room y fetch o found held (inl a) =
      let now : suc (length younger) ≡ d.resolve = wrong_decided d (suc (length younger)) y found in
      let lt : suc (length younger) < d.resolve = astray_before d run retired (suc (length younger)) room a in
      absurd (omega arith)
  path_redirected retired younger x room y fetch o found held (inr (path, own, _)) =
      let now : suc (length younger) ≡ d.resolve = wrong_decided d (suc (length younger)) y found in
      let holds : HoldsAt d (suc (suc (length younger))) y (run (count retired room)) = held path own in
      let tail : OnPath d run (retired_by room retired) (suc (length younger)) (entered y room)
      = entered_path d placed run runs retired (suc (length younger)) room y o path holds (λ lt. absurd (omega arith)) in
      let n : count (retired_by room retired) (cleared younger ++ (None ∷ entered y room)) ≡ suc (count retired room)
      = count-append (retired_by room retired) (cleared younger) (None ∷ entered y room) ∙ count-cleared _ younger ∙ count-entered retired y room o in
      inl (
        on_cleared d run (retired_by room retired) 0 (length younger) younger (None ∷ entered y room) (omega arith) tail,
        decided d placed run runs (suc (length younger)) (count retired room) y holds now ∙ ap (λ k. (run k).pc) (sym n),
      )

  -- what each resource has after a stage
  contents_kept : (retired : ℕ) (younger : List (Option Slot)) (x : Slot) (room : List (Option Slot)) (y : Slot) (has : ℕ → ℕ → BitValue) → suc (length (younger ++ (Some x ∷ room))) ≡ d.stages
      → IsOpen room → (found : Bool) → finds_wrong d (suc (length younger)) y ≡ found
      → ((r i : ℕ) → has r i ≡ (run (count retired (drop (d.write_stage r) (younger ++ (Some x ∷ room))))).has r i)
      → Astray d run retired (suc (length younger)) room ⊎ HoldsAt d (suc (suc (length younger))) y (run (count retired room))
      → (r i : ℕ) → contents_after d (suc (length younger)) y has r i
      ≡ (run (count (retired_by room retired) (drop (d.write_stage r) (front_of found younger ++ (None ∷ entered y room))))).has r i
  contents_kept retired younger x room y has shape o found f old status r i =
      go (compared (d.write_stage r) (suc (length younger)))
    where
      u : ℕ
      u = suc (length younger)

      -- what the run has behind the first slots, by the slots there
      at_tail : (k : ℕ) → suc (length younger) + k ≡ d.write_stage r
          → (run (count (retired_by room retired) (drop k (entered y room)))).has r i ≡ (run (count (retired_by room retired) (drop (d.write_stage r) (front_of found younger ++ (None ∷ entered y room))))).has r i
      at_tail k e =
          let l : length younger ≡ length (front_of found younger) = length-front_of found younger in
          ap (λ z. (run (count (retired_by room retired) z)).has r i) (sym (drop_past (front_of found younger) (None ∷ entered y room) (d.write_stage r) (suc k) (omega arith)))

      was_tail : (k : ℕ) → suc (length younger) + k ≡ d.write_stage r → has r i ≡ (run (count retired (drop k room))).has r i
      was_tail k e = old r i ∙ ap (λ z. (run (count retired z)).has r i) (drop_past younger (Some x ∷ room) (d.write_stage r) (suc k) (omega arith))

      before : (b : Bool) → b ≡ found → finds_wrong d (suc (length younger)) y ≡ b → d.write_stage r < suc (length younger)
          → (run (count retired (drop (d.write_stage r) (younger ++ (Some x ∷ room))))).has r i
          ≡ (run (count (retired_by room retired) (drop (d.write_stage r) (front_of b younger ++ (None ∷ entered y room))))).has r i
      before true e f lt =
          let now : suc (length younger) ≡ d.resolve = wrong_decided d (suc (length younger)) y f in
          let first : d.resolve ≤ d.write_stage r = placed.resolve_first r in
          absurd (omega arith)
      before false e f lt =
          let c : count retired (Some x ∷ room) ≡ count (retired_by room retired) (None ∷ entered y room) = sym (count-entered retired y room o) in
          ap (λ z. (run (count retired z)).has r i) (drop_within younger (Some x ∷ room) (d.write_stage r) (omega arith))
          ∙ ap (λ n. (run n).has r i) (count_same retired (retired_by room retired) (drop (d.write_stage r) younger) (Some x ∷ room) (None ∷ entered y room) c)
          ∙ ap (λ z. (run (count (retired_by room retired) z)).has r i) (sym (drop_within younger (None ∷ entered y room) (d.write_stage r) (omega arith)))

      now : Astray d run retired (suc (length younger)) room ⊎ HoldsAt d (suc (suc (length younger))) y (run (count retired room)) → d.write_stage r ≡ suc (length younger)
          → contents_after d (suc (length younger)) y has r i ≡ (run (count (retired_by room retired) (entered y room))).has r i
      now (inl a) e =
          let lt : suc (length younger) < d.resolve = astray_before d run retired (suc (length younger)) room a in
          let first : d.resolve ≤ d.write_stage r = placed.resolve_first r in
          absurd (omega arith)
      now (inr h) e = written_now d placed run runs retired (suc (length younger)) has room y o h r i e (was_tail 0 (omega arith))

      go : (d.write_stage r < suc (length younger)) ⊎ ((d.write_stage r ≡ suc (length younger)) ⊎ ((k : ℕ) × (suc (length younger) + suc k ≡ d.write_stage r)))
          → contents_after d (suc (length younger)) y has r i ≡ (run (count (retired_by room retired) (drop (d.write_stage r) (front_of found younger ++ (None ∷ entered y room))))).has r i
      go (inl lt) = not_written d (suc (length younger)) y has r i (λ e. omega arith) ∙ old r i ∙ before found refl f lt
      go (inr (inl e)) = now status e ∙ at_tail 0 (omega arith)
      go (inr (inr later)) =
          let within : d.write_stage r < d.stages = placed.within r in
          let some : room ≡ [] → ⊥ = more_room younger x room shape (d.write_stage r) (let e : suc (length younger) + suc later.0 ≡ d.write_stage r = later.1 in omega arith) within in
          written_later d placed run runs retired (suc (length younger)) later.0 has room y o some r i later.1 (was_tail (suc later.0) later.1) ∙ at_tail (suc later.0) later.1

  -- what has retired after a stage
  retired_kept : (retired : ℕ) (room : List (Option Slot)) (y : Slot) (u : ℕ) → ((k : ℕ) → k < retired → (x : Fetched) × (d.code (run k).pc ≡ Some x))
      → Astray d run retired u room ⊎ HoldsAt d (suc u) y (run (count retired room))
      → (k : ℕ) → k < retired_by room retired → (x : Fetched) × (d.code (run k).pc ≡ Some x)
  retired_kept retired (slot ∷ older) y u old status k lt = old k lt
  retired_kept retired [] y u old (inl a) k lt = absurd a
  retired_kept retired [] y u old (inr h) k lt = go (nat_lt k retired) refl
    where
      go : (b : Bool) → nat_lt k retired ≡ b → (x : Fetched) × (d.code (run k).pc ≡ Some x)
      go true e = old k (grind (arith, nat_tests))
      go false e = let ge : retired ≤ k = grind (arith, nat_tests) in let same : k ≡ retired = omega arith in (y.fetched, ap (λ n. d.code (run n).pc) same ∙ h.code)

  -- the path after a stage
  path_moved : (retired : ℕ) (younger : List (Option Slot)) (x : Slot) (room : List (Option Slot)) (y : Slot) (fetch : ℕ) → suc (length (younger ++ (Some x ∷ room))) ≡ d.stages
      → IsOpen room → y.guess ≡ x.guess
      → (OnPath d run retired (suc (length younger)) room → HoldsAt d (suc (length younger)) x (run (count retired room)) → HoldsAt d (suc (suc (length younger))) y (run (count retired room)))
      → At d placed run runs retired younger x room fetch
      → (found : Bool) → finds_wrong d (suc (length younger)) y ≡ found
      → PathOf d placed run runs (retired_by room retired) (front_of found younger ++ (None ∷ entered y room)) (if found then d.next y.fetched y.view else fetch)
  path_moved retired younger x room y fetch shape o guess held at true f = path_redirected retired younger x room y fetch o f held at
  path_moved retired younger x room y fetch shape o guess held at false f = path_kept retired younger x room y fetch shape o guess f held at

  -- whether the slot is behind a wrong guess, or holds what the run has
  status_of : (retired : ℕ) (younger : List (Option Slot)) (x : Slot) (room : List (Option Slot)) (y : Slot) (fetch : ℕ)
      → (OnPath d run retired (suc (length younger)) room → HoldsAt d (suc (length younger)) x (run (count retired room)) → HoldsAt d (suc (suc (length younger))) y (run (count retired room)))
      → At d placed run runs retired younger x room fetch
      → Astray d run retired (suc (length younger)) room ⊎ HoldsAt d (suc (suc (length younger))) y (run (count retired room))
  status_of retired younger x room y fetch held (inl a) = inl a
  status_of retired younger x room y fetch held (inr (path, own, _)) = inr (held path own)

  -- a pipeline stands as another does that has the same parts
  stands_as : (p q : Pipe) → q.slots ≡ p.slots → ((r i : ℕ) → q.has r i ≡ p.has r i) → q.fetch ≡ p.fetch → q.retired ≡ p.retired → StandsFor d run p → StandsFor d run q
  stands_as p q es eh ef er s = record {
    shape = ap (λ z. suc (length z)) es ∙ s.shape;
    retired = λ k lt. s.retired k (omega arith);
    contents = λ r i. eh r i ∙ s.contents r i ∙ ap (λ z. (run (count p.retired (drop (d.write_stage r) z))).has r i) (sym es) ∙ ap (λ n. (run (count n (drop (d.write_stage r) q.slots))).has r i) (sym er);
    path =
        let P : ℕ × List (Option Slot) × ℕ → Type 0 = λ z. PathOf d placed run runs z.0 z.1 z.2 in
        let e : ◌≡◌ {A = ℕ × List (Option Slot) × ℕ} (p.retired, p.slots, p.fetch) (q.retired, q.slots, q.fetch) = cc in
        subst P e s.path;
  }

  -- **A move keeps what the pipeline stands for.**
  pub move_stands : (p : Pipe) (younger : List (Option Slot)) (x : Slot) (room : List (Option Slot)) (y : Slot) (q : Pipe) → StandsFor d run p → Moves d p younger x room y q → StandsFor d run q
  move_stands p younger x room y q stands m =
      let found : Bool = finds_wrong d (suc (length younger)) y in
      let P : List (Option Slot) → Type 0 = λ z. PathOf d placed run runs p.retired z p.fetch in
      let path : PathOf d placed run runs p.retired (younger ++ (Some x ∷ room)) p.fetch = subst P m.slots stands.path in
      let at : At d placed run runs p.retired younger x room p.fetch = at_slot d placed run runs p.retired younger x room p.fetch path in
      let shape : suc (length (younger ++ (Some x ∷ room))) ≡ d.stages = ap (λ z. suc (length z)) (sym m.slots) ∙ stands.shape in
      let old : (r i : ℕ) → p.has r i ≡ (run (count p.retired (drop (d.write_stage r) (younger ++ (Some x ∷ room))))).has r i
      = λ r i. stands.contents r i ∙ ap (λ z. (run (count p.retired (drop (d.write_stage r) z))).has r i) m.slots in
      let held : OnPath d run p.retired (suc (length younger)) room → HoldsAt d (suc (length younger)) x (run (count p.retired room)) → HoldsAt d (suc (suc (length younger))) y (run (count p.retired room))
      = λ on own. does_hold d placed run runs p.retired (suc (length younger)) room p.has x y on
      (λ r i k e. old r i ∙ ap (λ z. (run (count p.retired z)).has r i) (drop_past younger (Some x ∷ room) (d.write_stage r) (suc k) (omega arith)))
      own.code own.reads m.does in
      let status : Astray d run p.retired (suc (length younger)) room ⊎ HoldsAt d (suc (suc (length younger))) y (run (count p.retired room)) = status_of p.retired younger x room y p.fetch held at in
      let slots : q.slots ≡ front_of found younger ++ (None ∷ entered y room) = m.slots_after ∙ ap (λ z. z ++ (None ∷ entered y room)) (front_is found younger) in
      record {
        shape =
            ap (λ z. suc (length z)) slots
            ∙ ap suc (sym (length-front younger (front_of found younger) (None ∷ entered y room) (length-front_of found younger)))
            ∙ ap suc (length-tail younger (None ∷ entered y room) (Some x ∷ room) (ap suc (length-entered y room)))
            ∙ shape;
        retired = λ k lt. retired_kept p.retired room y (suc (length younger)) stands.retired status k (let e : q.retired ≡ retired_by room p.retired = m.retired_after in omega arith);
        contents = λ r i. m.has_after r i ∙ contents_kept p.retired younger x room y p.has shape m.is_open found refl old status r i
            ∙ ap (λ z. (run (count (retired_by room p.retired) (drop (d.write_stage r) z))).has r i) (sym slots)
            ∙ ap (λ n. (run (count n (drop (d.write_stage r) q.slots))).has r i) (sym m.retired_after);
        path =
            let new : PathOf d placed run runs (retired_by room p.retired) (front_of found younger ++ (None ∷ entered y room)) (if found then d.next y.fetched y.view else p.fetch)
            = path_moved p.retired younger x room y p.fetch shape m.is_open m.does.guess held at found refl in
            let F : ℕ × List (Option Slot) × ℕ → Type 0 = λ z. PathOf d placed run runs z.0 z.1 z.2 in
            let er : q.retired ≡ retired_by room p.retired = m.retired_after in
            let ef : q.fetch ≡ (if found then d.next y.fetched y.view else p.fetch) = m.fetch_after in
            let e : ◌≡◌ {A = ℕ × List (Option Slot) × ℕ} (retired_by room p.retired, front_of found younger ++ (None ∷ entered y room), (if found then d.next y.fetched y.view else p.fetch)) (q.retired, q.slots, q.fetch) = cc in
            subst F e new;
      }

  -- ---- a fetch

  fetched_contents : (p : Pipe) (y : Slot) → StandsFor d run p → IsOpen p.slots → Astray d run p.retired 0 p.slots ⊎ HoldsAt d 1 y (run (count p.retired p.slots)) → (r i : ℕ)
      → contents_after d 0 y p.has r i ≡ (run (count (retired_by p.slots p.retired) (drop (d.write_stage r) (entered y p.slots)))).has r i
  fetched_contents p y stands o status r i = go (compared (d.write_stage r) 0)
    where
      now : Astray d run p.retired 0 p.slots ⊎ HoldsAt d 1 y (run (count p.retired p.slots)) → d.write_stage r ≡ 0
          → contents_after d 0 y p.has r i ≡ (run (count (retired_by p.slots p.retired) (entered y p.slots))).has r i
      now (inl a) e =
          let lt : 0 < d.resolve = astray_before d run p.retired 0 p.slots a in
          let first : d.resolve ≤ d.write_stage r = placed.resolve_first r in
          absurd (omega arith)
      now (inr h) e = written_now d placed run runs p.retired 0 p.has p.slots y o h r i e (stands.contents r i ∙ ap (λ k. (run (count p.retired (drop k p.slots))).has r i) e)

      go : (d.write_stage r < 0) ⊎ ((d.write_stage r ≡ 0) ⊎ ((k : ℕ) × (0 + suc k ≡ d.write_stage r)))
          → contents_after d 0 y p.has r i ≡ (run (count (retired_by p.slots p.retired) (drop (d.write_stage r) (entered y p.slots)))).has r i
      go (inl lt) = absurd (omega arith)
      go (inr (inl e)) = now status e ∙ ap (λ k. (run (count (retired_by p.slots p.retired) (drop k (entered y p.slots)))).has r i) (sym e)
      go (inr (inr later)) =
          let w : suc later.0 ≡ d.write_stage r = (let e : 0 + suc later.0 ≡ d.write_stage r = later.1 in omega arith) in
          let within : d.write_stage r < d.stages = placed.within r in
          let some : p.slots ≡ [] → ⊥ = λ e. (let l : length p.slots ≡ 0 = ap length e in let s : suc (length p.slots) ≡ d.stages = stands.shape in omega arith) in
          written_later d placed run runs p.retired 0 later.0 p.has p.slots y o some r i later.1
          (stands.contents r i ∙ ap (λ k. (run (count p.retired (drop k p.slots))).has r i) (sym w))
          ∙ ap (λ k. (run (count (retired_by p.slots p.retired) (drop k (entered y p.slots)))).has r i) w

  -- the path behind a fetch of the run's next instruction
  fetched_path : (p : Pipe) (y : Slot) → suc (length p.slots) ≡ d.stages → IsOpen p.slots → OnPath d run p.retired 0 p.slots → HoldsAt d 1 y (run (count p.retired p.slots))
      → (found : Bool) → finds_wrong d 0 y ≡ found
      → PathOf d placed run runs (retired_by p.slots p.retired) (entered y p.slots) (if found then d.next y.fetched y.view else y.guess)
  fetched_path p y shape o path holds true f =
      let now : 0 ≡ d.resolve = wrong_decided d 0 y f in
      inl (
        entered_path d placed run runs p.retired 0 p.slots y o path holds (λ lt. absurd (omega arith)),
        decided d placed run runs 0 (count p.retired p.slots) y holds now ∙ ap (λ k. (run k).pc) (sym (count-entered p.retired y p.slots o)),
      )
  fetched_path p y shape o path holds false f = go (nat_lt 0 d.resolve) refl (nat_eq y.guess (run (suc (count p.retired p.slots))).pc) refl
    where
      right : y.guess ≡ (run (suc (count p.retired p.slots))).pc → PathOf d placed run runs (retired_by p.slots p.retired) (entered y p.slots) y.guess
      right g = inl (
        entered_path d placed run runs p.retired 0 p.slots y o path holds (λ lt. g),
        g ∙ ap (λ k. (run k).pc) (sym (count-entered p.retired y p.slots o)),
      )

      go : (b : Bool) → nat_lt 0 d.resolve ≡ b → (c : Bool) → nat_eq y.guess (run (suc (count p.retired p.slots))).pc ≡ c
          → PathOf d placed run runs (retired_by p.slots p.retired) (entered y p.slots) y.guess
      go b e true g = right (grind (arith, nat_tests))
      go true e false g =
          let lt : 0 < d.resolve = grind (arith, nat_tests) in
          let rest : d.resolve < d.stages = resolved_first in
          let some : p.slots ≡ [] → ⊥ = λ s. (let l : length p.slots ≡ 0 = ap length s in omega arith) in
          inr (entered_astray d placed run runs p.retired 0 p.slots y o some path holds lt (grind (arith, nat_tests)))
      go false e false g =
          let none : d.resolve ≤ 0 = grind (arith, nat_tests) in
          let now : 0 ≡ d.resolve = omega arith in
          right (sym (right_guess d 0 y f now) ∙ decided d placed run runs 0 (count p.retired p.slots) y holds now)

  -- **A fetch keeps what the pipeline stands for**, with a single stage too.
  pub fetch_stands : (p : Pipe) (x y : Slot) (q : Pipe) → StandsFor d run p → Fetches d p x y q → StandsFor d run q
  fetch_stands p x y q stands f = go stands.path
    where
      found : Bool
      found = finds_wrong d 0 y

      done : Astray d run p.retired 0 p.slots ⊎ HoldsAt d 1 y (run (count p.retired p.slots))
          → PathOf d placed run runs (retired_by p.slots p.retired) (entered y p.slots) (if finds_wrong d 0 y then d.next y.fetched y.view else y.guess) → StandsFor d run q
      done status new = record {
        shape = ap (λ z. suc (length z)) f.slots_after ∙ ap suc (length-entered y p.slots) ∙ stands.shape;
        retired = λ k lt. retired_kept p.retired p.slots y 0 stands.retired status k (let e : q.retired ≡ retired_by p.slots p.retired = f.retired_after in omega arith);
        contents = λ r i. f.has_after r i ∙ fetched_contents p y stands f.is_open status r i
            ∙ ap (λ z. (run (count (retired_by p.slots p.retired) (drop (d.write_stage r) z))).has r i) (sym f.slots_after)
            ∙ ap (λ n. (run (count n (drop (d.write_stage r) q.slots))).has r i) (sym f.retired_after);
        path =
            let F : ℕ × List (Option Slot) × ℕ → Type 0 = λ z. PathOf d placed run runs z.0 z.1 z.2 in
            let er : q.retired ≡ retired_by p.slots p.retired = f.retired_after in
            let ef : q.fetch ≡ (if finds_wrong d 0 y then d.next y.fetched y.view else y.guess) = f.fetch_after in
            let es : q.slots ≡ entered y p.slots = f.slots_after in
            let e : ◌≡◌ {A = ℕ × List (Option Slot) × ℕ} (retired_by p.slots p.retired, entered y p.slots, (if finds_wrong d 0 y then d.next y.fetched y.view else y.guess)) (q.retired, q.slots, q.fetch) = cc in
            subst F e new;
      }

      go : PathOf d placed run runs p.retired p.slots p.fetch → StandsFor d run q
      go (inl h) =
          let holds : HoldsAt d 1 y (run (count p.retired p.slots))
          = does_hold d placed run runs p.retired 0 p.slots p.has x y h.0
          (λ r i k e. stands.contents r i ∙ (let w : d.write_stage r ≡ k = omega arith in ap (λ n. (run (count p.retired (drop n p.slots))).has r i) w))
          (ap d.code (sym h.1) ∙ f.code)
          (record { pc = f.address ∙ h.1; has = λ r i lt is. absurd (omega arith) })
          f.does in
          done (inr holds) (fetched_path p y stands.shape f.is_open h.0 holds (finds_wrong d 0 y) refl)
      go (inr a) = done (inl a) (inr (entered_behind d placed run runs p.retired 0 p.slots y f.is_open a))
