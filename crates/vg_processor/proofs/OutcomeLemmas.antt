-- What an instruction does, resource by resource, and by lists of its resources.
use Rattle.std.proofs.Common.{◌≡◌, ℕ, ◌+◌, ◌<◌, ◌≤◌, Bool, true, false, not, List, [], ◌∷◌, ◌++◌, flat_map, length, get_or, drop, slice_get, cond, Option, Some, None, refl, ap, sym, ◌∙◌, if◌then◌else◌}
use Rattle.std.specs.List.{filter, filter_map, cons_option}
use Rattle.std.specs.Option.{option_or, option_to_list}
use Rattle.std.proofs.lemmas.List.{drop_all}
use Rattle.vg_inline.specs.declared.effect.Effect.{Effect}
use Rattle.vg_tree.specs.Resource.{is_counter}
use Rattle.vg_tree.specs.declared.reading.Reading.{Reading}
use Rattle.vg_tree.specs.Made.{Frame}
use Rattle.vg_tree.specs.declared.written.Written.{Written}
use Rattle.vg_tree.specs.Written.{written}
use Rattle.vg_stage.specs.StageOrder.{effect_writes}
use Rattle.vg_stage.proofs.StageLemmas.{drop_here}
use Rattle.vg_processor.specs.IsaOf.{once, first_some, write_to, written_to, next_of, readings_written, resources_written, counters_written}
use Rattle.vg_processor.specs.declared.outcome.Outcome.{Outcome}
use Rattle.vg_processor.specs.declared.read_place.ReadPlace.{ReadPlace}
use Rattle.vg_processor.specs.Outcome.{nearer, first_place, written_place, next_or, nothing_done, with_next, with_write, with_item, with_items}
use Rattle.vg_processor.proofs.LoopLemmas.{right_nil, grouped}
use Rattle.vg_processor.proofs.ReadLemmas.{nearer_none, nearer_grouped, first_of_both}

in_front : {Y : Type 0} (o : Option Y) (ys : List Y) → option_to_list o ++ ys ≡ cons_option o ys
in_front None ys = refl
in_front (Some y) ys = refl

or_none : {Y : Type 0} (o : Option Y) → o ≡ option_or o None
or_none None = refl
or_none (Some y) = refl

kept_first : {Y : Type 0} (o : Option Y) (k : Y) (more : Option Y) → option_or (option_or o (Some k)) more ≡ option_or o (Some k)
kept_first None k more = refl
kept_first (Some y) k more = refl

module _ (frame : Frame) (x : Effect) where
  abbrev counts : ℕ → Bool
  counts k = is_counter (slice_get frame.setting.all k)

  abbrev others : ℕ → Bool
  others k = not (is_counter (slice_get frame.setting.all k))

  abbrev gives : ℕ → Option Written
  gives k = written frame k x

  abbrev readings : List ℕ → List Reading
  readings ks = flat_map (λ (w : Written). w.readings) (filter_map gives ks)

  -- ---- the writes

  one_write : (o : Outcome) (k : ℕ) (more : List ℕ) (b : Bool)
      → (if b then with_next o k (gives k) else with_write frame.setting o k (gives k)).writes ++ filter_map (write_to frame x) (filter others more)
      ≡ o.writes ++ filter_map (write_to frame x) (cond (not b) (k ∷ filter others more) (filter others more))
  one_write o k more true = refl
  one_write o k more false =
      grouped o.writes (option_to_list (write_to frame x k)) (filter_map (write_to frame x) (filter others more))
      ∙ ap (λ ys. o.writes ++ ys) (in_front (write_to frame x k) (filter_map (write_to frame x) (filter others more)))

  all_writes : (o : Outcome) (ks : List ℕ) → (with_items frame x o ks).writes ≡ o.writes ++ filter_map (write_to frame x) (filter others ks)
  all_writes o [] = sym (right_nil o.writes)
  all_writes o (k ∷ more) = all_writes (with_item frame.setting o k (gives k)) more ∙ one_write o k more (counts k)

  -- ---- the program counter

  one_counter : (o : Outcome) (k : ℕ) (more : List ℕ) (b : Bool)
      → option_or (if b then with_next o k (gives k) else with_write frame.setting o k (gives k)).counter (first_some (filter counts more))
      ≡ option_or o.counter (first_some (cond b (k ∷ filter counts more) (filter counts more)))
  one_counter o k more true = kept_first o.counter k (first_some (filter counts more))
  one_counter o k more false = refl

  all_counters : (o : Outcome) (ks : List ℕ) → (with_items frame x o ks).counter ≡ option_or o.counter (first_some (filter counts ks))
  all_counters o [] = or_none o.counter
  all_counters o (k ∷ more) = all_counters (with_item frame.setting o k (gives k)) more ∙ one_counter o k more (counts k)

  -- what is written to the first of these, where none is known
  abbrev next_by : Option ℕ → Option Written → Option ℕ → Option Written
  next_by None next None = next
  next_by None next (Some k) = gives k
  next_by (Some c) next first = next

  next_none : (c : Option ℕ) (next : Option Written) → next ≡ next_by c next None
  next_none None next = refl
  next_none (Some c) next = refl

  next_known : (c : Option ℕ) (next : Option Written) (k : ℕ) (first : Option ℕ) → next_by (option_or c (Some k)) (next_or c next (gives k)) first ≡ next_by c next (Some k)
  next_known None next k first = refl
  next_known (Some c) next k first = refl

  one_next : (o : Outcome) (k : ℕ) (more : List ℕ) (b : Bool)
      → next_by (if b then with_next o k (gives k) else with_write frame.setting o k (gives k)).counter (if b then with_next o k (gives k) else with_write frame.setting o k (gives k)).next (first_some (filter counts more))
      ≡ next_by o.counter o.next (first_some (cond b (k ∷ filter counts more) (filter counts more)))
  one_next o k more true = next_known o.counter o.next k (first_some (filter counts more))
  one_next o k more false = refl

  all_nexts : (o : Outcome) (ks : List ℕ) → (with_items frame x o ks).next ≡ next_by o.counter o.next (first_some (filter counts ks))
  all_nexts o [] = next_none o.counter o.next
  all_nexts o (k ∷ more) = all_nexts (with_item frame.setting o k (gives k)) more ∙ one_next o k more (counts k)

  -- ---- the first memory read

  either_read : (o : Outcome) (k : ℕ) (w : Option Written) (b : Bool) → (if b then with_next o k w else with_write frame.setting o k w).read ≡ nearer o.read (written_place w)
  either_read o k w true = refl
  either_read o k w false = refl

  one_read : (read : Option ReadPlace) (w : Option Written) (more : List Written)
      → nearer (nearer read (written_place w)) (first_place (flat_map (λ (w : Written). w.readings) more)) ≡ nearer read (first_place (flat_map (λ (w : Written). w.readings) (cons_option w more)))
  one_read read None more = ap (λ p. nearer p (first_place (flat_map (λ (w : Written). w.readings) more))) (nearer_none read)
  one_read read (Some w) more =
      nearer_grouped read (first_place w.readings) (first_place (flat_map (λ (w : Written). w.readings) more))
      ∙ ap (nearer read) (sym (first_of_both w.readings (flat_map (λ (w : Written). w.readings) more)))

  all_reads : (o : Outcome) (ks : List ℕ) → (with_items frame x o ks).read ≡ nearer o.read (first_place (readings ks))
  all_reads o [] = sym (nearer_none o.read)
  all_reads o (k ∷ more) =
      all_reads (with_item frame.setting o k (gives k)) more ∙ ap (λ p. nearer p (first_place (readings more))) (either_read o k (gives k) (counts k))
      ∙ one_read o.read (gives k) (filter_map gives more)

  -- ---- all of it

  next_first : (first : Option ℕ) → next_by None None first ≡ written_to frame x first
  next_first None = refl
  next_first (Some k) = refl

  -- ---- one item more, and all

  pub items_more : (ks : List ℕ) (i k : ℕ) (o next whole : Outcome) → with_items frame x o (drop i ks) ≡ whole → i < length ks → k ≡ get_or ks i k → next ≡ with_item frame.setting o k (gives k)
      → with_items frame x next (drop (i + 1) ks) ≡ whole
  items_more ks i k o next whole h within is e =
      ap (λ (y : Outcome). with_items frame x y (drop (i + 1) ks)) e ∙ ap (λ l. with_items frame x o l) (sym (drop_here ks i k within is)) ∙ h

  pub items_all : (ks : List ℕ) (i : ℕ) (o whole : Outcome) → with_items frame x o (drop i ks) ≡ whole → length ks ≤ i → o ≡ whole
  items_all ks i o whole h past = ap (λ l. with_items frame x o l) (sym (drop_all i ks past)) ∙ h

  -- what a behaviour does to all that it writes
  abbrev outcome : Outcome
  outcome = with_items frame x nothing_done (once [] (effect_writes frame.setting x))

  pub writes_are : outcome.writes ≡ filter_map (write_to frame x) (resources_written frame.setting x)
  writes_are = all_writes nothing_done (once [] (effect_writes frame.setting x))

  pub next_is : outcome.next ≡ next_of frame x
  next_is = all_nexts nothing_done (once [] (effect_writes frame.setting x)) ∙ next_first (first_some (counters_written frame.setting x))

  pub read_is : outcome.read ≡ first_place (readings_written frame x)
  read_is = all_reads nothing_done (once [] (effect_writes frame.setting x))
