-- What lacks in the stages, for all instructions.
use Rattle.std.proofs.Common.{◌≡◌, ℕ, ◌+◌, Bool, true, false, ◌&&◌, ◌||◌, not, List, flat_map, [], ◌∷◌, ◌++◌, Option, Some, None, slice_get, zero, suc, drop, add-one, if◌then◌else◌, refl, ap, sym, ◌∙◌}
use Rattle.std.specs.List.{list_any}
use Rattle.std.proofs.lemmas.List.Folds.{list_any-append}
use Rattle.std.specs.Option.{option_map, option_or}
use Rattle.vg_ast.specs.declared.item.Item.{Item}
use Rattle.vg_ast.specs.declared.act.Act.{Act}
use Rattle.vg_ast.specs.declared.act.Act.TheVariants as acts
use Rattle.vg_ast.specs.declared.micro_item.MicroItem.{MicroItem}
use Rattle.vg_ast.specs.declared.micro_item.MicroItem.TheVariants as lines
use Rattle.vg_ast.specs.declared.micro.Micro.{Micro}
use Rattle.vg_inline.specs.declared.context.Context.{Context}
use Rattle.vg_inline.specs.declared.effect.Effect.{Effect}
use Rattle.vg_inline.specs.Context.{items_of}
use Rattle.vg_inline.specs.InPlace.{Known, behaviour_of}
use Rattle.vg_names.specs.First.{first_of}
use Rattle.vg_names.proofs.FirstLemmas.{first_of_append}
use Rattle.vg_type.specs.Item.{Setting}
use Rattle.vg_type.specs.Judged.{told}
use Rattle.vg_stage.specs.declared.act_kind.ActKind.{ActKind}
use Rattle.vg_stage.specs.declared.act_kind.ActKind.TheVariants as kinds
use Rattle.vg_type.specs.Setting.{setting_in}
use Rattle.vg_stage.specs.StageLack.{behaviour_lacks, flag_at, is_done_on, lacks_act, some_lack}
use Rattle.vg_stage.specs.StageMet.{does, first_wrong_line, lines_have, placed_at}
use Rattle.vg_stage.specs.StageOrder.{Placed, acts_from, all_reads, all_writes, effect_reads, effect_writes, has_act, in_effect, is_compute, is_read_of, is_resolve, is_resource, is_write_of, is_wrong_count, is_lacking, lacks, stage_breaks, stage_count, wrong_lines}
use Rattle.vg_stage.proofs.StageLemmas.{first_of_wrong_lines}

or_assoc : (a b c : Bool) → ((a || b) || c) ≡ (a || (b || c))
or_assoc true b c = refl
or_assoc false b c = refl

have_in_row : (k : ℕ) (rest : List Placed) (others : Bool) (test other : Act → Bool) → ((act : Act) → test act ≡ other act) → has_act rest test ≡ others → (row : List Act) → has_act (placed_at k row ++ rest) test ≡ (list_any other row || others)
have_in_row k rest others test other same known [] = known
have_in_row k rest others test other same known (act ∷ row) =
    ap (λ b. b || has_act (placed_at k row ++ rest) test) (same act) ∙ ap (λ b. other act || b) (have_in_row k rest others test other same known row) ∙ sym (or_assoc (other act) (list_any other row) others)

-- a test of the acts of stages passes alike where it is told otherwise
pub acts_have : (k : ℕ) (all : List MicroItem) (test other : Act → Bool) → ((act : Act) → test act ≡ other act) → has_act (acts_from k all) test ≡ lines_have other all
acts_have k [] test other same = refl
acts_have k (lines.Forward at resource ∷ more) test other same = acts_have k more test other same
acts_have k (lines.Stage at name given ∷ more) test other same = have_in_row k (acts_from (k + 1) more) (lines_have other more) test other same (acts_have (k + 1) more test other same) given

does_compute : (act : Act) → is_compute act ≡ does kinds.Compute act
does_compute (acts.Read at resource) = refl
does_compute (acts.Write at resource) = refl
does_compute (acts.Compute at) = refl
does_compute (acts.Resolve at) = refl

does_resolve : (act : Act) → is_resolve act ≡ does kinds.Resolve act
does_resolve (acts.Read at resource) = refl
does_resolve (acts.Write at resource) = refl
does_resolve (acts.Compute at) = refl
does_resolve (acts.Resolve at) = refl

pub computes : (all : List MicroItem) → has_act (acts_from 0 all) is_compute ≡ lines_have (does kinds.Compute) all
computes all = acts_have 0 all is_compute (does kinds.Compute) does_compute

pub resolves : (all : List MicroItem) → has_act (acts_from 0 all) is_resolve ≡ lines_have (does kinds.Resolve) all
resolves all = acts_have 0 all is_resolve (does kinds.Resolve) does_resolve

same_some : {Y : Type 0} (a b : Y) → Some a ≡ Some b → a ≡ b
same_some a b h = cc

passes_at : {X Y : Type 0} (test : Y → Bool) (done : X → Y) (xs : List X) (n : ℕ) (y : Y) → Some y ≡ option_map done (slice_get xs n) → list_any (λ (x : X). test (done x)) (drop n xs) ≡ (test y || list_any (λ (x : X). test (done x)) (drop (suc n) xs))
passes_at test done [] n y e = absurd (cc)
passes_at test done (x ∷ xs) zero y e = ap (λ b. b || list_any (λ x. test (done x)) xs) (ap test (sym (same_some y (done x) e)))
passes_at test done (x ∷ xs) (suc n) y e = passes_at test done xs n y e

-- whether what one item does passes a test, and what those behind it do
pub passes_from : {X Y : Type 0} (test : Y → Bool) (done : X → Y) (xs : List X) (n : ℕ) (y : Y) → Some y ≡ option_map done (slice_get xs n) → list_any (λ (x : X). test (done x)) (drop n xs) ≡ (test y || list_any (λ (x : X). test (done x)) (drop (n + 1) xs))
passes_from test done xs n y e = passes_at test done xs n y e ∙ ap (λ m. test y || list_any (λ x. test (done x)) (drop m xs)) (sym (add-one n))

module _ (setting : Setting) where
  read_on : (k : ℕ) (act : Act) → is_read_of setting k act ≡ is_done_on setting.all kinds.Read k act
  read_on k (acts.Read at resource) = refl
  read_on k (acts.Write at resource) = refl
  read_on k (acts.Compute at) = refl
  read_on k (acts.Resolve at) = refl

  write_on : (k : ℕ) (act : Act) → is_write_of setting k act ≡ is_done_on setting.all kinds.Write k act
  write_on k (acts.Read at resource) = refl
  write_on k (acts.Write at resource) = refl
  write_on k (acts.Compute at) = refl
  write_on k (acts.Resolve at) = refl

  -- the flags tell of each of these whether it lacks an act
  flags_tell : (kind : ActKind) (is : ℕ → Act → Bool) → ((k : ℕ) (act : Act) → is k act ≡ is_done_on setting.all kind k act) → (all : List MicroItem) (flags : List Bool) → ((k : ℕ) → flag_at flags k ≡ lacks_act setting kind all k) → (used : List ℕ) → some_lack flags used ≡ lacks setting (acts_from 0 all) is used
  flags_tell kind is same all flags tell [] = refl
  flags_tell kind is same all flags tell (k ∷ used) =
      ap (λ b. b || some_lack flags used) (tell k ∙ ap (λ b. is_resource (slice_get setting.all k) && not b) (sym (acts_have 0 all (is k) (is_done_on setting.all kind k) (same k))))
      ∙ ap (λ b. (is_resource (slice_get setting.all k) && not (has_act (acts_from 0 all) (is k))) || b) (flags_tell kind is same all flags tell used)

  -- some behaviour lacks something where some of all that is read does, or of all that is written
  behaviours_lack : (reads writes : List Bool) (does : Item → Option Effect) (xs : List Item)
      → list_any (λ item. behaviour_lacks setting reads writes (does item)) xs
      ≡ (some_lack reads (flat_map (λ (item : Item). in_effect (effect_reads setting) (does item)) xs) || some_lack writes (flat_map (λ (item : Item). in_effect (effect_writes setting) (does item)) xs))
  behaviours_lack reads writes does [] = refl
  behaviours_lack reads writes does (item ∷ xs) =
      ap (λ b. behaviour_lacks setting reads writes (does item) || b) (behaviours_lack reads writes does xs)
      ∙ by (does item) (flat_map (λ (item : Item). in_effect (effect_reads setting) (does item)) xs) (flat_map (λ (item : Item). in_effect (effect_writes setting) (does item)) xs)
    where
      swapped : (a b c e : Bool) → ((a || b) || (c || e)) ≡ ((a || c) || (b || e))
      swapped true b c e = refl
      swapped false true true e = refl
      swapped false true false e = refl
      swapped false false c e = refl

      by : (o : Option Effect) (rs ws : List ℕ) → (behaviour_lacks setting reads writes o || (some_lack reads rs || some_lack writes ws)) ≡ (some_lack reads (in_effect (effect_reads setting) o ++ rs) || some_lack writes (in_effect (effect_writes setting) o ++ ws))
      by None rs ws = refl
      by (Some x) rs ws =
          swapped (some_lack reads (effect_reads setting x)) (some_lack writes (effect_writes setting x)) (some_lack reads rs) (some_lack writes ws)
          ∙ ap (λ b. b || (some_lack writes (effect_writes setting x) || some_lack writes ws)) (sym (list_any-append (flag_at reads) (effect_reads setting x) rs))
          ∙ ap (λ b. some_lack reads (effect_reads setting x ++ rs) || b) (sym (list_any-append (flag_at writes) (effect_writes setting x) ws))

  -- what an instruction reads or writes lacks an act
  pub instructions_lack : (known : Known) (all : List MicroItem) (reads writes : List Bool) → ((k : ℕ) → flag_at reads k ≡ lacks_act setting kinds.Read all k) → ((k : ℕ) → flag_at writes k ≡ lacks_act setting kinds.Write all k)
      → list_any (λ item. behaviour_lacks setting reads writes (behaviour_of setting.all known item)) setting.all
      ≡ (lacks setting (acts_from 0 all) (is_read_of setting) (all_reads setting known) || lacks setting (acts_from 0 all) (is_write_of setting) (all_writes setting known))
  instructions_lack known all reads writes told_reads told_writes =
      behaviours_lack reads writes (behaviour_of setting.all known) setting.all
      ∙ ap (λ b. b || some_lack writes (all_writes setting known)) (flags_tell kinds.Read (is_read_of setting) read_on all reads told_reads (all_reads setting known))
      ∙ ap (λ b. lacks setting (acts_from 0 all) (is_read_of setting) (all_reads setting known) || b) (flags_tell kinds.Write (is_write_of setting) write_on all writes told_writes (all_writes setting known))

rest_lacks : (i a b r inc : Bool) → inc ≡ false → inc ≡ i → r ≡ (a || b) → r ≡ ((i || a) || b)
rest_lacks i a b r inc none e f = f ∙ ap (λ x. (x || a) || b) (sym none ∙ e)

-- what lacks, where there are enough stages and the acts that stand once
pub lack_of : (x y : Context) (known : Known) (all : List Item) (row : List MicroItem) (reads writes : List Bool) (lack inc : Bool) → y ≡ x → items_of x ≡ all
    → ((k : ℕ) → flag_at reads k ≡ lacks_act (setting_in x) kinds.Read row k) → ((k : ℕ) → flag_at writes k ≡ lacks_act (setting_in x) kinds.Write row k)
    → inc ≡ false → inc ≡ (is_wrong_count (stage_count row) || not (has_act (acts_from 0 row) is_compute) || not (has_act (acts_from 0 row) is_resolve))
    → lack ≡ list_any (λ item. behaviour_lacks (setting_in y) reads writes (behaviour_of all known item)) all → lack ≡ is_lacking (setting_in x) known (acts_from 0 row) (stage_count row)
lack_of x y known all row reads writes lack inc same items told_reads told_writes none incomplete e =
    rest_lacks _ _ _ lack inc none incomplete
    (e ∙ ap (λ (z : Context). list_any (λ item. behaviour_lacks (setting_in z) reads writes (behaviour_of all known item)) all) same
    ∙ ap (λ (xs : List Item). list_any (λ item. behaviour_lacks (setting_in x) reads writes (behaviour_of xs known item)) xs) (sym items)
    ∙ instructions_lack (setting_in x) known row reads writes told_reads told_writes)

module _ (given setting : Setting) (known : Known) (micro : Micro) (row : List MicroItem) (same : given ≡ setting) (read : row ≡ micro.items) where
  first_break : first_of (stage_breaks setting known (Some micro)) ≡ option_or (first_wrong_line given.all (acts_from 0 row) [] 0 row) (if is_lacking given known (acts_from 0 row) (stage_count row) then Some micro.close else None)
  first_break =
      first_of_append (wrong_lines setting (acts_from 0 micro.items) [] [] 0 micro.items) (told (is_lacking setting known (acts_from 0 micro.items) (stage_count micro.items)) micro.close)
      ∙ ap (λ o. option_or o (first_of (told (is_lacking setting known (acts_from 0 micro.items) (stage_count micro.items)) micro.close))) (first_of_wrong_lines setting micro.items)
      ∙ ap (option_or (first_wrong_line setting.all (acts_from 0 micro.items) [] 0 micro.items)) (first_told (is_lacking setting known (acts_from 0 micro.items) (stage_count micro.items)))
      ∙ ap (λ (s : Setting). option_or (first_wrong_line s.all (acts_from 0 micro.items) [] 0 micro.items) (if is_lacking s known (acts_from 0 micro.items) (stage_count micro.items) then Some micro.close else None)) (sym same)
      ∙ ap (λ (l : List MicroItem). option_or (first_wrong_line given.all (acts_from 0 l) [] 0 l) (if is_lacking given known (acts_from 0 l) (stage_count l) then Some micro.close else None)) (sym read)
    where
      first_told : (b : Bool) → first_of (told b micro.close) ≡ (if b then Some micro.close else None)
      first_told true = refl
      first_told false = refl

  -- an act or `forward` is at fault
  pub break_within : (at : ℕ) → Some at ≡ first_wrong_line given.all (acts_from 0 row) [] 0 row → Some at ≡ first_of (stage_breaks setting known (Some micro))
  break_within at some = ap (λ o. option_or o (if is_lacking given known (acts_from 0 row) (stage_count row) then Some micro.close else None)) some ∙ sym first_break

  -- or something lacks
  pub break_behind : (lack : Bool) → None ≡ first_wrong_line given.all (acts_from 0 row) [] 0 row → lack ≡ is_lacking given known (acts_from 0 row) (stage_count row) → (if lack then Some micro.close else None) ≡ first_of (stage_breaks setting known (Some micro))
  break_behind lack none e = ap (λ b. if b then Some micro.close else None) e ∙ ap (λ o. option_or o (if is_lacking given known (acts_from 0 row) (stage_count row) then Some micro.close else None)) none ∙ sym first_break
