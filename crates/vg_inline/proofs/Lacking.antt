-- Where of each function nothing is kept or its body, and of each instruction something is, the instructions do what they do.
use Rattle.std.proofs.Common.{eq-eqb, arith, ◌≡◌, ℕ, ◌<◌, inl, inr, Bool, true, false, nat_eq, length, set, get_or, replicate, List, map, [], ◌∷◌, ◌++◌, Option, Some, None, refl, sym, ap, ◌∙◌, true≢false}
use borrow.Author.Tests.{eqb-true}
use Rattle.std.specs.Prelude.{slice_get}
use Rattle.std.proofs.lemmas.Bool.{cases_lt}
use Rattle.std.proofs.lemmas.List.{get_or-set_same, get_or-set_other, get_or-replicate, get_or_past, length-set, length-replicate}
use Rattle.std.proofs.lemmas.Option.{slice_get_within}
use Rattle.vg_ast.specs.declared.name.Name.{Name}
use Rattle.vg_ast.specs.declared.statement.Statement.{Statement}
use Rattle.vg_ast.specs.declared.item.Item.{Item}
use Rattle.vg_ast.specs.declared.item.Item.TheVariants as items
use Rattle.vg_names.specs.Definition.{Text, item_named, fields_of_format}
use Rattle.vg_names.specs.Numbers.{number_named}
use Rattle.vg_names.specs.Unknown.{in_each}
use Rattle.vg_names.specs.Worked.{IsWorked, value_at}
use Rattle.vg_names.proofs.InnerLemmas.{unnumbered_item}
use Rattle.vg_names.proofs.Lookups.{item_of_number}
use Rattle.vg_whole.specs.Whole.{Constants}
use Rattle.vg_inline.specs.declared.keep.Keep.{Keep}
use Rattle.vg_inline.specs.declared.kept.Kept.{Kept}
use Rattle.vg_inline.specs.declared.kept.KeptEffect.{KeptEffect}
use Rattle.vg_inline.specs.declared.effect.Effect.{Effect}
use Rattle.vg_inline.specs.Types.{Aliases}
use Rattle.vg_inline.specs.Inline.{Known, with_bodies, field_values, body_step, bodies_of}
use Rattle.vg_inline.specs.Behaviour.{effect_of}
use Rattle.vg_inline.specs.Kept.{keeping_as, kept_missing, stating_as}
use Rattle.vg_inline.specs.KeptBehaviour.{instruction_kept, kept_excess, item_kept_excess, effect_kept, behaviour_kept}
use Rattle.vg_inline.specs.Context.{bodies_as}
use Rattle.vg_inline.specs.Scheduled.{IsKeptOf, SomeBodies}
use Rattle.vg_inline.proofs.Below.{Pair, less_of, more_of, alike, pairs, less_picture, more_picture, stated_pairs, less_states, more_states}
use Rattle.vg_inline.proofs.Picture.{body}
use Rattle.vg_inline.proofs.StatePicture.{pictured_instruction}

module _ (keep : Keep) (all : List Item) (c : Constants) (a : Aliases) (F G : Text → Option Kept) (given : (text : Text) → IsKeptOf (F text) (G text)) where
  abbrev both : Text → Pair Kept
  both text = record { less = F text; more = G text; below = given text }

  abbrev both_known : Known (Pair Kept)
  both_known = with_bodies c a both

  -- the body of a function
  pub some_body : (item : Option Item) → IsKeptOf (body_step (keeping_as keep) all c a F item) (body_step (keeping_as keep) all c a G item)
  some_body item =
      alike (body (Pair Kept) (Option Kept) (pairs keep) (keeping_as keep) less_of (less_picture keep) all c a both item)
      (body (Pair Kept) (Option Kept) (pairs keep) (keeping_as keep) more_of (more_picture keep) all c a both item)
      (body_step (pairs keep) all c a both item).below

  -- what an instruction does
  some_instruction : (format : Name) (behaviour : Statement) → IsKeptOf (instruction_kept keep all (with_bodies c a F) format behaviour) (instruction_kept keep all (with_bodies c a G) format behaviour)
  some_instruction format behaviour =
      by (effect_of (stated_pairs keep) all both_known behaviour (field_values (pairs keep) 0 (fields_of_format (item_named all format.text))))
      (pictured_instruction (Pair Kept) (Option Kept) (Pair KeptEffect) (Option KeptEffect) (stated_pairs keep) (stating_as keep) less_of less_of (less_states keep) all both_known format behaviour)
      (pictured_instruction (Pair Kept) (Option Kept) (Pair KeptEffect) (Option KeptEffect) (stated_pairs keep) (stating_as keep) more_of more_of (more_states keep) all both_known format behaviour)
    where
      by : (p : Pair KeptEffect) {x y : Option KeptEffect} → x ≡ p.less → y ≡ p.more → IsKeptOf x y
      by p left right = alike left right p.below

  -- an instruction of which something is kept
  one_whole : (item : Item) → item_kept_excess keep all (with_bodies c a F) item ≡ [] → behaviour_kept keep all (with_bodies c a F) item ≡ behaviour_kept keep all (with_bodies c a G) item
  one_whole (items.Instruction at name format behaviour) e = elim (some_instruction format behaviour) [
    | inl none ↦ absurd (let told : name.at ∷ [] ≡ [] = sym (ap (kept_excess name) none) ∙ e in cc)
    | inr same ↦ ap effect_kept same
  ]
  one_whole _ e = refl

  nothing_left : (xs ys : List ℕ) → xs ++ ys ≡ [] → (xs ≡ []) × (ys ≡ [])
  nothing_left [] ys e = (refl, e)
  nothing_left (x ∷ xs) ys e = absurd (cc)

  pub nothing_lacks : (more : List Item) → in_each (item_kept_excess keep all (with_bodies c a F)) more ≡ [] → map (behaviour_kept keep all (with_bodies c a F)) more ≡ map (behaviour_kept keep all (with_bodies c a G)) more
  nothing_lacks [] e = refl
  nothing_lacks (item ∷ more) e =
      let parts = nothing_left (item_kept_excess keep all (with_bodies c a F) item) (in_each (item_kept_excess keep all (with_bodies c a F)) more) e in
      ap (λ (x : Option Effect). x ∷ map (behaviour_kept keep all (with_bodies c a F)) more) (one_whole item parts.0)
      ∙ ap (λ (l : List (Option Effect)). behaviour_kept keep all (with_bodies c a G) item ∷ l) (nothing_lacks more parts.1)

-- ---- in a list

-- nothing is made of what isn't an item
module _ (keep : Keep) (all : List Item) (c : Constants) (a : Aliases) (are : IsWorked all (body_step (keeping_as keep) all c a) (bodies_of (keeping_as keep) all c a)) where
  abbrev W : Text → Option Kept
  W = bodies_of (keeping_as keep) all c a

  outside : (list : List (Option Kept)) (text : Text) → number_named all text ≡ None → bodies_as keep all list text ≡ W text
  outside list text e = ap (value_at (kept_missing keep) list) e ∙ sym (are text ∙ ap (body_step (keeping_as keep) all c a W) (sym (unnumbered_item all text (sym e))))

  -- at first every body is lacking
  pub lacking_at_start : SomeBodies keep all c a (replicate (length all) None)
  lacking_at_start = record {
    one_each = length-replicate (length all) None;
    kept = λ text. by text (number_named all text) refl;
  }
    where
      none_of : (text : Text) (k : ℕ) → number_named all text ≡ Some k → (o : Option Item) → slice_get all k ≡ o → IsKeptOf (get_or (replicate (length all) None) k (kept_missing keep)) (W text)
      none_of text k e (Some item) at = inl (get_or-replicate (length all) k None (kept_missing keep) (slice_get_within all k item at))
      none_of text k e None at =
          elim (cases_lt k (length all)) [
            | inl less ↦ inl (get_or-replicate (length all) k None (kept_missing keep) less)
            | inr ge ↦ inr (get_or_past (replicate (length all) None) k (kept_missing keep) (let e = length-replicate (length all) (let none : Option Kept = None in none) in omega arith)
                ∙ sym (are text ∙ ap (body_step (keeping_as keep) all c a W) (sym (item_of_number all text k e) ∙ at)))
          ]

      by : (text : Text) (o : Option ℕ) → number_named all text ≡ o → IsKeptOf (bodies_as keep all (replicate (length all) None) text) (W text)
      by text None e = inr (outside (replicate (length all) None) text e)
      by text (Some k) e = alike (ap (value_at (kept_missing keep) (replicate (length all) None)) e) refl (none_of text k e (slice_get all k) refl)

  -- one more is made, or dropped
  pub put_at : (list : List (Option Kept)) (k : ℕ) (v : Option Kept) → SomeBodies keep all c a list → k < length all → IsKeptOf v (body_step (keeping_as keep) all c a W (slice_get all k)) → SomeBodies keep all c a (set list k v)
  put_at list k v some inside below = record {
    one_each = length-set list k v ∙ some.one_each;
    kept = λ text. by text (number_named all text) refl;
  }
    where
      at_number : (text : Text) (j : ℕ) → number_named all text ≡ Some j → (b : Bool) → nat_eq j k ≡ b → IsKeptOf (get_or (set list k v) j (kept_missing keep)) (W text)
      at_number text j e true same =
          let is : j ≡ k = eqb-true j k same in
          let within : k < length list = (let n : length list ≡ length all = some.one_each in omega arith) in
          alike (ap (λ (i : ℕ). get_or (set list k v) i (kept_missing keep)) is ∙ get_or-set_same list k v (kept_missing keep) within)
          (are text ∙ ap (body_step (keeping_as keep) all c a W) (sym (item_of_number all text j e) ∙ ap (slice_get all) is))
          below
      at_number text j e false other =
          alike (get_or-set_other list k j v (kept_missing keep) (λ same. true≢false (sym (eq-eqb j k same) ∙ other)) ∙ ap (value_at (kept_missing keep) list) (sym e)) refl (some.kept text)

      by : (text : Text) (o : Option ℕ) → number_named all text ≡ o → IsKeptOf (bodies_as keep all (set list k v) text) (W text)
      by text None e = inr (outside (set list k v) text e)
      by text (Some j) e = alike (ap (value_at (kept_missing keep) (set list k v)) e) refl (at_number text j e (nat_eq j k) refl)

  pub made_at : (list : List (Option Kept)) (k : ℕ) (item : Item) (v : Option Kept) → SomeBodies keep all c a list → slice_get all k ≡ Some item → v ≡ body_step (keeping_as keep) all c a (bodies_as keep all list) (Some item) → SomeBodies keep all c a (set list k v)
  made_at list k item v some at made =
      put_at list k v some (slice_get_within all k item at)
      (alike made (ap (body_step (keeping_as keep) all c a W) at) (some_body keep all c a (bodies_as keep all list) W some.kept (Some item)))

  pub dropped_at : (list : List (Option Kept)) (k : ℕ) → SomeBodies keep all c a list → k < length list → SomeBodies keep all c a (set list k None)
  dropped_at list k some inside = put_at list k None some (let n : length list ≡ length all = some.one_each in omega arith) (inl refl)
