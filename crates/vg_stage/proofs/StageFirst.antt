-- The first act or `forward` at fault, from one of them on.
use Rattle.std.proofs.Common.{◌≡◌, ℕ, ◌+◌, ◌<◌, ◌≤◌, List, map, [], ◌∷◌, ◌++◌, length, get_or, drop, append_assoc, Some, None, refl, ap, sym, ◌∙◌, arith}
use Rattle.std.specs.Option.{option_or}
use Rattle.std.proofs.lemmas.List.{drop_all}
use Rattle.vg_ast.specs.declared.item.Item.{Item}
use Rattle.vg_ast.specs.declared.act.Act.{Act}
use Rattle.vg_ast.specs.declared.micro_item.MicroItem.{MicroItem}
use Rattle.vg_ast.specs.declared.micro_item.MicroItem.TheVariants as lines
use Rattle.vg_stage.specs.StageOrder.{Placed}
use Rattle.vg_stage.specs.StageMet.{Key, key_of, line_keys, placed_at, stage_behind, wrong_act, first_wrong_act, wrong_line, first_wrong_line}
use Rattle.vg_stage.proofs.StageLemmas.{drop_here}

-- Of all acts of a stage those from one on are left, when those before them are met and none of them is at fault.
pub record AreLeft (all : List Placed) (s : ℕ) (start : List Key) (row : List Act) (met : List Key) (i : ℕ) : Type 0 where
  pub first : first_wrong_act all start (placed_at s row) ≡ first_wrong_act all met (placed_at s (drop i row))
  pub keys : start ++ map key_of row ≡ met ++ map key_of (drop i row)

module _ (all : List Placed) (s : ℕ) (start : List Key) (row : List Act) where
  pub left_start : AreLeft all s start row start 0
  left_start = record { first = refl; keys = refl }

  module _ (met : List Key) (i : ℕ) (x : Act) (left : AreLeft all s start row met i) (within : i < length row) (is : x ≡ get_or row i x) where
    from_act : first_wrong_act all start (placed_at s row) ≡ option_or (wrong_act all met (s, x)) (first_wrong_act all (met ++ key_of x ∷ []) (placed_at s (drop (i + 1) row)))
    from_act = left.first ∙ ap (λ (l : List Act). first_wrong_act all met (placed_at s l)) (drop_here row i x within is)

    -- this act is met
    pub act_behind : (next : List Key) → None ≡ wrong_act all met (s, x) → next ≡ met ++ key_of x ∷ [] → AreLeft all s start row next (i + 1)
    act_behind next none keys = record {
      first =
          from_act ∙ ap (λ o. option_or o (first_wrong_act all (met ++ key_of x ∷ []) (placed_at s (drop (i + 1) row)))) (sym none)
          ∙ ap (λ ks. first_wrong_act all ks (placed_at s (drop (i + 1) row))) (sym keys);
      keys =
          left.keys ∙ ap (λ (l : List Act). met ++ map key_of l) (drop_here row i x within is)
          ∙ sym (append_assoc met (key_of x ∷ []) (map key_of (drop (i + 1) row))) ∙ ap (λ ks. ks ++ map key_of (drop (i + 1) row)) (sym keys);
    }

    -- or it is at fault
    pub act_within : (at : ℕ) → Some at ≡ wrong_act all met (s, x) → Some at ≡ first_wrong_act all start (placed_at s row)
    act_within at some = sym (from_act ∙ ap (λ o. option_or o (first_wrong_act all (met ++ key_of x ∷ []) (placed_at s (drop (i + 1) row)))) (sym some))

  append_nothing : (ks : List Key) → ks ++ [] ≡ ks
  append_nothing [] = refl
  append_nothing (k ∷ ks) = ap (λ l. k ∷ l) (append_nothing ks)

  pub no_act_wrong : (met : List Key) (i : ℕ) → AreLeft all s start row met i → length row ≤ i → None ≡ first_wrong_act all start (placed_at s row)
  no_act_wrong met i left past = sym (left.first ∙ ap (λ (l : List Act). first_wrong_act all met (placed_at s l)) (drop_all i row past))

  pub all_acts_met : (met : List Key) (i : ℕ) → AreLeft all s start row met i → length row ≤ i → met ≡ start ++ map key_of row
  all_acts_met met i left past = sym (left.keys ∙ ap (λ (l : List Act). met ++ map key_of l) (drop_all i row past) ∙ append_nothing met)

-- Of all lines those from one on are left; the next stage has this number.
pub record LinesLeft (items : List Item) (placed : List Placed) (all : List MicroItem) (met : List Key) (s i : ℕ) : Type 0 where
  pub first : first_wrong_line items placed [] 0 all ≡ first_wrong_line items placed met s (drop i all)
  pub few : s ≤ i

few_stages : (s i : ℕ) (x : MicroItem) → s ≤ i → stage_behind s x ≤ i + 1
few_stages s i (lines.Stage at name given) h = omega arith
few_stages s i (lines.Forward at resource) h = omega arith

pub few_behind : (s i : ℕ) (x : MicroItem) (next : ℕ) → s ≤ i → next ≡ stage_behind s x → next ≤ i + 1
few_behind s i x next h e = rw e (few_stages s i x h)

module _ (items : List Item) (placed : List Placed) (all : List MicroItem) where
  pub lines_start : LinesLeft items placed all [] 0 0
  lines_start = record { first = refl; few = omega arith }

  module _ (met : List Key) (s i : ℕ) (x : MicroItem) (left : LinesLeft items placed all met s i) (within : i < length all) (is : x ≡ get_or all i x) where
    from_line : first_wrong_line items placed [] 0 all ≡ option_or (wrong_line items placed met s x) (first_wrong_line items placed (met ++ line_keys x) (stage_behind s x) (drop (i + 1) all))
    from_line = left.first ∙ ap (λ (l : List MicroItem). first_wrong_line items placed met s l) (drop_here all i x within is)

    pub line_behind : (next : List Key) (t : ℕ) → None ≡ wrong_line items placed met s x → next ≡ met ++ line_keys x → t ≡ stage_behind s x → LinesLeft items placed all next t (i + 1)
    line_behind next t none keys e = record {
      first =
          from_line ∙ ap (λ o. option_or o (first_wrong_line items placed (met ++ line_keys x) (stage_behind s x) (drop (i + 1) all))) (sym none)
          ∙ ap (λ ks. first_wrong_line items placed ks (stage_behind s x) (drop (i + 1) all)) (sym keys)
          ∙ ap (λ n. first_wrong_line items placed next n (drop (i + 1) all)) (sym e);
      few = few_behind s i x t left.few e;
    }

    pub line_within : (at : ℕ) → Some at ≡ wrong_line items placed met s x → Some at ≡ first_wrong_line items placed [] 0 all
    line_within at some = sym (from_line ∙ ap (λ o. option_or o (first_wrong_line items placed (met ++ line_keys x) (stage_behind s x) (drop (i + 1) all))) (sym some))

  pub no_line_wrong : (met : List Key) (s i : ℕ) → LinesLeft items placed all met s i → length all ≤ i → None ≡ first_wrong_line items placed [] 0 all
  no_line_wrong met s i left past = sym (left.first ∙ ap (λ (l : List MicroItem). first_wrong_line items placed met s l) (drop_all i all past))
