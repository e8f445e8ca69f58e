-- The second writes of statements, by their parts.
use Rattle.std.proofs.Common.{◌≡◌, ℕ, ◌+◌, ◌<◌, ◌≤◌, Bool, true, false, List, map, [], ◌∷◌, ◌++◌, length, get_or, drop, Option, Some, None, refl, ap, sym, ◌∙◌}
use Rattle.std.specs.Option.{option_map}
use Rattle.std.proofs.lemmas.List.{append-nil, append_assoc, drop_all}
use Rattle.vg_inline.specs.declared.tree.Tree.{Tree}
use Rattle.vg_inline.specs.declared.effect.Target.{Target}
use Rattle.vg_inline.specs.declared.effect.Effect.{Effect, fold-roll-Effect}
use Rattle.vg_inline.specs.declared.effect.Effect.TheOpen.{Effect-F}
use Rattle.vg_inline.specs.declared.effect.Effect.TheVariants as effects
use Rattle.vg_inline.specs.declared.effect.Effect.TheVariants.{rolls-Block, rolls-If, rolls-Assign}
use Rattle.vg_names.specs.First.{first_of}
use Rattle.vg_names.proofs.FirstLemmas.{first_behind, first_within}
use Rattle.vg_type.specs.Judged.{told}
use Rattle.vg_tree.specs.Made.{Frame}
use Rattle.vg_tree.specs.Access.{Write, Writing, all_writes, in_turn, may_not_follow, write_of, writing, writing_step}
use Rattle.vg_stage.proofs.StageLemmas.{drop_here}
use Rattle.vg_access.specs.Follows.{Follows, assigning, on_either_side, on_one_path}

-- ---- an assignment

pub refused : (w : Write) (path others path_after others_after : List Write) → may_not_follow path others w ≡ true → Follows (assigning w) path others (Some w.place) path_after others_after
refused w path others path_after others_after h = record {
  first = ap (λ b. first_of (told b w.place)) (sym h);
  longer = λ e. absurd (cc);
  kept = λ e. absurd (cc);
}

pub put_behind : (w : Write) (path others path_after : List Write) → may_not_follow path others w ≡ false → path_after ≡ path ++ w ∷ [] → Follows (assigning w) path others None path_after others
put_behind w path others path_after h e = record {
  first = ap (λ b. first_of (told b w.place)) (sym h);
  longer = λ u. e;
  kept = λ u. refl;
}

-- ---- the sides of a conditional

-- one side alone
abbrev pub on_one_side : Writing → Writing
on_one_side part = record { writes = part.writes ++ []; places = λ path others. part.places path others ++ [] }

pub one_side : (part : Writing) (path others : List Write) (found : Option ℕ) (path_after others_after : List Write) → Follows part path others found path_after others_after → Follows (on_one_side part) path others found path_after others_after
one_side part path others found path_after others_after h = record {
  first = h.first ∙ ap first_of (sym (append-nil (part.places path others)));
  longer = λ e. h.longer e ∙ ap (λ (ws : List Write). path ++ ws) (sym (append-nil part.writes));
  kept = h.kept;
}

module _ (one other : Writing) (path others : List Write) where
  -- a second write stands on the first side
  pub on_first : (at : ℕ) (path_then others_then path_after others_after : List Write) → Follows one path others (Some at) path_then others_then → Follows (on_either_side one other) path others (Some at) path_after others_after
  on_first at path_then others_then path_after others_after h = record {
    first = sym (first_within (one.places path others) (other.places path (others ++ one.writes)) at (sym h.first));
    longer = λ e. absurd (cc);
    kept = λ e. absurd (cc);
  }

  behind_first : (found : Option ℕ) → None ≡ first_of (one.places path others) → found ≡ first_of (other.places path (others ++ one.writes)) → found ≡ first_of (one.places path others ++ other.places path (others ++ one.writes))
  behind_first found none e = e ∙ sym (first_behind (one.places path others) (other.places path (others ++ one.writes)) (sym none))

  -- or on the other one
  pub on_other : (at : ℕ) (path_then others_then path_else others_else path_after others_after : List Write) → Follows one path others None path_then others_then
      → Follows other path (others ++ one.writes) (Some at) path_else others_else → Follows (on_either_side one other) path others (Some at) path_after others_after
  on_other at path_then others_then path_else others_else path_after others_after h k = record {
    first = behind_first (Some at) h.first k.first;
    longer = λ e. absurd (cc);
    kept = λ e. absurd (cc);
  }

  -- or nowhere
  pub on_neither : (path_then others_then path_else others_else path_after others_after : List Write) → Follows one path others None path_then others_then
      → Follows other path (others ++ one.writes) None path_else others_else → path_after ≡ path ++ (one.writes ++ other.writes) → others_after ≡ others → Follows (on_either_side one other) path others None path_after others_after
  on_neither path_then others_then path_else others_else path_after others_after h k e f = record {
    first = behind_first None h.first k.first;
    longer = λ u. e;
    kept = λ u. f;
  }

-- ---- by the parts of a statement

module _ (frame : Frame) where
  pub writing-Block : (xs : List Effect) → writing frame (effects.Block xs) ≡ on_one_path (map (writing frame) xs)
  writing-Block xs = ap (writing frame) (sym (rolls-Block xs)) ∙ fold-roll-Effect Writing (writing_step frame) (Effect-F.Block xs)

  pub writing-One : (at : ℕ) (c : Tree) (x : Effect) → writing frame (effects.If at c x None) ≡ on_one_side (writing frame x)
  writing-One at c x = ap (writing frame) (sym (rolls-If at c x None)) ∙ fold-roll-Effect Writing (writing_step frame) (Effect-F.If at c x None)

  pub writing-If : (at : ℕ) (c : Tree) (x y : Effect) → writing frame (effects.If at c x (Some y)) ≡ on_either_side (writing frame x) (writing frame y)
  writing-If at c x y = ap (writing frame) (sym (rolls-If at c x (Some y))) ∙ fold-roll-Effect Writing (writing_step frame) (Effect-F.If at c x (Some y))

  -- a conditional of two sides, where each is known by another name
  pub writing_sides : (e : Effect) (at : ℕ) (c : Tree) (x y a b : Effect) (other : Option Effect) → e ≡ effects.If at c x other → other ≡ Some y → a ≡ x → b ≡ y → writing frame e ≡ on_either_side (writing frame a) (writing frame b)
  writing_sides e at c x y a b other is some first second =
      ap (writing frame) (is ∙ ap (λ o. effects.If at c x o) some ∙ ap (λ (z : Effect). effects.If at c z (Some y)) (sym first) ∙ ap (λ (z : Effect). effects.If at c a (Some z)) (sym second))
      ∙ writing-If at c a b

  pub writing-Assign : (target : Target) (parts : List Tree) (at : ℕ) (v : Tree) → writing frame (effects.Assign target parts at v) ≡ assigning (write_of frame target parts)
  writing-Assign target parts at v = ap (writing frame) (sym (rolls-Assign target parts at v)) ∙ fold-roll-Effect Writing (writing_step frame) (Effect-F.Assign target parts at v)

  -- ---- statements in turn

  -- what is left of them
  pub record TurnLeft (xs : List Effect) (i : ℕ) (path others path_now others_now : List Write) : Type 0 where
    pub places : first_of (in_turn (map (writing frame) (drop i xs)) path_now others) ≡ first_of (in_turn (map (writing frame) xs) path others)
    pub longer : path_now ++ all_writes (map (writing frame) (drop i xs)) ≡ path ++ all_writes (map (writing frame) xs)
    pub kept : others_now ≡ others

  module _ (xs : List Effect) (i : ℕ) (x : Effect) (path others path_now others_now : List Write) (left : TurnLeft xs i path others path_now others_now) (within : i < length xs) (is : x ≡ get_or xs i x) where
    abbrev rest : List Writing
    rest = map (writing frame) (drop (i + 1) xs)

    here : map (writing frame) (drop i xs) ≡ writing frame x ∷ rest
    here = ap (map (writing frame)) (drop_here xs i x within is)

    places_here : first_of ((writing frame x).places path_now others ++ in_turn rest (path_now ++ (writing frame x).writes) others) ≡ first_of (in_turn (map (writing frame) xs) path others)
    places_here = ap (λ (parts : List Writing). first_of (in_turn parts path_now others)) (sym here) ∙ left.places

    own : (found : Option ℕ) → found ≡ first_of ((writing frame x).places path_now others_now) → found ≡ first_of ((writing frame x).places path_now others)
    own found e = e ∙ ap (λ (ws : List Write). first_of ((writing frame x).places path_now ws)) left.kept

    pub turn_found : (at : ℕ) (path_after others_after path_end others_end : List Write) → Follows (writing frame x) path_now others_now (Some at) path_after others_after → Follows (on_one_path (map (writing frame) xs)) path others (Some at) path_end others_end
    turn_found at path_after others_after path_end others_end h = record {
      first =
          sym (first_within ((writing frame x).places path_now others) (in_turn rest (path_now ++ (writing frame x).writes) others) at (sym (own (Some at) h.first)))
          ∙ places_here;
      longer = λ e. absurd (cc);
      kept = λ e. absurd (cc);
    }

    pub turn_more : (path_after others_after : List Write) → Follows (writing frame x) path_now others_now None path_after others_after → TurnLeft xs (i + 1) path others path_after others_after
    turn_more path_after others_after h = record {
      places =
          ap (λ (ws : List Write). first_of (in_turn rest ws others)) (h.longer refl)
          ∙ sym (first_behind ((writing frame x).places path_now others) (in_turn rest (path_now ++ (writing frame x).writes) others) (sym (own None h.first)))
          ∙ places_here;
      longer =
          ap (λ (ws : List Write). ws ++ all_writes rest) (h.longer refl) ∙ append_assoc path_now (writing frame x).writes (all_writes rest)
          ∙ ap (λ (parts : List Writing). path_now ++ all_writes parts) (sym here) ∙ left.longer;
      kept = h.kept refl ∙ left.kept;
    }

  pub turn_all : (xs : List Effect) (i : ℕ) (path others path_now others_now : List Write) → TurnLeft xs i path others path_now others_now → length xs ≤ i → Follows (on_one_path (map (writing frame) xs)) path others None path_now others_now
  turn_all xs i path others path_now others_now left past = record {
    first = ap (λ (l : List Effect). first_of (in_turn (map (writing frame) l) path_now others)) (sym (drop_all i xs past)) ∙ left.places;
    longer = λ e. sym (append-nil path_now) ∙ ap (λ (l : List Effect). path_now ++ all_writes (map (writing frame) l)) (sym (drop_all i xs past)) ∙ left.longer;
    kept = λ e. left.kept;
  }

pub ruleset writing_steps = (writing-Block, writing-One, writing-If, writing-Assign)
