-- Ranges one behind the other.
use Rattle.std.proofs.Common.{◌≡◌, ℕ, ◌+◌, ◌<◌, true, false, ◌||◌, nat_le, bit_or, List, [], ◌∷◌, ◌++◌, append_assoc, length, drop, get_or, map, refl, ap, sym, subst, ◌∙◌}
use Rattle.std.specs.List.{list_any}
use Rattle.std.proofs.lemmas.List.{at_drop_more}
use Rattle.std.proofs.lemmas.Bool.{or_left}
use Rattle.vg_declare.specs.declared.span.Span.{Span}
use Rattle.vg_declare.specs.FieldCover.{is_wrong_field, is_wrong_range, meet, named_behind, runs_upwards, span}
use Rattle.vg_declare.specs.Mask.{Names}
use Rattle.vg_declare.proofs.MaskLemmas.{both_named, turned}

pub rest_is : {X : Type 0} (xs : List X) (i : ℕ) (x : X) → i < length xs → x ≡ get_or xs i x → drop i xs ≡ x ∷ drop (i + 1) xs
rest_is xs i x h is = at_drop_more (λ ys. ys) xs i x h ∙ ap (λ y. y ∷ drop (i + 1) xs) (sym is)

-- the rest of a list behind one of its elements
pub map_rest : {X Y : Type 0} (f : X → Y) (xs : List X) (i : ℕ) (x : X) → i < length xs → x ≡ get_or xs i x → map f (drop i xs) ≡ f x ∷ map f (drop (i + 1) xs)
map_rest f xs i x h is = at_drop_more (map f) xs i x h ∙ ap (λ y. f y ∷ map f (drop (i + 1) xs)) (sym is)

-- ---- one range

-- a range that doesn't run upwards
module _ (w : ℕ) (front : List Span) (ends : ℕ × ℕ) (s : Span) (is : s ≡ span ends) (down : runs_upwards ends ≡ false) where
  pub range_is : is_wrong_range w front ends ≡ (nat_le w s.high || list_any (meet s) front)
  range_is =
      ap (λ t. t || nat_le w (span ends).high || list_any (meet (span ends)) front) down
      ∙ ap (λ (x : Span). nat_le w x.high || list_any (meet x) front) (sym is)

  pub range_named : (m n : ℕ) → Names w m front → Names w n (s ∷ []) → Names w (bit_or m n) (span ends ∷ front)
  range_named m n h k = subst (λ (x : Span). Names w (bit_or m n) (x ∷ front)) is (turned w (bit_or m n) front (s ∷ []) (both_named w m n front (s ∷ []) h k))

-- ---- ranges that are right so far

-- what is left of a field's ranges, where these bits are named
pub record LeftOf (w : ℕ) (front : List Span) (all : List (ℕ × ℕ)) (named : ℕ) (rest : List (ℕ × ℕ)) : Type 0 where
  pub behind : List Span
  pub names : Names w named behind
  pub wrong : is_wrong_field w front all ≡ is_wrong_field w behind rest
  pub last : named_behind front all ≡ named_behind behind rest

module _ (w : ℕ) (front : List Span) (all : List (ℕ × ℕ)) (named : ℕ) where
  pub left_first : Names w named front → LeftOf w front all named all
  left_first names = record { behind = front; names = names; wrong = refl; last = refl }

  pub left_last : LeftOf w front all named [] → (is_wrong_field w front all ≡ false) × Names w named (named_behind front all)
  left_last left = (left.wrong, subst (Names w named) (sym left.last) left.names)

  module _ (ends : ℕ × ℕ) (more : List (ℕ × ℕ)) (left : LeftOf w front all named (ends ∷ more)) where
    pub left_wrong : is_wrong_range w left.behind ends ≡ true → is_wrong_field w front all ≡ true
    left_wrong e = left.wrong ∙ or_left (is_wrong_range w left.behind ends) (is_wrong_field w (span ends ∷ left.behind) more) e

    pub left_right : (next : ℕ) → (is_wrong_range w left.behind ends ≡ false) × Names w next (span ends ∷ left.behind) → LeftOf w front all next more
    left_right next h = record {
      behind = span ends ∷ left.behind;
      names = h.1;
      wrong = left.wrong ∙ ap (λ t. t || is_wrong_field w (span ends ∷ left.behind) more) h.0;
      last = left.last;
    }

-- ---- ranges beside each other

-- these bits are named by some spans, behind which the others are left
pub record IsBeside (w : ℕ) (spans all : List Span) (named : ℕ) (rest : List Span) : Type 0 where
  pub done : List Span
  pub names : Names w named done
  pub same : spans ++ all ≡ done ++ rest

module _ (w : ℕ) (spans all : List Span) (named : ℕ) where
  pub beside_first : Names w named spans → IsBeside w spans all named all
  beside_first names = record { done = spans; names = names; same = refl }

  pub beside_last : IsBeside w spans all named [] → Names w named (spans ++ all)
  beside_last left = subst (Names w named) (sym (left.same ∙ append_nil left.done)) left.names
    where
      append_nil : (xs : List Span) → xs ++ [] ≡ xs
      append_nil [] = refl
      append_nil (x ∷ xs) = ap (λ ys. x ∷ ys) (append_nil xs)

  pub beside_more : (block more : List Span) → IsBeside w spans all named (block ++ more) → (mask : ℕ) → Names w mask block → IsBeside w spans all (bit_or named mask) more
  beside_more block more left mask m = record {
    done = left.done ++ block;
    names = both_named w named mask left.done block left.names m;
    same = left.same ∙ sym (append_assoc left.done block more);
  }

  pub beside_block : (block more : List Span) → IsBeside w spans all named (block ++ more) → (next : ℕ) → ((front : List Span) → Names w named front → Names w next (front ++ block)) → IsBeside w spans all next more
  beside_block block more left next h = record {
    done = left.done ++ block;
    names = h left.done left.names;
    same = left.same ∙ sym (append_assoc left.done block more);
  }
