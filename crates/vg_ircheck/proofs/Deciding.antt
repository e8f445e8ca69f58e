-- It can be told whether a value may be unset, and whether a phi is wrong.
use Rattle.std.proofs.Common.{◌≡◌, ◌⊎◌, inl, inr, ℕ, Bool, true, false, true≢false, refl, sym}
use Rattle.vg_ir.specs.declared.function.Function.{Function}
use Rattle.vg_ir.specs.declared.name.Name.{Name}
use Rattle.vg_ircheck.specs.Flow.{IsReachedThrough, is_reached_through, names_block, any_block}
use Rattle.vg_ircheck.specs.Uses.{Place}
use Rattle.vg_ircheck.specs.Unset.{is_named_in, is_parameter, passes_by, IsUnset, Read, IsUnsetRead}
use Rattle.vg_ircheck.specs.Phis.{Subject, OfPhi, OfLabel, IsBroken, lists_twice, lists_predecessors}
use Rattle.vg_ircheck.proofs.Reached.{told_is_reached, reached_is_told}

-- neither of two holds
neither : {A B : Type 0} → (A → ⊥) → (B → ⊥) → A ⊎ B → ⊥
neither n m (inl a) = n a
neither n m (inr b) = m b

-- a test tells
pub is_or_not : (b : Bool) → (b ≡ true) ⊎ (b ≡ false)
is_or_not true = inl refl
is_or_not false = inr refl

pub true_or_not : (b : Bool) → (b ≡ true) ⊎ ((b ≡ true) → ⊥)
true_or_not true = inl refl
true_or_not false = inr (λ e. true≢false (sym e))

pub false_or_not : (b : Bool) → (b ≡ false) ⊎ ((b ≡ false) → ⊥)
false_or_not true = inr (λ e. true≢false e)
false_or_not false = inl refl

-- of a path
pub path_or_not : (f : Function) (among : ℕ → Bool) (b : ℕ) → IsReachedThrough f among b ⊎ (IsReachedThrough f among b → ⊥)
path_or_not f among b = by_cases (true_or_not (is_reached_through f among b))
  where
    by_cases : (is_reached_through f among b ≡ true) ⊎ ((is_reached_through f among b ≡ true) → ⊥) → IsReachedThrough f among b ⊎ (IsReachedThrough f among b → ⊥)
    by_cases (inl e) = inl (told_is_reached f among b e)
    by_cases (inr n) = inr (λ r. n (reached_is_told f among b r))

-- of a value at a place
unset_or_not : (f : Function) (n : Name) (place : Place) → IsUnset f n place ⊎ (IsUnset f n place → ⊥)
unset_or_not f n place =
    by_cases (false_or_not (is_parameter f n)) (path_or_not f (passes_by f n) place.block) (false_or_not (is_named_in n place.behind))
  where
    by_cases : (is_parameter f n ≡ false) ⊎ ((is_parameter f n ≡ false) → ⊥)
        → IsReachedThrough f (passes_by f n) place.block ⊎ (IsReachedThrough f (passes_by f n) place.block → ⊥)
        → (is_named_in n place.behind ≡ false) ⊎ ((is_named_in n place.behind ≡ false) → ⊥)
        → IsUnset f n place ⊎ (IsUnset f n place → ⊥)
    by_cases (inl p) (inl r) (inl b) = inl (record { parameter = p; path = r; behind = b })
    by_cases (inr n) r b = inr (λ u. n u.parameter)
    by_cases (inl p) (inr n) b = inr (λ u. n u.path)
    by_cases (inl p) (inl r) (inr n) = inr (λ u. n u.behind)

pub read_or_not : (r : Read) → IsUnsetRead r ⊎ (IsUnsetRead r → ⊥)
read_or_not r = unset_or_not r.0 r.1.value r.1.place

-- of a phi or a label
pub broken_or_not : (s : Subject) → IsBroken s ⊎ (IsBroken s → ⊥)
broken_or_not (OfPhi f b p) =
    by_cases (true_or_not (lists_twice p.ty.ty p.incoming)) (path_or_not f any_block b) (false_or_not (lists_predecessors f b p))
  where
    by_cases : (lists_twice p.ty.ty p.incoming ≡ true) ⊎ ((lists_twice p.ty.ty p.incoming ≡ true) → ⊥)
        → IsReachedThrough f any_block b ⊎ (IsReachedThrough f any_block b → ⊥)
        → (lists_predecessors f b p ≡ false) ⊎ ((lists_predecessors f b p ≡ false) → ⊥)
        → IsBroken (OfPhi f b p) ⊎ (IsBroken (OfPhi f b p) → ⊥)
    by_cases (inl t) r l = inl (inl t)
    by_cases (inr n) (inl r) (inl l) = inl (inr (r, l))
    by_cases (inr n) (inr none) l = inr (λ k. neither n (λ h. none h.0) k)
    by_cases (inr n) (inl r) (inr none) = inr (λ k. neither n (λ h. none h.1) k)
broken_or_not (OfLabel f l) = true_or_not (names_block f 0 l.name)
