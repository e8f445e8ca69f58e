-- When each choice comes, and the same choice by a walk from the youngest writer to the oldest.
use Rattle.std.proofs.Common.{◌≡◌, ℕ, zero, suc, ◌<◌, length, get_or, Bool, true, false, refl, ap, sym, subst, ◌∙◌, List, [], ◌∷◌, ◌++◌, reverse, Option, Some, None, ◌⊎◌, ◌↔◌, inl, inr, IsSomeAnd, All, find, cond, if◌then◌else◌, arith}
use Rattle.std.proofs.lemmas.List.{reverse-append}
use Rattle.std.specs.Option.{option_map_or}
use Rattle.vg_bits.specs.BitValue.{BitValue}
use Rattle.vg_hazard.specs.declared.writer.Writer.{Writer}
use Rattle.vg_hazard.specs.declared.choice.Choice.TheVariants.{Take, Register, Wait}
use Rattle.vg_hazard.specs.Choosing.{may_write, taken, given_by, deciding, choice_of, choice_down, IsExact}

-- the walk decides by the first that may write
walk_decides : (forward : Bool) (down : List Writer) → choice_down forward down ≡ option_map_or (given_by forward) (find may_write down) Register
walk_decides forward [] = refl
walk_decides forward (w ∷ older) =
    elim (may_write w) as (λ b. (if b then given_by forward w else choice_down forward older) ≡ option_map_or (given_by forward) (cond b (Some w) (find may_write older)) Register)
    [ true ↦ refl | false ↦ walk_decides forward older ]

-- the choice is that of the walk from the youngest writer to the oldest
pub youngest_first : (forward : Bool) (writers : List Writer) → choice_of forward writers ≡ choice_down forward (reverse writers)
youngest_first forward writers = sym (walk_decides forward (reverse writers))

-- a guard that is false is passed over
passed : (guard : Option Bool) → option_map_or (λ (g : Bool). g) guard true ≡ false → guard ≡ Some false
passed None e = grind arith
passed (Some true) e = grind arith
passed (Some false) e = refl

-- the writer that decides may write
decider_may_write : (down : List Writer) (w : Writer) → find may_write down ≡ Some w → may_write w ≡ true
decider_may_write [] w e = grind arith
decider_may_write (x ∷ down) w e = go (decider_may_write down w) (may_write x) refl
  where
    go : (find may_write down ≡ Some w → may_write w ≡ true) → (b : Bool) → may_write x ≡ b → may_write w ≡ true
    go below true h = grind arith
    go below false h = grind arith

-- a search over two lists
find-append : {X : Type 0} (p : X → Bool) (xs ys : List X) → (find p (xs ++ ys) ≡ None) ↔ ((find p xs ≡ None) × (find p ys ≡ None))
find-append p [] ys = (λ e. (refl, e), λ e. e.1)
find-append p (x ∷ xs) ys =
    elim (p x) as (λ b. (cond b (Some x) (find p (xs ++ ys)) ≡ None) ↔ ((cond b (Some x) (find p xs) ≡ None) × (find p ys ≡ None)))
    [ true ↦ (λ e. absurd (grind arith), λ e. absurd (grind arith)) | false ↦ find-append p xs ys ]

-- where none decides, each guard is false
none_decides : (writers : List Writer) → deciding writers ≡ None → All (λ w. w.guard ≡ Some false) writers
none_decides [] e k d lt = absurd (omega arith)
none_decides (x ∷ writers) e k d lt =
    let parts : (deciding writers ≡ None) × (find may_write (x ∷ []) ≡ None) = (find-append may_write (reverse writers) (x ∷ [])).0 (rw (reverse-append (x ∷ []) writers) at e) in
    go (none_decides writers parts.0) (may_write x) refl parts.1 k lt
  where
    go : All (λ w. w.guard ≡ Some false) writers → (b : Bool) → may_write x ≡ b → find may_write (x ∷ []) ≡ None → (j : ℕ) → j < length (x ∷ writers) → (get_or (x ∷ writers) j d).guard ≡ Some false
    go below true h one j less = absurd (grind arith)
    go below false h one zero less = passed x.guard h
    go below false h one (suc j) less = below j d (omega arith)

-- where each guard is false, none decides
all_pass : (writers : List Writer) → All (λ w. w.guard ≡ Some false) writers → deciding writers ≡ None
all_pass [] h = refl
all_pass (x ∷ writers) h =
    rw (reverse-append (x ∷ []) writers) ((find-append may_write (reverse writers) (x ∷ [])).1
    (all_pass writers (λ k d lt. h (suc k) d (omega arith)), (let e : x.guard ≡ Some false = h 0 x (omega arith) in rw e refl)))

-- what a writer gives that may write
gives_no_register : (forward : Bool) (guard : Option Bool) (value : Option BitValue) → taken forward guard value ≡ Register → ⊥
gives_no_register true (Some true) (Some v) e = grind arith
gives_no_register true (Some true) None e = grind arith
gives_no_register true (Some false) value e = grind arith
gives_no_register true None value e = grind arith
gives_no_register false guard value e = grind arith

takes : (forward : Bool) (guard : Option Bool) (value : Option BitValue) (v : BitValue) → (taken forward guard value ≡ Take v) ↔ ((forward ≡ true) × (guard ≡ Some true) × (value ≡ Some v))
takes true (Some true) (Some x) v = (λ e. (refl, refl, grind arith), λ e. (let same : x ≡ v = grind arith in ap Take same))
takes true (Some true) None v = (λ e. absurd (grind arith), λ e. absurd (grind arith))
takes true (Some false) value v = (λ e. absurd (grind arith), λ e. absurd (grind arith))
takes true None value v = (λ e. absurd (grind arith), λ e. absurd (grind arith))
takes false guard value v = (λ e. absurd (grind arith), λ e. absurd (grind arith))

waits : (forward : Bool) (guard : Option Bool) (value : Option BitValue) → option_map_or (λ (g : Bool). g) guard true ≡ true
    → (taken forward guard value ≡ Wait) ↔ ((guard ≡ None) ⊎ ((guard ≡ Some true) × ((value ≡ None) ⊎ (forward ≡ false))))
waits true (Some true) (Some x) m = (λ e. absurd (grind arith), λ e. absurd (grind arith))
waits true (Some true) None m = (λ e. inr (refl, inl refl), λ e. refl)
waits true (Some false) value m = absurd (grind arith)
waits true None value m = (λ e. inl refl, λ e. refl)
waits false (Some true) value m = (λ e. inr (refl, inr refl), λ e. refl)
waits false (Some false) value m = absurd (grind arith)
waits false None value m = (λ e. inl refl, λ e. refl)

-- what holds of the writer that decides
at_decider : (o p : Option Writer) (P : Writer → Type 0) → o ≡ p → IsSomeAnd o P → IsSomeAnd p P
at_decider o p P e h = let F : Option Writer → Type 0 = λ q. IsSomeAnd q P in subst F e h

-- when each choice comes
pub choice_exact : (forward : Bool) (writers : List Writer) → IsExact forward writers (choice_of forward writers)
choice_exact forward writers = go (deciding writers) refl
  where
    go : (o : Option Writer) → deciding writers ≡ o → IsExact forward writers (choice_of forward writers)
    go None e =
        let c : choice_of forward writers ≡ Register = ap (λ o. option_map_or (given_by forward) o Register) e in
        record {
          register = (λ h. none_decides writers e, λ h. c);
          take = λ v. (λ h. absurd (cc), λ h. absurd (at_decider (deciding writers) None _ e h.1));
          wait = (λ h. absurd (cc), λ h. absurd (at_decider (deciding writers) None _ e h));
        }
    go (Some w) e =
        let c : choice_of forward writers ≡ taken forward w.guard w.value = ap (λ o. option_map_or (given_by forward) o Register) e in
        let m : may_write w ≡ true = decider_may_write (reverse writers) w e in
        record {
          register = (λ h. absurd (gives_no_register forward w.guard w.value (sym c ∙ h)), λ h. absurd (let n : deciding writers ≡ None = all_pass writers h in cc));
          take = λ v. (
            λ h. (let t : (forward ≡ true) × (w.guard ≡ Some true) × (w.value ≡ Some v) = (takes forward w.guard w.value v).0 (sym c ∙ h) in (t.0, at_decider (Some w) (deciding writers) _ (sym e) (t.1, t.2))),
            λ h. (let t : (w.guard ≡ Some true) × (w.value ≡ Some v) = at_decider (deciding writers) (Some w) _ e h.1 in c ∙ (takes forward w.guard w.value v).1 (h.0, t.0, t.1)),
          );
          wait = (
            λ h. at_decider (Some w) (deciding writers) _ (sym e) ((waits forward w.guard w.value m).0 (sym c ∙ h)),
            λ h. c ∙ (waits forward w.guard w.value m).1 (at_decider (deciding writers) (Some w) _ e h),
          );
        }
