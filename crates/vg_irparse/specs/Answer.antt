-- What reading gives: something; or the place where the lexemes leave the grammar; or nothing, where parts stand too deep in
-- one another.
use Rattle.std.specs.Prelude.{◌≡◌, ℕ, Result, Ok, Err}
use Rattle.vg_irparse.specs.declared.role.Wanted.{Wanted}
use Rattle.vg_irparse.specs.declared.stop.Stop.{Stop}
use Rattle.vg_irparse.specs.declared.stop.Stop.TheVariants as stops

pub data Answer (X : Type 0) : Type 0 where
  reads : X → Answer X
  -- so many lexemes are left, and this is wanted of the first of them
  leaves : ℕ → Wanted → Answer X
  too_deep : Answer X

infixl 10 ◌>>=◌
abbrev pub ◌>>=◌ : {A B : Type 0} → Answer A → (A → Answer B) → Answer B
(reads x) >>= f = f x
(leaves n w) >>= f = leaves n w
too_deep >>= f = too_deep

-- what a function returned, seen by view, is what reading gives, unless memory ran out
abbrev pub Fails : {Y : Type 0} → Stop → Answer Y → Type 0
Fails stops.OutOfMemory answer = Unit {0}
Fails (stops.Leaves left wanted) answer = answer ≡ leaves left wanted

abbrev pub Gives : {X Y : Type 0} → (X → Y) → Result X Stop → Answer Y → Type 0
Gives view (Ok x) answer = answer ≡ reads (view x)
Gives view (Err e) answer = Fails e answer
