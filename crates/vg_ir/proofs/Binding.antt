-- A part of a step behind another, and a step behind its parts.
use Rattle.std.proofs.Common.{◌≡◌, Option, Some, None, refl}
use Rattle.vg_ir.specs.Answer.{Cause, Answer, Known, Wrong, Lacking, ◌>>=◌, known}
use Rattle.vg_ir.specs.State.{IrState}
use Rattle.vg_ir.specs.Control.{Outcome, go_on}
use Rattle.vg_ir.specs.Outcomes.{IfNext, IfUndefined, IfKnown, IfWrong}

-- what holds behind each value holds behind the part
pub bind_known : {A B : Type 0} (a : Answer A) (f : A → Answer B) (P : B → Type 0) → ((x : A) → a ≡ Known x → IfKnown (f x) P) → IfKnown (a >>= f) P
bind_known (Known x) f P h = h x refl
bind_known (Wrong c) f P h = tt
bind_known Lacking f P h = tt

-- a cause comes from the part or from what is behind it
pub bind_wrong : {A B : Type 0} (a : Answer A) (f : A → Answer B) (P : Cause → Type 0) → IfWrong a P → ((x : A) → a ≡ Known x → IfWrong (f x) P) → IfWrong (a >>= f) P
bind_wrong (Known x) f P h k = k x refl
bind_wrong (Wrong c) f P h k = h
bind_wrong Lacking f P h k = tt

-- what is looked up has no cause
pub known-wrong : {A : Type 0} (o : Option A) (P : Cause → Type 0) → IfWrong (known o) P
known-wrong None P = tt
known-wrong (Some x) P = tt

-- a state behind a part comes from what is behind it
pub go_on-next : {A : Type 0} (a : Answer A) (f : A → Outcome) (P : IrState → Type 0) → ((x : A) → a ≡ Known x → IfNext (f x) P) → IfNext (go_on a f) P
go_on-next (Known x) f P h = h x refl
go_on-next (Wrong c) f P h = tt
go_on-next Lacking f P h = tt

-- a cause of a step comes from a part or from what is behind it
pub go_on-undefined : {A : Type 0} (a : Answer A) (f : A → Outcome) (P : Cause → Type 0) → IfWrong a P → ((x : A) → a ≡ Known x → IfUndefined (f x) P) → IfUndefined (go_on a f) P
go_on-undefined (Known x) f P h k = k x refl
go_on-undefined (Wrong c) f P h k = h
go_on-undefined Lacking f P h k = tt

-- two parts before a third
pub two_known : {A B C : Type 0} (a : Answer A) (b : Answer B) (f : A → B → Answer C) (P : C → Type 0) → ((x : A) (y : B) → a ≡ Known x → b ≡ Known y → IfKnown (f x y) P) → IfKnown (a >>= λ x. b >>= λ y. f x y) P
two_known (Known x) b f P h = bind_known b (f x) P (λ y e. h x y refl e)
two_known (Wrong c) b f P h = tt
two_known Lacking b f P h = tt

-- two parts before a third, neither of which has a cause
pub two_wrong : {A B C : Type 0} (a : Answer A) (b : Answer B) (f : A → B → Answer C) (P : Cause → Type 0) → IfWrong a P → IfWrong b P → ((x : A) (y : B) → a ≡ Known x → b ≡ Known y → IfWrong (f x y) P) → IfWrong (a >>= λ x. b >>= λ y. f x y) P
two_wrong (Known x) b f P h k g = bind_wrong b (f x) P k (λ y e. g x y refl e)
two_wrong (Wrong c) b f P h k g = h
two_wrong Lacking b f P h k g = tt
