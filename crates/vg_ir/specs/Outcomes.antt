-- Words for what a step comes to.
use Rattle.std.specs.Prelude.{Bool, true, false}
use Rattle.vg_ir.specs.Answer.{Cause, Answer, Known, Wrong, Lacking}
use Rattle.vg_ir.specs.State.{IrState}
use Rattle.vg_ir.specs.Control.{Outcome, Next, End, StackFull, Undefined, Unset}

-- no step is made from it
abbrev pub is_over : Outcome → Bool
is_over (Next s) = false
is_over (End given set) = true
is_over StackFull = true
is_over (Undefined c) = true
is_over Unset = true

-- of the state, where the step leads to one
abbrev pub IfNext : Outcome → (IrState → Type 0) → Type 0
IfNext (Next s) P = P s
IfNext (End given set) P = Unit {0}
IfNext StackFull P = Unit {0}
IfNext (Undefined c) P = Unit {0}
IfNext Unset P = Unit {0}

-- of the cause, where the step is undefined
abbrev pub IfUndefined : Outcome → (Cause → Type 0) → Type 0
IfUndefined (Next s) P = Unit {0}
IfUndefined (End given set) P = Unit {0}
IfUndefined StackFull P = Unit {0}
IfUndefined (Undefined c) P = P c
IfUndefined Unset P = Unit {0}

-- of the value of a part of a step, where there is one
abbrev pub IfKnown : {A : Type 0} → Answer A → (A → Type 0) → Type 0
IfKnown (Known x) P = P x
IfKnown (Wrong c) P = Unit {0}
IfKnown Lacking P = Unit {0}

-- of the cause, where a part of a step has no meaning
abbrev pub IfWrong : {A : Type 0} → Answer A → (Cause → Type 0) → Type 0
IfWrong (Known x) P = Unit {0}
IfWrong (Wrong c) P = P c
IfWrong Lacking P = Unit {0}
