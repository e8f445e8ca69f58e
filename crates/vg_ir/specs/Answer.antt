-- What a part of a step gives: a value, one of the ten causes why the step is undefined, or nothing.
use Rattle.std.specs.Prelude.{Option, Some, None}

-- why a step is undefined
pub data Cause : Type 0 where
  -- udiv or urem by 0
  UnsignedByZero : Cause
  -- sdiv or srem by 0
  SignedByZero : Cause
  -- sdiv or srem of the least value by -1
  SignedOverflow : Cause
  -- a shift by the width or more
  ShiftTooFar : Cause
  -- unreachable
  Unreachable : Cause
  -- a load that isn't wholly in one live object
  LoadOutside : Cause
  -- a store that isn't
  StoreOutside : Cause
  -- a load of a byte that isn't set
  LoadUnset : Cause
  -- a load of i1 from a byte above 1
  LoadNoBit : Cause
  -- a store to a constant
  StoreConstant : Cause

-- Lacking: a value is read that isn't set or is no number of the type at which it is read, or a name has no definition
pub data Answer (A : Type 0) : Type 0 where
  Known : A → Answer A
  Wrong : Cause → Answer A
  Lacking : Answer A

infixl 10 ◌>>=◌
-- a part of a step behind another: the first cause, and the first that lacks, counts
abbrev pub ◌>>=◌ : {A B : Type 0} → Answer A → (A → Answer B) → Answer B
(Known x) >>= f = f x
(Wrong c) >>= f = Wrong c
Lacking >>= f = Lacking

-- what is looked up, where it is there
abbrev pub known : {A : Type 0} → Option A → Answer A
known None = Lacking
known (Some x) = Known x
