-- A step of a reader that gave something.
use Rattle.std.proofs.Common.{◌≡◌, Option, Some, None, refl}
use Rattle.std.proofs.lemmas.Option.{none-some}
use Rattle.vg_image.specs.Reader.{◌>>=◌}

-- what a step gave, and what the steps behind it gave
pub bind_elim : {A B : Type 0} (o : Option A) (f : A → Option B) (y : B) (P : Type 0) → (o >>= f) ≡ Some y → ((x : A) → o ≡ Some x → f x ≡ Some y → P) → P
bind_elim None f y P is k = absurd (none-some y is)
bind_elim (Some x) f y P is k = k x refl is
