use Rattle.std.proofs.Common.{◌≡◌, length}
use Rattle.std.specs.Str.{bytes_eq}
use Rattle.vg_form.proofs.naming.is_named.Given as goal

-- what is left of both decides
abbrev pub invariant-loop-character : goal.invariant-loop-character
invariant-loop-character l = bytes_eq l.left l.right ≡ bytes_eq l.characters l.text

abbrev pub decreases-loop-character : goal.decreases-loop-character
decreases-loop-character l = length l.left
