-- The element of a number in lists that stand one behind the other.
use Rattle.std.specs.Prelude.{ℕ, zero, suc, List, [], ◌∷◌}
use Rattle.vg_ir.specs.declared.spot.Spot.{Spot}
use Rattle.vg_ircheck.specs.declared.sought.Sought.{Sought}
use Rattle.vg_ircheck.specs.declared.sought.Sought.TheVariants.{Found, Left}

-- the place of a number among some, or the number of it among those behind them
abbrev pub sought : ℕ → List Spot → Sought
sought n [] = Left n
sought zero (s ∷ ss) = Found s
sought (suc n) (s ∷ ss) = sought n ss
