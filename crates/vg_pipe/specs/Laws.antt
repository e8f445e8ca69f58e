-- What holds of every accepted description whose parts come in time.
use Rattle.std.specs.Prelude.{◌≡◌, Some, IsTrue}
use Rattle.vg_isa.specs.declared.isa.Parts.{Parts}
use Rattle.vg_isa.specs.declared.abi.Micro.{Micro}
use Rattle.vg_isa.specs.Accepted.{is_isa}
use Rattle.vg_place.specs.Unplaced.{IsInOrder}

-- An accepted description with a micro architecture, none of whose parts comes too late: for these `stages` of
-- vg_place gives the plan.
pub record IsPlanned (d : Parts) (micro : Micro) : Type 0 where
  pub accepted : IsTrue (is_isa d)
  pub has : d.micro ≡ Some micro
  pub in_order : IsInOrder d micro
