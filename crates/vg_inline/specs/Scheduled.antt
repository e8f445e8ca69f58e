-- Bodies of functions of which some are lacking, since nothing uses them any more, or nothing does yet.
use Rattle.std.specs.Prelude.{◌≡◌, ◌⊎◌, List, length, Option, None}
use Rattle.vg_ast.specs.declared.item.Item.{Item}
use Rattle.vg_names.specs.Definition.{Text}
use Rattle.vg_names.specs.Worked.{IsWorked}
use Rattle.vg_whole.specs.Whole.{Constants}
use Rattle.vg_inline.specs.declared.keep.Keep.{Keep}
use Rattle.vg_inline.specs.declared.kept.Kept.{Kept}
use Rattle.vg_inline.specs.Types.{Aliases}
use Rattle.vg_inline.specs.Inline.{body_step, bodies_of}
use Rattle.vg_inline.specs.Kept.{keeping_as}
use Rattle.vg_inline.specs.Context.{bodies_as}

-- nothing is kept, or all that is to be
abbrev pub IsKeptOf : {X : Type 0} → Option X → Option X → Type 0
IsKeptOf a b = (a ≡ None) ⊎ (a ≡ b)

-- of each function nothing is kept, or its body; the list has one for each item
pub record SomeBodies (keep : Keep) (all : List Item) (constants : Constants) (aliases : Aliases) (list : List (Option Kept)) : Type 0 where
  pub one_each : length list ≡ length all
  pub kept : (text : Text) → IsKeptOf (bodies_as keep all list text) (bodies_of (keeping_as keep) all constants aliases text)

-- each body is what its function's step makes of those that it calls
abbrev pub AreWorked : Keep → List Item → Constants → Aliases → Type 0
AreWorked keep all constants aliases = IsWorked all (body_step (keeping_as keep) all constants aliases) (bodies_of (keeping_as keep) all constants aliases)
