-- That initialisers are read exactly.
use Rattle.std.specs.Prelude.{ℕ, ◌+◌, max, false, []}
use Rattle.vg_ir.specs.declared.initializer.Initializer.{Initializer}
use Rattle.vg_ir.specs.Shape.{integer_width}
use Rattle.vg_irparse.specs.Concrete.{TypeTree, InitialTree, simple, elements, fields, MoreInitials, no_more_initial, one_more_initial}
use Rattle.vg_irparse.specs.Grammar.{is_initial_at}
use Rattle.vg_irparse.specs.Spelling.{spelled_initial}
use Rattle.vg_irparse.specs.Tree as tree
use Rattle.vg_irparse.specs.ExactType.{nesting}
use Rattle.vg_irread.specs.Exact.{Spelling, IsExact}
use Rattle.vg_irglobal.specs.ReadingInitial.{initial_at, initial_kinds}

-- how many brackets of initialisers stand in one another
abbrev mutual
  pub depth : InitialTree → ℕ
  depth (simple value) = 0
  depth (elements opening t i more closing) = max (depth i) (depth_more more) + 1
  depth (fields opening t i more closing) = max (depth i) (depth_more more) + 1

  pub depth_more : MoreInitials → ℕ
  depth_more no_more_initial = 0
  depth_more (one_more_initial comma t i more) = max (depth i) (depth_more more)

-- how many brackets of a type in an initialiser stand in one another
abbrev mutual
  pub type_depth : InitialTree → ℕ
  type_depth (simple value) = 0
  type_depth (elements opening t i more closing) = max (max (nesting t) (type_depth i)) (type_depth_more more)
  type_depth (fields opening t i more closing) = max (max (nesting t) (type_depth i)) (type_depth_more more)

  pub type_depth_more : MoreInitials → ℕ
  type_depth_more no_more_initial = 0
  type_depth_more (one_more_initial comma t i more) = max (max (nesting t) (type_depth i)) (type_depth_more more)

-- initialisers at a type, as they are spelled
abbrev pub an_initial : TypeTree → Spelling InitialTree Initializer
an_initial t = record { grammar = is_initial_at t; spelled = spelled_initial; means = tree.initial_of; nests = λ i. max (depth i) (type_depth i) }

-- an initialiser at each type
abbrev pub InitialsAreExact : Type 0
InitialsAreExact = (t : TypeTree) → IsExact (an_initial t) initial_kinds false [] (initial_at (integer_width (tree.type_of t)))
