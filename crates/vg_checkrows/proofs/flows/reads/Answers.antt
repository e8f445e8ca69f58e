-- The paths are written out; where none is, the definition stands in front of the place, or no edge leads there.
use Rattle.std.proofs.Common.{refl}
use Rattle.vg_ircheck.specs.Flow.{IsReachedThrough, entry, along}
use Rattle.vg_ircheck.specs.Unset.{passes_by}
use Rattle.vg_irrows.specs.Words.{named}
use Rattle.vg_checkrows.specs.Flows.{diamond_function}
use Rattle.vg_checkrows.proofs.flows.reads.Goals as goal

-- over the branch without the definition
abbrev past : IsReachedThrough diamond_function (passes_by diamond_function (named "v")) 3
past = along 2 3 (along 0 2 entry refl refl) refl refl

pub returns-clause-unset : goal.returns-clause-unset
returns-clause-unset c = record { parameter = refl; path = past; behind = refl }

pub returns-clause-before : goal.returns-clause-before
returns-clause-before c = record { parameter = refl; path = along 0 1 entry refl refl; behind = refl }
