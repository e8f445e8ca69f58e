-- That terminators are read exactly.
use Rattle.std.specs.Prelude.{ℕ, false, max, List, [], ◌∷◌, codes, map}
use Rattle.vg_ir.specs.declared.terminator.Terminator.{Terminator}
use Rattle.vg_ir.specs.declared.terminator.Case.{Case}
use Rattle.vg_irparse.specs.GrammarInstruction.{is_case, is_terminator}
use Rattle.vg_irparse.specs.SpellingInstruction.{spelled_case, spelled_terminator}
use Rattle.vg_irparse.specs.ConcreteInstruction.{CaseTree, TerminatorTree, jump, branch, switch, return, return_void, unreachable}
use Rattle.vg_irparse.specs.TreeInstruction.{case_of, terminator_of}
use Rattle.vg_irparse.specs.ExactType.{nesting}
use Rattle.vg_irread.specs.Kinds.{Kind, words}
use Rattle.vg_irread.specs.Exact.{Spelling, greatest, IsExact}
use Rattle.vg_irread.specs.ReadingTerminator.{terminator_at}

-- cases of a `switch`, as they are spelled
abbrev pub a_case : Spelling CaseTree Case
a_case = record { grammar = is_case; spelled = spelled_case; means = case_of; nests = λ c. nesting c.ty }

-- how many brackets stand in one another in the types of a terminator
abbrev pub terminator_nesting : TerminatorTree → ℕ
terminator_nesting (jump at target) = 0
terminator_nesting (branch at bit condition comma then second_comma otherwise) = 0
terminator_nesting (switch at value comma otherwise opening cases closing) = max (nesting value.ty) (greatest (map (λ (c : CaseTree). nesting c.ty) cases))
terminator_nesting (return at value) = nesting value.ty
terminator_nesting (return_void at void) = 0
terminator_nesting (unreachable at) = 0

-- terminators, as they are spelled
abbrev pub a_terminator : Spelling TerminatorTree Terminator
a_terminator = record { grammar = is_terminator; spelled = spelled_terminator; means = terminator_of; nests = terminator_nesting }

-- what a terminator begins with
abbrev pub terminator_kinds : List Kind
terminator_kinds = words (codes "br" ∷ []) ∷ words (codes "switch" ∷ []) ∷ words (codes "ret" ∷ []) ∷ words (codes "unreachable" ∷ []) ∷ []

abbrev pub TerminatorsAreExact : Type 0
TerminatorsAreExact = IsExact a_terminator terminator_kinds false [] terminator_at
