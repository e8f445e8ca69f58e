-- That globals are read exactly.
use Rattle.std.specs.Prelude.{max, false, ◌∷◌, []}
use Rattle.vg_ir.specs.declared.global.Global.{Global}
use Rattle.vg_irparse.specs.ConcreteModule.{GlobalTree}
use Rattle.vg_irparse.specs.GrammarModule.{is_global_item}
use Rattle.vg_irparse.specs.SpellingModule.{spelled_global}
use Rattle.vg_irparse.specs.TreeModule.{global_of}
use Rattle.vg_irparse.specs.ExactType.{nesting}
use Rattle.vg_irread.specs.Kinds.{global}
use Rattle.vg_irread.specs.Exact.{Spelling, IsExact}
use Rattle.vg_irglobal.specs.ReadingInitial.{comma}
use Rattle.vg_irglobal.specs.ExactInitial.{depth, type_depth}
use Rattle.vg_irglobal.specs.ReadingGlobal.{global_item_at}

-- globals, as they are spelled
abbrev pub a_global : Spelling GlobalTree Global
a_global = record {
  grammar = is_global_item;
  spelled = spelled_global;
  means = global_of;
  nests = λ g. max (nesting g.ty) (max (depth g.initial) (type_depth g.initial));
}

-- behind a global no comma follows
abbrev pub GlobalsAreExact : Type 0
GlobalsAreExact = IsExact a_global (global ∷ []) false comma global_item_at
