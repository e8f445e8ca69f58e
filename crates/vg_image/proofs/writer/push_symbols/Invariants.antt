use Rattle.std.proofs.Common.{◌≡◌, ◌++◌, flat_map, take}
use Rattle.vg_image.specs.declared.image.Symbol.{Symbol}
use Rattle.vg_image.specs.Lines.{ended_line}
use Rattle.vg_image.specs.Spelling.{symbol_text}
use Rattle.vg_image.proofs.writer.push_symbols.Given as goal

abbrev pub invariant-loop-symbol : goal.invariant-loop-symbol
invariant-loop-symbol l = l.out.items ≡ l.fn.out.items ++ flat_map (λ (symbol : Symbol). ended_line (symbol_text l.isa symbol)) (take l.symbol-index l.symbols)
