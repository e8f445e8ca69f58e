use Rattle.std.proofs.Common.{◌≡◌, ◌++◌, flat_map, take}
use Rattle.vg_image.specs.Lines.{ended_line}
use Rattle.vg_image.specs.Spelling.{code_text}
use Rattle.vg_image.proofs.writer.push_code.Given as goal

abbrev pub invariant-loop-word : goal.invariant-loop-word
invariant-loop-word l = l.out.items ≡ l.fn.out.items ++ flat_map (λ word. ended_line (code_text l.isa word)) (take l.word-index l.words)
