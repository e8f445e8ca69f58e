use Rattle.std.specs.Prelude.{string_bytes}
use Rattle.vg_processor.proofs.LoopLemmas.{encoded_more}
use Rattle.vg_processor.proofs.text.text_of.Goals as goal

pub loop-character-preserved : goal.loop-character-preserved
loop-character-preserved c =
    encoded_more c.args.characters.now c.loop-character.character-index c.character-item.result (string_bytes c.loop-character.text) (string_bytes c.push.new.self)
    c.loop-character.invariant c.loop-character-test.true c.character-item.is c.in_ok-push.ensures.bytes
