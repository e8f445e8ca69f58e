use Rattle.std.proofs.Common.{refl, map}
use Rattle.vg_top.specs.Words.{word_bytes}
use Rattle.vg_top.proofs.Meeting.{meets_written, meets_lost}
use Rattle.vg_top.proofs.program.vadlgen.Goals as goal

pub returns-in-Ok : goal.returns-in-Ok
returns-in-Ok g c =
    meets_written (map word_bytes c.args.words.now) _ c.in-Ok.answer c.write_answer.result
    c.in-Ok.ensures.told c.in-Ok.ensures.asked c.in-Ok.ensures.whole c.in-Ok.ensures.usage c.in-Ok.ensures.no_form c.in-Ok.ensures.at_once c.in-Ok.ensures.kept_faults c.in-Ok.ensures.same
    c.write_answer.ensures.writes c.write_answer.ensures.read c.write_answer.ensures.unread c.write_answer.ensures.at_once c.write_answer.ensures.kept_faults c.write_answer.ensures.kept_nones

pub returns-in-Err : goal.returns-in-Err
returns-in-Err g c =
    meets_lost (map word_bytes c.args.words.now) _ refl c.in-Err.ensures.asked c.in-Err.ensures.at_once c.in-Err.ensures.kept_faults c.in-Err.ensures.same
