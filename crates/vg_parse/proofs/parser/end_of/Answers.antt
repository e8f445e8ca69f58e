use Rattle.vg_parse.proofs.Reading.{last_end}
use Rattle.vg_parse.proofs.parser.end_of.Goals as goal

pub returns-in-Some : goal.returns-in-Some
returns-in-Some c = last_end c.args.tokens.now c.in-Some.token.now c.in-Some.ensures.value
