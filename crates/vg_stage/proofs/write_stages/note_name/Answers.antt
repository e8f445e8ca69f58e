-- The name wasn't there.
use Rattle.std.proofs.Common.{sym}
use Rattle.vg_names.proofs.TableLemmas.{number_noted}
use Rattle.vg_stage.proofs.write_stages.note_name.Goals as goal

pub returns : goal.returns
returns c = number_noted c.args.stages.now c.insert.new.self c.args.text c.args.stage (sym c.if-contains_key.ensures) c.in_ok-insert.ensures.updates
