-- The set got the key.
use Rattle.std.proofs.Common.{refl}
use Rattle.vg_names.proofs.TableLemmas.{adds_name}
use Rattle.vg_names.proofs.table.note.Goals as goal

pub returns : goal.returns
returns c = adds_name c.args.inner.now.keys c.insert.new.self.keys (c.args.scope, c.as_slice.result) c.args.scope c.args.name.now.text c.in_ok-insert.ensures.keys c.as_slice.ensures refl
