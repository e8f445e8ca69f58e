use Rattle.vg_form.proofs.FormWrites.{is_memory_free-parts_of}
use Rattle.vg_form.proofs.making.isa_in.Goals as goal

pub returns-clause-memory_free : goal.returns-clause-memory_free
returns-clause-memory_free c = rw c.in_ok-isa.ensures (is_memory_free-parts_of c.in_ok-form.form)
