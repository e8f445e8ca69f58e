use Rattle.vg_form.proofs.FormTyping.{is_isa-parts_of}
use Rattle.vg_form.proofs.build.isa_of_form.Goals as goal

pub new-requires : goal.new-requires
new-requires c = rw c.in_ok-parts.ensures (is_isa-parts_of c.args.form.now c.requires.fit c.requires.few)
