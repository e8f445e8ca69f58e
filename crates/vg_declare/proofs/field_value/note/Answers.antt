use Rattle.std.proofs.Common.{ap, not, ◌∙◌}
use Rattle.vg_names.specs.Definition.{Text, is_among}
use Rattle.vg_declare.specs.Named.{texts_in}
use Rattle.vg_declare.proofs.EncodingLemmas.{contains_text}
use Rattle.vg_declare.proofs.field_value.note.Goals as goal

pub returns-clause-added : goal.returns-clause-added
returns-clause-added c =
    c.in_ok-added.ensures.added
    ∙ ap not (contains_text c.as_slice.result.now c.args.named.now.keys ∙ ap (λ (text : Text). is_among text (texts_in c.args.named.now)) c.as_slice.ensures)
