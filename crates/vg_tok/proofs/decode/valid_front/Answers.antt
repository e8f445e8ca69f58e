use Rattle.std.proofs.Common.{ap, ◌∙◌, take}
use Rattle.vg_tok.proofs.Decoding.{IsValidFront-whole, IsValidFront-up_to}
use Rattle.vg_tok.proofs.decode.valid_front.Goals as goal

pub returns-in-Ok : goal.returns-in-Ok
returns-in-Ok c = IsValidFront-whole _ _ c.in-Ok.ensures.cases.0 c.in-Ok.ensures.cases.1

pub returns-in-Ok-from_utf8 : goal.returns-in-Ok-from_utf8
returns-in-Ok-from_utf8 c = IsValidFront-up_to _ _ _ c.in-Err.ensures.cases.1
    (c.in-Ok-from_utf8.ensures.cases.0 ∙ ap (λ n. take n c.args.bytes.now) c.valid_up_to.ensures)
