use Rattle.std.proofs.Common.{◌≡◌, IfOk, rules}
use Rattle.std.specs.Str.{encode_utf8_all}
use Rattle.std.proofs.lemmas.Result.{IfOk-weaker}
use Rattle.vg_tok.proofs.Decoding.{scalars-from_encodes}
use Rattle.vg_tok.proofs.decode.characters_of.Goals as goal

pub returns-clause-scalars : goal.returns-clause-scalars
returns-clause-scalars c =
    let whole : IfOk c.collect.result (λ v. encode_utf8_all v.items ≡ c.args.text.now) = search rules in
    IfOk-weaker c.collect.result _ _ (λ v e. scalars-from_encodes v.items c.args.text.now c.utf8.text e) whole
