use Rattle.std.proofs.Common.{◌≡◌, ap, ◌∙◌, sym, subst}
use Rattle.std.specs.Option.{option_map}
use Rattle.vg_isa.specs.declared.ids.InstrId.{InstrId}
use Rattle.vg_format.specs.Matching.{Decodes}
use Rattle.vg_format.proofs.First.{first_decodes}
use Rattle.vg_decode.specs.Decoding.{finds, found_in}
use Rattle.vg_decode.proofs.decoder.Decoder.find.Goals as goal

found : (c : goal.After-find_in) → option_map (λ (i : InstrId). i.0) c.find_in.result ≡ finds c.args.self.now c.args.word.number
unfolding finds
found c = c.find_in.ensures ∙ ap (found_in c.args.self.now.tree) c.value.ensures.value

pub returns-clause-finds : goal.returns-clause-finds
returns-clause-finds c = found c

pub returns-clause-decodes : goal.returns-clause-decodes
returns-clause-decodes c d one is small = subst (Decodes d c.args.word.number) (sym (found c ∙ is c.args.word.number)) (first_decodes d c.args.word.number (one c.args.word.number small))
