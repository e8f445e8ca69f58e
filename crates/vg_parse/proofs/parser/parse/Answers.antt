-- The pieces are read as a description exactly where they are one.
use Rattle.vg_parse.proofs.Readers.{readers}
use Rattle.vg_parse.proofs.Answer.{tree, fault, accepts, refuses}
use Rattle.vg_parse.proofs.parser.parse.Goals as goal

pub returns : goal.returns
returns c =
    let t = tree readers c.args.t.now c.read.result c.read.ensures.tree in
    let f = fault readers c.args.t.now c.read.result c.read.ensures.fault in record {
      tree = t;
      fault = f;
      accepts = accepts readers c.args.t.now c.read.result t f;
      refuses = refuses readers c.args.t.now c.read.result t f;
    }
