use Rattle.std.proofs.Common.{sym, ◌∙◌}
use Rattle.vg_mem.specs.Pages.{bytes_of}
use Rattle.vg_mem.proofs.Writes.{loaded_in_page, page_there}
use Rattle.vg_mem.proofs.pages.Pages.read.Goals as goal

pub returns-clause-value : goal.returns-clause-value
returns-clause-value c = λ number space there room.
    c.read.ensures.value
    ∙ sym (loaded_in_page (bytes_of c.args.self.now.pages.items) number c.index.result.now.bytes space c.args.offset c.args.bytes
    (page_there c.args.self.now.pages.items c.args.place number c.index.result.now there c.requires.place c.index.ensures) c.requires.within room)
