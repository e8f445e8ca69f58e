use Rattle.std.proofs.Common.{◌/◌, sym, []}
use Rattle.vg_mem.specs.Pages.{bytes_of}
use Rattle.vg_mem.proofs.Scans.{byte_there}
use Rattle.vg_mem.proofs.Writes.{page_there, page_missing}
use Rattle.vg_mem.proofs.pages.Pages.byte.Goals as goal

pub returns-in-Some : goal.returns-in-Some
returns-in-Some c =
    byte_there (bytes_of c.args.self.now.pages.items) c.args.at c.index.result.now.bytes
    (page_there c.args.self.now.pages.items c.in-Some.place (c.args.at / 256) c.index.result.now (sym c.in-Some.ensures.value) c.in-Some.ensures.within c.index.ensures)

pub returns-in-None : goal.returns-in-None
returns-in-None c = byte_there (bytes_of c.args.self.now.pages.items) c.args.at [] (page_missing c.args.self.now.pages.items (c.args.at / 256) (sym c.in-None.ensures.value))
