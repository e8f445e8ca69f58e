use Rattle.std.proofs.Common.{sym, subst, ◌≡◌, ℕ, List}
use Rattle.vg_mem.specs.Pages.{AreDistinct, IsIndexed, numbers_of}
use Rattle.std.specs.Prelude.{slice_set}
use Rattle.vg_mem.proofs.Writes.{bytes_of-written, numbers_of-slice_set}
use Rattle.vg_mem.proofs.pages.Pages.write.Goals as goal

pub invariant_of-self : goal.invariant_of-self
invariant_of-self c =
    let numbers : numbers_of (slice_set c.args.self.now.pages.items c.args.place c.write.new.self) ≡ numbers_of c.args.self.now.pages.items =
    numbers_of-slice_set c.args.self.now.pages.items c.args.place c.index_mut.result.now c.write.new.self c.index_mut.ensures.value c.write.ensures.number in
    record {
      indexed = subst (λ (ns : List ℕ). IsIndexed ns c.args.self.now.places) (sym numbers) c.args.self.now.indexed;
      distinct = subst AreDistinct (sym numbers) c.args.self.now.distinct;
    }

pub returns-clause-bytes : goal.returns-clause-bytes
returns-clause-bytes c = λ number space there room.
    bytes_of-written c.args.self.now.pages.items c.args.place number space c.args.offset c.args.bytes c.args.value c.index_mut.result.now c.write.new.self
    there c.requires.place c.index_mut.ensures.value c.write.ensures.number c.write.ensures.bytes c.requires.within room

pub returns-clause-numbers : goal.returns-clause-numbers
returns-clause-numbers c = numbers_of-slice_set c.args.self.now.pages.items c.args.place c.index_mut.result.now c.write.new.self c.index_mut.ensures.value c.write.ensures.number
