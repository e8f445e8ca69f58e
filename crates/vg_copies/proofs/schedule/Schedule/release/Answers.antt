-- The move into the place is in the table, and some move waits to read the place.
use Rattle.std.proofs.Common.{rules, ◌≡◌, ◌<◌, Some, arith, length, slice_index}
use Rattle.std.proofs.lemmas.List.{get_or_read}
use Rattle.vg_copies.specs.Schedule.{writer}
use Rattle.vg_copies.proofs.schedule.Schedule.release.Goals as goal

pub index_mut-requires : goal.index_mut-requires
index_mut-requires c =
    let s = c.args.self.now in
    let found : writer s.saved s.numbers c.args.place ≡ Some c.in_ok-writer.writer = search rules in
    let within : c.in_ok-writer.writer < length s.readers.items = (c.requires c.in_ok-writer.writer found).0 in
    search rules

pub overflow_sub-index_mut : goal.overflow_sub-index_mut
overflow_sub-index_mut c =
    let s = c.args.self.now in
    let found : writer s.saved s.numbers c.args.place ≡ Some c.in_ok-writer.writer = search rules in
    let within : c.in_ok-writer.writer < length s.readers.items = (c.requires c.in_ok-writer.writer found).0 in
    let some : 0 < slice_index s.readers.items c.in_ok-writer.writer = (c.requires c.in_ok-writer.writer found).1 in
    let same = get_or_read s.readers.items c.in_ok-writer.writer c.index_mut.result.now within c.index_mut.ensures.value 0 in
    omega arith
