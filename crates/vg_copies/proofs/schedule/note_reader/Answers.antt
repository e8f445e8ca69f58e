-- The move into the place has a count, which fits.
use Rattle.std.proofs.Common.{rules, ◌≡◌, ◌<◌, ◌+◌, ◌^◌, Some, arith, length}
use Rattle.std.specs.Prelude.{slice_index}
use Rattle.std.proofs.lemmas.List.{get_or_read}
use Rattle.indexmap.specs.IndexMap.{get_by}
use Rattle.vg_goal.specs.Places.{same_place}
use Rattle.vg_copies.proofs.schedule.note_reader.Goals as goal

pub index_mut-requires : goal.index_mut-requires
index_mut-requires c =
    let found : get_by (same_place c.args.place) c.args.numbers.now ≡ Some c.in-Some.writer = search rules in
    let within : c.in-Some.writer < length c.args.readers.now.items = (c.requires c.in-Some.writer found).0 in
    search rules

pub overflow_add-index_mut : goal.overflow_add-index_mut
overflow_add-index_mut c =
    let found : get_by (same_place c.args.place) c.args.numbers.now ≡ Some c.in-Some.writer = search rules in
    let within : c.in-Some.writer < length c.args.readers.now.items = (c.requires c.in-Some.writer found).0 in
    let fits : slice_index c.args.readers.now.items c.in-Some.writer + 1 < 2 ^ 64 = (c.requires c.in-Some.writer found).1 in
    let same = get_or_read c.args.readers.now.items c.in-Some.writer c.index_mut.result.now within c.index_mut.ensures.value 0 in
    omega arith
