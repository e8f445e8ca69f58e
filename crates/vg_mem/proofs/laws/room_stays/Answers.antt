use Rattle.vg_mem.proofs.Rooms.{after_store_keeps, has_pages_kept, room_within, with_room_has, with_room_keeps}
use Rattle.vg_mem.proofs.laws.room_stays.Goals as goal

pub returns-clause-made : goal.returns-clause-made
returns-clause-made c = with_room_has

pub returns-clause-room : goal.returns-clause-room
returns-clause-room c = with_room_keeps

pub returns-clause-store : goal.returns-clause-store
returns-clause-store c = after_store_keeps

pub returns-clause-pages : goal.returns-clause-pages
returns-clause-pages c = has_pages_kept

pub returns-clause-access : goal.returns-clause-access
returns-clause-access c = room_within
