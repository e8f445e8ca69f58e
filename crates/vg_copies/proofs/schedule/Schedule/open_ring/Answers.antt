-- The ring is opened at its first move.
use Rattle.std.proofs.Common.{◌≡◌, ◌∷◌, ◌++◌, [], Some, subst, sym, ap, rules}
use Rattle.vg_copies.specs.declared.pending.Pending.{Pending}
use Rattle.vg_copies.specs.Schedule.{Stands}
use Rattle.vg_copies.proofs.Ring.{Stands-opened}
use Rattle.vg_copies.proofs.Steps.{at_read}
use Rattle.vg_copies.proofs.schedule.Schedule.open_ring.Goals as goal

pub follow-requires-clause-sound : goal.follow-requires-clause-sound
follow-requires-clause-sound c =
    let s = c.args.self.now in
    let m = c.requires.waits.0 in
    let same : c.index.result.now ≡ m = at_read s.moves.items c.args.start c.index.result.now m c.index.ensures c.requires.waits.1.0 in
    let pushed : c.push.new.self.items ≡ s.copies.items ++ (c.index.result.now.destination, s.spare) ∷ [] = search rules in
    let opened = Stands-opened s.spare s.moves.items s.readers.items s.saved s.copies.items c.requires.sound.stands c.requires.blocked c.args.start m c.requires.waits.1 in
    let read : Stands s.spare (Some c.args.start) s.moves.items s.readers.items (Some c.index.result.now.destination) (s.copies.items ++ (c.index.result.now.destination, s.spare) ∷ []) =
    subst (λ (x : Pending). Stands s.spare (Some c.args.start) s.moves.items s.readers.items (Some x.destination) (s.copies.items ++ (x.destination, s.spare) ∷ [])) (sym same) opened in
    record {
      stands = subst (Stands s.spare (Some c.args.start) s.moves.items s.readers.items (Some c.index.result.now.destination)) (sym pushed) read;
      numbered = c.requires.sound.numbered;
    }

pub follow-requires-clause-free : goal.follow-requires-clause-free
follow-requires-clause-free c =
    let s = c.args.self.now in
    let m = c.requires.waits.0 in
    let same : c.index.result.now ≡ m = at_read s.moves.items c.args.start c.index.result.now m c.index.ensures c.requires.waits.1.0 in
    record {
      step = m;
      waits = c.requires.waits.1;
      free = λ k other waits into. ap (λ (x : Pending). Some x.destination) same;
    }
