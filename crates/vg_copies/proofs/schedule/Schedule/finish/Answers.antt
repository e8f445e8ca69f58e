-- The copy is made and the counts are lowered.
use Rattle.std.proofs.Common.{rules, ◌≡◌, ◌∷◌, ◌++◌, [], set, sym, ap, ◌∙◌}
use Rattle.vg_goal.specs.declared.place.Place.{Place}
use Rattle.vg_copies.specs.declared.pending.Pending.{Pending}
use Rattle.vg_copies.specs.declared.schedule.Schedule.{Schedule}
use Rattle.vg_copies.specs.Schedule.{writer, holder}
use Rattle.vg_copies.proofs.Finish.{done_step}
use Rattle.vg_copies.proofs.Steps.{at_read, Finishes, release_counts, IsSound-finished, NextWaits-finished, Proceeds-finished}
use Rattle.vg_copies.proofs.schedule.Schedule.finish.Goals as goal

pub release-requires : goal.release-requires
release-requires c =
    let s = c.args.self.now in
    let m = c.index.result.now in
    let same : m ≡ c.requires.free.step = at_read s.moves.items c.args.number m c.requires.free.step c.index.ensures c.requires.free.waits.0 in
    λ k is. release_counts s c.args.number c.requires.sound c.requires.free k (ap (λ (x : Pending). writer s.saved s.numbers x.source) (sym same) ∙ is)

made : (c : goal.After-release) → Finishes c.args.self.now c.release.new.self c.args.number c.requires.free.step c.release.result
made c =
    let s = c.args.self.now in
    let t = c.release.new.self in
    let number = c.args.number in
    let m = c.index.result.now in
    let same : m ≡ c.requires.free.step = at_read s.moves.items number m c.requires.free.step c.index.ensures c.requires.free.waits.0 in
    let again : c.index_mut.result.now ≡ c.requires.free.step = at_read s.moves.items number c.index_mut.result.now c.requires.free.step c.index_mut.ensures.value c.requires.free.waits.0 in
    let pushed : c.push.new.self.items ≡ s.copies.items ++ (c.holder-from.result, m.destination) ∷ [] = search rules in
    record {
      spare = search rules;
      moves = ap (λ (x : Schedule). x.moves.items) c.release.ensures.rest ∙ ap (λ (x : Pending). set s.moves.items number (done_step x)) again;
      numbers = search rules;
      readers = search rules;
      saved = search rules;
      copies =
          ap (λ (x : Schedule). x.copies.items) c.release.ensures.rest
          ∙ pushed
          ∙ ap (λ (from : Place). s.copies.items ++ (from, m.destination) ∷ []) c.holder-from.ensures
          ∙ ap (λ (x : Pending). s.copies.items ++ (holder s.spare s.saved x.source, x.destination) ∷ []) same;
      found = c.release.ensures.found ∙ ap (λ (x : Pending). writer s.saved s.numbers x.source) same;
    }

pub returns-clause-sound : goal.returns-clause-sound
returns-clause-sound c = IsSound-finished c.args.self.now c.release.new.self c.args.number c.release.result c.requires.sound c.requires.free (made c)

pub returns-clause-next : goal.returns-clause-next
returns-clause-next c = NextWaits-finished c.args.self.now c.release.new.self c.args.number c.release.result c.requires.sound c.requires.free (made c)

pub returns-clause-proceeds : goal.returns-clause-proceeds
returns-clause-proceeds c = Proceeds-finished c.args.self.now c.release.new.self c.args.number c.release.result c.requires.sound c.requires.free (made c)
