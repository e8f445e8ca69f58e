-- The sweeps begin with no marks, and end when one leaves none.
use Rattle.std.proofs.Common.{◌≡◌, ℕ, Bool, false, List, ◌++◌, length, take, drop, replicate, sym, ◌∙◌, ap, subst}
use Rattle.std.proofs.lemmas.List.{length-replicate}
use Rattle.vg_settle.specs.Layout.{mark_at}
use Rattle.vg_settle.specs.Settled.{IsSettled}
use Rattle.vg_settle.proofs.Sweeping.{sound_none}
use Rattle.vg_settle.proofs.Starting.{none_marked, starts_bare, written, settled}
use Rattle.vg_settle.proofs.settling.settle.Goals as goal

pub loop-init : goal.loop-init
loop-init c =
    let marks : c.in_ok-marks.marks.items ≡ replicate (length c.args.items.now) false = c.in_ok-marks.ensures.items_if_clones_equal (λ y same. same) in
    let bare : (k : ℕ) → mark_at c.in_ok-marks.marks.items k ≡ false = λ k. ap (λ m. mark_at m k) marks ∙ none_marked (length c.args.items.now) k in
    record {
      sound = sound_none c.args.items.now c.args.bytes c.in_ok-marks.marks.items (ap length marks ∙ length-replicate (length c.args.items.now) false) bare;
      starts = starts_bare c.args.items.now c.in_ok-marks.marks.items c.in_ok-starts.starts.items bare c.in_ok-starts.ensures;
    }

pub returns : goal.returns
returns c =
    let same : take c.loop.marks.len (c.sweep.new.marks ++ drop (length c.sweep.new.marks) c.loop.marks.items) ≡ c.sweep.new.marks =
    written c.loop.marks.len c.sweep.new.marks c.loop.marks.items (c.sweep.auto.marks ∙ ap length c.deref_mut.ensures.value ∙ sym c.loop.marks.ok.0) in
    let P : List Bool → Type 0 = λ marks. IsSettled c.args.items.now c.args.bytes marks in
    subst P (sym same) (settled c.args.items.now c.args.bytes c.sweep.new.marks c.sweep.ensures.sound (c.sweep.ensures.none c.loop-test.false))
