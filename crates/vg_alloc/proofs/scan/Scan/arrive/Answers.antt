-- A register is free, or one that ends last gets a slot.
use Rattle.std.proofs.Common.{◌≡◌, ◌≤◌, ◌-◌, Some, None, length, sym, ◌∙◌, arith}
use Rattle.vg_alloc.specs.Ends.{end_of}
use Rattle.vg_alloc.specs.Active.{members, last_of}
use Rattle.vg_alloc.proofs.Taking.{arrival, arrival-at}
use Rattle.vg_alloc.proofs.Sound.{last_greatest, none_last, IsSound-kept, IsSound-passed, IsSound-replaced}
use Rattle.vg_alloc.proofs.scan.Scan.arrive.Goals as goal

pub returns-then-count-work : goal.returns-then-count-work
returns-then-count-work c =
    let work = c.args.work.now in
    let x = arrival work c.args.number c.requires.number c.requires.work in
    IsSound-kept work c.args.number c.requires.number c.requires.work c.expire.new.self c.keep.new.self c.in_ok-expire.ensures c.keep.ensures.fitting c.keep.ensures.registers (c.keep.ensures.active x (arrival-at work c.args.number c.requires.number c.requires.work))

pub returns-in_default : goal.returns-in_default
returns-in_default c =
    let work = c.args.work.now in
    let s = c.expire.new.self in
    let none : last_of (members s.active) ≡ None = sym c.last.ensures ∙ c.in_default.is in
    let full : work.saved ≤ length (members s.active) = let a = c.if-count-work.false in let b = c.count.ensures in omega arith in
    IsSound-passed work c.args.number c.requires.number c.requires.work s c.in_ok-expire.ensures full (λ v among. absurd (none_last (members s.active) v none among))

pub bounds-work-last : goal.bounds-work-last
bounds-work-last c =
    let s = c.expire.new.self in
    let last : last_of (members s.active) ≡ Some c.in-Some.last = sym c.last.ensures ∙ c.in-Some.is in
    (c.in_ok-expire.ensures.fitting.fits.members c.in-Some.last (length (members s.active) - 1, last)).0

pub returns-then-work-last : goal.returns-then-work-last
returns-then-work-last c =
    let work = c.args.work.now in
    let s = c.expire.new.self in
    let sound = c.in_ok-expire.ensures in
    let last : last_of (members s.active) ≡ Some c.in-Some.last = sym c.last.ensures ∙ c.in-Some.is in
    let full : work.saved ≤ length (members s.active) = let a = c.if-count-work.false in let b = c.count.ensures in omega arith in
    IsSound-passed work c.args.number c.requires.number c.requires.work s sound full (λ v among.
    let most = last_greatest (end_of work.intervals.now) (members s.active) c.in-Some.last v sound.fitting.fits.sorted last among in
    let over = c.if-work-last.true in
    omega arith)

pub returns : goal.returns
returns c =
    let work = c.args.work.now in
    let s = c.expire.new.self in
    let x = arrival work c.args.number c.requires.number c.requires.work in
    let last : last_of (members s.active) ≡ Some c.in-Some.last = sym c.last.ensures ∙ c.in-Some.is in
    let full : work.saved ≤ length (members s.active) = let a = c.if-count-work.false in let b = c.count.ensures in omega arith in
    IsSound-replaced work c.args.number c.requires.number c.requires.work s c.in_ok-expire.ensures full c.evict.new.self c.keep-2.new.self c.in-Some.last last c.if-work-last.false c.in_ok-evict.ensures.active c.in_ok-evict.ensures.registers
    c.keep-2.ensures.fitting c.keep-2.ensures.registers (c.keep-2.ensures.active x (arrival-at work c.args.number c.requires.number c.requires.work))
