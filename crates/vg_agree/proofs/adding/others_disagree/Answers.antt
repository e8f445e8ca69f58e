-- Each by one bound at which the machine says what isn't so.
use Rattle.std.proofs.Common.{ℕ, zero, suc, ◌≡◌, ◌≤◌, [], refl, arith}
use Rattle.vg_agree.specs.Machine.{Leads}
use Rattle.vg_agree.specs.Adding.{Place, Off, Fetch, add_move}
use Rattle.vg_agree.proofs.adding.others_disagree.Goals as goal

-- the start takes a move
start_moves : (moves : ℕ) (at : Place) → moves ≤ 0 → Leads (add_move 255) moves (Off []) at → at ≡ Fetch [] 0 → ⊥
start_moves zero at most here there = cc
start_moves (suc n) at most led there = absurd (omega arith)

pub returns-clause-early : goal.returns-clause-early
returns-clause-early c = λ agreement. let ended = (agreement.ends 3 255 7 refl (omega arith)).0 in cc

pub returns-clause-late : goal.returns-clause-late
returns-clause-late c = λ agreement. let full = agreement.fills 2 7 refl (omega arith) in cc

pub returns-clause-step : goal.returns-clause-step
returns-clause-step c = λ agreement. agreement.answers 6 (omega arith)

pub returns-clause-start : goal.returns-clause-start
returns-clause-start c = λ commutes. start_moves commutes.starts.moves commutes.starts.place commutes.starts.at_most commutes.starts.leads commutes.starts.there
