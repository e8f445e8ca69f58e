-- Laws of the machine's run: moves in a row, and where it halts.
use Rattle.std.proofs.Common.{◌≡◌, ℕ, zero, suc, ◌+◌, ◌<◌, Some, None, sym, ◌∙◌, ap, subst, arith, zero-add}
use Rattle.std.proofs.Math.Nat.{suc-add}
use Rattle.vg_agree.specs.Machine.{Halt, Move, Halted, stopped, onward, stand, Leads}

-- moves in a row are moves
pub leads_on : {Place Fault : Type 0} (move : Place → Move Place Fault) (i j : ℕ) (m t u : Place) → Leads move i m t → Leads move j t u → Leads move (i + j) m u
leads_on {Place} move zero j m t u here rest =
    let P : ℕ → Place → Type 0 = λ k from. Leads move k from u in
    subst (λ k. P k m) (sym (zero-add j)) (subst (P j) (sym here) rest)
leads_on move (suc i) j m t u (next, moved, led) rest =
    subst (λ k. Leads move k m u) (sym (suc-add i j)) (next, moved, leads_on move i j next t u led rest)

-- after moves in a row the run stands as from where they lead
pub stand_behind : {Place Fault : Type 0} (move : Place → Move Place Fault) (i n : ℕ) (m t : Place) → Leads move i m t → stand move (i + n) m ≡ stand move n t
stand_behind move zero n m t here = ap (λ k. stand move k m) (zero-add n) ∙ ap (stand move n) here
stand_behind move (suc i) n m t (next, moved, led) =
    ap (λ k. stand move k m) (suc-add i n) ∙ ap (onward (stand move (i + n)) m) moved ∙ stand_behind move i n next t led

-- where the machine halts, the run stands so whatever the bound
pub stand_halted : {Place Fault : Type 0} (move : Place → Move Place Fault) (n : ℕ) (m : Place) (h : Halt Fault) → move m ≡ Halted h → stand move n m ≡ record { place = m; halt = Some h }
stand_halted move zero m h halted = ap (stopped m) halted
stand_halted move (suc n) m h halted = ap (onward (stand move n) m) halted

-- with fewer moves than lead on, the run hasn't halted
pub stand_running : {Place Fault : Type 0} (move : Place → Move Place Fault) (n i : ℕ) (m t : Place) → Leads move i m t → n < i → (stand move n m).halt ≡ None
stand_running move n zero m t led below = absurd (omega arith)
stand_running move zero (suc i) m t (next, moved, led) below = ap (λ v. (stopped m v).halt) moved
stand_running move (suc n) (suc i) m t (next, moved, led) below =
    ap (λ v. (onward (stand move n) m v).halt) moved ∙ stand_running move n i next t led (omega arith)
