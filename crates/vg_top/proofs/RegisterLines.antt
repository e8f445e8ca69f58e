-- The lines of registers, of one declaration more at a time.
use Rattle.std.proofs.Common.{◌≡◌, ℕ, zero, suc, ◌+◌, ◌<◌, ◌≤◌, List, [], ◌∷◌, ◌++◌, length, get_or, drop, IsTrue, nat_le, refl, ap, sym, subst, ◌∙◌, append_assoc, add-one, arith, append-nil, Option, Some, slice_get}
use Rattle.std.specs.Option.{option_map_or}
use Rattle.std.specs.List.{list_all}
use Rattle.std.proofs.lemmas.Bool.Decides.{nat_tests}
use Rattle.vg_isa.specs.declared.isa.Parts.{Parts}
use Rattle.vg_isa.specs.declared.declaration.RegDecl.{RegDecl}
use Rattle.vg_isa.specs.Accepted.{is_isa, is_register_decl}
use Rattle.vg_isa.specs.Declaration.{register_width}
use Rattle.vg_isa.specs.Value.{Reads, HasDeclaredWidths}
use Rattle.vg_isa.proofs.Kept.{kept}
use Rattle.vg_isa.proofs.Tests.{both}
use Rattle.vg_top.specs.Reports.State.{declaration_lines, register_lines}

-- there are few declarations
pub few : (d : Parts) → IsTrue (is_isa d) → length d.regs ≤ 15
few d h = few_of (length d.regs) (both _ _ (kept d h).limits).1
  where
    few_of : (n : ℕ) → IsTrue (nat_le (n + 1) 16) → n ≤ 15
    few_of n most = grind (arith, nat_tests)

drop_at : (regs : List RegDecl) (r : ℕ) (e : RegDecl) → r < length regs → drop r regs ≡ get_or regs r e ∷ drop (suc r) regs
drop_at [] r e h = absurd (omega arith)
drop_at (decl ∷ regs) zero e h = refl
drop_at (decl ∷ regs) (suc r) e h = drop_at regs r e (omega arith)

get_at : (regs : List RegDecl) (r : ℕ) (e : RegDecl) → r < length regs → slice_get regs r ≡ Some (get_or regs r e)
get_at [] r e h = absurd (omega arith)
get_at (decl ∷ regs) zero e h = refl
get_at (decl ∷ regs) (suc r) e h = get_at regs r e (omega arith)

-- the declaration at hand is the r-th
here : (regs : List RegDecl) (r : ℕ) (decl : RegDecl) → r < length regs → decl ≡ get_or regs r decl → slice_get regs r ≡ Some decl
here regs r decl h is = get_at regs r decl h ∙ ap Some (sym is)

-- it has few registers
small : (regs : List RegDecl) (r : ℕ) (e : RegDecl) → IsTrue (list_all is_register_decl regs) → r < length regs → IsTrue (is_register_decl (get_or regs r e))
small [] r e all h = absurd (omega arith)
small (decl ∷ regs) zero e all h = (both _ _ all).0
small (decl ∷ regs) (suc r) e all h = small regs r e (both _ _ all).1 (omega arith)

-- each of its registers reads a value of its width
width_at : (d : Parts) (s : Reads) (r : ℕ) (decl : RegDecl) → HasDeclaredWidths d s → r < length d.regs → slice_get d.regs r ≡ Some decl → (i : ℕ) → (s.reg r i).width ≡ decl.width
width_at d s r decl has h at i = has.reg r i h ∙ ap (λ (o : Option RegDecl). option_map_or (λ (x : RegDecl). x.width) o 0) at

-- the lines of one declaration more
pub lines_step : (s : Reads) (regs : List RegDecl) (r : ℕ) (decl : RegDecl) (start out new : List ℕ) → r < length regs → decl ≡ get_or regs r decl
    → new ≡ out ++ declaration_lines s r decl → out ++ register_lines s r (drop r regs) ≡ start
    → new ++ register_lines s (r + 1) (drop (r + 1) regs) ≡ start
unfolding register_lines
lines_step s regs r decl start out new h is pushed so_far =
    let rest : List ℕ = register_lines s (r + 1) (drop (suc r) regs) in
    let more : r + 1 ≡ suc r = omega arith in
    let next : register_lines s r (drop r regs) ≡ declaration_lines s r decl ++ rest =
    ap (register_lines s r) (drop_at regs r decl h) ∙ ap (λ (e : RegDecl). declaration_lines s r e ++ rest) (sym is) in
    ap (λ (k : ℕ). new ++ register_lines s (r + 1) (drop k regs)) more
    ∙ ap (λ (l : List ℕ). l ++ rest) pushed ∙ append_assoc out (declaration_lines s r decl) rest ∙ ap (λ (l : List ℕ). out ++ l) (sym next) ∙ so_far

none_left : (s : Reads) (regs : List RegDecl) (k r : ℕ) → length regs ≤ r → register_lines s k (drop r regs) ≡ []
unfolding register_lines
none_left s [] k zero h = refl
none_left s [] k (suc r) h = refl
none_left s (decl ∷ regs) k zero h = absurd (omega arith)
none_left s (decl ∷ regs) k (suc r) h = none_left s regs k r (omega arith)

-- the lines of all declarations
pub lines_done : (s : Reads) (regs : List RegDecl) (r : ℕ) (start out : List ℕ) → length regs ≤ r → out ++ register_lines s r (drop r regs) ≡ start → out ≡ start
lines_done s regs r start out past so_far = sym (ap (λ (l : List ℕ). out ++ l) (none_left s regs r r past) ∙ append-nil out) ∙ so_far

-- the same of the declaration at hand
pub small_here : (regs : List RegDecl) (r : ℕ) (decl : RegDecl) → decl ≡ get_or regs r decl → IsTrue (list_all is_register_decl regs) → r < length regs → IsTrue (is_register_decl decl)
small_here regs r decl is all h = subst (λ (e : RegDecl). IsTrue (is_register_decl e)) (sym is) (small regs r decl all h)

pub width_here : (d : Parts) (s : Reads) (regs : List RegDecl) (r : ℕ) (decl : RegDecl) → regs ≡ d.regs → HasDeclaredWidths d s → r < length regs → decl ≡ get_or regs r decl → (i : ℕ) → (s.reg r i).width ≡ decl.width
width_here d s regs r decl same has h is i =
    let inside : r < length d.regs = subst (λ (l : List RegDecl). r < length l) same h in
    width_at d s r decl has inside (subst (λ (l : List RegDecl). slice_get l r ≡ Some decl) same (here regs r decl h is)) i
