-- One step over a quoted text.
use Rattle.std.proofs.Common.{◌≡◌, ℕ, ◌+◌, ◌<◌, ◌≤◌, Bool, true, false, cond, ◌&&◌, ◌==◌, List, [], ◌∷◌, ◌++◌, length, drop, refl, sym, ap, subst, ◌∙◌, arith, append_assoc, is_some, unwrap_or}
use Rattle.std.proofs.lemmas.List.{append-nil}
use Rattle.std.proofs.lemmas.Bool.Decides.{nat_tests}
use Rattle.vg_irparse.specs.Text.{hexadecimal, unescaped}
use Rattle.vg_irparse.specs.Escape.{digits_at, backslash_at, escape_at}

-- what is behind one byte or escape
abbrev pub behind : ℕ → List ℕ → List ℕ
behind c cs = (escape_at c cs).0 ∷ unescaped (drop ((escape_at c cs).1) cs)

plain_step : (c : ℕ) (cs : List ℕ) → (c == 34) ≡ false → (c == 92) ≡ false → unescaped (c ∷ cs) ≡ c ∷ unescaped cs
plain_step c [] h k = rw h refl
plain_step c (d ∷ []) h k = rw (h, k) refl
plain_step c (d ∷ e ∷ cs) h k = rw (h, k) refl

slash_three : (d e : ℕ) (cs : List ℕ) (x y : Bool) → (d == 92) ≡ x → is_some (hexadecimal d e) ≡ y
    → unescaped (92 ∷ d ∷ e ∷ cs) ≡ (backslash_at (d ∷ e ∷ cs)).0 ∷ unescaped (drop ((backslash_at (d ∷ e ∷ cs)).1) (d ∷ e ∷ cs))
slash_three d e cs true y h k = rw h refl
slash_three d e cs false true h k = rw (h, k) refl
slash_three d e cs false false h k = rw (h, k) refl

slash_two : (d : ℕ) (x : Bool) → (d == 92) ≡ x → unescaped (92 ∷ d ∷ []) ≡ (backslash_at (d ∷ [])).0 ∷ unescaped (drop ((backslash_at (d ∷ [])).1) (d ∷ []))
slash_two d true h = rw h refl
slash_two d false h = rw h refl

slash_step : (cs : List ℕ) → unescaped (92 ∷ cs) ≡ (backslash_at cs).0 ∷ unescaped (drop ((backslash_at cs).1) cs)
slash_step [] = refl
slash_step (d ∷ []) = slash_two d (d == 92) refl
slash_step (d ∷ e ∷ cs) = slash_three d e cs (d == 92) (is_some (hexadecimal d e)) refl refl

step_by : (c : ℕ) (cs : List ℕ) → (c == 34) ≡ false → (x : Bool) → (c == 92) ≡ x → unescaped (c ∷ cs) ≡ behind c cs
step_by c cs h true k =
    let e : c ≡ 92 = grind (arith, nat_tests) in
    let P : ℕ → Type 0 = λ z. unescaped (z ∷ cs) ≡ behind z cs in
    subst P (sym e) (slash_step cs)
step_by c cs h false k = plain_step c cs h k ∙ sym (rw k refl)

-- one byte or escape
pub unescaped_step : (c : ℕ) (cs : List ℕ) → (c == 34) ≡ false → unescaped (c ∷ cs) ≡ behind c cs
unescaped_step c cs h = step_by c cs h (c == 92) refl

pub unescaped_end : (c : ℕ) (cs : List ℕ) → (c == 34) ≡ true → unescaped (c ∷ cs) ≡ []
unescaped_end c [] h = rw h refl
unescaped_end c (d ∷ []) h = rw h refl
unescaped_end c (d ∷ e ∷ cs) h = rw h refl

-- the bytes so far, and one byte or escape more
pub goes_on : (bytes more text rest : List ℕ) (c : ℕ) (cs after : List ℕ) (found : ℕ × ℕ) → bytes ++ unescaped rest ≡ unescaped text → rest ≡ c ∷ cs → (c == 34) ≡ false
    → found ≡ escape_at c cs → after ≡ drop found.1 cs → more ≡ bytes ++ found.0 ∷ [] → more ++ unescaped after ≡ unescaped text
goes_on bytes more text rest c cs after found i e h f a m =
    let s : unescaped rest ≡ found.0 ∷ unescaped after =
    ap unescaped e ∙ (unescaped_step c cs h ∙ (ap (λ (p : ℕ × ℕ). p.0 ∷ unescaped (drop p.1 cs)) (sym f) ∙ ap (λ z. found.0 ∷ unescaped z) (sym a))) in
    ap (λ z. z ++ unescaped after) m ∙ (append_assoc bytes (found.0 ∷ []) (unescaped after) ∙ (ap (λ z. bytes ++ z) (sym s) ∙ i))

-- the bytes so far are all
pub ends : (bytes text rest : List ℕ) → bytes ++ unescaped rest ≡ unescaped text → unescaped rest ≡ [] → bytes ≡ unescaped text
ends bytes text rest i e = sym (append-nil bytes) ∙ (ap (λ z. bytes ++ z) (sym e) ∙ i)

no_quote-by : (c : ℕ) → (c ≡ 34 → ⊥) → (b : Bool) → (c == 34) ≡ b → (c == 34) ≡ false
no_quote-by c h true k = absurd (h (grind (arith, nat_tests)))
no_quote-by c h false k = k

-- a byte that is no quote
pub no_quote : (c : ℕ) → (c ≡ 34 → ⊥) → (c == 34) ≡ false
no_quote c h = no_quote-by c h (c == 34) refl
