-- One step of the reader of types, as the code takes it.
use Rattle.std.proofs.Common.{◌≡◌, ℕ, zero, suc, ◌-◌, ◌<◌, Bool, true, false, Option, Some, None, List, [], ◌∷◌, ◌++◌, length, refl, ap, sym, ◌∙◌, subst, arith}
use Rattle.vg_ir.specs.declared.spot.Spot.{Spot}
use Rattle.vg_ir.specs.declared.ty.Ty.{Ty}
use Rattle.vg_ir.specs.declared.ty.Ty.TheVariants as ty
use Rattle.vg_irparse.specs.declared.role.Wanted.{Wanted}
use Rattle.vg_irparse.specs.declared.part.Part.{Part}
use Rattle.vg_irlex.specs.declared.lexeme.Lexeme.{Lexeme}
use Rattle.vg_irlex.specs.Piece.{piece}
use Rattle.vg_irparse.specs.declared.stop.Stop.{Stop}
use Rattle.vg_irparse.specs.declared.stop.Stop.TheVariants as stops
use Rattle.vg_irparse.specs.Placed.{Placed, placed, placed_one}
use Rattle.vg_irparse.specs.Text.{spot}
use Rattle.vg_irparse.specs.Answer.{Answer, reads, leaves, too_deep, Fails}
use Rattle.vg_irparse.specs.ReadingType.{Reader, simple_type, part_by, bracketed_at, field_at, fields_at, part_within}

pub fields_leave : (read : Reader) (fuel : ℕ) (types : List Ty) (spots : List Spot) (ts : List Placed) (n : ℕ) (w : Wanted)
    → 0 < fuel → field_at read ts ≡ leaves n w → fields_at fuel read types spots ts ≡ leaves n w
unfolding fields_at
fields_leave read zero types spots ts n w p h = absurd (omega arith)
fields_leave read (suc fuel) types spots ts n w p h = rw h refl

pub fields_last : (read : Reader) (fuel : ℕ) (types : List Ty) (spots : List Spot) (ts : List Placed) (found : (Part × Bool) × List Placed)
    → 0 < fuel → field_at read ts ≡ reads found → found.0.1 ≡ true
    → fields_at fuel read types spots ts ≡ reads (record { ty = ty.Struct (types ++ found.0.0.ty ∷ []); leaves = spots ++ found.0.0.leaves }, found.1)
unfolding fields_at
fields_last read zero types spots ts found p h k = absurd (omega arith)
fields_last read (suc fuel) types spots ts found p h k = rw h (rw k refl)

pub fields_more : (read : Reader) (fuel : ℕ) (types : List Ty) (spots : List Spot) (ts : List Placed) (found : (Part × Bool) × List Placed)
    → 0 < fuel → field_at read ts ≡ reads found → found.0.1 ≡ false
    → fields_at fuel read types spots ts ≡ fields_at (fuel - 1) read (types ++ found.0.0.ty ∷ []) (spots ++ found.0.0.leaves) found.1
unfolding fields_at
fields_more read zero types spots ts found p h k = absurd (omega arith)
fields_more read (suc fuel) types spots ts found p h k =
    let m : suc fuel - 1 ≡ fuel = omega arith in
    rw h (rw k (ap (λ f. fields_at f read (types ++ found.0.0.ty ∷ []) (spots ++ found.0.0.leaves) found.1) (sym m)))

-- with brackets left, the parts have one less
pub within : (depth : ℕ) (w : Wanted) (t : Placed) (ts : List Placed) → 0 < depth
    → part_within depth w (t ∷ ts) ≡ part_by (simple_type t.text) (part_within (depth - 1)) w t ts
unfolding part_within
within zero w t ts h = absurd (omega arith)
within (suc n) w t ts h = let e : suc n - 1 ≡ n = omega arith in ap (λ m. part_by (simple_type t.text) (part_within m) w t ts) (sym e)

pub within_nothing : (depth : ℕ) (w : Wanted) → 0 < depth → part_within depth w [] ≡ leaves 0 w
unfolding part_within
within_nothing zero w h = absurd (omega arith)
within_nothing (suc n) w h = refl

-- ---- as the code goes on

pub fields_fail : (e : Stop) (read : Reader) (fuel : ℕ) (types : List Ty) (spots : List Spot) (ts : List Placed) (whole : Answer (Part × List Placed))
    → 0 < fuel → Fails e (field_at read ts) → fields_at fuel read types spots ts ≡ whole → Fails e whole
fields_fail stops.OutOfMemory read fuel types spots ts whole p h i = tt
fields_fail (stops.Leaves n w) read fuel types spots ts whole p h i = sym i ∙ fields_leave read fuel types spots ts n w p h

abbrev made : List Ty → List Spot → List Placed → Answer (Part × List Placed)
made types spots rest = reads (record { ty = ty.Struct types; leaves = spots }, rest)

pub last_field : (read : Reader) (fuel : ℕ) (types : List Ty) (spots : List Spot) (ts : List Placed) (whole : Answer (Part × List Placed))
    (found : (Part × Bool) × List Placed) (more : List Ty) (others : List Spot)
    → 0 < fuel → fields_at fuel read types spots ts ≡ whole → field_at read ts ≡ reads found → found.0.1 ≡ true
    → more ≡ types ++ found.0.0.ty ∷ [] → others ≡ spots ++ found.0.0.leaves
    → whole ≡ reads (record { ty = ty.Struct more; leaves = others }, found.1)
last_field read fuel types spots ts whole found more others p i h k m o =
    sym i ∙ (fields_last read fuel types spots ts found p h k ∙ (ap (λ z. made z (spots ++ found.0.0.leaves) found.1) (sym m) ∙ ap (λ z. made more z found.1) (sym o)))

pub more_field : (read : Reader) (fuel : ℕ) (types : List Ty) (spots : List Spot) (ts : List Placed) (whole : Answer (Part × List Placed))
    (found : (Part × Bool) × List Placed) (more : List Ty) (others : List Spot)
    → 0 < fuel → fields_at fuel read types spots ts ≡ whole → field_at read ts ≡ reads found → found.0.1 ≡ false
    → more ≡ types ++ found.0.0.ty ∷ [] → others ≡ spots ++ found.0.0.leaves
    → fields_at (fuel - 1) read more others found.1 ≡ whole
more_field read fuel types spots ts whole found more others p i h k m o =
    ap (λ z. fields_at (fuel - 1) read z others found.1) m
    ∙ (ap (λ z. fields_at (fuel - 1) read (types ++ found.0.0.ty ∷ []) z found.1) o ∙ (sym (fields_more read fuel types spots ts found p h k) ∙ i))

abbrev found : Ty → List Spot → List Placed → Answer (Part × List Placed)
found t spots rest = reads (record { ty = t; leaves = spots }, rest)

pub within_none : (depth : ℕ) (w : Wanted) (text : List ℕ) (tokens : List Lexeme) → 0 < depth → length tokens ≡ 0
    → part_within depth w (placed text tokens) ≡ leaves 0 w
within_none depth w text [] p h = within_nothing depth w p
within_none depth w text (t ∷ ts) p h = absurd (omega arith)

first_by : (depth : ℕ) (w : Wanted) (text : List ℕ) (tokens : List Lexeme) (first : Lexeme) (rest : List Lexeme) (bytes : List ℕ) (o : Option Ty)
    → 0 < depth → tokens ≡ first ∷ rest → bytes ≡ piece text first → o ≡ simple_type bytes
    → part_within depth w (placed text tokens) ≡ part_by o (part_within (depth - 1)) w (placed_one text first) (placed text rest)
first_by depth w text tokens first rest bytes o p e b s =
    ap (λ z. part_within depth w (placed text z)) e
    ∙ (within depth w (placed_one text first) (placed text rest) p
    ∙ ap (λ z. part_by z (part_within (depth - 1)) w (placed_one text first) (placed text rest)) (ap simple_type (sym b) ∙ sym s))

pub within_simple : (depth : ℕ) (w : Wanted) (text : List ℕ) (tokens : List Lexeme) (first : Lexeme) (rest : List Lexeme) (bytes : List ℕ) (o : Option Ty) (t : Ty) (spots : List Spot)
    → 0 < depth → tokens ≡ first ∷ rest → bytes ≡ piece text first → o ≡ simple_type bytes → o ≡ Some t → spots ≡ spot first.start ∷ []
    → part_within depth w (placed text tokens) ≡ reads (record { ty = t; leaves = spots }, placed text rest)
within_simple depth w text tokens first rest bytes o t spots p e b s h l =
    first_by depth w text tokens first rest bytes o p e b s
    ∙ (ap (λ z. part_by z (part_within (depth - 1)) w (placed_one text first) (placed text rest)) h
    ∙ ap (λ z. found t z (placed text rest)) (sym l))

pub within_bracketed : (depth : ℕ) (w : Wanted) (text : List ℕ) (tokens : List Lexeme) (first : Lexeme) (rest : List Lexeme) (bytes : List ℕ) (o : Option Ty)
    → 0 < depth → tokens ≡ first ∷ rest → bytes ≡ piece text first → o ≡ simple_type bytes → o ≡ None
    → part_within depth w (placed text tokens) ≡ bracketed_at (part_within (depth - 1)) w (placed_one text first) (placed text rest)
within_bracketed depth w text tokens first rest bytes o p e b s h =
    first_by depth w text tokens first rest bytes o p e b s
    ∙ ap (λ z. part_by z (part_within (depth - 1)) w (placed_one text first) (placed text rest)) h
