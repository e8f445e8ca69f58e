-- Which bytes of memory trees read, and at which addresses, is known once what their addresses read is.
use Rattle.std.proofs.Common.{◌≡◌, ℕ, ◌^◌, ◌<◌, Bool, ◌||◌, IsTrue, List, [], ◌∷◌, ◌++◌, Option, Some, None, refl, sym, ap, subst, ◌∙◌, arith}
use Rattle.vg_bits.specs.BitValue.{BitValue}
use Rattle.vg_isa.specs.declared.isa.Parts.{Parts}
use Rattle.vg_isa.specs.declared.expr.Expr.{Expr, fold-roll-Expr, roll-Expr, ind-Expr, map-Expr}
use Rattle.vg_isa.specs.declared.expr.Expr.TheOpen.{Expr-F}
use Rattle.vg_isa.specs.Value.{Reads, value_of}
use Rattle.vg_isa.specs.Node.{Node, Walked, nodes_below, nodes_of, access_in}
use Rattle.vg_isa.proofs.NodeLemmas.{walk, nodes}
use Rattle.vg_place.specs.declared.stage_table.Stages.{Stages}
use Rattle.vg_place.specs.declared.timing.Timing.{Timing}
use Rattle.vg_place.specs.Stage.{timed_step, timed, address_stage}
use Rattle.vg_place.specs.Reading.{is_register_at, is_byte_of, Reading, reads_step, reading_step, reading, stage_at, SameAt}
use Rattle.vg_place.proofs.Agreeing.{reading_value, values_agree}
use Rattle.vg_pipe.proofs.Reading.{or_left, or_right, or_same}

-- the addresses of memory reads among nodes, in front of others
abbrev pub address_before : Parts → ℕ → Reads → Option (Expr × ℕ) → List ℕ → List ℕ
address_before d word s None rest = rest
address_before d word s (Some access) rest = (value_of d access.0 word s).number ∷ rest

abbrev pub addresses : Parts → ℕ → Reads → List Node → List ℕ
addresses d word s [] = []
addresses d word s (n ∷ ns) = address_before d word s (access_in n) (addresses d word s ns)

pub addresses-append : (d : Parts) (word : ℕ) (s : Reads) (xs ys : List Node) → addresses d word s (xs ++ ys) ≡ addresses d word s xs ++ addresses d word s ys
addresses-append d word s [] ys = refl
addresses-append d word s (n ∷ xs) ys = ap (address_before d word s (access_in n)) (addresses-append d word s xs ys) ∙ front (access_in n) (addresses d word s xs) (addresses d word s ys)
  where
    front : (o : Option (Expr × ℕ)) (some more : List ℕ) → address_before d word s o (some ++ more) ≡ address_before d word s o some ++ more
    front None some more = refl
    front (Some a) some more = refl

module _ (d : Parts) (s : Stages) (word u : ℕ) (v w : Reads) (pc : v.pc ≡ w.pc) where
  abbrev Agree : (ℕ → ℕ → Bool) → Type 0
  Agree reads = (r i : ℕ) → stage_at s r < u → IsTrue (reads r i) → SameAt v w r i

  left : (f g : ℕ → ℕ → Bool) → Agree (λ r i. f r i || g r i) → Agree f
  left f g a r i l is = a r i l (or_left (f r i) (g r i) is)

  right : (f g : ℕ → ℕ → Bool) → Agree (λ r i. f r i || g r i) → Agree g
  right f g a r i l is = a r i l (or_right (f r i) (g r i) is)

  abbrev Same : Reading → Reading → List Node → Type 0
  Same x y ns = ((i : ℕ) → x.reads 0 i ≡ y.reads 0 i) × (addresses d word v ns ≡ addresses d word w ns)

  abbrev Good : Expr → Type 0
  Good e = Agree (reading d word v e).reads → address_stage s e < u → Same (reading d word v e) (reading d word w e) (nodes_of e)

  abbrev Fit : Type 0
  Fit = (e : Expr) × Good e

  abbrev read : Reads → Expr → Reading
  read state e = reading d word state e

  level : (x : Node)
      → (Agree (reads_step d (map-Expr Expr Reading (read v) x)) → (timed_step s (map-Expr Expr Timing (timed s) x)).address < u
      → ((i : ℕ) → reads_step d (map-Expr Expr Reading (read v) x) 0 i ≡ reads_step d (map-Expr Expr Reading (read w) x) 0 i)
      × (addresses d word v (x ∷ nodes_below (map-Expr Expr Walked walk x)) ≡ addresses d word w (x ∷ nodes_below (map-Expr Expr Walked walk x))))
      → Good (roll-Expr x)
  level x h agree lt =
      let now : reading d word v (roll-Expr x) ≡ reading_step d word v (map-Expr Expr Reading (read v) x) = fold-roll-Expr Reading (reading_step d word v) x in
      let then_ : reading d word w (roll-Expr x) ≡ reading_step d word w (map-Expr Expr Reading (read w) x) = fold-roll-Expr Reading (reading_step d word w) x in
      let time : timed s (roll-Expr x) ≡ timed_step s (map-Expr Expr Timing (timed s) x) = fold-roll-Expr Timing (timed_step s) x in
      let both = h (λ r i l is. agree r i l (subst (λ (z : Reading). IsTrue (z.reads r i)) (sym now) is)) (subst (λ (z : Timing). z.address < u) time lt) in (
        λ i. ap (λ (z : Reading). z.reads 0 i) now ∙ both.0 i ∙ sym (ap (λ (z : Reading). z.reads 0 i) then_),
        ap (addresses d word v) (nodes x) ∙ both.1 ∙ sym (ap (addresses d word w) (nodes x)),
      )

  joined : (xs ys : List Node) → addresses d word v xs ≡ addresses d word w xs → addresses d word v ys ≡ addresses d word w ys → addresses d word v (xs ++ ys) ≡ addresses d word w (xs ++ ys)
  joined xs ys p q = addresses-append d word v xs ys ∙ (λ i. p i ++ q i) ∙ sym (addresses-append d word w xs ys)

  -- two operands
  two : (a b : Fit) → Agree (λ r i. (read v a.0).reads r i || (read v b.0).reads r i) → address_stage s a.0 < u → address_stage s b.0 < u
      → ((i : ℕ) → ((read v a.0).reads 0 i || (read v b.0).reads 0 i) ≡ ((read w a.0).reads 0 i || (read w b.0).reads 0 i))
      × (addresses d word v (nodes_of a.0 ++ nodes_of b.0) ≡ addresses d word w (nodes_of a.0 ++ nodes_of b.0))
  two a b g la lb =
      let first = a.1 (left (read v a.0).reads (read v b.0).reads g) la in
      let second = b.1 (right (read v a.0).reads (read v b.0).reads g) lb in
      (λ i. or_same (first.0 i) (second.0 i), joined (nodes_of a.0) (nodes_of b.0) first.1 second.1)

  fit : (y : Expr-F Fit) → Good (roll-Expr (map-Expr Fit Expr (λ (k : Fit). k.0) y))
  fit (Expr-F.Const b) = level (Expr-F.Const b) (λ g l. (λ i. refl, refl))
  fit (Expr-F.Field f) = level (Expr-F.Field f) (λ g l. (λ i. refl, refl))
  fit Expr-F.Pc = level Expr-F.Pc (λ g l. (λ i. refl, refl))
  fit (Expr-F.Reg q None) = level (Expr-F.Reg q None) (λ g l. (λ i. refl, refl))
  fit (Expr-F.Reg q (Some x)) = level (Expr-F.Reg q (Some x.0)) (λ g l.
      (let below = x.1 (left (read v x.0).reads (is_register_at q.0 (read v x.0).value.number) g) l in
      (λ i. or_same (below.0 i) refl, below.1)))
  fit (Expr-F.Mem a bytes) = level (Expr-F.Mem a.0 bytes) (λ g l.
      (let inner = left (read v a.0).reads (is_byte_of (2 ^ d.pc.width) (read v a.0).value.number bytes) g in
      let below = a.1 inner (omega arith) in
      let value : value_of d a.0 word v ≡ value_of d a.0 word w = values_agree d s word a.0 u v w (record { pc = pc; same = inner }) (omega arith) in
      let known : (read v a.0).value ≡ (read w a.0).value = reading_value d s word u v w a.0 ∙ value ∙ sym (reading_value d s word u w v a.0) in (
        λ i. or_same (below.0 i) (ap (λ (z : BitValue). is_byte_of (2 ^ d.pc.width) z.number bytes 0 i) known),
        λ j. (value j).number ∷ below.1 j,
      )))
  fit (Expr-F.Unary op a) = level (Expr-F.Unary op a.0) (λ g l. a.1 g l)
  fit (Expr-F.Binary op a b) = level (Expr-F.Binary op a.0 b.0) (λ g l. two a b g (omega arith) (omega arith))
  fit (Expr-F.Cast op width a) = level (Expr-F.Cast op width a.0) (λ g l. a.1 g l)
  fit (Expr-F.Slice a hi lo) = level (Expr-F.Slice a.0 hi lo) (λ g l. a.1 g l)
  fit (Expr-F.Join a b) = level (Expr-F.Join a.0 b.0) (λ g l. two a b g (omega arith) (omega arith))
  fit (Expr-F.If c a b) = level (Expr-F.If c.0 a.0 b.0) (λ g l.
      (let branches = right (read v c.0).reads (λ r i. (read v a.0).reads r i || (read v b.0).reads r i) g in
      let first = c.1 (left (read v c.0).reads (λ r i. (read v a.0).reads r i || (read v b.0).reads r i) g) (omega arith) in
      let second = a.1 (left (read v a.0).reads (read v b.0).reads branches) (omega arith) in
      let third = b.1 (right (read v a.0).reads (read v b.0).reads branches) (omega arith) in
      (λ i. or_same (first.0 i) (or_same (second.0 i) (third.0 i)), joined (nodes_of c.0 ++ nodes_of a.0) (nodes_of b.0) (joined (nodes_of c.0) (nodes_of a.0) first.1 second.1) third.1)))

  -- states that agree on what a tree reads in the first u stages read the same bytes of memory in it, at the same
  -- addresses, where the addresses are there by then
  pub memory_agrees : (e : Expr) → Good e
  memory_agrees = ind-Expr Good (λ x y is. subst (λ (z : Node). Good (roll-Expr z)) is (fit y))
