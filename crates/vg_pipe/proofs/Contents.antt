-- What the run of an image has at each location behind an instruction: what the instruction's write of it gives, and else
-- what was there.
use Rattle.std.proofs.Common.{◌≡◌, ℕ, zero, suc, ◌+◌, ◌/◌, ◌%◌, ◌^◌, ◌<◌, Bool, true, false, ◌&&◌, ◌||◌, not, nat_eq, IsTrue, List, [], ◌∷◌, length, slice_get, slice_index, slice_set, get_or, Option, Some, None, unwrap_or, refl, sym, ap, subst, ◌∙◌, if◌then◌else◌, arith}
use Rattle.std.specs.Option.{option_map, option_map_or}
use Rattle.std.specs.List.{cons_option, filter_map, list_all, list_any}
use Rattle.std.specs.FinMap.{FinMap}
use Rattle.std.specs.Ordering.{nat_cmp}
use Rattle.std.proofs.lemmas.Bool.Decides.{nat_tests}
use Rattle.std.proofs.lemmas.List.{get_or-set_same, get_or-set_other}
use Rattle.std.proofs.lemmas.Option.{slice_get-get_or, slice_get_within}
use Rattle.vg_bits.specs.BitValue.{BitValue}
use Rattle.vg_isa.specs.declared.isa.Parts.{Parts}
use Rattle.vg_isa.specs.declared.expr.Expr.{Expr}
use Rattle.vg_isa.specs.declared.instr.Instr.{Instr}
use Rattle.vg_isa.specs.declared.instr.Write.{Write}
use Rattle.vg_isa.specs.declared.declaration.RegDecl.{RegDecl}
use Rattle.vg_isa.specs.declared.write_made.Made.{Made}
use Rattle.vg_isa.specs.declared.ids.ResourceId.{ResourceId}
use Rattle.vg_isa.specs.declared.ids.ResourceId.TheVariants.{Memory, Reg}
use Rattle.vg_isa.specs.declared.abi.Micro.{Micro}
use Rattle.vg_isa.specs.Declaration.{has_register, register_count, register_width}
use Rattle.vg_isa.specs.Typing.{is_write, is_write_of, width_of}
use Rattle.vg_isa.specs.Same.{all_differ, same_resource}
use Rattle.vg_isa.specs.Accepted.{is_instr, is_isa}
use Rattle.vg_isa.specs.Value.{IsLawful, IsValue, Reads, holds, value_of}
use Rattle.vg_isa.specs.Effect.{effect_of, made_by}
use Rattle.vg_isa.proofs.Kept.{instr_typed, kept_instr, writes_typed}
use Rattle.vg_isa.proofs.Lawful.{value_is}
use Rattle.vg_isa.proofs.Registers.{file_register, single_register}
use Rattle.vg_isa.proofs.Tests.{both, true-nat_eq, nat_eq-true, true-nat_lt}
use Rattle.vg_mem.specs.Bytes.{byte_in, stored}
use Rattle.vg_mem.proofs.Zeros.{byte_in-put}
use Rattle.vg_image.specs.declared.image.Image.{Image}
use Rattle.vg_image.specs.State.{IsState, State, all_written, are_files, is_file_of, is_zero_register, numbers_of, reads_of, register_written, resource_written, state_after}
use Rattle.vg_image.specs.Step.{Step}
use Rattle.vg_image.specs.Run.{after, behind}
use Rattle.vg_image.proofs.Kept.{lawful, run_kept}
use Rattle.vg_cycle.specs.Description.{Fetched, IsRun, written}
use Rattle.vg_cycle.specs.Hazard.{no_contents}
use Rattle.vg_pipe.specs.Trees.{has_number, place_of, write_to}
use Rattle.vg_pipe.specs.Seen.{byte_stored, code_at, is_named, put_by, seen, writes_in}
use Rattle.vg_pipe.specs.Run.{contents_of, run_from}
use Rattle.vg_pipe.proofs.Steps.{code_steps, run_goes_on}

-- ---- tests on numbers

differ : true ≡ false → ⊥
differ e = cc

turned : (m n : ℕ) → nat_eq m n ≡ nat_eq n m
turned m n = go (nat_eq m n) refl (nat_eq n m) refl
  where
    go : (a : Bool) → nat_eq m n ≡ a → (b : Bool) → nat_eq n m ≡ b → a ≡ b
    go true ea true eb = refl
    go false ea false eb = refl
    go true ea false eb = absurd (differ (sym (nat_eq-true n m (sym (true-nat_eq m n ea))) ∙ eb))
    go false ea true eb = absurd (differ (sym (nat_eq-true m n (sym (true-nat_eq n m eb))) ∙ ea))

itself : (n : ℕ) → nat_eq n n ≡ true
itself n = nat_eq-true n n refl

apart : (m n : ℕ) → nat_eq m n ≡ false → m ≡ n → ⊥
apart m n e same = differ (sym (nat_eq-true m n same) ∙ e)

-- ---- lists

gets_other : {X : Type 0} (xs : List X) (j i : ℕ) (x : X) → nat_eq i j ≡ false → slice_get (slice_set xs j x) i ≡ slice_get xs i
gets_other [] j i x e = refl
gets_other (y ∷ xs) zero zero x e = absurd (differ e)
gets_other (y ∷ xs) zero (suc i) x e = refl
gets_other (y ∷ xs) (suc j) zero x e = refl
gets_other (y ∷ xs) (suc j) (suc i) x e = gets_other xs j i x (shift j i e)
  where
    shift : (j i : ℕ) → nat_eq (suc i) (suc j) ≡ false → nat_eq i j ≡ false
    shift j i e = grind (arith, nat_tests)

gets_same : {X : Type 0} (xs : List X) (j : ℕ) (x : X) → j < length xs → slice_get (slice_set xs j x) j ≡ Some x
gets_same [] j x h = absurd (omega arith)
gets_same (y ∷ xs) zero x h = refl
gets_same (y ∷ xs) (suc j) x h = gets_same xs j x (omega arith)

-- ---- memory

-- a byte of memory behind a store
stored_at : (space at bytes n i : ℕ) (m : FinMap nat_cmp ℕ) → byte_in (stored space at bytes n m) i ≡ byte_stored space at bytes n i (byte_in m i)
stored_at space at zero n i m = refl
stored_at space at (suc bytes) n i m =
    byte_in-put (stored space (at + 1) bytes (n / 256) m) (at % space) (n % 256) i
    ∙ ap (λ (b : Bool). if b then n % 256 else byte_in (stored space (at + 1) bytes (n / 256) m) i) (turned i (at % space))
    ∙ ap (λ (old : ℕ). if nat_eq (at % space) i then n % 256 else old) (stored_at space (at + 1) bytes (n / 256) i m)

-- ---- registers

-- a state has a number for each register that is declared
pub record HasNumber (s : State) (q j : ℕ) : Type 0 where
  pub file : q < length s.registers
  pub number : j < length (numbers_of s q)

file_there : (regs : List RegDecl) (files : List (List ℕ)) (q j : ℕ) → IsTrue (are_files regs files) → IsTrue (has_register regs q j)
    → (q < length files) × (j < length (unwrap_or (slice_get files q) []))
file_there [] files q j h has = absurd (differ (sym has))
file_there (decl ∷ regs) [] q j h has = absurd (differ (sym h))
file_there (decl ∷ regs) (numbers ∷ files) zero j h has =
    let count : length numbers ≡ register_count decl = true-nat_eq _ _ (both _ _ (both _ _ (both (is_file_of decl numbers) (are_files regs files) h).0).0).0 in
    let below : j < register_count decl = true-nat_lt j (register_count decl) has in
    (omega arith, omega arith)
file_there (decl ∷ regs) (numbers ∷ files) (suc q) j h has =
    let rest = file_there regs files q j (both (is_file_of decl numbers) (are_files regs files) h).1 has in
    (omega (arith, rest.0), rest.1)

-- ---- two states with the same at a resource

abbrev Same : ℕ → State → State → Type 0
Same zero t s = t.bytes ≡ s.bytes
Same (suc q) t s = slice_get t.registers q ≡ slice_get s.registers q

chained : (r : ℕ) (a b c : State) → Same r a b → Same r b c → Same r a c
chained zero a b c e f = e ∙ f
chained (suc q) a b c e f = e ∙ f

same_itself : (r : ℕ) (s : State) → Same r s s
same_itself zero s = refl
same_itself (suc q) s = refl

same_contents : (d : Parts) (r i : ℕ) (t s : State) → Same r t s → contents_of d t r i ≡ contents_of d s r i
same_contents d zero i t s e = ap (λ (m : FinMap nat_cmp ℕ). record { width = 8; number = byte_in m i }) e
same_contents d (suc q) i t s e =
    ap (λ (o : Option (List ℕ)). record { width = register_width d.regs q; number = if is_zero_register d.regs q i then 0 else slice_index (unwrap_or o []) i }) e

same_number : (t s : State) (q j : ℕ) → Same (suc q) t s → HasNumber s q j → q < length t.registers → HasNumber t q j
same_number t s q j e h file = record { file = file; number = subst (λ (o : Option (List ℕ)). j < length (unwrap_or o [])) (sym e) h.number }

-- a write of another resource
other_register : (d : Parts) (q j i n : ℕ) (t : State) → nat_eq q i ≡ false → slice_get (register_written d i j n t).registers q ≡ slice_get t.registers q
other_register d q j i n t e = go (is_zero_register d.regs i j)
  where
    go : (b : Bool) → slice_get (if b then t else record { pc = t.pc; registers = slice_set t.registers i (slice_set (numbers_of t i) j n); bytes = t.bytes }).registers q ≡ slice_get t.registers q
    go true = refl
    go false = gets_other t.registers i q (slice_set (numbers_of t i) j n) e

other_bytes : (d : Parts) (i j n : ℕ) (t : State) → (register_written d i j n t).bytes ≡ t.bytes
other_bytes d i j n t = go (is_zero_register d.regs i j)
  where
    go : (b : Bool) → (if b then t else record { pc = t.pc; registers = slice_set t.registers i (slice_set (numbers_of t i) j n); bytes = t.bytes }).bytes ≡ t.bytes
    go true = refl
    go false = refl

other_resource : (d : Parts) (r : ℕ) (resource : ResourceId) (at : Option BitValue) (value : BitValue) (t : State) → has_number r resource ≡ false
    → Same r (resource_written d resource at value t) t
other_resource d zero Memory at value t e = absurd (differ e)
other_resource d (suc q) Memory (Some at) value t e = refl
other_resource d (suc q) Memory None value t e = refl
other_resource d zero (Reg i) None value t e = other_bytes d i.0 0 value.number t
other_resource d zero (Reg i) (Some at) value t e = other_bytes d i.0 at.number value.number t
other_resource d (suc q) (Reg i) None value t e = other_register d q 0 i.0 value.number t e
other_resource d (suc q) (Reg i) (Some at) value t e = other_register d q at.number i.0 value.number t e

-- ---- a write of the resource itself

-- a state with a number in the place of another
abbrev changed : ℕ → ℕ → ℕ → State → State
changed q j n t = record { pc = t.pc; registers = slice_set t.registers q (slice_set (numbers_of t q) j n); bytes = t.bytes }

-- what a register reads, where these are the numbers of its file
abbrev read_in : Parts → ℕ → ℕ → Bool → List ℕ → BitValue
read_in d q i zero_here xs = record { width = register_width d.regs q; number = if zero_here then 0 else slice_index xs i }

abbrev number_at : Parts → ℕ → ℕ → BitValue
number_at d q n = record { width = register_width d.regs q; number = n }

hidden : (d : Parts) (q i n : ℕ) (xs : List ℕ) (b : Bool) → read_in d q i true xs ≡ (if b && false then number_at d q n else read_in d q i true xs)
hidden d q i n xs true = refl
hidden d q i n xs false = refl

-- a register behind a write of one of its file, where that register is there
own_register : (d : Parts) (q j i n : ℕ) (t : State) → HasNumber t q j
    → contents_of d (register_written d q j n t) (suc q) i ≡ (if nat_eq j i && not (is_zero_register d.regs q i) then number_at d q n else contents_of d t (suc q) i)
own_register d q j i n t there = go (nat_eq j i) refl (is_zero_register d.regs q i) refl (is_zero_register d.regs q j) refl
  where
    numbers : numbers_of (changed q j n t) q ≡ slice_set (numbers_of t q) j n
    numbers = ap (λ (o : Option (List ℕ)). unwrap_or o []) (gets_same t.registers q (slice_set (numbers_of t q) j n) there.file)

    go : (here : Bool) → nat_eq j i ≡ here → (zero_i : Bool) → is_zero_register d.regs q i ≡ zero_i → (zero_j : Bool) → is_zero_register d.regs q j ≡ zero_j
        → read_in d q i zero_i (numbers_of (if zero_j then t else changed q j n t) q) ≡ (if here && not zero_i then number_at d q n else read_in d q i zero_i (numbers_of t q))
    go here eh true ei true ej = hidden d q i n (numbers_of t q) here
    go here eh true ei false ej = hidden d q i n (numbers_of t q) here
    go true eh false ei true ej =
        let same : j ≡ i = true-nat_eq j i eh in
        absurd (differ (sym ej ∙ ap (is_zero_register d.regs q) same ∙ ei))
    go false eh false ei true ej = refl
    go true eh false ei false ej =
        let same : j ≡ i = true-nat_eq j i eh in
        let value : slice_index (slice_set (numbers_of t q) j n) j ≡ n = get_or-set_same (numbers_of t q) j n 0 there.number in
        ap (read_in d q i false) numbers ∙ ap (λ (k : ℕ). read_in d q k false (slice_set (numbers_of t q) j n)) (sym same) ∙ ap (number_at d q) value
    go false eh false ei false ej =
        ap (read_in d q i false) numbers ∙ ap (number_at d q) (get_or-set_other (numbers_of t q) j i n 0 (λ (e : i ≡ j). apart j i eh (sym e)))

-- ---- the writes of an instruction

-- what a write, where there is one, leaves at a location of its resource
abbrev Left : Parts → ℕ → Reads → ℕ → ℕ → BitValue → Option Write → BitValue
Left d word before r i old o =
    if option_map_or (λ (w : Write). is_named d word before w r i) o false && option_map_or (λ (w : Write). holds (value_of d w.guard word before)) o false
    then option_map_or (λ (w : Write). put_by d word before w r i old) o no_contents else old

-- a write that is made, or none
abbrev stepped : Parts → Option Made → State → State
stepped d None t = t
stepped d (Some m) t = resource_written d m.resource m.at m.value t

steps : (d : Parts) (made : Option Made) (mades : List Made) (s : State) → all_written d (cons_option made mades) s ≡ stepped d made (all_written d mades s)
steps d None mades s = refl
steps d (Some m) mades s = refl

and_true : (b : Bool) → (b && true) ≡ b
and_true true = refl
and_true false = refl

unmade : {X : Type 0} (b : Bool) (x y : X) → y ≡ (if b && false then x else y)
unmade true x y = refl
unmade false x y = refl

neither : (a b : Bool) → (a || b) ≡ false → (a ≡ false) × (b ≡ false)
neither true b e = absurd (differ e)
neither false b e = (refl, e)

negated : (b : Bool) → not b ≡ true → b ≡ false
negated true e = absurd (differ (sym e))
negated false e = refl

-- none of the writes is of the resource
abbrev Free : ℕ → List Write → Type 0
Free r [] = Unit {0}
Free r (w ∷ writes) = (has_number r w.resource ≡ false) × Free r writes

other_number : (r : ℕ) (a b : ResourceId) → has_number r a ≡ true → same_resource a b ≡ false → has_number r b ≡ false
other_number zero Memory Memory e f = absurd (differ f)
other_number zero Memory (Reg j) e f = refl
other_number zero (Reg i) b e f = absurd (differ (sym e))
other_number (suc q) Memory b e f = absurd (differ (sym e))
other_number (suc q) (Reg i) Memory e f = refl
other_number (suc q) (Reg i) (Reg j) e f = ap (λ (n : ℕ). nat_eq n j.0) (true-nat_eq q i.0 e) ∙ f

free_behind : (r : ℕ) (w : Write) (writes : List Write) → has_number r w.resource ≡ true → list_any (λ (x : Write). same_resource w.resource x.resource) writes ≡ false → Free r writes
free_behind r w [] e f = tt
free_behind r w (x ∷ writes) e f =
    let parts = neither (same_resource w.resource x.resource) (list_any (λ (y : Write). same_resource w.resource y.resource) writes) f in
    (other_number r w.resource x.resource e parts.0, free_behind r w writes e parts.1)

abbrev AreApart : List Write → Type 0
AreApart writes = IsTrue (all_differ (λ (v w : Write). same_resource v.resource w.resource) writes)

module _ (d : Parts) (word : ℕ) (before : Reads) (accepted : IsTrue (is_isa d)) (read : IsLawful d before) where
  abbrev made : Write → Option Made
  made w = made_by d w word before

  abbrev done : List Write → State → State
  done writes s = all_written d (filter_map (λ (w : Write). made_by d w word before) writes) s

  other_write : (r : ℕ) (w : Write) (t : State) → has_number r w.resource ≡ false → Same r (stepped d (made w) t) t
  other_write r w t e = go (holds (value_of d w.guard word before))
    where
      go : (b : Bool)
          → Same r (stepped d (if b then Some (record { resource = w.resource; at = option_map (λ at. value_of d at word before) w.at; value = value_of d w.value word before }) else None) t) t
      go true = other_resource d r w.resource (option_map (λ at. value_of d at word before) w.at) (value_of d w.value word before) t e
      go false = same_itself r t

  untouched : (r : ℕ) (writes : List Write) (s : State) → Free r writes → Same r (done writes s) s
  untouched r [] s free = same_itself r s
  untouched r (w ∷ writes) s free =
      subst (λ (z : State). Same r z s) (sym (steps d (made w) (filter_map (λ (x : Write). made_by d x word before) writes) s))
      (chained r (stepped d (made w) (done writes s)) (done writes s) s (other_write r w (done writes s) free.0) (untouched r writes s free.1))

  -- the register that a write writes is declared
  place_there : (q : ℕ) (resource : ResourceId) (at : Option Expr) (value : Expr) → has_number (suc q) resource ≡ true → IsTrue (is_write_of d resource at value)
      → IsTrue (has_register d.regs q (place_of d word before at))
  place_there q Memory at value e h = absurd (differ (sym e))
  place_there q (Reg i) None value e h =
      subst (λ (n : ℕ). IsTrue (has_register d.regs n 0)) (sym (true-nat_eq q i.0 e)) (single_register d.regs i.0 (both _ _ h).0)
  place_there q (Reg i) (Some at) value e h =
      let first = both _ _ (both _ _ h).0 in
      let is : IsValue (width_of d at) (value_of d at word before) = value_is d word before accepted read at first.0 in
      let below : (value_of d at word before).number < 2 ^ width_of d at = subst (λ (n : ℕ). (value_of d at word before).number < 2 ^ n) is.width_is is.value.below in
      subst (λ (n : ℕ). IsTrue (has_register d.regs n (value_of d at word before).number)) (sym (true-nat_eq q i.0 e))
      (file_register d.regs i.0 (width_of d at) (value_of d at word before).number first.1 below)

  -- the state has a number for the register that is written
  abbrev Here : ℕ → State → Option Expr → Type 0
  Here zero t at = Unit {0}
  Here (suc q) t at = HasNumber t q (place_of d word before at)

  own_resource : (r i : ℕ) (resource : ResourceId) (at : Option Expr) (w : Write) (t : State) → has_number r resource ≡ true → IsTrue (is_write_of d resource at w.value) → Here r t at
      → contents_of d (resource_written d resource (option_map (λ at. value_of d at word before) at) (value_of d w.value word before) t) r i
      ≡ (if is_named d word before (record w { at = at }) r i && true then put_by d word before (record w { at = at }) r i (contents_of d t r i) else contents_of d t r i)
  own_resource zero i Memory None w t e h here = absurd (differ (sym h))
  own_resource zero i Memory (Some at) w t e h here =
      ap (λ (n : ℕ). record { width = 8; number = n }) (stored_at (2 ^ d.pc.width) (value_of d at word before).number ((value_of d w.value word before).width / 8) (value_of d w.value word before).number i t.bytes)
  own_resource zero i (Reg k) at w t e h here = absurd (differ (sym e))
  own_resource (suc q) i Memory at w t e h here = absurd (differ (sym e))
  own_resource (suc q) i (Reg k) None w t e h here =
      let n : ℕ = (value_of d w.value word before).number in
      ap (λ (z : ℕ). contents_of d (register_written d z 0 n t) (suc q) i) (sym (true-nat_eq q k.0 e)) ∙ own_register d q 0 i n t here
      ∙ ap (λ (b : Bool). if b then record { width = register_width d.regs q; number = n } else contents_of d t (suc q) i) (sym (and_true (nat_eq 0 i && not (is_zero_register d.regs q i))))
  own_resource (suc q) i (Reg k) (Some at) w t e h here =
      let n : ℕ = (value_of d w.value word before).number in
      let j : ℕ = (value_of d at word before).number in
      ap (λ (z : ℕ). contents_of d (register_written d z j n t) (suc q) i) (sym (true-nat_eq q k.0 e)) ∙ own_register d q j i n t here
      ∙ ap (λ (b : Bool). if b then record { width = register_width d.regs q; number = n } else contents_of d t (suc q) i) (sym (and_true (nat_eq j i && not (is_zero_register d.regs q i))))

  own_write : (r i : ℕ) (w : Write) (t : State) → has_number r w.resource ≡ true → IsTrue (is_write d w) → Here r t w.at
      → contents_of d (stepped d (made w) t) r i ≡ Left d word before r i (contents_of d t r i) (Some w)
  own_write r i w t e typed here = go (holds (value_of d w.guard word before))
    where
      go : (b : Bool)
          → contents_of d (stepped d (if b then Some (record { resource = w.resource; at = option_map (λ at. value_of d at word before) w.at; value = value_of d w.value word before }) else None) t) r i
          ≡ (if is_named d word before w r i && b then put_by d word before w r i (contents_of d t r i) else contents_of d t r i)
      go true = own_resource r i w.resource w.at w t e (both _ _ typed).1 here
      go false = unmade (is_named d word before w r i) (put_by d word before w r i (contents_of d t r i)) (contents_of d t r i)

  -- a state that has a number for each declared register
  abbrev IsWhole : State → Type 0
  IsWhole s = (q j : ℕ) → IsTrue (has_register d.regs q j) → HasNumber s q j

  here_still : (r : ℕ) (w : Write) (t s : State) → has_number r w.resource ≡ true → IsTrue (is_write d w) → IsWhole s → Same r t s → Here r t w.at
  here_still zero w t s e typed whole same = tt
  here_still (suc q) w t s e typed whole same =
      let there = whole q (place_of d word before w.at) (place_there q w.resource w.at w.value e (both _ _ typed).1) in
      let found : slice_get t.registers q ≡ Some (get_or s.registers q []) = same ∙ slice_get-get_or s.registers q [] there.file in
      same_number t s q (place_of d word before w.at) same there (slice_get_within t.registers q (get_or s.registers q []) found)

  -- what is at a location behind the writes of an instruction
  written_at : (r i : ℕ) (writes : List Write) (s : State) → IsTrue (list_all (is_write d) writes) → AreApart writes → IsWhole s
      → contents_of d (done writes s) r i ≡ Left d word before r i (contents_of d s r i) (write_to r writes)
  written_at r i [] s typed different whole = refl
  written_at r i (w ∷ writes) s typed different whole =
      let typings = both (is_write d w) (list_all (is_write d) writes) typed in
      let parts = both (not (list_any (λ (x : Write). same_resource w.resource x.resource) writes)) (all_differ (λ (v w : Write). same_resource v.resource w.resource) writes) different in
      ap (λ (z : State). contents_of d z r i) (steps d (made w) (filter_map (λ (x : Write). made_by d x word before) writes) s)
      ∙ go typings.0 (negated (list_any (λ (x : Write). same_resource w.resource x.resource) writes) parts.0) (written_at r i writes s typings.1 parts.1 whole) (has_number r w.resource) refl
    where
      go : IsTrue (is_write d w) → list_any (λ (x : Write). same_resource w.resource x.resource) writes ≡ false
          → contents_of d (done writes s) r i ≡ Left d word before r i (contents_of d s r i) (write_to r writes)
          → (b : Bool) → has_number r w.resource ≡ b
          → contents_of d (stepped d (made w) (done writes s)) r i ≡ Left d word before r i (contents_of d s r i) (if b then Some w else write_to r writes)
      go first none rest true e =
          let same : Same r (done writes s) s = untouched r writes s (free_behind r w writes e none) in
          own_write r i w (done writes s) e first (here_still r w (done writes s) s e first whole same)
          ∙ ap (λ (old : BitValue). Left d word before r i old (Some w)) (same_contents d r i (done writes s) s same)
      go first none rest false e = same_contents d r i (stepped d (made w) (done writes s)) (done writes s) (other_write r w (done writes s) e) ∙ rest

-- ---- runs

whole_state : (d : Parts) (s : State) → IsState d s → ((q j : ℕ) → IsTrue (has_register d.regs q j) → HasNumber s q j)
whole_state d s h q j has = let there = file_there d.regs s.registers q j h.files has in record { file = there.0; number = there.1 }

-- the contents do not hang on the program counter
after_instr : (d : Parts) (instr : Instr) (word : ℕ) (s : State) (r i : ℕ) → contents_of d (state_after d instr word s) r i ≡ contents_of d (all_written d (effect_of d instr word (reads_of d s)) s) r i
after_instr d instr word s zero i = refl
after_instr d instr word s (suc q) i = refl

-- what is at a location behind an instruction of the run
pub run_has : (d : Parts) (micro : Micro) (i : Image) (first : State) → IsTrue (is_isa d) → IsState d first → (k : ℕ) (x : Fetched)
    → code_at d i (run_from d i first k).pc ≡ Some x → (r at : ℕ)
    → (run_from d i first (suc k)).has r at ≡ written (seen d micro i) x (run_from d i first k) r at ((run_from d i first k).has r at)
run_has d micro i first accepted h k x e r at =
    let s : State = after d i k first in
    let here : IsState d s = run_kept d i k first accepted h in
    let step = code_steps d i s x e in
    let typed : IsTrue (is_instr d step.0) = instr_typed d x.instr step.0 accepted step.1 in
    let writes : writes_in d x ≡ step.0.writes = ap (λ (o : Option Instr). option_map_or (λ (instr : Instr). instr.writes) o []) step.1 in
    ap (λ (z : Step). contents_of d (behind z s) r at) step.2
    ∙ after_instr d step.0 x.word s r at
    ∙ written_at d x.word (reads_of d s) accepted (lawful d s here) r at step.0.writes s (writes_typed d step.0 typed) (both _ _ (kept_instr d step.0 typed).writes).1 (whole_state d s here)
    ∙ sym (ap (λ (ws : List Write). Left d x.word (reads_of d s) r at (contents_of d s r at) (write_to r ws)) writes)

-- the run of an image is one of its description
pub run_is : (d : Parts) (micro : Micro) (i : Image) (first : State) → IsTrue (is_isa d) → IsState d first → IsRun (seen d micro i) (run_from d i first)
run_is d micro i first accepted h = record {
  next = λ k x e. run_goes_on d micro i first k x e;
  has = λ k x e r at. run_has d micro i first accepted h k x e r at;
}
