-- What is in the lists of an instruction: its writes, their trees, and the parts that have to come in time.
use Rattle.std.proofs.Common.{◌≡◌, ℕ, zero, suc, ◌≤◌, ◌-◌, Bool, true, false, IsTrue, List, [], ◌∷◌, ◌++◌, flat_map, slice_get, Option, Some, None, unwrap_or, ◌⊎◌, inl, inr, refl, sym, ap, subst, if◌then◌else◌, arith}
use Rattle.std.specs.Option.{option_map_or, option_to_list}
use Rattle.std.specs.List.{list_all}
use Rattle.std.proofs.lemmas.Bool.Decides.{nat_tests}
use Rattle.vg_isa.specs.declared.expr.Expr.{Expr}
use Rattle.vg_isa.specs.declared.ids.ResourceId.{ResourceId}
use Rattle.vg_isa.specs.declared.ids.ResourceId.TheVariants.{Memory, Reg}
use Rattle.vg_isa.specs.declared.instr.Write.{Write}
use Rattle.vg_isa.specs.declared.instr.Instr.{Instr}
use Rattle.vg_isa.specs.Node.{write_trees, next_trees}
use Rattle.vg_isa.proofs.Tests.{both}
use Rattle.vg_place.specs.declared.stage_table.Stages.{Stages}
use Rattle.vg_place.specs.declared.stage_table.Access.{Access}
use Rattle.vg_place.specs.Stage.{stage_of, address_stage, write_stage}
use Rattle.vg_place.specs.Unplaced.{Part, tree_parts, write_parts, next_parts, parts_of, Stands}
use Rattle.vg_pipe.specs.Trees.{has_number, write_to, all_trees}
use Rattle.vg_pipe.specs.Seen.{written_in}
use Rattle.vg_pipe.proofs.Reading.{no}

-- ---- writes

-- a write stands among writes
abbrev pub Member : Write → List Write → Type 0
Member w [] = ⊥
Member w (x ∷ writes) = (w ≡ x) ⊎ Member w writes

-- what holds of none and of each write of the resource, holds of the one that there is
pub by_write : (P : Option Write → Type 0) (r : ℕ) (writes : List Write) → P None → ((w : Write) → Member w writes → has_number r w.resource ≡ true → P (Some w)) → P (write_to r writes)
by_write P r [] none some = none
by_write P r (w ∷ writes) none some = go (by_write P r writes none (λ x m f. some x (inr m) f)) (has_number r w.resource) refl
  where
    go : P (write_to r writes) → (b : Bool) → has_number r w.resource ≡ b → P (if b then Some w else write_to r writes)
    go rest true e = some w (inl refl) e
    go rest false e = rest

pub member_all : (p : Write → Bool) (writes : List Write) (w : Write) → IsTrue (list_all p writes) → Member w writes → IsTrue (p w)
member_all p [] w h m = absurd m
member_all p (x ∷ writes) w h (inl e) = subst (λ (z : Write). IsTrue (p z)) (sym e) (both (p x) (list_all p writes) h).0
member_all p (x ∷ writes) w h (inr m) = member_all p writes w (both (p x) (list_all p writes) h).1 m

-- ---- trees

abbrev pub In : Expr → List Expr → Type 0
In e [] = ⊥
In e (t ∷ trees) = (e ≡ t) ⊎ In e trees

pub in_front : (e : Expr) (xs ys : List Expr) → In e xs → In e (xs ++ ys)
in_front e [] ys m = absurd m
in_front e (x ∷ xs) ys (inl same) = inl same
in_front e (x ∷ xs) ys (inr m) = inr (in_front e xs ys m)

pub in_back : (e : Expr) (xs ys : List Expr) → In e ys → In e (xs ++ ys)
in_back e [] ys m = m
in_back e (x ∷ xs) ys m = inr (in_back e xs ys m)

pub tree_in : (w : Write) (writes : List Write) (next : Option (Expr × Expr)) (e : Expr) → Member w writes → In e (write_trees w) → In e (all_trees writes next)
tree_in w writes next e m here = in_front e (flat_map write_trees writes) (next_trees next) (among writes m)
  where
    among : (xs : List Write) → Member w xs → In e (flat_map write_trees xs)
    among [] m = absurd m
    among (x ∷ xs) (inl same) = in_front e (write_trees x) (flat_map write_trees xs) (subst (λ (z : Write). In e (write_trees z)) same here)
    among (x ∷ xs) (inr m) = in_back e (write_trees x) (flat_map write_trees xs) (among xs m)

pub guard_in : (w : Write) → In w.guard (write_trees w)
guard_in w = inl refl

pub value_in : (w : Write) → In w.value (write_trees w)
value_in w = inr (in_back w.value (option_to_list w.at) (w.value ∷ []) (inl refl))

pub at_in : (w : Write) (at : Expr) → w.at ≡ Some at → In at (write_trees w)
at_in w at e = inr (subst (λ (o : Option Expr). In at (option_to_list o ++ w.value ∷ [])) (sym e) (inl refl))

-- ---- parts in time

-- a tree is there when it is needed, and so is the address of a memory read in it
abbrev pub Timely : Stages → ℕ → Expr → Type 0
Timely s needed e = (stage_of s e ≤ needed) × (address_stage s e ≤ s.memory.read)

abbrev pub AtTimely : Stages → ℕ → Option Expr → Type 0
AtTimely s needed None = Unit {0}
AtTimely s needed (Some at) = Timely s needed at

abbrev pub WriteTimely : Stages → Write → Type 0
WriteTimely s w = Timely s (write_stage s w.resource) w.guard × AtTimely s (write_stage s w.resource) w.at × Timely s (write_stage s w.resource) w.value

abbrev pub WritesTimely : Stages → List Write → Type 0
WritesTimely s [] = Unit {0}
WritesTimely s (w ∷ writes) = WriteTimely s w × WritesTimely s writes

abbrev pub NextTimely : Stages → Option (Expr × Expr) → Type 0
NextTimely s None = Unit {0}
NextTimely s (Some next) = Timely s s.resolve next.0 × Timely s s.resolve next.1

pub member_timely : (s : Stages) (writes : List Write) (w : Write) → WritesTimely s writes → Member w writes → WriteTimely s w
member_timely s [] w h m = absurd m
member_timely s (x ∷ writes) w h (inl e) = subst (λ (z : Write). WriteTimely s z) (sym e) h.0
member_timely s (x ∷ writes) w h (inr m) = member_timely s writes w h.1 m

abbrev AllParts : List Part → Type 0
AllParts [] = Unit {0}
AllParts (part ∷ parts) = (part.ready ≤ part.needed) × AllParts parts

all_parts : (parts : List Part) → ((part : Part) → Stands part parts → part.ready ≤ part.needed) → AllParts parts
all_parts [] h = tt
all_parts (part ∷ parts) h = (h part (0, refl), all_parts parts (λ other stands. h other (suc stands.0, stands.1)))

split : (xs ys : List Part) → AllParts (xs ++ ys) → AllParts xs × AllParts ys
split [] ys h = (tt, h)
split (x ∷ xs) ys h = let rest = split xs ys h.1 in ((h.0, rest.0), rest.1)

at_split : (s : Stages) (read_at spot needed : ℕ) (o : Option Expr) (rest : List Part)
    → AllParts (option_map_or (λ (at : Expr). tree_parts s read_at at spot needed) o [] ++ rest) → AtTimely s needed o × AllParts rest
at_split s read_at spot needed None rest h = (tt, h)
at_split s read_at spot needed (Some at) rest h = ((h.0, h.1.0), h.1.1)

write_timely : (s : Stages) (read_at : ℕ) (w : Write) → AllParts (write_parts s read_at w) → WriteTimely s w
write_timely s read_at w h =
    let rest = at_split s read_at (unwrap_or w.at_spot 0) (write_stage s w.resource) w.at (tree_parts s read_at w.value w.value_spot (write_stage s w.resource)) h.1.1 in
    ((h.0, h.1.0), rest.0, (rest.1.0, rest.1.1.0))

writes_timely : (s : Stages) (read_at : ℕ) (writes : List Write) → AllParts (flat_map (write_parts s read_at) writes) → WritesTimely s writes
writes_timely s read_at [] h = tt
writes_timely s read_at (w ∷ writes) h =
    let parts = split (write_parts s read_at w) (flat_map (write_parts s read_at) writes) h in
    (write_timely s read_at w parts.0, writes_timely s read_at writes parts.1)

next_timely : (s : Stages) (instr : Instr) (next : Option (Expr × Expr)) → instr.next ≡ next → AllParts (next_parts s instr) → NextTimely s next
next_timely s instr None e h = tt
next_timely s instr (Some next) e h =
    let read_at : ℕ = unwrap_or instr.read_spot 0 in
    let places : ℕ × ℕ = option_map_or (λ (spots : Option ℕ × ℕ). (unwrap_or spots.0 0, spots.1)) instr.next_spots (0, 0) in
    let k : AllParts (tree_parts s read_at next.0 places.0 s.resolve ++ tree_parts s read_at next.1 places.1 s.resolve)
    = subst (λ (o : Option (Expr × Expr)). AllParts (option_map_or (λ (n : Expr × Expr). tree_parts s read_at n.0 places.0 s.resolve ++ tree_parts s read_at n.1 places.1 s.resolve) o [])) e h in
    ((k.0, k.1.0), (k.1.1.0, k.1.1.1.0))

-- an instruction whose parts are in time
pub instr_timely : (s : Stages) (instr : Instr) → ((part : Part) → Stands part (parts_of s instr) → part.ready ≤ part.needed) → WritesTimely s instr.writes × NextTimely s instr.next
instr_timely s instr h =
    let parts = split (flat_map (write_parts s (unwrap_or instr.read_spot 0)) instr.writes) (next_parts s instr) (all_parts (parts_of s instr) h) in
    (writes_timely s (unwrap_or instr.read_spot 0) instr.writes parts.0, next_timely s instr instr.next refl parts.1)

-- ---- the addresses of all trees are there in time

abbrev pub Bounded : Stages → List Expr → Type 0
Bounded s [] = Unit {0}
Bounded s (e ∷ trees) = (address_stage s e ≤ s.memory.read) × Bounded s trees

bounded-append : (s : Stages) (xs ys : List Expr) → Bounded s xs → Bounded s ys → Bounded s (xs ++ ys)
bounded-append s [] ys h k = k
bounded-append s (x ∷ xs) ys h k = (h.0, bounded-append s xs ys h.1 k)

write_bounded : (s : Stages) (needed : ℕ) (w : Write) (o : Option Expr) → (address_stage s w.guard ≤ s.memory.read) → AtTimely s needed o → (address_stage s w.value ≤ s.memory.read) → Bounded s (w.guard ∷ option_to_list o ++ w.value ∷ [])
write_bounded s needed w None g h v = (g, (v, tt))
write_bounded s needed w (Some at) g h v = (g, (h.1, (v, tt)))

pub all_bounded : (s : Stages) (writes : List Write) (next : Option (Expr × Expr)) → WritesTimely s writes → NextTimely s next → Bounded s (all_trees writes next)
all_bounded s writes next h k = bounded-append s (flat_map write_trees writes) (next_trees next) (of_writes writes h) (of_next next k)
  where
    of_writes : (xs : List Write) → WritesTimely s xs → Bounded s (flat_map write_trees xs)
    of_writes [] h = tt
    of_writes (w ∷ xs) h = bounded-append s (write_trees w) (flat_map write_trees xs) (write_bounded s (write_stage s w.resource) w w.at h.0.0.1 h.0.1 h.0.2.1) (of_writes xs h.1)

    of_next : (o : Option (Expr × Expr)) → NextTimely s o → Bounded s (next_trees o)
    of_next None k = tt
    of_next (Some next) k = (k.0.1, (k.1.1, tt))

-- ---- resources

-- the write stage of a resource by its number
pub number_stage : (s : Stages) (r : ℕ) (resource : ResourceId) → has_number r resource ≡ true → write_stage s resource ≡ written_in s r
number_stage s zero Memory e = refl
number_stage s zero (Reg q) e = absurd (no e)
number_stage s (suc r) Memory e = absurd (no e)
number_stage s (suc r) (Reg q) e =
    let same : q.0 ≡ r = grind (arith, nat_tests) in
    ap (λ (n : ℕ). option_map_or (λ (a : Access). a.write) (slice_get s.registers n) (s.count - 1)) same
