-- Numbers of nodes that are told apart only as far as they are not too great.
use Rattle.std.proofs.Common.{◌≡◌, ℕ, suc, ◌+◌, ◌<◌, ◌≤◌, Bool, List, [], ◌∷◌, ◌++◌, Option, Some, None, length, get_or, drop, refl, sym, ap, ◌∙◌, arith, if◌then◌else◌}
use Rattle.std.specs.Prelude.{min, slice_get}
use Rattle.std.proofs.lemmas.Bool.{le-leb, lt-leb}
use Rattle.std.proofs.lemmas.List.{drop_more, drop_all}
use Rattle.vg_inline.specs.declared.keep.Keep.{Keep}
use Rattle.vg_inline.specs.declared.kept.Kept.{Kept}
use Rattle.vg_inline.specs.Counting.{capped}
use Rattle.vg_inline.specs.Kept.{argument_nodes, argument_parameters, nodes_of, parameters_in, kept_body, kept_call}
use Rattle.vg_inline.proofs.Loops.{ending}

-- the nodes for the parameters from number i on are still to be counted
abbrev pub Counting : Keep → List (Option Kept) → ℕ → List ℕ → ℕ → ℕ → Type 0
Counting keep arguments first ps i total = (capped keep (first + nodes_of keep arguments ps) ≡ capped keep (total + nodes_of keep arguments (drop i ps))) × (total ≤ suc keep.most)

counted_more : (most a b c n total next : ℕ) → a ≡ min (total + (b + c)) (suc most) → n ≡ b → next ≡ min (total + n) (suc most) → a ≡ min (next + c) (suc most)
counted_more most a b c n total next h e g = omega arith

pub counting_more : (keep : Keep) (arguments : List (Option Kept)) (first : ℕ) (ps : List ℕ) (i p total n next : ℕ) → Counting keep arguments first ps i total → i < length ps → p ≡ get_or ps i p → n ≡ argument_nodes keep (slice_get arguments p) → next ≡ capped keep (total + n) → Counting keep arguments first ps (i + 1) next
counting_more keep arguments first ps i p total n next h lt read e g = (
  counted_more keep.most (capped keep (first + nodes_of keep arguments ps)) (argument_nodes keep (slice_get arguments p)) (nodes_of keep arguments (drop (i + 1) ps)) n total next
      (h.0 ∙ ap (λ (l : List ℕ). capped keep (total + nodes_of keep arguments l)) (drop_more ps i p lt) ∙ ap (λ (q : ℕ). capped keep (total + (argument_nodes keep (slice_get arguments q) + nodes_of keep arguments (drop (i + 1) ps)))) (sym read)) e g,
  (omega arith),
)

nothing_more : (most a total : ℕ) → a ≡ min (total + 0) (suc most) → total ≤ suc most → total ≡ a
nothing_more most a total e le = omega arith

pub counting_all : (keep : Keep) (arguments : List (Option Kept)) (first : ℕ) (ps : List ℕ) (i total : ℕ) → Counting keep arguments first ps i total → length ps ≤ i → total ≡ capped keep (first + nodes_of keep arguments ps)
counting_all keep arguments first ps i total h le =
    nothing_more keep.most (capped keep (first + nodes_of keep arguments ps)) total (h.0 ∙ ap (λ (l : List ℕ). capped keep (total + nodes_of keep arguments l)) (drop_all i ps le)) h.1

-- the parameters behind number i are still to be looked up
abbrev pub Listing : List (Option Kept) → List ℕ → ℕ → List ℕ → Type 0
Listing arguments ps i list = parameters_in arguments ps ≡ list ++ parameters_in arguments (drop i ps)

-- a call that doesn't have too many nodes is made
pub call_made : (keep : Keep) (arguments : List (Option Kept)) (body : Kept) (nodes : ℕ) (made : Option Kept) → nodes ≡ capped keep (body.nodes + nodes_of keep arguments body.parameters) → nodes ≤ keep.most
    → made ≡ kept_body keep arguments body nodes → made ≡ kept_call keep arguments (Some body)
call_made keep arguments body nodes made e le is =
    let same : nodes ≡ body.nodes + nodes_of keep arguments body.parameters = exact keep.most nodes (body.nodes + nodes_of keep arguments body.parameters) e le in
    is ∙ ap (kept_body keep arguments body) same
    ∙ sym (ap (λ (b : Bool). if b then kept_body keep arguments body (body.nodes + nodes_of keep arguments body.parameters) else None) (le-leb (body.nodes + nodes_of keep arguments body.parameters) keep.most (few keep.most nodes (body.nodes + nodes_of keep arguments body.parameters) e le)))
  where
    exact : (most n m : ℕ) → n ≡ min m (suc most) → n ≤ most → n ≡ m
    exact most n m e le = omega arith

    few : (most n m : ℕ) → n ≡ min m (suc most) → n ≤ most → m ≤ most
    few most n m e le = omega arith

pub call_refused : (keep : Keep) (arguments : List (Option Kept)) (body : Kept) (nodes : ℕ) → nodes ≡ capped keep (body.nodes + nodes_of keep arguments body.parameters) → keep.most < nodes → None ≡ kept_call keep arguments (Some body)
call_refused keep arguments body nodes e lt =
    sym (ap (λ (b : Bool). if b then kept_body keep arguments body (body.nodes + nodes_of keep arguments body.parameters) else None) (lt-leb (body.nodes + nodes_of keep arguments body.parameters) keep.most (much keep.most nodes (body.nodes + nodes_of keep arguments body.parameters) e lt)))
  where
    much : (most n m : ℕ) → n ≡ min m (suc most) → most < n → most < m
    much most n m e lt = omega arith

pub listing_more : (arguments : List (Option Kept)) (ps : List ℕ) (i p : ℕ) (list next : List ℕ) → Listing arguments ps i list → i < length ps → p ≡ get_or ps i p → next ≡ list ++ argument_parameters (slice_get arguments p) → Listing arguments ps (i + 1) next
listing_more arguments ps i p list next h lt read e =
    h ∙ ap (λ (l : List ℕ). list ++ parameters_in arguments l) (drop_more ps i p lt)
    ∙ ap (λ (q : ℕ). list ++ (argument_parameters (slice_get arguments q) ++ parameters_in arguments (drop (i + 1) ps))) (sym read)
    ∙ sym (again list (argument_parameters (slice_get arguments p)) (parameters_in arguments (drop (i + 1) ps)))
    ∙ ap (λ (l : List ℕ). l ++ parameters_in arguments (drop (i + 1) ps)) (sym e)
  where
    again : (xs ys zs : List ℕ) → (xs ++ ys) ++ zs ≡ xs ++ (ys ++ zs)
    again [] ys zs = refl
    again (x ∷ xs) ys zs = ap (λ (l : List ℕ). x ∷ l) (again xs ys zs)

pub listing_all : (arguments : List (Option Kept)) (ps : List ℕ) (i : ℕ) (list : List ℕ) → Listing arguments ps i list → length ps ≤ i → list ≡ parameters_in arguments ps
listing_all arguments ps i list h le = sym (h ∙ ap (λ (l : List ℕ). list ++ parameters_in arguments l) (drop_all i ps le) ∙ ending list)
