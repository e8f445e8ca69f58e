-- What the search for a way back to a node keeps.
use Rattle.std.proofs.Common.{◌≡◌, ◌≢◌, ℕ, zero, suc, ◌+◌, ◌<◌, ◌⊎◌, inl, inr, Bool, true, false, not, List, [], ◌∷◌, ◌++◌, length, get_or, take, set, replicate, refl, sym, ap, subst, ◌∙◌, arith, true≢false, length-set, get_or-set_other, get_or-set_same}
use Rattle.std.specs.List.{All, Contains, count_by}
use Rattle.std.proofs.lemmas.Bool.{cases_eq}
use Rattle.std.proofs.lemmas.List.{length_push, length-replicate, take_more}
use Rattle.std.proofs.lemmas.List.Elements.{All-weaker, All-nil, All-push, All-contains, Contains-append_left, Contains-get_or, Contains-push, Contains-push_cases}
use Rattle.vg_names.specs.Graph.{uses_at, IsClosed, Leads, directly, through}
use Rattle.vg_names.specs.Search.{IsPassed, seen_at}
use Rattle.vg_names.proofs.Counts.{count_less}
use Rattle.vg_names.proofs.Nodes.{none, only, leads_push}

-- the uses in front were met
pub record IsMeeting (sought : ℕ) (front uses : List ℕ) (old new : List Bool) (before after : List ℕ) : Type 0 where
  pub marked : length new ≡ length old
  pub met : All (IsPassed new sought) front
  pub seen : (k : ℕ) → seen_at old k ≡ true → seen_at new k ≡ true
  pub noted : (k : ℕ) → seen_at new k ≡ true → (seen_at old k ≡ true) ⊎ Contains after k
  pub kept : (k : ℕ) → Contains before k → Contains after k
  pub added : (k : ℕ) → Contains after k → Contains before k ⊎ Contains uses k
  pub less : count_by not new + length after ≡ count_by not old + length before

pub meeting_start : (sought : ℕ) (uses : List ℕ) (old : List Bool) (before : List ℕ) → IsMeeting sought [] uses old old before before
meeting_start sought uses old before =
    record { marked = refl; met = All-nil (IsPassed old sought); seen = λ k e. e; noted = λ k e. inl e; kept = λ k c. c; added = λ k c. inl c; less = refl }

module _ (sought : ℕ) (front uses : List ℕ) (old new : List Bool) (before after : List ℕ) (h : IsMeeting sought front uses old new before after) (used : ℕ) (other_than : used ≢ sought) where
  pub meeting_seen : seen_at new used ≡ true → IsMeeting sought (front ++ used ∷ []) uses old new before after
  meeting_seen e = record { marked = h.marked; met = All-push (IsPassed new sought) front used h.met (e, other_than); seen = h.seen; noted = h.noted; kept = h.kept; added = h.added; less = h.less }

  grown : used < length new → (k : ℕ) → seen_at new k ≡ true → seen_at (set new used true) k ≡ true
  grown lt k e = elim (cases_eq k used) [
    | inl same ↦ ap (seen_at (set new used true)) same ∙ get_or-set_same new used true false lt
    | inr other ↦ get_or-set_other new used k true false other ∙ e
  ]

  pub meeting_new : used < length new → seen_at new used ≡ false → Contains uses used → IsMeeting sought (front ++ used ∷ []) uses old (set new used true) before (after ++ used ∷ [])
  meeting_new lt fresh among =
      let one : count_by not (set new used true) + 1 ≡ count_by not new = count_less not new used true false lt (ap not fresh) refl in
      let more : length (after ++ used ∷ []) ≡ length after + 1 = length_push after used in
      record {
        marked = length-set new used true ∙ h.marked;
        met = All-push (IsPassed (set new used true) sought) front used
            (All-weaker (IsPassed new sought) (IsPassed (set new used true) sought) (λ j p. (grown lt j p.0, p.1)) front h.met)
            (get_or-set_same new used true false lt, other_than);
        seen = λ k e. grown lt k (h.seen k e);
        noted = λ k e. elim (cases_eq k used) [
          | inl same ↦ inr (subst (Contains (after ++ used ∷ [])) (sym same) (Contains-push after used))
          | inr other ↦ elim (h.noted k (sym (get_or-set_other new used k true false other) ∙ e))
              [ inl a ↦ inl a | inr b ↦ inr (Contains-append_left after (used ∷ []) k b) ]
        ];
        kept = λ k c. Contains-append_left after (used ∷ []) k (h.kept k c);
        added = λ k c. elim (Contains-push_cases after used k c) [ inl a ↦ h.added k a | inr same ↦ inr (subst (Contains uses) same among) ];
        less = omega (arith, one, more, h.less);
      }

-- in the middle of the search from a node, where the uses of these nodes are still to be met
pub record IsWalk (graph : List (List ℕ)) (node : ℕ) (seen : List Bool) (work : List ℕ) : Type 0 where
  pub marked : length seen ≡ length graph
  pub start : seen_at seen node ≡ true
  pub within : (k : ℕ) → Contains work k → k < length graph
  pub reached : (k : ℕ) → Contains work k → (k ≡ node) ⊎ Leads graph node k
  pub met : (k : ℕ) → seen_at seen k ≡ true → Contains work k ⊎ All (IsPassed seen node) (uses_at graph k)

unseen : (n k : ℕ) → seen_at (replicate n false) k ≡ false
unseen zero k = refl
unseen (suc n) zero = refl
unseen (suc n) (suc k) = unseen n k

pub walk_start : (graph : List (List ℕ)) (node : ℕ) → node < length graph → IsWalk graph node (set (replicate (length graph) false) node true) (node ∷ [])
walk_start graph node lt =
    let fresh = replicate (length graph) false in
    let room : length (replicate (length graph) false) ≡ length graph = length-replicate (length graph) false in
    record {
      marked = length-set fresh node true ∙ room;
      start = get_or-set_same fresh node true false (subst (λ (n : ℕ). node < n) (sym room) lt);
      within = λ k c. subst (λ (j : ℕ). j < length graph) (only node k c) lt;
      reached = λ k c. inl (sym (only node k c));
      met = λ k e. elim (cases_eq k node) [
        | inl same ↦ inl (subst (Contains (node ∷ [])) (sym same) (Contains-push [] node))
        | inr other ↦ absurd (true≢false (sym e ∙ get_or-set_other fresh node k true false other ∙ unseen (length graph) k))
      ];
    }

-- a node of the work leads to what it uses
pub walk_leads : (graph : List (List ℕ)) (node : ℕ) (seen : List Bool) (rest : List ℕ) (current used : ℕ) → IsWalk graph node seen (rest ++ current ∷ []) → Contains (uses_at graph current) used → Leads graph node used
walk_leads graph node seen rest current used h c =
    elim (h.reached current (Contains-push rest current))
    [ inl same ↦ subst (λ (i : ℕ). Leads graph i used) same (directly c) | inr way ↦ leads_push used way c ]

pub walk_step : (graph : List (List ℕ)) (node : ℕ) (seen new : List Bool) (rest after : List ℕ) (current : ℕ) → IsClosed graph → IsWalk graph node seen (rest ++ current ∷ [])
    → length new ≡ length seen → All (IsPassed new node) (uses_at graph current)
    → ((k : ℕ) → seen_at seen k ≡ true → seen_at new k ≡ true)
    → ((k : ℕ) → seen_at new k ≡ true → (seen_at seen k ≡ true) ⊎ Contains after k)
    → ((k : ℕ) → Contains rest k → Contains after k)
    → ((k : ℕ) → Contains after k → Contains rest k ⊎ Contains (uses_at graph current) k)
    → IsWalk graph node new after
walk_step graph node seen new rest after current closed h marked met grown noted kept added =
    let inside : current < length graph = h.within current (Contains-push rest current) in
    record {
      marked = marked ∙ h.marked;
      start = grown node h.start;
      within = λ k c. elim (added k c) [
        | inl a ↦ h.within k (Contains-append_left rest (current ∷ []) k a)
        | inr b ↦ All-contains (λ (used : ℕ). used < length graph) (uses_at graph current) k (closed current [] inside) b
      ];
      reached = λ k c. elim (added k c) [
        | inl a ↦ h.reached k (Contains-append_left rest (current ∷ []) k a)
        | inr b ↦ inr (walk_leads graph node seen rest current k h b)
      ];
      met = λ k e. elim (noted k e) [
        | inr c ↦ inl c
        | inl a ↦ elim (h.met k a) [
          | inl c ↦ elim (Contains-push_cases rest current k c) [ inl b ↦ inl (kept k b) | inr same ↦ inr (subst (λ (i : ℕ). All (IsPassed new node) (uses_at graph i)) same met) ]
          | inr all ↦ inr (All-weaker (IsPassed seen node) (IsPassed new node) (λ j p. (grown j p.0, p.1)) (uses_at graph k) all)
        ]
      ];
    }

passed_by : {graph : List (List ℕ)} (node : ℕ) (seen : List Bool) → ((k : ℕ) → seen_at seen k ≡ true → All (IsPassed seen node) (uses_at graph k)) → {i j : ℕ} → seen_at seen i ≡ true → Leads graph i j → j ≢ node
passed_by {graph} node seen all {i} {j} e (directly c) = (All-contains (IsPassed seen node) (uses_at graph i) j (all i e) c).1
passed_by {graph} node seen all {i} e (through {j = k} c way) = passed_by node seen all ((All-contains (IsPassed seen node) (uses_at graph i) k (all i e) c).0) way

-- nothing is left to be met, and the node was not among the uses
pub walk_end : (graph : List (List ℕ)) (node : ℕ) (seen : List Bool) → IsWalk graph node seen [] → Leads graph node node → ⊥
walk_end graph node seen h way =
    passed_by node seen (λ k e. elim (h.met k e) [ inl c ↦ absurd (none k c) | inr all ↦ all ]) h.start way refl

module _ (sought : ℕ) (uses : List ℕ) (old : List Bool) (before : List ℕ) (i : ℕ) (seen new : List Bool) (work after : List ℕ) (lt : i < length uses)
    (h : IsMeeting sought (take i uses) uses old seen before work) (other : get_or uses i 0 ≢ sought) where
  front : take (i + 1) uses ≡ take i uses ++ get_or uses i 0 ∷ []
  front = take_more uses i 0 lt

  pub turn_new : get_or uses i 0 < length seen → seen_at seen (get_or uses i 0) ≡ false → new ≡ set seen (get_or uses i 0) true → after ≡ work ++ get_or uses i 0 ∷ []
      → IsMeeting sought (take (i + 1) uses) uses old new before after
  turn_new within fresh a b = rw (front, a, b) (meeting_new sought (take i uses) uses old seen before work h (get_or uses i 0) other within fresh (Contains-get_or uses i 0 lt))

  pub turn_seen : seen_at seen (get_or uses i 0) ≡ true → new ≡ seen → after ≡ work → IsMeeting sought (take (i + 1) uses) uses old new before after
  turn_seen e a b = rw (front, a, b) (meeting_seen sought (take i uses) uses old seen before work h (get_or uses i 0) other e)

module _ (graph : List (List ℕ)) (node : ℕ) (seen : List Bool) (work rest : List ℕ) (current : ℕ) (h : IsWalk graph node seen work) (popped : work ≡ rest ++ current ∷ []) where
  turned : IsWalk graph node seen (rest ++ current ∷ [])
  turned = subst (IsWalk graph node seen) popped h

  pub walk_within : current < length graph
  walk_within = turned.within current (Contains-push rest current)

  pub walk_back : (slice : List ℕ) → slice ≡ uses_at graph current → Contains slice node → Leads graph node node
  walk_back slice same c = walk_leads graph node seen rest current node turned (subst (λ (l : List ℕ). Contains l node) same c)

  pub walk_turn : (slice : List ℕ) (old new : List Bool) (after : List ℕ) → IsClosed graph → slice ≡ uses_at graph current → old ≡ seen
      → length new ≡ length old → All (IsPassed new node) slice
      → ((k : ℕ) → seen_at old k ≡ true → seen_at new k ≡ true)
      → ((k : ℕ) → seen_at new k ≡ true → (seen_at old k ≡ true) ⊎ Contains after k)
      → ((k : ℕ) → Contains rest k → Contains after k)
      → ((k : ℕ) → Contains after k → Contains rest k ⊎ Contains slice k)
      → IsWalk graph node new after
  walk_turn slice old new after closed same e marked met grown noted kept added =
      walk_step graph node old new rest after current closed (subst (λ (l : List Bool). IsWalk graph node l (rest ++ current ∷ [])) (sym e) turned)
      marked (subst (All (IsPassed new node)) same met) grown noted kept (λ k c. subst (λ (l : List ℕ). Contains rest k ⊎ Contains l k) same (added k c))

pub meet_bound : (uses slice : List ℕ) (n m : ℕ) → slice ≡ uses → All (λ (used : ℕ). used < n) uses → m ≡ n → All (λ (used : ℕ). used < m) slice
meet_bound uses slice n m same all e = subst (All (λ (used : ℕ). used < m)) (sym same) (subst (λ (i : ℕ). All (λ (used : ℕ). used < i) uses) (sym e) all)

pub walk_done : (graph : List (List ℕ)) (node : ℕ) (seen : List Bool) (work : List ℕ) → IsWalk graph node seen work → work ≡ [] → Leads graph node node → ⊥
walk_done graph node seen work h e way = walk_end graph node seen (subst (IsWalk graph node seen) e h) way
