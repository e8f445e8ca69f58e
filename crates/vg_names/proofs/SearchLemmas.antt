-- What each turn of the search keeps.
use Rattle.std.proofs.Common.{◌≡◌, ◌≢◌, ℕ, zero, suc, ◌+◌, ◌*◌, ◌<◌, ◌≤◌, ◌⊎◌, inl, inr, true, List, [], ◌∷◌, ◌++◌, length, get_or, set, replicate, refl, sym, ap, subst, ◌∙◌, arith, Some, length-set, get_or-set_other, get_or-set_same}
use Rattle.std.specs.List.{All, Contains}
use Rattle.std.proofs.lemmas.Bool.{cases_eq}
use Rattle.std.specs.List.{count_by}
use Rattle.std.proofs.lemmas.List.{map-append, length_push, get_or_read}
use Rattle.std.proofs.lemmas.List.Elements.{All-weaker, All-nil, All-cons, All-push, All-pop, All-from_get_or, Contains-append_left, Contains-get_or, Contains-push, Contains-push_cases}
use Rattle.vg_names.specs.declared.mark.Mark.{Mark}
use Rattle.vg_names.specs.declared.mark.Mark.TheVariants.{New, Open, Done}
use Rattle.vg_names.specs.declared.step.Step.{Step}
use Rattle.vg_names.specs.Graph.{uses_at, IsClosed, Leads, IsSorting}
use Rattle.vg_names.specs.Search.{mark_at, is_new, nodes_of, step_at, IsSearched, IsSearching, IsStep, IsChain, Keeps}
use Rattle.vg_names.proofs.Counts.{below_or, count_less, count_no_more}
use Rattle.vg_names.proofs.Nodes.{none, only, behind_push, chain_push, chain_front, chain_apart, chain_leads}

open_done : Open ≡ Done → ⊥
open_done e = cc

pub new_left : (m : Mark) → m ≢ Done → m ≢ Open → is_new m ≡ true
new_left New a b = refl
new_left Open a b = absurd (b refl)
new_left Done a b = absurd (a refl)

set_read : (marks : List Mark) (k j : ℕ) (m : Mark) → k < length marks → j ≡ k → mark_at (set marks k m) j ≡ m
set_read marks k j m h same = ap (mark_at (set marks k m)) same ∙ get_or-set_same marks k m New h

set_kept : (marks : List Mark) (k j : ℕ) (m : Mark) → j ≢ k → mark_at (set marks k m) j ≡ mark_at marks j
set_kept marks k j m other = get_or-set_other marks k j m New other

pub nodes_push : (steps : List Step) (s : Step) → nodes_of (steps ++ s ∷ []) ≡ nodes_of steps ++ s.node ∷ []
nodes_push steps s = map-append (λ (step : Step). step.node) steps (s ∷ [])

new_at : (n k : ℕ) → mark_at (replicate n New) k ≡ New
new_at zero k = refl
new_at (suc n) zero = refl
new_at (suc n) (suc k) = new_at n k

length_new : (n : ℕ) → length (replicate n New) ≡ n
length_new zero = refl
length_new (suc n) = ap suc (length_new n)

pub searched_start : (graph : List (List ℕ)) → IsSearched graph (replicate (length graph) New) []
searched_start graph = record {
  marked = length_new (length graph);
  within = All-nil (λ (k : ℕ). k < length graph);
  behind = tt;
  done = λ k e. let w : New ≡ Done = sym (new_at (length graph) k) ∙ e in absurd (cc);
  listed = λ k c. absurd (none k c);
  closed = λ k e. let w : New ≡ Open = sym (new_at (length graph) k) ∙ e in cc;
}

pub searching_start : (graph : List (List ℕ)) (root : ℕ) (marks : List Mark) (order : List ℕ) → IsSearched graph marks order → root < length graph → mark_at marks root ≢ Done → IsSearching graph root order (set marks root Open) order (step_at root 0 ∷ [])
searching_start graph root marks order h lt not_done =
    let within : root < length marks = subst (λ (n : ℕ). root < n) (sym h.marked) lt in
    record {
      marked = length-set marks root Open ∙ h.marked;
      within = h.within;
      behind = h.behind;
      done = λ k e. elim (cases_eq k root) [
        | inl same ↦ absurd (open_done (sym (set_read marks root k Open within same) ∙ e))
        | inr other ↦ h.done k (sym (set_kept marks root k Open other) ∙ e)
      ];
      listed = λ k c. elim (cases_eq k root) [
        | inl same ↦ absurd (not_done (subst (λ (i : ℕ). mark_at marks i ≡ Done) same (h.listed k c)))
        | inr other ↦ set_kept marks root k Open other ∙ h.listed k c
      ];
      active = λ k c. set_read marks root k Open within (sym (only root k c));
      opened = λ k e. elim (cases_eq k root) [
        | inl same ↦ subst (Contains (root ∷ [])) (sym same) (Contains-push [] root)
        | inr other ↦ absurd (h.closed k (sym (set_kept marks root k Open other) ∙ e))
      ];
      steps = All-cons (IsStep graph order) (step_at root 0) [] (record { within = lt; passed = λ k l. absurd (nothing k l) }) (All-nil (IsStep graph order));
      chain = (tt, none root, tt);
      rooted = inl (Contains-push [] root);
      kept = λ k c. c;
    }
  where
    nothing : (k : ℕ) → k < 0 → ⊥
    nothing k l = omega arith

module _ (graph : List (List ℕ)) (root : ℕ) (old : List ℕ) (marks : List Mark) (order : List ℕ) (rest : List Step) (step : Step)
    (h : IsSearching graph root old marks order (rest ++ step ∷ [])) where
  top : All (IsStep graph order) rest × IsStep graph order step
  top = All-pop (IsStep graph order) (rest ++ step ∷ []) rest (Some step) refl h.steps

  pub searching_within : step.node < length graph
  searching_within = top.1.within

  marked_within : step.node < length marks
  marked_within = subst (λ (n : ℕ). step.node < n) (sym h.marked) top.1.within

  in_nodes : (k : ℕ) → Contains (nodes_of (rest ++ step ∷ [])) k → Contains (nodes_of rest ++ step.node ∷ []) k
  in_nodes k c = subst (λ (l : List ℕ). Contains l k) (nodes_push rest step) c

  back_in : (k : ℕ) → Contains (nodes_of rest ++ step.node ∷ []) k → mark_at marks k ≡ Open
  back_in k c = h.active k (subst (λ (l : List ℕ). Contains l k) (sym (nodes_push rest step)) c)

  chained : IsChain graph (nodes_of rest ++ step.node ∷ [])
  chained = subst (IsChain graph) (nodes_push rest step) h.chain

  passed_to : (at : ℕ) → ((k : ℕ) → step.passed ≤ k → k < at → mark_at marks (get_or (uses_at graph step.node) k 0) ≡ Done) → (k : ℕ) → k < at → Contains order (get_or (uses_at graph step.node) k 0)
  passed_to at passed k l = elim (below_or k step.passed) [ inl b ↦ top.1.passed k b | inr b ↦ h.done (get_or (uses_at graph step.node) k 0) (passed k b l) ]

  -- all uses of the last step are done
  pub searching_done : ((k : ℕ) → step.passed ≤ k → k < length (uses_at graph step.node) → mark_at marks (get_or (uses_at graph step.node) k 0) ≡ Done)
      → IsSearching graph root old (set marks step.node Done) (order ++ step.node ∷ []) rest
  searching_done passed =
      let uses = uses_at graph step.node in
      let more = order ++ step.node ∷ [] in
      let all_done : All (Contains order) uses = All-from_get_or (Contains order) uses 0 (passed_to (length uses) passed) in
      record {
        marked = length-set marks step.node Done ∙ h.marked;
        within = All-push (λ (k : ℕ). k < length graph) order step.node h.within top.1.within;
        behind = behind_push graph order [] step.node h.behind (All-weaker (Contains order) (λ (j : ℕ). Contains [] j ⊎ Contains order j) (λ j c. inr c) uses all_done)
            (none step.node) (λ c. open_done (sym (back_in step.node (Contains-push (nodes_of rest) step.node)) ∙ h.listed step.node c));
        done = λ k e. elim (cases_eq k step.node) [
          | inl same ↦ subst (Contains more) (sym same) (Contains-push order step.node)
          | inr other ↦ Contains-append_left order (step.node ∷ []) k (h.done k (sym (set_kept marks step.node k Done other) ∙ e))
        ];
        listed = λ k c. elim (cases_eq k step.node) [
          | inl same ↦ set_read marks step.node k Done marked_within same
          | inr other ↦ elim (Contains-push_cases order step.node k c)
              [ inl a ↦ set_kept marks step.node k Done other ∙ h.listed k a | inr same ↦ absurd (other (sym same)) ]
        ];
        active = λ k c. elim (cases_eq k step.node) [
          | inl same ↦ absurd (chain_apart graph (nodes_of rest) step.node chained (subst (Contains (nodes_of rest)) same c))
          | inr other ↦ set_kept marks step.node k Done other ∙ back_in k (Contains-append_left (nodes_of rest) (step.node ∷ []) k c)
        ];
        opened = λ k e. elim (cases_eq k step.node) [
          | inl same ↦ absurd (open_done (sym e ∙ set_read marks step.node k Done marked_within same))
          | inr other ↦ elim (Contains-push_cases (nodes_of rest) step.node k (in_nodes k (h.opened k (sym (set_kept marks step.node k Done other) ∙ e))))
              [ inl c ↦ c | inr same ↦ absurd (other (sym same)) ]
        ];
        steps = All-weaker (IsStep graph order) (IsStep graph more) (λ s p. record { within = p.within; passed = λ k l. Contains-append_left order (step.node ∷ []) (get_or (uses_at graph s.node) k 0) (p.passed k l) }) rest top.0;
        chain = chain_front graph (nodes_of rest) step.node chained;
        rooted = elim h.rooted [
          | inl c ↦ elim (Contains-push_cases (nodes_of rest) step.node root (in_nodes root c))
              [ inl a ↦ inl a | inr same ↦ inr (subst (Contains more) same (Contains-push order step.node)) ]
          | inr c ↦ inr (Contains-append_left order (step.node ∷ []) root c)
        ];
        kept = λ k c. Contains-append_left order (step.node ∷ []) k (h.kept k c);
      }

  module _ (at used : ℕ) (at_within : at < length (uses_at graph step.node)) (is : used ≡ get_or (uses_at graph step.node) at 0) where
    used_here : Contains (uses_at graph step.node) used
    used_here = subst (Contains (uses_at graph step.node)) (sym is) (Contains-get_or (uses_at graph step.node) at 0 at_within)

    -- the last step uses a node that is open
    pub searching_circular : mark_at marks used ≡ Open → Leads graph used used
    searching_circular e = chain_leads graph (nodes_of rest) step.node used chained used_here used (in_nodes used (h.opened used e))

    -- the last step uses a node that isn't done
    pub searching_open : used < length graph → mark_at marks used ≢ Done → mark_at marks used ≢ Open → ((k : ℕ) → step.passed ≤ k → k < at → mark_at marks (get_or (uses_at graph step.node) k 0) ≡ Done)
        → IsSearching graph root old (set marks used Open) order ((rest ++ step_at step.node at ∷ []) ++ step_at used 0 ∷ [])
    searching_open lt not_done not_open passed =
        let within : used < length marks = subst (λ (n : ℕ). used < n) (sym h.marked) lt in
        let before = nodes_of rest ++ step.node ∷ [] in
        let new : nodes_of ((rest ++ step_at step.node at ∷ []) ++ step_at used 0 ∷ []) ≡ before ++ used ∷ [] =
        nodes_push (rest ++ step_at step.node at ∷ []) (step_at used 0) ∙ ap (λ (l : List ℕ). l ++ used ∷ []) (nodes_push rest (step_at step.node at)) in
        let into = λ (k : ℕ) (c : Contains (nodes_of (rest ++ step ∷ [])) k). subst (λ (l : List ℕ). Contains l k) (sym new) (Contains-append_left before (used ∷ []) k (in_nodes k c)) in
        record {
          marked = length-set marks used Open ∙ h.marked;
          within = h.within;
          behind = h.behind;
          done = λ k e. elim (cases_eq k used) [
            | inl same ↦ absurd (open_done (sym (set_read marks used k Open within same) ∙ e))
            | inr other ↦ h.done k (sym (set_kept marks used k Open other) ∙ e)
          ];
          listed = λ k c. elim (cases_eq k used) [
            | inl same ↦ absurd (not_done (subst (λ (i : ℕ). mark_at marks i ≡ Done) same (h.listed k c)))
            | inr other ↦ set_kept marks used k Open other ∙ h.listed k c
          ];
          active = λ k c. elim (cases_eq k used) [
            | inl same ↦ set_read marks used k Open within same
            | inr other ↦ elim (Contains-push_cases before used k (subst (λ (l : List ℕ). Contains l k) new c))
                [ inl a ↦ set_kept marks used k Open other ∙ back_in k a | inr same ↦ absurd (other (sym same)) ]
          ];
          opened = λ k e. elim (cases_eq k used) [
            | inl same ↦ subst (λ (l : List ℕ). Contains l k) (sym new) (subst (Contains (before ++ used ∷ [])) (sym same) (Contains-push before used))
            | inr other ↦ into k (h.opened k (sym (set_kept marks used k Open other) ∙ e))
          ];
          steps = All-push (IsStep graph order) (rest ++ step_at step.node at ∷ []) (step_at used 0)
              (All-push (IsStep graph order) rest (step_at step.node at) top.0 (record { within = top.1.within; passed = passed_to at passed }))
              (record { within = lt; passed = λ k l. absurd (nothing k l) });
          chain = subst (IsChain graph) (sym new) (chain_push graph (nodes_of rest) step.node used chained used_here (λ c. not_open (back_in used c)));
          rooted = elim h.rooted [ inl c ↦ inl (into root c) | inr c ↦ inr c ];
          kept = h.kept;
        }
      where
        nothing : (k : ℕ) → k < 0 → ⊥
        nothing k l = omega arith

-- nothing is open any more
pub searching_end : (graph : List (List ℕ)) (root : ℕ) (old : List ℕ) (marks : List Mark) (order : List ℕ) → IsSearching graph root old marks order [] → IsSearched graph marks order × Contains order root
searching_end graph root old marks order h = (
  record { marked = h.marked; within = h.within; behind = h.behind; done = h.done; listed = h.listed; closed = λ k e. none k (h.opened k e) },
  elim h.rooted [ inl c ↦ absurd (none root c) | inr c ↦ c ],
)

pub read_uses : (graph : List (List ℕ)) (current : ℕ) (read slice : List ℕ) → slice ≡ read → read ≡ get_or graph current read → current < length graph → slice ≡ uses_at graph current
read_uses graph current read slice a b lt = a ∙ get_or_read graph current read lt b []

-- one turn of the search
module _ (graph : List (List ℕ)) (root : ℕ) (old : List ℕ) (marks : List Mark) (order : List ℕ) (steps rest : List Step) (step : Step)
    (h : IsSearching graph root old marks order steps) (popped : steps ≡ rest ++ step ∷ []) where
  turned : IsSearching graph root old marks order (rest ++ step ∷ [])
  turned = subst (IsSearching graph root old marks order) popped h

  pub turn_within : step.node < length graph
  turn_within = searching_within graph root old marks order rest step turned

  marks_within : step.node < length marks
  marks_within = subst (λ (n : ℕ). step.node < n) (sym h.marked) turn_within

  one_less : length steps ≡ length rest + 1
  one_less = ap length popped ∙ length_push rest step

  module _ (read slice : List ℕ) (a : slice ≡ read) (b : read ≡ get_or graph step.node read) where
    same : slice ≡ uses_at graph step.node
    same = read_uses graph step.node read slice a b turn_within

    pub turn_done : (more : List ℕ) → more ≡ order ++ step.node ∷ [] → ((k : ℕ) → step.passed ≤ k → k < length slice → mark_at marks (get_or slice k 0) ≡ Done)
        → IsSearching graph root old (set marks step.node Done) more rest
    turn_done more e passed =
        subst (λ (l : List ℕ). IsSearching graph root old (set marks step.node Done) l rest) (sym e)
        (searching_done graph root old marks order rest step turned
        (subst (λ (l : List ℕ). (k : ℕ) → step.passed ≤ k → k < length l → mark_at marks (get_or l k 0) ≡ Done) same passed))

    pub turn_done_less : 2 * count_by is_new (set marks step.node Done) + length rest < 2 * count_by is_new marks + length steps
    turn_done_less =
        let fewer : count_by is_new (set marks step.node Done) ≤ count_by is_new marks = count_no_more is_new marks step.node Done New marks_within refl in
        let one : length steps ≡ length rest + 1 = one_less in
        omega (arith, fewer, one)

    module _ (closed : IsClosed graph) (at : ℕ) (at_within : at < length slice) where
      at_uses : at < length (uses_at graph step.node)
      at_uses = subst (λ (l : List ℕ). at < length l) same at_within

      is : get_or slice at 0 ≡ get_or (uses_at graph step.node) at 0
      is = ap (λ (l : List ℕ). get_or l at 0) same

      pub used_within : get_or slice at 0 < length graph
      used_within = subst (λ (u : ℕ). u < length graph) (sym is) (closed step.node [] turn_within at 0 at_uses)

      pub turn_circular : mark_at marks (get_or slice at 0) ≡ Open → Leads graph (get_or slice at 0) (get_or slice at 0)
      turn_circular e = searching_circular graph root old marks order rest step turned at (get_or slice at 0) at_uses is e

      pub turn_open : (more : List Step) → more ≡ (rest ++ step_at step.node at ∷ []) ++ step_at (get_or slice at 0) 0 ∷ []
          → mark_at marks (get_or slice at 0) ≢ Done → mark_at marks (get_or slice at 0) ≢ Open
          → ((k : ℕ) → step.passed ≤ k → k < at → mark_at marks (get_or slice k 0) ≡ Done)
          → IsSearching graph root old (set marks (get_or slice at 0) Open) order more
      turn_open more e not_done not_open passed =
          subst (IsSearching graph root old (set marks (get_or slice at 0) Open) order) (sym e)
          (searching_open graph root old marks order rest step turned at (get_or slice at 0) at_uses is used_within not_done not_open
          (subst (λ (l : List ℕ). (k : ℕ) → step.passed ≤ k → k < at → mark_at marks (get_or l k 0) ≡ Done) same passed))

      pub turn_open_less : (more : List Step) → more ≡ (rest ++ step_at step.node at ∷ []) ++ step_at (get_or slice at 0) 0 ∷ []
          → mark_at marks (get_or slice at 0) ≢ Done → mark_at marks (get_or slice at 0) ≢ Open
          → 2 * count_by is_new (set marks (get_or slice at 0) Open) + length more < 2 * count_by is_new marks + length steps
      turn_open_less more e not_done not_open =
          let used = get_or slice at 0 in
          let within : get_or slice at 0 < length marks = subst (λ (n : ℕ). get_or slice at 0 < n) (sym h.marked) used_within in
          let fewer : count_by is_new (set marks (get_or slice at 0) Open) + 1 ≡ count_by is_new marks = count_less is_new marks used Open New within (new_left (mark_at marks used) not_done not_open) refl in
          let one : length steps ≡ length rest + 1 = one_less in
          let two : length more ≡ length rest + 1 + 1 =
          ap length e ∙ length_push (rest ++ step_at step.node at ∷ []) (step_at used 0) ∙ ap (λ (n : ℕ). n + 1) (length_push rest (step_at step.node at)) in
          omega (arith, fewer, one, two)

-- one more root was searched
pub roots_more : (old new : List ℕ) (root : ℕ) → Keeps old new → Contains new root → ((k : ℕ) → k < root → Contains old k) → (k : ℕ) → k < root + 1 → Contains new k
roots_more old new root kept found before k l = elim (below_or k root)
    [ inl b ↦ kept k (before k b) | inr b ↦ (let same : root ≡ k = omega (arith, l, b) in subst (Contains new) same found) ]

-- all roots were searched
pub searched_all : (graph : List (List ℕ)) (marks : List Mark) (order : List ℕ) (root : ℕ) → IsSearched graph marks order → ((k : ℕ) → k < root → Contains order k) → length graph ≤ root → IsSorting graph order
searched_all graph marks order root h before past =
    record { within = h.within; behind = h.behind; complete = λ k l. (let b : k < root = omega (arith, l, past) in before k b) }
