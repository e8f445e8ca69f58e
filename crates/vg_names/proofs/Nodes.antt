-- Lists of nodes: chains of uses, and orders in which each node stands behind what it uses.
use Rattle.std.proofs.Common.{◌≡◌, ℕ, ◌<◌, ◌⊎◌, inl, inr, List, [], ◌∷◌, ◌++◌, sym, subst, arith}
use Rattle.std.specs.List.{All, Contains}
use Rattle.std.proofs.lemmas.List.Elements.{All-weaker, Contains-append_left, Contains-append_right, Contains-append_cases, Contains-push, Contains-push_cases}
use Rattle.vg_names.specs.Graph.{uses_at, Leads, directly, through, IsBehind}
use Rattle.vg_names.specs.Search.{IsChain, UsesHead}

pub none : (j : ℕ) → Contains [] j → ⊥
none j c = let h : c.0 < 0 = c.1 in omega arith

pub only : (k j : ℕ) → Contains (k ∷ []) j → k ≡ j
only k j c = elim (Contains-push_cases [] k j c) [ inl a ↦ absurd (none j a) | inr same ↦ same ]

moved : (k : ℕ) (ks front : List ℕ) (j : ℕ) → Contains front j ⊎ Contains (k ∷ ks) j → Contains (k ∷ front) j ⊎ Contains ks j
moved k ks front j (inl a) = inl (Contains-append_right (k ∷ []) front j a)
moved k ks front j (inr b) = elim (Contains-append_cases (k ∷ []) ks j b) [ inl c ↦ inl (Contains-append_left (k ∷ []) front j c) | inr d ↦ inr d ]

here : (front : List ℕ) (j : ℕ) → Contains front j ⊎ Contains [] j → Contains front j
here front j (inl a) = a
here front j (inr b) = absurd (none j b)

-- one more node behind all that it uses
pub behind_push : (graph : List (List ℕ)) (order front : List ℕ) (node : ℕ) → IsBehind graph front order → All (λ (j : ℕ). Contains front j ⊎ Contains order j) (uses_at graph node) → ¬ Contains front node → ¬ Contains order node → IsBehind graph front (order ++ node ∷ [])
behind_push graph [] front node h all a b = (a, All-weaker (λ (j : ℕ). Contains front j ⊎ Contains [] j) (Contains front) (here front) (uses_at graph node) all, tt)
behind_push graph (k ∷ ks) front node h all a b = (
  h.0,
  h.1,
  behind_push graph ks (k ∷ front) node h.2 (All-weaker (λ (j : ℕ). Contains front j ⊎ Contains (k ∷ ks) j) (λ (j : ℕ). Contains (k ∷ front) j ⊎ Contains ks j) (moved k ks front) (uses_at graph node) all)
      (λ c. elim (Contains-append_cases (k ∷ []) front node c) [ inl d ↦ b (Contains-append_left (k ∷ []) ks node d) | inr d ↦ a d ])
      (λ c. b (Contains-append_right (k ∷ []) ks node c)),
)

head_push : (graph : List (List ℕ)) (k : ℕ) (xs : List ℕ) (y z : ℕ) → UsesHead graph k (xs ++ y ∷ []) → UsesHead graph k ((xs ++ y ∷ []) ++ z ∷ [])
head_push graph k [] y z h = h
head_push graph k (x ∷ xs) y z h = h

head_front : (graph : List (List ℕ)) (k : ℕ) (xs : List ℕ) (y : ℕ) → UsesHead graph k (xs ++ y ∷ []) → UsesHead graph k xs
head_front graph k [] y h = tt
head_front graph k (x ∷ xs) y h = h

pub chain_push : (graph : List (List ℕ)) (xs : List ℕ) (y z : ℕ) → IsChain graph (xs ++ y ∷ []) → Contains (uses_at graph y) z → ¬ Contains (xs ++ y ∷ []) z → IsChain graph ((xs ++ y ∷ []) ++ z ∷ [])
chain_push graph [] y z h e f = (e, (λ c. f (subst (Contains (y ∷ [])) (sym (only z y c)) (Contains-push [] y))), (tt, none z, tt))
chain_push graph (x ∷ xs) y z h e f = (
  head_push graph x xs y z h.0,
  (λ c. elim (Contains-push_cases (xs ++ y ∷ []) z x c)
      [ inl a ↦ h.1 a | inr same ↦ f (subst (Contains (x ∷ (xs ++ y ∷ []))) (sym same) (Contains-append_left (x ∷ []) (xs ++ y ∷ []) x (Contains-push [] x))) ]),
  chain_push graph xs y z h.2 e (λ c. f (Contains-append_right (x ∷ []) (xs ++ y ∷ []) z c)),
)

pub chain_front : (graph : List (List ℕ)) (xs : List ℕ) (y : ℕ) → IsChain graph (xs ++ y ∷ []) → IsChain graph xs
chain_front graph [] y h = tt
chain_front graph (x ∷ xs) y h = (head_front graph x xs y h.0, (λ c. h.1 (Contains-append_left xs (y ∷ []) x c)), chain_front graph xs y h.2)

-- the last node of a chain doesn't stand in front
pub chain_apart : (graph : List (List ℕ)) (xs : List ℕ) (y : ℕ) → IsChain graph (xs ++ y ∷ []) → ¬ Contains xs y
chain_apart graph [] y h c = none y c
chain_apart graph (x ∷ xs) y h c =
    elim (Contains-append_cases (x ∷ []) xs y c)
    [ inl a ↦ h.1 (subst (Contains (xs ++ y ∷ [])) (sym (only x y a)) (Contains-push xs y)) | inr b ↦ chain_apart graph xs y h.2 b ]

first_leads : (graph : List (List ℕ)) (xs : List ℕ) (x y z : ℕ) → UsesHead graph x (xs ++ y ∷ []) → ((j : ℕ) → Contains (xs ++ y ∷ []) j → Leads graph j z) → Leads graph x z
first_leads graph [] x y z h rest = through h (rest y (Contains-push [] y))
first_leads graph (w ∷ ws) x y z h rest = through h (rest w (Contains-append_left (w ∷ []) (ws ++ y ∷ []) w (Contains-push [] w)))

-- each node of a chain leads to what the last uses
pub chain_leads : (graph : List (List ℕ)) (xs : List ℕ) (y z : ℕ) → IsChain graph (xs ++ y ∷ []) → Contains (uses_at graph y) z → (j : ℕ) → Contains (xs ++ y ∷ []) j → Leads graph j z
chain_leads graph [] y z h e j c = subst (λ (i : ℕ). Leads graph i z) (only y j c) (directly e)
chain_leads graph (x ∷ xs) y z h e j c =
    elim (Contains-append_cases (x ∷ []) (xs ++ y ∷ []) j c) [
      | inl a ↦ subst (λ (i : ℕ). Leads graph i z) (only x j a) (first_leads graph xs x y z h.0 (chain_leads graph xs y z h.2 e))
      | inr b ↦ chain_leads graph xs y z h.2 e j b
    ]

-- one more use behind
pub leads_push : {graph : List (List ℕ)} {i j : ℕ} (k : ℕ) → Leads graph i j → Contains (uses_at graph j) k → Leads graph i k
leads_push k (directly e) b = through e (directly b)
leads_push k (through e r) b = through e (leads_push k r b)
