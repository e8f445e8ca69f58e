-- The table of nodes.
use Rattle.std.proofs.Common.{◌≡◌, ◌≢◌, ℕ, ◌+◌, ◌<◌, ◌≤◌, ◌⊎◌, inl, inr, List, [], ◌∷◌, ◌++◌, length, set, get_or, Some, sym, refl, ap, ◌∙◌, subst, arith, replicate, take, zero, suc}
use Rattle.std.specs.Prelude.{slice_get}
use Rattle.std.proofs.lemmas.Bool.Decides.{eqb_tells}
use Rattle.std.proofs.lemmas.List.{length-append, length-map, length-set, get_or-set_same, get_or-set_other, get_or-replicate, length-replicate, length-take-le, take_more}
use Rattle.std.proofs.lemmas.Bool.{cases_lt}
use Rattle.vg_list.specs.NodeLists.{nodes_of, IsLinked, without}
use Rattle.vg_list.proofs.Linked.{IsLinked-pushed, IsLinked-without}
use Rattle.vg_list.proofs.Places.{Has-without, get_or-map_lists}
use Rattle.vg_graph.specs.declared.node.Node.{Node}
use Rattle.vg_graph.specs.declared.table.Table.{Table}
use Rattle.vg_graph.specs.Hashing.{bucket_of}
use Rattle.vg_graph.specs.Node.{IsIn}
use Rattle.vg_graph.specs.Table.{HasRoom, IsIndexed, put_in, taken_out}
use Rattle.vg_graph.proofs.Gets.{gets-pushed, gets-set_same, gets-set_other, In-append_left, In-append_right, In-one}

-- a bucket is one of the lists
pub bucket_within : (count : ℕ) (node : Node) → 0 < count → bucket_of count node < count
unfolding bucket_of
bucket_within count node some = omega arith

-- a number that was taken out is in no bucket
pub taken : (table : Table) (n : ℕ) → ¬ IsLinked (taken_out table n).buckets n
taken table n linked = let now = (IsLinked-without table.buckets n n).0 linked in now.1 refl

-- ---- putting in

HasRoom-put : (table : Table) (n : ℕ) (node : Node) → HasRoom table → HasRoom (put_in table n node)
HasRoom-put table n node room = record { some = room.some; buckets = length-set table.buckets.lists _ _ ∙ room.buckets; nodes = room.nodes }

-- what is in a bucket stays there
put-keeps : (table : Table) (n : ℕ) (node : Node) (bucket m : ℕ) → HasRoom table → IsIn (nodes_of table.buckets bucket) m → IsIn (nodes_of (put_in table n node).buckets bucket) m
put-keeps table n node bucket m room has =
    let here = bucket_of table.room node in
    let xs = nodes_of table.buckets here in
    let within : here < length table.buckets.lists = rw room.buckets (bucket_within table.room node room.some) in
    elim (eqb_tells bucket here) [
      | inl (_, is) ↦ rw is (rw (get_or-set_same table.buckets.lists here (xs ++ n ∷ []) [] within) (In-append_left xs (n ∷ []) m (subst (λ (b : ℕ). IsIn (nodes_of table.buckets b) m) is has)))
      | inr (_, differ) ↦ rw (get_or-set_other table.buckets.lists here bucket (xs ++ n ∷ []) [] differ) has
    ]

-- what is put in is in its bucket
put-has : (table : Table) (n : ℕ) (node : Node) → HasRoom table → IsIn (nodes_of (put_in table n node).buckets (bucket_of table.room node)) n
put-has table n node room =
    let here = bucket_of table.room node in
    let xs = nodes_of table.buckets here in
    let within : here < length table.buckets.lists = rw room.buckets (bucket_within table.room node room.some) in
    rw (get_or-set_same table.buckets.lists here (xs ++ n ∷ []) [] within) (In-append_right xs (n ∷ []) n (In-one n))

put-linked : (table : Table) (n : ℕ) (node : Node) (m : ℕ) → HasRoom table → IsLinked (put_in table n node).buckets m → IsLinked table.buckets m ⊎ (m ≡ n)
put-linked table n node m room linked =
    let within : bucket_of table.room node < length table.buckets.lists = rw room.buckets (bucket_within table.room node room.some) in
    (IsLinked-pushed table.buckets m (bucket_of table.room node) n within).0 linked

-- the table with the next node
pub IsIndexed-put : (nodes : List Node) (table : Table) (node : Node) → IsIndexed nodes table → length nodes < table.room → IsIndexed (nodes ++ node ∷ []) (put_in table (length nodes) node)
IsIndexed-put nodes table node indexed room = record {
  has_room = HasRoom-put table (length nodes) node indexed.has_room;
  fits = omega (arith, length-append nodes (node ∷ []));
  placed = λ n other at. elim (gets-pushed nodes node n other at) [
    | inl before ↦ put-keeps table (length nodes) node (bucket_of table.room other) n indexed.has_room (indexed.placed n other before)
    | inr (last, is) ↦
        let here = put-has table (length nodes) node indexed.has_room in
        subst (λ (m : ℕ). IsIn (nodes_of (put_in table (length nodes) node).buckets (bucket_of table.room other)) m) (sym last)
        (subst (λ (x : Node). IsIn (nodes_of (put_in table (length nodes) node).buckets (bucket_of table.room x)) (length nodes)) is here)
  ];
  within = λ n linked. elim (put-linked table (length nodes) node n indexed.has_room linked) [
    | inl before ↦ let below = indexed.within n before in omega (arith, length-append nodes (node ∷ []), below)
    | inr is ↦ omega (arith, length-append nodes (node ∷ []), is)
  ];
}

-- ---- another node under a number

HasRoom-taken : (table : Table) (n : ℕ) → HasRoom table → HasRoom (taken_out table n)
HasRoom-taken table n room = record { some = room.some; buckets = length-map table.buckets.lists (without n) ∙ room.buckets; nodes = room.nodes }

taken-keeps : (table : Table) (n bucket m : ℕ) → m ≢ n → IsIn (nodes_of table.buckets bucket) m → IsIn (nodes_of (taken_out table n).buckets bucket) m
taken-keeps table n bucket m differ has = rw (get_or-map_lists (without n) refl table.buckets.lists bucket) (Has-without n (nodes_of table.buckets bucket) m differ has)

-- a number of a node is in the table
pub IsLinked-indexed : (nodes : List Node) (table : Table) (n : ℕ) (node : Node) → IsIndexed nodes table → slice_get nodes n ≡ Some node → IsLinked table.buckets n
IsLinked-indexed nodes table n node indexed at = let has = indexed.placed n node at in (bucket_of table.room node, has.0, has.1)

-- the table with another node under a number
pub IsIndexed-reassigned : (nodes : List Node) (table : Table) (n : ℕ) (node : Node) → IsIndexed nodes table → n < length nodes → IsIndexed (set nodes n node) (put_in (taken_out table n) n node)
IsIndexed-reassigned nodes table n node indexed below =
    let out = taken_out table n in
    let room : HasRoom out = HasRoom-taken table n indexed.has_room in
    record {
      has_room = HasRoom-put out n node room;
      fits = rw (length-set nodes n node) indexed.fits;
      placed = λ m other at. elim (eqb_tells m n) [
        | inl (_, is) ↦
            let now : Some node ≡ Some other = sym (gets-set_same nodes n node below) ∙ sym (ap (λ (k : ℕ). slice_get (set nodes n node) k) is) ∙ at in
            let same : node ≡ other = cc in
            subst (λ (k : ℕ). IsIn (nodes_of (put_in out n node).buckets (bucket_of table.room other)) k) (sym is)
            (subst (λ (x : Node). IsIn (nodes_of (put_in out n node).buckets (bucket_of table.room x)) n) same (put-has out n node room))
        | inr (_, differ) ↦
            let before : slice_get nodes m ≡ Some other = sym (gets-set_other nodes n m node differ) ∙ at in
            put-keeps out n node (bucket_of table.room other) m room (taken-keeps table n (bucket_of table.room other) m differ (indexed.placed m other before))
      ];
      within = λ m linked. rw (length-set nodes n node) (elim (put-linked out n node m room linked) [
        | inl before ↦ indexed.within m ((IsLinked-without table.buckets m n).0 before).0
        | inr is ↦ omega (arith, is)
      ]);
    }

-- ---- tables of lists of nodes

nothing-past : (lists : List (List ℕ)) (list : ℕ) → length lists ≤ list → get_or lists list [] ≡ []
nothing-past [] list past = refl
nothing-past (x ∷ xs) zero past = absurd (omega arith)
nothing-past (x ∷ xs) (suc list) past = nothing-past xs list (omega arith)

abbrev none : List ℕ
none = []

empty-lists : (count list : ℕ) → get_or (replicate count none) list none ≡ none
empty-lists count list = elim (cases_lt list count) [
  | inl below ↦ get_or-replicate count list none none below
  | inr past ↦ nothing-past (replicate count none) list (rw (length-replicate count none) past)
]

-- the empty table
pub IsIndexed-none : (room : ℕ) (table : Table) → 0 < room → table ≡ record { buckets = record { nodes = room; lists = replicate room [] }; room = room } → IsIndexed [] table
IsIndexed-none room table some is = rw is (record {
  has_room = record { some = some; buckets = length-replicate room []; nodes = refl };
  fits = omega arith;
  placed = λ n node at. absurd (nothing n node at);
  within = λ n linked. absurd (unlinked n linked);
})
  where
    nothing : (n : ℕ) (node : Node) → slice_get {X = Node} [] n ≡ Some node → ⊥
    nothing n node at = cc

    unlinked : (n : ℕ) → IsLinked (record { nodes = room; lists = replicate room [] }) n → ⊥
    unlinked n linked =
        let at : slice_get [] linked.1 ≡ Some n = subst (λ (xs : List ℕ). slice_get xs linked.1 ≡ Some n) (empty-lists room linked.0) linked.2 in
        cc

-- the table of one node more
pub IsIndexed-more : (nodes : List Node) (table : Table) (n : ℕ) (d : Node) → n < length nodes → length nodes ≤ table.room → IsIndexed (take n nodes) table → IsIndexed (take (n + 1) nodes) (put_in table n (get_or nodes n d))
IsIndexed-more nodes table n d below room indexed =
    let front : length (take n nodes) ≡ n = length-take-le n nodes (omega arith) in
    let put = IsIndexed-put (take n nodes) table (get_or nodes n d) indexed (omega (arith, front)) in
    rw (take_more nodes n d below) (subst (λ (k : ℕ). IsIndexed (take n nodes ++ get_or nodes n d ∷ []) (put_in table k (get_or nodes n d))) front put)

-- a number below those of a list of nodes that is in the table isn't in it
pub not_linked : (nodes : List Node) (table : Table) (n : ℕ) → IsIndexed nodes table → length nodes ≤ n → ¬ IsLinked table.buckets n
not_linked nodes table n indexed past linked = let below : n < length nodes = indexed.within n linked in absurd (omega arith)

-- one more number of a bucket is passed, which isn't that of the node
pub passes : (nodes : List Node) (node : Node) (xs : List ℕ) (place n : ℕ) (other : Node) → slice_get xs place ≡ Some n → slice_get nodes n ≡ Some other → ¬ (other ≡ node) → ((i m : ℕ) → i < place → slice_get xs i ≡ Some m → ¬ (slice_get nodes m ≡ Some node)) → (i m : ℕ) → i < place + 1 → slice_get xs i ≡ Some m → ¬ (slice_get nodes m ≡ Some node)
passes nodes node xs place n other at here differ before i m below at_i is = elim (eqb_tells i place) [
  | inl (_, same) ↦
      let now : Some m ≡ Some n = sym at_i ∙ ap (λ (k : ℕ). slice_get xs k) same ∙ at in
      let one : m ≡ n = cc in
      let both : Some other ≡ Some node = sym here ∙ ap (λ (k : ℕ). slice_get nodes k) (sym one) ∙ is in
      differ cc
  | inr (_, apart) ↦ before i m (omega arith) at_i is
]
