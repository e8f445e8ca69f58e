-- The value goes before the first one that ends behind it, or to the end.
use Rattle.std.proofs.Common.{◌≡◌, ◌<◌, ℕ, List, ◌∷◌, ◌++◌, [], Some, length, get_or, sym, ap, ◌∙◌, subst, rules}
use Rattle.std.specs.Prelude.{insert, slice_get}
use Rattle.vg_list.specs.NodeLists.{NodeLists, nodes_of}
use Rattle.vg_alloc.specs.Ends.{end_of, EndsBy}
use Rattle.vg_alloc.specs.Active.{members, InsertsAt}
use Rattle.vg_alloc.proofs.Members.{nodes-set, InsertsAt-before, InsertsAt-end}
use Rattle.vg_alloc.proofs.active.Active.insert.Goals as goal
use Rattle.vg_alloc.proofs.active.Active.insert.Goals.{in-Some, in-None}

pub returns-clause-place : goal.returns-clause-place
returns-clause-place c =
    let intervals = c.args.intervals.now in
    let value = c.args.value in
    let old = c.args.self.now.lists in
    let xs = nodes_of old 0 in
    elim c.match-first_behind.branch [
      | in-Some w ↦
          let found : (k : ℕ) × (slice_get xs k ≡ Some w.in-Some.at) × EndsBy intervals (end_of intervals value) xs k × (end_of intervals value < end_of intervals w.in-Some.at) = search rules in
          let now : members c.match-first_behind.self ≡ insert xs found.0 value =
          ap members w.self-is
          ∙ ap (λ (lists : List (List ℕ)). get_or lists 0 []) (w.insert_before.ensures.place 0 found.0 found.1)
          ∙ nodes-set old.lists (insert xs found.0 value) c.requires.kept.one in
          subst (InsertsAt (end_of intervals) value xs) (sym now) (InsertsAt-before intervals value w.in-Some.at xs found.0 c.requires.sorted found.1 found.2 found.3)
      | in-None w ↦
          let all : EndsBy intervals (end_of intervals value) xs (length xs) = search rules in
          let now : members c.match-first_behind.self ≡ xs ++ value ∷ [] =
          ap members w.self-is
          ∙ ap (λ (lists : NodeLists). nodes_of lists 0) w.push_back.ensures
          ∙ nodes-set old.lists (xs ++ value ∷ []) c.requires.kept.one in
          subst (InsertsAt (end_of intervals) value xs) (sym now) (InsertsAt-end intervals value xs all)
    ]
