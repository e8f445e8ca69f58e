-- The last one goes.
use Rattle.std.proofs.Common.{◌≡◌, ◌-◌, ◌+◌, arith, List, ◌∷◌, ◌++◌, [], ℕ, length, get_or, sym, ap, ◌∙◌}
use Rattle.std.specs.Prelude.{remove}
use Rattle.std.proofs.lemmas.Option.{slice_get_within}
use Rattle.vg_list.specs.NodeLists.{nodes_of}
use Rattle.vg_alloc.proofs.Members.{nodes-set, Lacks-unlinked, remove_end}
use Rattle.vg_alloc.proofs.active.Active.remove_last.Goals as goal

pub returns-clause-members : goal.returns-clause-members
returns-clause-members c =
    let old = c.args.self.now.lists in
    let xs = nodes_of old 0 in
    let now : nodes_of c.unlink.new.self 0 ≡ remove xs (length xs - 1) =
    ap (λ (lists : List (List ℕ)). get_or lists 0 []) (c.unlink.ensures.place 0 (length xs - 1) c.requires.last) ∙ nodes-set old.lists (remove xs (length xs - 1)) c.requires.kept.one in
    let below = slice_get_within xs (length xs - 1) c.args.last c.requires.last in
    let last : (length xs - 1) + 1 ≡ length xs = omega arith in
    remove_end xs (length xs - 1) c.args.last last c.requires.last ∙ ap (λ (ys : List ℕ). ys ++ c.args.last ∷ []) (sym now)

pub returns-clause-gone : goal.returns-clause-gone
returns-clause-gone c = Lacks-unlinked c.args.self.now.lists c.unlink.new.self c.args.last c.unlink.ensures.value
