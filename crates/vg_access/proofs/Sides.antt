-- The two sides of a conditional: the writes of the first are put aside while the other one is asked.
use Rattle.std.proofs.Common.{◌≡◌, ℕ, ◌≤◌, List, ◌++◌, length, take, drop, Option, Some, None, ap, sym, ◌∙◌}
use Rattle.std.proofs.lemmas.List.{append_assoc, map-append}
use Rattle.vg_names.specs.First.{first_of}
use Rattle.vg_tree.specs.Access.{Write, Writing}
use Rattle.vg_access.specs.declared.write.Write.{Write as WriteGiven}
use Rattle.vg_access.specs.Follows.{Follows, on_either_side}
use Rattle.vg_access.specs.Given.{write_in, writes_in}
use Rattle.vg_access.proofs.Tails.{front_taken, is_longer, tail_dropped}
use Rattle.vg_access.proofs.Writings.{on_first, on_neither, on_other}

-- where nothing is found, that is known of the writes
abbrev none_found : {part : Writing} {path others path_after others_after : List Write} {found : Option ℕ} → found ≡ None → Follows part path others found path_after others_after → Follows part path others None path_after others_after
none_found none h = record { first = sym none ∙ h.first; longer = λ e. h.longer none; kept = λ e. h.kept none }

-- where it is found at a place, that too
abbrev one_found : {part : Writing} {path others path_after others_after : List Write} {found : Option ℕ} {at : ℕ} → found ≡ Some at → Follows part path others found path_after others_after → Follows part path others (Some at) path_after others_after
one_found some h = record { first = sym some ∙ h.first; longer = λ e. absurd (cc); kept = λ e. absurd (cc) }

module _ (one other : Writing) (n m : ℕ) (path others path_one others_one : List WriteGiven) (found : Option ℕ) (cut : n ≡ length path) (aside : m ≡ length others)
    (h : Follows one (writes_in path) (writes_in others) found (writes_in path_one) (writes_in others_one)) where
  pub found_first : (at : ℕ) (path_after others_after : List Write) → found ≡ Some at → Follows (on_either_side one other) (writes_in path) (writes_in others) (Some at) path_after others_after
  found_first at path_after others_after some =
      on_first one other (writes_in path) (writes_in others) at (writes_in path_one) (writes_in others_one) path_after others_after (one_found some h)

  module _ (none : found ≡ None) where
    pub first_longer : n ≤ length path_one
    first_longer = is_longer write_in n path_one path one.writes cut (h.longer none)

    module _ (path_two others_two : List WriteGiven) (front : path_two ≡ take n path_one) (tail : others_two ≡ others_one ++ drop n path_one) where
      path_is : writes_in path_two ≡ writes_in path
      path_is = ap writes_in front ∙ front_taken write_in n path_one path one.writes cut (h.longer none)

      others_is : writes_in others_two ≡ writes_in others ++ one.writes
      others_is =
          ap writes_in tail ∙ map-append write_in others_one (drop n path_one)
          ∙ ap (λ ws. writes_in others_one ++ ws) (tail_dropped write_in n path_one path one.writes cut (h.longer none))
          ∙ ap (λ ws. ws ++ one.writes) (h.kept none)

      module _ (found_other : Option ℕ) (path_three others_three : List WriteGiven) (k : Follows other (writes_in path_two) (writes_in others_two) found_other (writes_in path_three) (writes_in others_three)) where
        again : Follows other (writes_in path) (writes_in others ++ one.writes) found_other (writes_in path_three) (writes_in others_three)
        again = record {
          first =
              k.first ∙ ap (λ ws. first_of (other.places ws (writes_in others_two))) path_is
              ∙ ap (λ ws. first_of (other.places (writes_in path) ws)) others_is;
          longer = λ e. k.longer e ∙ ap (λ ws. ws ++ other.writes) path_is;
          kept = λ e. k.kept e ∙ others_is;
        }

        pub found_other_side : (at : ℕ) (path_after others_after : List Write) → found_other ≡ Some at → Follows (on_either_side one other) (writes_in path) (writes_in others) (Some at) path_after others_after
        found_other_side at path_after others_after some =
            on_other one other (writes_in path) (writes_in others) at (writes_in path_one) (writes_in others_one) (writes_in path_three) (writes_in others_three) path_after others_after
            (none_found none h) (one_found some again)

        module _ (no : found_other ≡ None) where
          pub other_longer : n ≤ length path_three
          other_longer = is_longer write_in n path_three path other.writes cut (again.longer no)

          pub aside_longer : m ≤ length others_three
          aside_longer = is_longer write_in m others_three others one.writes aside (again.kept no)

          abbrev both : List WriteGiven
          both = others_three ++ drop n path_three

          both_is : writes_in both ≡ writes_in others ++ (one.writes ++ other.writes)
          both_is =
              map-append write_in others_three (drop n path_three)
              ∙ ap (λ ws. writes_in others_three ++ ws) (tail_dropped write_in n path_three path other.writes cut (again.longer no))
              ∙ ap (λ ws. ws ++ other.writes) (again.kept no)
              ∙ append_assoc (writes_in others) one.writes other.writes

          pub found_nowhere : (path_after others_after : List WriteGiven) → path_after ≡ take n path_three ++ drop m (others_three ++ drop n path_three)
              → others_after ≡ take m (others_three ++ drop n path_three) → Follows (on_either_side one other) (writes_in path) (writes_in others) None (writes_in path_after) (writes_in others_after)
          found_nowhere path_after others_after e f =
              on_neither one other (writes_in path) (writes_in others) (writes_in path_one) (writes_in others_one) (writes_in path_three) (writes_in others_three) (writes_in path_after) (writes_in others_after)
              (none_found none h) (none_found no again)
              (ap writes_in e ∙ map-append write_in (take n path_three) (drop m both)
              ∙ ap (λ ws. ws ++ writes_in (drop m both)) (front_taken write_in n path_three path other.writes cut (again.longer no))
              ∙ ap (λ ws. writes_in path ++ ws) (tail_dropped write_in m both others (one.writes ++ other.writes) aside both_is))
              (ap writes_in f ∙ front_taken write_in m both others (one.writes ++ other.writes) aside both_is)
