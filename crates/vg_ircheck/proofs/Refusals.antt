-- A module is refused for one thing, and only where it isn't accepted.
use Rattle.std.proofs.Common.{◌≡◌, ◌⊎◌, inl, inr, ℕ, true, false, true≢false, List, [], Some, refl, sym, ap, ◌∙◌}
use Rattle.vg_ir.specs.declared.spot.Spot.{Spot}
use Rattle.vg_ir.specs.declared.module.Parts.{Parts}
use Rattle.vg_ircheck.specs.Place.{first_place}
use Rattle.vg_ircheck.specs.Unset.{Read, reads_of, IsUnsetRead}
use Rattle.vg_ircheck.specs.Phis.{Subject, place_of, subjects_of, IsBroken}
use Rattle.vg_ircheck.specs.Typing.{typing_places}
use Rattle.vg_ircheck.specs.Counts.{count_places}
use Rattle.vg_ircheck.specs.Check.{IsFirst, Refusal, Typing, Unset, Phi, NoEntry, Limit, IsTyped, IsSet, HasPhis, has_entry, IsAccepted, IsRefused, OneRefusal}
use Rattle.vg_ircheck.proofs.Places.{no_place, place_is_one, has_place}
use Rattle.vg_ircheck.proofs.Firsts.{first_is_one, none_is_first, decided}
use Rattle.vg_ircheck.proofs.Deciding.{is_or_not, read_or_not, broken_or_not}

module _ (m : Parts) (entry : List ℕ) where
  one : (a b : Refusal) → IsRefused m entry a → IsRefused m entry b → a ≡ b
  one (Typing at) (Typing other) h k = ap Typing (place_is_one _ at other h k)
  one (Typing at) (Unset v b) h k = absurd (no_place _ at k.0 h)
  one (Typing at) (Phi other) h k = absurd (no_place _ at k.0 h)
  one (Typing at) NoEntry h k = absurd (no_place _ at k.0 h)
  one (Typing at) (Limit other) h k = absurd (no_place _ at k.0 h)
  one (Unset v b) (Typing at) h k = absurd (no_place _ at h.0 k)
  one (Unset v b) (Unset w c) h k =
      let same : h.1.0 ≡ k.1.0 = first_is_one IsUnsetRead (reads_of m) h.1.0 k.1.0 h.1.1 k.1.1 in
      let values : v ≡ w = sym h.1.2 ∙ ap (λ (r : Read). r.1.value) same ∙ k.1.2 in
      let blocks : b ≡ c = sym h.1.3 ∙ ap (λ (r : Read). r.1.block) same ∙ k.1.3 in
      cc
  one (Unset v b) (Phi other) h k = absurd (none_is_first IsUnsetRead (reads_of m) h.1.0 k.1 h.1.1)
  one (Unset v b) NoEntry h k = absurd (none_is_first IsUnsetRead (reads_of m) h.1.0 k.1 h.1.1)
  one (Unset v b) (Limit other) h k = absurd (none_is_first IsUnsetRead (reads_of m) h.1.0 k.1 h.1.1)
  one (Phi at) (Typing other) h k = absurd (no_place _ other h.0 k)
  one (Phi at) (Unset w c) h k = absurd (none_is_first IsUnsetRead (reads_of m) k.1.0 h.1 k.1.1)
  one (Phi at) (Phi other) h k =
      let same : h.2.0 ≡ k.2.0 = first_is_one IsBroken (subjects_of m) h.2.0 k.2.0 h.2.1 k.2.1 in
      let places : at ≡ other = sym h.2.2 ∙ ap place_of same ∙ k.2.2 in
      ap Phi places
  one (Phi at) NoEntry h k = absurd (none_is_first IsBroken (subjects_of m) h.2.0 k.2 h.2.1)
  one (Phi at) (Limit other) h k = absurd (none_is_first IsBroken (subjects_of m) h.2.0 k.2 h.2.1)
  one NoEntry (Typing at) h k = absurd (no_place _ at h.0 k)
  one NoEntry (Unset w c) h k = absurd (none_is_first IsUnsetRead (reads_of m) k.1.0 h.1 k.1.1)
  one NoEntry (Phi at) h k = absurd (none_is_first IsBroken (subjects_of m) k.2.0 h.2 k.2.1)
  one NoEntry NoEntry h k = cc
  one NoEntry (Limit at) h k = absurd (true≢false (sym k.3 ∙ h.3))
  one (Limit at) (Typing other) h k = absurd (no_place _ other h.0 k)
  one (Limit at) (Unset w c) h k = absurd (none_is_first IsUnsetRead (reads_of m) k.1.0 h.1 k.1.1)
  one (Limit at) (Phi other) h k = absurd (none_is_first IsBroken (subjects_of m) k.2.0 h.2 k.2.1)
  one (Limit at) NoEntry h k = absurd (true≢false (sym h.3 ∙ k.3))
  one (Limit at) (Limit other) h k = ap Limit (place_is_one _ at other h.4 k.4)

  none : (a : Refusal) → IsRefused m entry a → IsAccepted m entry → ⊥
  none (Typing at) h k = no_place _ at k.typed h
  none (Unset v b) h k = none_is_first IsUnsetRead (reads_of m) h.1.0 k.set h.1.1
  none (Phi at) h k = none_is_first IsBroken (subjects_of m) h.2.0 k.phis h.2.1
  none NoEntry h k = true≢false (sym k.entered ∙ h.3)
  none (Limit at) h k = no_place _ at k.counts h.4

  -- what is asked last, and each before it
  by_counts : IsTyped m → IsSet m → HasPhis m → has_entry m entry ≡ true
      → ((count_places m ≡ []) ⊎ ((at : Spot) × (first_place (count_places m) ≡ Some at)))
      → IsAccepted m entry ⊎ ((a : Refusal) × IsRefused m entry a)
  by_counts typed set phis entered (inl counts) = inl (record { typed = typed; set = set; phis = phis; entered = entered; counts = counts })
  by_counts typed set phis entered (inr found) = inr (Limit found.0, (typed, set, phis, entered, found.1))

  by_entry : IsTyped m → IsSet m → HasPhis m → (has_entry m entry ≡ true) ⊎ (has_entry m entry ≡ false)
      → IsAccepted m entry ⊎ ((a : Refusal) × IsRefused m entry a)
  by_entry typed set phis (inl entered) = by_counts typed set phis entered (has_place (count_places m))
  by_entry typed set phis (inr lacking) = inr (NoEntry, (typed, set, phis, lacking))

  by_phis : IsTyped m → IsSet m → HasPhis m ⊎ ((s : Subject) × IsFirst IsBroken (subjects_of m) s)
      → IsAccepted m entry ⊎ ((a : Refusal) × IsRefused m entry a)
  by_phis typed set (inl phis) = by_entry typed set phis (is_or_not (has_entry m entry))
  by_phis typed set (inr found) = inr (Phi (place_of found.0), (typed, set, (found.0, found.1, refl)))

  by_reads : IsTyped m → IsSet m ⊎ ((r : Read) × IsFirst IsUnsetRead (reads_of m) r)
      → IsAccepted m entry ⊎ ((a : Refusal) × IsRefused m entry a)
  by_reads typed (inl set) = by_phis typed set (decided IsBroken broken_or_not (subjects_of m))
  by_reads typed (inr found) = inr (Unset found.0.1.value found.0.1.block, (typed, (found.0, found.1, refl, refl)))

  by_types : ((typing_places m ≡ []) ⊎ ((at : Spot) × (first_place (typing_places m) ≡ Some at)))
      → IsAccepted m entry ⊎ ((a : Refusal) × IsRefused m entry a)
  by_types (inl typed) = by_reads typed (decided IsUnsetRead read_or_not (reads_of m))
  by_types (inr found) = inr (Typing found.0, found.1)

  -- a module is accepted, or is refused for one thing
  pub one_refusal : OneRefusal m entry
  one_refusal = record { one = one; none = none; some = by_types (has_place (typing_places m)) }
