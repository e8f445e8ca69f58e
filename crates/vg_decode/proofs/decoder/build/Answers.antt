use Rattle.std.proofs.Common.{◌≡◌, ◌<◌, ◌^◌, Some, None, ap, ◌∙◌, sym, subst}
use Rattle.vg_bits.specs.BitValue.{BitValue}
use Rattle.vg_decode.specs.Decoding.{first_fit, finds}
use Rattle.vg_decode.specs.Overlap.{IsFirstOverlap}
use Rattle.vg_decode.specs.Pairs.{first_pair}
use Rattle.vg_decode.proofs.Found.{first_found}
use Rattle.vg_decode.proofs.FirstPair.{pair_is_overlap, pair_below, no_pair_unambiguous}
use Rattle.vg_decode.proofs.decoder.build.Goals as goal

pub of-requires : goal.of-requires
of-requires c =
    let found : first_pair c.in_ok-candidates.candidates.items ≡ Some c.in-Some.pair = ap first_pair (sym c.as_slice.ensures.value) ∙ sym c.first_pair.ensures ∙ c.in-Some.is in
    let below : c.in-Some.pair.word < 2 ^ c.args.isa.now.word = pair_below c.args.isa.now c.in_ok-candidates.candidates.items c.in_ok-candidates.ensures c.in-Some.pair found in
    rw (c.from.ensures, c.word.ensures.value) below

pub returns-in-Some : goal.returns-in-Some
returns-in-Some c =
    let found : first_pair c.in_ok-candidates.candidates.items ≡ Some c.in-Some.pair = ap first_pair (sym c.as_slice.ensures.value) ∙ sym c.first_pair.ensures ∙ c.in-Some.is in
    let overlap : IsFirstOverlap c.args.isa.now c.in-Some.pair.a.0 c.in-Some.pair.b.0 c.in-Some.pair.word
    = pair_is_overlap c.args.isa.now c.in_ok-candidates.candidates.items c.in_ok-candidates.ensures c.in-Some.pair found in
    let number : c.of.result.number ≡ c.in-Some.pair.word = ap (λ (v : BitValue). v.number) c.of.ensures ∙ c.from.ensures in
    (ap (λ (v : BitValue). v.width) c.of.ensures ∙ c.word.ensures.value, subst (IsFirstOverlap c.args.isa.now c.in-Some.pair.a.0 c.in-Some.pair.b.0) (sym number) overlap)

pub returns : goal.returns
unfolding finds
returns c =
    let none : first_pair c.in_ok-candidates.candidates.items ≡ None = ap first_pair (sym c.as_slice.ensures.value) ∙ sym c.first_pair.ensures ∙ c.in-None.is in (
      no_pair_unambiguous c.args.isa.now c.in_ok-candidates.candidates.items c.in_ok-candidates.ensures none,
      λ word. c.in_ok-grow-in-None.ensures word ∙ ap (λ xs. first_fit xs word) c.as_slice-in-None.ensures.value ∙ first_found c.args.isa.now c.in_ok-candidates.candidates.items word c.in_ok-candidates.ensures,
    )
