use Rattle.vg_decode.specs.Decoding.{first_fit, found_in}
use Rattle.vg_decode.specs.Narrowing.{may_lack, may_have}
use Rattle.vg_decode.proofs.Narrowed.{test_finds}
use Rattle.std.proofs.Common.{◌≡◌, ℕ, filter, ap, ◌∙◌}
use Rattle.vg_decode.proofs.growing.+grow.Goals as goal

pub returns-in_ok-some-in-Some : goal.returns-in_ok-some-in-Some
returns-in_ok-some-in-Some t c =
    let cs = c.args.candidates.now in
    let lacks : (word : ℕ) → found_in c.in_ok-none-in-Some.none word ≡ first_fit (filter (may_lack c.in-Some.mask) cs) word
    = λ word. ap (λ tree. found_in tree word) c.in_ok-none-in-Some.ensures ∙ c.in_ok-grow-in-Some.ensures word
    ∙ ap (λ xs. first_fit xs word) (c.as_slice.ensures.value ∙ c.in_ok-without-in-Some.ensures) in
    let has : (word : ℕ) → found_in c.in_ok-some-in-Some.some word ≡ first_fit (filter (may_have c.in-Some.mask) cs) word
    = λ word. ap (λ tree. found_in tree word) c.in_ok-some-in-Some.ensures ∙ c.in_ok-grow-in-Some-2.ensures word
    ∙ ap (λ xs. first_fit xs word) (c.as_slice-in-Some.ensures.value ∙ c.in_ok-with-in-Some.ensures) in
    test_finds cs c.in-Some.mask c.in_ok-none-in-Some.none c.in_ok-some-in-Some.some lacks has
