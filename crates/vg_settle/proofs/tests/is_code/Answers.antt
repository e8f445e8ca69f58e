-- Each item is well formed, and its words are counted.
use Rattle.std.proofs.Common.{◌≡◌, ◌+◌, [], length, get_or, Some, None, refl, sym, ◌∙◌, ap, subst, arith, inl, inr}
use Rattle.std.specs.Prelude.{slice_get}
use Rattle.std.proofs.lemmas.Option.{slice_get-get_or, slice_get_within}
use Rattle.vg_settle.specs.declared.item.Item.{Item}
use Rattle.vg_settle.specs.Layout.{start, IsShort}
use Rattle.vg_settle.proofs.Layouts.{same_or_other, start-zero}
use Rattle.vg_settle.proofs.Starting.{long_next}
use Rattle.vg_settle.proofs.tests.is_code.Goals as goal

pub loop-item-init : goal.loop-item-init
loop-item-init c = record {
  words = sym (start-zero c.args.items.now []);
  below = omega arith;
  shorts = λ j item short below has. absurd (omega arith);
}

pub loop-item-preserved : goal.loop-item-preserved
loop-item-preserved c =
    let none : Item = record { words = 0; short = None } in
    let here : Item = get_or c.args.items.now c.loop-item.item-index none in
    record {
      words = ap (λ n. c.loop-item.words + n) c.from-words.ensures ∙ long_next c.args.items.now c.loop-item.item-index c.loop-item.words none c.loop-item-test.true c.loop-item.invariant.words;
      below = c.if-words.false;
      shorts = λ j item short below has. elim (same_or_other j c.loop-item.item-index) [
        | inl same ↦
            (let there : slice_get c.args.items.now c.loop-item.item-index ≡ Some here = slice_get-get_or c.args.items.now c.loop-item.item-index none c.loop-item-test.true in
            let both : Some item ≡ Some here = sym has.item_at ∙ ap (slice_get c.args.items.now) same ∙ there in
            let one : item ≡ here = cc in
            let P : Item → Type 0 = λ i. IsShort c.args.items.now i short in
            subst P (sym one) (c.if-not-is_well_formed.ensures refl short (ap (λ (i : Item). i.short) (sym one) ∙ has.short_of)))
        | inr other ↦ c.loop-item.invariant.shorts j item short (omega arith) has
      ];
    }

pub returns : goal.returns
returns c = λ yes.
    let last : c.loop-item.item-index ≡ length c.args.items.now = (let e = c.loop-item-test.false in let f = c.loop-item.auto.item-index-end in omega arith) in
    let whole : start c.args.items.now [] c.loop-item.item-index ≡ start c.args.items.now [] (length c.args.items.now) = ap (start c.args.items.now []) last in
    record {
      word_bytes = inr (inl refl);
      shorts = λ j item short has. c.loop-item.invariant.shorts j item short (let w = slice_get_within c.args.items.now j item has.item_at in omega arith) has;
      words = let e = c.loop-item.invariant.below in let f = c.loop-item.invariant.words in omega arith;
    }
