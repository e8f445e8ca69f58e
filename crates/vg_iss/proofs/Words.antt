-- Code words, and bytes that weren't stored.
use Rattle.std.proofs.Common.{◌≡◌, ℕ, zero, suc, ap, unwrap_or, ◌+◌, ◌-◌, ◌/◌, ◌%◌, ◌<◌, ◌^◌, Bool, true, false, List, All, IsTrue, nat_lt, Some, None, Option, arith, refl, if◌then◌else◌}
use Rattle.std.specs.Ordering.{nat_cmp}
use Rattle.std.specs.FinMap.{empty, get-empty}
use Rattle.std.proofs.lemmas.List.Sums.{list_all-from_AllPass}
use Rattle.vg_isa.specs.declared.isa.Parts.{Parts}
use Rattle.vg_isa.specs.Value.{loaded}
use Rattle.vg_isa.proofs.Tests.{list_all-slice_get}
use Rattle.vg_image.specs.declared.image.Image.{Image}
use Rattle.vg_isa.specs.Declaration.{word_bytes}
use Rattle.vg_image.specs.State.{byte_at}
use Rattle.vg_image.specs.Step.{word_at}
use Rattle.vg_iss.specs.Kept.{are_words}
use Rattle.vg_isa.proofs.Tests.{nat_lt-true, true-nat_lt}

some_of_if : (b : Bool) (o : Option ℕ) (word : ℕ) → (if b then o else None) ≡ Some word → o ≡ Some word
some_of_if true o word h = h
some_of_if false o word h = cc

-- a code word of an image is below 2 to the words' width
pub word_below : (d : Parts) (i : Image) (at word : ℕ) → IsTrue (are_words d.word i.code) → word_at d i at ≡ Some word → word < 2 ^ d.word
word_below d i at word h here =
    true-nat_lt _ _ (list_all-slice_get (λ (w : ℕ). nat_lt w (2 ^ d.word)) i.code ((at - i.base) / word_bytes d) word h (some_of_if _ _ word here))

-- words that are all below a bound pass the test
pub words_below : (width : ℕ) (code : List ℕ) → All (λ word. word < 2 ^ width) code → IsTrue (are_words width code)
words_below width code h = list_all-from_AllPass (λ (word : ℕ). nat_lt word (2 ^ width)) code (λ k d within. nat_lt-true _ _ (h k d within))

-- bytes that are all 0 are loaded as 0
pub loaded_zero : (byte : ℕ → ℕ) (space at n : ℕ) → ((a : ℕ) → byte a ≡ 0) → loaded byte space at n ≡ 0
loaded_zero byte space at zero h = refl
loaded_zero byte space at (suc n) h = omega (arith, h (at % space), loaded_zero byte space (at + 1) n h)

-- where nothing is stored each byte is 0
pub no_byte : (pc : ℕ) (registers : List (List ℕ)) (at : ℕ) → byte_at (record { pc = pc; registers = registers; bytes = empty }) at ≡ 0
no_byte pc registers at = ap (λ (o : Option ℕ). unwrap_or o 0) (get-empty nat_cmp at)
