-- Numbers of nodes that are told apart only as far as they are not too great.
use Rattle.std.specs.Prelude.{ℕ, suc, min}
use Rattle.vg_inline.specs.declared.keep.Keep.{Keep}

abbrev pub capped : Keep → ℕ → ℕ
capped keep n = min n (suc keep.most)
