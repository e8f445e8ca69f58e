use Rattle.std.proofs.Common.{ap, sym, ◌∙◌, ◌/◌, ◌%◌, ◌^◌, ℕ, [], arith}
use Rattle.std.proofs.lemmas.Nat.{pow_pos}
use Rattle.vg_mem.specs.Bytes.{byte_in, loaded}
use Rattle.vg_mem.specs.Memory.{Memory, space_of}
use Rattle.vg_mem.specs.Pages.{bytes_of}
use Rattle.vg_mem.proofs.Wraps.{ends_within, loaded_wrapped, parts_of, wrapped_below}
use Rattle.vg_mem.proofs.Writes.{gathered_none, loaded_in_page, page_missing}
use Rattle.vg_mem.proofs.mem.Mem.load.Goals as goal

pub returns-then-offset-bytes-gt256-clause-value : goal.returns-then-offset-bytes-gt256-clause-value
returns-then-offset-bytes-gt256-clause-value c =
    c.load_each.ensures.value
    ∙ loaded_wrapped (byte_in (bytes_of c.self.inside.pages.pages.items)) (2 ^ c.self.inside.width) c.args.at c.from.result c.args.bytes (pow_pos c.self.inside.width) (c.from.ensures ∙ c.wrapped-first.ensures)
    ∙ ap (λ (m : Memory). loaded (byte_in m.bytes) (space_of m) c.args.at c.args.bytes) c.self.view_is

pub returns-in-Some-clause-value : goal.returns-in-Some-clause-value
returns-in-Some-clause-value c =
    c.read.ensures.value (c.wrapped-first.result / 256) (2 ^ c.self.inside.width) (sym c.in-Some.ensures.value)
    (ends_within c.self.inside.width c.wrapped-first.result c.args.bytes c.self.invariant.0 (wrapped_below c.self.inside.width c.args.at c.wrapped-first.result c.wrapped-first.ensures) (omega arith))
    ∙ ap (λ (at : ℕ). loaded (byte_in (bytes_of c.self.inside.pages.pages.items)) (2 ^ c.self.inside.width) at c.args.bytes) (parts_of c.wrapped-first.result)
    ∙ loaded_wrapped (byte_in (bytes_of c.self.inside.pages.pages.items)) (2 ^ c.self.inside.width) c.args.at c.wrapped-first.result c.args.bytes (pow_pos c.self.inside.width) c.wrapped-first.ensures
    ∙ ap (λ (m : Memory). loaded (byte_in m.bytes) (space_of m) c.args.at c.args.bytes) c.self.view_is

pub returns-in-None-clause-value : goal.returns-in-None-clause-value
returns-in-None-clause-value c =
    sym (gathered_none (c.wrapped-first.result % 256) c.args.bytes)
    ∙ sym (loaded_in_page (bytes_of c.self.inside.pages.pages.items) (c.wrapped-first.result / 256) [] (2 ^ c.self.inside.width) (c.wrapped-first.result % 256) c.args.bytes
    (page_missing c.self.inside.pages.pages.items (c.wrapped-first.result / 256) (sym c.in-None.ensures.value)) (omega arith)
    (ends_within c.self.inside.width c.wrapped-first.result c.args.bytes c.self.invariant.0 (wrapped_below c.self.inside.width c.args.at c.wrapped-first.result c.wrapped-first.ensures) (omega arith)))
    ∙ ap (λ (at : ℕ). loaded (byte_in (bytes_of c.self.inside.pages.pages.items)) (2 ^ c.self.inside.width) at c.args.bytes) (parts_of c.wrapped-first.result)
    ∙ loaded_wrapped (byte_in (bytes_of c.self.inside.pages.pages.items)) (2 ^ c.self.inside.width) c.args.at c.wrapped-first.result c.args.bytes (pow_pos c.self.inside.width) c.wrapped-first.ensures
    ∙ ap (λ (m : Memory). loaded (byte_in m.bytes) (space_of m) c.args.at c.args.bytes) c.self.view_is
