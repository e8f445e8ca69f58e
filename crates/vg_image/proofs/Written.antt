-- What is written line by line is the spelling.
use Rattle.std.proofs.Common.{◌≡◌, ℕ, suc, ◌+◌, ◌-◌, ◌/◌, ◌<◌, ◌≤◌, List, [], ◌∷◌, ◌++◌, length, map, min, take, drop, refl, ap, sym, ◌∙◌, append_assoc, arith, length-drop}
use Rattle.std.specs.Prelude.{codes, flat_map}
use Rattle.std.proofs.lemmas.List.{append-nil, drop_min, nil_from_length, take_min}
use Rattle.vg_isa.specs.declared.isa.Parts.{Parts}
use Rattle.vg_image.specs.declared.image.Image.{Image}
use Rattle.vg_image.specs.declared.image.Symbol.{Symbol}
use Rattle.vg_image.specs.Lines.{ended_line}
use Rattle.vg_image.specs.Spelling.{address_after, bytes_text, code_text, spelling, symbol_text}
use Rattle.vg_image.specs.Writer.{data_written, head_written}
use Rattle.vg_image.proofs.Rows.{data_lines, data_lines-rows, rows_of}

-- ---- data

rows_split : (n : ℕ) (bytes : List ℕ) → n ≡ (length bytes + 15) / 16 → 0 < length bytes → rows_of n bytes ≡ take 16 bytes ∷ rows_of ((length (drop 16 bytes) + 15) / 16) (drop 16 bytes)
rows_split n bytes count some =
    let one_less : n ≡ suc ((length (drop 16 bytes) + 15) / 16) = omega (arith, count, some, length-drop 16 bytes) in
    ap (λ k. rows_of k bytes) one_less

data_split : (bytes : List ℕ) → 0 < length bytes → data_lines bytes ≡ bytes_text (take 16 bytes) ∷ data_lines (drop 16 bytes)
data_split bytes some =
    data_lines-rows bytes
    ∙ ap (map bytes_text) (rows_split ((length bytes + 15) / 16) bytes refl some)
    ∙ ap (λ rows. bytes_text (take 16 bytes) ∷ rows) (sym (data_lines-rows (drop 16 bytes)))

data_one : (bytes : List ℕ) → 0 < length bytes → data_written bytes ≡ ended_line (bytes_text (take 16 bytes)) ++ data_written (drop 16 bytes)
unfolding data_written
data_one bytes some = ap (flat_map ended_line) (data_split bytes some)

data_none : data_written [] ≡ []
unfolding data_written
data_none = refl

-- one line more is written
pub data_goes_on : (out before total rest row behind : List ℕ) → 0 < length rest → row ≡ take (min 16 (length rest)) rest → behind ≡ drop (min 16 (length rest)) rest
    → before ++ data_written rest ≡ total → out ≡ before ++ ended_line (bytes_text row) → out ++ data_written behind ≡ total
data_goes_on out before total rest row behind some is_row is_behind so_far written =
    let line : List ℕ = ended_line (bytes_text (take 16 rest)) in
    (λ j. (written ∙ ap (λ r. before ++ ended_line (bytes_text r)) (is_row ∙ take_min 16 rest)) j ++ data_written ((is_behind ∙ drop_min 16 rest) j))
    ∙ append_assoc before line (data_written (drop 16 rest))
    ∙ ap (λ t. before ++ t) (sym (data_one rest some))
    ∙ so_far

pub data_ends : (out total rest : List ℕ) → length rest ≡ 0 → out ++ data_written rest ≡ total → out ≡ total
data_ends out total rest none so_far =
    sym (append-nil out) ∙ ap (λ t. out ++ t) (sym data_none ∙ ap data_written (sym (nil_from_length rest none))) ∙ so_far

-- ---- the whole

flat-append : {A : Type 0} (f : A → List ℕ) (xs ys : List A) → flat_map f (xs ++ ys) ≡ flat_map f xs ++ flat_map f ys
flat-append f [] ys = refl
flat-append f (x ∷ xs) ys = ap (λ t. f x ++ t) (flat-append f xs ys) ∙ sym (append_assoc (f x) (flat_map f xs) (flat_map f ys))

flat-map : {A : Type 0} (g : A → List ℕ) (xs : List A) → flat_map ended_line (map g xs) ≡ flat_map (λ x. ended_line (g x)) xs
flat-map g [] = refl
flat-map g (x ∷ xs) = ap (λ t. ended_line (g x) ++ t) (flat-map g xs)

-- lines behind the four addresses
behind_head : (code symbols bytes : List (List ℕ)) (data_base last : List ℕ) → flat_map ended_line (code ++ (data_base ∷ (bytes ++ (symbols ++ last ∷ []))))
    ≡ flat_map ended_line code ++ (ended_line data_base ++ (flat_map ended_line bytes ++ (flat_map ended_line symbols ++ ended_line last)))
behind_head code symbols bytes data_base last =
    flat-append ended_line code (data_base ∷ (bytes ++ (symbols ++ last ∷ [])))
    ∙ ap (λ t. flat_map ended_line code ++ (ended_line data_base ++ t))
    (flat-append ended_line bytes (symbols ++ last ∷ [])
    ∙ ap (λ t. flat_map ended_line bytes ++ t) (flat-append ended_line symbols (last ∷ []) ∙ ap (λ t. flat_map ended_line symbols ++ t) (append-nil (ended_line last))))

regroup : (name base entry stop full code data_base bytes symbols last : List ℕ)
    → name ++ (base ++ (entry ++ (stop ++ (full ++ (code ++ (data_base ++ (bytes ++ (symbols ++ last))))))))
    ≡ (name ++ base ++ entry ++ stop ++ full) ++ code ++ data_base ++ bytes ++ symbols ++ last
regroup name base entry stop full code data_base bytes symbols last = simp append_assoc refl

pub all_written : (d : Parts) (i : Image) → head_written d i ++ flat_map (λ word. ended_line (code_text d word)) i.code ++ ended_line (address_after d (codes "data ") i.data_base) ++ data_written i.bytes ++ flat_map (λ (symbol : Symbol). ended_line (symbol_text d symbol)) i.symbols ++ ended_line (codes "end") ≡ spelling d i
unfolding spelling head_written data_written
all_written d i =
    sym (regroup (ended_line (codes "image " ++ d.name)) (ended_line (address_after d (codes "base ") i.base)) (ended_line (address_after d (codes "entry ") i.entry)) (ended_line (address_after d (codes "stop ") i.stop)) (ended_line (address_after d (codes "full ") i.full))
    (flat_map (λ word. ended_line (code_text d word)) i.code) (ended_line (address_after d (codes "data ") i.data_base)) (flat_map ended_line (data_lines i.bytes)) (flat_map (λ (symbol : Symbol). ended_line (symbol_text d symbol)) i.symbols) (ended_line (codes "end")))
    ∙ ap (λ t. ended_line (codes "image " ++ d.name) ++ (ended_line (address_after d (codes "base ") i.base) ++ (ended_line (address_after d (codes "entry ") i.entry) ++ (ended_line (address_after d (codes "stop ") i.stop) ++ (ended_line (address_after d (codes "full ") i.full) ++ t)))))
    ((λ j. sym (flat-map (code_text d) i.code) j ++ (ended_line (address_after d (codes "data ") i.data_base) ++ (flat_map ended_line (data_lines i.bytes) ++ (sym (flat-map (symbol_text d) i.symbols) j ++ ended_line (codes "end")))))
    ∙ sym (behind_head (map (code_text d) i.code) (map (symbol_text d) i.symbols) (data_lines i.bytes) (address_after d (codes "data ") i.data_base) (codes "end")))

-- ---- one piece behind the other

regroup_head : (out word name feed base entry stop full : List ℕ) → out ++ word ++ name ++ feed ++ base ++ entry ++ stop ++ full ≡ out ++ (word ++ name ++ feed ++ base ++ entry ++ stop ++ full)
regroup_head out word name feed base entry stop full = simp append_assoc refl

pub head_ends : (d : Parts) (i : Image) (o0 o1 o2 o3 o4 o5 o6 o7 : List ℕ) → o1 ≡ o0 ++ codes "image " → o2 ≡ o1 ++ d.name → o3 ≡ o2 ++ codes "\n" → o4 ≡ o3 ++ ended_line (address_after d (codes "base ") i.base)
    → o5 ≡ o4 ++ ended_line (address_after d (codes "entry ") i.entry) → o6 ≡ o5 ++ ended_line (address_after d (codes "stop ") i.stop) → o7 ≡ o6 ++ ended_line (address_after d (codes "full ") i.full) → o7 ≡ o0 ++ head_written d i
unfolding head_written
head_ends d i o0 o1 o2 o3 o4 o5 o6 o7 e1 e2 e3 e4 e5 e6 e7 =
    let base : List ℕ = ended_line (address_after d (codes "base ") i.base) in
    let entry : List ℕ = ended_line (address_after d (codes "entry ") i.entry) in
    let stop : List ℕ = ended_line (address_after d (codes "stop ") i.stop) in
    let full : List ℕ = ended_line (address_after d (codes "full ") i.full) in
    e7
    ∙ ap (λ t. t ++ full) (e6 ∙ ap (λ t. t ++ stop) (e5 ∙ ap (λ t. t ++ entry) (e4 ∙ ap (λ t. t ++ base) (e3 ∙ ap (λ t. t ++ codes "\n") (e2 ∙ ap (λ t. t ++ d.name) e1)))))
    ∙ regroup_head o0 (codes "image ") d.name (codes "\n") base entry stop full

pub write_ends : (d : Parts) (i : Image) (o0 o1 o2 o3 o4 o5 o6 : List ℕ) → o0 ≡ [] → o1 ≡ o0 ++ head_written d i → o2 ≡ o1 ++ flat_map (λ word. ended_line (code_text d word)) i.code → o3 ≡ o2 ++ ended_line (address_after d (codes "data ") i.data_base)
    → o4 ≡ o3 ++ data_written i.bytes → o5 ≡ o4 ++ flat_map (λ (symbol : Symbol). ended_line (symbol_text d symbol)) i.symbols → o6 ≡ o5 ++ codes "end\n" → o6 ≡ spelling d i
write_ends d i o0 o1 o2 o3 o4 o5 o6 e0 e1 e2 e3 e4 e5 e6 =
    e6
    ∙ ap (λ t. t ++ codes "end\n") (e5
    ∙ ap (λ t. t ++ flat_map (λ (symbol : Symbol). ended_line (symbol_text d symbol)) i.symbols) (e4
    ∙ ap (λ t. t ++ data_written i.bytes) (e3
    ∙ ap (λ t. t ++ ended_line (address_after d (codes "data ") i.data_base)) (e2
    ∙ ap (λ t. t ++ flat_map (λ word. ended_line (code_text d word)) i.code) (e1 ∙ ap (λ t. t ++ head_written d i) e0)))))
    ∙ all_written d i
