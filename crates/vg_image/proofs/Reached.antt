-- What is read stands in front of a spelling, whatever lines it was read from.
use Rattle.std.proofs.Common.{◌≡◌, ℕ, ◌+◌, ◌*◌, ◌/◌, ◌%◌, ◌^◌, ◌<◌, ◌≤◌, List, [], ◌∷◌, ◌++◌, All, length, map, refl, ap, sym, ◌∙◌, subst, append_assoc, arith}
use Rattle.std.specs.Prelude.{codes}
use Rattle.std.proofs.lemmas.List.{append-nil}
use Rattle.vg_isa.specs.declared.isa.Parts.{Parts}
use Rattle.vg_isa.specs.Declaration.{word_bytes}
use Rattle.vg_image.specs.declared.image.Image.{Image}
use Rattle.vg_image.specs.declared.image.Symbol.{Symbol}
use Rattle.vg_image.specs.declared.progress.Progress.{Progress}
use Rattle.vg_image.specs.declared.stage.Stage.{Stage}
use Rattle.vg_image.specs.declared.stage.Stage.TheVariants as stages
use Rattle.vg_image.specs.Lines.{lines_of}
use Rattle.vg_image.specs.Spelling.{IsImage, IsSymbol, address_after, code_text, symbol_text}
use Rattle.vg_image.proofs.Rows.{data_lines}

-- ---- the lines of a spelling

-- the lines of the name
abbrev pub name_lines : Parts → List (List ℕ)
name_lines d = lines_of ((codes "image " ++ d.name) ++ 10 ∷ [])

-- the four addresses, and other lines behind them
abbrev pub head_lines : Parts → Image → List (List ℕ) → List (List ℕ)
head_lines d i rest = address_after d (codes "base ") i.base ∷ address_after d (codes "entry ") i.entry ∷ address_after d (codes "stop ") i.stop ∷ address_after d (codes "full ") i.full ∷ rest

abbrev pub data_base_text : Parts → Image → List ℕ
data_base_text d i = address_after d (codes "data ") i.data_base

-- all lines behind the name
abbrev pub tail_lines : Parts → Image → List (List ℕ)
tail_lines d i = head_lines d i (map (code_text d) i.code ++ (data_base_text d i ∷ (data_lines i.bytes ++ (map (symbol_text d) i.symbols ++ codes "end" ∷ []))))

-- ---- what is read at each stage

-- addresses alone
pub record IsHead (d : Parts) (i : Image) : Type 0 where
  pub aligned : i.base % word_bytes d ≡ 0
  pub base : i.base < 2 ^ d.pc.width
  pub entry : i.entry < 2 ^ d.pc.width
  pub stop : i.stop < 2 ^ d.pc.width
  pub full : i.full < 2 ^ d.pc.width
  pub data_base : i.data_base < 2 ^ d.pc.width
  pub no_code : i.code ≡ []
  pub no_bytes : i.bytes ≡ []
  pub no_symbols : i.symbols ≡ []

-- and code words
pub record IsCode (d : Parts) (i : Image) : Type 0 where
  pub image : IsImage d i
  pub no_bytes : i.bytes ≡ []
  pub no_symbols : i.symbols ≡ []

-- and full lines of data
pub record IsData (d : Parts) (i : Image) : Type 0 where
  pub image : IsImage d i
  pub rows : ℕ
  pub full : length i.bytes ≡ 16 * rows
  pub no_symbols : i.symbols ≡ []

abbrev pub IsReadAt : Parts → Stage → List ℕ → Image → List (List ℕ) → Type 0
IsReadAt d stages.Image left i lines = IsHead d i × (left ≡ d.name) × (lines ≡ [])
IsReadAt d stages.Name left i lines = IsHead d i × (name_lines d ≡ lines ++ lines_of (left ++ 10 ∷ []))
IsReadAt d stages.Base left i lines = IsHead d i × (lines ≡ name_lines d)
IsReadAt d stages.Entry left i lines = IsHead d i × (lines ≡ name_lines d ++ address_after d (codes "base ") i.base ∷ [])
IsReadAt d stages.Stop left i lines = IsHead d i × (lines ≡ name_lines d ++ address_after d (codes "base ") i.base ∷ address_after d (codes "entry ") i.entry ∷ [])
IsReadAt d stages.Full left i lines = IsHead d i × (lines ≡ name_lines d ++ address_after d (codes "base ") i.base ∷ address_after d (codes "entry ") i.entry ∷ address_after d (codes "stop ") i.stop ∷ [])
IsReadAt d stages.Code left i lines = IsCode d i × (lines ≡ name_lines d ++ head_lines d i (map (code_text d) i.code))
IsReadAt d stages.Bytes left i lines = IsData d i × (lines ≡ name_lines d ++ head_lines d i (map (code_text d) i.code ++ (data_base_text d i ∷ data_lines i.bytes)))
IsReadAt d stages.Symbols left i lines = IsImage d i × (lines ≡ name_lines d ++ head_lines d i (map (code_text d) i.code ++ (data_base_text d i ∷ (data_lines i.bytes ++ map (symbol_text d) i.symbols))))
IsReadAt d stages.End left i lines = IsImage d i × (lines ≡ name_lines d ++ tail_lines d i)

-- what is read of these lines
abbrev pub IsRead : Parts → Progress → List (List ℕ) → Type 0
IsRead d p lines = IsReadAt d p.stage p.left p.image lines

-- ---- its lines begin a spelling

none_all : {A : Type 0} (P : A → Type 0) (xs : List A) → xs ≡ [] → All P xs
none_all P xs none = subst (λ ys. All P ys) (sym none) (λ k x within. absurd (omega arith))

pub head_image : (d : Parts) (i : Image) → IsHead d i → IsImage d i
head_image d i h = record {
  aligned = h.aligned;
  base = h.base;
  entry = h.entry;
  stop = h.stop;
  full = h.full;
  data_base = h.data_base;
  words = none_all (λ word. word < 2 ^ d.word) i.code h.no_code;
  code_end = subst (λ (c : List ℕ). i.base + word_bytes d * length c ≤ 2 ^ d.pc.width) (sym h.no_code) (omega (arith, h.base));
  bytes = none_all (λ byte. byte < 256) i.bytes h.no_bytes;
  data_end = subst (λ (b : List ℕ). i.data_base + length b ≤ 2 ^ d.pc.width) (sym h.no_bytes) (omega (arith, h.data_base));
  symbols = none_all (IsSymbol d) i.symbols h.no_symbols;
}

-- the lines of a spelling go on from these
pub record GoesOn (d : Parts) (i : Image) (lines : List (List ℕ)) : Type 0 where
  pub image : IsImage d i
  pub more : List (List ℕ)
  pub lines_are : name_lines d ++ tail_lines d i ≡ lines ++ more

-- the lines in front, and others
further : (front lines more whole : List (List ℕ)) → whole ≡ lines ++ more → front ++ whole ≡ (front ++ lines) ++ more
further front lines more whole is = ap (λ ls. front ++ ls) is ∙ sym (append_assoc front lines more)

-- the lines that are read are those in front, and others follow them in a spelling
follow : (d : Parts) (i : Image) (lines read more : List (List ℕ)) → IsImage d i → lines ≡ name_lines d ++ read → tail_lines d i ≡ read ++ more → GoesOn d i lines
follow d i lines read more image is split = record {
  image = image;
  more = more;
  lines_are = further (name_lines d) read more (tail_lines d i) split ∙ ap (λ ls. ls ++ more) (sym is);
}

pub goes_on : (d : Parts) (s : Stage) (left : List ℕ) (i : Image) (lines : List (List ℕ)) → IsReadAt d s left i lines → GoesOn d i lines
goes_on d stages.Image left i lines h = record { image = head_image d i h.0; more = name_lines d ++ tail_lines d i; lines_are = ap (λ ls. ls ++ (name_lines d ++ tail_lines d i)) (sym h.2) }
goes_on d stages.Name left i lines h = record {
  image = head_image d i h.0;
  more = lines_of (left ++ 10 ∷ []) ++ tail_lines d i;
  lines_are = ap (λ ls. ls ++ tail_lines d i) h.1 ∙ append_assoc lines (lines_of (left ++ 10 ∷ [])) (tail_lines d i);
}
goes_on d stages.Base left i lines h = record { image = head_image d i h.0; more = tail_lines d i; lines_are = ap (λ ls. ls ++ tail_lines d i) (sym h.1) }
goes_on d stages.Entry left i lines h = follow d i lines _ _ (head_image d i h.0) h.1 refl
goes_on d stages.Stop left i lines h = follow d i lines _ _ (head_image d i h.0) h.1 refl
goes_on d stages.Full left i lines h = follow d i lines _ _ (head_image d i h.0) h.1 refl
goes_on d stages.Code left i lines h = follow d i lines (head_lines d i (map (code_text d) i.code)) (data_base_text d i ∷ (data_lines i.bytes ++ (map (symbol_text d) i.symbols ++ codes "end" ∷ []))) h.0.image h.1 refl
goes_on d stages.Bytes left i lines h =
    let symbols : List (List ℕ) = map (symbol_text d) i.symbols ++ codes "end" ∷ [] in
    follow d i lines (head_lines d i (map (code_text d) i.code ++ (data_base_text d i ∷ data_lines i.bytes))) symbols h.0.image h.1
    (ap (head_lines d i) (sym (append_assoc (map (code_text d) i.code) (data_base_text d i ∷ data_lines i.bytes) symbols)))
goes_on d stages.Symbols left i lines h =
    let symbols : List (List ℕ) = map (symbol_text d) i.symbols in
    let data_part : List (List ℕ) = data_base_text d i ∷ (data_lines i.bytes ++ symbols) in
    let split : data_base_text d i ∷ (data_lines i.bytes ++ (symbols ++ codes "end" ∷ [])) ≡ data_part ++ codes "end" ∷ [] =
    ap (λ ls. data_base_text d i ∷ ls) (sym (append_assoc (data_lines i.bytes) symbols (codes "end" ∷ []))) in
    follow d i lines (head_lines d i (map (code_text d) i.code ++ data_part)) (codes "end" ∷ []) h.0 h.1
    (ap (λ ls. head_lines d i (map (code_text d) i.code ++ ls)) split
    ∙ ap (head_lines d i) (sym (append_assoc (map (code_text d) i.code) data_part (codes "end" ∷ []))))
goes_on d stages.End left i lines h = record { image = h.0; more = []; lines_are = sym h.1 ∙ sym (append-nil lines) }
