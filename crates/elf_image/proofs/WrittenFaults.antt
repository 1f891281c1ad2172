-- A written image has no fault.
use Rattle.std.proofs.Common.{◌≡◌, ◌≤◌, ℕ, ◌+◌, ◌*◌, true, false, List, [], ◌∷◌, length, refl, arith}
use Rattle.std.specs.Prelude.{None, nat_lt, nat_le, ◌&&◌}
use Rattle.std.proofs.lemmas.Bool.{le-ltb, le-leb}
use Rattle.std.proofs.lemmas.Bool.Decides.{nat_tests}
use Rattle.std.proofs.lemmas.List.{length-append}
use Rattle.elf_image.specs.declared.built.Built.{Built}
use Rattle.elf_image.specs.declared.layout.Layout.{Layout}
use Rattle.elf_image.specs.Built.{IsBuildable, words_len, data_len, words_end, data_start, data_end, built_header}
use Rattle.elf_image.specs.Built.{words_header, data_header, image_file}
use Rattle.elf_image.specs.Faults.{IsFaultless, fault, magic_fault, class_fault, byte_order_fault, ident_version_fault}
use Rattle.elf_image.specs.Faults.{ident_fault, header_fault}
use Rattle.elf_image.specs.Faults.{headers_fault, memory_fault}
use Rattle.elf_image.specs.Header.{file_header_bytes, program_header_bytes}
use Rattle.elf_image.specs.Layout.{round_up, memory_base, memory_end, layout_of, size_of}
use Rattle.elf_image.specs.Limits.{end_limit, line_size, memory_limit, stack_size}
use Rattle.elf_image.proofs.Laws.WrittenBytes.{length-word_bytes, file_header_back, table_back, segments_back}

-- how many bytes the file has
pub length-image_file : (built : Built) → length (image_file built) ≡ 116 + words_len built + length built.bytes.items
unfolding image_file file_header_bytes program_header_bytes
length-image_file built = simp length-append (omega (arith, length-word_bytes built.words.items))

-- The headers

ident_of : (file : List ℕ) → 52 ≤ length file → magic_fault file ≡ None → class_fault file ≡ None
    → byte_order_fault file ≡ None → ident_version_fault file ≡ None
    → ident_fault file ≡ None
unfolding ident_fault
ident_of file whole magic class order version = rw (le-ltb (length file) 52 whole, magic, class, order, version) refl

ident_none : (built : Built) → 52 ≤ length (image_file built) → ident_fault (image_file built) ≡ None
unfolding image_file file_header_bytes program_header_bytes
ident_none built whole = ident_of (image_file built) whole refl refl refl refl

header_none : (built : Built) (len : ℕ) → 116 ≤ len → header_fault (built_header built) len ≡ None
unfolding header_fault
header_none built len fits = rw (le-ltb len 116 fits) refl

headers_none : (built : Built) (len : ℕ) → 116 + words_len built + length built.bytes.items ≤ len
    → headers_fault (words_header built ∷ data_header built ∷ []) len ≡ None
unfolding headers_fault
headers_none built len fits =
    let words = words_len built in
    let bytes = length built.bytes.items in
    let words_fit : nat_lt words words ≡ false = le-ltb words words (omega arith) in
    let words_inside : (nat_le 1 words && nat_lt len (116 + words)) ≡ false = grind (arith, nat_tests) in
    let bytes_fit : nat_lt (data_len built) bytes ≡ false = le-ltb (data_len built) bytes (omega arith) in
    let bytes_inside : (nat_le 1 bytes && nat_lt len (116 + words + bytes)) ≡ false = grind (arith, nat_tests) in
    rw (words_fit, words_inside, bytes_fit, bytes_inside) refl

-- The segments in memory

-- where a written image lies
pub base_is : (built : Built) → IsBuildable built →
    memory_base (words_header built ∷ data_header built ∷ []) ≡ built.base
unfolding memory_base
base_is built ok = omega (arith, ok.base_on_page, ok.not_high)

pub end_is : (built : Built) (harts : ℕ) → IsBuildable built
    → memory_end (words_header built ∷ data_header built ∷ []) harts ≡ round_up line_size
    (data_end built) + stack_size * harts
unfolding memory_end
end_is built harts ok = omega arith

memory_none : (built : Built) (layout : Layout) → IsBuildable built → size_of layout ≤ memory_limit →
    layout.end ≤ end_limit
    → memory_fault (words_header built ∷ data_header built ∷ []) layout built.entry ≡ None
unfolding memory_fault
memory_none built layout ok narrow low =
    let from = words_end built in
    let entry = built.entry in
    let apart : nat_lt (data_start built) from ≡ false = le-ltb (data_start built) from (omega arith) in
    let not_wide : nat_lt memory_limit (size_of layout) ≡ false = le-ltb memory_limit (size_of layout) narrow in
    let not_high : nat_lt end_limit layout.end ≡ false = le-ltb end_limit layout.end low in
    let not_before : nat_le built.base entry ≡ true = le-leb built.base entry ok.entry_not_before in
    let whole : nat_le (entry + 4) from ≡ true =
    le-leb (entry + 4) from (omega (arith, ok.entry_not_behind, ok.entry_at_word, ok.base_on_page))
    in
    rw (apart, not_wide, not_high, ok.entry_at_word, not_before, whole) refl

-- All of them

pub faultless : (built : Built) → IsBuildable built → IsFaultless (image_file built)
unfolding fault
faultless built ok harts some few =
    let segments = words_header built ∷ data_header built ∷ [] in
    let layout = layout_of segments harts in
    let len = length-image_file built in
    let base = base_is built ok in
    let end = end_is built harts ok in
    let ident = ident_none built (omega arith) in
    let header = header_none built (length (image_file built)) (omega arith) in
    let headers = headers_none built (length (image_file built)) (omega arith) in
    let memory = memory_none built layout ok (omega (arith, ok.not_large, ok.not_high)) (omega (arith, ok.not_high)) in
    rw (ident, file_header_back built ok, table_back built ok, segments_back built ok, header, headers, memory) refl
