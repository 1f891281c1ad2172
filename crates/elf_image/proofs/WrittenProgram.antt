-- The program that a written image loads is the one that was built.
use Rattle.std.proofs.Common.{◌≡◌, ◌≤◌, ◌<◌, ℕ, ◌+◌, ◌-◌, ◌*◌, Bool, true, false, cond, ◌&&◌, nat_le, nat_lt, List, []}
use Rattle.std.proofs.Common.{◌∷◌, ◌++◌, length, get_or}
use Rattle.std.proofs.Common.{slice_index, slice_range, inl, inr, refl, sym, ◌∙◌, ap, arith}
use Rattle.std.specs.Prelude.{None, Some, replicate}
use Rattle.std.specs.Option.{option_map_or}
use Rattle.std.proofs.lemmas.Bool.{cases_lt, le-leb}
use Rattle.std.proofs.lemmas.Bool.Decides.{nat_tests}
use Rattle.std.proofs.lemmas.List.{places, append_assoc, length-append, get_or-append_right, length-replicate}
use Rattle.std.proofs.lemmas.List.{same_lists}
use Rattle.std.proofs.lemmas.List.Edits.{length-between, get_or-between}
use Rattle.elf_image.specs.declared.built.Built.{Built}
use Rattle.elf_image.specs.declared.program_header.ProgramHeader.{ProgramHeader}
use Rattle.elf_image.specs.Built.{IsBuildable, words_len, words_end, data_start, data_end, built_header, words_header}
use Rattle.elf_image.specs.Built.{data_header, image_file}
use Rattle.elf_image.specs.Built.{built_memory, built_program}
use Rattle.elf_image.specs.Header.{file_header_bytes, program_header_bytes}
use Rattle.elf_image.specs.Layout.{round_up, layout_of, size_of}
use Rattle.elf_image.specs.Limits.{line_size, stack_size}
use Rattle.elf_image.specs.Loaded.{code_segment, file_byte, is_filled, loaded_byte, loaded_bytes, program_of}
use Rattle.elf_image.specs.Numbers.{ReadBack, word_bytes}
use Rattle.elf_image.specs.Program.{code_word}
use Rattle.elf_image.proofs.Filling.{all_loaded}
use Rattle.elf_image.proofs.Laws.WrittenBytes.{length-word_bytes, file_header_back, segments_back}
use Rattle.elf_image.proofs.WrittenFaults.{base_is, end_is}

-- The bytes of memory

-- behind the headers the file has the words, and then the bytes
behind_headers : (built : Built) (k : ℕ)
    → slice_index (image_file built) (116 + k) ≡ slice_index (word_bytes built.words.items ++ built.bytes.items) k
unfolding image_file file_header_bytes program_header_bytes
behind_headers built k =
    let headers =
    file_header_bytes (built_header built) ++ program_header_bytes (words_header built)
    ++ program_header_bytes (data_header built) in
    let rest = word_bytes built.words.items ++ built.bytes.items in
    get_or-append_right headers rest 116 (116 + k) 0 refl (omega arith) ∙ ap (λ i. get_or rest i 0) (omega arith)

-- the byte that the first of two segments has at an address, else that of the second
of_two : (f : ProgramHeader → ℕ) (b c : Bool) (first second : ProgramHeader)
    → option_map_or f (cond b (Some first) (cond c (Some second) None)) 0 ≡ cond b (f first) (cond c (f second) 0)
of_two f true c first second = refl
of_two f false true first second = refl
of_two f false false first second = refl

loaded_two : (file : List ℕ) (first second : ProgramHeader) (a : ℕ)
    → loaded_byte file (first ∷ second ∷ []) a
    ≡ cond (is_filled a first) (file_byte file a first) (cond (is_filled a second) (file_byte file a second) 0)
unfolding loaded_byte
loaded_two file first second a = of_two (file_byte file a) (is_filled a first) (is_filled a second) first second

-- bytes, zeros, bytes and zeros, each behind the other
four_parts : (words bytes : List ℕ) (gap rest k : ℕ)
    → get_or (words ++ replicate gap 0 ++ bytes ++ replicate rest 0) k 0
    ≡ cond (nat_lt k (length words)) (get_or words k 0)
    (cond (nat_le (length words + gap) k && nat_lt k (length words + gap + length bytes))
    (get_or bytes (k - (length words + gap)) 0) 0)
four_parts words bytes gap rest k =
    elim (cases_lt k (length words)) [
      | inl in_words ↦ grind (arith, places, nat_tests)
      | inr behind_words ↦ elim (cases_lt k (length words + gap)) [
        | inl in_gap ↦ grind (arith, places, nat_tests)
        | inr behind_gap ↦ elim (cases_lt k (length words + gap + length bytes)) [
          | inl in_bytes ↦ grind (arith, places, nat_tests)
          | inr behind_bytes ↦ grind (arith, places, nat_tests)
        ]
      ]
    ]

same_byte : (words bytes file : List ℕ) (base start len gap k : ℕ)
    → len ≡ length words
    → start ≡ base + len + gap
    → ((i : ℕ) → slice_index file (116 + i) ≡ get_or (words ++ bytes) i 0)
    → cond (nat_lt k (length words)) (get_or words k 0)
    (cond (nat_le (length words + gap) k && nat_lt k (length words + gap + length bytes))
    (get_or bytes (k - (length words + gap)) 0) 0)
    ≡ cond (nat_le base (base + k) && nat_lt (base + k) (base + len)) (slice_index file (116 + (base + k - base)))
    (cond (nat_le start (base + k) && nat_lt (base + k) (start + length bytes))
    (slice_index file (116 + len + (base + k - start))) 0)
same_byte words bytes file base start len gap k is_len is_start in_file =
    elim (cases_lt k len) [
      | inl in_words ↦
          let place : 116 + (base + k - base) ≡ 116 + k = omega arith in
          let byte = in_file k in
          grind (arith, places, nat_tests)
      | inr behind_words ↦ elim (cases_lt k (len + gap)) [
        | inl in_gap ↦ grind (arith, nat_tests)
        | inr behind_gap ↦ elim (cases_lt k (len + gap + length bytes)) [
          | inl in_bytes ↦
              let place : 116 + len + (base + k - start) ≡ 116 + (k - gap) = omega arith in
              let byte = in_file (k - gap) in
              grind (arith, places, nat_tests)
          | inr behind_bytes ↦ grind (arith, nat_tests)
        ]
      ]
    ]

byte_at : (built : Built) (harts k : ℕ)
    → get_or (built_memory built harts) k 0 ≡ loaded_byte (image_file built)
    (words_header built ∷ data_header built ∷ []) (built.base + k)
unfolding built_memory
byte_at built harts k =
    let words = word_bytes built.words.items in
    let bytes = built.bytes.items in
    let len = length-word_bytes built.words.items in
    let gap = data_start built - words_end built in
    let behind = built.zeros + (round_up line_size (data_end built) - data_end built) + stack_size * harts in
    let start : data_start built ≡ words_end built + gap = omega arith in
    four_parts words bytes gap behind k
    ∙ same_byte words bytes (image_file built) built.base (data_start built) (words_len built) gap k (sym len) start
    (behind_headers built)
    ∙ sym (loaded_two (image_file built) (words_header built) (data_header built) (built.base + k))

length-built_memory : (built : Built) (harts : ℕ) → IsBuildable built
    → length (built_memory built harts) ≡ round_up line_size (data_end built) + stack_size * harts - built.base
unfolding built_memory
length-built_memory built harts ok =
    simp (length-append, length-replicate)
    (omega (arith, length-word_bytes built.words.items, ok.base_on_page))

memory_is : (built : Built) (harts : ℕ) → IsBuildable built →
    loaded_bytes (image_file built) harts ≡ built_memory built harts
unfolding loaded_bytes
memory_is built harts ok =
    let segments = words_header built ∷ data_header built ∷ [] in
    let memory = built_memory built harts in
    let size : size_of (layout_of segments harts) ≡ length memory =
    omega (arith, base_is built ok, end_is built harts ok, length-built_memory built harts ok)
    in
    rw (segments_back built ok, size, base_is built ok)
    (sym (all_loaded (loaded_byte (image_file built) segments) built.base memory (λ k below. byte_at built harts k)))

-- The code

first_part : (words rest : List ℕ) (from to : ℕ) → from ≡ 0 → to ≡ length words →
    slice_range (words ++ rest) from to ≡ words
first_part words rest from to is_from is_to =
    let fits : to ≤ length (words ++ rest) = simp length-append (omega arith) in
    let len = length-between (words ++ rest) from to fits in
    same_lists (slice_range (words ++ rest) from to) words (len ∙ omega arith)
    (λ k d below. get_or-between (words ++ rest) from to k d (omega (arith, len)) ∙ grind (arith, places))

code_is : (built : Built) (harts : ℕ)
    → (code_segment built.base (built_memory built harts) (words_header built)).bytes ≡ word_bytes built.words.items
unfolding built_memory
code_is built harts =
    simp append_assoc
    (first_part (word_bytes built.words.items) _ (built.base - built.base) (built.base - built.base + words_len built)
    (omega arith) (omega (arith, length-word_bytes built.words.items)))

-- The program

pub program_is : (built : Built) (harts : ℕ) → IsBuildable built →
    program_of (image_file built) harts ≡ built_program built harts
unfolding program_of built_program
program_is built harts ok =
    rw (
      memory_is built harts ok,
      segments_back built ok,
      base_is built ok,
      file_header_back built ok,
      code_is built harts,
    ) refl

pub code_word-built : (built : Built) (harts i : ℕ) → ReadBack built.words.items → i < length built.words.items
    → code_word (built_program built harts).code (built.base + 4 * i) ≡ Some (slice_index built.words.items i)
unfolding built_program code_word
code_word-built built harts i back below =
    let pc = built.base + 4 * i in
    let len = length-word_bytes built.words.items in
    let from : nat_le built.base pc ≡ true = le-leb built.base pc (omega arith) in
    let to : nat_le (pc + 4) (built.base + length (word_bytes built.words.items)) ≡ true = le-leb _ _ (omega arith) in
    let place : pc - built.base ≡ 4 * i = omega arith in
    rw (from, to, place) (ap Some (back i below))
