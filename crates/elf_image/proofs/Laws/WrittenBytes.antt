-- The words and headers of a written image read back.
use Rattle.std.proofs.Common.{◌≡◌, ◌<◌, ℕ, zero, suc, ◌+◌, ◌*◌, ◌^◌, true, List, [], ◌∷◌, ◌++◌, length, slice_index}
use Rattle.std.proofs.Common.{refl, ap, arith}
use Rattle.std.specs.Prelude.{nat_le}
use Rattle.std.proofs.lemmas.Bool.{le-leb}
use Rattle.byteorder.specs.Endian.{little_bytes}
use Rattle.byteorder.specs.Numbers.{little_number-reads_back}
use Rattle.elf_image.specs.declared.built.Built.{Built}
use Rattle.elf_image.specs.Built.{IsBuildable, words_len, data_len, data_start, built_header, words_header, data_header}
use Rattle.elf_image.specs.Built.{image_file}
use Rattle.elf_image.specs.Header.{file_header, file_header_bytes, program_header, program_header_bytes, headers_at}
use Rattle.elf_image.specs.Header.{program_headers}
use Rattle.elf_image.specs.Layout.{segments_of}
use Rattle.elf_image.specs.Numbers.{ReadBack, word_at, word_bytes}

-- Words

pub length-word_bytes : (words : List ℕ) → length (word_bytes words) ≡ 4 * length words
length-word_bytes [] = refl
length-word_bytes (w ∷ words) = let rest = length-word_bytes words in omega arith

-- a number that a word holds comes back
word_back : (n : ℕ) (rest : List ℕ) → n < 2 ^ 32 → word_at (little_bytes 4 n ++ rest) 0 ≡ n
word_back n rest small = little_number-reads_back 4 n rest small

pub word_at-word_bytes : (words : List ℕ) → ((i : ℕ) → slice_index words i < 2 ^ 32) → ReadBack words
word_at-word_bytes [] small i below = absurd (omega arith)
word_at-word_bytes (w ∷ words) small zero below = word_back w (word_bytes words) (small 0)
word_at-word_bytes (w ∷ words) small (suc i) below =
    let place : 4 * suc i ≡ suc (suc (suc (suc (4 * i)))) = omega arith in
    rw place (word_at-word_bytes words (λ k. small (suc k)) i (omega arith))

-- Headers

pub file_header_back : (built : Built) → IsBuildable built → file_header (image_file built) ≡ built_header built
unfolding image_file file_header file_header_bytes program_header_bytes
file_header_back built ok =
    let entry = word_back built.entry [] (omega (arith, ok.entry_not_behind, ok.not_high)) in
    ap
    (λ (e : ℕ). record {
      e_type = 2;
      e_machine = 243;
      e_version = 1;
      e_entry = e;
      e_phoff = 52;
      e_flags = 0;
      e_ehsize = 52;
      e_phentsize = 32;
      e_phnum = 2;
    })
    entry

words_header_back : (built : Built) → IsBuildable built → program_header (image_file built) 52 ≡ words_header built
unfolding image_file program_header file_header_bytes program_header_bytes
words_header_back built ok =
    let base = word_back built.base [] (omega (arith, ok.not_high)) in
    let len = word_back (words_len built) [] (omega (arith, ok.not_large)) in
    cc

data_header_back : (built : Built) → IsBuildable built → program_header (image_file built) 84 ≡ data_header built
unfolding image_file program_header file_header_bytes program_header_bytes
data_header_back built ok =
    let offset = word_back (116 + words_len built) [] (omega (arith, ok.not_large)) in
    let start = word_back (data_start built) [] (omega (arith, ok.not_high)) in
    let filled = word_back (length built.bytes.items) [] (omega (arith, ok.not_large)) in
    let len = word_back (data_len built) [] (omega (arith, ok.not_large)) in
    cc

-- the table of a written image
pub table_back : (built : Built) → IsBuildable built →
    program_headers (image_file built) ≡ words_header built ∷ data_header built ∷ []
unfolding program_headers headers_at
table_back built ok = rw (file_header_back built ok, words_header_back built ok, data_header_back built ok) refl

pub segments_back : (built : Built) → IsBuildable built →
    segments_of (image_file built) ≡ words_header built ∷ data_header built ∷ []
unfolding segments_of
segments_back built ok =
    let words : nat_le 1 (words_len built) ≡ true = le-leb 1 (words_len built) (omega (arith, ok.some_word)) in
    let bytes : nat_le 1 (data_len built) ≡ true = le-leb 1 (data_len built) ok.some_data in
    rw (table_back built ok, words, bytes) refl
