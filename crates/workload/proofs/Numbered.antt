-- Where the number of a workload stands in its image.
use Rattle.std.proofs.Common.{◌≡◌, ◌≤◌, ◌∙◌, ap, ℕ, ◌+◌, ◌-◌, ◌*◌, List, ◌++◌, length, zero, suc, refl, arith}
use Rattle.std.proofs.lemmas.List.{get_or-append-add, append_assoc, length-append, length-replicate}
use Rattle.std.specs.Prelude.{replicate}
use Rattle.byteorder.specs.Endian.{little_from}
use Rattle.byteorder.specs.Numbers.{little_from-append}
use Rattle.elf_image.specs.declared.built.Built.{Built}
use Rattle.elf_image.specs.Built.{built_memory, built_program, data_start, data_end, words_end}
use Rattle.elf_image.specs.Layout.{round_up}
use Rattle.elf_image.specs.Limits.{line_size, stack_size}
use Rattle.elf_image.specs.Numbers.{word_at, word_bytes}
use Rattle.elf_image.proofs.Laws.WrittenBytes.{length-word_bytes}

-- a number behind other bytes
behind : (xs ys : List ℕ) (i n k : ℕ) → k ≡ length xs + i → little_from k n (xs ++ ys) ≡ little_from i n ys
behind xs ys i zero k is = refl
behind xs ys i (suc n) k is =
    rw (is, get_or-append-add, behind xs ys (suc i) n (suc (length xs + i)) (omega arith)) refl

-- where the words and the gap behind them fill a page, the data begins there
number_at : (built : Built) (harts : ℕ) → built.base ≡ 0x10000 → 1 ≤ length built.words.items →
    length built.words.items ≤ 1000
    → 4 ≤ length built.bytes.items → word_at (built_memory built harts) 0x1000 ≡ word_at built.bytes.items 0
unfolding built_memory
number_at built harts base some few filled =
    let words = word_bytes built.words.items in
    let gap = replicate (data_start built - words_end built) 0 in
    let bytes = built.bytes.items in
    let rest =
    replicate (built.zeros + (round_up line_size (data_end built) - data_end built) + stack_size * harts) 0 in
    let page : 0x1000 ≡ length (words ++ gap) + 0 =
    simp (length-append, length-replicate) (omega (arith, length-word_bytes built.words.items)) in
    ap (λ memory. word_at memory 0x1000) (append_assoc (words ++ gap) bytes rest)
    ∙ behind (words ++ gap) (bytes ++ rest) 0 4 0x1000 page
    ∙ little_from-append 4 bytes rest filled

pub numbered : (built : Built) (harts number : ℕ) → built.base ≡ 0x10000 → 1 ≤ length built.words.items →
    length built.words.items ≤ 1000
    → 4 ≤ length built.bytes.items → word_at built.bytes.items 0 ≡ number →
    word_at (built_program built harts).bytes 0x1000 ≡ number
unfolding built_program
numbered built harts number base some few filled is = number_at built harts base some few filled ∙ is
