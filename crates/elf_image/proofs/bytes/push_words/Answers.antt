use Rattle.std.proofs.Common.{arith}
use Rattle.elf_image.proofs.Laws.WrittenBytes.{word_at-word_bytes}
use Rattle.elf_image.proofs.bytes.push_words.Goals as goal

pub returns-clause-read_back : goal.returns-clause-read_back
returns-clause-read_back c = word_at-word_bytes c.args.words.now (λ i. omega (arith, c.type_inv.words i))
