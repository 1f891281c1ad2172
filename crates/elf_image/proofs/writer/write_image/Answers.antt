use Rattle.std.proofs.Common.{arith}
use Rattle.elf_image.proofs.WrittenFaults.{faultless, length-image_file}
use Rattle.elf_image.proofs.WrittenProgram.{code_word-built, program_is}
use Rattle.elf_image.proofs.writer.write_image.Goals as goal

pub returns-clause-within_limit : goal.returns-clause-within_limit
returns-clause-within_limit c =
    rw (c.in_ok-write.ensures.written, c.new-file.ensures.items)
    (omega (arith, length-image_file c.args.built.now, c.requires.not_large))

pub returns-clause-accepted : goal.returns-clause-accepted
returns-clause-accepted c =
    rw (c.in_ok-write.ensures.written, c.new-file.ensures.items) (faultless c.args.built.now c.requires)

pub returns-clause-loaded : goal.returns-clause-loaded
returns-clause-loaded c harts =
    rw (c.in_ok-write.ensures.written, c.new-file.ensures.items) (program_is c.args.built.now harts c.requires)

pub returns-clause-words : goal.returns-clause-words
returns-clause-words c harts index below =
    rw (c.in_ok-write.ensures.written, c.new-file.ensures.items, program_is c.args.built.now harts c.requires)
    (code_word-built c.args.built.now harts index c.in_ok-write.ensures.words below)
