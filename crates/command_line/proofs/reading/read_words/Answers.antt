use Rattle.command_line.proofs.Names.{no_command}
use Rattle.command_line.proofs.reading.read_words.Goals as goal

pub returns-in_default-as_str-clause-refused : goal.returns-in_default-as_str-clause-refused
returns-in_default-as_str-clause-refused c = λ _.
    no_command c.args.words.now c.in-Some.name.now c.in-Some.words.now c.as_str.result.now c.in-Some.ensures.cases.0
    c.as_str.ensures.value
    c.in_default-as_str.not-run c.in_default-as_str.not-replay
    c.in_default-as_str.not-look c.in_default-as_str.not-find c.in_default-as_str.not-check c.in_default-as_str.not-gen
