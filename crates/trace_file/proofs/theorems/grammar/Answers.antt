use Rattle.trace_file.specs.Faults.{config_at}
use Rattle.trace_file.specs.Reading.{events_at, recorded_at}
use Rattle.trace_file.proofs.Judged.{faultless}
use Rattle.trace_file.proofs.Laws.Spelled.{no_fault, one_spelling}
use Rattle.trace_file.proofs.theorems.grammar.Goals as goal

pub returns-clause-one_spelling : goal.returns-clause-one_spelling
returns-clause-one_spelling c = one_spelling

pub returns-clause-a_spelling_has_no_fault : goal.returns-clause-a_spelling_has_no_fault
returns-clause-a_spelling_has_no_fault c = no_fault

pub returns-clause-what_has_no_fault_is_a_spelling : goal.returns-clause-what_has_no_fault_is_a_spelling
returns-clause-what_has_no_fault_is_a_spelling c file fits none =
    let whole = faultless file fits none in (config_at file, events_at file, recorded_at file, whole.0, whole.1)
