use Rattle.run_check.proofs.Judged.{faultless}
use Rattle.run_check.proofs.Spelled.{one_spelling, spelled}
use Rattle.run_check.specs.Faults.{content_of}
use Rattle.run_check.proofs.theorems.grammar.Goals as goal

pub returns-clause-one_spelling : goal.returns-clause-one_spelling
returns-clause-one_spelling c = one_spelling

pub returns-clause-a_spelling_has_no_fault : goal.returns-clause-a_spelling_has_no_fault
returns-clause-a_spelling_has_no_fault c content is = (spelled content is).0

pub returns-clause-what_has_no_fault_is_a_spelling : goal.returns-clause-what_has_no_fault_is_a_spelling
returns-clause-what_has_no_fault_is_a_spelling c file fits none = let e =
    faultless file fits none in (content_of file, e.0, e.1)
