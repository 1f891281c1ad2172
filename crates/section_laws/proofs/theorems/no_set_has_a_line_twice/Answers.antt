use Rattle.section_laws.proofs.Laws.OnceEach as once
use Rattle.section_laws.proofs.theorems.no_set_has_a_line_twice.Goals as goal

-- src/theorems.rt:103:1
pub returns : goal.returns
returns c = once.no_set_has_a_line_twice
