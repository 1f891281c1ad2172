use Rattle.section_laws.proofs.Laws.Accounts as accounts
use Rattle.section_laws.proofs.theorems.begun_sections_are_accounted_for.Goals as goal

-- src/theorems.rt:82:1
pub returns : goal.returns
returns c = accounts.begun_sections_are_accounted_for
