use Rattle.section_laws.proofs.Messages as messages
use Rattle.section_laws.proofs.theorems.messages_name_others_once.Goals as goal

-- src/theorems.rt:133:1
pub returns : goal.returns
returns c = messages.messages_name_others_once
