use Rattle.section_laws.proofs.Messages as messages
use Rattle.section_laws.proofs.theorems.messages_are_fewer_than_harts.Goals as goal

-- src/theorems.rt:140:1
pub returns : goal.returns
returns c = messages.messages_are_fewer_than_harts
