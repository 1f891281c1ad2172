use Rattle.section_laws.proofs.Laws.SerialLength as serial_length
use Rattle.section_laws.proofs.theorems.serial_order_is_no_longer.Goals as goal

-- src/theorems.rt:146:1
pub returns : goal.returns
returns c = serial_length.serial_order_is_no_longer
