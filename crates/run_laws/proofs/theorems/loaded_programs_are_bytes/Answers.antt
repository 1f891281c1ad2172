use Rattle.run_laws.proofs.LoadedBytes as loaded_bytes
use Rattle.run_laws.proofs.theorems.loaded_programs_are_bytes.Goals as goal

pub returns : goal.returns
returns c = loaded_bytes.loaded_programs_are_bytes
