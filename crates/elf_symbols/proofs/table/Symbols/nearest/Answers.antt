use Rattle.elf_symbols.proofs.Nearest.{nearest_is_nearest}
use Rattle.elf_symbols.proofs.table.Symbols.nearest.Goals as goal

pub returns-clause-nearest : goal.returns-clause-nearest
returns-clause-nearest c = rw c.found-found.ensures (nearest_is_nearest c.args.address c.args.self.now.symbols)
