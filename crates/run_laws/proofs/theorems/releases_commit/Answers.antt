use Rattle.run_laws.proofs.Laws.Releasing as releasing
use Rattle.run_laws.proofs.theorems.releases_commit.Goals as goal

pub returns : goal.returns
returns c = releasing.releases_commit
