use Rattle.step_laws.proofs.Laws.LettingGo as letting_go
use Rattle.step_laws.proofs.theorems.bus_events_let_harts_go.Goals as goal

pub returns : goal.returns
returns c = letting_go.bus_events_let_harts_go
