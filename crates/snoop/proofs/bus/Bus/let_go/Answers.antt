-- the harts that the head frees are let go
use Rattle.std.proofs.Common.{length}
use Rattle.bus_order.specs.Order.{numbered}
use Rattle.el_model.specs.Armed as model
use Rattle.snoop.proofs.LettingGo.{freed_is, let_go_ready, let_go_shows}
use Rattle.snoop.proofs.Showing.{shows_committed}
use Rattle.snoop.specs.LettingGo.{with_committed}
use Rattle.snoop.specs.Shows.{bus_state}
use Rattle.snoop.proofs.bus.Bus.let_go.Goals as goal

pub returns-clause-leaves : goal.returns-clause-leaves
returns-clause-leaves c =
    let bus = bus_state c.args.self.now in
    let new = bus_state c.let_each_go.new.self in
    let gone = c.let_each_go.ensures in
    record {
      ready = let_go_ready bus new c.freed_by-freed.result (length bus.agents) gone c.requires.ready;
      shows = λ state starts.
          let left = model.let_go state (numbered c.args.head) in
          shows_committed new (with_committed state.committed left) left.committed starts.keeps
          (let_go_shows bus new state (numbered c.args.head) c.freed_by-freed.result starts.shows
          c.freed_by-freed.ensures gone);
      memory_stays = gone.lines;
      told = gone.stays.told;
    }

pub returns-clause-parts : goal.returns-clause-parts
returns-clause-parts c = λ state shows.
    let_go_shows (bus_state c.args.self.now) (bus_state c.let_each_go.new.self) state (numbered c.args.head)
    c.freed_by-freed.result shows
    c.freed_by-freed.ensures c.let_each_go.ensures

pub returns-clause-freed : goal.returns-clause-freed
returns-clause-freed c = λ state shows.
    freed_is (bus_state c.args.self.now) state (numbered c.args.head) c.freed_by-freed.result c.requires.ready shows
    c.freed_by-freed.ensures
