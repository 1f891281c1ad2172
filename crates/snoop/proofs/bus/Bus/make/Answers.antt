-- the bus of new parts
use Rattle.std.proofs.Common.{refl}
use Rattle.snoop.proofs.AtFirst.{ready_first, shows_first}
use Rattle.snoop.proofs.Lent.{no_pool}
use Rattle.snoop.proofs.bus.Bus.make.Goals as goal

pub returns-clause-ready : goal.returns-clause-ready
returns-clause-ready c =
    ready_first c.args.image.now c.args.config.now _ c.requires.in_range
    (record {
      mode = refl;
      agents = c.in_ok-new_agents.ensures;
      caches = c.in_ok-make.ensures.caches no_pool;
      order = c.new.ensures;
      first = (c.in_ok-make.ensures.first no_pool).0;
      lines = (c.in_ok-make.ensures.first no_pool).1;
    })

pub returns-clause-shows : goal.returns-clause-shows
returns-clause-shows c =
    shows_first c.args.image.now c.args.config.now _ c.requires.one_hart_each
    (record {
      mode = refl;
      agents = c.in_ok-new_agents.ensures;
      caches = c.in_ok-make.ensures.caches no_pool;
      order = c.new.ensures;
      first = (c.in_ok-make.ensures.first no_pool).0;
      lines = (c.in_ok-make.ensures.first no_pool).1;
    })

pub returns-clause-memory : goal.returns-clause-memory
returns-clause-memory c = c.in_ok-make.ensures.lines no_pool
