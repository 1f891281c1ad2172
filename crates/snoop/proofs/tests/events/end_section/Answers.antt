-- one cache has no bits any more
use Rattle.snoop.proofs.Ending.{ready_ended}
use Rattle.snoop.proofs.Lent.{clears_one}
use Rattle.snoop.proofs.tests.events.end_section.Goals as goal
use Rattle.snoop.specs.Shows.{holding_of, bus_state}

pub invariant_of-rig : goal.invariant_of-rig
invariant_of-rig c = record {
  ready =
      ready_ended (bus_state c.args.rig.now.bus) (holding_of c.clear.new.self) c.args.hart.number c.args.rig.now.ready
      (record { changed = c.clear.ensures.changed; lent = c.clear.ensures.lent });
}

pub returns-then-from-harts : goal.returns-then-from-harts
returns-then-from-harts c = record {
  bytes = c.requires.bytes;
  tells =
      (clears_one c.args.hart.number (bus_state c.args.rig.now.bus).copies (holding_of c.clear.new.self)
      (record { changed = c.clear.ensures.changed; lent = c.clear.ensures.lent })).stays.told
      c.args.rig.now.pool c.requires.bytes c.requires.tells;
}
