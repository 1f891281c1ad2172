-- the oldest message is out
use Rattle.std.proofs.Common.{refl, rules, subst, sym}
use Rattle.snoop.specs.Shows.{IsReady, bus_state}
use Rattle.snoop.proofs.Delivers.{taken_ready}
use Rattle.snoop.proofs.bus.Bus.take_message.Goals as goal

pub returns-clause-leaves : goal.returns-clause-leaves
returns-clause-leaves c = record {
  ready =
      subst (λ agents. IsReady (record (bus_state c.args.self.now) { agents = agents }))
      (sym c.take_message.ensures.rest)
      (taken_ready (bus_state c.args.self.now) c.args.hart.number c.requires.ready);
  mode = refl;
  shows = search rules;
  copies_stay = refl;
}
