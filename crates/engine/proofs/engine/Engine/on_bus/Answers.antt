-- the losers had sections and the freed were armed, and the parts are those after the event
use Rattle.std.proofs.Common.{◌∙◌, ◌≤◌, ap, refl, subst, sym}
use Rattle.el_base.specs.Freed.{count_in}
use Rattle.el_base.specs.LetGo.{freed_of_outcome}
use Rattle.el_base.specs.Winners.{winner_over}
use Rattle.engine.proofs.Laws.BusEvents.{after_bus, had_section, holds_lent, was_armed}
use Rattle.engine.proofs.engine.Engine.on_bus.Goals as goal
use Rattle.engine.specs.Parts.{parts}

pub restore_by-requires-clause-live : goal.restore_by-requires-clause-live
restore_by-requires-clause-live c g winner inside named =
    had_section (parts c.args.self.now) (parts c.pass_to_bus-outcome.new.self) c.requires.stands c.args.event g winner
    c.pass_to_bus-outcome.ensures.rest_stays inside
    (ap (λ outcome. winner_over outcome g)
    (sym (c.pass_to_bus-outcome.ensures.outcome c.requires.stands.state c.requires.stands.is_in))
    ∙ named)

pub restore_by-requires-clause-armed : goal.restore_by-requires-clause-armed
restore_by-requires-clause-armed c g inside some =
    was_armed (parts c.args.self.now) (parts c.pass_to_bus-outcome.new.self) c.requires.stands c.args.event g
    c.requires.no_step
    c.pass_to_bus-outcome.ensures.rest_stays inside
    (subst (λ freed. 1 ≤ count_in freed g)
    (ap freed_of_outcome (c.pass_to_bus-outcome.ensures.outcome c.requires.stands.state c.requires.stands.is_in)) some)

pub returns : goal.returns
returns c =
    let old = parts c.args.self.now in
    let passed = c.pass_to_bus-outcome.ensures in
    let restored = c.restore_by.ensures in
    record {
      ready = passed.ready;
      state = λ from reached is.
          after_bus old (parts c.pass_to_bus-outcome.new.self) _ from c.args.event
          (winner_over c.pass_to_bus-outcome.result) (freed_of_outcome c.pass_to_bus-outcome.result) c.requires.no_step
          reached is passed.rest_stays refl (passed.shows from reached is)
          (passed.told from reached is) passed.holds restored.lent restored.kept
          (λ g. ap (λ outcome. winner_over outcome g) (sym (passed.outcome from is)))
          (ap freed_of_outcome (passed.outcome from is)) restored.restored;
      outcome = λ from reached is. passed.outcome from is;
      memory = λ from reached is. passed.memory from is;
    }

pub restore_by-requires-clause-lent : goal.restore_by-requires-clause-lent
restore_by-requires-clause-lent c =
    holds_lent (parts c.args.self.now) (parts c.pass_to_bus-outcome.new.self) c.requires.stands
    c.pass_to_bus-outcome.ensures.rest_stays
    c.pass_to_bus-outcome.ensures.holds
