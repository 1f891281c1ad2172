-- a message that is taken out takes effect, and where there is none nothing does
use Rattle.std.proofs.Common.{◌∙◌, ap, refl, subst, sym}
use Rattle.el_base.specs.declared.outcomes.Outcome.TheVariants.{Delivered}
use Rattle.mail.specs.Mailbox.{numbered}
use Rattle.snoop.specs.Shows.{Shows, bus_state}
use Rattle.snoop.proofs.Delivers.{delivers, delivers_nothing}
use Rattle.snoop.proofs.Leaves.{lines_after, told_after, told_same}
use Rattle.snoop.proofs.bus.Bus.deliver.Goals as goal

pub returns-in-Some-clause-leaves : goal.returns-in-Some-clause-leaves
returns-in-Some-clause-leaves c =
    let old = bus_state c.args.self.now in
    let mid = bus_state c.take_message.new.self in
    let new = bus_state c.take_effect.new.self in
    let taken = c.take_message.ensures.leaves in
    let effect = c.take_effect.ensures.leaves in
    record {
      ready = effect.ready;
      shows = λ state shows.
          subst (Shows new)
          (sym (delivers state c.args.hart.number (numbered c.in-Some.message)
          (sym (c.in-Some.ensures.message state shows))).0)
          (effect.shows _ (taken.shows state shows));
      memory_stays = lines_after old mid new taken.copies_stay effect.memory_stays;
      told = told_after old mid new taken.copies_stay effect.told;
    }

pub returns-in-Some-clause-outcome : goal.returns-in-Some-clause-outcome
returns-in-Some-clause-outcome c = λ state shows.
    ap Delivered (c.take_effect.ensures.losers _ (c.take_message.ensures.leaves.shows state shows))
    ∙ sym (delivers state c.args.hart.number (numbered c.in-Some.message)
    (sym (c.in-Some.ensures.message state shows))).1

pub returns-in-None-clause-leaves : goal.returns-in-None-clause-leaves
returns-in-None-clause-leaves c =
    let old = bus_state c.args.self.now in
    let new = bus_state c.take_message.new.self in
    let taken = c.take_message.ensures.leaves in
    record {
      ready = taken.ready;
      shows = λ state shows.
          subst (Shows new)
          (sym (delivers_nothing state c.args.hart.number (sym (c.in-None.ensures.message state shows))).0)
          (taken.shows state shows);
      memory_stays = lines_after old new new taken.copies_stay refl;
      told = told_after old new new taken.copies_stay (told_same new);
    }

pub returns-in-None-clause-outcome : goal.returns-in-None-clause-outcome
returns-in-None-clause-outcome c = λ state shows.
    sym (delivers_nothing state c.args.hart.number (sym (c.in-None.ensures.message state shows))).1
