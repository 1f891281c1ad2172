-- what holds of each hart by itself, and what stands on it: the messages and what retains a line
use Rattle.el_base.specs.declared.events.Event.{Event}
use Rattle.el_model.specs.Next.{next}
use Rattle.el_model.specs.State.{ModelState}
use Rattle.removal_laws.specs.Facts.{Everywhere, Facts, Messages, Retaining}
use Rattle.removal_laws.proofs.Laws.Attempts.{AllOpen, Own, next_open, next_own}
use Rattle.removal_laws.proofs.Requests.{AllBelow, AllStamped, next_below, next_stamped}
use Rattle.el_model.proofs.Laws.EachHart.{Each}
use Rattle.section_laws.proofs.Laws.ArmedBits as bits
use Rattle.section_laws.proofs.Laws.EachKept.{next_keeps}
use Rattle.section_laws.proofs.Laws.Numbered.{Once, next_once}

pub record Grounds (state : ModelState) : Type 0 where
  pub once : Once state
  pub own : Each Own state
  pub opened : AllOpen state
  pub stamped : AllStamped state
  pub below : AllBelow state
  pub clean : Each (λ h hart. bits.Holds hart) state

pub next_grounds : (state : ModelState) (event : Event) → Grounds state → Grounds (next state event).state
next_grounds state event now = record {
  once = next_once state event now.once;
  own = next_own state event now.own;
  opened = next_open state event now.opened;
  stamped = next_stamped state event now.once.sound now.stamped;
  below = next_below state event now.once.sound now.below;
  clean = next_keeps bits.kept state event now.clean;
}

pub record Standing (state : ModelState) : Type 0 where
  pub messages : Messages Everywhere state
  pub retaining : Retaining Everywhere state

pub facts_of : (state : ModelState) → Grounds state → Standing state → Facts Everywhere state
facts_of state grounds standing = record {
  mode = grounds.opened.mode;
  exists = grounds.below;
  stamped = record {
    raised = λ h request is. (grounds.stamped h).raised_is request is;
    ordered = λ h request is. (grounds.stamped h).ordered_is request is;
    own = λ h stamp is. (grounds.own h stamp is).hart;
    opened = λ h live. grounds.opened.open_each h live;
  };
  messages = standing.messages;
  retaining = standing.retaining;
}
