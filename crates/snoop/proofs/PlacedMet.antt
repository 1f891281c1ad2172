-- a request takes a place where it is met
use Rattle.std.proofs.Common.{◌≡◌, ◌∙◌, ap, subst, sym}
use Rattle.bus_order.specs.Order.{Request}
use Rattle.el_model.specs.Face.{met}
use Rattle.el_model.specs.Order.{Place, before_face, place_for, placed}
use Rattle.el_model.specs.State.{ModelState}
use Rattle.snoop.proofs.Leaves.{lines_after, told_after}
use Rattle.snoop.proofs.LettingGo.{placed_bytes}
use Rattle.snoop.specs.Leaving.{EndsSections, LeavesCopies}
use Rattle.snoop.specs.LettingGo.{KeepsBytes}
use Rattle.snoop.specs.Shows.{BusState, Shows}

pub placed_and_met : (old mid new : BusState) (request : Request) (place : Place) →
    ((state : ModelState) → placed state request place ≡ met (before_face state request place) request) →
    ((state : ModelState) → Shows old state → place ≡ place_for state request) →
    LeavesCopies (λ state. before_face state request place) old mid →
    EndsSections (λ state. met state request) mid new →
    EndsSections (λ state. placed state request (place_for state request)) old new
placed_and_met old mid new request place is_met here went ends = record {
  ready = ends.ready;
  shows = λ state starts.
      let is : placed state request (place_for state request) ≡ met (before_face state request place) request =
      ap (placed state request) (sym (here state starts.shows)) ∙ is_met state in
      let keeps = subst (λ after. KeepsBytes state.committed after.committed) is starts.keeps in
      subst (Shows new) (sym is)
      (ends.shows (before_face state request place)
      (record { shows = went.shows state starts.shows; keeps = placed_bytes state request place _ keeps }));
  memory_stays = lines_after old mid new went.copies_stay ends.memory_stays;
  told = told_after old mid new went.copies_stay ends.told;
}
