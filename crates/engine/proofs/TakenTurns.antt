-- a turn that is taken, told in other words
use Rattle.std.proofs.Common.{◌≡◌, ◌∙◌, ap, subst, sym}
use Rattle.el_base.specs.declared.outcomes.Outcome.{Outcome}
use Rattle.el_model.specs.State.{ModelState, Turn}
use Rattle.engine.specs.Parts.{IsInState, Parts}
use Rattle.engine.specs.Turns.{TakesTurn}

-- who acts as others say acts so as well, and has the turn that those have
pub as_well : {Acts Other : ModelState → Type 0} {turn other : ModelState → Turn} {old new : Parts}
    {result : Outcome} → TakesTurn Acts turn old new result → ((from : ModelState) → Other from → Acts from) →
    ((from : ModelState) → Other from → other from ≡ turn from) → TakesTurn Other other old new result
as_well {new = new} takes acts same = record {
  ready = takes.ready;
  state = λ from is. subst (λ t. IsInState new t.state) (sym (same from is)) (takes.state from (acts from is));
  outcome = λ from is. takes.outcome from (acts from is) ∙ ap (λ t. t.outcome) (sym (same from is));
  memory_stays = takes.memory_stays;
}

-- and so does what goes on from parts with the same main memory
pub taken_after : {Acts : ModelState → Type 0} {turn : ModelState → Turn} {old mid new : Parts}
    {result : Outcome} → TakesTurn Acts turn mid new result → mid.bus.copies.lines ≡ old.bus.copies.lines →
    TakesTurn Acts turn old new result
taken_after takes same = record {
  ready = takes.ready;
  state = takes.state;
  outcome = takes.outcome;
  memory_stays = takes.memory_stays ∙ same;
}
