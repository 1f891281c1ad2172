-- calls one after another, of which the first leaves the copies as they are
use Rattle.std.proofs.Common.{◌≡◌, ◌∙◌, ap, subst, sym}
use Rattle.snoop.specs.Shows.{BusState, Holding, StaysTold, TellsIn}

pub lines_after : (old mid new : BusState) → mid.copies ≡ old.copies → new.copies.lines ≡ mid.copies.lines →
    new.copies.lines ≡ old.copies.lines
lines_after old mid new same stay = stay ∙ ap (λ (copies : Holding). copies.lines) same

pub told_after : (old mid new : BusState) → mid.copies ≡ old.copies → StaysTold mid new → StaysTold old new
told_after old mid new same stays =
    λ pool bytes tells. stays pool bytes (subst (λ copies. TellsIn pool copies bytes) (sym same) tells)

-- where nothing has changed, the same is told
pub told_same : (bus : BusState) → StaysTold bus bus
told_same bus = λ pool bytes tells. tells
