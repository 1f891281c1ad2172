use Rattle.std.proofs.Common.{ap, sym, refl, subst, ◌∙◌}
use Rattle.std.specs.Option.{IsSome}
use Rattle.std.proofs.lemmas.Option.{same_Some as Some-injective}
use Rattle.bus_lock.specs.Locks.{boxed}
use Rattle.bus_lock.proofs.Ends.{Ends, closes}
use Rattle.bus_lock.proofs.lock.BusLock.close.Goals as goal

pub unwrap-home-requires : goal.unwrap-home-requires
unwrap-home-requires g c =
    let entries = boxed g.M.Chronicled.entries in let opening = boxed g.M.Chronicled.opening in
    let view = ap (λ m. m.0) c.into_seat.ensures.1 in
    let last = closes entries opening _ _ _ _ c.args.pass _ _ c.take.result view c.requires.only
    c.close_with-closed.ensures.values.2 c.take.ensures.value in
    subst IsSome (sym last.1) refl

pub returns : goal.returns
returns g c =
    let entries = boxed g.M.Chronicled.entries in let opening = boxed g.M.Chronicled.opening in
    let view = ap (λ m. m.0) c.into_seat.ensures.1 in
    let last = closes entries opening _ _ _ _ c.args.pass _ _ c.take.result view c.requires.only
    c.close_with-closed.ensures.values.2 c.take.ensures.value in
    let is = Some-injective _ _ (sym last.1 ∙ c.unwrap-home.ensures) in
    let ends = subst (Ends entries opening _ c.args.pass) is last.2 in let value = c.into_inner.ensures in record {
      entries = ap g.M.Chronicled.entries value ∙ ends.entries_seen;
      opening = ap g.M.Chronicled.opening value ∙ ends.opening_kept;
      places = rw value ends.places;
    }
