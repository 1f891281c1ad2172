use Rattle.std.proofs.Common.{rules, ap, ◌∙◌, ◌∷◌, ◌++◌, [], true, false}
use Rattle.bus_lock.specs.Steps.{left_half, right_half}
use Rattle.bus_lock.proofs.Parts.{splits}
use Rattle.bus_lock.proofs.lock.BusLock.split.Goals as goal

pub split_seat-right-requires : goal.split_seat-right-requires
split_seat-right-requires g c =
    let me = c.into_seat-left.ensures.1 in
    (search rules, search rules, splits _ _ _ _ _ _ (ap (λ m. m.0.turn) me) (ap (λ m. m.0.ticket) me))

pub of_seat-left-requires : goal.of_seat-left-requires
of_seat-left-requires g c = (
  record c.args.pass { share = c.args.pass.share ++ false ∷ [] },
  c.split_seat-right.ensures.2 ∙ ap (λ m. (left_half m.0, m.1)) c.into_seat-left.ensures.1,
)

pub of_seat-right-requires : goal.of_seat-right-requires
of_seat-right-requires g c = (
  record c.args.pass { places = []; share = c.args.pass.share ++ true ∷ [] },
  c.split_seat-right.ensures.4 ∙ ap (λ m. (right_half m.0, [])) c.into_seat-left.ensures.1,
)
