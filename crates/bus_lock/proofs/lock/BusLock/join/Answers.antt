use Rattle.std.proofs.Common.{rules, ◌≡◌, ap, ◌∙◌}
use Rattle.bus_lock.specs.Steps.{account_of, at_rest, compared, joined}
use Rattle.bus_lock.specs.declared.view.View.{View}
use Rattle.bus_lock.proofs.Parts.{joins}
use Rattle.bus_lock.proofs.lock.BusLock.join.Goals as goal

pub join_seat-requires : goal.join_seat-requires
join_seat-requires g c =
    let left = c.into_seat-seat.ensures.1 in let right = c.into_seat.ensures.1 in let halves = c.requires.halves in (
      search rules,
      search rules,
      search rules,
      search rules,
      joins _ _ _ _ _ _ _ _ halves.0 (ap (λ m. m.0.share) left ∙ halves.1.left_share)
          (ap (λ m. m.0.share) right ∙ halves.1.right_share) (ap (λ m. m.0.live) left) (ap (λ m. m.0.live) right)
          (ap (λ m. m.0.ticket) left) (ap (λ m. m.0.turn) left) (ap (λ m. m.0.turn) right) (ap (λ m. m.0.beside) left)
          (ap (λ m. m.0.beside) right),
    )

pub of_seat-requires : goal.of_seat-requires
of_seat-requires g c =
    let left = c.into_seat-seat.ensures.1 in let right = c.into_seat.ensures.1 in
    let both : View = joined (at_rest c.args.left) (at_rest c.args.right) in
    let now : c.join_seat.new.seat.me.0 ≡ both =
    ap (λ m. m.0) c.join_seat.ensures.2 ∙ (λ i. joined (left i).0 (right i).0) in
    let view : c.learn.new.seat.me.0 ≡ compared both = c.learn.ensures.learns.view ∙ ap compared now in
    let none = c.learn.ensures.learns.holds ∙ (ap (λ m. m.1) c.join_seat.ensures.2 ∙ ap (λ m. m.1) left) in
    (account_of c.args.left.lock (compared both), λ i. (view i, none i))
