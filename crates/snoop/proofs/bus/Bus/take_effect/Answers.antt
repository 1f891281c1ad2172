use Rattle.std.proofs.Common.{◌∙◌, ap, sym}
use Rattle.el_model.specs.Deliver.{losers_by}
use Rattle.mail.specs.Mailbox.{numbered}
use Rattle.snoop.proofs.LosersBelow.{nobody_lost}
use Rattle.snoop.proofs.bus.Bus.take_effect.Goals as goal

pub returns-in-Marker-clause-losers : goal.returns-in-Marker-clause-losers
returns-in-Marker-clause-losers c = λ state shows.
    nobody_lost c.none.result c.none.ensures
    ∙ ap (λ message. losers_by state c.args.hart.number (numbered message)) (sym c.in-Marker.is)
