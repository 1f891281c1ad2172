-- the first test that says no, by what the machine shows
use Rattle.std.proofs.Common.{◌∙◌, ap}
use Rattle.lab.proofs.Swapping.{why_told}
use Rattle.lab.proofs.swaps.why_not.Goals as goal
use Rattle.pair_table.specs.Predictor.{confidence_of}

pub returns : goal.returns
returns c =
    c.first_no.ensures
    ∙ why_told c.args.machine.now c.args.hart.number c.config.result c.own-own.result.now c.fallback.result
    c.confidence-confidence.result
    c.args.pc c.config.ensures.exact c.own-own.ensures c.fallback.ensures
    (c.confidence-confidence.ensures.exact ∙ ap (λ p. confidence_of p c.args.pc) c.predictor.ensures) c.requires.at_pc
