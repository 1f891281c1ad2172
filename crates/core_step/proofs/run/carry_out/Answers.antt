-- what the action stores, by the number that it loads from the port's bytes
use Rattle.std.proofs.Common.{◌≡◌}
use Rattle.rv_alu.specs.Execution.{number_of}
use Rattle.core_step.proofs.Laws.Runs.{store_ready}
use Rattle.core_step.proofs.run.carry_out.Goals as goal

pub store-requires : goal.store-requires
store-requires g c =
    let byte = g.P.Port.byte c.args.port.now in
    let number : c.load-number.result ≡ number_of c.args.action byte =
    rw (← c.loads.ensures.value) c.load-number.ensures in
    rw (c.perform-transfers.ensures.store byte number)
    (store_ready (g.P.Port.permits c.args.port.now) c.args.action c.args.view.now byte c.requires.ready)
