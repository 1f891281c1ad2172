-- a hart of the state is one of the machine's
use Rattle.tool.proofs.Certifying.{reached_harts}
use Rattle.tool.proofs.ended.EndedReached.view.Goals as goal

pub hart-requires : goal.hart-requires
hart-requires c =
    reached_harts c.args.self.now.machine.now c.args.hart.number c.config-config.ensures.one_hart_each c.requires
