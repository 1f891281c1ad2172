use Rattle.std.proofs.Common.{◌∙◌, ap}
use Rattle.hart_state.proofs.state.HartState.begin.Goals as goal

pub returns-clause-shows : goal.returns-clause-shows
returns-clause-shows c = λ pool committed h op address source present.
    c.begin.ensures.shows pool committed h op address source
    (ap (λ own. own.section.marks.present) c.self.view_is ∙ present)
