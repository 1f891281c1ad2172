-- the section that began
use Rattle.std.proofs.Common.{◌∙◌, ◌++◌, ap, sym}
use Rattle.lab.proofs.Noting.{begun_is}
use Rattle.lab.proofs.tries.Tries.begin.Goals as goal
use Rattle.machine.specs.Story.{state_of}
use Rattle.rv_flat.specs.FlatState.{view_of}

pub returns-in_ok-push : goal.returns-in_ok-push
returns-in_ok-push c =
    c.in_ok-push.ensures
    ∙ ap (λ begun. c.args.self.now ++ begun)
    (begun_is (state_of c.args.machine.now) c.args.place c.args.hart c.in-Some.live c.hart.result _
    c.in-Some.ensures.exact
    (c.hart.ensures ∙ ap (λ flat. view_of flat c.args.hart.number) (sym c.requires.one_run.committed)))
