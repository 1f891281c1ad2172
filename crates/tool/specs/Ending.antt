-- How a run ends.
use Rattle.std.specs.Prelude.{Bool, false, not, ◌==◌, List, if◌then◌else◌}
use Rattle.std.specs.List.{list_all}
use Rattle.el_model.specs.Next.{is_over}
use Rattle.drive.specs.Story.{Story, committed, state_of}
use Rattle.rv_alu.specs.declared.view.HartStatus.{HartStatus}
use Rattle.rv_alu.specs.declared.view.HartStatus.TheVariants.{Running, Exited, Trapped}
use Rattle.rv_alu.specs.declared.view.HartView.{HartView}
use Rattle.tool.specs.declared.status.Status.{Status}
use Rattle.tool.specs.declared.status.Status.TheVariants.{Done, HartFailed, StepLimit}

-- it exited with code 0
abbrev pub has_succeeded : HartStatus → Bool
has_succeeded Running = false
has_succeeded (Exited code) = code == 0
has_succeeded (Trapped cause pc) = false

-- each of them has
abbrev pub all_succeeded : List HartView → Bool
all_succeeded views = list_all (λ view. has_succeeded view.status) views

-- how a run ends: a hart still runs, or each exited with code 0, or not
abbrev pub ending : Story → Status
ending story =
    if not (is_over (state_of story)) then StepLimit
    else if all_succeeded (committed story).harts then Done
    else HartFailed
