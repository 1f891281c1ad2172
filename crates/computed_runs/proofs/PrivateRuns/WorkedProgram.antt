-- a program that comes to a live section: the law of covered runs says something of it
use Rattle.std.specs.Prelude.{slice_index}
use Rattle.std.proofs.Common.{◌≡◌, ◌<◌, ℕ, zero, suc, [], ◌∷◌, Some, replicate, refl, arith}
use Rattle.el_base.specs.LineAddr.{line_addr}
use Rattle.el_base.specs.declared.config.Config.{Config}
use Rattle.el_base.specs.declared.config.Mode.TheVariants.{Sle}
use Rattle.el_base.specs.declared.outcomes.Need.TheVariants.{Read}
use Rattle.el_base.specs.declared.outcomes.Outcome.TheVariants.{Began, Missed, Ran}
use Rattle.computed_runs.proofs.SectionView.Worked.{all_zero}
use Rattle.computed_runs.proofs.Computing.{computing}
use Rattle.computed_runs.proofs.Given.{ordered_with, section, served_with}
use Rattle.computed_runs.proofs.Rows.Given.{settings}
use Rattle.el_model.specs.Next.{after, outcomes}
use Rattle.el_model.specs.State.{cache_of, section_of}
use Rattle.run_laws.proofs.Laws.Reachable.{live_sections_run_covered}
use Rattle.run_laws.specs.PrivateRun.{IsCoveredRun}
use Rattle.computed_runs.proofs.Sections.FullSet.{events, program}

abbrev config : Config
config = settings 1 Sle 16 4 16 2000

outcomes_are : outcomes program config events
    ≡ Ran ∷ Ran ∷ Missed (line_addr 1024) Read ∷ ordered_with [] [] ∷ served_with [] [] ∷ Began ∷ []
unfolding computing
outcomes_are = refl

live : section_of (after program config events) 0 ≡ Some (section 1 65536 0 1)
unfolding computing
live = refl

covered : IsCoveredRun (after program config events).committed 0 (cache_of (after program config events) 0)
    (section 1 65536 0 1)
covered = live_sections_run_covered program config events 0 (section 1 65536 0 1) (all_zero 64) live
