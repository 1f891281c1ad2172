-- no state is stuck, in every mode
use Rattle.std.proofs.Common.{◌≡◌, ◌≤◌, ◌↔◌, None, true, length, refl, ap}
use Rattle.el_base.specs.declared.config.Mode.{Mode}
use Rattle.el_base.specs.declared.config.Mode.TheVariants.{Plain, Sle, Tlr}
use Rattle.el_model.specs.Next.{after, is_over}
use Rattle.el_model.specs.Quiet.{has_stamps}
use Rattle.progress_laws.proofs.Laws.GettingOn.{always_orderly}
use Rattle.progress_laws.proofs.LockRemoval.{removal_not_stuck}
use Rattle.progress_laws.proofs.WithoutStamps.{stampless_not_stuck}
use Rattle.progress_laws.specs.Laws.{NoStateIsStuck}
use Rattle.progress_laws.specs.Ready.{ready_event}
use Rattle.removal_laws.proofs.Laws.Throughout.{facts_hold_throughout}
use Rattle.section_laws.proofs.Laws.Numbered.{requests_are_numbered}

pub no_state_is_stuck : NoStateIsStuck
no_state_is_stuck program config events same range =
    by config.mode refl (requests_are_numbered program config events same range).few
  where
    by : (mode : Mode) → config.mode ≡ mode → length (after program config events).harts ≤ 8 →
        (ready_event (after program config events) ≡ None) ↔ (is_over (after program config events) ≡ true)
    by Plain is few = stampless_not_stuck program config events (ap has_stamps is) few
    by Sle is few = stampless_not_stuck program config events (ap has_stamps is) few
    by Tlr is few =
        removal_not_stuck (after program config events) (facts_hold_throughout program config events is)
        (always_orderly program config events) few
