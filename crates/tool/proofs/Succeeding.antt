-- How a run ends, one hart after another.
use Rattle.std.proofs.Common.{◌≡◌, ℕ, ◌+◌, ◌<◌, true, false, ◌&&◌, length, take, ◌∙◌, ap, take_all, ◌≤◌, sym, arith}
use Rattle.std.proofs.lemmas.List.Folds.{list_all_at, list_all_more}
use Rattle.chronicle.specs.Serial.{serial}
use Rattle.drive.specs.Story.{Story, committed}
use Rattle.rv_flat.proofs.Laws.StepLaws.{harts-run, start_harts}
use Rattle.rv_flat.specs.FlatState.{FlatState, no_hart, start, view_of}
use Rattle.tool.specs.Ending.{all_succeeded, has_succeeded}

-- a run has as many harts as its program
pub harts-committed : (story : Story) → length (committed story).harts ≡ story.program.harts
harts-committed story = harts-run (start story.program) (serial story.entries) ∙ start_harts story.program

pub one_failed : (state : FlatState) (hart : ℕ) → hart < length state.harts →
    has_succeeded (view_of state hart).status ≡ false → all_succeeded state.harts ≡ false
one_failed state hart within failed =
    list_all_at (λ view. has_succeeded view.status) state.harts hart no_hart within failed

pub one_more_succeeded : (state : FlatState) (hart : ℕ) → hart < length state.harts →
    all_succeeded (take hart state.harts) ≡ true → has_succeeded (view_of state hart).status ≡ true →
    all_succeeded (take (hart + 1) state.harts) ≡ true
one_more_succeeded state hart within before succeeded =
    list_all_more (λ view. has_succeeded view.status) state.harts hart no_hart within
    ∙ ap (λ test. test && has_succeeded (view_of state hart).status) before
    ∙ succeeded

-- what a loop over the harts needs
pub ruleset ending_steps = (one_failed, one_more_succeeded, harts-committed)

-- every hart was looked at
pub all_looked_at : (story : Story) (looked : ℕ) → story.program.harts ≡ story.config.harts →
    looked ≡ story.config.harts → all_succeeded (take looked (committed story).harts) ≡ true →
    true ≡ all_succeeded (committed story).harts
all_looked_at story looked one_each all succeeded =
    let whole : length (committed story).harts ≤ looked = omega (arith, harts-committed story) in
    sym (ap all_succeeded (sym (take_all looked (committed story).harts whole)) ∙ succeeded)
