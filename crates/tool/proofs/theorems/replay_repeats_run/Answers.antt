use Rattle.std.proofs.Common.{List, ℕ, ap, subst, sym, ◌∙◌}
use Rattle.tool.specs.Jobs.{ReplayAnswer, RunAnswer, besides_replay}
use Rattle.tool.proofs.Repeating.{repeats}
use Rattle.tool.proofs.theorems.replay_repeats_run.Goals as goal

pub returns : goal.returns
returns c = λ job again name before after ran replayed run named written image trace times same replay.
    let R : List ℕ → Type 0 = λ file. RunAnswer job file ran in
    let P : List ℕ → Type 0 = λ file. ReplayAnswer (besides_replay again) file replay.trace replayed in
    let Q : List ℕ → Type 0 = λ file. ReplayAnswer (besides_replay again) (before job.image) file replayed in
    repeats job again (before job.image) name (after name) ran replayed named times
    (subst R (sym run.image_file) run.exact) written
    (subst Q (sym replay.trace_file ∙ ap after trace)
    (subst P (sym replay.image_file ∙ ap after image ∙ same) replay.exact))
