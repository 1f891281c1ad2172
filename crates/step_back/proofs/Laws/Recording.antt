-- What a machine's outcomes can be recorded as.
use Rattle.std.proofs.Common.{◌≡◌, ◌≤◌, sym, subst}
use Rattle.std.specs.Prelude.{All}
use Rattle.chronicle.specs.Chronicle.{Chronicle}
use Rattle.el_base.proofs.Laws.Ranges.{at_most, ranges}
use Rattle.el_base.proofs.Laws.Recordable.{all_still_recordable}
use Rattle.el_base.specs.Config.{IsInRange}
use Rattle.el_base.specs.Recordable.{IsRecordable}
use Rattle.el_base.specs.declared.config.Config.{Config}
use Rattle.machine.specs.Story.{Story, history_of}
use Rattle.trace_file.specs.Outcomes.{most_committed}
use Rattle.trace_file.specs.Spelling.{outcomes}

-- the outcomes of a machine can be recorded in a trace
pub recordable_history : (story : Story) (config : Config) (history : Chronicle) → config ≡ story.config →
    IsInRange story.config → history ≡ history_of story → All (IsRecordable story.config.harts story.config.long)
    (outcomes story.entries) → All (IsRecordable config.harts most_committed) (outcomes history.entries)
recordable_history story config history same in_range is can =
    let most : story.config.long ≤ most_committed =
    at_most 2 65536 story.config.long (ranges story.config in_range).long in
    let long : config.long ≤ most_committed = subst (λ (one : Config). one.long ≤ most_committed) (sym same) most in
    let here : All (IsRecordable config.harts config.long) (outcomes story.entries) =
    subst (λ (one : Config). All (IsRecordable one.harts one.long) (outcomes story.entries)) (sym same) can in
    subst (λ (one : Chronicle). All (IsRecordable config.harts most_committed) (outcomes one.entries)) (sym is)
    (all_still_recordable config.harts config.long most_committed (outcomes story.entries) long here)
