-- Putting the lines of a report.
use Rattle.std.proofs.Common.{◌≡◌, ℕ, List, ◌∷◌, ◌++◌, length, Result, refl, ap, sym, ◌∙◌, append_assoc}
use Rattle.std.specs.Fmt.{decimal}
use Rattle.std.specs.Prelude.{codes}
use Rattle.chronicle.specs.Serial.{serial}
use Rattle.chronicle.specs.Tally.{tally_of}
use Rattle.chronicle.specs.declared.tally.Tally.{Tally}
use Rattle.el_base.specs.declared.config.Config.{Config}
use Rattle.el_base.specs.declared.entries.Entry.{Entry}
use Rattle.el_io.specs.declared.sink.Failed.{Failed}
use Rattle.step_back.specs.Story.{Story, committed}
use Rattle.report.proofs.Putting.{put_stopped, put_then, put_then_part, same_part}
use Rattle.report.proofs.Laws.Puts.{same_puts}
use Rattle.report.specs.Line.{line}
use Rattle.report.specs.Puts.{PutAll, PutPart, Puts, SinkState}
use Rattle.report.specs.Text.{count_words, first_line, hart_line, hart_lines, last_line, report_of, report_text}
use Rattle.report.specs.Text.{status_words}
use Rattle.rv_alu.specs.declared.view.HartStatus.{HartStatus}
use Rattle.rv_flat.specs.FlatState.{FlatState, status_of}

-- the line of a hart, of its two parts
pub hart_line_put : (result : Result (Unit {0}) Failed) (before now : SinkState) (number : ℕ) (tally : Tally)
    (status : HartStatus)
    (counts more : List (List ℕ)) → counts ≡ decimal number ∷ count_words tally → more ≡ status_words status →
    Puts result before now (line (codes "hart") (counts ++ more)) →
    Puts result before now (hart_line number tally status)
unfolding hart_line
hart_line_put result before now number tally status counts more first second put =
    same_puts result before now _ _
    (ap (λ words. line (codes "hart") (words ++ more)) first
    ∙ ap (λ words. line (codes "hart") ((decimal number ∷ count_words tally) ++ words)) second) put

-- the line of one hart, by its number
abbrev pub line_at : List Entry → FlatState → ℕ → List ℕ
line_at entries state hart = hart_line hart (tally_of hart entries) (status_of state hart)

-- the parts of a report
report_parts : (story : Story) (config : Config) (events steps output : ℕ) → config ≡ story.config →
    events ≡ length story.entries → steps ≡ length (serial story.entries) → output ≡ length (committed story).output →
    first_line config events
    ++ (hart_lines story.config.harts story.entries (status_of (committed story)) ++ last_line steps output)
    ≡ report_of story
unfolding report_text
report_parts story config events steps output configured counted served put =
    ap
    (λ c. first_line c events
    ++ (hart_lines story.config.harts story.entries (status_of (committed story)) ++ last_line steps output))
    configured
    ∙ ap
    (λ n. first_line story.config n
    ++ (hart_lines story.config.harts story.entries (status_of (committed story)) ++ last_line steps output))
    counted
    ∙ ap (λ n.
    first_line story.config (length story.entries)
    ++ (hart_lines story.config.harts story.entries (status_of (committed story)) ++ last_line n output)) served
    ∙ ap (λ n.
    first_line story.config (length story.entries) ++ (hart_lines story.config.harts story.entries
    (status_of (committed story)) ++ last_line (length (serial story.entries)) n)) put
    ∙ sym (append_assoc (first_line story.config (length story.entries)) _ _)

pub report_stopped_at_first : (before now : SinkState) (story : Story) (config : Config) (events : ℕ) →
    config ≡ story.config → events ≡ length story.entries → PutPart before now (first_line config events) →
    PutPart before now (report_of story)
report_stopped_at_first before now story config events configured counted a =
    same_part before now _ _ (report_parts story config events _ _ configured counted refl refl)
    (put_stopped before now _ _ a)

pub report_stopped_at_hart : (before between now : SinkState) (story : Story) (config : Config) (events : ℕ) →
    config ≡ story.config → events ≡ length story.entries → PutAll before between (first_line config events) →
    PutPart between now (hart_lines story.config.harts story.entries (status_of (committed story))) →
    PutPart before now (report_of story)
report_stopped_at_hart before between now story config events configured counted a b =
    same_part before now _ _ (report_parts story config events _ _ configured counted refl refl)
    (put_then_part before between now _ _ a (put_stopped between now _ _ b))

pub report_put : (result : Result (Unit {0}) Failed) (before between later now : SinkState) (story : Story)
    (config : Config)
    (events steps output : ℕ) → config ≡ story.config → events ≡ length story.entries →
    steps ≡ length (serial story.entries) → output ≡ length (committed story).output →
    PutAll before between (first_line config events) →
    PutAll between later (hart_lines story.config.harts story.entries (status_of (committed story))) →
    Puts result later now (last_line steps output) → Puts result before now (report_of story)
report_put result before between later now story config events steps output configured counted served written a b c =
    same_puts result before now _ _ (report_parts story config events steps output configured counted served written)
    (put_then result before between now _ _ a (put_then result between later now _ _ b c))
