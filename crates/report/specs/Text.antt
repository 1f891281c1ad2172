-- The text of a report.
use Rattle.std.specs.Prelude.{ℕ, List, [], ◌∷◌, ◌++◌, length, codes}
use Rattle.std.specs.Fmt.{decimal}
use Rattle.std.specs.List.{flat_map, range_with_len}
use Rattle.chronicle.specs.Serial.{serial}
use Rattle.chronicle.specs.Tally.{tally_of}
use Rattle.chronicle.specs.declared.tally.Tally.{Tally}
use Rattle.el_base.specs.Modes.{mode_word}
use Rattle.el_base.specs.declared.config.Config.{Config}
use Rattle.el_base.specs.declared.entries.Entry.{Entry}
use Rattle.step_back.specs.Story.{Story, committed}
use Rattle.report.specs.Line.{eight_digits, line}
use Rattle.rv_alu.specs.declared.view.HartStatus.{HartStatus}
use Rattle.rv_alu.specs.declared.view.HartStatus.TheVariants.{Running, Exited, Trapped}
use Rattle.rv_flat.specs.FlatState.{status_of}

-- the mode, and the numbers of harts and of events
unfoldable pub first_line : Config → ℕ → List ℕ
first_line config events =
    line (codes "elide")
    (mode_word config.mode ∷ codes "harts" ∷ decimal config.harts ∷ codes "events" ∷ decimal events ∷ [])

-- how a hart stands
abbrev pub status_words : HartStatus → List (List ℕ)
status_words Running = codes "running" ∷ []
status_words (Exited code) = codes "exit" ∷ decimal code ∷ []
status_words (Trapped cause pc) = codes "trap" ∷ decimal cause ∷ codes "at" ∷ eight_digits pc ∷ []

-- what the events count for in a hart's line, each number behind its name
abbrev pub count_words : Tally → List (List ℕ)
count_words tally =
    codes "ran" ∷ decimal tally.ran
    ∷ codes "began" ∷ decimal tally.began
    ∷ codes "committed" ∷ decimal tally.committed
    ∷ codes "instr" ∷ decimal tally.instr
    ∷ codes "conflict" ∷ decimal tally.conflict
    ∷ codes "room" ∷ decimal tally.room
    ∷ codes "lines" ∷ decimal tally.lines
    ∷ codes "long" ∷ decimal tally.long
    ∷ codes "call" ∷ decimal tally.call
    ∷ codes "mixed" ∷ decimal tally.mixed
    ∷ codes "missed" ∷ decimal tally.missed
    ∷ codes "stalled" ∷ decimal tally.stalled
    ∷ codes "blocked" ∷ decimal tally.blocked
    ∷ []

-- the line of a hart: its number, its tally and its status
unfoldable pub hart_line : ℕ → Tally → HartStatus → List ℕ
hart_line hart tally status = line (codes "hart") (decimal hart ∷ count_words tally ++ status_words status)

-- the lengths of the serial order and of the output
unfoldable pub last_line : ℕ → ℕ → List ℕ
last_line steps output = line (codes "serial") (decimal steps ∷ codes "out" ∷ decimal output ∷ [])

-- the lines of the first harts, so many of them, from hart 0 on
abbrev pub hart_lines : ℕ → List Entry → (ℕ → HartStatus) → List ℕ
hart_lines harts entries status =
    flat_map (λ hart. hart_line hart (tally_of hart entries) (status hart)) (range_with_len 0 harts)

-- the report of these entries, under a configuration, with the status of each hart and the length of the output
unfoldable pub report_text : Config → List Entry → (ℕ → HartStatus) → ℕ → List ℕ
report_text config entries status output =
    first_line config (length entries)
    ++ hart_lines config.harts entries status
    ++ last_line (length (serial entries)) output

-- the report of a story
abbrev pub report_of : Story → List ℕ
report_of story =
    report_text story.config story.entries (status_of (committed story)) (length (committed story).output)
