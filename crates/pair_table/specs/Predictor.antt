-- the predictor of one hart: counters, and at most one watch
use Rattle.std.specs.Prelude.{ℕ, ◌+◌, ◌-◌, ◌/◌, ◌%◌, ◌||◌, List, replicate, slice_index, slice_set, Option, None, Some}
use Rattle.std.specs.Prelude.{min, ◌==◌, if◌then◌else◌}
use Rattle.pair_table.specs.declared.seen.Seen.{Seen}
use Rattle.pair_table.specs.declared.verdict.Verdict.{Verdict}
use Rattle.pair_table.specs.declared.verdict.Verdict.TheVariants.{Up, Down}

-- a candidate for an acquire that ran outside of a section: its pc, its word, the word's old value, and how many
-- instructions the hart has run since, itself included
pub record Watch : Type 0 where
  pub pc : ℕ
  pub word : ℕ
  pub old : ℕ
  pub count : ℕ

pub record Predictor : Type 0 where
  pub counters : List ℕ
  pub watch : Option Watch

-- a predictor that has seen nothing: every counter is 2, and nothing is watched
abbrev pub unseen : Predictor
unseen = record { counters = replicate 64 2; watch = None }

-- the counter of a pc: the 64 counters are shared by all places in the program
abbrev pub counter_number : ℕ → ℕ
counter_number pc = (pc / 4) % 64

-- how far the place is trusted, from 0 to 3
abbrev pub confidence_of : Predictor → ℕ → ℕ
confidence_of predictor pc = slice_index predictor.counters (counter_number pc)

-- a counter after a verdict: it stays from 0 to 3
abbrev pub counted : Verdict → ℕ → ℕ
counted Up counter = min (counter + 1) 3
counted Down counter = counter - 1

-- the predictor after a verdict on a pc
abbrev pub settled : Predictor → ℕ → Verdict → Predictor
settled predictor pc verdict = record predictor {
  counters = slice_set predictor.counters (counter_number pc) (counted verdict (confidence_of predictor pc));
}

-- the predictor with a watch of a candidate that ran, and without any
abbrev pub watching : Predictor → ℕ → ℕ → ℕ → Predictor
watching predictor pc word old =
    record predictor { watch = Some (record { pc = pc; word = word; old = old; count = 1 }) }

abbrev pub unwatched : Predictor → Predictor
unwatched predictor = record predictor { watch = None }

-- the verdict of an instruction on a watch that has counted it, where it gives one: the release is good; a store to
-- the word, a call or a stop, or as many instructions as a section may have, is not
abbrev pub verdict_on : Seen → ℕ → ℕ → Option Verdict
verdict_on seen long count =
    if seen.release then Some Up
    else if seen.touches || seen.call_or_stop || (count == long) then Some Down
    else None

-- the predictor after the verdict on its watch: a watch that was settled is gone, and another one goes on
abbrev pub judged : Predictor → Watch → Option Verdict → Predictor
judged predictor watch (Some verdict) = unwatched (settled predictor watch.pc verdict)
judged predictor watch None = record predictor { watch = Some watch }

-- how many instructions a watch counts at most; its count stands still there
abbrev pub most_counted : ℕ
most_counted = 4294967295

-- the watch after one more instruction
abbrev pub counting : Watch → Watch
counting watch = record watch { count = min (watch.count + 1) most_counted }

-- the verdict that one more instruction gives on the watch, if any stands
abbrev pub saw_verdict : Option Watch → Seen → ℕ → Option Verdict
saw_verdict None seen long = None
saw_verdict (Some watch) seen long = verdict_on seen long (counting watch).count

-- the predictor after one more instruction
abbrev pub saw_with : Predictor → Option Watch → Seen → ℕ → Predictor
saw_with predictor None seen long = predictor
saw_with predictor (Some watch) seen long =
    judged predictor (counting watch) (verdict_on seen long (counting watch).count)

abbrev pub saw_of : Predictor → Seen → ℕ → Predictor
saw_of predictor seen long = saw_with predictor predictor.watch seen long
