-- the swaps of a story that ran outside of sections, and why they were not elided
use Rattle.std.specs.Prelude.{ℕ, Bool, List, [], ◌∷◌, Option, None, Some, not, nat_le, if◌then◌else◌}
use Rattle.std.specs.Option.{option_map}
use Rattle.el_base.specs.declared.config.Mode.{Mode}
use Rattle.el_base.specs.declared.events.Event.{Event}
use Rattle.el_base.specs.declared.hart_id.HartId.{HartId}
use Rattle.el_base.specs.declared.outcomes.Outcome.{Outcome}
use Rattle.el_base.specs.declared.outcomes.Outcome.TheVariants as outcomes
use Rattle.el_model.specs.Next.{next}
use Rattle.el_model.specs.Plain.{elides, least_confidence}
use Rattle.el_model.specs.State.{ModelState, hart_of}
use Rattle.el_model.specs.Upcoming.{Swap, next_swap}
use Rattle.lab.specs.Told.{told_from}
use Rattle.lab.specs.declared.swaps.NotElided.{NotElided}
use Rattle.lab.specs.declared.swaps.NotElided.TheVariants.{PlainMode, Fallback, Confidence, NoCandidate}
use Rattle.lab.specs.declared.swaps.PlainSwap.{PlainSwap}
use Rattle.pair_table.specs.Predictor.{confidence_of}
use Rattle.rv_flat.specs.FlatState.{view_of}

-- the first test of the rule that says no to a swap that runs: the mode elides nothing, the fallback is on, its place
-- is not trusted enough; else the swap is no candidate
abbrev pub first_no : Mode → Bool → ℕ → NotElided
first_no mode fallback confidence =
    if not (elides mode) then PlainMode
    else if fallback then Fallback
    else if not (nat_le least_confidence confidence) then Confidence
    else NoCandidate

-- the same of a hart's next swap
abbrev pub why_not : ModelState → ℕ → NotElided
why_not state h =
    first_no state.config.mode (hart_of state h).fallback
    (confidence_of (hart_of state h).predictor (view_of state.committed h).pc)

-- a hart's next instruction where it is a swap, as a swap that runs at a place
abbrev pub as_plain : ModelState → ℕ → HartId → Swap → PlainSwap
as_plain state place hart swap = record {
  place = place;
  hart = hart;
  acquire = record { pc = (view_of state.committed hart.number).pc; word = swap.word };
  old = swap.old;
  new = swap.new;
  why = why_not state hart.number;
}

abbrev pub next_plain : ModelState → ℕ → HartId → Option PlainSwap
next_plain state place hart = option_map (as_plain state place hart) (next_swap state.committed hart.number)

-- it is told where an instruction ran outside of a section
abbrev pub if_ran : Outcome → Option PlainSwap → List PlainSwap
if_ran outcomes.Ran (Some swap) = swap ∷ []
if_ran outcomes.Ran None = []
if_ran _ swap = []

-- the swap that an event at a place runs, if it runs one
abbrev pub swaps_in : ModelState → ℕ → Event → List PlainSwap
swaps_in state place event = if_ran (next state event).outcome (next_plain state place event.hart)

-- the swaps that these events run, the first event at a place
abbrev pub swaps_from : ModelState → ℕ → List Event → List PlainSwap
swaps_from = told_from swaps_in
