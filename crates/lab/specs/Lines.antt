-- what a story tells of lines
use Rattle.std.specs.Prelude.{ℕ, zero, suc, Bool, true, false, List, [], ◌∷◌, ◌++◌, Option, None, Some, length, ◌==◌}
use Rattle.std.specs.Prelude.{nat_lt, if◌then◌else◌}
use Rattle.std.specs.List.{flat_map, range_with_len}
use Rattle.std.specs.Option.{option_map}
use Rattle.bus_order.specs.Order.{Request}
use Rattle.residency.specs.Cache.{letter_of}
use Rattle.el_base.specs.HartId.{hart_id}
use Rattle.el_base.specs.LineAddr.{line_addr}
use Rattle.el_base.specs.Losers.{beaten_by}
use Rattle.el_base.specs.declared.events.Event.{Event}
use Rattle.el_base.specs.declared.hart_id.HartId.{HartId}
use Rattle.el_base.specs.declared.outcomes.Outcome.{Outcome}
use Rattle.el_base.specs.declared.outcomes.Outcome.TheVariants as outcomes
use Rattle.el_model.specs.Next.{next}
use Rattle.el_model.specs.State.{ModelState, cache_of, ordered_of}
use Rattle.machine.specs.EngineMemory.{line_written_back}
use Rattle.lab.specs.Told.{told_from}
use Rattle.lab.specs.Tries.{line_waited_for}
use Rattle.lab.specs.declared.lines.Fact.{Fact}
use Rattle.lab.specs.declared.lines.LineFact.{LineFact}
use Rattle.lab.specs.declared.lines.LineFact.TheVariants.{Missed, Served, Owner, Lost, WroteBack}
use Rattle.moesi.specs.declared.letter.Letter.{Letter}
use Rattle.moesi.specs.declared.letter.Letter.TheVariants.{M, O, E, S, I}

-- whether the cache with this letter owns its line: no other cache has it with such a letter
abbrev pub owns : Letter → Bool
owns M = true
owns O = true
owns E = true
owns S = false
owns I = false

-- what a hart's cache knows of a line; past the last hart, nothing
abbrev pub letter_at : ModelState → ℕ → ℕ → Letter
letter_at state line h = if nat_lt h (length state.harts) then letter_of (cache_of state h) line else I

-- of the harts below a number, the one whose cache owns a line, by the letters of all
abbrev pub owner_below : (ℕ → Letter) → ℕ → Option ℕ
owner_below letter zero = None
owner_below letter (suc h) = if owns (letter h) then Some h else owner_below letter h

-- the hart whose cache owns a line, if one does
abbrev pub owner_in : ModelState → ℕ → Option ℕ
owner_in state line = owner_below (letter_at state line) 8

-- what is asked of a line: the request, and the line's owner
pub record Asking : Type 0 where
  pub request : Request
  pub owner : Option ℕ

abbrev pub asking_of : ModelState → Request → Asking
asking_of state request = record { request = request; owner = owner_in state request.line }

-- what a hart asks for in the order
abbrev pub asked_in : ModelState → ℕ → Option Asking
asked_in state h = option_map (asking_of state) (ordered_of state h)

-- a fact about a line, at a place
abbrev pub fact : ℕ → ℕ → LineFact → Fact
fact place line what = record { place = place; line = Some (line_addr line); what = what }

abbrev pub same_owner : Option ℕ → Option ℕ → Bool
same_owner None None = true
same_owner (Some a) (Some b) = a == b
same_owner _ _ = false

-- a line changed its owner
abbrev pub owner_facts : ℕ → ℕ → Option ℕ → Option ℕ → List Fact
owner_facts place line from to =
    if same_owner from to then [] else fact place line (Owner (option_map hart_id from) (option_map hart_id to)) ∷ []

-- a request of a hart is served, after which this is the state
abbrev pub served_facts : ℕ → HartId → ModelState → Option Asking → List Fact
served_facts place hart after None = []
served_facts place hart after (Some asked) =
    fact place asked.request.line (Served hart asked.request.need)
    ∷ owner_facts place asked.request.line asked.owner (owner_in after asked.request.line)

-- a hart's section was lost, where it has a winner: for the line that the winner waits for after the event
abbrev pub loss_facts : ℕ → ModelState → ℕ → Option ℕ → List Fact
loss_facts place after loser None = []
loss_facts place after loser (Some winner) =
    record {
      place = place;
      line = option_map line_addr (line_waited_for after winner);
      what = Lost (hart_id winner) (hart_id loser);
    } ∷ []

-- the losses of the harts below a number, each by its winner
abbrev pub losses_below : ℕ → ModelState → (ℕ → Option ℕ) → ℕ → List Fact
losses_below place after winner harts = flat_map (λ h. loss_facts place after h (winner h)) (range_with_len 0 harts)

-- what an event of a hart tells, by its outcome, of what the hart asked for and the state after it
abbrev pub facts_by : ℕ → HartId → Option Asking → ModelState → Outcome → List Fact
facts_by place hart asked after (outcomes.Missed line need) =
    record { place = place; line = Some line; what = Missed hart need } ∷ []
facts_by place hart asked after (outcomes.Served losers freed) =
    served_facts place hart after asked ++ losses_below place after (beaten_by losers) 8
facts_by place hart asked after (outcomes.Ordered losers freed) = losses_below place after (beaten_by losers) 8
facts_by place hart asked after (outcomes.Delivered losers) = losses_below place after (beaten_by losers) 8
facts_by place hart asked after _ = []

-- a line left a hart's cache and was written back, if one was
abbrev pub back_facts : ℕ → HartId → Option ℕ → List Fact
back_facts place hart None = []
back_facts place hart (Some line) = fact place line (WroteBack hart) ∷ []

-- a line counts as written back where a request was served
abbrev pub if_served : Outcome → Option ℕ → Option ℕ
if_served (outcomes.Served losers freed) back = back
if_served _ back = None

-- and of the line that it writes back to main memory, if it writes one back
abbrev pub facts_in : ModelState → ℕ → Event → List Fact
facts_in state place event =
    facts_by place event.hart (asked_in state event.hart.number) (next state event).state (next state event).outcome
    ++ back_facts place event.hart (line_written_back state event)

-- what these events tell of lines, the first event at a place
abbrev pub facts_from : ModelState → ℕ → List Event → List Fact
facts_from = told_from facts_in
