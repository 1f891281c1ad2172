-- the fates of sections as the code has them
use Rattle.std.specs.Prelude.{ℕ, suc, Bool, true, false, ◌&&◌, List, [], ◌∷◌, Option, None, Some, option_map}
use Rattle.std.specs.Prelude.{slice_index_or, if◌then◌else◌}
use Rattle.std.specs.List.{list_all}
use Rattle.bus_agent.specs.Agent.{Agent}
use Rattle.bus_order.specs.Order.{Request, request_of}
use Rattle.defer_list.specs.HartSet.{has}
use Rattle.el_base.specs.declared.hart_id.HartId.{HartId}
use Rattle.el_model.specs.Conflicts.{earlier, stamp_in}
use Rattle.el_model.specs.Face.{Fate, LosesTo, Stays, Unmet}
use Rattle.el_model.specs.State.{for_line}
use Rattle.snoop.specs.declared.fates.Fate as fates
use Rattle.snoop.specs.declared.fates.Fate.TheVariants as declared
use Rattle.stamp.specs.Stamps.{Stamp, is_before}

-- a fate as the definition has it
abbrev pub numbered_fate : fates.Fate → Fate
numbered_fate declared.Unmet = Unmet
numbered_fate declared.Stays = Stays
numbered_fate (declared.LosesTo winner) = LosesTo winner.number

-- the fate of a hart, of a list of their fates; past the last one, a hart meets nothing
abbrev pub fate_in : List fates.Fate → ℕ → Fate
fate_in fates h = numbered_fate (slice_index_or fates h declared.Unmet)

-- whether a fate is to meet nothing, and whether each of these is
abbrev pub is_unmet : fates.Fate → Bool
is_unmet declared.Unmet = true
is_unmet declared.Stays = false
is_unmet (declared.LosesTo winner) = false

abbrev pub nobody_met : List fates.Fate → Bool
nobody_met fates = list_all is_unmet fates

-- the number of a hart that may be there
abbrev pub number_of : Option HartId → Option ℕ
number_of hart = option_map (λ h. h.number) hart

-- the stamp of the request that a hart has ordered on a line
abbrev pub stamp_on : List Request → ℕ → ℕ → Option Stamp
stamp_on order line h = stamp_in (for_line line (request_of order h))

-- whether a section loses to an origin, of which its hart was told, as that has a request on a line with
-- a stamp less than the section's
abbrev pub is_earlier_told : Agent → List Request → ℕ → ℕ → Bool
is_earlier_told agent order line origin = has agent.told origin && is_before (stamp_on order line origin) agent.attempt

-- the earlier of an origin, if the section loses to it, and another that comes after it
abbrev pub earlier_told : Agent → List Request → ℕ → ℕ → Option ℕ → Option ℕ
earlier_told agent order line origin later =
    if is_earlier_told agent order line origin then earlier (stamp_on order line) (Some origin) later else later

-- of the harts from a number on, as many as there are agents, the earliest that a section loses to
abbrev pub told_from : Agent → List Request → ℕ → ℕ → List Agent → Option ℕ
told_from agent order line from [] = None
told_from agent order line from (first ∷ others) =
    earlier_told agent order line from (told_from agent order line (suc from) others)
