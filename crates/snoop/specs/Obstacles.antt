-- what is in the way of a request, by numbers
use Rattle.std.specs.Prelude.{ℕ, Bool, true, false, Option, Some, None}
use Rattle.bus_order.specs.Order.{Request}
use Rattle.el_base.specs.HartId.{hart_id}
use Rattle.el_base.specs.declared.hart_id.HartId.{HartId}
use Rattle.el_base.specs.declared.outcomes.Outcome.{Outcome}
use Rattle.el_base.specs.declared.outcomes.Outcome.TheVariants.{Blocked}
use Rattle.el_base.specs.declared.outcomes.Why.TheVariants.{Behind, Retained, Locked}
use Rattle.el_model.specs.Conflicts.{conflicts, conflicts_with, first_such, holder_of}
use Rattle.el_model.specs.Serve as serving
use Rattle.el_model.specs.State.{ModelState, hart_of, numbers_of}
use Rattle.snoop.specs.declared.obstacle.Obstacle as obstacles
use Rattle.snoop.specs.declared.obstacle.Obstacle.TheVariants.{Free, Blocks}

abbrev pub number_of : HartId → ℕ
number_of hart = hart.number

abbrev pub numbered_obstacle : obstacles.Obstacle → serving.Obstacle
numbered_obstacle Free = serving.Free
numbered_obstacle (Blocks why by) = serving.Blocks why by.number

-- the least hart whose section conflicts with a request
abbrev pub first_conflict_of : ModelState → Request → Option ℕ
first_conflict_of state request = first_such (λ h. conflicts request h (hart_of state h)) (numbers_of state)

-- another hart that holds the line of a request, where there is one
abbrev pub held_by : ModelState → Request → serving.Obstacle
held_by state request = serving.blocks_if Locked (holder_of state request.hart request.line) serving.Free

-- what is in the way of a request, if its line has this head
abbrev pub obstacle_by : ModelState → Request → Option Request → serving.Obstacle
obstacle_by state request head =
    serving.blocks_if Behind (serving.other_head request.hart head)
    (serving.blocks_if Retained (first_such (λ h. conflicts_with head h (hart_of state h)) (numbers_of state))
    (held_by state request))

-- what a serve comes to that something is in the way of, and none where nothing is
abbrev pub blocked_by : serving.Obstacle → Option Outcome
blocked_by serving.Free = None
blocked_by (serving.Blocks why by) = Some (Blocked why (hart_id by))

-- whether an outcome is that something blocks a serve
abbrev pub is_blocked : Outcome → Bool
is_blocked (Blocked why by) = true
is_blocked _ = false
