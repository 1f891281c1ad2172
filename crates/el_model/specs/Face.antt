-- the head of a line meets the sections that conflict with it
use Rattle.std.specs.Prelude.{ℕ, List, [], map, Option, None, Some, ◌==◌, if◌then◌else◌, filter, is_some}
use Rattle.bus_order.specs.Order.{Request}
use Rattle.el_base.specs.Freed.{no_one_freed}
use Rattle.el_base.specs.Losers.{losers_of}
use Rattle.el_base.specs.declared.config.Mode.{Mode}
use Rattle.el_base.specs.declared.config.Mode.TheVariants.{Plain, Sle, Tlr}
use Rattle.el_base.specs.declared.freed.Freed.{Freed}
use Rattle.el_base.specs.declared.losers.Losers.{Losers}
use Rattle.el_model.specs.Armed.{freed_by, let_go}
use Rattle.el_model.specs.Attempts.{see}
use Rattle.el_model.specs.Conflicts.{conflicts, stamp_in, told_winner, wins_over}
use Rattle.el_model.specs.RollBack.{beaten}
use Rattle.el_model.specs.State.{Hart, ModelState, each_hart, hart_of, numbers_of, ordered_on, post_all}
use Rattle.mail.specs.Mailbox.{Message, Marker}
use Rattle.stamp.specs.Stamps.{Stamp}

-- what becomes of a section as a head is faced: it does not meet it, it stays and defers it, or it loses to a hart
pub data Fate : Type 0 where
  Unmet : Fate
  Stays : Fate
  LosesTo : ℕ → Fate

-- in lock removal a section that does not lose to the head may lose to an origin that its hart was told of
abbrev pub told_fate : Option ℕ → Fate
told_fate None = Stays
told_fate (Some origin) = LosesTo origin

abbrev pub deferring_fate : Mode → ModelState → Request → Hart → Fate
deferring_fate Tlr state head hart = told_fate (told_winner state hart head.line)
deferring_fate Sle state head hart = Stays
deferring_fate Plain state head hart = Stays

abbrev pub fate_of : ModelState → Request → ℕ → Hart → Fate
fate_of state head h hart =
    if conflicts head h hart
    then (if wins_over state.config.mode head.stamp hart then LosesTo head.hart
    else deferring_fate state.config.mode state head hart)
    else Unmet

-- the fate of a hart, as the harts stand before this event rolls any back
abbrev pub fate_at : ModelState → Request → ℕ → Fate
fate_at state head h = fate_of state head h (hart_of state h)

-- whether a section stays, and to whom it loses
abbrev pub stays : Fate → Option ℕ
stays Stays = Some 0
stays Unmet = None
stays (LosesTo winner) = None

abbrev pub winner_in : Fate → Option ℕ
winner_in (LosesTo winner) = Some winner
winner_in Stays = None
winner_in Unmet = None

-- the stamp of the request by which a winner won on a line
abbrev pub winning_stamp : ModelState → ℕ → ℕ → Option Stamp
winning_stamp state line winner = stamp_in (ordered_on state winner line)

-- a hart after its fate; in lock removal one that stays has seen the head's stamp
abbrev pub deferring : Mode → Option Stamp → Hart → Hart
deferring Tlr stamp hart = see stamp hart
deferring Sle stamp hart = hart
deferring Plain stamp hart = hart

abbrev pub after_fate : ModelState → Request → Fate → Hart → Hart
after_fate state head Unmet hart = hart
after_fate state head Stays hart = deferring state.config.mode head.stamp hart
after_fate state head (LosesTo winner) hart =
    beaten state.config.mode (winning_stamp state head.line winner) hart

-- the markers that a head is sent, one by each section that stays, in ascending order of harts
abbrev pub markers_for : Mode → ModelState → Request → List Message
markers_for Tlr state head = map Marker (filter (λ h. is_some (stays (fate_at state head h))) (numbers_of state))
markers_for Sle state head = []
markers_for Plain state head = []

-- what a hart becomes as a head is faced
abbrev pub faced_hart : ModelState → Request → ℕ → Hart → Hart
faced_hart state head h hart =
    if h == head.hart then post_all hart (markers_for state.config.mode state head)
    else after_fate state head (fate_of state head h hart) hart

unfoldable pub faced : ModelState → Request → ModelState
faced state head = each_hart state (faced_hart state head)

-- the harts that lose as a head is faced, each with its winner
unfoldable pub face_losers : ModelState → Request → Losers
face_losers state head = losers_of (λ h. winner_in (fate_at state head h))

-- a new head lets go the armed sections that it meets, and is faced then
abbrev pub met : ModelState → Request → ModelState
met state head = faced (let_go state head) head

abbrev pub met_losers : ModelState → Request → Losers
met_losers state head = face_losers (let_go state head) head

-- the same where the line may have no head
abbrev pub met_if : ModelState → Option Request → ModelState
met_if state None = state
met_if state (Some head) = met state head

abbrev pub met_losers_if : ModelState → Option Request → Losers
met_losers_if state None = losers_of (λ h. None)
met_losers_if state (Some head) = met_losers state head

abbrev pub freed_if : ModelState → Option Request → Freed
freed_if state None = no_one_freed
freed_if state (Some head) = freed_by state head
