-- what holds in lock removal between the harts of a queue, their mailboxes and their sections
use Rattle.std.specs.Prelude.{ℕ, ◌≡◌, ◌≢◌, ◌<◌, ◌≤◌, ◌⊎◌, true, false, List, [], ◌∷◌, length, Some, is_some}
use Rattle.bus_order.specs.Order.{Request, queue_of}
use Rattle.residency.specs.Cache.{has_bit}
use Rattle.defer_list.specs.HartSet.{has}
use Rattle.el_base.specs.declared.config.Mode.TheVariants.{Tlr}
use Rattle.el_base.specs.declared.outcomes.Need.TheVariants.{Write}
use Rattle.el_model.specs.Conflicts.{retains}
use Rattle.el_model.specs.State.{Hart, ModelState, cache_of, hart_of, head_of, is_live, ordered_of, ordered_on}
use Rattle.el_model.specs.State.{raised_of}
use Rattle.mail.specs.Mailbox.{Marker, Probe, has_message}
use Rattle.stamp.specs.Stamps.{Stamp, is_before}

-- a hart is before this one: its marker is in the mailbox, or was taken and it is upstream
abbrev pub IsLinked : Hart → ℕ → Type 0
IsLinked hart before = (has_message hart.mail (Marker before) ≡ true) ⊎ (has hart.upstream before ≡ true)

-- this hart knows of an origin: its probe is in the mailbox, or was taken and the hart was told
abbrev pub Knows : Hart → ℕ → Type 0
Knows hart origin = (has_message hart.mail (Probe origin) ≡ true) ⊎ (has hart.told origin ≡ true)

-- a hart has an ordered request
abbrev pub IsWaiting : ModelState → ℕ → Type 0
IsWaiting state h = is_some (ordered_of state h) ≡ true

-- whom a hart may have before it: it waits itself, and the other is another of the machine's harts
pub record MayPrecede (state : ModelState) (h before : ℕ) : Type 0 where
  pub waits : IsWaiting state h
  pub other : before ≢ h
  pub exists : before < length state.harts

-- of whom a hart may know: another hart, which waits
pub record MayBeKnown (state : ModelState) (h origin : ℕ) : Type 0 where
  pub waits : IsWaiting state origin
  pub other : origin ≢ h

-- each of these requests has a link from the one before it, and the first from this hart
abbrev pub AreLinked : ModelState → ℕ → List Request → Type 0
AreLinked state before [] = Unit {0}
AreLinked state before (request ∷ others) =
    IsLinked (hart_of state request.hart) before × AreLinked state request.hart others

-- a queue is chained: each request but the first has a link from the one before it
abbrev pub IsChained : ModelState → List Request → Type 0
IsChained state [] = Unit {0}
IsChained state (head ∷ others) = AreLinked state head.hart others

-- what is in mailboxes and sets; the chains are asked of the lines that are `on`
pub record Messages (on : ℕ → Type 0) (state : ModelState) : Type 0 where
  pub before : (h before : ℕ) → IsLinked (hart_of state h) before → MayPrecede state h before
  pub known : (h origin : ℕ) → Knows (hart_of state h) origin → MayBeKnown state h origin
  pub chained : (line : ℕ) → on line → IsChained state (queue_of state.order line)
  -- a hart that is upstream of one that waits knows that one
  pub told_own : (h before : ℕ) → has (hart_of state h).upstream before ≡ true → Knows (hart_of state before) h
  -- and of each other origin that waits for the same line and that that one was told of
  pub told_on : (h before origin line : ℕ) (own request : Request) → has (hart_of state h).upstream before ≡ true →
      has (hart_of state h).told origin ≡ true → before ≢ origin → ordered_on state h line ≡ Some own →
      ordered_on state origin line ≡ Some request → Knows (hart_of state before) origin

-- the stamps of requests and attempts
pub record Stamped (state : ModelState) : Type 0 where
  pub raised : (h : ℕ) (request : Request) → raised_of state h ≡ Some request →
      request.stamp ≡ (hart_of state h).attempt
  pub ordered : (h : ℕ) (request : Request) → ordered_of state h ≡ Some request →
      request.stamp ≡ (hart_of state h).attempt
  pub own : (h : ℕ) (stamp : Stamp) → (hart_of state h).attempt ≡ Some stamp → stamp.hart ≡ h
  pub opened : (h : ℕ) → is_live state h ≡ true → is_some (hart_of state h).attempt ≡ true

-- a section that retains a line has a link to the hart of its head, its hart has seen the clock of the head, and
-- neither the head nor an origin that its hart was told of and that waits for the line has a less stamp
pub record MayRetain (state : ModelState) (g line : ℕ) : Type 0 where
  pub link : (head : Request) → head_of state line ≡ Some head → IsLinked (hart_of state head.hart) g
  pub seen : (head : Request) (stamp : Stamp) → head_of state line ≡ Some head → head.stamp ≡ Some stamp →
      stamp.clock ≤ (hart_of state g).seen
  pub not_after_head : (head : Request) → head_of state line ≡ Some head →
      is_before head.stamp (hart_of state g).attempt ≡ false
  pub not_after_told : (origin : ℕ) (request : Request) → has (hart_of state g).told origin ≡ true →
      ordered_on state origin line ≡ Some request → is_before request.stamp (hart_of state g).attempt ≡ false

-- what sections have to do with requests
pub record Retaining (on : ℕ → Type 0) (state : ModelState) : Type 0 where
  pub may : (g line : ℕ) → on line → retains state g line ≡ true → MayRetain state g line
  -- a hart with a live section that has a bit on the line of its own request needs to write, and
  -- is the head once it is ordered
  pub raised : (h : ℕ) (request : Request) → raised_of state h ≡ Some request → is_live state h ≡ true →
      has_bit (cache_of state h) request.line ≡ true → request.need ≡ Write
  pub ordered : (h : ℕ) (request : Request) → ordered_of state h ≡ Some request → is_live state h ≡ true →
      has_bit (cache_of state h) request.line ≡ true → request.need ≡ Write
  pub first : (h : ℕ) (request : Request) → on request.line → ordered_of state h ≡ Some request →
      is_live state h ≡ true → has_bit (cache_of state h) request.line ≡ true →
      head_of state request.line ≡ Some request

-- the facts of lock removal. Those on chains and on what retains a line are asked of the lines that are `on`: of every
-- line between two events, and of every other line while one is given its new head
pub record Facts (on : ℕ → Type 0) (state : ModelState) : Type 0 where
  pub mode : state.config.mode ≡ Tlr
  pub exists : (h : ℕ) (request : Request) → ordered_of state h ≡ Some request → h < length state.harts
  pub stamped : Stamped state
  pub messages : Messages on state
  pub retaining : Retaining on state

-- every line
abbrev pub Everywhere : ℕ → Type 0
Everywhere line = Unit {0}
