-- each outcome can be recorded: the harts that it names are the machine's, and a commit is as long as a section may be
use Rattle.std.proofs.Common.{◌≡◌, ◌∙◌, ◌<◌, ◌≤◌, ◌+◌, ◌==◌, ◌&&◌, ℕ, suc, Bool, true, false, List, [], ◌∷◌, ◌++◌}
use Rattle.std.proofs.Common.{◌⊎◌, inl, inr, Option, None, Some, length, not, refl, ap, sym, subst, arith}
use Rattle.std.proofs.Common.{if◌then◌else◌}
use Rattle.std.specs.Prelude.{All, IfSome}
use Rattle.std.proofs.lemmas.Bool.{cases_lt}
use Rattle.std.proofs.lemmas.Bool.Decides.{nat_tests}
use Rattle.std.proofs.lemmas.List.Elements.{All-cons, All-nil}
use Rattle.std.proofs.lemmas.Option.{same_Some}
use Rattle.bus_order.proofs.Laws.Orders.{one_each_removed}
use Rattle.bus_order.proofs.Laws.Queues.{request_of_first_of}
use Rattle.bus_order.specs.Order.{IsOneEach, Request, first_of, removed}
use Rattle.defer_list.specs.HartSet.{has}
use Rattle.el_base.proofs.Laws.Cases.{none_some}
use Rattle.el_base.proofs.Laws.HartIds.{hart_id-number}
use Rattle.el_base.proofs.Laws.MadeLosers.{count_in-beyond, count_in-freed_of, named_by_map, none_in_no_one}
use Rattle.el_base.proofs.Laws.Ranges.{harts_in_range}
use Rattle.el_base.specs.Config.{IsInRange}
use Rattle.el_base.specs.Recordable.{AreFreedAmong, IsRecordable}
use Rattle.residency.specs.Cache.{has_bit}
use Rattle.el_base.specs.Freed.{count_in, no_one_freed}
use Rattle.el_base.specs.Winners.{winner_over}
use Rattle.el_base.specs.declared.config.Config.{Config}
use Rattle.el_base.specs.declared.config.Mode.{Mode}
use Rattle.el_base.specs.declared.config.Mode.TheVariants.{Plain, Sle, Tlr}
use Rattle.el_base.specs.declared.events.Event.{Event}
use Rattle.el_base.specs.declared.outcomes.Cause.TheVariants.{Long}
use Rattle.el_base.specs.declared.outcomes.Outcome.{Outcome}
use Rattle.el_base.specs.declared.outcomes.Outcome.TheVariants.{Blocked, Committed, Delivered, LetGo, Ordered, Served}
use Rattle.el_base.specs.declared.outcomes.Why.{Why}
use Rattle.el_base.specs.declared.outcomes.Why.TheVariants.{Behind, Retained, Locked}
use Rattle.el_base.proofs.Laws.Tests.{false_between, second_of_both}
use Rattle.el_model.proofs.Laws.BusEvents.{bus_events_are_told_once}
use Rattle.el_model.proofs.Laws.Coming.{by_their_rules}
use Rattle.el_model.proofs.Laws.Folds.{state_after-append}
use Rattle.el_model.proofs.Laws.FromStart.{kept_after, next_config}
use Rattle.el_model.proofs.Laws.Harts.{hart_of-past}
use Rattle.el_model.proofs.Laws.Keeps.{keeps_before_face, keeps_served}
use Rattle.el_model.proofs.Laws.Orders.{order_as_faced, served_order}
use Rattle.el_model.proofs.Laws.Tests.{by_test}
use Rattle.el_model.specs.BusEvent.{AtFace, AtProbe, Becomes, IsAbsent, IsBusEvent, IsLetGo, IsSent, LosesIt}
use Rattle.el_model.specs.BusEvent.{LosesWhere, Nothing, Places, Sees, Serves, Start, Starts, StartsWhere, Takes}
use Rattle.el_model.specs.BusEvent.{as_faced, faced_head, order_after}
use Rattle.el_model.specs.Causes.{ComesWhere}
use Rattle.el_model.specs.Conflicts.{conflicts, first_such, holder_of, is_write, retainer_of, stamp_in, told_winner}
use Rattle.el_model.specs.Conflicts.{wins_over}
use Rattle.el_model.specs.InSection.{Commits, RollsBack, section_rule}
use Rattle.el_model.specs.Armed.{freed_by, freed_count}
use Rattle.el_model.specs.Face.{LosesTo, Unmet, deferring_fate, fate_of, freed_if, told_fate, winner_in}
use Rattle.el_model.specs.Next.{after, next, outcomes_from}
use Rattle.el_model.specs.Order.{Alone, Behind as BehindOthers, InFront, Place, before_face, freed_at, place_for}
use Rattle.el_model.specs.Plain.{armed_count}
use Rattle.el_model.specs.Serve.{Blocks, Free, Obstacle, blocks_if, obstacle_to, other_head, serve_freed, served}
use Rattle.el_model.specs.State.{Armed, Hart, ModelState, Section, Turn, armed_of, begin, count_up, hart_of, head_of}
use Rattle.el_model.specs.State.{new_hart, numbers_of, ordered_of, ordered_on, section_of}
use Rattle.elf_image.specs.Program.{Program}
use Rattle.machine.specs.Recording.{OutcomesCanBeRecorded}
use Rattle.engine.proofs.Laws.ArmedCounts.{armed_sections_are_short}
use Rattle.progress_laws.proofs.Laws.Delivering.{own_line}
use Rattle.progress_laws.proofs.Laws.Facing.{least_passes}
use Rattle.engine.proofs.Laws.Bounds.{Bounded, always_bounded}
use Rattle.engine.proofs.Laws.Numbered.{next_count, one_ordered_request_each, raised_exists}
use Rattle.engine.proofs.Laws.OrderedHarts.{AreBelow, below_kept}
use Rattle.engine.proofs.Laws.SectionSteps.{live_exists}
use Rattle.engine.specs.EachHart.{IsShortArmed}
use Rattle.stamp.specs.Stamps.{Stamp, is_before}
use Rattle.engine.proofs.Laws.Losing.{only_live_sections_lose}
use Rattle.engine.proofs.Laws.Short.{sections_are_short}
use Rattle.engine.specs.Counts.{IsSectionShort}

-- a number that may be there is below a limit
abbrev IsBelow : ℕ → Option ℕ → Type 0
IsBelow limit found = IfSome found (λ h. h < limit)

-- an origin that beats a hart on a line has a request there, so it is one of the machine's
asked_below : (state : ModelState) (line origin limit : ℕ) (attempt : Option Stamp) (found : Option Request) →
    AreBelow limit state.order → ordered_on state origin line ≡ found → is_before (stamp_in found) attempt ≡ true →
    origin < limit
asked_below state line origin limit attempt None below is earlier = absurd (cc)
asked_below state line origin limit attempt (Some request) below is earlier =
    below origin request (own_line line (ordered_of state origin) request is).0

told_below : (state : ModelState) (hart : Hart) (line limit : ℕ) (found : Option ℕ) → AreBelow limit state.order →
    told_winner state hart line ≡ found → IsBelow limit (winner_in (told_fate found))
told_below state hart line limit None below is = tt
told_below state hart line limit (Some origin) below is =
    asked_below state line origin limit hart.attempt (ordered_on state origin line) below refl
    (second_of_both (has hart.told origin) _
    (least_passes
    (λ o. has hart.told o && is_before (stamp_in (ordered_on state o line)) hart.attempt)
    (λ o. stamp_in (ordered_on state o line)) (numbers_of state) origin is))

deferring_below : (mode : Mode) (state : ModelState) (head : Request) (hart : Hart) (limit : ℕ) →
    AreBelow limit state.order → IsBelow limit (winner_in (deferring_fate mode state head hart))
deferring_below Tlr state head hart limit below =
    told_below state hart head.line limit (told_winner state hart head.line) below refl
deferring_below Sle state head hart limit below = tt
deferring_below Plain state head hart limit below = tt

-- the winner as a head is faced is the head's hart, or such an origin
fate_below : (state : ModelState) (head : Request) (g : ℕ) (hart : Hart) (limit : ℕ) → head.hart < limit →
    AreBelow limit state.order → IsBelow limit (winner_in (fate_of state head g hart))
fate_below state head g hart limit exists below =
    by_test (λ fate. IsBelow limit (winner_in fate)) (conflicts head g hart) _ Unmet
    (λ meets.
    by_test (λ fate. IsBelow limit (winner_in fate)) (wins_over state.config.mode head.stamp hart) (LosesTo head.hart)
    (deferring_fate state.config.mode state head hart) (λ wins. exists)
    (λ stays. deferring_below state.config.mode state head hart limit below)) (λ apart. tt)

-- whom an event of the bus names as a winner is a hart of the machine
module _ (state : ModelState) (by : ℕ) (bounded : Bounded state) (once : IsOneEach state.order) where
  abbrev limit : ℕ
  limit = length state.harts

  head_exists : (start : Start) (head : Request) → StartsWhere state by start → faced_head state start ≡ Some head →
      head.hart < limit
  head_exists Nothing head where_it is = none_some is
  head_exists (Places request InFront) head may is =
      subst (λ r. r.hart < limit) (same_Some _ _ is) (raised_exists state by request bounded.sound may.raised)
  head_exists (Places request BehindOthers) head may is = none_some is
  head_exists (Places request Alone) head may is =
      subst (λ r. r.hart < limit) (same_Some _ _ is) (raised_exists state by request bounded.sound may.raised)
  head_exists (Serves request) head may is =
      (below_kept limit).taken_out state.order request.hart bounded.exists head.hart head
      (request_of_first_of (removed state.order request.hart) request.line head
      (one_each_removed state.order request.hart once)
      (sym (ap (λ order. first_of order request.line) (served_order state request)) ∙ is))
  head_exists (Takes message others) head where_it is = none_some is

  winner_exists : {start : Start} {h winner : ℕ} {stamp : Option Stamp} → StartsWhere state by start →
      AreBelow limit (order_after state start) → LosesWhere state by start h winner stamp → winner < limit
  winner_exists where_it below (AtFace start head h winner is apart fate) =
      let faced = as_faced state by start head in
      subst (λ found. IsBelow limit (winner_in found)) fate
      (fate_below faced head h (hart_of faced h) limit (head_exists start head where_it is)
      (subst (AreBelow limit) (sym (order_as_faced state by start head)) below))
  winner_exists where_it below (AtProbe origin others request is loses) = below origin request is

  lost_exists : (start : Start) (h : ℕ) {lost : Option ℕ} {hart : Hart} → StartsWhere state by start →
      AreBelow limit (order_after state start) → Becomes state by start h lost hart → IsBelow limit lost
  lost_exists start h where_it below (IsAbsent past) = tt
  lost_exists start h where_it below (Starts inside) = tt
  lost_exists start h where_it below (IsSent message lost hart sent now) = lost_exists start h where_it below now
  lost_exists start h where_it below (IsLetGo head hart frees now) = tt
  lost_exists start h where_it below (Sees head lost hart defers now) = lost_exists start h where_it below now
  lost_exists start h where_it below (LosesIt winner stamp hart loses now) = winner_exists where_it below loses

  named_exists : {turn : Turn} → IsBusEvent state by turn → AreBelow limit turn.state.order → (loser winner : ℕ) →
      winner_over turn.outcome loser ≡ Some winner → winner < limit
  named_exists done below loser winner names =
      subst (IsBelow limit) (named_by_map done.lost loser winner (sym (done.names loser) ∙ names))
      (lost_exists done.start loser done.where_it (subst (AreBelow limit) done.order below) (done.becomes loser))

-- what is in the way of a request is a hart of the machine
abbrev BlocksBelow : ℕ → Obstacle → Type 0
BlocksBelow limit Free = Unit {0}
BlocksBelow limit (Blocks why by) = by < limit

blocks_below : (limit : ℕ) (why : Why) (by : Option ℕ) (other : Obstacle) → IsBelow limit by → BlocksBelow limit other →
    BlocksBelow limit (blocks_if why by other)
blocks_below limit why None other own others = others
blocks_below limit why (Some by) other own others = own

other_below : (h limit : ℕ) (head : Option Request) → ((found : Request) → head ≡ Some found → found.hart < limit) →
    IsBelow limit (other_head h head)
other_below h limit None exists = tt
other_below h limit (Some head) exists =
    by_test (IsBelow limit) (head.hart == h) None (Some head.hart) (λ own. tt) (λ other. exists head refl)

first_below : (test : ℕ → Bool) (limit from : ℕ) (harts : List Hart) → from + length harts ≤ limit →
    IsBelow limit (first_such test (count_up from harts))
first_below test limit from [] within = tt
first_below test limit from (hart ∷ harts) within =
    by_test (IsBelow limit) (test from) (Some from) (first_such test (count_up (suc from) harts)) (λ holds. omega arith)
    (λ fails. first_below test limit (suc from) harts (omega arith))

obstacle_below : (state : ModelState) (request : Request) → IsOneEach state.order →
    AreBelow (length state.harts) state.order → BlocksBelow (length state.harts) (obstacle_to state request)
obstacle_below state request once below =
    let limit = length state.harts in
    blocks_below limit Behind _ _
    (other_below request.hart limit (head_of state request.line)
    (λ head is. below head.hart head (request_of_first_of state.order request.line head once is)))
    (blocks_below limit Retained (retainer_of state request.line) _ (first_below _ limit 0 state.harts (omega arith))
    (blocks_below limit Locked (holder_of state request.hart request.line) Free
    (first_below _ limit 0 state.harts (omega arith)) tt))

-- who is let go is armed, and so a hart of the machine
none_past : (state : ModelState) (head : Request) (h : ℕ) → length state.harts ≤ h →
    freed_count head h (hart_of state h) ≡ 0
none_past state head h past =
    let hart = new_hart 0 in
    ap (λ k. freed_count head h k) (hart_of-past state h past)
    ∙ ap (λ test. if test then armed_count hart.armed else 0)
    (false_between (is_write head && not (head.hart == h)) (has_bit hart.cache head.line))

freed_among : (state : ModelState) (head : Request) → AreFreedAmong (length state.harts) (freed_by state head)
freed_among state head h past = by (cases_lt h 8)
  where
    count : ℕ → ℕ
    count g = freed_count head g (hart_of state g)

    none : freed_count head h (hart_of state h) ≡ 0
    none = none_past state head h past

    by : (h < 8) ⊎ (8 ≤ h) → count_in (freed_by state head) h ≡ 0
    by (inl few) = count_in-freed_of (λ g. freed_count head g (hart_of state g)) h few (omega (arith, none)) ∙ none
    by (inr many) = count_in-beyond (freed_by state head) h many

nobody_freed : (limit : ℕ) → AreFreedAmong limit no_one_freed
nobody_freed limit h past = none_in_no_one h

as_many_freed : (old new : ModelState) (head : Request) → length new.harts ≡ length old.harts →
    AreFreedAmong (length old.harts) (freed_by new head)
as_many_freed old new head same = subst (λ n. AreFreedAmong n (freed_by new head)) same (freed_among new head)

order_frees : (state : ModelState) (request : Request) (place : Place) →
    AreFreedAmong (length state.harts) (freed_at state request place)
order_frees state request InFront =
    as_many_freed state (before_face state request InFront) request (keeps_before_face state request InFront).count
order_frees state request BehindOthers = nobody_freed (length state.harts)
order_frees state request Alone =
    as_many_freed state (before_face state request Alone) request (keeps_before_face state request Alone).count

serve_frees : (state : ModelState) (request : Request) → AreFreedAmong (length state.harts) (serve_freed state request)
serve_frees state request = by (head_of (served state request) request.line)
  where
    by : (head : Option Request) → AreFreedAmong (length state.harts) (freed_if (served state request) head)
    by None = nobody_freed (length state.harts)
    by (Some head) = as_many_freed state (served state request) head (keeps_served state request).count

-- a section that commits is not at its longest
commits_short : (state : ModelState) (h : ℕ) (section : Section) → section_rule state h section ≡ Commits →
    (section.count == state.config.long) ≡ false
commits_short state h section =
    by_test (λ rule. rule ≡ Commits → (section.count == state.config.long) ≡ false)
    (section.count == state.config.long) (RollsBack Long) _ (λ long is. absurd (cc)) (λ short is. short)

-- each outcome, by where it comes: each request is of a hart of the machine, no section is longer than it may be, and
-- the losers that are named, and those to whom they lost, exist
module _ (state : ModelState) (few : length state.harts ≤ 8) (bounded : Bounded state) (once : IsOneEach state.order)
    (is_short : (h : ℕ) (section : Section) → section_of state h ≡ Some section →
    IsSectionShort state.config.long section)
    (armed_short : (h : ℕ) (armed : Armed) → armed_of state h ≡ Some armed → IsShortArmed state.config.long armed)
  where
    recorded : (event : Event) (outcome : Outcome) → ComesWhere state event outcome →
        ((loser winner : ℕ) → winner_over outcome loser ≡ Some winner →
        (loser < length state.harts) × (winner < length state.harts)) →
        IsRecordable (length state.harts) state.config.long outcome
    recorded event (Committed count) (section, is, goes) named =
        let counts = is_short event.hart.number section goes.inside in
        let short = commits_short state event.hart.number section goes.rule_is in
        (omega (arith, is), grind (arith, nat_tests, is, short, counts.no_more))
    recorded event (LetGo count) (armed, is, goes) named =
        let counts = armed_short event.hart.number armed goes.is_armed in
        (omega (arith, is, counts.some), omega (arith, is, counts.few))
    recorded event (Ordered losers freed) comes named = (
      named,
      subst (AreFreedAmong (length state.harts)) (sym comes.freed_are)
          (order_frees state comes.request (place_for state comes.request)),
    )
    recorded event (Served losers freed) comes named = (
      named,
      subst (AreFreedAmong (length state.harts)) (sym comes.freed_are) (serve_frees state comes.request),
    )
    recorded event (Blocked why by) comes named =
        let exists =
        subst (BlocksBelow (length state.harts)) comes.obstacle
        (obstacle_below state comes.request once bounded.exists) in
        subst (λ n. n < length state.harts)
        (sym (ap (λ hart. hart.number) comes.by_is ∙ hart_id-number comes.hart (omega (arith, exists, few)))) exists
    recorded event (Delivered losers) comes named = named
    recorded event _ comes named = tt

-- so in each state that can be reached
module _ (program : Program) (config : Config) (same : program.harts ≡ config.harts) (range : IsInRange config) where
  abbrev Recordable : Outcome → Type 0
  Recordable outcome = IsRecordable config.harts config.long outcome

  first_config : (begin program config).config ≡ config
  unfolding begin
  first_config = refl

  config_stays : (made : List Event) → (after program config made).config ≡ config
  config_stays made =
      kept_after (λ state. state.config ≡ config) (λ state event is. next_config state event ∙ is)
      (begin program config) made first_config

  bounds : (made : List Event) → Bounded (after program config made)
  bounds made = always_bounded program config made same range

  as_configured : (made : List Event) → length (after program config made).harts ≡ config.harts
  as_configured made = (bounds made).count ∙ ap (λ c. c.harts) (config_stays made)

  next_below : (made : List Event) (event : Event) →
      AreBelow (length (after program config made).harts) (next (after program config made) event).state.order
  next_below made event =
      let state = after program config made in
      let bounded =
      subst Bounded (state_after-append (begin program config) made (event ∷ [])) (bounds (made ++ event ∷ [])) in
      subst (λ count. AreBelow count (next state event).state.order) (next_count state event) bounded.exists

  -- whoever lost had a live section
  names_exist : (made : List Event) (event : Event) (loser winner : ℕ) →
      winner_over (next (after program config made) event).outcome loser ≡ Some winner →
      let harts = length (after program config made).harts in (loser < harts) × (winner < harts)
  names_exist made event loser winner named =
      let state = after program config made in
      let lost = only_live_sections_lose program config made event loser winner same range named in (
        live_exists state loser lost.section lost.live,
        named_exists state event.hart.number (bounds made) (one_ordered_request_each program config made)
            (bus_events_are_told_once state event lost.of_bus) (next_below made event) loser winner named,
      )

  armed_short : (made : List Event) (h : ℕ) (armed : Armed) → armed_of (after program config made) h ≡ Some armed →
      IsShortArmed (after program config made).config.long armed
  armed_short made h armed is =
      subst (λ c. IsShortArmed c.long armed) (sym (config_stays made))
      (armed_sections_are_short program config made range h armed is)

  sections_short : (made : List Event) (h : ℕ) (section : Section) →
      section_of (after program config made) h ≡ Some section →
      IsSectionShort (after program config made).config.long section
  sections_short made h section live =
      subst (λ c. IsSectionShort c.long section) (sym (config_stays made))
      (sections_are_short program config made h section range live)

  one_recorded : (made : List Event) (event : Event) → Recordable (next (after program config made) event).outcome
  one_recorded made event =
      let state = after program config made in
      let few : length state.harts ≤ 8 = rw (as_configured made) (harts_in_range config range) in
      let outcome = (next state event).outcome in
      subst (λ c. IsRecordable c.harts c.long outcome) (config_stays made)
      (subst (λ count. IsRecordable count state.config.long outcome) (bounds made).count
      (recorded state few (bounds made) (one_ordered_request_each program config made) (sections_short made)
      (armed_short made) event outcome ((by_their_rules state event outcome).0 refl) (names_exist made event)))

  from_here : (made events : List Event) → All Recordable (outcomes_from (after program config made) events)
  from_here made [] = All-nil Recordable
  from_here made (event ∷ events) =
      let state = after program config made in
      All-cons Recordable (next state event).outcome (outcomes_from (next state event).state events)
      (one_recorded made event)
      (subst (λ later. All Recordable (outcomes_from later events))
      (state_after-append (begin program config) made (event ∷ [])) (from_here (made ++ event ∷ []) events))

pub outcomes_can_be_recorded : OutcomesCanBeRecorded
outcomes_can_be_recorded program config events same range = from_here program config same range [] events
