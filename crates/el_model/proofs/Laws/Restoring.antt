-- where an event of the bus names no winner for a hart, its section, tries and flag are as they were; where it names
-- one they are those after a loss
use Rattle.std.proofs.Common.{◌≡◌, ◌≢◌, ◌∙◌, ℕ, ◌<◌, Bool, true, false, ◌&&◌, not, ◌==◌, List, [], ◌∷◌, Option, Some}
use Rattle.std.proofs.Common.{None, is_some, length, refl, ap, sym, subst, arith, if◌then◌else◌}
use Rattle.std.specs.Prelude.{IfSome}
use Rattle.std.proofs.lemmas.Bool.Decides.{nat_tests}
use Rattle.bus_order.specs.Order.{Request, first_of, removed, request_of}
use Rattle.el_base.proofs.Laws.MadeLosers.{beaten_by-losers_of, unnamed_by_map}
use Rattle.el_base.specs.Winners.{winner_over}
use Rattle.el_base.specs.declared.events.Event.{Event}
use Rattle.el_base.specs.declared.events.Kind.TheVariants as kinds
use Rattle.el_base.proofs.Laws.Tests.{false_between}
use Rattle.el_model.specs.BusEvent.{AtFace, AtProbe, Becomes, IsAbsent, IsBusEvent, IsLetGo, IsSent, LosesIt}
use Rattle.el_model.specs.BusEvent.{LosesWhere, Nothing, Places, Sees}
use Rattle.el_model.specs.BusEvent.{Serves, Start, Starts, StartsWhere, Takes}
use Rattle.el_model.specs.BusEvent.{as_faced, faced_head, having_taken, started}
use Rattle.el_model.specs.Conflicts.{conflicts_with, meets_bit}
use Rattle.el_model.specs.Deliver.{loses_to_origin}
use Rattle.el_model.specs.Face.{winner_in}
use Rattle.el_model.specs.Losses.{AreNumbered, HartsAreNumbered, lost_in, restored, standing_of}
use Rattle.el_model.specs.Next.{next}
use Rattle.el_model.specs.Order.{Alone, Behind, InFront}
use Rattle.el_model.specs.Serve.{bystander, served_hart, with_claim}
use Rattle.el_model.specs.State.{Hart, ModelState, Turn, hart_of, head_of, section_of}
use Rattle.el_model.proofs.Laws.BusEvents.{bus_events_are_told_once, frame_as_faced, freed_becomes_at}
use Rattle.el_model.proofs.Laws.Losing.{beaten_stands, fate_below, outside_is_unmet}
use Rattle.el_model.proofs.Laws.Orders.{served_order}
use Rattle.el_model.proofs.Laws.Tests.{by_test}
use Rattle.mail.specs.Mailbox.{Marker, Message, Probe}
use Rattle.stamp.specs.Stamps.{Stamp, is_before}

-- what an event with these losers leaves of a hart
abbrev pub Restores : ModelState → ModelState → Option ℕ → ℕ → Type 0
Restores old new winner g = standing_of (hart_of new g) ≡ restored old.config.mode winner (standing_of (hart_of old g))

-- no start changes a section, tries or flag, and after it a loss alone
claim_same : (live : Bool) (request : Request) (hart : Hart) →
    standing_of (with_claim live request hart) ≡ standing_of hart
claim_same true request hart = refl
claim_same false request hart = refl

taken_same : (message : Message) (others : List Message) (hart : Hart) →
    standing_of (having_taken message others hart) ≡ standing_of hart
taken_same (Marker sender) others hart = refl
taken_same (Probe origin) others hart = refl

started_same : (state : ModelState) (by : ℕ) (start : Start) (h : ℕ) (hart : Hart) →
    standing_of (started state by start h hart) ≡ standing_of hart
started_same state by Nothing h hart = refl
started_same state by (Places request place) h hart =
    by_test (λ new. standing_of new ≡ standing_of hart) (h == request.hart) (record hart { raised = None }) hart
    (λ own. refl) (λ other. refl)
started_same state by (Serves request) h hart =
    by_test (λ new. standing_of new ≡ standing_of hart) (h == request.hart) (served_hart state request hart)
    (bystander state request hart)
    (λ own. claim_same (is_some hart.section) request _) (λ other. refl)
started_same state by (Takes message others) h hart =
    by_test (λ new. standing_of new ≡ standing_of hart) (h == by) (having_taken message others hart) hart
    (λ own. taken_same message others hart) (λ other. refl)

pub stands : (state : ModelState) (by : ℕ) (start : Start) (h : ℕ) {lost : Option ℕ} {hart : Hart} →
    Becomes state by start h lost hart →
    standing_of hart ≡ restored state.config.mode lost (standing_of (hart_of state h))
stands state by start h (IsAbsent past) = refl
stands state by start h (Starts below) = started_same state by start h (hart_of state h)
stands state by start h (IsSent message lost hart sent now) = stands state by start h now
stands state by start h (IsLetGo head hart frees now) = stands state by start h now
stands state by start h (Sees head lost hart defers now) = stands state by start h now
stands state by start h (LosesIt winner stamp hart loses now) =
    beaten_stands state.config.mode stamp hart ∙ ap (lost_in state.config.mode) (stands state by start h now)

-- a request of the order is of a hart that a machine may have
chosen_numbered : (request next : Request) (found : Bool) (others : Option Request) → request.hart < 8 →
    (others ≡ Some next → next.hart < 8) → (if found then Some request else others) ≡ Some next → next.hart < 8
chosen_numbered request next true others below rest is = let e : request ≡ next = cc in subst (λ r. r.hart < 8) e below
chosen_numbered request next false others below rest is = rest is

first_numbered : (order : List Request) (line : ℕ) (next : Request) → AreNumbered order →
    first_of order line ≡ Some next → next.hart < 8
first_numbered [] line next all is = absurd (cc)
first_numbered (request ∷ order) line next all is =
    chosen_numbered request next (request.line == line) (first_of order line) all.0
    (first_numbered order line next all.1) is

pub removed_numbered : (order : List Request) (h : ℕ) → AreNumbered order → AreNumbered (removed order h)
removed_numbered [] h all = tt
removed_numbered (request ∷ order) h all =
    by_test AreNumbered (request.hart == h) (removed order h) (request ∷ removed order h)
    (λ own. removed_numbered order h all.1) (λ other. (all.0, removed_numbered order h all.1))

chosen_hart : (first request : Request) (h : ℕ) (own : Bool) → (first.hart == h) ≡ own → (others : Option Request) →
    first.hart < 8 → (others ≡ Some request → h < 8) → (if own then Some first else others) ≡ Some request → h < 8
chosen_hart first request h true own others below rest is = let e : first.hart ≡ h =
    grind (arith, nat_tests) in omega arith
chosen_hart first request h false own others below rest is = rest is

request_numbered : (order : List Request) (h : ℕ) (request : Request) → AreNumbered order →
    request_of order h ≡ Some request → h < 8
request_numbered [] h request all is = absurd (cc)
request_numbered (first ∷ order) h request all is =
    chosen_hart first request h (first.hart == h) refl (request_of order h) all.0
    (request_numbered order h request all.1) is

-- so is a head that is faced, and a winner
head_numbered : (state : ModelState) (by : ℕ) (start : Start) (head : Request) → HartsAreNumbered state →
    StartsWhere state by start →
    faced_head state start ≡ Some head → head.hart < 8
head_numbered state by Nothing head numbered where_it is = absurd (cc)
head_numbered state by (Places request InFront) head numbered where_it is =
    let e : request ≡ head = cc in subst (λ r. r.hart < 8) e (numbered.raised by request where_it.raised)
head_numbered state by (Places request Behind) head numbered where_it is = absurd (cc)
head_numbered state by (Places request Alone) head numbered where_it is =
    let e : request ≡ head = cc in subst (λ r. r.hart < 8) e (numbered.raised by request where_it.raised)
head_numbered state by (Serves request) head numbered where_it is =
    first_numbered (removed state.order request.hart) request.line head
    (removed_numbered state.order request.hart numbered.ordered)
    (sym (ap (λ order. first_of order request.line) (served_order state request)) ∙ is)
head_numbered state by (Takes message others) head numbered where_it is = absurd (cc)

winner_numbered : (state : ModelState) (by : ℕ) {start : Start} {h winner : ℕ} {stamp : Option Stamp} →
    HartsAreNumbered state →
    StartsWhere state by start → LosesWhere state by start h winner stamp → winner < 8
winner_numbered state by numbered where_it (AtFace start head h winner is apart fate) =
    let mid = as_faced state by start head in
    subst (λ found. IfSome (winner_in found) (λ w. w < 8)) fate
    (fate_below mid head h (hart_of mid h)
    (let e = (frame_as_faced state by start head).count in let few = numbered.few in omega (arith, e, few))
    (head_numbered state by start head numbered where_it is))
winner_numbered state by numbered where_it (AtProbe origin others request is loses) =
    request_numbered state.order origin request numbered.ordered is

lost_numbered : (state : ModelState) (by : ℕ) (start : Start) (h : ℕ) {lost : Option ℕ} {hart : Hart} →
    HartsAreNumbered state →
    StartsWhere state by start → Becomes state by start h lost hart → IfSome lost (λ w. w < 8)
lost_numbered state by start h numbered where_it (IsAbsent past) = tt
lost_numbered state by start h numbered where_it (Starts below) = tt
lost_numbered state by start h numbered where_it (IsSent message lost hart sent now) =
    lost_numbered state by start h numbered where_it now
lost_numbered state by start h numbered where_it (IsLetGo head hart frees now) = tt
lost_numbered state by start h numbered where_it (Sees head lost hart defers now) =
    lost_numbered state by start h numbered where_it now
lost_numbered state by start h numbered where_it (LosesIt winner stamp hart loses now) =
    winner_numbered state by numbered where_it loses

pub bus_restores : {state : ModelState} {by : ℕ} {turn : Turn} → IsBusEvent state by turn → (g : ℕ) →
    HartsAreNumbered state →
    g < length state.harts → Restores state turn.state (winner_over turn.outcome g) g
bus_restores {state} {by} done g numbered below =
    let few = numbered.few in
    stands state by done.start g (done.becomes g)
    ∙ ap (λ winner. restored state.config.mode winner (standing_of (hart_of state g)))
    (sym
    (done.names g
    ∙ beaten_by-losers_of done.lost g (omega (arith, few, below))
    (lost_numbered state by done.start g numbered done.where_it (done.becomes g))))

pub losers_restored : (state : ModelState) (event : Event) (g : ℕ) → HartsAreNumbered state → event.kind ≢ kinds.Step →
    g < length state.harts → Restores state (next state event).state (winner_over (next state event).outcome g) g
losers_restored state event g numbered bus below =
    bus_restores (bus_events_are_told_once state event bus) g numbered below

-- without a section a hart loses to nobody, and has none after the event
no_loss : (state : ModelState) (h : ℕ) (request : Request) → section_of state h ≡ None →
    loses_to_origin state h (Some request) ≡ true → ⊥
no_loss state h request none loses =
    let unmet = conflicts_not (head_of state request.line) h (hart_of state h) none in
    let e = sym (ap (λ meets. meets && is_before request.stamp (hart_of state h).attempt) unmet) ∙ loses in absurd (cc)
  where
    conflicts_not : (head : Option Request) (h : ℕ) (hart : Hart) → hart.section ≡ None →
        conflicts_with head h hart ≡ false
    conflicts_not None h hart none = refl
    conflicts_not (Some head) h hart none =
        ap (λ section. (not (head.hart == h) && is_some section) && meets_bit hart head.line head.need) none
        ∙ false_between (not (head.hart == h)) (meets_bit hart head.line head.need)

pub loser_lives : (state : ModelState) (by : ℕ) {start : Start} {h winner : ℕ} {stamp : Option Stamp} →
    LosesWhere state by start h winner stamp →
    section_of state h ≡ None → ⊥
loser_lives state by (AtFace start head h winner is apart fate) none =
    let mid = as_faced state by start head in
    let outside =
    ap (λ standing. standing.section) (stands state by start h (freed_becomes_at state by start head is h))
    ∙ none in
    let e = sym (outside_is_unmet mid head h (hart_of mid h) outside) ∙ fate in
    absurd (cc)
loser_lives state by (AtProbe origin others request is loses) none = no_loss state by request none loses

lost_none : (state : ModelState) (by : ℕ) (start : Start) (h : ℕ) {lost : Option ℕ} {hart : Hart} →
    section_of state h ≡ None →
    Becomes state by start h lost hart → lost ≡ None
lost_none state by start h none (IsAbsent past) = refl
lost_none state by start h none (Starts below) = refl
lost_none state by start h none (IsSent message lost hart sent now) = lost_none state by start h none now
lost_none state by start h none (IsLetGo head hart frees now) = refl
lost_none state by start h none (Sees head lost hart defers now) = lost_none state by start h none now
lost_none state by start h none (LosesIt winner stamp hart loses now) = absurd (loser_lives state by loses none)

pub unnamed_outside : {state : ModelState} {by : ℕ} {turn : Turn} → IsBusEvent state by turn → (g : ℕ) →
    section_of state g ≡ None →
    winner_over turn.outcome g ≡ None
unnamed_outside {state} {by} done g none =
    done.names g ∙ unnamed_by_map done.lost g (lost_none state by done.start g none (done.becomes g))

pub stays_outside : {state : ModelState} {by : ℕ} {turn : Turn} → IsBusEvent state by turn → (g : ℕ) →
    section_of state g ≡ None →
    section_of turn.state g ≡ None
stays_outside {state} {by} done g none =
    ap (λ standing. standing.section)
    (stands state by done.start g (done.becomes g)
    ∙ ap (λ lost. restored state.config.mode lost (standing_of (hart_of state g)))
    (lost_none state by done.start g none (done.becomes g)))
    ∙ none
