-- what comes of the facts: the least stamp never loses, later attempts are later than all that their hart waited for,
-- and a head that nothing is in the way of is served
use Rattle.std.proofs.Common.{◌≡◌, ◌∙◌, ◌==◌, ◌&&◌, ℕ, true, false, not, Option, None, Some, refl, ap, sym, inl, inr}
use Rattle.std.proofs.Common.{◌⊎◌, arith, subst, if◌then◌else◌}
use Rattle.std.proofs.lemmas.Bool.{cases_eq}
use Rattle.std.proofs.lemmas.Option.{same_Some}
use Rattle.bus_order.specs.Order.{Request}
use Rattle.bus_order.proofs.Laws.Queues.{request_of_first_of}
use Rattle.el_base.specs.declared.events.Event.{Event}
use Rattle.el_base.specs.declared.events.Kind.{Kind}
use Rattle.el_base.specs.declared.events.Kind.TheVariants as kinds
use Rattle.el_base.specs.declared.outcomes.Why.TheVariants.{Behind, Locked, Retained}
use Rattle.el_model.specs.Conflicts.{holder_of, retainer_of, retains}
use Rattle.el_base.specs.Winners.{winner_over}
use Rattle.el_base.proofs.Laws.Cases.{clash, some_none}
use Rattle.el_base.proofs.Laws.Tests.{number_of_test, own_test, second_of_both}
use Rattle.el_model.specs.Next.{after, kind_turn, next}
use Rattle.el_model.specs.Serve.{Free, Obstacle, blocks_if, obstacle_to, other_head, serve_ordered, serve_past}
use Rattle.el_model.specs.Serve.{serve_turn}
use Rattle.el_model.specs.State.{ModelState, hart_of, head_of, is_held, numbers_of, ordered_of, section_of}
use Rattle.el_model.proofs.Laws.BusEvents.{by_event}
use Rattle.el_model.proofs.Laws.Orders.{head_line}
use Rattle.el_model.proofs.Laws.Conflicts.{first_passes, none_first}
use Rattle.removal_laws.specs.Facts.{Everywhere, Facts}
use Rattle.removal_laws.specs.Laws.{HasLeast, HeadIsServed, IsLocked, LaterThanDeferredHeads, LaterThanWinners}
use Rattle.removal_laws.specs.Laws.{LeastStampNeverLoses, LosesToEarlier}
use Rattle.removal_laws.specs.Laws.{attempt_of, is_served}
use Rattle.removal_laws.proofs.Laws.Beating.{next_beats, same_attempts, step_names}
use Rattle.removal_laws.proofs.Laws.Climbing.{least_stamp_is_not_retained}
use Rattle.removal_laws.proofs.Laws.Clocks.{later_from}
use Rattle.removal_laws.proofs.Grounds.{Grounds, facts_of}
use Rattle.removal_laws.proofs.Laws.Throughout.{always_holds, next_holds}
use Rattle.section_laws.specs.Waiting.{OnlyHolds}
use Rattle.section_laws.proofs.Laws.EachKept.{turn_keeps}
use Rattle.section_laws.proofs.Laws.Waiting.{Sound}
use Rattle.stamp.specs.Stamps.{Stamp, is_before, less_of}
use Rattle.stamp.proofs.Laws.StampOrder.{less_strict}

-- an event that names a winner opens and closes no attempt
attempts_stay : (state : ModelState) (event : Event) (g winner : ℕ) →
    winner_over (next state event).outcome g ≡ Some winner → (k : ℕ) →
    attempt_of (next state event).state k ≡ attempt_of state k
attempts_stay state event g winner =
    by_event (λ turn. winner_over turn.outcome g ≡ Some winner → (k : ℕ) → attempt_of turn.state k ≡ attempt_of state k)
    state event
    (λ step lost. step_names state event.hart.number g winner lost)
    (λ turn done lost. turn_keeps (same_attempts state) done (λ i. refl))

-- the least stamp comes after none
least_after_none : {X : Type 0} (state : ModelState) (h winner : ℕ) (stamp : Stamp) (won : Option Stamp) →
    HasLeast state h stamp → attempt_of state winner ≡ won → is_before won (Some stamp) ≡ true → X
least_after_none state h winner stamp None least is less = absurd (cc)
least_after_none state h winner stamp (Some other) least is less = by (cases_eq winner h)
  where
    by : {X : Type 0} → (winner ≡ h) ⊎ (winner ≡ h → ⊥) → X
    by (inl same) =
        let e : stamp ≡ other = same_Some _ _ (sym least.attempt ∙ ap (attempt_of state) (sym same) ∙ is) in
        clash (less_strict.irreflexive stamp) (subst (λ s. less_of s stamp ≡ true) (sym e) less)
    by (inr apart) = clash (less_strict.asymmetric stamp other (least.least winner other apart is)) less

least_loses_not : {X : Type 0} (state new : ModelState) (h winner : ℕ) (stamp : Stamp) → Facts Everywhere new →
    ((k : ℕ) → attempt_of new k ≡ attempt_of state k) → HasLeast state h stamp → LosesToEarlier new h winner → X
least_loses_not state new h winner stamp facts same least lost =
    let its = facts.stamped.ordered winner lost.request lost.waits in
    least_after_none state h winner stamp (attempt_of state winner) least refl
    (subst (λ s. is_before s (Some stamp) ≡ true) (its ∙ same winner)
    (subst (λ s. is_before lost.request.stamp s ≡ true) (same h ∙ least.attempt) lost.earlier))

pub least_stamp_never_loses : LeastStampNeverLoses
least_stamp_never_loses program config events event h stamp mode least =
    by (winner_over (next (after program config events) event).outcome h) refl
  where
    by : (winner : Option ℕ) → winner_over (next (after program config events) event).outcome h ≡ winner →
        winner_over (next (after program config events) event).outcome h ≡ None
    by None is = is
    by (Some winner) is =
        let state = after program config events in
        let now = always_holds program config events mode in
        let later = next_holds state event now in
        least_loses_not state (next state event).state h winner stamp
        (facts_of (next state event).state later.grounds later.standing)
        (attempts_stay state event h winner is) least
        (next_beats state event now.grounds.opened.mode now.grounds.once h winner is)

-- later attempts
pub later_than_winners : LaterThanWinners
later_than_winners program config events between afterwards event closing g winner request stamp later mode lost waits
    stamp_is closed is =
    let state = after program config events in
    let now = always_holds program config events mode in
    let new = next_holds state event now in
    let beats = next_beats state event now.grounds.opened.mode now.grounds.once g winner lost in
    let same : beats.request ≡ request = same_Some _ _ (sym beats.waits ∙ waits) in
    let saw = beats.seen stamp (ap (λ r. r.stamp) same ∙ stamp_is) in
    let later_is =
    (later_from (next state event).state between afterwards closing g later new.grounds.own new.grounds.opened closed
    is).than_seen in
    omega (arith, saw, later_is)

pub later_than_deferred_heads : LaterThanDeferredHeads
later_than_deferred_heads program config events between afterwards closing g line head stamp later mode retained is_head
    stamp_is closed is =
    let state = after program config events in
    let now = always_holds program config events mode in
    let saw = (now.standing.retaining.may g line tt retained).seen head stamp is_head stamp_is in
    let later_is =
    (later_from state between afterwards closing g later now.grounds.own now.grounds.opened closed is).than_seen in
    omega (arith, saw, later_is)

-- where nothing but a hold is in the way
abbrev ServedOrLocked : ModelState → Request → Obstacle → Type 0
ServedOrLocked state head obstacle =
    (is_served (serve_past state head obstacle).outcome ≡ true) ⊎ IsLocked state head.line
    (serve_past state head obstacle).outcome

-- a hold is of one line
pub held_is : (held : Option ℕ) (line : ℕ) → is_held held line ≡ true → held ≡ Some line
held_is None line is = absurd (cc)
held_is (Some held) line is = ap Some (number_of_test held line is)

locked_by : (state : ModelState) (head : Request) (holder : Option ℕ) → Sound state →
    holder_of state head.hart head.line ≡ holder → ServedOrLocked state head (blocks_if Locked holder Free)
locked_by state head None sound is = inl refl
locked_by state head (Some holder) sound is =
    let test =
    first_passes (λ other. not (other == head.hart) && is_held (hart_of state other).held_line head.line)
    (numbers_of state) holder is in
    let holds =
    held_is (hart_of state holder).held_line head.line (second_of_both (not (holder == head.hart)) _ test) in
    inr (record { holder = holder; outcome_is = refl; holds = holds; outside = by holds (sound holder).only_holds })
  where
    by : (hart_of state holder).held_line ≡ Some head.line → ((hart_of state holder).held_line ≡ None)
        ⊎ OnlyHolds (ordered_of state holder) (hart_of state holder).section (hart_of state holder).raised →
        section_of state holder ≡ None
    by holds (inl none) = some_none (sym holds ∙ none)
    by holds (inr only) = only.no_section

head_served : (state : ModelState) (head : Request) → Grounds state → head_of state head.line ≡ Some head →
    ((g : ℕ) → retains state g head.line ≡ false) →
    (is_served (serve_turn state head.hart).outcome ≡ true) ⊎ IsLocked state head.line
    (serve_turn state head.hart).outcome
unfolding serve_turn
head_served state head grounds first kept =
    let ordered = request_of_first_of state.order head.line head grounds.once.once first in
    let own : other_head head.hart (head_of state head.line) ≡ None =
    ap (other_head head.hart) first ∙ ap (λ b. if b then None else Some head.hart) (own_test head.hart) in
    let none : retainer_of state head.line ≡ None =
    none_first (λ g. retains state g head.line) (numbers_of state) kept in
    let locked = blocks_if Locked (holder_of state head.hart head.line) Free in
    let obstacle : obstacle_to state head ≡ locked =
    ap (λ b. blocks_if Behind b (blocks_if Retained (retainer_of state head.line) locked)) own
    ∙ ap (λ b. blocks_if Retained b locked) none in
    subst
    (λ found. (is_served (serve_ordered state found).outcome ≡ true) ⊎ IsLocked state head.line
    (serve_ordered state found).outcome) (sym ordered)
    (subst (ServedOrLocked state head) (sym obstacle)
    (locked_by state head (holder_of state head.hart head.line) grounds.once.sound refl))

serve_kind : (state : ModelState) (line h : ℕ) (kind : Kind) → kind ≡ kinds.Serve →
    (is_served (serve_turn state h).outcome ≡ true) ⊎ IsLocked state line (serve_turn state h).outcome →
    (is_served (kind_turn state h kind).outcome ≡ true) ⊎ IsLocked state line (kind_turn state h kind).outcome
serve_kind state line h kinds.Serve is now = now
serve_kind state line h kinds.Step is now = absurd (cc)
serve_kind state line h kinds.Order is now = absurd (cc)
serve_kind state line h kinds.Deliver is now = absurd (cc)

pub head_is_served : HeadIsServed
unfolding next
head_is_served program config events event h line request head mode waits delivered first kind own =
    let state = after program config events in
    let line_is = head_line state line head first in
    let served =
    head_served state head (always_holds program config events mode).grounds (ap (head_of state) line_is ∙ first)
    (λ g. ap (retains state g) line_is ∙ least_stamp_is_not_retained program config events h g line request mode
    waits delivered) in
    serve_kind state line event.hart.number event.kind kind
    (subst (λ k. (is_served (serve_turn state k).outcome ≡ true) ⊎ IsLocked state line (serve_turn state k).outcome)
    (sym own)
    (subst (λ l. (is_served (serve_turn state head.hart).outcome ≡ true)
    ⊎ IsLocked state l (serve_turn state head.hart).outcome) line_is served))
