-- a face, as the bus shows it and as it is ready after it
use Rattle.std.proofs.Common.{◌≡◌, ◌≢◌, ◌∙◌, ℕ, ◌<◌, cond, List, length, refl, ap, sym, subst, arith, inl, inr}
use Rattle.std.proofs.lemmas.Bool.{cases_eq}
use Rattle.bus_agent.specs.Agent.{agent_at, agent_of}
use Rattle.bus_order.specs.Order.{Request}
use Rattle.coherence.specs.Lent.{slotted_at}
use Rattle.el_base.specs.Losers.{losers_of}
use Rattle.el_base.proofs.Laws.Tests.{other_test, own_test}
use Rattle.el_model.specs.Face.{after_fate, fate_at, face_losers, fate_of, faced, faced_hart, markers_for, winner_in}
use Rattle.el_model.specs.State.{Hart, ModelState, cache_of, each_hart, hart_of, post_all}
use Rattle.snoop.proofs.AfterFate.{fate_agent, fate_cache, fate_tells, loser_unarmed, own_unmet, post_all_armed}
use Rattle.snoop.proofs.AfterFate.{post_all_cache, post_all_section}
use Rattle.snoop.proofs.Changes.{any_ways, changed_ready}
use Rattle.snoop.proofs.Laws.Living.{TellsSection, tells, tells_yet}
use Rattle.snoop.proofs.Sent.{head_posted, others_posted, posted_count, sent_ready}
use Rattle.snoop.proofs.Showing.{ShowsEach, lies_yet, shows_each}
use Rattle.snoop.specs.Changing.{cleared_if}
use Rattle.snoop.specs.Fates.{fate_in}
use Rattle.snoop.specs.Settled.{AreSettledBelow, loses, sent_in, settled_agent}
use Rattle.snoop.specs.Shows.{IsReady, BusState, Shows}
use Rattle.snoop.specs.declared.fates.Fate as fates

-- the hart of the head, and another one
own_hart : (state : ModelState) (head : Request) (hart : Hart) →
    faced_hart state head head.hart hart ≡ post_all hart (markers_for state.config.mode state head)
own_hart state head hart =
    ap
    (λ own. cond own (post_all hart (markers_for state.config.mode state head))
    (after_fate state head (fate_of state head head.hart hart) hart))
    (own_test head.hart)

other_hart : (state : ModelState) (head : Request) (h : ℕ) (hart : Hart) → h ≢ head.hart →
    faced_hart state head h hart ≡ after_fate state head (fate_of state head h hart) hart
other_hart state head h hart other =
    ap
    (λ own. cond own (post_all hart (markers_for state.config.mode state head))
    (after_fate state head (fate_of state head h hart) hart))
    (other_test h head.hart other)

-- a hart and its cache as the head has been faced
faced_each : (head : Request) (known : List fates.Fate) (old mid : BusState) (state : ModelState) →
    length known ≡ length old.agents → AreSettledBelow head (fate_in known) (length known) old mid → Shows old state →
    ((h : ℕ) → fate_in known h ≡ fate_at state head h) →
    ShowsEach old (record mid { agents = sent_in mid.mode known head.hart mid.agents }) state (faced_hart state head)
faced_each head known old mid state count settled shows is = record {
  mode = settled.mode;
  agent_each = posted_count mid.mode known head.hart mid.agents ∙ settled.count;
  cache_each = settled.stays.caches;
  ways = any_ways settled;
  agents = λ h below. elim (cases_eq h head.hart) [
    | inl own ↦ rw own (own_agent (subst (λ k. k < length old.agents) own below))
    | inr other ↦
        others_posted mid.mode known head.hart mid.agents h other
        ∙ had_fate h (omega (arith, below, count))
        ∙ sym (fate_agent state head (fate_at state head h) (hart_of state h)
        (loser_unarmed state head h (hart_of state h) (tells shows h)))
        ∙ ap agent_of (sym (other_hart state head h (hart_of state h) other))
  ];
  caches = λ h below. elim (cases_eq h head.hart) [
    | inl own ↦ rw own (own_cache (subst (λ k. k < length old.agents) own below))
    | inr other ↦
        has_cache h (omega (arith, below, count))
        ∙ sym (fate_cache state head (fate_at state head h) (hart_of state h))
        ∙ ap (λ hart. hart.cache) (sym (other_hart state head h (hart_of state h) other))
  ];
  told = λ h below. elim (cases_eq h head.hart) [
    | inl own ↦ rw own own_told
    | inr other ↦
        subst TellsSection (sym (other_hart state head h (hart_of state h) other))
        (fate_tells state head (fate_at state head h) (hart_of state h) (tells shows h))
  ];
  memory = lies_yet old.copies mid.copies state.committed settled.stays.first settled.stays.lines shows.memory;
}
  where
    had_fate : (h : ℕ) → h < length known →
        agent_at mid.agents h
        ≡ settled_agent (record old { mode = state.config.mode; order = state.order }) head (fate_at state head h)
        (agent_of (hart_of state h))
    had_fate h below =
        settled.agents h below
        ∙ ap (settled_agent old head (fate_in known h)) (shows.agents h)
        ∙ ap (λ fate. settled_agent old head fate (agent_of (hart_of state h))) (is h)
        ∙ ap (λ mode. settled_agent (record old { mode = mode }) head (fate_at state head h)
        (agent_of (hart_of state h))) shows.mode
        ∙ ap
        (λ order. settled_agent (record old { mode = state.config.mode; order = order }) head (fate_at state head h)
        (agent_of (hart_of state h)))
        shows.order

    has_cache : (h : ℕ) → h < length known →
        (slotted_at mid.copies.caches h).residency ≡ cleared_if (loses (fate_at state head h)) (cache_of state h)
    has_cache h below =
        (settled.caches h below).residency
        ∙ ap (cleared_if (loses (fate_in known h))) (shows.caches h)
        ∙ ap (λ fate. cleared_if (loses fate) (cache_of state h)) (is h)

    own_agent : head.hart < length old.agents →
        agent_at (sent_in mid.mode known head.hart mid.agents) head.hart
        ≡ agent_of (faced_hart state head head.hart (hart_of state head.hart))
    own_agent inside =
        head_posted mid.mode state head known mid.agents (hart_of state head.hart) (count ∙ shows.agent_each) is
        (omega (arith, inside, settled.count))
        (had_fate head.hart (omega (arith, inside, count))
        ∙ ap
        (λ fate. settled_agent (record old { mode = state.config.mode; order = state.order }) head fate
        (agent_of (hart_of state head.hart)))
        (own_unmet state head (hart_of state head.hart)))
        ∙ ap (λ mode. agent_of (post_all (hart_of state head.hart) (markers_for mode state head)))
        (settled.mode ∙ shows.mode)
        ∙ ap agent_of (sym (own_hart state head (hart_of state head.hart)))

    own_cache : head.hart < length old.agents →
        (slotted_at mid.copies.caches head.hart).residency
        ≡ (faced_hart state head head.hart (hart_of state head.hart)).cache
    own_cache inside =
        has_cache head.hart (omega (arith, inside, count))
        ∙ ap (λ fate. cleared_if (loses fate) (cache_of state head.hart))
        (own_unmet state head (hart_of state head.hart))
        ∙ sym (post_all_cache (hart_of state head.hart) (markers_for state.config.mode state head))
        ∙ ap (λ hart. hart.cache) (sym (own_hart state head (hart_of state head.hart)))

    own_told : TellsSection (faced_hart state head head.hart (hart_of state head.hart))
    own_told =
        let messages = markers_for state.config.mode state head in
        let hart = hart_of state head.hart in
        subst TellsSection (sym (own_hart state head hart))
        (tells_yet hart (post_all hart messages) (post_all_section hart messages) (post_all_armed hart messages)
        (post_all_cache hart messages)
        (tells shows head.hart))

pub faced_shows : (head : Request) (known : List fates.Fate) (old mid : BusState) (state : ModelState) →
    length known ≡ length old.agents → AreSettledBelow head (fate_in known) (length known) old mid → Shows old state →
    ((h : ℕ) → fate_in known h ≡ fate_at state head h) →
    Shows (record mid { agents = sent_in mid.mode known head.hart mid.agents }) (faced state head)
unfolding faced
faced_shows head known old mid state count settled shows is =
    let new = record mid { agents = sent_in mid.mode known head.hart mid.agents } in
    subst (λ order. Shows new (record (each_hart state (faced_hart state head)) { order = order }))
    (settled.order ∙ shows.order)
    (shows_each old new state (faced_hart state head) shows
    (faced_each head known old mid state count settled shows is))

-- it stays ready
pub faced_ready : (head : Request) (known : List fates.Fate) (old mid : BusState) →
    AreSettledBelow head (fate_in known) (length known) old mid → IsReady old →
    IsReady (record mid { agents = sent_in mid.mode known head.hart mid.agents })
faced_ready head known old mid settled ready =
    sent_ready mid known head.hart (changed_ready settled (λ h agent. refl) (λ h agent few. few) ready)

-- the losers that the code tells are the definition's
pub faced_losers : (head : Request) (known : List fates.Fate) (state : ModelState) →
    ((h : ℕ) → fate_in known h ≡ fate_at state head h) →
    losers_of (λ h. winner_in (fate_in known h)) ≡ face_losers state head
unfolding face_losers
faced_losers head known state is = λ i. losers_of (λ h. winner_in (is h i))
