-- a lent cache is given back: the bus is ready again, and shows what was done
use Rattle.std.proofs.Common.{◌≡◌, ◌≢◌, ◌∙◌, ℕ, ◌<◌, ◌==◌, List, false, true, not, length, ap, sym, subst}
use Rattle.std.proofs.Common.{inl, inr, arith}
use Rattle.std.specs.Prelude.{slice_set}
use Rattle.std.proofs.lemmas.Bool.{cases_eq}
use Rattle.std.proofs.lemmas.List.{get_or-set_other, get_or-set_same, length-set}
use Rattle.bus_agent.specs.Agent.{agent_at, agent_of}
use Rattle.bus_order.specs.Order.{Request, request_of}
use Rattle.residency.specs.Cache.{has_marks, room_of, touched}
use Rattle.cache_sets.specs.Cached.{Cached}
use Rattle.cache_sets.specs.Slotted.{IsLent, Slotted, lent}
use Rattle.cache_sets.specs.Calls.{IsLettered, IsTouched}
use Rattle.residency.specs.WellFormed.{IsWellFormed}
use Rattle.residency.proofs.Laws.Unmarked.{unmarked-lettered, unmarked-touched}
use Rattle.residency.proofs.Laws.WellFormedLemmas.{well_formed-lettered, well_formed-touched}
use Rattle.coherence.specs.Caches.{AreCoherent}
use Rattle.coherence.specs.GivenBack.{copies_with}
use Rattle.coherence.specs.Lent.{LeavesOwner, no_slotted, slotted_at}
use Rattle.coherence.specs.Served.{TellsOf}
use Rattle.coherence.proofs.Laws.Offered.{caches_back, lent_back}
use Rattle.el_base.specs.declared.config.Mode.TheVariants.{Plain}
use Rattle.el_model.specs.Plain.{armed_count}
use Rattle.el_model.specs.State.{Hart, ModelState, armed_of, hart_of}
use Rattle.el_model.proofs.Laws.Harts.{hart_of-with_hart_other, hart_of-with_hart_same}
use Rattle.line_pool.specs.Pooled.{Pooled}
use Rattle.moesi.specs.declared.letter.Letter.TheVariants.{M}
use Rattle.rv_flat.specs.FlatState.{FlatState}
use Rattle.snoop.proofs.Laws.Living.{TellsSection, tells}
use Rattle.snoop.specs.Asking.{HasNoRequest}
use Rattle.snoop.specs.Returned.{IsReturned, IsReturnedAs, returned, state_with}
use Rattle.snoop.specs.Shows.{CanBeServed, IsReady, BusState, Shows, Tells, has_room_in, lent_copies, lives}
use Rattle.el_base.proofs.Laws.Cases.{none_some}

-- the caches after one was given back
returned_same : (bus : BusState) (h : ℕ) (cache : Slotted) → h < length bus.copies.caches →
    slotted_at (returned bus h cache).copies.caches h ≡ cache
returned_same bus h cache inside = get_or-set_same bus.copies.caches h cache no_slotted inside

returned_other : (bus : BusState) (h g : ℕ) (cache : Slotted) → g ≢ h →
    slotted_at (returned bus h cache).copies.caches g ≡ slotted_at bus.copies.caches g
returned_other bus h g cache other = get_or-set_other bus.copies.caches h g cache no_slotted other

count_returned : (bus : BusState) (h : ℕ) (cache : Slotted) →
    length (returned bus h cache).copies.caches ≡ length bus.copies.caches
count_returned bus h cache = length-set bus.copies.caches h cache

pub ready_returned : (bus : BusState) (h : ℕ) (cache : Slotted) → h < length bus.copies.caches → IsReady bus →
    IsReturned bus h cache → IsReady (returned bus h cache)
ready_returned bus h cache inside ready back = record {
  few = ready.few;
  each = count_returned bus h cache ∙ ready.each;
  well_formed = λ g below. elim (cases_eq g h) [
    | inl own ↦
        subst (λ c. IsWellFormed c.ways c.residency)
        (sym (ap (slotted_at (returned bus h cache).copies.caches) own ∙ returned_same bus h cache inside))
        back.well_formed
    | inr other ↦
        subst (λ c. IsWellFormed c.ways c.residency) (sym (returned_other bus h g cache other))
        (ready.well_formed g (omega (arith, below, count_returned bus h cache)))
  ];
  raised = λ g request is. elim (cases_eq g h) [
    | inl own ↦
        still g request (ready.raised g request is)
        (own_room g request own (back.raised request (ap (λ k. (agent_at bus.agents k).raised) (sym own) ∙ is)))
    | inr other ↦ still g request (ready.raised g request is)
        (other_room g request other (ready.raised g request is).room)
  ];
  ordered = λ g request is. elim (cases_eq g h) [
    | inl own ↦
        still g request (ready.ordered g request is)
        (own_room g request own (back.ordered request (ap (request_of bus.order) (sym own) ∙ is)))
    | inr other ↦ still g request (ready.ordered g request is)
        (other_room g request other (ready.ordered g request is).room)
  ];
  once = ready.once;
  one_request = ready.one_request;
  few_armed = ready.few_armed;
  unmarked = λ plain g. elim (cases_eq g h) [
    | inl own ↦
        subst (λ (c : Slotted). has_marks c.residency ≡ false)
        (sym (ap (slotted_at (returned bus h cache).copies.caches) own ∙ returned_same bus h cache inside))
        (back.unmarked plain)
    | inr other ↦
        subst (λ (c : Slotted). has_marks c.residency ≡ false) (sym (returned_other bus h g cache other))
        (ready.unmarked plain g)
  ];
}
  where
    still : (g : ℕ) (request : Request) → CanBeServed bus g request →
        has_room_in (returned bus h cache).copies g request.line ≡ true → CanBeServed (returned bus h cache) g request
    still g request can room =
        record { own = can.own; hart_exists = can.hart_exists; in_memory = can.in_memory; room = room }

    own_room : (g : ℕ) (request : Request) → g ≡ h → room_of cache.ways cache.residency request.line ≡ true →
        has_room_in (returned bus h cache).copies g request.line ≡ true
    own_room g request own room =
        ap (λ c. room_of c.ways c.residency request.line)
        (ap (slotted_at (returned bus h cache).copies.caches) own ∙ returned_same bus h cache inside) ∙ room

    other_room : (g : ℕ) (request : Request) → g ≢ h → has_room_in bus.copies g request.line ≡ true →
        has_room_in (returned bus h cache).copies g request.line ≡ true
    other_room g request other room =
        ap (λ c. room_of c.ways c.residency request.line) (returned_other bus h g cache other) ∙ room

-- a line that was touched and got the letter M leaves its cache well formed
pub well_formed_by_calls : (old between new : Cached) (line : ℕ) → IsWellFormed old.ways old.residency →
    IsTouched old between line → IsLettered between new line M → IsWellFormed new.ways new.residency
well_formed_by_calls old between new line well_formed touches letters =
    rw (letters.ways, letters.residency, touches.ways, touches.residency)
    (well_formed-lettered old.ways (touched old.residency line) line M (λ same. cc)
    (well_formed-touched old.ways old.residency line well_formed))

-- and one without bits as it was
pub unmarked_by_calls : (old between new : Cached) (line : ℕ) → has_marks old.residency ≡ false →
    IsTouched old between line → IsLettered between new line M → has_marks new.residency ≡ false
unmarked_by_calls old between new line none touches letters =
    rw (letters.residency, touches.residency)
    (unmarked-lettered (touched old.residency line) line M (unmarked-touched old.residency line none))

-- a hart that waits for nothing gives back a cache
pub unasked_returned : (bus : BusState) (h : ℕ) (cache : Slotted) → HasNoRequest bus h →
    IsWellFormed cache.ways cache.residency → (bus.mode ≡ Plain → has_marks cache.residency ≡ false) →
    IsReturned bus h cache
unasked_returned bus h cache no_request well_formed unmarked = record {
  well_formed = well_formed;
  raised = λ request is. none_some (sym no_request.none_raised ∙ is);
  ordered = λ request is. none_some (sym no_request.none_ordered ∙ is);
  unmarked = unmarked;
}

-- what a pool and the caches tell after a hart's cache was changed in it, which left those of the other harts
pub told_returned : (old new : Pooled) (bus : BusState) (h : ℕ) (cache : Slotted) (bytes told : ℕ → List ℕ) →
    Tells old bus bytes → h < length bus.copies.caches → cache.owner ≡ (slotted_at bus.copies.caches h).owner →
    IsLent new cache → ((g : ℕ) → g ≢ h → g < length bus.copies.caches → LeavesOwner g old new) →
    TellsOf (copies_with (lent_copies old bus.copies) h (lent new cache)) told → Tells new (returned bus h cache) told
told_returned old new bus h cache bytes told tells inside owner kept leaves is = record {
  lent = lent_back old new bus.copies.caches h cache tells.lent leaves (owner ∙ tells.lent.owned h inside) kept;
  told = subst (λ caches. AreCoherent told bus.copies.first bus.copies.lines caches)
      (sym (caches_back old new bus.copies.caches h cache tells.lent leaves)) is;
}

pub shows_returned : (bus : BusState) (state : ModelState) (h : ℕ) (cache : Slotted) (hart : Hart)
    (committed : FlatState) → h < length bus.copies.caches → Shows bus state →
    IsReturnedAs bus state h cache hart committed → Shows (returned bus h cache) (state_with state h hart committed)
shows_returned bus state h cache hart committed inside shows back = record {
  mode = shows.mode;
  ways = λ g below. elim (cases_eq g h) [
    | inl own ↦ ap (λ c. c.ways) (own_cache g own) ∙ back.ways ∙ shows.ways h (omega (arith, inside, shows.cache_each))
    | inr other ↦ ap (λ c. c.ways) (returned_other bus h g cache other)
        ∙ shows.ways g (omega (arith, below, same_harts))
  ];
  agent_each = shows.agent_each ∙ sym same_harts;
  cache_each = count_returned bus h cache ∙ shows.cache_each ∙ sym same_harts;
  agents = λ g. shows.agents g ∙ elim (cases_eq g h) [
    | inl own ↦ ap (λ k. agent_of (hart_of state k)) own ∙ sym back.agent ∙ ap agent_of (sym (own_hart g own))
    | inr other ↦ ap agent_of (sym (hart_of-with_hart_other state h g hart other))
  ];
  caches = λ g. elim (cases_eq g h) [
    | inl own ↦ ap (λ c. c.residency) (own_cache g own) ∙ sym back.residency ∙ ap (λ k. k.cache) (sym (own_hart g own))
    | inr other ↦ ap (λ c. c.residency) (returned_other bus h g cache other) ∙ shows.caches g
        ∙ ap (λ k. k.cache) (sym (hart_of-with_hart_other state h g hart other))
  ];
  live = λ g. (all_told g).live;
  arms = λ g. (all_told g).arms;
  order = shows.order;
  memory = record { first = back.memory.first; lines = back.memory.lines };
}
  where
    same_harts : length (slice_set state.harts h hart) ≡ length state.harts
    same_harts = length-set state.harts h hart

    own_cache : (g : ℕ) → g ≡ h → slotted_at (returned bus h cache).copies.caches g ≡ cache
    own_cache g own = ap (slotted_at (returned bus h cache).copies.caches) own ∙ returned_same bus h cache inside

    own_hart : (g : ℕ) → g ≡ h → hart_of (state_with state h hart committed) g ≡ hart
    own_hart g own =
        ap (hart_of (state_with state h hart committed)) own
        ∙ hart_of-with_hart_same state h hart (omega (arith, inside, shows.cache_each))

    same_count : armed_count hart.armed ≡ armed_count (armed_of state h)
    same_count = ap (λ agent. agent.armed) back.agent

    told : TellsSection hart
    told = record {
      live = back.live ∙ ap (λ cache. lives cache (armed_count hart.armed)) (sym back.residency);
      arms = back.armed ∙ shows.arms h ∙ ap (λ n. not (n == 0)) (sym same_count);
    }

    all_told : (g : ℕ) → TellsSection (hart_of (state_with state h hart committed) g)
    all_told g = elim (cases_eq g h) [
      | inl own ↦ subst TellsSection (sym (own_hart g own)) told
      | inr other ↦ subst TellsSection (sym (hart_of-with_hart_other state h g hart other)) (tells shows g)
    ]
