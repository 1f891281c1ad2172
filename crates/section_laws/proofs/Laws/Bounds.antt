-- every event keeps the caches within the bounds of the configuration
use Rattle.std.proofs.Common.{◌≡◌, ◌∙◌, ℕ, zero, suc, ◌≤◌, ◌<◌, ◌||◌, Bool, true, false, List, [], ◌∷◌, Option, None}
use Rattle.std.proofs.Common.{Some, is_some, length}
use Rattle.std.proofs.Common.{replicate, refl, ap, sym, subst, inl, inr, ◌⊎◌, arith}
use Rattle.std.specs.Prelude.{nat_lt, slice_index_or}
use Rattle.std.proofs.lemmas.Bool.{ltb-true, ltb-false}
use Rattle.std.proofs.lemmas.Bool.Decides.{nat_tests}
use Rattle.std.specs.List.{count_by}
use Rattle.std.proofs.lemmas.List.{length-replicate}
use Rattle.std.proofs.lemmas.List.Sums.{sum_by-cons}
use Rattle.std.proofs.lemmas.Option.{same_Some}
use Rattle.bus_order.specs.Order.{Request, removed, request_of}
use Rattle.bus_order.proofs.Laws.LookUps.{request_of_removed_other, request_of_removed_own}
use Rattle.bus_order.proofs.Laws.Queues.{hart_of_request_of}
use Rattle.residency.specs.Cache.{cleared, has_marks, write_bits_of}
use Rattle.residency.specs.Cache.{marks_of}
use Rattle.residency.specs.Residency.{Way, is_marked}
use Rattle.residency.proofs.Laws.MarkLemmas.{has_marks-counted, mark_of, one_if}
use Rattle.residency.proofs.Laws.Rooms.{room_without_marks}
use Rattle.el_base.specs.Config.{IsInRange, allows}
use Rattle.el_base.specs.declared.config.Config.{Config}
use Rattle.el_base.specs.declared.config.ConfigFault.TheVariants.{Sets}
use Rattle.el_base.specs.declared.events.Event.{Event}
use Rattle.el_base.specs.declared.outcomes.Need.{Need}
use Rattle.el_base.specs.declared.outcomes.Need.TheVariants.{Read, Write}
use Rattle.el_base.proofs.Laws.Ranges.{at_least, ranges}
use Rattle.el_base.proofs.Laws.Cases.{none_some, not_both, some_none}
use Rattle.elf_image.specs.Program.{Program}
use Rattle.el_model.specs.BusEvent.{IsBusEvent, Nothing, Places, Serves, Start, StartsWhere, Takes, having_taken}
use Rattle.el_model.specs.BusEvent.{order_after, order_at, started}
use Rattle.el_model.specs.Deed.{Arms, Begins, Buffers, Commits, Continues, Deed, DoesWhere, Elides, HasRoom}
use Rattle.el_model.specs.Deed.{IsCoverable, LetsGo, Misses, Rests}
use Rattle.el_model.specs.Deed.{RollsBack, Runs, Waits, hart_after}
use Rattle.el_model.specs.InSection.{is_full}
use Rattle.el_model.specs.Next.{after, next, step_turn}
use Rattle.el_model.specs.Plain.{after_candidate, candidate_of}
use Rattle.el_model.specs.Serve.{bystander, others_have, served_hart, with_claim}
use Rattle.el_model.specs.State.{Hart, ModelState, Section, Turn, begin, cache_of, hart_of, new_hart, ordered_of}
use Rattle.el_model.specs.State.{raised_of}
use Rattle.el_model.specs.Upcoming.{Swap, Touch}
use Rattle.el_model.proofs.Laws.BusEvents.{by_event}
use Rattle.el_model.proofs.Laws.Deeds.{is_rolled, step_deed}
use Rattle.el_model.proofs.Laws.FromStart.{after_config, kept_after, next_config}
use Rattle.el_model.proofs.Laws.Harts.{hart_of-past}
use Rattle.el_model.proofs.Laws.Tests.{by_hart}
use Rattle.section_laws.specs.Bounds.{CachesAreShaped, WaitingLinesHaveRoom, WaitingWritesAreSpared, WaitsWith}
use Rattle.section_laws.specs.Bounds.{WrittenLinesAreFew}
use Rattle.section_laws.proofs.Bounded.{HasPlace, HasSome, IsConfigured, MayCover, configured_claimed}
use Rattle.section_laws.proofs.Bounded.{configured_cleared, configured_committed}
use Rattle.section_laws.proofs.Bounded.{configured_covered, configured_empty, configured_marked, configured_others}
use Rattle.section_laws.proofs.Bounded.{configured_own, configured_touch}
use Rattle.section_laws.proofs.Bounded.{configured_touched, place_cleared, place_others}
use Rattle.el_model.proofs.Laws.EachHart.{Each, each_but}
use Rattle.el_model.proofs.Laws.Orders.{placed_own}
use Rattle.section_laws.proofs.Laws.EachKept.{first_each, next_keeps}
use Rattle.section_laws.proofs.Laws.Moves.{Moves, moved, moves_by_ends, taken_keeps}
use Rattle.section_laws.proofs.Laws.Numbered.{next_count, order_keeps, raised_exists}
use Rattle.section_laws.proofs.OnlyInside as inside
use Rattle.section_laws.proofs.Laws.OrderedHarts.{AreBelow, below_kept}
use Rattle.section_laws.proofs.Laws.ServedCaches.{own_after}
use Rattle.section_laws.proofs.Laws.Waiting.{Rested, Sound, always_settled, always_sound, free_of_order, next_settled}
use Rattle.section_laws.proofs.Laws.Waiting.{no_request}
use Rattle.section_laws.proofs.Laws.Waiting.{order_other, rested_in, settled_by, sound_in}

-- a hart's cache with what it has left for the hart's request, raised or ordered
pub record IsBounded (config : Config) (cache : List (List Way)) (raised ordered : Option Request) : Type 0 where
  pub cache_is : IsConfigured config cache
  pub for_raised : (request : Request) → raised ≡ Some request → HasPlace config cache request
  pub for_ordered : (request : Request) → ordered ≡ Some request → HasPlace config cache request

-- of each hart of the machine, with these requests in order
abbrev Within : Config → ℕ → (ℕ → Option Request) → ℕ → Hart → Type 0
Within config count ordered h hart = h < count → IsBounded config hart.cache hart.raised (ordered h)

-- a hart that waits for nothing
free_bounded : (config : Config) (cache : List (List Way)) (raised ordered : Option Request) → raised ≡ None →
    ordered ≡ None → IsConfigured config cache → IsBounded config cache raised ordered
free_bounded config cache raised ordered not_raised not_ordered now = record {
  cache_is = now;
  for_raised = λ request is. some_none (sym is ∙ not_raised);
  for_ordered = λ request is. some_none (sym is ∙ not_ordered);
}

-- a section that is lost
lost_bounded : (config : Config) (cache : List (List Way)) (raised ordered : Option Request) → HasSome config →
    IsBounded config cache raised ordered → IsBounded config (cleared cache) raised ordered
lost_bounded config cache raised ordered some now = record {
  cache_is = configured_cleared config cache now.cache_is;
  for_raised = λ request is. place_cleared config cache request some;
  for_ordered = λ request is. place_cleared config cache request some;
}

moves : (config : Config) (count : ℕ) (ordered : ℕ → Option Request) → HasSome config →
    Moves (Within config count ordered)
moves config count ordered some = moves_by_ends (λ h hart other now. now)
    (λ h hart now exists. lost_bounded config hart.cache hart.raised (ordered h) some (now exists))
    (λ h pc hart now exists. lost_bounded config hart.cache hart.raised (ordered h) some (now exists))

-- a step: one that takes a line raises a request where the line has room
written_within : (set : List Way) → count_by (λ way. way.write) set ≤ count_by is_marked set
written_within [] = omega arith
written_within (way ∷ set) =
    omega (
      arith,
      sum_by-cons (λ way. one_if way.write) way set,
      sum_by-cons mark_of way set,
      written_within set,
      by way.read way.write,
    )
  where
    by : (read write : Bool) → one_if write ≤ one_if (read || write)
    by true true = omega arith
    by true false = omega arith
    by false true = omega arith
    by false false = omega arith

written_marked : (cache : List (List Way)) → write_bits_of cache ≤ marks_of cache
written_marked [] = omega arith
written_marked (set ∷ cache) =
    omega (
      arith,
      sum_by-cons (λ s. count_by (λ way. way.write) s) set cache,
      sum_by-cons (λ s. count_by is_marked s) set cache,
      written_within set,
      written_marked cache,
    )

none_written : (cache : List (List Way)) → has_marks cache ≡ false → write_bits_of cache ≡ 0
none_written cache bare =
    let less = written_marked cache in
    let counted = sym (has_marks-counted cache) ∙ bare in
    let none : marks_of cache ≡ 0 = grind (arith, nat_tests) in
    omega (arith, less, none)

outside_place : (config : Config) (cache : List (List Way)) (request : Request) → HasSome config →
    has_marks cache ≡ false → HasPlace config cache request
outside_place config cache request some bare = record {
  room = room_without_marks config.ways cache request.line some.ways bare;
  spare = λ write is. let none = none_written cache bare in let lines = some.lines in omega (arith, none, lines);
}

not_full : (state : ModelState) (h : ℕ) (need : Need) → IsConfigured state.config (cache_of state h) →
    is_full state h need ≡ false → need ≡ Write →
    write_bits_of (cache_of state h) < state.config.lines
not_full state h Read now free write = absurd (cc)
not_full state h Write now free write = let few = now.written in grind (arith, nat_tests)

inside_place : (state : ModelState) (h : ℕ) (section : Section) (request : Request) →
    IsConfigured state.config (cache_of state h) →
    HasRoom state h section (record { line = request.line; need = request.need }) →
    HasPlace state.config (cache_of state h) request
inside_place state h section request now room = record {
  room = room.room;
  spare = λ write is. not_full state h request.need now room.not_full write;
}

missed_bounded : (state : ModelState) (h : ℕ) (request : Request) → ordered_of state h ≡ None →
    IsConfigured state.config (cache_of state h) → HasPlace state.config (cache_of state h) request →
    IsBounded state.config (cache_of state h) (Some request) (ordered_of state h)
missed_bounded state h request free now place = record {
  cache_is = now;
  for_raised = λ other is. subst (HasPlace state.config (cache_of state h)) (same_Some request other is) place;
  for_ordered = λ other is. some_none (sym is ∙ free);
}

candidate_bounded : (config : Config) (ordered : Option Request) (pc : Option ℕ) (had_watch : Bool)
    (candidate : Option Swap) (hart : Hart) → IsBounded config hart.cache hart.raised ordered →
    IsBounded config (after_candidate pc had_watch candidate hart).cache
    (after_candidate pc had_watch candidate hart).raised ordered
candidate_bounded config ordered pc had_watch None hart now = now
candidate_bounded config ordered pc had_watch (Some swap) hart now = now

coverable : (state : ModelState) (h : ℕ) (section : Section) (touch : Option Touch) →
    IsConfigured state.config (cache_of state h) → IsCoverable state h section touch →
    MayCover state.config (cache_of state h) touch
coverable state h section None now may = tt
coverable state h section (Some touch) now (inl has) = λ new. not_both has new
coverable state h section (Some touch) now (inr (room, permitted)) =
    λ new write. not_full state h touch.need now room.not_full write

deed_bounded : (state : ModelState) (h : ℕ) (deed : Deed) → DoesWhere state h deed → HasSome state.config →
    inside.Holds (hart_of state h) →
    IsBounded state.config (cache_of state h) (raised_of state h) (ordered_of state h) →
    IsBounded state.config (hart_after state h deed (hart_of state h)).cache
    (hart_after state h deed (hart_of state h)).raised (ordered_of state h)
deed_bounded state h Rests does some bare now = now
deed_bounded state h Waits does some bare now = now
deed_bounded state h (Misses line need) (inl misses) some bare now =
    let request : Request = record { hart = h; line = line; need = need; stamp = (hart_of state h).attempt } in
    missed_bounded state h request (no_request state h misses.outside.free).not_ordered now.cache_is
    (outside_place state.config (cache_of state h) request some (bare misses.outside.no_section misses.outside.unarmed))
deed_bounded state h (Misses line need) (inr misses) some bare now =
    let request : Request = record { hart = h; line = line; need = need; stamp = (hart_of state h).attempt } in
    missed_bounded state h request (no_request state h misses.room.wants.goes.goes_on.is_short.inside.free).not_ordered
    now.cache_is
    (inside_place state h misses.section request now.cache_is misses.room)
deed_bounded state h (Runs touch) runs some bare now =
    let none = no_request state h runs.outside.free in
    candidate_bounded state.config (ordered_of state h) _ _ (candidate_of state h) _
    (free_bounded state.config _ _ _ none.not_raised none.not_ordered
    (configured_touch state.config (cache_of state h) touch now.cache_is))
deed_bounded state h (Begins swap) begins some bare now =
    let none = no_request state h begins.outside.free in
    free_bounded state.config _ _ _ none.not_raised none.not_ordered
    (configured_touched state.config _ _
    (configured_marked state.config (cache_of state h) _ Read now.cache_is (λ write. absurd (cc))))
deed_bounded state h (Buffers section touch) buffers some bare now =
    let none = no_request state h buffers.goes.goes_on.is_short.inside.free in
    free_bounded state.config _ _ _ none.not_raised none.not_ordered
    (configured_covered state.config (cache_of state h) touch
    (coverable state h section touch now.cache_is buffers.coverable) now.cache_is)
deed_bounded state h (Commits section) commits some bare now =
    let none = no_request state h commits.goes_on.is_short.inside.free in
    free_bounded state.config _ _ _ none.not_raised none.not_ordered
    (configured_committed state.config (cache_of state h) now.cache_is)
deed_bounded state h (RollsBack section cause) must some bare now =
    let none = no_request state h (is_rolled state h section cause must).free in
    free_bounded state.config _ _ _ none.not_raised none.not_ordered
    (configured_cleared state.config (cache_of state h) now.cache_is)
deed_bounded state h (Arms word) arms some bare now =
    let none = no_request state h arms.outside.free in
    free_bounded state.config _ _ _ none.not_raised none.not_ordered
    (configured_touched state.config _ _
    (configured_marked state.config (cache_of state h) _ Read now.cache_is (λ write. absurd (cc))))
deed_bounded state h (Elides armed swap) elides some bare now =
    let none = no_request state h elides.is_armed.free in
    free_bounded state.config _ _ _ none.not_raised none.not_ordered
    (configured_touched state.config _ _
    (configured_marked state.config (cache_of state h) _ Read now.cache_is (λ write. absurd (cc))))
deed_bounded state h (Continues armed) continues some bare now = now
deed_bounded state h (LetsGo armed) lets_go some bare now =
    let none = no_request state h lets_go.is_armed.free in
    free_bounded state.config _ _ _ none.not_raised none.not_ordered
    (configured_cleared state.config (cache_of state h) now.cache_is)

-- what holds of every state that can be reached, with as many harts as configured
pub record Bounded (state : ModelState) : Type 0 where
  pub some : HasSome state.config
  pub count : length state.harts ≡ state.config.harts
  pub sound : Sound state
  pub rested : Rested state
  pub bare : Each (λ h hart. inside.Holds hart) state
  pub exists : AreBelow (length state.harts) state.order
  pub each : Each (Within state.config (length state.harts) (ordered_of state)) state

past_end : {X : Type 0} (h count : ℕ) → count ≤ h → h < count → X
past_end h count past below = absurd (omega (arith, past, below))

step_each : (state : ModelState) (h : ℕ) → Bounded state →
    Each (Within state.config (length state.harts) (ordered_of state)) (step_turn state h).state
step_each state h now =
    let step = step_deed state h in
    rw step.turn_is
    (each_but (Within state.config (length state.harts) (ordered_of state)) state h
    (hart_after state h step.deed (hart_of state h))
    (λ below. deed_bounded state h step.deed step.where_it now.some (now.bare h) (now.each h below))
    (λ g apart. now.each g) (λ past below. past_end h (length state.harts) past below))

-- a request is ordered
ordered_bounded : (config : Config) (cache : List (List Way)) (raised ordered before : Option Request)
    (request : Request) → raised ≡ Some request → ordered ≡ Some request → IsBounded config cache raised before →
    IsBounded config cache None ordered
ordered_bounded config cache raised ordered before request was is now = record {
  cache_is = now.cache_is;
  for_raised = λ other asked. none_some asked;
  for_ordered = λ other asked. now.for_raised other (was ∙ sym is ∙ asked);
}

-- a request is served
claim_bounded : (config : Config) (others : Bool) (live : Option Section) (request : Request) (hart new : Hart) →
    hart.raised ≡ None → IsConfigured config hart.cache → HasPlace config hart.cache request →
    new.raised ≡ hart.raised → new.cache ≡ own_after config.ways others request.need hart.cache request.line →
    IsBounded config (with_claim (is_some live) request new).cache (with_claim (is_some live) request new).raised None
claim_bounded config others None request hart new free now place raised cache =
    free_bounded config _ _ None (raised ∙ free) refl
    (rw cache (configured_own config others hart.cache request now place))
claim_bounded config others (Some section) request hart new free now place raised cache =
    free_bounded config _ _ None (raised ∙ free) refl
    (rw cache (configured_claimed config others hart.cache request now place))

bystander_bounded : (state : ModelState) (request : Request) (hart : Hart) (ordered : Option Request) →
    IsBounded state.config hart.cache hart.raised ordered →
    IsBounded state.config (bystander state request hart).cache (bystander state request hart).raised ordered
bystander_bounded state request hart ordered now = record {
  cache_is = configured_others state.config _ request.need hart.cache request.line now.cache_is;
  for_raised =
      λ other is. place_others state.config _ request.need hart.cache request.line other now.cache_is
      (now.for_raised other is);
  for_ordered =
      λ other is. place_others state.config _ request.need hart.cache request.line other now.cache_is
      (now.for_ordered other is);
}

started_bounded : (state : ModelState) (by : ℕ) (start : Start) → Bounded state → StartsWhere state by start → (h : ℕ) →
    Within state.config (length state.harts) (request_of (order_after state start)) h
    (started state by start h (hart_of state h))
started_bounded state by Nothing now where_it h = now.each h
started_bounded state by (Places request place) now may h =
    let ordered = request_of (order_at state request place) in
    let mine : raised_of state request.hart ≡ Some request =
    ap (raised_of state) ((now.sound by).own request may.raised) ∙ may.raised in
    let free = free_of_order state request.hart request now.sound mine in
    let hart = hart_of state request.hart in
    by_hart (Within state.config (length state.harts) ordered h) h request.hart
    (record (hart_of state h) { raised = None }) (hart_of state h)
    (λ own.
    rw own (λ below.
    ordered_bounded state.config hart.cache hart.raised (ordered request.hart)
    (ordered_of state request.hart) request mine
    (placed_own state request place free) (now.each request.hart below)))
    (λ apart. rw (order_other state request place h apart) (now.each h))
started_bounded state by (Serves request) now may h =
    let mine : ordered_of state request.hart ≡ Some request =
    ap (ordered_of state) (hart_of_request_of state.order by request may.ordered) ∙ may.ordered in
    let hart = hart_of state request.hart in
    let ordered = request_of (removed state.order request.hart) in
    by_hart (Within state.config (length state.harts) ordered h) h request.hart
    (served_hart state request (hart_of state h))
    (bystander state request (hart_of state h))
    (λ own.
    rw own (λ below.
    let bounded = now.each request.hart below in
    rw (request_of_removed_own state.order request.hart)
    (claim_bounded state.config (others_have state request.hart request.line) hart.section request hart _
    (bare (now.sound request.hart).one_request mine) bounded.cache_is (bounded.for_ordered request mine) refl refl)))
    (λ apart below.
    rw (request_of_removed_other state.order request.hart h (λ same. apart (sym same)))
    (bystander_bounded state request (hart_of state h) (ordered_of state h) (now.each h below)))
  where
    bare : (raised_of state request.hart ≡ None) ⊎ (ordered_of state request.hart ≡ None) →
        ordered_of state request.hart ≡ Some request → raised_of state request.hart ≡ None
    bare (inl none) mine = none
    bare (inr none) mine = some_none (sym mine ∙ none)
started_bounded state by (Takes message others) now where_it h =
    let kept = moves state.config (length state.harts) (ordered_of state) now.some in
    by_hart (Within state.config (length state.harts) (ordered_of state) h) h by
    (having_taken message others (hart_of state h)) (hart_of state h)
    (λ own. taken_keeps kept message others h (hart_of state h) (now.each h)) (λ other. now.each h)

bus_each : {state : ModelState} {by : ℕ} {turn : Turn} → IsBusEvent state by turn → Bounded state →
    Each (Within state.config (length state.harts) (ordered_of turn.state)) turn.state
bus_each {state} {by} {turn} done now h =
    let ordered = request_of (order_after state done.start) in
    let within : Within state.config (length state.harts) ordered h (hart_of turn.state h) =
    moved (moves state.config (length state.harts) ordered now.some) state by done.start h
    (λ past below. past_end h (length state.harts) past below)
    (λ below. started_bounded state by done.start now done.where_it h) (done.becomes h) in
    rw done.order within

next_each : (state : ModelState) (event : Event) → Bounded state →
    Each (Within state.config (length state.harts) (ordered_of (next state event).state)) (next state event).state
next_each state event now =
    by_event (λ turn. Each (Within state.config (length state.harts) (ordered_of turn.state)) turn.state) state event
    (λ is.
    let step = step_deed state event.hart.number in
    let each = step_each state event.hart.number now in
    rw step.turn_is (rw step.turn_is at each))
    (λ turn done. bus_each done now)

-- what holds after each event
next_bounded : (state : ModelState) (event : Event) → Bounded state → Bounded (next state event).state
next_bounded state event now =
    let config = next_config state event in
    let count = next_count state event in
    record {
      some = rw config now.some;
      count = count ∙ now.count ∙ ap (λ c. c.harts) (sym config);
      sound = sound_in (next state event).state (next_settled state event (settled_by state now.sound now.rested));
      rested = rested_in (next state event).state (next_settled state event (settled_by state now.sound now.rested));
      bare = next_keeps inside.kept state event now.bare;
      exists = rw count (order_keeps state event (below_kept (length state.harts)) now.sound now.exists);
      each = rw config (rw count (next_each state event now));
    }

-- the start
some_of : (config : Config) → IsInRange config → HasSome config
some_of config range =
    let in_range = ranges config range in
    record {
      sets = some_sets config.sets in_range.sets;
      ways = at_least 1 8 config.ways in_range.ways;
      lines = at_least 1 32 config.lines in_range.lines;
    }
  where
    some_sets : (sets : ℕ) → allows Sets sets ≡ true → 1 ≤ sets
    some_sets sets is = grind (arith, nat_tests)

record IsNew (config : Config) (hart : Hart) : Type 0 where
  cache_is : IsConfigured config hart.cache
  not_raised : hart.raised ≡ None

first_at : (config : Config) (count h : ℕ) → HasSome config → h < count →
    IsNew config (slice_index_or (replicate count (new_hart config.sets)) h (new_hart 0))
first_at config zero h some below = absurd (omega (arith, below))
first_at config (suc count) zero some below = record { cache_is = configured_empty config some; not_raised = refl }
first_at config (suc count) (suc h) some below = first_at config count h some (omega (arith, below))

first_bounded : (program : Program) (config : Config) → program.harts ≡ config.harts → IsInRange config →
    Bounded (begin program config)
unfolding begin
first_bounded program config same range =
    let some = some_of config range in
    let count : length (replicate program.harts (new_hart config.sets)) ≡ program.harts =
    length-replicate program.harts (new_hart config.sets) in
    record {
      some = some;
      count = count ∙ same;
      sound = always_sound program config [];
      rested = rested_in (begin program config) (always_settled program config []);
      bare = first_each inside.kept program config;
      exists = λ h request is. none_some is;
      each = λ h below.
          let new = first_at config program.harts h some (omega (arith, below, count)) in
          free_bounded config _ _ None new.not_raised refl new.cache_is;
    }

pub always_bounded : (program : Program) (config : Config) (events : List Event) → program.harts ≡ config.harts →
    IsInRange config → Bounded (after program config events)
always_bounded program config events same range =
    kept_after Bounded next_bounded (begin program config) events (first_bounded program config same range)

-- of a hart of the machine, by the configuration that it began with
bounded_at : (program : Program) (config : Config) (events : List Event) (h : ℕ) → program.harts ≡ config.harts →
    IsInRange config → h < config.harts →
    IsBounded config (cache_of (after program config events) h) (raised_of (after program config events) h)
    (ordered_of (after program config events) h)
bounded_at program config events h same range below =
    let state = after program config events in
    let bounded = always_bounded program config events same range in
    let is = after_config program config events in
    let count = bounded.count ∙ ap (λ c. c.harts) is in
    subst (λ c. IsBounded c (cache_of state h) (raised_of state h) (ordered_of state h)) is
    (bounded.each h (omega (arith, below, count)))

pub caches_are_shaped : CachesAreShaped
caches_are_shaped program config events same range h below =
    (bounded_at program config events h same range below).cache_is.shaped

-- a hart that waits is one of the machine's
waits_below : (program : Program) (config : Config) (events : List Event) (h : ℕ) (request : Request) →
    program.harts ≡ config.harts → IsInRange config → WaitsWith (after program config events) h request →
    h < config.harts
waits_below program config events h request same range waits =
    let count = bounded.count ∙ ap (λ c. c.harts) (after_config program config events) in
    let below = exists waits in
    omega (arith, count, below)
  where
    state : ModelState
    state = after program config events

    bounded : Bounded state
    bounded = always_bounded program config events same range

    exists : WaitsWith state h request → h < length state.harts
    exists (inl raised) =
        subst (λ n. n < length state.harts) ((bounded.sound h).own request raised)
        (raised_exists state h request bounded.sound raised)
    exists (inr ordered) = bounded.exists h request ordered

place_of : (program : Program) (config : Config) (events : List Event) (h : ℕ) (request : Request) →
    program.harts ≡ config.harts → IsInRange config → WaitsWith (after program config events) h request →
    HasPlace config (cache_of (after program config events) h) request
place_of program config events h request same range waits =
    by waits
    (bounded_at program config events h same range (waits_below program config events h request same range waits))
  where
    state : ModelState
    state = after program config events

    by : WaitsWith state h request → IsBounded config (cache_of state h) (raised_of state h) (ordered_of state h) →
        HasPlace config (cache_of state h) request
    by (inl raised) bounded = bounded.for_raised request raised
    by (inr ordered) bounded = bounded.for_ordered request ordered

pub waiting_lines_have_room : WaitingLinesHaveRoom
waiting_lines_have_room program config events same range h request waits =
    (place_of program config events h request same range waits).room

pub waiting_writes_are_spared : WaitingWritesAreSpared
waiting_writes_are_spared program config events same range h request waits write new =
    (place_of program config events h request same range waits).spare write new

pub written_lines_are_few : WrittenLinesAreFew
written_lines_are_few program config events same range h = by (nat_lt h config.harts) refl
  where
    state : ModelState
    state = after program config events

    by : (below : Bool) → nat_lt h config.harts ≡ below → write_bits_of (cache_of state h) ≤ config.lines
    by true below = (bounded_at program config events h same range (ltb-true h config.harts below)).cache_is.written
    by false above =
        let past = ltb-false h config.harts above in
        let count =
        (always_bounded program config events same range).count
        ∙ ap (λ c. c.harts) (after_config program config events) in
        let none = ap (λ hart. write_bits_of hart.cache) (hart_of-past state h (omega (arith, past, count))) in
        omega (arith, none)
