-- a serial order is no longer than its history: each instruction of a section had an event of its own
use Rattle.std.proofs.Common.{◌≡◌, ◌∙◌, ◌≤◌, ◌<◌, ◌+◌, ◌==◌, ℕ, zero, suc, Bool, true, false, List, [], ◌∷◌, Option}
use Rattle.std.proofs.Common.{None, Some, is_some, length}
use Rattle.std.proofs.Common.{replicate, refl, ap, arith, if◌then◌else◌}
use Rattle.std.specs.Prelude.{nat_le, nat_lt, slice_index_or, slice_set}
use Rattle.std.proofs.lemmas.Bool.{ltb-false, ltb-true}
use Rattle.std.proofs.lemmas.Bool.Decides.{nat_tests}
use Rattle.std.proofs.lemmas.List.{length-append, length-replicate}
use Rattle.bus_order.specs.Order.{Request}
use Rattle.chronicle.specs.Serial.{serial, taking_effect}
use Rattle.el_base.proofs.Laws.FreedOrder.{length-order_below-more}
use Rattle.el_base.proofs.Laws.MadeLosers.{count_in-beyond, count_in-freed_of, none_in_no_one}
use Rattle.el_base.specs.Freed.{count_in, order_below, order_of}
use Rattle.el_base.specs.declared.config.Config.{Config}
use Rattle.el_base.specs.declared.events.Event.{Event}
use Rattle.el_base.specs.declared.freed.Freed.{Freed}
use Rattle.elf_image.specs.Program.{Program}
use Rattle.el_model.specs.Armed.{freed_by, freed_count}
use Rattle.el_model.specs.BusEvent.{Becomes, IsBusEvent, Nothing, Places, Serves, Start, Takes, as_met, faced_head}
use Rattle.el_model.specs.BusEvent.{freed_in, having_taken}
use Rattle.el_model.specs.BusEvent.{started}
use Rattle.el_model.specs.Deed.{Arms, Begins, Buffers, Commits, Continues, Deed, DoesWhere, Elides, LetsGo, Misses}
use Rattle.el_model.specs.Deed.{Rests, RollsBack, Runs, Waits}
use Rattle.el_model.specs.Deed.{hart_after, outcome_of}
use Rattle.el_model.specs.Face.{freed_if, met}
use Rattle.el_model.specs.Next.{entries_from, next, state_after, step_turn}
use Rattle.el_model.specs.Plain.{after_candidate, armed_count, candidate_of}
use Rattle.el_model.specs.Serve.{bystander, served_hart, with_claim}
use Rattle.el_model.specs.State.{Hart, ModelState, Section, Turn, begin, hart_of, new_hart}
use Rattle.el_model.specs.Upcoming.{Swap}
use Rattle.el_model.proofs.Laws.BusEvents.{by_event, met_becomes}
use Rattle.el_model.proofs.Laws.Deeds.{step_deed}
use Rattle.el_model.proofs.Laws.EachHart.{Each}
use Rattle.el_model.proofs.Laws.Tests.{by_test}
use Rattle.section_laws.specs.Sections.{SerialOrderIsNoLonger}
use Rattle.section_laws.proofs.Laws.Moves.{Moves, met_keeps, moved, moves_by_ends, taken_keeps}
use Rattle.section_laws.proofs.Laws.Statuses.{unfreed_count}

-- the instructions of live and armed sections
abbrev run_in : Option Section → ℕ
run_in None = 0
run_in (Some section) = section.count

abbrev kept_in : Hart → ℕ
kept_in hart = run_in hart.section + armed_count hart.armed

abbrev weight : List Hart → ℕ
weight [] = 0
weight (hart ∷ harts) = kept_in hart + weight harts

weight_set : (harts : List Hart) (h : ℕ) (hart none : Hart) → kept_in none ≡ 0 →
    weight (slice_set harts h hart) + kept_in (slice_index_or harts h none) ≤ weight harts + kept_in hart
weight_set [] h hart none empty = omega (arith, empty)
weight_set (first ∷ harts) zero hart none empty = omega arith
weight_set (first ∷ harts) (suc h) hart none empty = let rest = weight_set harts h hart none empty in
    omega (arith, rest)

-- the sum of what is given for each number below another
abbrev sum_below : (ℕ → ℕ) → ℕ → ℕ
sum_below f zero = 0
sum_below f (suc n) = sum_below f n + f n

sum_first : (f : ℕ → ℕ) (n : ℕ) → sum_below f (suc n) ≡ f 0 + sum_below (λ k. f (suc k)) n
sum_first f zero = omega arith
sum_first f (suc n) = let rest = sum_first f n in omega (arith, rest)

no_sum : (f : ℕ → ℕ) (n : ℕ) → ((k : ℕ) → f k ≡ 0) → sum_below f n ≡ 0
no_sum f zero none = refl
no_sum f (suc n) none = let rest = no_sum f n none in let last = none n in omega (arith, rest, last)

-- what the harts keep no more takes effect at most
weight_less : (old new : List Hart) (none : Hart) (effects : ℕ → ℕ) (n : ℕ) → length new ≡ length old →
    ((h : ℕ) → kept_in (slice_index_or new h none) + effects h ≤ kept_in (slice_index_or old h none)) →
    weight new + sum_below effects n ≤ weight old
weight_less [] [] none effects n same less =
    let nothing = no_sum effects n (λ k. let here = less k in omega (arith, here)) in omega (arith, nothing)
weight_less [] (first ∷ new) none effects n same less = absurd (omega (arith, same))
weight_less (first ∷ old) [] none effects n same less = absurd (omega (arith, same))
weight_less (first ∷ old) (other ∷ new) none effects zero same less =
    let rest = weight_less old new none (λ h. effects (suc h)) zero (omega (arith, same)) (λ h. less (suc h)) in
    let here = less 0 in
    omega (arith, rest, here)
weight_less (first ∷ old) (other ∷ new) none effects (suc n) same less =
    let rest = weight_less old new none (λ h. effects (suc h)) n (omega (arith, same)) (λ h. less (suc h)) in
    let here = less 0 in
    let sum = sum_first effects n in
    omega (arith, rest, here, sum)

-- a deed
candidate_keeps : (pc : Option ℕ) (had_watch : Bool) (candidate : Option Swap) (hart : Hart) →
    kept_in (after_candidate pc had_watch candidate hart) ≡ kept_in hart
candidate_keeps pc had_watch None hart = refl
candidate_keeps pc had_watch (Some swap) hart = refl

deed_runs : (state : ModelState) (h : ℕ) (deed : Deed) → DoesWhere state h deed →
    kept_in (hart_after state h deed (hart_of state h)) + length (taking_effect h (outcome_of deed))
    ≤ kept_in (hart_of state h) + 1
deed_runs state h Rests does = omega arith
deed_runs state h Waits does = omega arith
deed_runs state h (Misses line need) does = omega arith
deed_runs state h (Runs touch) does =
    let same : kept_in (hart_after state h (Runs touch) (hart_of state h)) ≡ kept_in (hart_of state h) =
    candidate_keeps _ _ (candidate_of state h) _ in
    omega (arith, same)
deed_runs state h (Begins swap) does = omega arith
deed_runs state h (Buffers section touch) does =
    let live = ap run_in does.goes.goes_on.is_short.inside.live in omega (arith, live)
deed_runs state h (Commits section) does =
    let live = ap run_in does.goes_on.is_short.inside.live in
    let own = length-replicate (section.count + 1) h in
    omega (arith, live, own)
deed_runs state h (RollsBack section cause) does = omega arith
deed_runs state h (Arms word) does = omega arith
deed_runs state h (Elides armed swap) does = omega arith
deed_runs state h (Continues armed) does =
    let kept = ap armed_count does.is_armed.armed_is in omega (arith, kept)
deed_runs state h (LetsGo armed) does =
    let kept = ap armed_count does.is_armed.armed_is in
    let own = length-replicate armed.count h in
    omega (arith, kept, own)

abbrev Counts : ModelState → ModelState → ℕ → Type 0
Counts state new ran = weight new.harts + ran ≤ weight state.harts + 1

step_counts : (state : ModelState) (h : ℕ) →
    Counts state (step_turn state h).state (length (taking_effect h (step_turn state h).outcome))
step_counts state h =
    let step = step_deed state h in
    let runs = deed_runs state h step.deed step.where_it in
    let set = weight_set state.harts h (hart_after state h step.deed (hart_of state h)) (new_hart 0) refl in
    rw step.turn_is (omega (arith, runs, set))

-- an event of the bus
abbrev Fewer : (ℕ → ℕ) → ModelState → ℕ → Hart → Type 0
Fewer effects old h hart = kept_in hart + effects h ≤ kept_in (hart_of old h)

abbrev no_effects : ℕ → ℕ
no_effects h = 0

moves : (effects : ℕ → ℕ) (old : ModelState) → Moves (Fewer effects old)
moves effects old = moves_by_ends (λ h hart other now. now)
    (λ h hart now. omega (arith, now))
    (λ h pc hart now. omega (arith, now))

-- a freed hart keeps nothing, and no more of it takes effect than it has kept
pub freed_at_most : (state : ModelState) (head : Request) (g : ℕ) →
    count_in (freed_by state head) g ≤ freed_count head g (hart_of state g)
freed_at_most state head g = by (nat_lt g 8) refl (nat_le (freed_count head g (hart_of state g)) 15) refl
  where
    by : (below : Bool) → nat_lt g 8 ≡ below → (small : Bool) → nat_le (freed_count head g (hart_of state g)) 15
        ≡ small → count_in (freed_by state head) g ≤ freed_count head g (hart_of state g)
    by false past small is = let none = count_in-beyond (freed_by state head) g (ltb-false g 8 past) in
        omega (arith, none)
    by true below true is =
        let few : freed_count head g (hart_of state g) ≤ 15 = grind (arith, nat_tests) in
        let same = count_in-freed_of (λ h. freed_count head h (hart_of state h)) g (ltb-true g 8 below) few in
        omega (arith, same)
    by true below false is =
        let many : 15 < freed_count head g (hart_of state g) = grind (arith, nat_tests) in
        let cut = (freed_by state head).counts.each_fits g in
        omega (arith, many, cut)

met_fewer : (old state : ModelState) (head : Request) → Each (Fewer no_effects old) state →
    Each (Fewer (count_in (freed_by state head)) old) (met state head)
met_fewer old state head each =
    met_keeps (moves (count_in (freed_by state head)) old) state head
    (λ h freed.
    let most = freed_at_most state head h in
    let is = ap (λ test. if test then armed_count (hart_of state h).armed else 0) freed in
    let now = each h in
    omega (arith, most, is, now))
    (λ h unfreed.
    let none = unfreed_count state head h unfreed in
    let now = each h in
    omega (arith, none, now))

-- the start of an event changes nothing of it, nor does the end of a live section add to it
claim_fewer : (live : Bool) (request : Request) (hart : Hart) → kept_in (with_claim live request hart) ≡ kept_in hart
claim_fewer true request hart = refl
claim_fewer false request hart = refl

started_fewer : (state : ModelState) (by : ℕ) (start : Start) (h : ℕ) (hart : Hart) → Fewer no_effects state h hart →
    Fewer no_effects state h (started state by start h hart)
started_fewer state by Nothing h hart now = now
started_fewer state by (Places request place) h hart now =
    by_test (Fewer no_effects state h) (h == request.hart) (record hart { raised = None }) hart
    (λ own. now) (λ other. now)
started_fewer state by (Serves request) h hart now =
    by_test (Fewer no_effects state h) (h == request.hart) (served_hart state request hart)
    (bystander state request hart)
    (λ own.
    let same : kept_in (served_hart state request hart) ≡ kept_in hart = claim_fewer (is_some hart.section) request _ in
    omega (arith, same, now))
    (λ other. now)
started_fewer state by (Takes message others) h hart now =
    by_test (Fewer no_effects state h) (h == by) (having_taken message others hart) hart
    (λ own. taken_keeps (moves no_effects state) message others h hart now) (λ other. now)

becomes_fewer : (state : ModelState) (by : ℕ) (start : Start) (h : ℕ) {lost : Option ℕ} {hart : Hart} →
    Becomes state by start h lost hart → Fewer no_effects state h hart
becomes_fewer state by start h becomes =
    moved (moves no_effects state) state by start h (λ past. omega arith)
    (λ below. started_fewer state by start h (hart_of state h) (omega arith)) becomes

bus_fewer : {state : ModelState} {by : ℕ} {turn : Turn} → (done : IsBusEvent state by turn) →
    Each (Fewer (count_in (freed_in state by done.start)) state) turn.state
bus_fewer {state} {by} {turn} done = by_head (faced_head state done.start) refl
  where
    by_head : (found : Option Request) → faced_head state done.start ≡ found →
        Each (Fewer (count_in (freed_if (as_met state by done.start) found)) state) turn.state
    by_head None is = λ h.
        let none = none_in_no_one h in
        let now = becomes_fewer state by done.start h (done.becomes h) in
        omega (arith, none, now)
    by_head (Some head) is =
        rw (done.faces head is)
        (met_fewer state (as_met state by done.start) head
        (λ h. becomes_fewer state by done.start h (met_becomes state by done.start head is h)))

-- as many instructions take effect in an event of the bus as the harts that it lets go had kept
length_order : (freed : Freed) (n : ℕ) → length (order_below n freed) ≡ sum_below (count_in freed) n
length_order freed zero = refl
length_order freed (suc n) =
    let next : suc n ≡ n + 1 = omega arith in
    ap (λ m. length (order_below m freed)) next ∙ length-order_below-more n freed
    ∙ ap (λ count. count + count_in freed n) (length_order freed n)

freed_counts : (state new : ModelState) (freed : Freed) → length new.harts ≡ length state.harts →
    Each (Fewer (count_in freed) state) new → Counts state new (length (order_of freed))
unfolding order_of
freed_counts state new freed count fewer =
    let less = weight_less state.harts new.harts (new_hart 0) (count_in freed) 8 count fewer in
    let sum = length_order freed 8 in
    omega (arith, less, sum)

bus_counts : {state : ModelState} {by : ℕ} {turn : Turn} → IsBusEvent state by turn → (h : ℕ) →
    Counts state turn.state (length (taking_effect h turn.outcome))
bus_counts {state} {by} {turn} done h =
    let counts = freed_counts state turn.state (freed_in state by done.start) done.count (bus_fewer done) in
    let same = ap length (done.effect h) in
    omega (arith, counts, same)

next_counts : (state : ModelState) (event : Event) →
    Counts state (next state event).state (length (taking_effect event.hart.number (next state event).outcome))
next_counts state event =
    by_event (λ turn. Counts state turn.state (length (taking_effect event.hart.number turn.outcome))) state event
    (λ step. step_counts state event.hart.number) (λ turn done. bus_counts done event.hart.number)

all_count : (state : ModelState) (events : List Event) →
    length (serial (entries_from state events)) + weight (state_after state events).harts
    ≤ length events + weight state.harts
all_count state [] = omega arith
all_count state (event ∷ events) =
    let rest = all_count (next state event).state events in
    let now = next_counts state event in
    let ran = taking_effect event.hart.number (next state event).outcome in
    let sum = length-append ran (serial (entries_from (next state event).state events)) in
    omega (arith, rest, now, sum)

new_weight : (count sets : ℕ) → weight (replicate count (new_hart sets)) ≡ 0
new_weight zero sets = refl
new_weight (suc count) sets = let rest = new_weight count sets in omega (arith, rest)

first_weight : (program : Program) (config : Config) → weight (begin program config).harts ≡ 0
unfolding begin
first_weight program config = new_weight program.harts config.sets

pub serial_order_is_no_longer : SerialOrderIsNoLonger
serial_order_is_no_longer program config events =
    let all = all_count (begin program config) events in
    let none = first_weight program config in
    omega (arith, all, none)
