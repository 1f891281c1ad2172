-- no armed hart but its own has read the line of a head that is to write, so a served write takes no armed hart's line
use Rattle.std.proofs.Common.{◌≡◌, ◌≢◌, ◌∙◌, ◌==◌, ◌&&◌, ◌⊎◌, ℕ, Bool, true, false, not, List}
use Rattle.std.proofs.Common.{None, Some, is_some}
use Rattle.std.proofs.Common.{refl, ap, sym, subst, inl, inr}
use Rattle.std.proofs.Math.Bool.{and_comm}
use Rattle.std.proofs.lemmas.Bool.{and_from, and_left, and_right, cases_eq, false_from_ne_true, or_from, or_left}
use Rattle.bus_order.specs.Order.{IsOneEach, Request, first_of, removed}
use Rattle.bus_order.proofs.Laws.Queues.{first_of_removed_other, hart_of_request_of, line_of_first_of}
use Rattle.residency.specs.Cache.{bit_in, has_bit, is_resident, letter_of, marked, read_bit}
use Rattle.residency.specs.Cache.{touched, way_of, write_bit}
use Rattle.residency.specs.Residency.{Way}
use Rattle.residency.proofs.Laws.CacheLemmas.{way_of-without_line_other}
use Rattle.el_base.specs.Line.{line_number}
use Rattle.el_base.specs.declared.config.Config.{Config}
use Rattle.el_base.specs.declared.events.Event.{Event}
use Rattle.el_base.specs.declared.outcomes.Need.{Need}
use Rattle.el_base.specs.declared.outcomes.Need.TheVariants.{Read, Write}
use Rattle.el_base.proofs.Laws.Cases.{clash, none_some, some_none}
use Rattle.el_base.proofs.Laws.Tests.{other_test}
use Rattle.elf_image.specs.Program.{Program}
use Rattle.el_model.specs.Armed.{is_freed, let_go_hart}
use Rattle.el_model.specs.BusEvent.{IsBusEvent, Nothing, Places, Serves, Start, StartsWhere, Takes, as_met, faced_head}
use Rattle.el_model.specs.BusEvent.{having_taken}
use Rattle.el_model.specs.BusEvent.{order_after, started}
use Rattle.el_model.specs.Conflicts.{is_wanted_to_write, is_write, writes}
use Rattle.el_model.specs.Deed.{Arms, Begins, Buffers, Commits, Continues, Deed, DoesWhere, Elides, LetsGo, MayArm}
use Rattle.el_model.specs.Deed.{Misses, Rests, RollsBack, Runs}
use Rattle.el_model.specs.Deed.{Waits, hart_after}
use Rattle.el_model.specs.Face.{met}
use Rattle.el_model.specs.Next.{after, next, step_turn}
use Rattle.el_model.specs.Plain.{candidate_of}
use Rattle.el_model.specs.RollBack.{out_of_section}
use Rattle.el_model.specs.Serve.{bystander, other_head, others_cache, served_hart}
use Rattle.el_model.specs.State.{Armed, Hart, ModelState, Turn, armed_of, begin, cache_of, hart_of, head_of}
use Rattle.el_model.specs.State.{ordered_of}
use Rattle.el_model.proofs.Laws.BusEvents.{by_event}
use Rattle.el_model.proofs.Laws.Deeds.{step_deed}
use Rattle.el_model.proofs.Laws.EachHart.{Each}
use Rattle.el_model.proofs.Laws.FromStart.{kept_after}
use Rattle.el_model.proofs.Laws.Orders.{served_order}
use Rattle.el_model.proofs.Laws.Tests.{by_hart}
use Rattle.el_model.proofs.Laws.HartParts.{candidate_armed, claim_armed}
use Rattle.moesi.specs.Letters.{may_read}
use Rattle.rv_flat.specs.FlatState.{status_of, view_of}
use Rattle.section_laws.specs.Laws.{ArmedHartsWaitForNothing, ArmedSectionsHaveOneReadBit, NoHartIsLiveAndArmed}
use Rattle.section_laws.specs.Laws.{OrderedWritesMeetNoArmedHart}
use Rattle.section_laws.specs.Waiting.{RunsWithNothing}
use Rattle.section_laws.proofs.Laws.ArmedBits as bits
use Rattle.section_laws.proofs.Laws.Asked.{asked_first}
use Rattle.section_laws.proofs.Laws.Bits.{NoBitMore, bit_lettered, no_more_any, no_more_others, no_more_same}
use Rattle.section_laws.proofs.Laws.Bits.{read_bit_marked}
use Rattle.section_laws.proofs.Laws.ArmedBits.{same_word}
use Rattle.section_laws.proofs.Laws.Coherence as coherence
use Rattle.section_laws.proofs.Laws.FreeLines.{head_is, not_blocked}
use Rattle.section_laws.proofs.Laws.Moves.{Moves, met_keeps, moved, moves_by_ends, none_freed, step_keeps, taken_keeps}
use Rattle.section_laws.proofs.Laws.NewHarts.{each_new}
use Rattle.section_laws.proofs.Laws.Placed.{StaysOrIsFaced, placed_first}
use Rattle.section_laws.proofs.Laws.Waiting.{Rested, live_unarmed, unarmed_ordered}

-- a head lets no hart go
abbrev pub Unfreed : Request → ℕ → Hart → Type 0
Unfreed head h hart = is_freed head h hart ≡ false

abbrev pub AllLetGone : ModelState → Type 0
AllLetGone state = (line : ℕ) (head : Request) → head_of state line ≡ Some head → Each (Unfreed head) state

moves : (head : Request) → Moves (Unfreed head)
moves head = moves_by_ends (λ h hart other now. now)
    (λ h hart now. none_freed head h (out_of_section hart) refl)
    (λ h pc hart now. none_freed head h (let_go_hart pc hart) refl)

-- where no bit comes
less : (x d new : Bool) → (new ≡ true → d ≡ true) → (x && d) ≡ false → (x && new) ≡ false
less true true new fewer is = absurd (cc)
less true false true fewer is = sym (fewer refl)
less true false false fewer is = refl
less false d new fewer is = refl

fewer_unfreed : (head : Request) (h : ℕ) (old new : Hart) → is_some new.armed ≡ is_some old.armed →
    NoBitMore old.cache new.cache head.line → Unfreed head h old → Unfreed head h new
fewer_unfreed head h old new armed no_more now =
    ap (λ is. is_write head && not (head.hart == h) && is && has_bit new.cache head.line) armed
    ∙ less (is_write head && not (head.hart == h) && is_some old.armed) (has_bit old.cache head.line)
    (has_bit new.cache head.line)
    (no_more_any (way_of old.cache head.line) (way_of new.cache head.line) no_more) now

-- a head that is met
met_unfreed : (state : ModelState) (head : Request) → Each (Unfreed head) (met state head)
met_unfreed state head =
    met_keeps (moves head) state head
    (λ h freed. none_freed head h (let_go_hart (view_of state.committed h).pc (hart_of state h)) refl)
    (λ h unfreed. unfreed)

-- a line's head after an event of the bus was met in it, or was the head before
abbrev WasOrIsMet : ModelState → Start → ℕ → Request → Type 0
WasOrIsMet state start line head = (faced_head state start ≡ Some head) ⊎ (head_of state line ≡ Some head)

was_or_is_met : (state : ModelState) (by : ℕ) (start : Start) (line : ℕ) (head : Request) → IsOneEach state.order →
    StartsWhere state by start → first_of (order_after state start) line ≡ Some head → WasOrIsMet state start line head
was_or_is_met state by Nothing line head once where_it is = inr is
was_or_is_met state by (Places request place) line head once may is =
    either (placed_first state request place line may.place_is)
  where
    either : StaysOrIsFaced state request place line → WasOrIsMet state (Places request place) line head
    either (inl same) = inr (sym same ∙ is)
    either (inr own) = inl (sym own ∙ is)
was_or_is_met state by (Serves request) line head once may is = by_line (cases_eq request.line line)
  where
    own : ordered_of state request.hart ≡ Some request
    own = ap (ordered_of state) (hart_of_request_of state.order by request may.ordered) ∙ may.ordered

    by_line : (request.line ≡ line) ⊎ (request.line ≡ line → ⊥) → WasOrIsMet state (Serves request) line head
    by_line (inl same) =
        inl (ap (λ order. first_of order request.line) (served_order state request)
        ∙ ap (first_of (removed state.order request.hart)) same ∙ is)
    by_line (inr other) = inr (sym (first_of_removed_other state.order request.hart line request once own other) ∙ is)
was_or_is_met state by (Takes message others) line head once where_it is = inr is

-- a request is served: its hart is not armed, and the others have no bit more
served_unarmed : (state : ModelState) (h : ℕ) (request : Request) → Rested state → ordered_of state h ≡ Some request →
    (served_hart state request (hart_of state request.hart)).armed ≡ None
served_unarmed state h request rested is =
    let hart = hart_of state request.hart in
    let status = status_of state.committed request.hart in
    let own = hart_of_request_of state.order h request is in
    let mine : ordered_of state request.hart ≡ Some request = ap (ordered_of state) own ∙ is in
    claim_armed (is_some hart.section) request _
    ∙ unarmed_ordered hart.armed status request hart.section hart.raised hart.held_line
    (subst (λ ordered. (hart.armed ≡ None) ⊎ RunsWithNothing status ordered hart.section hart.raised hart.held_line)
    mine (rested request.hart))

started_unfreed : (state : ModelState) (by : ℕ) (start : Start) (head : Request) → Rested state →
    StartsWhere state by start → Each (Unfreed head) state → (h : ℕ) →
    Unfreed head h (started state by start h (hart_of state h))
started_unfreed state by Nothing head rested where_it each h = each h
started_unfreed state by (Places request place) head rested where_it each h =
    by_hart (Unfreed head h) h request.hart (record (hart_of state h) { raised = None }) (hart_of state h)
    (λ own. each h) (λ other. each h)
started_unfreed state by (Serves request) head rested may each h =
    by_hart (Unfreed head h) h request.hart (served_hart state request (hart_of state h))
    (bystander state request (hart_of state h))
    (λ own.
    rw own (none_freed head request.hart (served_hart state request (hart_of state request.hart))
    (served_unarmed state by request rested may.ordered)))
    (λ other.
    fewer_unfreed head h (hart_of state h) (bystander state request (hart_of state h)) refl
    (no_more_others (is_resident (cache_of state request.hart) request.line) request.need (cache_of state h)
    request.line head.line) (each h))
started_unfreed state by (Takes message others) head rested where_it each h =
    by_hart (Unfreed head h) h by (having_taken message others (hart_of state h)) (hart_of state h)
    (λ own. taken_keeps (moves head) message others h (hart_of state h) (each h)) (λ other. each h)

bus_gone : {state : ModelState} {by : ℕ} {turn : Turn} → IsBusEvent state by turn → coherence.Holds state →
    AllLetGone state → AllLetGone turn.state
bus_gone {state} {by} {turn} done holds gone line head found =
    by_head
    (was_or_is_met state by done.start line head holds.once.once done.where_it
    (sym (ap (λ order. first_of order line) done.order) ∙ found))
  where
    by_head : WasOrIsMet state done.start line head → Each (Unfreed head) turn.state
    by_head (inl is) = rw (done.faces head is) (met_unfreed (as_met state by done.start) head)
    by_head (inr was) = λ h.
        moved (moves head) state by done.start h (λ past. gone line head was h)
        (λ below. started_unfreed state by done.start head holds.once.rested done.where_it (gone line head was) h)
        (done.becomes h)

-- a hart arms only where no other hart waits to write
both_of : (a b : Bool) → (a && not b) ≡ true → (a ≡ true) × (b ≡ false)
both_of true true is = absurd (cc)
both_of true false is = (refl, refl)
both_of false b is = absurd (cc)

arming_unfreed : (state : ModelState) (h word : ℕ) (head : Request) → MayArm state h word →
    bits.Holds (hart_of state h) → head_of state head.line ≡ Some head →
    Unfreed head h (hart_after state h (Arms word) (hart_of state h))
arming_unfreed state h word head arms bare is = by (cases_eq head.line (line_number word))
  where
    new : Hart
    new = hart_after state h (Arms word) (hart_of state h)

    reads : bits.ReadsAlone word new.section new.cache
    reads = bits.deed_alone state h (Arms word) arms bare (record { count = 1; word = word }) refl

    open_line : may_read (letter_of (cache_of state h) (line_number word)) ≡ true
        × is_wanted_to_write state h (line_number word) ≡ false
    open_line =
        both_of (may_read (letter_of (cache_of state h) (line_number word)))
        (is_wanted_to_write state h (line_number word)) arms.may_open

    by : (head.line ≡ line_number word) ⊎ (head.line ≡ line_number word → ⊥) → Unfreed head h new
    by (inl same) =
        and_left (is_write head && not (head.hart == h) && is_some new.armed) _
        (and_left (is_write head && not (head.hart == h)) _
        (and_comm (is_write head) (not (head.hart == h))
        ∙ asked_first is_write state.order h head.line head (ap (is_wanted_to_write state h) same ∙ open_line.1) is))
    by (inr other) =
        and_right (is_write head && not (head.hart == h) && is_some new.armed) (has_bit new.cache head.line)
        (or_from (read_bit new.cache head.line) (write_bit new.cache head.line)
        (reads.no_other.alone head.line other) (reads.no_other.unwritten head.line))

deed_unfreed : (state : ModelState) (h : ℕ) (deed : Deed) (head : Request) → DoesWhere state h deed → Rested state →
    bits.Holds (hart_of state h) → head_of state head.line ≡ Some head → Unfreed head h (hart_of state h) →
    Unfreed head h (hart_after state h deed (hart_of state h))
deed_unfreed state h Rests head does rested bare is now = now
deed_unfreed state h Waits head does rested bare is now = now
deed_unfreed state h (Misses line need) head does rested bare is now = now
deed_unfreed state h (Runs touch) head runs rested bare is now =
    none_freed head h (hart_after state h (Runs touch) (hart_of state h))
    (candidate_armed _ _ (candidate_of state h) _ ∙ runs.outside.unarmed)
deed_unfreed state h (Begins swap) head does rested bare is now =
    none_freed head h (hart_after state h (Begins swap) (hart_of state h)) refl
deed_unfreed state h (Buffers section touch) head buffers rested bare is now =
    none_freed head h (hart_after state h (Buffers section touch) (hart_of state h))
    (live_unarmed state h section rested buffers.goes.goes_on.is_short.inside.live)
deed_unfreed state h (Commits section) head does rested bare is now =
    none_freed head h (hart_after state h (Commits section) (hart_of state h)) refl
deed_unfreed state h (RollsBack section cause) head does rested bare is now =
    none_freed head h (hart_after state h (RollsBack section cause) (hart_of state h)) refl
deed_unfreed state h (Arms word) head arms rested bare is now = arming_unfreed state h word head arms bare is
deed_unfreed state h (Elides armed swap) head does rested bare is now =
    none_freed head h (hart_after state h (Elides armed swap) (hart_of state h)) refl
deed_unfreed state h (Continues armed) head continues rested bare is now =
    fewer_unfreed head h (hart_of state h) (hart_after state h (Continues armed) (hart_of state h))
    (sym (ap is_some continues.is_armed.armed_is)) (no_more_same (way_of (cache_of state h) head.line)) now
deed_unfreed state h (LetsGo armed) head does rested bare is now =
    none_freed head h (hart_after state h (LetsGo armed) (hart_of state h)) refl

step_order : (state : ModelState) (h : ℕ) → (step_turn state h).state.order ≡ state.order
step_order state h = let step = step_deed state h in ap (λ turn. turn.state.order) step.turn_is

step_gone : (state : ModelState) (h : ℕ) → coherence.Holds state → AllLetGone state →
    AllLetGone (step_turn state h).state
step_gone state h holds gone line head found =
    let is : head_of state line ≡ Some head = sym (ap (λ order. first_of order line) (step_order state h)) ∙ found in
    let own = line_of_first_of state.order line head is in
    step_keeps (Unfreed head) state h
    (λ deed does.
    deed_unfreed state h deed head does holds.once.rested (holds.alone h) (ap (head_of state) own ∙ is)
    (gone line head is h))
    (gone line head is)

-- an armed hart has read the line of its word
abbrev pub ReadsItsLine : Hart → Type 0
ReadsItsLine hart = (armed : Armed) → hart.armed ≡ Some armed → read_bit hart.cache (line_number armed.word) ≡ true

reads_moves : Moves (λ h hart. ReadsItsLine hart)
reads_moves = moves_by_ends (λ h hart other now. now)
    (λ h hart now armed is. none_some is)
    (λ h pc hart now armed is. none_some is)

deed_reads : (state : ModelState) (h : ℕ) (deed : Deed) → DoesWhere state h deed → Rested state →
    ReadsItsLine (hart_of state h) → ReadsItsLine (hart_after state h deed (hart_of state h))
deed_reads state h Rests does rested now = now
deed_reads state h Waits does rested now = now
deed_reads state h (Misses line need) does rested now = now
deed_reads state h (Runs touch) runs rested now = λ armed is.
    none_some (sym (candidate_armed _ _ (candidate_of state h) _ ∙ runs.outside.unarmed) ∙ is)
deed_reads state h (Begins swap) does rested now = λ armed is. none_some is
deed_reads state h (Buffers section touch) buffers rested now = λ armed is.
    none_some (sym (live_unarmed state h section rested buffers.goes.goes_on.is_short.inside.live) ∙ is)
deed_reads state h (Commits section) does rested now = λ armed is. none_some is
deed_reads state h (RollsBack section cause) does rested now = λ armed is. none_some is
deed_reads state h (Arms word) arms rested now = λ armed is.
    let line = line_number word in
    let may =
    both_of (may_read (letter_of (cache_of state h) line)) (is_wanted_to_write state h line) arms.may_open in
    subst (λ w. read_bit (touched (marked (cache_of state h) (line_number word) Read) (line_number word))
    (line_number w) ≡ true)
    (same_word is) (read_bit_marked (cache_of state h) (line_number word) may.0)
deed_reads state h (Elides armed swap) does rested now = λ other is. none_some is
deed_reads state h (Continues before) continues rested now = λ armed is.
    subst (λ w. read_bit (cache_of state h) (line_number w) ≡ true) (same_word is)
    (now before continues.is_armed.armed_is)
deed_reads state h (LetsGo armed) does rested now = λ other is. none_some is

-- and a served request leaves it there
others_read : (had : Bool) (need : Need) (cache : List (List Way)) (line l : ℕ) → (need ≡ Write → l ≢ line) →
    read_bit cache l ≡ true → read_bit (others_cache had need cache line) l ≡ true
others_read had Write cache line l apart was =
    ap (bit_in Read) (way_of-without_line_other cache line l (apart refl)) ∙ was
others_read true Read cache line l apart was = was
others_read false Read cache line l apart was = bit_lettered cache line l _ Read ∙ was

read_has : (cache : List (List Way)) (line : ℕ) → read_bit cache line ≡ true → has_bit cache line ≡ true
read_has cache line is = or_left (read_bit cache line) (write_bit cache line) is

all_four : (a b c d : Bool) → a ≡ true → b ≡ true → c ≡ true → d ≡ true → (a && b && c && d) ≡ true
all_four a b c d first second third fourth = and_from _ d (and_from _ c (and_from a b first second) third) fourth

written_apart : (state : ModelState) (request : Request) (g : ℕ) (armed : Armed) → Each (Unfreed request) state →
    g ≢ request.hart → armed_of state g ≡ Some armed → ReadsItsLine (hart_of state g) → request.need ≡ Write →
    line_number armed.word ≢ request.line
written_apart state request g armed gone apart is reads write same =
    clash (gone g)
    (all_four (is_write request) (not (request.hart == g)) (is_some (armed_of state g))
    (has_bit (cache_of state g) request.line) (ap writes write)
    (ap not (other_test request.hart g (λ own. apart (sym own)))) (ap is_some is)
    (read_has (cache_of state g) request.line (ap (read_bit (cache_of state g)) (sym same) ∙ reads armed is)))

-- what holds of every state that can be reached
pub record Guarded (state : ModelState) : Type 0 where
  pub holds : coherence.Holds state
  pub gone : AllLetGone state
  pub reads : Each (λ h hart. ReadsItsLine hart) state

started_reads : (state : ModelState) (by : ℕ) (start : Start) → Guarded state → StartsWhere state by start → (h : ℕ) →
    ReadsItsLine (started state by start h (hart_of state h))
started_reads state by Nothing now where_it h = now.reads h
started_reads state by (Places request place) now where_it h =
    by_hart ReadsItsLine h request.hart (record (hart_of state h) { raised = None }) (hart_of state h)
    (λ own. now.reads h) (λ other. now.reads h)
started_reads state by (Serves request) now may h =
    by_hart ReadsItsLine h request.hart (served_hart state request (hart_of state h))
    (bystander state request (hart_of state h))
    (λ own.
    rw own
    (λ armed armed_is.
    none_some (sym (served_unarmed state by request now.holds.once.rested may.ordered) ∙ armed_is)))
    (λ apart armed armed_is.
    others_read (is_resident (cache_of state request.hart) request.line) request.need (cache_of state h) request.line
    (line_number armed.word)
    (written_apart state request h armed (now.gone request.line request head) apart armed_is (now.reads h))
    (now.reads h armed armed_is))
  where
    head : head_of state request.line ≡ Some request
    head =
        head_is state by request (head_of state request.line) now.holds.once.once may.ordered refl
        (not_blocked _ (other_head request.hart (head_of state request.line)) _ may.free)
started_reads state by (Takes message others) now where_it h =
    by_hart ReadsItsLine h by (having_taken message others (hart_of state h)) (hart_of state h)
    (λ own. taken_keeps reads_moves message others h (hart_of state h) (now.reads h)) (λ other. now.reads h)

bus_reads : {state : ModelState} {by : ℕ} {turn : Turn} → IsBusEvent state by turn → Guarded state →
    Each (λ h hart. ReadsItsLine hart) turn.state
bus_reads {state} {by} done now h =
    moved reads_moves state by done.start h (λ past. now.reads h)
    (λ below. started_reads state by done.start now done.where_it h) (done.becomes h)

next_gone : (state : ModelState) (event : Event) → Guarded state → AllLetGone (next state event).state
next_gone state event now =
    by_event (λ turn. AllLetGone turn.state) state event (λ step. step_gone state event.hart.number now.holds now.gone)
    (λ turn done. bus_gone done now.holds now.gone)

next_reads : (state : ModelState) (event : Event) → Guarded state →
    Each (λ h hart. ReadsItsLine hart) (next state event).state
next_reads state event now =
    let h = event.hart.number in
    by_event (λ turn. Each (λ g hart. ReadsItsLine hart) turn.state) state event
    (λ step. step_keeps (λ g hart. ReadsItsLine hart) state h
    (λ deed does. deed_reads state h deed does now.holds.once.rested (now.reads h)) now.reads)
    (λ turn done. bus_reads done now)

pub next_guarded : (state : ModelState) (event : Event) → Guarded state → Guarded (next state event).state
next_guarded state event now = record {
  holds = coherence.next_holds state event now.holds;
  gone = next_gone state event now;
  reads = next_reads state event now;
}

first_gone : (program : Program) (config : Config) → AllLetGone (begin program config)
unfolding begin
first_gone program config line head found = none_some found

pub first_guarded : (program : Program) (config : Config) → Guarded (begin program config)
first_guarded program config = record {
  holds = coherence.first_holds program config;
  gone = first_gone program config;
  reads = each_new ReadsItsLine program config (λ sets armed is. none_some is);
}

pub always_guarded : (program : Program) (config : Config) (events : List Event) → Guarded (after program config events)
always_guarded program config events =
    kept_after Guarded next_guarded (begin program config) events (first_guarded program config)

-- the laws
pub armed_sections_have_one_read_bit : ArmedSectionsHaveOneReadBit
armed_sections_have_one_read_bit program config events h armed is =
    let now = always_guarded program config events in
    record { read = now.reads h armed is; no_other = ((now.holds.alone h).1 armed is).no_other }

pub armed_harts_wait_for_nothing : ArmedHartsWaitForNothing
armed_harts_wait_for_nothing program config events h armed is =
    by ((always_guarded program config events).holds.once.rested h)
  where
    state : ModelState
    state = after program config events

    by : (armed_of state h ≡ None) ⊎
        RunsWithNothing (status_of state.committed h) (ordered_of state h) (hart_of state h).section
        (hart_of state h).raised (hart_of state h).held_line →
        RunsWithNothing (status_of state.committed h) (ordered_of state h) (hart_of state h).section
        (hart_of state h).raised (hart_of state h).held_line
    by (inl none) = some_none (sym is ∙ none)
    by (inr runs) = runs

pub no_hart_is_live_and_armed : NoHartIsLiveAndArmed
no_hart_is_live_and_armed program config events h armed is =
    (((always_guarded program config events).holds.alone h).1 armed is).no_section

pub ordered_writes_meet_no_armed_hart : OrderedWritesMeetNoArmedHart
ordered_writes_meet_no_armed_hart program config events line head h armed found write apart is =
    false_from_ne_true (has_bit (cache_of state h) line)
    (λ bit.
    clash ((always_guarded program config events).gone line head found h)
    (all_four (is_write head) (not (head.hart == h)) (is_some (armed_of state h)) (has_bit (cache_of state h) head.line)
    (ap writes write)
    (ap not (other_test head.hart h (λ own. apart (sym own)))) (ap is_some is)
    (ap (has_bit (cache_of state h)) (line_of_first_of state.order line head found) ∙ bit)))
  where
    state : ModelState
    state = after program config events
