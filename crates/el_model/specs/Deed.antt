-- a step, told once: the frame that it keeps, and what its hart does
use Rattle.std.specs.Prelude.{ℕ, ◌≡◌, ◌≢◌, ◌+◌, ◌⊎◌, ◌==◌, ◌&&◌, ◌||◌, Bool, true, false, not, Option, None, Some}
use Rattle.residency.specs.Cache.{letter_of, room_of}
use Rattle.el_base.specs.Line.{line_number}
use Rattle.el_base.specs.LineAddr.{line_addr}
use Rattle.el_base.specs.declared.outcomes.Cause.{Cause}
use Rattle.el_base.specs.declared.outcomes.Cause.TheVariants.{Room, Lines, Long, Call, Mixed}
use Rattle.el_base.specs.declared.outcomes.Need.{Need}
use Rattle.el_base.specs.declared.outcomes.Need.TheVariants.{Read}
use Rattle.el_base.specs.declared.outcomes.Outcome.{Outcome}
use Rattle.el_base.specs.declared.outcomes.Outcome.TheVariants as outcomes
use Rattle.el_model.specs.Armed.{completes, continued_hart, is_quiet, let_go_hart, may_grow, shown_armed}
use Rattle.el_model.specs.Conflicts.{is_wanted, is_wanted_to_write}
use Rattle.el_model.specs.InSection.{buffered_hart, committed_hart, is_covered, is_full, shown_in}
use Rattle.el_model.specs.Plain.{arming_hart, began_hart, may_elide, missed_hart, ran_hart}
use Rattle.el_model.specs.RollBack.{rolled_back}
use Rattle.el_model.specs.State.{Armed, Hart, ModelState, Section, Turn, armed_of, cache_of, has_request, hart_of}
use Rattle.el_model.specs.State.{section_of, with_hart}
use Rattle.el_model.specs.Upcoming.{Swap, Touch, calls_or_stops, changes_word, is_release, next_conditional}
use Rattle.el_model.specs.Upcoming.{next_reserved, next_swap, next_touch}
use Rattle.el_model.specs.Upcoming.{stores_to_word}
use Rattle.moesi.specs.Letters.{may_of, may_read}
use Rattle.rv_alu.specs.declared.view.HartStatus.TheVariants.{Running}
use Rattle.rv_flat.specs.FlatState.{FlatState, status_of, view_of}
use Rattle.rv_flat.specs.Run.{alone}
use Rattle.rv_flat.specs.Step.{flat}

-- what a hart does in a step
pub data Deed : Type 0 where
  Rests : Deed  -- it has stopped
  Waits : Deed  -- it waits for its request
  Misses : ℕ → Need → Deed  -- it raises a request
  Runs : Option Touch → Deed  -- one instruction takes effect
  Begins : Swap → Deed  -- its section begins
  Buffers : Section → Option Touch → Deed  -- one instruction of its section runs
  Commits : Section → Deed  -- its section takes effect
  RollsBack : Section → Cause → Deed  -- its section ends without effect
  Arms : ℕ → Deed  -- its LR of a word is kept private
  Elides : Armed → Swap → Deed  -- its section begins at the SC of its armed section
  Continues : Armed → Deed  -- one more instruction of its armed section is kept private
  LetsGo : Armed → Deed  -- its armed section takes effect, and is one no more

-- the hart after its deed
abbrev pub hart_after : ModelState → ℕ → Deed → Hart → Hart
hart_after state h Rests hart = hart
hart_after state h Waits hart = hart
hart_after state h (Misses line need) hart = missed_hart h line need hart
hart_after state h (Runs touch) hart = ran_hart state h touch hart
hart_after state h (Begins swap) hart = began_hart state.config.mode h swap hart
hart_after state h (Buffers section touch) hart = buffered_hart section touch hart
hart_after state h (Commits section) hart = committed_hart (view_of state.committed h).pc hart
hart_after state h (RollsBack section cause) hart =
    rolled_back cause (view_of state.committed h).pc (record hart { held_line = None })
hart_after state h (Arms word) hart = arming_hart word hart
hart_after state h (Elides armed swap) hart = began_hart state.config.mode h swap hart
hart_after state h (Continues armed) hart = continued_hart armed hart
hart_after state h (LetsGo armed) hart = let_go_hart (view_of state.committed h).pc (record hart { held_line = None })

-- what is committed after it
abbrev pub committed_after : ModelState → ℕ → Deed → FlatState
committed_after state h (Runs touch) = flat state.committed h
committed_after state h (Commits section) = alone state.committed h (section.count + 1)
committed_after state h (LetsGo armed) = alone state.committed h armed.count
committed_after state h _ = state.committed

-- how it is told
abbrev pub outcome_of : Deed → Outcome
outcome_of Rests = outcomes.Idle
outcome_of Waits = outcomes.Stalled
outcome_of (Misses line need) = outcomes.Missed (line_addr line) need
outcome_of (Runs touch) = outcomes.Ran
outcome_of (Begins swap) = outcomes.Began
outcome_of (Buffers section touch) = outcomes.Buffered
outcome_of (Commits section) = outcomes.Committed (section.count + 1)
outcome_of (RollsBack section cause) = outcomes.RolledBack cause
outcome_of (Arms word) = outcomes.Armed
outcome_of (Elides armed swap) = outcomes.Began
outcome_of (Continues armed) = outcomes.Buffered
outcome_of (LetsGo armed) = outcomes.LetGo armed.count

-- the frame: nothing but the hart and what is committed changes
abbrev pub done : ModelState → ℕ → Deed → Turn
done state h deed = record {
  state =
      record (with_hart state h (hart_after state h deed (hart_of state h))) {
        committed = committed_after state h deed;
      };
  outcome = outcome_of deed;
}

-- a hart that runs and waits for nothing: outside of a section, with an armed one, and inside of a live one
pub record IsOutside (state : ModelState) (h : ℕ) : Type 0 where
  pub running : status_of state.committed h ≡ Running
  pub free : has_request state h ≡ false
  pub no_section : section_of state h ≡ None
  pub unarmed : armed_of state h ≡ None

pub record IsArmed (state : ModelState) (h : ℕ) (armed : Armed) : Type 0 where
  pub running : status_of state.committed h ≡ Running
  pub free : has_request state h ≡ false
  pub no_section : section_of state h ≡ None
  pub armed_is : armed_of state h ≡ Some armed

pub record IsInside (state : ModelState) (h : ℕ) (section : Section) : Type 0 where
  pub running : status_of state.committed h ≡ Running
  pub free : has_request state h ≡ false
  pub live : section_of state h ≡ Some section

-- a swap that may be elided comes next
pub record IsElidable (state : ModelState) (h : ℕ) (swap : Swap) : Type 0 where
  pub trusted : may_elide state.config.mode (hart_of state h) (view_of state.committed h).pc ≡ true
  pub next : next_swap state.committed h ≡ Some swap

-- an LR at which its hart may arm comes next
pub record IsReserving (state : ModelState) (h word : ℕ) : Type 0 where
  pub trusted : may_elide state.config.mode (hart_of state h) (view_of state.committed h).pc ≡ true
  pub next : next_reserved state.committed h ≡ Some word

-- whether a hart may read the line of a word that no other hart waits to write
abbrev pub is_open : ModelState → ℕ → ℕ → Bool
is_open state h word =
    may_read (letter_of (cache_of state h) (line_number word)) && not (is_wanted_to_write state h (line_number word))

-- whether the letter of a line permits what an instruction does to it
abbrev pub permits : ModelState → ℕ → Touch → Bool
permits state h touch = may_of (letter_of (cache_of state h) touch.line) touch.need

-- an instruction that runs outside of a section is permitted what it touches
abbrev pub IsPermitted : ModelState → ℕ → Option Touch → Type 0
IsPermitted state h None = Unit {0}
IsPermitted state h (Some touch) = permits state h touch ≡ true

-- it is no acquire that may be elided: no swap that changes its word, and no LR that arms its hart
pub record MayRun (state : ModelState) (h : ℕ) (touch : Option Touch) : Type 0 where
  pub outside : IsOutside state h
  pub unelided : (swap : Swap) → IsElidable state h swap → changes_word swap ≡ false
  pub unarming : (word : ℕ) → IsReserving state h word → is_open state h word ≡ false
  pub touches : next_touch state.committed h ≡ touch
  pub permitted : IsPermitted state h touch

-- a section begins at a swap that changes its word, on a line that may be read and that no other hart waits to write
pub record MayBegin (state : ModelState) (h : ℕ) (swap : Swap) : Type 0 where
  pub outside : IsOutside state h
  pub elidable : IsElidable state h swap
  pub changes : changes_word swap ≡ true
  pub readable : may_read (letter_of (cache_of state h) (line_number swap.word)) ≡ true
  pub unwanted : is_wanted_to_write state h (line_number swap.word) ≡ false

-- a hart arms at an LR, on a line that may be read and that no other hart waits to write
pub record MayArm (state : ModelState) (h word : ℕ) : Type 0 where
  pub outside : IsOutside state h
  pub reserving : IsReserving state h word
  pub may_open : is_open state h word ≡ true

-- the SC of an armed section is elided where it changes the section's word, and no other hart waits to write there
pub record MayElide (state : ModelState) (h : ℕ) (armed : Armed) (swap : Swap) : Type 0 where
  pub is_armed : IsArmed state h armed
  pub next : next_conditional (shown_armed state h armed) h ≡ Some swap
  pub completing : completes state h armed swap ≡ true

-- an armed section goes on where the next instruction touches no memory, is no SC and neither
-- calls nor stops, and it may grow
pub record MayContinue (state : ModelState) (h : ℕ) (armed : Armed) : Type 0 where
  pub is_armed : IsArmed state h armed
  pub quiet : is_quiet (shown_armed state h armed) h ≡ true
  pub grows : may_grow state armed ≡ true

-- and is let go where neither holds
pub record MustLetGo (state : ModelState) (h : ℕ) (armed : Armed) : Type 0 where
  pub is_armed : IsArmed state h armed
  pub incomplete : (swap : Swap) → next_conditional (shown_armed state h armed) h ≡ Some swap →
      completes state h armed swap ≡ false
  pub ends : (is_quiet (shown_armed state h armed) h && may_grow state armed) ≡ false

-- outside of a section an instruction misses what it may not touch, and an acquire the line of its word
pub record TouchMisses (state : ModelState) (h line : ℕ) (need : Need) : Type 0 where
  pub touches : next_touch state.committed h ≡ Some (record { line = line; need = need })
  pub refused : permits state h (record { line = line; need = need }) ≡ false

pub record AcquireMisses (state : ModelState) (h line : ℕ) (need : Need) : Type 0 where
  pub swap : Swap
  pub elidable : IsElidable state h swap
  pub line_is : line ≡ line_number swap.word
  pub need_is : need ≡ Read
  pub refused : (may_read (letter_of (cache_of state h) line) ≡ false) ⊎ (is_wanted_to_write state h line ≡ true)

pub record MissesOutside (state : ModelState) (h line : ℕ) (need : Need) : Type 0 where
  pub outside : IsOutside state h
  pub why : TouchMisses state h line need ⊎ AcquireMisses state h line need

-- a section goes on where it is not too long and its next instruction neither calls nor stops; and further where that
-- is not its release and stores not to its word
pub record IsShort (state : ModelState) (h : ℕ) (section : Section) : Type 0 where
  pub inside : IsInside state h section
  pub short : (section.count == state.config.long) ≡ false

pub record GoesOn (state : ModelState) (h : ℕ) (section : Section) : Type 0 where
  pub is_short : IsShort state h section
  pub calls : calls_or_stops (shown_in state h section) h ≡ false

pub record GoesFurther (state : ModelState) (h : ℕ) (section : Section) : Type 0 where
  pub goes_on : GoesOn state h section
  pub releases : is_release (shown_in state h section) h section.word section.old ≡ false
  pub mixes : stores_to_word (shown_in state h section) h section.word ≡ false

-- what it touches next has no bit yet, and may have one more by the number of lines and by the room in the set
pub record WantsBit (state : ModelState) (h : ℕ) (section : Section) (touch : Touch) : Type 0 where
  pub goes : GoesFurther state h section
  pub touches : next_touch (shown_in state h section) h ≡ Some touch
  pub uncovered : is_covered (cache_of state h) touch.line touch.need ≡ false

pub record HasRoom (state : ModelState) (h : ℕ) (section : Section) (touch : Touch) : Type 0 where
  pub wants : WantsBit state h section touch
  pub not_full : is_full state h touch.need ≡ false
  pub room : room_of state.config.ways (cache_of state h) touch.line ≡ true

-- whether the line may not have its bit yet
abbrev pub is_refused : ModelState → ℕ → Touch → Bool
is_refused state h touch = not (permits state h touch) || is_wanted state h touch.line touch.need

-- an instruction of a section runs where what it touches has its bit, or may have it
abbrev pub IsCoverable : ModelState → ℕ → Section → Option Touch → Type 0
IsCoverable state h section None = Unit {0}
IsCoverable state h section (Some touch) =
    (is_covered (cache_of state h) touch.line touch.need ≡ true)
    ⊎ (HasRoom state h section touch × (is_refused state h touch ≡ false))

pub record MayBuffer (state : ModelState) (h : ℕ) (section : Section) (touch : Option Touch) : Type 0 where
  pub goes : GoesFurther state h section
  pub touches : next_touch (shown_in state h section) h ≡ touch
  pub coverable : IsCoverable state h section touch

pub record MissesInside (state : ModelState) (h line : ℕ) (need : Need) : Type 0 where
  pub section : Section
  pub room : HasRoom state h section (record { line = line; need = need })
  pub refused : is_refused state h (record { line = line; need = need }) ≡ true

pub record MayCommit (state : ModelState) (h : ℕ) (section : Section) : Type 0 where
  pub goes_on : GoesOn state h section
  pub releases : is_release (shown_in state h section) h section.word section.old ≡ true

-- why a section is rolled back by its own hart
pub record IsLong (state : ModelState) (h : ℕ) (section : Section) : Type 0 where
  pub inside : IsInside state h section
  pub long : (section.count == state.config.long) ≡ true

pub record IsCall (state : ModelState) (h : ℕ) (section : Section) : Type 0 where
  pub is_short : IsShort state h section
  pub calls : calls_or_stops (shown_in state h section) h ≡ true

pub record IsMixed (state : ModelState) (h : ℕ) (section : Section) : Type 0 where
  pub goes_on : GoesOn state h section
  pub releases : is_release (shown_in state h section) h section.word section.old ≡ false
  pub mixes : stores_to_word (shown_in state h section) h section.word ≡ true

pub record IsTooWide (state : ModelState) (h : ℕ) (section : Section) : Type 0 where
  pub touch : Touch
  pub wants : WantsBit state h section touch
  pub full : is_full state h touch.need ≡ true

pub record IsOutOfRoom (state : ModelState) (h : ℕ) (section : Section) : Type 0 where
  pub touch : Touch
  pub wants : WantsBit state h section touch
  pub no_room : room_of state.config.ways (cache_of state h) touch.line ≡ false

abbrev pub MustRollBack : ModelState → ℕ → Section → Cause → Type 0
MustRollBack state h section Long = IsLong state h section
MustRollBack state h section Call = IsCall state h section
MustRollBack state h section Mixed = IsMixed state h section
MustRollBack state h section Lines = IsTooWide state h section
MustRollBack state h section Room = IsOutOfRoom state h section

-- where a hart does a deed
pub record HasToWait (state : ModelState) (h : ℕ) : Type 0 where
  pub running : status_of state.committed h ≡ Running
  pub waits : has_request state h ≡ true

abbrev pub DoesWhere : ModelState → ℕ → Deed → Type 0
DoesWhere state h Rests = status_of state.committed h ≢ Running
DoesWhere state h Waits = HasToWait state h
DoesWhere state h (Misses line need) = MissesOutside state h line need ⊎ MissesInside state h line need
DoesWhere state h (Runs touch) = MayRun state h touch
DoesWhere state h (Begins swap) = MayBegin state h swap
DoesWhere state h (Buffers section touch) = MayBuffer state h section touch
DoesWhere state h (Commits section) = MayCommit state h section
DoesWhere state h (RollsBack section cause) = MustRollBack state h section cause
DoesWhere state h (Arms word) = MayArm state h word
DoesWhere state h (Elides armed swap) = MayElide state h armed swap
DoesWhere state h (Continues armed) = MayContinue state h armed
DoesWhere state h (LetsGo armed) = MustLetGo state h armed

-- what a step is: a deed of its hart, where the hart does it, and nothing else
pub record IsDeed (state : ModelState) (h : ℕ) (turn : Turn) : Type 0 where
  pub deed : Deed
  pub where_it : DoesWhere state h deed
  pub turn_is : turn ≡ done state h deed
