-- a step of a hart without a live or armed section, which runs and waits for no request
use Rattle.std.specs.Prelude.{ℕ, suc, Bool, true, false, ◌&&◌, List, Option, None, Some, is_some, not, nat_le}
use Rattle.std.specs.Prelude.{if◌then◌else◌}
use Rattle.residency.specs.Cache.{letter_of, lettered, marked, touched}
use Rattle.residency.specs.Residency.{Way}
use Rattle.el_base.specs.Line.{line_number}
use Rattle.el_base.specs.LineAddr.{line_addr}
use Rattle.el_base.specs.declared.config.Mode.{Mode}
use Rattle.el_base.specs.declared.config.Mode.TheVariants as modes
use Rattle.el_base.specs.declared.outcomes.Need.{Need}
use Rattle.el_base.specs.declared.outcomes.Need.TheVariants.{Read, Write}
use Rattle.el_base.specs.declared.outcomes.Outcome.TheVariants as outcomes
use Rattle.el_model.specs.Attempts.{open_attempt}
use Rattle.el_model.specs.Conflicts.{is_wanted_to_write}
use Rattle.el_model.specs.State.{Armed, Hart, ModelState, Turn, cache_of, hart_of, with_hart}
use Rattle.el_model.specs.Upcoming.{Swap, Touch, calls_or_stops, changes_word, is_load_reserved, is_release}
use Rattle.el_model.specs.Upcoming.{is_store_conditional, next_exchange}
use Rattle.el_model.specs.Upcoming.{next_reserved, next_swap, next_touch, stores_to_word}
use Rattle.moesi.specs.Letters.{may_of, may_read}
use Rattle.moesi.specs.declared.letter.Letter.TheVariants.{M}
use Rattle.pair_table.specs.Predictor.{Predictor, Watch, confidence_of, saw_of, unwatched, watching}
use Rattle.pair_table.specs.declared.seen.Seen.{Seen}
use Rattle.rv_flat.specs.FlatState.{FlatState, view_of}
use Rattle.rv_flat.specs.Laws.{next_insn}
use Rattle.rv_flat.specs.Step.{flat}

-- what such a step comes to
pub data PlainRule : Type 0 where
  Runs : Option Touch → PlainRule  -- one instruction runs, which touches a line or none
  Misses : ℕ → Need → PlainRule  -- a request is raised
  Begins : Swap → PlainRule  -- the acquire is elided, and a section begins
  Arms : ℕ → PlainRule  -- the LR of a word and what comes behind it are kept private

-- whether locks are elided in this mode
abbrev pub elides : Mode → Bool
elides modes.Plain = false
elides modes.Sle = true
elides modes.Tlr = true

-- how far a place must be trusted for its swap to be elided
abbrev pub least_confidence : ℕ
least_confidence = 2

-- whether a hart may elide the swap, or arm at the LR, at a pc
abbrev pub may_elide : Mode → Hart → ℕ → Bool
may_elide mode hart pc =
    elides mode && not hart.fallback && nat_le least_confidence (confidence_of hart.predictor pc)

-- the hart's next instruction where it is a swap that may be elided
abbrev pub elidable_swap : ModelState → ℕ → Option Swap
elidable_swap state h =
    if may_elide state.config.mode (hart_of state h) (view_of state.committed h).pc then next_swap state.committed h
    else None

-- the word of the hart's next instruction where it is an LR at which it may arm
abbrev pub elidable_reserve : ModelState → ℕ → Option ℕ
elidable_reserve state h =
    if may_elide state.config.mode (hart_of state h) (view_of state.committed h).pc then next_reserved state.committed h
    else None

-- an instruction runs where the letter of its line permits it
abbrev pub touch_rule : ModelState → ℕ → Option Touch → PlainRule
touch_rule state h None = Runs None
touch_rule state h (Some touch) =
    if may_of (letter_of (cache_of state h) touch.line) touch.need then Runs (Some touch)
    else Misses touch.line touch.need

-- an LR arms its hart where the hart may read its line and no other hart waits to write there;
-- else it runs as any instruction
abbrev pub reserve_rule : ModelState → ℕ → Option ℕ → PlainRule
reserve_rule state h None = touch_rule state h (next_touch state.committed h)
reserve_rule state h (Some word) =
    if may_read (letter_of (cache_of state h) (line_number word))
    && not (is_wanted_to_write state h (line_number word)) then Arms word
    else touch_rule state h (next_touch state.committed h)

-- an elidable swap needs its line for reading; one that changes its word begins a section, unless
-- another hart waits to write there
abbrev pub swap_rule : ModelState → ℕ → Option Swap → PlainRule
swap_rule state h None = reserve_rule state h (elidable_reserve state h)
swap_rule state h (Some swap) =
    if not (may_read (letter_of (cache_of state h) (line_number swap.word))) then Misses (line_number swap.word) Read
    else if not (changes_word swap) then touch_rule state h (next_touch state.committed h)
    else if is_wanted_to_write state h (line_number swap.word) then Misses (line_number swap.word) Read
    else Begins swap

abbrev pub plain_rule : ModelState → ℕ → PlainRule
plain_rule state h = swap_rule state h (elidable_swap state h)

-- a line that was read or written outside of a section is the most recent, and a written one is modified
abbrev pub after_access : List (List Way) → ℕ → Need → List (List Way)
after_access cache line Read = touched cache line
after_access cache line Write = lettered (touched cache line) line M

abbrev pub after_touch : List (List Way) → Option Touch → List (List Way)
after_touch cache None = cache
after_touch cache (Some touch) = after_access cache touch.line touch.need

-- what the next instruction is to a watch
abbrev pub seen_by : FlatState → ℕ → Watch → Seen
seen_by flat h watch = record {
  release = is_release flat h watch.word watch.old;
  touches = stores_to_word flat h watch.word;
  call_or_stop = calls_or_stops flat h;
}

-- the predictor after the watch, if one stands, has seen the next instruction
abbrev pub watched : ModelState → ℕ → Predictor → Option Watch → Predictor
watched state h predictor None = predictor
watched state h predictor (Some watch) = saw_of predictor (seen_by state.committed h watch) state.config.long

-- the hart's next instruction where it is a candidate for an acquire, in a mode that elides
abbrev pub if_candidate : Mode → Option Swap → Option Swap
if_candidate mode None = None
if_candidate mode (Some swap) = if elides mode && changes_word swap then Some swap else None

abbrev pub candidate_of : ModelState → ℕ → Option Swap
candidate_of state h = if_candidate state.config.mode (next_exchange state.committed h)

-- where an acquire begins: a swap at its own pc, an SC at the pc of the last LR of its hart
abbrev pub acquire_pc : ModelState → ℕ → Option ℕ
acquire_pc state h =
    if is_store_conditional (next_insn state.committed h) then (hart_of state h).last_lr
    else Some (view_of state.committed h).pc

-- an exchange is watched that begins at a pc, if one is known
abbrev pub watching_from : Predictor → Option ℕ → Swap → Predictor
watching_from predictor None swap = predictor
watching_from predictor (Some pc) swap = watching predictor pc swap.word swap.old

-- a candidate that ran ends the fallback, and is watched where no watch stood before
abbrev pub after_candidate : Option ℕ → Bool → Option Swap → Hart → Hart
after_candidate pc had_watch None hart = hart
after_candidate pc had_watch (Some swap) hart =
    record hart {
      fallback = false;
      predictor = if had_watch then hart.predictor else watching_from hart.predictor pc swap;
    }

-- the pc of the last LR after the next instruction ran
abbrev pub last_reserve : ModelState → ℕ → Option ℕ → Option ℕ
last_reserve state h last =
    if is_load_reserved (next_insn state.committed h) then Some (view_of state.committed h).pc else last

-- a hart whose next instruction runs outside of a section
abbrev pub ran_hart : ModelState → ℕ → Option Touch → Hart → Hart
ran_hart state h touch hart =
    after_candidate (acquire_pc state h) (is_some hart.predictor.watch) (candidate_of state h)
    (record hart {
      last_lr = last_reserve state h hart.last_lr;
      held_line = None;
      cache = after_touch hart.cache touch;
      predictor = watched state h hart.predictor hart.predictor.watch;
    })

-- a hart that raises a request, with the stamp of its open attempt
abbrev pub missed_hart : ℕ → ℕ → Need → Hart → Hart
missed_hart h line need hart =
    record hart {
      held_line = None;
      raised = Some (record { hart = h; line = line; need = need; stamp = hart.attempt });
    }

abbrev pub missed : ModelState → ℕ → ℕ → Need → Turn
missed state h line need = record {
  state = with_hart state h (missed_hart h line need (hart_of state h));
  outcome = outcomes.Missed (line_addr line) need;
}

-- how many instructions a hart has kept private before its section begins
abbrev pub armed_count : Option Armed → ℕ
armed_count None = 0
armed_count (Some armed) = armed.count

-- a hart that begins a section at a swap, or at the SC of its armed section: a watch is dropped without a verdict
abbrev pub began_hart : Mode → ℕ → Swap → Hart → Hart
began_hart mode h swap hart =
    open_attempt mode h
    (record hart {
      section =
          Some (record { count = suc (armed_count hart.armed); word = swap.word; old = swap.old; new = swap.new });
      armed = None;
      cache = touched (marked hart.cache (line_number swap.word) Read) (line_number swap.word);
      held_line = None;
      predictor = unwatched hart.predictor;
    })

-- a hart that arms at the LR of a word: its one bit is the read bit of the word's line
abbrev pub arming_hart : ℕ → Hart → Hart
arming_hart word hart =
    record hart {
      armed = Some (record { count = 1; word = word });
      cache = touched (marked hart.cache (line_number word) Read) (line_number word);
      held_line = None;
    }

-- what a rule does
unfoldable pub by_plain_rule : ModelState → ℕ → PlainRule → Turn
by_plain_rule state h (Runs touch) = record {
  state =
      record (with_hart state h (ran_hart state h touch (hart_of state h))) { committed = flat state.committed h };
  outcome = outcomes.Ran;
}
by_plain_rule state h (Misses line need) = missed state h line need
by_plain_rule state h (Begins swap) = record {
  state = with_hart state h (began_hart state.config.mode h swap (hart_of state h));
  outcome = outcomes.Began;
}
by_plain_rule state h (Arms word) = record {
  state = with_hart state h (arming_hart word (hart_of state h));
  outcome = outcomes.Armed;
}

unfoldable pub plain_turn : ModelState → ℕ → Turn
plain_turn state h = by_plain_rule state h (plain_rule state h)
