-- a step of a hart with a live section, which waits for no request
use Rattle.std.specs.Prelude.{ℕ, ◌+◌, Bool, false, ◌||◌, List, Option, None, Some, not, ◌==◌, if◌then◌else◌}
use Rattle.residency.specs.Cache.{committed, letter_of, marked, read_bit, room_of, touched, write_bit, write_bits_of}
use Rattle.residency.specs.Residency.{Way}
use Rattle.el_base.specs.declared.outcomes.Cause.{Cause}
use Rattle.el_base.specs.declared.outcomes.Cause.TheVariants.{Room, Lines, Long, Call, Mixed}
use Rattle.el_base.specs.declared.outcomes.Need.{Need}
use Rattle.el_base.specs.declared.outcomes.Need.TheVariants.{Read, Write}
use Rattle.el_base.specs.declared.outcomes.Outcome.TheVariants as outcomes
use Rattle.el_model.specs.Attempts.{close_attempt}
use Rattle.el_model.specs.Conflicts.{is_wanted}
use Rattle.el_model.specs.Plain.{missed}
use Rattle.el_model.specs.RollBack.{rolled_back}
use Rattle.el_model.specs.State.{Hart, ModelState, Section, Turn, cache_of, hart_of, with_hart}
use Rattle.el_model.specs.Upcoming.{Touch, calls_or_stops, is_release, next_touch, stores_to_word}
use Rattle.moesi.specs.Letters.{may_of}
use Rattle.pair_table.specs.Predictor.{settled}
use Rattle.pair_table.specs.declared.verdict.Verdict.TheVariants.{Up}
use Rattle.rv_flat.specs.FlatState.{FlatState, view_of}
use Rattle.rv_flat.specs.Run.{alone}

-- what such a step comes to
pub data SectionRule : Type 0 where
  RollsBack : Cause → SectionRule
  Commits : SectionRule
  Buffers : Option Touch → SectionRule  -- one instruction runs, and what it touches has its bit
  Misses : ℕ → Need → SectionRule

-- what the section shows: the state after its instructions alone
abbrev pub shown_in : ModelState → ℕ → Section → FlatState
shown_in state h section = alone state.committed h section.count

-- whether a line has the bit that an instruction wants: the write bit, or for a read either
abbrev pub is_covered : List (List Way) → ℕ → Need → Bool
is_covered cache line Read = read_bit cache line || write_bit cache line
is_covered cache line Write = write_bit cache line

-- whether one more written line would be too many
abbrev pub is_full : ModelState → ℕ → Need → Bool
is_full state h Read = false
is_full state h Write = write_bits_of (cache_of state h) == state.config.lines

-- a line without the bit: it must be one that may be written beside the others, have room, be
-- permitted and be wanted by nobody else
abbrev pub bit_rule : ModelState → ℕ → Touch → SectionRule
bit_rule state h touch =
    if is_covered (cache_of state h) touch.line touch.need then Buffers (Some touch)
    else if is_full state h touch.need then RollsBack Lines
    else if not (room_of state.config.ways (cache_of state h) touch.line) then RollsBack Room
    else if not (may_of (letter_of (cache_of state h) touch.line) touch.need) || is_wanted state h touch.line touch.need
    then Misses touch.line touch.need
    else Buffers (Some touch)

abbrev pub touch_rule : ModelState → ℕ → Option Touch → SectionRule
touch_rule state h None = Buffers None
touch_rule state h (Some touch) = bit_rule state h touch

-- a section ends at its length, at a call or a stop, at its release, and at another store to its word;
-- any other instruction is buffered
abbrev pub section_rule : ModelState → ℕ → Section → SectionRule
section_rule state h section =
    let shown = shown_in state h section in
    if section.count == state.config.long then RollsBack Long
    else if calls_or_stops shown h then RollsBack Call
    else if is_release shown h section.word section.old then Commits
    else if stores_to_word shown h section.word then RollsBack Mixed
    else touch_rule state h (next_touch shown h)

-- the cache after a section touched a line, with the bit of its need
abbrev pub covered : List (List Way) → Option Touch → List (List Way)
covered cache None = cache
covered cache (Some touch) =
    touched (if is_covered cache touch.line touch.need then cache else marked cache touch.line touch.need) touch.line

-- a hart after one more instruction of its section
abbrev pub buffered_hart : Section → Option Touch → Hart → Hart
buffered_hart section touch hart =
    record hart {
      section = Some (record section { count = section.count + 1 });
      cache = covered hart.cache touch;
      held_line = None;
    }

-- a hart after its section, whose acquire begins at a pc, committed
abbrev pub committed_hart : ℕ → Hart → Hart
committed_hart pc hart =
    record (close_attempt hart) {
      section = None;
      armed = None;
      cache = committed hart.cache;
      held_line = None;
      tries = 0;
      predictor = settled hart.predictor pc Up;
    }

-- what a rule does; the committed view of a hart in a section stands at the acquire
unfoldable pub by_section_rule : ModelState → ℕ → Section → SectionRule → Turn
by_section_rule state h section (RollsBack cause) = record {
  state =
      with_hart state h
      (rolled_back cause (view_of state.committed h).pc (record (hart_of state h) { held_line = None }));
  outcome = outcomes.RolledBack cause;
}
by_section_rule state h section Commits = record {
  state =
      record (with_hart state h (committed_hart (view_of state.committed h).pc (hart_of state h))) {
        committed = alone state.committed h (section.count + 1);
      };
  outcome = outcomes.Committed (section.count + 1);
}
by_section_rule state h section (Buffers touch) = record {
  state = with_hart state h (buffered_hart section touch (hart_of state h));
  outcome = outcomes.Buffered;
}
by_section_rule state h section (Misses line need) = missed state h line need

unfoldable pub section_turn : ModelState → ℕ → Section → Turn
section_turn state h section = by_section_rule state h section (section_rule state h section)
