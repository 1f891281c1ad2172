-- what a hart's events make of what it keeps beside the bus
use Rattle.std.specs.Prelude.{ℕ, ◌≡◌, Bool, false, true, ◌&&◌, Option, None, Some, is_some, not, nat_le, option_map}
use Rattle.std.specs.Prelude.{if◌then◌else◌}
use Rattle.el_base.specs.declared.config.Config.{Config}
use Rattle.el_base.specs.declared.config.Mode.{Mode}
use Rattle.el_base.specs.declared.outcomes.Cause.{Cause}
use Rattle.el_model.specs.Losses.{Standing, lost_in}
use Rattle.el_model.specs.Plain.{candidate_of, elides, last_reserve, least_confidence, watched, watching_from}
use Rattle.el_model.specs.RollBack.{blamed}
use Rattle.el_model.specs.State.{ModelState}
use Rattle.el_model.specs.Upcoming.{Swap, is_load_reserved, is_store_conditional, next_exchange}
use Rattle.hart_state.specs.Own.{OwnState, committed_pc}
use Rattle.pair_table.specs.Predictor.{Watch, confidence_of, counting, settled, unwatched}
use Rattle.pair_table.specs.declared.verdict.Verdict.TheVariants.{Up}
use Rattle.reg_mark.specs.Marks.{marks_unreserved}
use Rattle.rv_alu.specs.declared.action.Action.{Action}
use Rattle.rv_flat.specs.FlatState.{view_of}
use Rattle.rv_flat.specs.Laws.{next_insn}
use Rattle.section_ctl.specs.Calls.{armed_state, begun_state, elided_state, let_go_state, rolled_back_state}
use Rattle.section_ctl.specs.State.{Reserved, SectionState}
use Rattle.step_rules.specs.Actions.{IsNext, numbered_swap}
use Rattle.step_rules.specs.declared.upcoming.Swap as swaps

-- whether a swap at the committed pc may be elided, and whether the hart may arm at an LR there
abbrev pub own_may_elide : Mode → OwnState → Bool
own_may_elide mode own =
    elides mode && not own.fallback && nat_le least_confidence (confidence_of own.predictor (committed_pc own))

-- the committed view's reservation of a word on a line has ended
abbrev pub unreserved_own : ℕ → OwnState → OwnState
unreserved_own line own =
    record own { section = record own.section { marks = marks_unreserved line own.section.marks } }

-- the next instruction of a hart outside of a section: its pc, its action, the exchange that it is, if it
-- is one, and whether it is an LR
pub record IsNextStep (state : ModelState) (h : ℕ) (config : Config) (pc : ℕ) (action : Action)
    (swap : Option swaps.Swap)
    (reserves : Bool) : Type 0 where
  pub config_is : state.config ≡ config
  pub pc_is : (view_of state.committed h).pc ≡ pc
  pub action_is : IsNext action state.committed h
  pub swap_is : option_map numbered_swap swap ≡ next_exchange state.committed h
  pub reserves_is : reserves ≡ is_load_reserved (next_insn state.committed h)

-- where an acquire that comes next begins: a swap at its own pc, an SC at the pc of the hart's last LR
abbrev pub own_acquire_pc : ModelState → ℕ → OwnState → Option ℕ
own_acquire_pc state h own =
    if is_store_conditional (next_insn state.committed h) then own.last_lr else Some (view_of state.committed h).pc

-- a candidate that begins at a pc, if one is known, and ran: it ends the fallback, and is
-- watched where no watch stood before
abbrev pub candidate_own : Option ℕ → Bool → Option Swap → OwnState → OwnState
candidate_own pc had_watch None own = own
candidate_own pc had_watch (Some swap) own =
    record own {
      fallback = false;
      predictor = if had_watch then own.predictor else watching_from own.predictor pc swap;
    }

-- the next instruction of a hart has run outside of a section: the watch, if one stands, has seen
-- it, and the pc of an LR is kept
abbrev pub ran_own : ModelState → ℕ → OwnState → OwnState
ran_own state h own =
    candidate_own (own_acquire_pc state h own) (is_some own.predictor.watch) (candidate_of state h)
    (record own {
      last_lr = last_reserve state h own.last_lr;
      predictor = watched state h own.predictor own.predictor.watch;
    })

-- a watch that stands has counted one instruction more or is gone, and where none stood a new one has counted its own
abbrev pub CountsOn : Option Watch → Option Watch → Type 0
CountsOn old None = Unit {0}
CountsOn None (Some new) = new.count ≡ 1
CountsOn (Some old) (Some new) = new ≡ counting old

-- a section has begun at a swap, which puts the old value into a register: a watch is dropped without a verdict
abbrev pub began_own : ℕ → ℕ → ℕ → ℕ → OwnState → OwnState
began_own word old new rd own =
    record own { section = begun_state own.section word old new rd; predictor = unwatched own.predictor }

-- a section has armed at an LR, which puts the value that it found into a register
abbrev pub armed_own : ℕ → ℕ → ℕ → OwnState → OwnState
armed_own word old rd own = record own { section = armed_state own.section word old rd }

-- an armed section has become a live one at its SC: a watch is dropped without a verdict
abbrev pub elided_own : Reserved → ℕ → ℕ → OwnState → OwnState
elided_own reserved new rd own =
    record own { section = elided_state own.section reserved new rd; predictor = unwatched own.predictor }

-- an armed section was let go: its LR is the last one that takes effect
abbrev pub let_go_own : OwnState → OwnState
let_go_own own = record own { section = let_go_state own.section; last_lr = Some (committed_pc own) }

-- an action has run in the section: only the section has changed
abbrev pub buffered_own : SectionState → OwnState → OwnState
buffered_own section own = record own { section = section }

-- the section has committed, and is this one now
abbrev pub committed_own : SectionState → OwnState → OwnState
committed_own section own =
    record own { section = section; tries = 0; predictor = settled own.predictor (committed_pc own) Up }

-- the hart itself has rolled its section back
abbrev pub rolled_back_own : Cause → OwnState → OwnState
rolled_back_own cause own =
    record own {
      section = rolled_back_state own.section;
      tries = 0;
      fallback = true;
      predictor = blamed cause (committed_pc own) own.predictor;
    }

-- the section, the tries and the fallback flag
abbrev pub standing_own : OwnState → Standing
standing_own own = record { section = own.section.live; tries = own.tries; fallback = own.fallback }

-- out of the section, with the tries and the flag of a standing
abbrev pub left_own : Standing → OwnState → OwnState
left_own standing own =
    record own { section = rolled_back_state own.section; tries = standing.tries; fallback = standing.fallback }

-- the section was lost by a conflict
abbrev pub lost_own : Mode → OwnState → OwnState
lost_own mode own = left_own (lost_in mode (standing_own own)) own

-- what is left to it by an event that tells the hart that it lost to, if it lost
abbrev pub restored_own : Mode → Option ℕ → OwnState → OwnState
restored_own mode None own = own
restored_own mode (Some winner) own = lost_own mode own
