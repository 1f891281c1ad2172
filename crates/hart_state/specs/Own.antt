-- what a hart keeps beside the bus
use Rattle.std.specs.Prelude.{ℕ, ◌≡◌, Bool, false, [], Option, None, option_map}
use Rattle.el_model.specs.State.{Hart}
use Rattle.pair_table.specs.Predictor.{Predictor, unseen}
use Rattle.reg_mark.specs.Marks.{committed_of}
use Rattle.rv_alu.specs.declared.view.HartView.{HartView}
use Rattle.section_ctl.specs.Calls.{idle_state}
use Rattle.section_ctl.specs.State.{SectionState}

-- the part of a hart that no other hart ever asks for; each field but the first is the one of
-- this name of the definition's hart
pub record OwnState : Type 0 where
  pub section : SectionState  -- its live or its armed section or neither, with its views and its buffered stores
  pub last_lr : Option ℕ  -- the pc of the last LR that it ran outside of a section, or that was let go
  pub predictor : Predictor
  pub fallback : Bool
  pub tries : ℕ

-- it is that of the definition's hart
pub record HasOwn (own : OwnState) (hart : Hart) : Type 0 where
  pub section : own.section.live ≡ hart.section
  pub armed : option_map (λ reserved. reserved.armed) own.section.armed ≡ hart.armed
  pub last_lr : own.last_lr ≡ hart.last_lr
  pub predictor : own.predictor ≡ hart.predictor
  pub fallback : own.fallback ≡ hart.fallback
  pub tries : own.tries ≡ hart.tries

-- before its first event, with a view and with room for stores to so many lines, whose slots are those of this owner
abbrev pub new_own : HartView → ℕ → ℕ → OwnState
new_own view lines owner = record {
  section = idle_state view (record { limit = lines; owner = owner; entries = [] });
  last_lr = None;
  predictor = unseen;
  fallback = false;
  tries = 0;
}

-- the pc of the committed view: outside of a section that of the next instruction, inside of one that of the
-- swap or the LR that it begins with
abbrev pub committed_pc : OwnState → ℕ
committed_pc own = (committed_of own.section.marks).pc
