-- a hart with an armed section that acts, by the rule that its step follows
use Rattle.std.specs.Prelude.{ℕ, ◌≡◌}
use Rattle.el_model.specs.Armed.{ArmedRule, armed_rule}
use Rattle.el_model.specs.State.{Armed, ModelState}
use Rattle.engine.specs.Acting.{ActsArmed}
use Rattle.engine.specs.Parts.{Parts}
use Rattle.snoop.specs.Asking.{HasNoRequest}

-- it acts so from some state, and waits for nothing
pub record ArmedSomewhere (parts : Parts) (h : ℕ) (armed : Armed) : Type 0 where
  pub from : ModelState
  pub acts : ActsArmed parts h from armed
  pub free : HasNoRequest parts.bus h

-- the rule of its step from a state is this one
pub record FollowsArmed (parts : Parts) (h : ℕ) (armed : Armed) (rule : ArmedRule) (from : ModelState) : Type 0 where
  pub acts : ActsArmed parts h from armed
  pub rule_is : armed_rule from h armed ≡ rule

-- and so it is from some state
pub record FollowsArmedSomewhere (parts : Parts) (h : ℕ) (armed : Armed) (rule : ArmedRule) : Type 0 where
  pub from : ModelState
  pub follows : FollowsArmed parts h armed rule from
  pub free : HasNoRequest parts.bus h
