-- a hart with a live section that acts, by the rule that its step follows
use Rattle.std.specs.Prelude.{ℕ, ◌≡◌}
use Rattle.el_model.specs.InSection.{SectionRule, section_rule}
use Rattle.el_model.specs.State.{ModelState, Section}
use Rattle.engine.specs.Acting.{ActsInside}
use Rattle.engine.specs.Parts.{Parts}
use Rattle.snoop.specs.Asking.{HasNoRequest}

-- it acts so from some state, and waits for nothing
pub record ActsInSection (parts : Parts) (h : ℕ) : Type 0 where
  pub from : ModelState
  pub section : Section
  pub inside : ActsInside parts h from section
  pub free : HasNoRequest parts.bus h

-- the rule of its step from a state is this one
pub record FollowsRule (parts : Parts) (h : ℕ) (from : ModelState) (section : Section)
    (rule : SectionRule) : Type 0 where
  pub inside : ActsInside parts h from section
  pub rule_is : section_rule from h section ≡ rule

-- and so it is from some state
pub record FollowsSomewhere (parts : Parts) (h : ℕ) (rule : SectionRule) : Type 0 where
  pub from : ModelState
  pub section : Section
  pub follows : FollowsRule parts h from section rule
  pub free : HasNoRequest parts.bus h
