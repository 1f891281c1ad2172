-- The ranges of a configuration in range.
use Rattle.std.proofs.Common.{◌≡◌, ℕ, ◌≤◌, Bool, true, false, not, List, [], ◌∷◌, cond, Option, Some, None, refl, arith}
use Rattle.std.specs.Option.{option_or}
use Rattle.std.proofs.lemmas.Bool.Decides.{nat_tests}
use Rattle.el_base.specs.Config.{within, allows, field_fault, IsInRange}
use Rattle.el_base.specs.Firsts.{first_of}
use Rattle.el_base.specs.declared.config.Config.{Config}
use Rattle.el_base.specs.declared.config.ConfigFault.{ConfigFault}
use Rattle.el_base.specs.declared.config.ConfigFault.TheVariants.{Harts, Sets, Ways, Lines, Long, Steps}

-- each field of the configuration is in its range
pub record Ranges (c : Config) : Type 0 where
  pub harts : allows Harts c.harts ≡ true
  pub sets : allows Sets c.sets ≡ true
  pub ways : allows Ways c.ways ≡ true
  pub lines : allows Lines c.lines ≡ true
  pub long : allows Long c.long ≡ true
  pub steps : allows Steps c.steps ≡ true

passed-by : (allowed : Bool) (fault : ConfigFault) (later : Option ConfigFault) →
    option_or (cond (not allowed) (Some fault) None) later ≡ None → (allowed ≡ true) × (later ≡ None)
passed-by true fault later none = (refl, none)
passed-by false fault later none = absurd cc

-- where no field has a fault, the first one has none, nor have those after it
passed : (field : ConfigFault) (n : ℕ) (later : List (Option ConfigFault)) →
    first_of (field_fault field n ∷ later) ≡ None → (allows field n ≡ true) × (first_of later ≡ None)
passed field n later none = passed-by (allows field n) field (first_of later) none

pub ranges : (c : Config) → IsInRange c → Ranges c
ranges c none =
    let long = field_fault Long c.long ∷ field_fault Steps c.steps ∷ [] in
    let lines = field_fault Lines c.lines ∷ long in
    let ways = field_fault Ways c.ways ∷ lines in
    let sets = field_fault Sets c.sets ∷ ways in
    let harts-pass = passed Harts c.harts sets none in
    let sets-pass = passed Sets c.sets ways harts-pass.1 in
    let ways-pass = passed Ways c.ways lines sets-pass.1 in
    let lines-pass = passed Lines c.lines long ways-pass.1 in
    let long-pass = passed Long c.long (field_fault Steps c.steps ∷ []) lines-pass.1 in
    let steps-pass = passed Steps c.steps [] long-pass.1 in
    record {
      harts = harts-pass.0;
      sets = sets-pass.0;
      ways = ways-pass.0;
      lines = lines-pass.0;
      long = long-pass.0;
      steps = steps-pass.0;
    }

passing : (allowed : Bool) (fault : ConfigFault) (later : Option ConfigFault) → allowed ≡ true → later ≡ None →
    option_or (cond (not allowed) (Some fault) None) later ≡ None
passing true fault later passes none = none
passing false fault later passes none = absurd cc

pub in_range : (c : Config) → Ranges c → IsInRange c
in_range c r =
    passing (allows Harts c.harts) Harts _ r.harts
    (passing (allows Sets c.sets) Sets _ r.sets
    (passing (allows Ways c.ways) Ways _ r.ways
    (passing (allows Lines c.lines) Lines _ r.lines
    (passing (allows Long c.long) Long _ r.long
    (passing (allows Steps c.steps) Steps None r.steps refl)))))

-- the two ends of a range
pub at_least : (low high n : ℕ) → within low high n ≡ true → low ≤ n
at_least low high n e = grind (arith, nat_tests)

pub at_most : (low high n : ℕ) → within low high n ≡ true → n ≤ high
at_most low high n e = grind (arith, nat_tests)

-- there are no more than 8 harts
pub harts_in_range : (config : Config) → IsInRange config → config.harts ≤ 8
harts_in_range config in_range = at_most 1 8 config.harts (ranges config in_range).harts
