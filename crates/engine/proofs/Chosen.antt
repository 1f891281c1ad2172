-- what the rule of a step outside of a section tells of its action
use Rattle.std.proofs.Common.{◌≡◌, ◌≢◌, ◌∙◌, ℕ, Bool, true, false, Option, Some, None, ap, sym}
use Rattle.std.specs.Prelude.{if◌then◌else◌}
use Rattle.residency.specs.Cache.{is_resident}
use Rattle.cached_step.specs.CacheRun.{permitted}
use Rattle.core_step.specs.Run.{lacking}
use Rattle.el_base.specs.Line.{line_number}
use Rattle.el_base.specs.declared.config.Mode.{Mode}
use Rattle.el_base.specs.declared.config.Mode.TheVariants.{Plain, Sle, Tlr}
use Rattle.el_base.specs.declared.outcomes.Need.{Need}
use Rattle.el_base.proofs.Laws.Cases.{none_some}
use Rattle.el_model.specs.Conflicts.{is_wanted_to_write}
use Rattle.el_model.specs.Plain.{Arms, Begins, Misses, Runs, elidable_reserve, elidable_swap, may_elide, plain_rule}
use Rattle.el_model.specs.State.{Hart, ModelState, hart_of}
use Rattle.el_model.specs.Upcoming.{Swap, Touch, next_reserved, next_swap, next_touch, touch_of}
use Rattle.engine.proofs.Misses.{own_cache}
use Rattle.engine.proofs.PlainRules.{ArmsAt, BeginsAt, TouchesLine, TouchesWord, arms_word, begins_swap, lacks_none}
use Rattle.engine.proofs.PlainRules.{misses_touch, runs_touch, same_touch}
use Rattle.engine.proofs.PlainRules.{swapping_rule, swapping_same}
use Rattle.engine.proofs.StandsOutside.{action_is}
use Rattle.engine.proofs.Laws.Swaps.{IsReserveOf, reserve_action, touches_word}
use Rattle.engine.specs.Acting.{ActsOutside, cache_in, next_action}
use Rattle.engine.specs.Parts.{Parts}
use Rattle.rv_alu.specs.Footprint.{footprint}
use Rattle.rv_alu.specs.declared.action.Action.{Action}
use Rattle.rv_flat.specs.FlatState.{view_of}
use Rattle.rv_flat.specs.Memory.{byte_in}
use Rattle.step_rules.proofs.Laws.Begins.{readable_there}
use Rattle.step_rules.proofs.Laws.NextAction.{next_reserved as reserve_next, next_swap as swap_next}
use Rattle.step_rules.proofs.Laws.NextAction.{next_touch as touch_next}
use Rattle.step_rules.specs.Actions.{IsNext}
use Rattle.step_rules.specs.Rules.{touching_rule}

if_some : {A : Type 0} (b : Bool) (found : Option A) (swap : A) → (if b then found else None) ≡ Some swap →
    found ≡ Some swap
if_some true found swap is = is
if_some false found swap is = none_some is

-- what may be elided is so in no plain mode
elided_not_plain : {A : Type 0} (mode : Mode) (hart : Hart) (pc : ℕ) (found : Option A) (x : A) →
    (if may_elide mode hart pc then found else None) ≡ Some x → mode ≢ Plain
elided_not_plain Plain hart pc found x is plain = none_some is
elided_not_plain Sle hart pc found x is plain = absurd (cc)
elided_not_plain Tlr hart pc found x is plain = absurd (cc)

if_touches : (b : Bool) (found : Option Swap) (touch : Option Touch) → TouchesWord found touch →
    TouchesWord (if b then found else None) touch
if_touches true found touch touches = touches
if_touches false found touch touches = tt

module _ (parts : Parts) (h : ℕ) (state : ModelState) (action : Action) (acts : ActsOutside parts h state)
    (is : action ≡ next_action parts h) where
  pub next : IsNext action state.committed h
  next = is ∙ action_is parts h state acts

  rule_is : plain_rule state h
      ≡ swapping_rule (cache_in parts h).residency (λ line. is_wanted_to_write state h line)
      (touch_of (footprint action)) (elidable_reserve state h)
      (elidable_swap state h)
  rule_is =
      swapping_same state h (elidable_swap state h)
      ∙ ap (λ cache. swapping_rule cache (λ line. is_wanted_to_write state h line) (next_touch state.committed h)
      (elidable_reserve state h)
      (elidable_swap state h)) (sym (own_cache parts state h acts.may))
      ∙ ap (λ touch. swapping_rule (cache_in parts h).residency (λ line. is_wanted_to_write state h line) touch
      (elidable_reserve state h)
      (elidable_swap state h)) (sym (touch_next action state.committed h next))

  touching : (touch : Option Touch) → plain_rule state h ≡ Runs touch →
      touching_rule (cache_in parts h).residency (touch_of (footprint action)) ≡ Runs touch
  touching touch rule =
      runs_touch (cache_in parts h).residency (λ line. is_wanted_to_write state h line) (touch_of (footprint action))
      (elidable_reserve state h)
      (elidable_swap state h) touch
      (sym rule_is ∙ rule)

  -- an action that runs lacks nothing, and is what the rule says
  pub lacks_nothing : (touch : Option Touch) → plain_rule state h ≡ Runs touch →
      lacking (permitted (cache_in parts h)) (footprint action) ≡ None
  lacks_nothing touch rule = lacks_none (cache_in parts h) (footprint action) touch (touching touch rule)

  pub runs_own : (touch : Option Touch) → plain_rule state h ≡ Runs touch →
      plain_rule state h ≡ Runs (touch_of (footprint action))
  runs_own touch rule =
      rule ∙ ap Runs (same_touch (cache_in parts h).residency (touch_of (footprint action)) touch (touching touch rule))

  -- a missed line is one that it touches
  pub missed_line : (line : ℕ) (need : Need) → plain_rule state h ≡ Misses line need →
      TouchesLine (touch_of (footprint action)) line
  missed_line line need rule =
      misses_touch (cache_in parts h).residency (λ l. is_wanted_to_write state h l) (touch_of (footprint action))
      (elidable_reserve state h)
      (elidable_swap state h) line need
      (if_touches (may_elide state.config.mode (hart_of state h) (view_of state.committed h).pc)
      (next_swap state.committed h)
      (touch_of (footprint action))
      (touches_word (byte_in state.committed.base state.committed.bytes) action (next_swap state.committed h)
      (swap_next action state.committed h next)))
      (sym rule_is ∙ rule)

  -- a section begins at the swap that comes next, whose line is there
  begins_at : (swap : Swap) → plain_rule state h ≡ Begins swap →
      BeginsAt (cache_in parts h).residency (elidable_swap state h) swap
  begins_at swap rule =
      begins_swap (cache_in parts h).residency (λ line. is_wanted_to_write state h line) (touch_of (footprint action))
      (elidable_reserve state h)
      (elidable_swap state h) swap (sym rule_is ∙ rule)

  pub swap_found : (swap : Swap) → plain_rule state h ≡ Begins swap → next_swap state.committed h ≡ Some swap
  swap_found swap rule =
      if_some (may_elide state.config.mode (hart_of state h) (view_of state.committed h).pc)
      (next_swap state.committed h) swap
      (begins_at swap rule).found_is

  pub begins_not_plain : (swap : Swap) → plain_rule state h ≡ Begins swap → state.config.mode ≢ Plain
  begins_not_plain swap rule =
      elided_not_plain state.config.mode (hart_of state h) _ _ swap (begins_at swap rule).found_is

  pub lock_there : (swap : Swap) → plain_rule state h ≡ Begins swap →
      is_resident (cache_in parts h).residency (line_number swap.word) ≡ true
  lock_there swap rule = readable_there (cache_in parts h).residency (line_number swap.word) (begins_at swap rule).may

  -- a hart arms at the LR that comes next, whose line is there
  arms_at : (word : ℕ) → plain_rule state h ≡ Arms word →
      ArmsAt (cache_in parts h).residency (elidable_reserve state h) word
  arms_at word rule =
      arms_word (cache_in parts h).residency (λ line. is_wanted_to_write state h line) (touch_of (footprint action))
      (elidable_reserve state h)
      (elidable_swap state h) word (sym rule_is ∙ rule)

  pub reserve_found : (word : ℕ) → plain_rule state h ≡ Arms word → next_reserved state.committed h ≡ Some word
  reserve_found word rule =
      if_some (may_elide state.config.mode (hart_of state h) (view_of state.committed h).pc)
      (next_reserved state.committed h) word
      (arms_at word rule).reserve_is

  pub arms_not_plain : (word : ℕ) → plain_rule state h ≡ Arms word → state.config.mode ≢ Plain
  arms_not_plain word rule =
      elided_not_plain state.config.mode (hart_of state h) _ _ word (arms_at word rule).reserve_is

  pub reserves_next : (word : ℕ) → plain_rule state h ≡ Arms word → IsReserveOf action word
  reserves_next word rule =
      reserve_action action word (reserve_next action state.committed h next ∙ reserve_found word rule)

  pub reserved_there : (word : ℕ) → plain_rule state h ≡ Arms word →
      is_resident (cache_in parts h).residency (line_number word) ≡ true
  reserved_there word rule = readable_there (cache_in parts h).residency (line_number word) (arms_at word rule).may
