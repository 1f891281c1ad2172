-- what is owed as an instruction of an armed section runs
use Rattle.std.proofs.Common.{◌≡◌, ◌∙◌, ℕ, ◌+◌, ◌≤◌, ◌<◌, ◌||◌, true, Some, None, is_some, refl, ap, sym, subst, arith}
use Rattle.std.specs.Prelude.{IfSome, IsSome}
use Rattle.residency.specs.Cache.{write_bits_of}
use Rattle.el_model.specs.Armed.{Continues, shown_armed}
use Rattle.el_model.specs.State.{Armed, ModelState, cache_of}
use Rattle.el_model.specs.Upcoming.{touch_of}
use Rattle.engine.proofs.AfterBegan.{nothing_marked}
use Rattle.engine.proofs.ArmedRules.{continues_at}
use Rattle.engine.proofs.Framed.{holds_none}
use Rattle.engine.proofs.KeptPrivate.{keeps_private, next_private}
use Rattle.engine.proofs.LentThere.{lent_there}
use Rattle.engine.proofs.Reaching.{config_of}
use Rattle.engine.specs.Acting.{ActsArmed, cache_in, next_action, sets_in}
use Rattle.engine.specs.Armed.{FollowsArmed}
use Rattle.engine.specs.Parts.{Parts, own_at}
use Rattle.engine.specs.Private.{MayRunPrivately, kept_of}
use Rattle.hart_state.specs.Own.{OwnState}
use Rattle.run_laws.proofs.Laws.Reserving.{quiet_of}
use Rattle.rv_alu.specs.Footprint.{footprint}
use Rattle.rv_alu.specs.declared.action.Action.{Action}
use Rattle.rv_alu.specs.declared.action.Action.TheVariants as actions
use Rattle.section_ctl.specs.Calls.{MayBuffer, MayContinue, is_quiet_action}
use Rattle.section_ctl.specs.State.{Reserved, hold_in}
use Rattle.section_laws.proofs.Laws.Bounds.{written_lines_are_few}
use Rattle.step_rules.proofs.Laws.NextAction.{next_quiet, next_touch}
use Rattle.step_rules.specs.Actions.{quiet}

-- the same by what a section asks of its actions, and by the rules
same_quiet : (action : Action) → is_quiet_action action ≡ quiet action
same_quiet (actions.Put rd value) = refl
same_quiet (actions.JumpAndLink rd target) = refl
same_quiet (actions.Go target) = refl
same_quiet _ = refl

module _ (old : Parts) (h : ℕ) (armed : Armed) (from : ModelState) where
  -- of a hart with an armed section there is nothing to say of a live one
  pub armed_some : ActsArmed old h from armed → (own : OwnState) → own ≡ own_at old.harts h → IsSome own.section.armed
  armed_some acts own is =
      subst (λ o. IsSome o.section.armed) (sym is) (subst IsSome (sym (keeps_private old h from armed acts).is) refl)

  -- what a call says of the armed section
  pub of_armed : ActsArmed old h from armed → (own : OwnState) → own ≡ own_at old.harts h → (P : Reserved → Type 0) →
      IfSome own.section.armed P → (kept : Reserved) → (own_at old.harts h).section.armed ≡ Some kept → P kept
  of_armed acts own is P told kept kept_is = subst (λ r. IfSome r P) (ap (λ o. o.section.armed) is ∙ kept_is) told

  module _ (follows : FollowsArmed old h armed Continues from) (action : Action) (is : action ≡ next_action old h) where
    is_quiet_there : is_quiet_action action ≡ true
    is_quiet_there =
        same_quiet action ∙ next_quiet action (shown_armed from h armed) h
        (next_private old h from armed action follows.acts is)
        ∙ (continues_at from h armed follows.rule_is).quiet

    pub untouched : touch_of (footprint action) ≡ None
    untouched =
        next_touch action (shown_armed from h armed) h (next_private old h from armed action follows.acts is)
        ∙ (quiet_of (shown_armed from h armed) h (continues_at from h armed follows.rule_is).quiet).untouched

    few_written : write_bits_of (sets_in old h).residency ≤ (kept_of old h).hold.limit
    few_written =
        let may = follows.acts.may in
        let reached = may.reached in
        let few = subst (λ s. write_bits_of (cache_of s h) ≤ reached.config.lines) (sym reached.state_is)
        (written_lines_are_few reached.program reached.config reached.events reached.one_hart_each
        reached.in_range h) in
        let same = ap write_bits_of (keeps_private old h from armed follows.acts).cache in
        let limit : (kept_of old h).hold.limit ≡ reached.config.lines =
        (may.is_in.harts h may.exists).limit ∙ ap (λ config. config.lines) (config_of from reached) in
        omega (arith, few, same, limit)

    pub may_run : MayRunPrivately old h action
    may_run =
        let k = keeps_private old h from armed follows.acts in
        let few = k.short.few in
        record {
          there = lent_there old h from follows.acts.may;
          either = ap (λ live. is_some live || is_some (kept_of old h).armed) k.live ∙ ap is_some k.is;
          buffered =
              subst
              (λ live. IfSome live (λ section. MayBuffer old.pool (kept_of old h) section (cache_in old h) action))
              (sym k.live) tt;
          counted = subst (λ live. IfSome live (λ section. section.count + 1 < 4294967296)) (sym k.live) tt;
          quiet =
              subst (λ r. IfSome r (λ reserved. MayContinue reserved action)) (sym k.is)
              (record { quiet = is_quiet_there; counted = omega (arith, few) });
          marked =
              nothing_marked (cache_in old h).residency (hold_in old.pool (kept_of old h)).entries
              (holds_none old.pool (kept_of old h).hold k.stands.empty);
          few = few_written;
        }
