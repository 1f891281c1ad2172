-- an instruction of a section may be buffered
use Rattle.std.proofs.Common.{◌≡◌, ◌∙◌, ℕ, ◌+◌, ◌%◌, ◌<◌, slice_index, ◌≤◌, ◌++◌, [], ◌∷◌, true}
use Rattle.std.proofs.Common.{List, Option, Some, None, inl, inr, refl, ap, sym, subst, arith}
use Rattle.residency.proofs.Laws.MarkLemmas.{write_bits_of-touched}
use Rattle.residency.specs.Cache.{is_resident, write_bits_of}
use Rattle.cache_sets.specs.Cached.{Cached, cached_byte, copy_in}
use Rattle.cache_sets.specs.Slotted.{Slotted, lent}
use Rattle.residency.specs.Residency.{Way}
use Rattle.residency.specs.WellFormed.{IsWellFormed}
use Rattle.cached_step.proofs.Laws.CachedBytes.{same_bytes}
use Rattle.core_step.proofs.Laws.Runs.{aligned_at}
use Rattle.el_base.proofs.Laws.Ranges.{at_most, ranges}
use Rattle.el_base.specs.Line.{line_number}
use Rattle.el_model.specs.Deed.{MayBuffer}
use Rattle.el_model.proofs.Laws.Harts.{hart_of-with_hart_same}
use Rattle.el_model.specs.InSection.{Buffers, buffered_hart, by_section_rule, covered, section_rule, section_turn}
use Rattle.el_model.specs.InSection.{shown_in}
use Rattle.el_model.specs.Next as next_events
use Rattle.el_model.specs.State.{ModelState, Section, begin, cache_of, hart_of, section_of, with_hart}
use Rattle.el_base.specs.declared.hart_id.HartId.{HartId}
use Rattle.el_base.specs.declared.line.TheConstants.{LINE_BYTES}
use Rattle.el_base.specs.declared.outcomes.Need.TheVariants.{Read, Write}
use Rattle.el_base.specs.declared.outcomes.Outcome.TheVariants.{Buffered}
use Rattle.el_base.proofs.Laws.Tests.{unrefused}
use Rattle.coherence.proofs.Laws.Fetched.{copy_resident}
use Rattle.coherence.proofs.Laws.Owners.{copy_is}
use Rattle.el_model.specs.Upcoming.{Touch, overlaps}
use Rattle.engine.proofs.Covering.{IsThere, bits_with, covered_there, formed_with, has_its_bit, permitted_there}
use Rattle.engine.proofs.InsideRules.{says}
use Rattle.engine.proofs.Misses as misses
use Rattle.engine.proofs.Reaching.{config_of}
use Rattle.engine.proofs.Stepped.{step_of, turn_is}
use Rattle.engine.proofs.KeptLive.{HasBytesOf, KeepsLive, keeps_live, next_inside, same_action}
use Rattle.engine.specs.Private.{kept_of}
use Rattle.engine.specs.Acting.{ActsInside, cache_in, next_action, sets_in}
use Rattle.engine.specs.Covered.{HasItsBitNow, with_its_bit}
use Rattle.engine.specs.Inside.{FollowsRule}
use Rattle.engine.specs.Parts.{Parts}
use Rattle.run_laws.proofs.Laws.Bits.{run_kept}
use Rattle.run_laws.specs.PrivateRun.{HasItsBit, IsCoveredRun, IsCoveredStep}
use Rattle.rv_alu.specs.Execution.{perform, store_in}
use Rattle.rv_alu.specs.declared.action.Action.{Action}
use Rattle.rv_alu.specs.declared.action.Action.TheVariants as actions
use Rattle.rv_flat.specs.FlatState.{FlatState}
use Rattle.rv_flat.specs.Laws.{touched_by}
use Rattle.run_laws.proofs.Laws.Reached.{state_after-last}
use Rattle.section_laws.proofs.Laws.Bounds.{written_lines_are_few}
use Rattle.engine.proofs.LentThere.{inside_caches}
use Rattle.section_ctl.proofs.Laws.Shows.{agrees}
use Rattle.section_ctl.specs.Calls as calls
use Rattle.section_ctl.specs.Calls.{ends_section, run_of}
use Rattle.section_ctl.specs.PrivateRuns.{HasCoveredBytes, IsKept}
use Rattle.section_ctl.specs.State.{hold_in}
use Rattle.section_view.proofs.Laws.ShownBytes.{do_as_shown}
use Rattle.section_view.specs.KeptRun.{HoldsMarked, section_byte, section_execution}
use Rattle.section_view.specs.Laws.{AgreeBeside}
use Rattle.step_laws.proofs.Laws.Short.{sections_are_short}
use Rattle.step_rules.proofs.Laws.NextAction as next
use Rattle.step_rules.specs.Actions.{is_call_or_stop}

-- what is touched is in the hart's cache
pub is_there : (from : ModelState) (h : ℕ) (section : Section) (touch : Option Touch) → MayBuffer from h section touch →
    IsThere (cache_of from h) touch
is_there from h section None may = tt
is_there from h section (Some touch) may = elim may.coverable [
  | inl had ↦ covered_there (cache_of from h) touch.line touch.need had
  | inr (room, granted) ↦ permitted_there (cache_of from h) touch.line touch.need (unrefused _ _ granted)
]

-- what is kept, over a cache in which it has its bit
pub record CanBuffer (parts : Parts) (h : ℕ) (from : ModelState) (section : Section) (touch : Option Touch)
    (cache : Slotted) : Type 0 where
  pub kept : KeepsLive parts h from section
  pub may : MayBuffer from h section touch
  pub residency : cache.residency ≡ with_its_bit (cache_of from h) touch
  pub step : IsCoveredStep (shown_in from h section) h section.word cache.residency
  pub is_kept : IsKept parts.pool from.committed h (kept_of parts h) section (lent parts.pool cache)
  pub marked : HoldsMarked cache.residency (hold_in parts.pool (kept_of parts h)).entries
  pub agree : AgreeBeside from.committed section.word (touched_by from.committed (kept_of parts h).marks.present)
      (cached_byte (lent parts.pool cache))

same_resident : (old new : Cached) (line : ℕ) → copy_in new line ≡ copy_in old line →
    is_resident new.residency line ≡ true → is_resident old.residency line ≡ true
same_resident old new line same there = copy_resident old line _ (sym same ∙ copy_is new line there)

same_memory : (flat : FlatState) (old new : Cached) → ((line : ℕ) → copy_in new line ≡ copy_in old line) →
    HasBytesOf flat old → HasBytesOf flat new
same_memory flat old new same bytes address low resident =
    ap (λ row. slice_index row (address % LINE_BYTES))
    (same_bytes old new (line_number address) (same (line_number address)))
    ∙ bytes address low (same_resident old new (line_number address) (same (line_number address)) resident)

covered_memory : (flat : FlatState) (cache : Cached) → HasBytesOf flat cache → HasCoveredBytes flat cache
covered_memory flat cache bytes address low bit =
    bytes address low (covered_there cache.residency (line_number address) Read bit)

pub can_buffer : (parts : Parts) (h : ℕ) (from : ModelState) (section : Section) (touch : Option Touch)
    (cache : Slotted) → FollowsRule parts h from section (Buffers touch) → HasItsBitNow (sets_in parts h) cache touch →
    CanBuffer parts h from section touch cache
can_buffer parts h from section touch cache follows now =
    let kept = keeps_live parts h from section follows.inside in
    let may : MayBuffer from h section touch = says parts h from section (Buffers touch) follows in
    let old = cache_of from h in
    let residency = now.residency ∙ ap (λ c. with_its_bit c touch) kept.cache in
    let has : HasItsBit cache.residency touch =
    subst (λ c. HasItsBit c touch) (sym residency) (has_its_bit old touch (is_there from h section touch may)) in
    let step : IsCoveredStep (shown_in from h section) h section.word cache.residency = record {
      goes_on = may.goes.goes_on.calls;
      unmixed = may.goes.mixes;
      bit = subst (HasItsBit cache.residency) (sym may.touches) has;
    } in
    let is_kept : IsKept parts.pool from.committed h (kept_of parts h) section (lent parts.pool cache) = record {
      run = subst (λ c. IsCoveredRun from.committed h c section) (sym residency)
          (run_kept from.committed h old (with_its_bit old touch) section (bits_with old touch) kept.run);
      keeps = kept.keeps;
      bytes =
          covered_memory from.committed (lent parts.pool cache)
          (same_memory from.committed (cache_in parts h) (lent parts.pool cache)
          (now.keeps.copies parts.pool) kept.bytes);
    } in
    record {
      kept = kept;
      may = may;
      residency = residency;
      step = step;
      is_kept = is_kept;
      marked = subst (λ c. HoldsMarked c (hold_in parts.pool (kept_of parts h)).entries) (sym residency)
          (λ line held. bits_with old touch line Write (kept.marked line held));
      agree = agrees parts.pool from.committed h (kept_of parts h) section (lent parts.pool cache) is_kept step;
    }

-- what its action does over that cache is what comes next in the section
pub does_as_shown : (parts : Parts) (h : ℕ) (from : ModelState) (section : Section) (touch : Option Touch)
    (cache : Slotted) (action : Action) → ActsInside parts h from section → CanBuffer parts h from section touch cache →
    action ≡ next_action parts h → run_of parts.pool (kept_of parts h) section (lent parts.pool cache) action
    ≡ section_execution from.committed section (kept_of parts h).marks.present
    (hold_in parts.pool (kept_of parts h)).entries
    (cached_byte (lent parts.pool cache))
does_as_shown parts h from section touch cache action inside can is =
    let kept = kept_of parts h in
    ap (λ a. perform a kept.marks.present
    (section_byte (hold_in parts.pool kept).entries section.word section.new (cached_byte (lent parts.pool cache))))
    (is ∙ same_action parts h from inside.may)

ends_is : (action : Action) → ends_section action ≡ is_call_or_stop action
ends_is (actions.Trap cause) = refl
ends_is (actions.Exit code) = refl
ends_is (actions.Answer value) = refl
ends_is (actions.Append address len) = refl
ends_is _ = refl

pub may_run : (parts : Parts) (h : ℕ) (from : ModelState) (section : Section) (touch : Option Touch) (cache : Slotted)
    (action : Action) → ActsInside parts h from section → CanBuffer parts h from section touch cache →
    action ≡ next_action parts h → calls.MayBuffer parts.pool (kept_of parts h) section (lent parts.pool cache) action
may_run parts h from section touch cache action inside can is =
    let kept = kept_of parts h in
    let comes = next_inside parts h from section action inside is in
    record {
      goes_on = ends_is action ∙ next.next_call_or_stop action (shown_in from h section) h comes ∙ can.step.goes_on;
      aligned = aligned_at _ _ _ _ action is;
      unmixed =
          ap (λ execution. overlaps section.word (store_in execution))
          (does_as_shown parts h from section touch cache action inside can is
          ∙ do_as_shown from.committed h cache.residency section kept.marks.present (hold_in parts.pool kept).entries
          (cached_byte (lent parts.pool cache)) can.is_kept.run
          can.is_kept.keeps can.agree)
          ∙ can.step.unmixed;
      bit =
          subst (HasItsBit cache.residency) (sym (next.next_touch action (shown_in from h section) h comes))
          can.step.bit;
    }

-- a section is no longer than configured
pub is_counted : (parts : Parts) (h : ℕ) (from : ModelState) (section : Section) → ActsInside parts h from section →
    section.count + 1 < 4294967296
is_counted parts h from section inside =
    let reached = inside.may.reached in
    let live = subst (λ s. section_of s h ≡ Some section) reached.state_is inside.live in
    let short = sections_are_short reached.program reached.config reached.events h section reached.in_range live in
    let most = at_most 2 65536 reached.config.long (ranges reached.config reached.in_range).long in
    omega (arith, short.no_more, most)

by_rule : (from : ModelState) (h : ℕ) (section : Section) (touch : Option Touch) →
    by_section_rule from h section (Buffers touch) ≡
    record { state = with_hart from h (buffered_hart section touch (hart_of from h)); outcome = Buffered }
unfolding by_section_rule
by_rule from h section touch = refl

pub buffers_turn : (from : ModelState) (h : ℕ) (section : Section) (touch : Option Touch) →
    section_rule from h section ≡ Buffers touch → section_turn from h section
    ≡ record { state = with_hart from h (buffered_hart section touch (hart_of from h)); outcome = Buffered }
unfolding section_turn
buffers_turn from h section touch is = ap (by_section_rule from h section) is ∙ by_rule from h section touch

cache_then : (parts : Parts) (hart : HartId) (from : ModelState) (section : Section) (touch : Option Touch) →
    FollowsRule parts hart.number from section (Buffers touch) →
    cache_of (section_turn from hart.number section).state hart.number ≡ covered (cache_of from hart.number) touch
cache_then parts hart from section touch follows =
    ap (λ t. cache_of t.state hart.number) (buffers_turn from hart.number section touch follows.rule_is)
    ∙ ap (λ k. k.cache)
    (hart_of-with_hart_same from hart.number (buffered_hart section touch (hart_of from hart.number))
    (misses.is_there parts from hart.number follows.inside.may))

-- no more lines are written than configured, as the step shows
pub are_few : (parts : Parts) (hart : HartId) (from : ModelState) (section : Section) (touch : Option Touch)
    (cache : Slotted) → FollowsRule parts hart.number from section (Buffers touch) →
    HasItsBitNow (sets_in parts hart.number) cache touch →
    write_bits_of cache.residency ≤ (kept_of parts hart.number).hold.limit
are_few parts hart from section touch cache follows now =
    let h = hart.number in
    let may = follows.inside.may in
    let kept = keeps_live parts h from section follows.inside in
    let residency = now.residency ∙ ap (λ c. with_its_bit c touch) kept.cache in
    let formed =
    subst (IsWellFormed (sets_in parts h).ways) kept.cache
    (may.ready.well_formed h (inside_caches parts h from may)) in
    let after = few_after parts hart from section follows.inside in
    let there = cache_then parts hart from section touch follows in
    let same = few_touched (sets_in parts h).ways (cache_of from h) touch formed in
    let limit = (may.is_in.harts h may.exists).limit in
    let config = ap (λ config. config.lines) (config_of from may.reached) in
    omega (arith, ap write_bits_of residency, same, ap write_bits_of there, after, limit, config)
  where
    few_after : (parts : Parts) (hart : HartId) (from : ModelState) (section : Section) →
        (inside : ActsInside parts hart.number from section) →
        write_bits_of (cache_of (section_turn from hart.number section).state hart.number)
        ≤ inside.may.reached.config.lines
    few_after parts hart from section inside =
        let reached = inside.may.reached in
        let last = state_after-last (begin reached.program reached.config) reached.events (step_of hart) in
        subst (λ s. write_bits_of (cache_of s hart.number) ≤ reached.config.lines)
        (last ∙ ap (λ s. (next_events.next s (step_of hart)).state) (sym reached.state_is)
        ∙ ap (λ t. t.state) (turn_is parts hart from section inside))
        (written_lines_are_few reached.program reached.config (reached.events ++ step_of hart ∷ [])
        reached.one_hart_each reached.in_range hart.number)

    few_touched : (ways : ℕ) (cache : List (List Way)) (touch : Option Touch) → IsWellFormed ways cache →
        write_bits_of (covered cache touch) ≡ write_bits_of (with_its_bit cache touch)
    few_touched ways cache None formed = refl
    few_touched ways cache (Some touch) formed =
        write_bits_of-touched ways (with_its_bit cache (Some touch)) touch.line
        (formed_with ways cache (Some touch) formed)
