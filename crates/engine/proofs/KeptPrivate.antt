-- what a hart keeps of its armed section, and what comes next in it
use Rattle.std.proofs.Common.{◌≡◌, ◌∙◌, ℕ, ◌<◌, ◌≤◌, true, length, None, Some, refl, ap, sym, subst, arith}
use Rattle.std.proofs.lemmas.Bool.{or_left}
use Rattle.residency.specs.Cache.{is_resident, read_bit, write_bit}
use Rattle.el_base.specs.Line.{line_number}
use Rattle.el_base.specs.declared.outcomes.Need.TheVariants.{Read}
use Rattle.el_model.specs.Armed.{shown_armed}
use Rattle.el_model.specs.State.{Armed, ModelState, cache_of, hart_of}
use Rattle.engine.proofs.Covering.{covered_there}
use Rattle.engine.proofs.KeptLive.{same_action}
use Rattle.engine.proofs.Misses.{freed_here, is_there, own_cache, own_part}
use Rattle.engine.proofs.Reaching.{runs_armed, small_armed}
use Rattle.engine.proofs.Reserved.{kept_as}
use Rattle.engine.specs.Acting.{ActsArmed, cache_in, freed, next_action}
use Rattle.engine.specs.Parts.{IsOfHart, KeepsReserved, Parts, StandsAs, own_at, present_at}
use Rattle.hart_state.specs.Own.{HasOwn}
use Rattle.run_laws.proofs.Laws.ButAView.{armed_runs_keep_all_but_a_view}
use Rattle.run_laws.specs.PrivateRun.{IsArmedRun}
use Rattle.rv_alu.specs.Loaded.{loaded}
use Rattle.rv_alu.specs.declared.action.Action.{Action}
use Rattle.rv_flat.specs.FlatState.{view_of}
use Rattle.rv_flat.specs.Memory.{byte_in}
use Rattle.rv_flat.specs.Step.{action_of}
use Rattle.section_ctl.specs.State.{IsArmed}
use Rattle.section_laws.specs.EachHart.{IsShortArmed}
use Rattle.section_view.proofs.Laws.Shapes.{armed_comes_to}
use Rattle.section_view.specs.KeptRun.{KeepsArmed}
use Rattle.section_view.specs.Laws.{ComesTo}
use Rattle.step_rules.proofs.Laws.Elides.{reserve_from}
use Rattle.step_rules.specs.Actions.{IsNext}
use Rattle.step_rules.specs.Rules.{IsOnLine}

pub record KeepsPrivate (parts : Parts) (h : ℕ) (from : ModelState) (armed : Armed) : Type 0 where
  pub below : h < length from.harts
  pub part : HasOwn (own_at parts.harts h) (hart_of from h)
  pub live : (own_at parts.harts h).section.live ≡ None
  pub old : ℕ
  pub is : (own_at parts.harts h).section.armed ≡ Some (record { armed = armed; old = old })
  pub run : IsArmedRun from.committed h (cache_of from h) armed
  pub short : IsShortArmed from.config.long armed
  pub keeps : KeepsArmed from.committed h armed old (present_at parts.harts h)
  pub stands :
      IsArmed (own_at parts.harts h).section.marks (own_at parts.harts h).section.hold
      (record { armed = armed; old = old })
  pub cache : (cache_in parts h).residency ≡ cache_of from h
  pub comes : ComesTo from.committed (shown_armed from h armed) h (present_at parts.harts h)

pub keeps_private : (parts : Parts) (h : ℕ) (from : ModelState) (armed : Armed) → ActsArmed parts h from armed →
    KeepsPrivate parts h from armed
keeps_private parts h from armed acts =
    let may = acts.may in
    let own = own_at parts.harts h in
    let was : IsOfHart parts.pool (freed from h) h own = may.is_in.harts h may.exists in
    let below = is_there parts from h may in
    let here = freed_here from h below in
    let live = was.part.section ∙ ap (λ hart. hart.section) here ∙ acts.no_section in
    let kept = kept_as own.section.armed armed (was.part.armed ∙ ap (λ hart. hart.armed) here ∙ acts.armed_is) in
    let keeps : KeepsArmed from.committed h armed kept.old own.section.marks.present =
    subst (λ reserved. KeepsReserved from.committed h reserved own.section.marks.present) kept.is was.armed in
    let run = runs_armed from h armed may.reached acts.armed_is in
    record {
      below = below;
      part = own_part parts from h may;
      live = live;
      old = kept.old;
      is = kept.is;
      run = run;
      short = small_armed from h armed may.reached acts.armed_is;
      keeps = keeps;
      stands =
          subst (StandsAs own.section.marks own.section.hold None) kept.is
          (subst (λ l. StandsAs own.section.marks own.section.hold l own.section.armed) live was.stands);
      cache = own_cache parts from h may;
      comes = armed_comes_to from.committed h (cache_of from h) armed kept.old own.section.marks.present run keeps;
    }

-- the next action is the next one of what the section shows, as it is of what is committed for the kept view
pub next_private : (parts : Parts) (h : ℕ) (from : ModelState) (armed : Armed) (action : Action) →
    ActsArmed parts h from armed → action ≡ next_action parts h → IsNext action (shown_armed from h armed) h
next_private parts h from armed action acts is =
    let kept = keeps_private parts h from armed acts in
    is ∙ same_action parts h from acts.may ∙ sym kept.comes.action
    ∙ ap (action_of (shown_armed from h armed)) kept.keeps.view

-- its word lies in memory, which begins with a line
pub on_line : (parts : Parts) (h : ℕ) (from : ModelState) (armed : Armed) → ActsArmed parts h from armed →
    IsOnLine from.committed
on_line parts h from armed acts = omega (arith, acts.may.is_in.shows.memory.first)

pub word_from : (parts : Parts) (h : ℕ) (from : ModelState) (armed : Armed) → ActsArmed parts h from armed →
    from.committed.base ≤ armed.word
word_from parts h from armed acts =
    let kept = keeps_private parts h from armed acts in
    reserve_from (action_of from.committed (view_of from.committed h)) from.committed h armed.word refl
    (sym kept.run.reserve)

-- it is the same in what the section shows
pub word_shown : (parts : Parts) (h : ℕ) (from : ModelState) (armed : Armed) → ActsArmed parts h from armed →
    loaded (byte_in from.committed.base from.committed.bytes) armed.word 4
    ≡ loaded (byte_in (shown_armed from h armed).base (shown_armed from h armed).bytes) armed.word 4
word_shown parts h from armed acts =
    let kept = keeps_private parts h from armed acts in
    let rest = (armed_runs_keep_all_but_a_view from.committed h (cache_of from h) armed kept.run).rest in
    ap (λ base. loaded (byte_in base from.committed.bytes) armed.word 4) (sym rest.shape.base)
    ∙ ap (λ bytes. loaded (byte_in (shown_armed from h armed).base bytes) armed.word 4) (sym rest.bytes)

-- the line of its word is there
pub word_line_there : (parts : Parts) (h : ℕ) (from : ModelState) (armed : Armed) → ActsArmed parts h from armed →
    is_resident (cache_in parts h).residency (line_number armed.word) ≡ true
word_line_there parts h from armed acts =
    let kept = keeps_private parts h from armed acts in
    let cache = cache_of from h in
    subst (λ c. is_resident c (line_number armed.word) ≡ true) (sym kept.cache)
    (covered_there cache (line_number armed.word) Read
    (or_left (read_bit cache (line_number armed.word)) (write_bit cache (line_number armed.word)) kept.run.read))
