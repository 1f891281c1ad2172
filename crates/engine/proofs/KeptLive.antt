-- what a hart keeps of its live section, and what comes next in it
use Rattle.std.proofs.Common.{◌≡◌, ◌∙◌, ℕ, ◌-◌, ◌≤◌, length, None, Some, ap, sym, subst, true}
use Rattle.std.specs.Prelude.{option_map}
use Rattle.residency.specs.Cache.{is_resident}
use Rattle.cache_sets.specs.Cached.{Cached, cached_byte}
use Rattle.el_base.specs.Line.{line_number}
use Rattle.rv_flat.specs.Memory.{byte_in}
use Rattle.cached_step.proofs.Laws.Told.{byte_told}
use Rattle.coherence.proofs.Laws.Offered.{lent_at}
use Rattle.el_model.specs.InSection.{shown_in}
use Rattle.el_model.specs.State.{ModelState, Section, armed_of, cache_of, section_of}
use Rattle.elf_image.specs.Program.{code_word}
use Rattle.engine.proofs.Framed.{tells_memory}
use Rattle.engine.proofs.InsideRules.{freed_cache}
use Rattle.engine.proofs.Misses.{freed_here, is_there, own_cache}
use Rattle.engine.proofs.Reserved.{unarmed}
use Rattle.engine.specs.Acting.{ActsInside, MayAct, cache_in, freed, next_action}
use Rattle.engine.specs.Parts.{KeepsSection, KeepsSectionOf, Parts, StandsAs, present_at, room_in}
use Rattle.engine.specs.Private.{kept_of}
use Rattle.engine.specs.Reached.{IsReached}
use Rattle.run_laws.proofs.Laws.Reachable.{live_sections_run_covered}
use Rattle.run_laws.specs.PrivateRun.{IsCoveredRun}
use Rattle.rv_alu.specs.Action.{action_at}
use Rattle.rv_alu.specs.declared.action.Action.{Action}
use Rattle.rv_flat.specs.FlatState.{FlatState, output_limit, span_of}
use Rattle.rv_flat.specs.Step.{action_of}
use Rattle.section_ctl.specs.State.{IsLive, hold_in}
use Rattle.section_view.proofs.Laws.Shapes.{comes_to}
use Rattle.section_view.specs.KeptRun.{HoldsMarked, KeepsRun}
use Rattle.section_view.specs.Laws.{ComesTo}
use Rattle.snoop.specs.Shows.{lent_copies}
use Rattle.step_rules.specs.Actions.{IsNext}

-- each line of memory that a cache has, has the bytes of memory
abbrev pub HasBytesOf : FlatState → Cached → Type 0
HasBytesOf memory cache =
    (address : ℕ) → memory.base ≤ address → is_resident cache.residency (line_number address) ≡ true →
    cached_byte cache address ≡ byte_in memory.base memory.bytes address

pub record KeepsLive (parts : Parts) (h : ℕ) (from : ModelState) (section : Section) : Type 0 where
  pub run : IsCoveredRun from.committed h (cache_of from h) section
  pub keeps : KeepsRun from.committed h section (kept_of parts h).marks.present
      (hold_in parts.pool (kept_of parts h)).entries
  pub marked : HoldsMarked (cache_of from h) (hold_in parts.pool (kept_of parts h)).entries
  pub live : (kept_of parts h).live ≡ Some section
  pub unarmed : (kept_of parts h).armed ≡ None
  pub unarmed_there : armed_of from h ≡ None
  pub stands : IsLive (kept_of parts h).marks (kept_of parts h).hold section
  pub cache : (cache_in parts h).residency ≡ cache_of from h
  pub bytes : HasBytesOf from.committed (cache_in parts h)
  pub comes : ComesTo from.committed (shown_in from h section) h (kept_of parts h).marks.present

covered : (from : ModelState) (h : ℕ) (section : Section) → IsReached from → section_of from h ≡ Some section →
    IsCoveredRun from.committed h (cache_of from h) section
covered from h section reached live =
    subst (λ s. IsCoveredRun s.committed h (cache_of s h) section) (sym reached.state_is)
    (live_sections_run_covered reached.program reached.config reached.events h section reached.bytes
    (subst (λ s. section_of s h ≡ Some section) reached.state_is live))

-- what its cache has of memory
has_bytes : (parts : Parts) (h : ℕ) (from : ModelState) → MayAct parts h from →
    HasBytesOf from.committed (cache_in parts h)
has_bytes parts h from may =
    subst (HasBytesOf from.committed) (lent_at parts.pool parts.bus.copies.caches h)
    (λ address low resident.
    byte_told (lent_copies parts.pool parts.bus.copies) from.committed h address
    (tells_memory parts (freed from h) may.is_in) low resident)

pub keeps_live : (parts : Parts) (h : ℕ) (from : ModelState) (section : Section) → ActsInside parts h from section →
    KeepsLive parts h from section
keeps_live parts h from section inside =
    let may = inside.may in
    let kept = kept_of parts h in
    let was = may.is_in.harts h may.exists in
    let here = freed_here from h (is_there parts from h may) in
    let live = ap (λ hart. hart.section) here ∙ inside.live in
    let own_live = was.part.section ∙ live in
    let told : KeepsSection parts.pool (freed from h) h section kept =
    subst (λ l. KeepsSectionOf parts.pool (freed from h) h l kept) live was.section in
    let run = covered from h section may.reached inside.live in
    let stands = subst (λ l. StandsAs kept.marks kept.hold l kept.armed) own_live was.stands in
    let none = unarmed section kept.armed kept.marks kept.hold stands in
    record {
      run = run;
      keeps = told.run;
      marked = subst (λ c. HoldsMarked c (hold_in parts.pool kept).entries) (freed_cache from h h) told.marked;
      live = own_live;
      unarmed = none;
      unarmed_there =
          sym (ap (λ hart. hart.armed) here) ∙ sym was.part.armed ∙ ap (option_map (λ reserved. reserved.armed)) none;
      stands = subst (StandsAs kept.marks kept.hold (Some section)) none stands;
      cache = own_cache parts from h may;
      bytes = has_bytes parts h from may;
      comes =
          comes_to from.committed h (cache_of from h) section kept.marks.present
          (hold_in parts.pool kept).entries run told.run;
    }

-- the next action is that of what is committed, for the kept view, and the next one of what the section shows
pub same_action : (parts : Parts) (h : ℕ) (from : ModelState) → MayAct parts h from →
    next_action parts h ≡ action_of from.committed (present_at parts.harts h)
same_action parts h from may =
    let view = present_at parts.harts h in
    ap (λ code. action_at (code_word code view.pc) view parts.span (room_in parts)) may.is_in.code
    ∙ ap (λ span. action_at (code_word from.committed.code view.pc) view span (room_in parts)) may.is_in.span
    ∙ ap (λ output. action_at (code_word from.committed.code view.pc) view (span_of from.committed)
    (output_limit - length output)) may.is_in.output

pub next_inside : (parts : Parts) (h : ℕ) (from : ModelState) (section : Section) (action : Action) →
    ActsInside parts h from section → action ≡ next_action parts h → IsNext action (shown_in from h section) h
next_inside parts h from section action inside is =
    let kept = keeps_live parts h from section inside in
    is ∙ same_action parts h from inside.may ∙ sym kept.comes.action
    ∙ ap (action_of (shown_in from h section)) kept.keeps.view
