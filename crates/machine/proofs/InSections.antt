-- what holds of the live and armed sections of a machine
use Rattle.std.proofs.Common.{◌≡◌, ◌∙◌, ℕ, ◌<◌, ◌==◌, length, Bool, true, false, List, [], ◌∷◌, map, Option, None, Some}
use Rattle.std.proofs.Common.{is_some, if◌then◌else◌, refl}
use Rattle.std.proofs.Common.{subst, sym, arith}
use Rattle.std.specs.Prelude.{IsSome, find, option_map}
use Rattle.chronicle.specs.Chronicle.{events}
use Rattle.el_model.specs.State.{Armed, ModelState, Section, armed_of, cache_of, section_of}
use Rattle.engine.specs.Parts.{IsInState, IsOfHart, KeepsReserved, KeepsSection, KeepsSectionOf, Parts, StandsAs}
use Rattle.engine.specs.Parts.{own_at}
use Rattle.engine.specs.OwnState.{OwnState}
use Rattle.line_pool.specs.Pooled.{Pooled}
use Rattle.machine.proofs.GoesOn.{reached_committed}
use Rattle.machine.specs.Lending.{LendsSection, LendsState, TellsRun}
use Rattle.machine.specs.Stands.{IsGiven, MachineStands}
use Rattle.machine.specs.Story.{Story, committed, state_of}
use Rattle.reg_mark.specs.declared.marked.Marked.{Marked}
use Rattle.residency.specs.Residency.{Way}
use Rattle.engine.proofs.Laws.Reachable.{armed_sections_run_covered, live_sections_run_covered}
use Rattle.engine.specs.PrivateRun.{IsArmedRun, IsCoveredRun}
use Rattle.engine.specs.SectionState as section_ctl
use Rattle.engine.specs.SectionState.{Reserved, SectionState, hold_in}
use Rattle.engine.specs.ArmedSection as armed_sections
use Rattle.engine.proofs.Laws.ArmedCounts.{armed_sections_are_short}
use Rattle.engine.proofs.Laws.LetGone.{no_hart_is_live_and_armed}
use Rattle.engine.specs.EachHart.{IsShortArmed}
use Rattle.engine.proofs.Laws.ShownBytes.{shows_bytes}
use Rattle.engine.specs.KeptRun.{HoldsMarked, KeepsArmed, KeepsRun}
use Rattle.engine.proofs.Laws.Short.{sections_are_short}
use Rattle.engine.specs.Counts.{IsSectionShort}
use Rattle.write_hold.specs.Held.{holds}
use Rattle.write_hold.specs.Slotted.{Place, Slotted, lent_entry}

-- a live section's run is covered
covered_in : (story : Story) (room h : ℕ) (section : Section) → IsGiven story room →
    section_of (state_of story) h ≡ Some section →
    IsCoveredRun (state_of story).committed h (cache_of (state_of story) h) section
covered_in story room h section given live =
    live_sections_run_covered story.program story.config (events story.entries) h section given.bytes live

pub runs_covered : (story now : Story) (parts : Parts) (room h : ℕ) (section : Section) →
    MachineStands story parts room → story ≡ now → section_of (state_of now) h ≡ Some section →
    IsCoveredRun (committed now) h (cache_of (state_of now) h) section
runs_covered story now parts room h section stands same live =
    subst (λ flat. IsCoveredRun flat h (cache_of (state_of now) h) section)
    (reached_committed story now parts room stands same)
    (covered_in now room h section (subst (λ s. IsGiven s room) same stands.given) live)

-- an armed section's run is one, it is short, and its hart has no live one
pub runs_armed : (story now : Story) (parts : Parts) (room h : ℕ) (armed : Armed) → MachineStands story parts room →
    story ≡ now → armed_of (state_of now) h ≡ Some armed →
    IsArmedRun (committed now) h (cache_of (state_of now) h) armed
runs_armed story now parts room h armed stands same is =
    let given = subst (λ s. IsGiven s room) same stands.given in
    subst (λ flat. IsArmedRun flat h (cache_of (state_of now) h) armed)
    (reached_committed story now parts room stands same)
    (armed_sections_run_covered now.program now.config (events now.entries) h armed given.bytes is)

pub armed_short : (story now : Story) (parts : Parts) (room h : ℕ) (armed : Armed) → MachineStands story parts room →
    story ≡ now → armed_of (state_of now) h ≡ Some armed → IsShortArmed now.config.long armed
armed_short story now parts room h armed stands same is =
    let given = subst (λ s. IsGiven s room) same stands.given in
    armed_sections_are_short now.program now.config (events now.entries) given.in_range h armed is

pub armed_alone : (now : Story) (h : ℕ) (found : Option armed_sections.Armed) →
    option_map section_ctl.armed_of found ≡ armed_of (state_of now) h → IsSome found →
    section_of (state_of now) h ≡ None
armed_alone now h None is some = absurd (cc)
armed_alone now h (Some armed) is some =
    no_hart_is_live_and_armed now.program now.config (events now.entries) h (section_ctl.armed_of armed) (sym is)

-- the view that is kept of it tells its run
pub keeps_armed : (story now : Story) (parts : Parts) (room h : ℕ) (reserved : Reserved) (kept : SectionState) →
    MachineStands story parts room → story ≡ now →
    KeepsReserved (state_of now).committed h kept.armed kept.marks.present → kept.armed ≡ Some reserved →
    KeepsArmed (committed now) h reserved.armed reserved.old kept.marks.present
keeps_armed story now parts room h reserved kept stands same keeps is =
    subst (λ flat. KeepsArmed flat h reserved.armed reserved.old kept.marks.present)
    (reached_committed story now parts room stands same)
    (subst (λ r. KeepsReserved (state_of now).committed h r kept.marks.present) is keeps)

-- and it is no longer than it may be
pub runs_short : (story now : Story) (parts : Parts) (room h : ℕ) (section : Section) → MachineStands story parts room →
    story ≡ now → section_of (state_of now) h ≡ Some section → IsSectionShort now.config.long section
runs_short story now parts room h section stands same live =
    let given = subst (λ s. IsGiven s room) same stands.given in
    sections_are_short now.program now.config (events now.entries) h section given.in_range live

-- what is kept of it tells its run, with the bytes that the pool has for its stores, and
-- these over memory are what it shows
pub kept_of : (pool : Pooled) (state : ModelState) (h : ℕ) (section : Section) (kept : SectionState) →
    KeepsSectionOf pool state h (section_of state h) kept → section_of state h ≡ Some section →
    KeepsSection pool state h section kept
kept_of pool state h section kept keeps live = subst (λ s. KeepsSectionOf pool state h s kept) live keeps

pub tells_run : (pool : Pooled) (story now : Story) (parts : Parts) (room h : ℕ) (section : Section)
    (kept : SectionState) → MachineStands story parts room → story ≡ now →
    KeepsSectionOf pool (state_of now) h (section_of (state_of now) h) kept →
    section_of (state_of now) h ≡ Some section → TellsRun pool (state_of now) (committed now) h section kept
tells_run pool story now parts room h section kept stands same keeps live =
    let state = state_of now in
    let entries = (hold_in pool kept).entries in
    let run = (kept_of pool state h section kept keeps live).run in
    record {
      run =
          subst (λ flat. KeepsRun flat h section kept.marks.present entries)
          (reached_committed story now parts room stands same) run;
      stores =
          shows_bytes state.committed h (cache_of state h) section kept.marks.present entries
          (covered_in now room h section (subst (λ s. IsGiven s room) same stands.given) live) run;
    }

-- held lines have the write bit, whichever pool lends them
pub marked_anywhere : (one other : Pooled) (cache : List (List Way)) (kept : SectionState) →
    HoldsMarked cache (hold_in one kept).entries → HoldsMarked cache (hold_in other kept).entries
marked_anywhere one other cache kept marked line held =
    marked line (same_lines one other kept.hold.entries line ∙ held)
  where
    same_lines : (one other : Pooled) (entries : List Place) (line : ℕ) →
        holds (map (lent_entry one) entries) line ≡ holds (map (lent_entry other) entries) line
    same_lines one other [] line = refl
    same_lines one other (place ∷ places) line = by (place.line == line) (same_lines one other places line)
      where
        by : (same : Bool) → holds (map (lent_entry one) places) line ≡ holds (map (lent_entry other) places) line →
            is_some (if same then Some (lent_entry one place) else find (λ entry. entry.line == line)
            (map (lent_entry one) places))
            ≡ is_some (if same then Some (lent_entry other place) else find (λ entry. entry.line == line)
            (map (lent_entry other) places))
        by true rest = refl
        by false rest = rest

-- where no section is live, nothing is held
nothing_held : (marks : Marked) (hold : Slotted) (live : Option Section) (armed : Option Reserved) →
    StandsAs marks hold live armed → live ≡ None → hold.entries ≡ []
nothing_held marks hold None None stands none = stands.empty
nothing_held marks hold None (Some reserved) stands none = stands.empty
nothing_held marks hold (Some section) armed stands none = absurd (cc)

-- the pool of the parts lends the section of each hart
pub lends_section : (pool : Pooled) (state : ModelState) (h : ℕ) (own : OwnState) → IsOfHart pool state h own →
    LendsSection pool state h own.section
lends_section pool state h own is = record {
  owner = is.owner;
  lent = is.lent;
  live = is.part.section;
  keeps = is.section;
  nothing = nothing_held own.section.marks own.section.hold own.section.live own.section.armed is.stands;
}

-- and all that the state says
pub lends_state : (parts : Parts) (state : ModelState) → IsInState parts state → LendsState parts.pool state
lends_state parts state is_in = record {
  bus = parts.bus;
  shows = is_in.shows;
  told = is_in.told;
  sections = λ h. (own_at parts.harts h).section;
  each =
      λ h there. lends_section parts.pool state h (own_at parts.harts h)
      (is_in.harts h (omega (arith, is_in.one_each, there)));
}

-- that of one hart
pub lent_here : (parts : Parts) (state : ModelState) (h : ℕ) (kept : SectionState) → IsInState parts state →
    h < length parts.harts → kept ≡ (own_at parts.harts h).section → LendsSection parts.pool state h kept
lent_here parts state h kept is_in there is =
    subst (λ s. LendsSection parts.pool state h s) (sym is)
    (lends_section parts.pool state h (own_at parts.harts h) (is_in.harts h there))
