-- what is seen of the parts is what the state shows, and the parts before the first event
use Rattle.std.proofs.Common.{◌≡◌, ◌∙◌, ℕ, ◌+◌, ◌-◌, ◌<◌, List, [], length, map, Option, None, Some, refl, ap, sym}
use Rattle.std.proofs.Common.{subst, zero-add}
use Rattle.std.specs.List.{range_with_len}
use Rattle.std.specs.Prelude.{option_map}
use Rattle.std.proofs.lemmas.List.{ext_get_or, get_or-map, get_or-replicate, length-map, length-replicate}
use Rattle.std.proofs.lemmas.List.FromFn.{get_or-map-range_with_len, length-map-range_with_len}
use Rattle.coherence.specs.Beginning.{bytes_at_first}
use Rattle.el_base.specs.declared.config.Config.{Config}
use Rattle.el_model.specs.Next.{all_stopped, is_over, shown_of, view_in, view_outside}
use Rattle.el_model.specs.State.{ModelState, Section, armed_of, begin, hart_of, new_hart, section_of}
use Rattle.elf_image.specs.Program.{Program}
use Rattle.engine.specs.Acting.{next_action}
use Rattle.engine.specs.Parts.{IsInState, IsOfHart, KeepsReserved, KeepsSectionOf, Parts, StandsAs, hold_owner, own_at}
use Rattle.engine.specs.Parts.{room_in}
use Rattle.engine.specs.Views.{committed_views, first_own}
use Rattle.hart_state.proofs.Laws.Harts.{new_is}
use Rattle.hart_state.specs.Own.{HasOwn, OwnState, new_own}
use Rattle.line_pool.specs.Pooled.{Pooled}
use Rattle.reg_mark.specs.Marks.{checkpoint_or, committed_of}
use Rattle.rv_alu.specs.Footprint.{IsInPlace}
use Rattle.rv_alu.specs.declared.action.Action.{Action}
use Rattle.rv_alu.specs.declared.span.Span.{Span}
use Rattle.rv_alu.specs.declared.view.HartView.{HartView}
use Rattle.rv_flat.specs.FlatState.{first_view, no_hart, output_limit, room_of, span_of, start, view_of}
use Rattle.rv_flat.specs.Step.{action_of}
use Rattle.section_ctl.specs.State.{Reserved, SectionState}
use Rattle.snoop.specs.Shows.{Shows, Tells}
use Rattle.write_hold.specs.Slotted.{IsLent}

-- the committed views are the state's
pub views_are : (parts : Parts) (state : ModelState) → IsInState parts state →
    committed_views parts.harts ≡ state.committed.harts
views_are parts state is =
    let view : OwnState → HartView = λ own. committed_of own.section.marks in
    let same = length-map parts.harts view in
    ext_get_or no_hart (committed_views parts.harts) state.committed.harts (same ∙ is.view_each)
    (λ h below.
    let inside : h < length parts.harts = subst (λ n. h < n) same below in
    get_or-map view parts.harts h (new_own no_hart 0 0) no_hart inside ∙ (is.harts h inside).view)

pub over_is : (parts : Parts) (state : ModelState) → IsInState parts state →
    all_stopped (committed_views parts.harts) ≡ is_over state
unfolding is_over
over_is parts state is = ap all_stopped (views_are parts state is)

-- a hart sees what its section shows, live or armed, and else its committed view
sees_outside : (state : ModelState) (h : ℕ) (reserved : Option Reserved) (kept : SectionState) →
    option_map (λ r. r.armed) reserved ≡ armed_of state h →
    KeepsReserved state.committed h reserved kept.marks.present → StandsAs kept.marks kept.hold None reserved →
    committed_of kept.marks ≡ view_of state.committed h → kept.marks.present ≡ view_outside state h (armed_of state h)
sees_outside state h None kept is keeps stands view =
    sym (ap (λ mark. checkpoint_or mark kept.marks.present) stands.unmarked) ∙ view ∙ ap (view_outside state h) is
sees_outside state h (Some reserved) kept is keeps stands view = keeps.view ∙ ap (view_outside state h) is

sees : (pool : Pooled) (state : ModelState) (h : ℕ) (live : Option Section) (kept : SectionState) →
    option_map (λ r. r.armed) kept.armed ≡ armed_of state h →
    KeepsSectionOf pool state h live kept → KeepsReserved state.committed h kept.armed kept.marks.present →
    StandsAs kept.marks kept.hold live kept.armed → committed_of kept.marks ≡ view_of state.committed h →
    kept.marks.present ≡ view_in state h live
sees pool state h None kept is keeps armed stands view = sees_outside state h kept.armed kept is armed stands view
sees pool state h (Some section) kept is keeps armed stands view = keeps.run.view

pub sees_shown : (parts : Parts) (state : ModelState) (h : ℕ) → IsInState parts state → h < length parts.harts →
    (own_at parts.harts h).section.marks.present ≡ shown_of state h
sees_shown parts state h is below =
    let hart = is.harts h below in
    let kept = (own_at parts.harts h).section in
    sees parts.pool state h (section_of state h) kept hart.part.armed hart.section hart.armed
    (subst (λ live. StandsAs kept.marks kept.hold live kept.armed) hart.part.section hart.stands) hart.view

-- what a hart comes to next is what the view that it sees comes to
pub acts_as_shown : (parts : Parts) (state : ModelState) (h : ℕ) → IsInState parts state → h < length parts.harts →
    next_action parts h ≡ action_of state.committed (shown_of state h)
acts_as_shown parts state h is below =
    rw (is.code, is.span, is.output, sees_shown parts state h is below) refl

pub acts_in_place : (parts : Parts) (state : ModelState) (action : Action) → IsInState parts state →
    IsInPlace parts.span (room_in parts) action → IsInPlace (span_of state.committed) (room_of state.committed) action
acts_in_place parts state action is placed =
    let InSpan : Span → Type 0 = λ span. IsInPlace span (room_of state.committed) action in
    let InRoom : ℕ → Type 0 = λ room. IsInPlace parts.span room action in
    let room : room_in parts ≡ room_of state.committed =
    ap (λ (output : List ℕ). output_limit - length output) is.output in
    subst InSpan is.span (subst InRoom room placed)

-- nothing is held where no section is live
nothing_held : (live : Option Section) (reserved : Option Reserved) (kept : SectionState) →
    StandsAs kept.marks kept.hold live reserved → live ≡ None → kept.hold.entries ≡ []
nothing_held None None kept stands none = stands.empty
nothing_held None (Some reserved) kept stands none = stands.empty
nothing_held (Some section) reserved kept stands none = absurd cc

pub holds_nothing : (parts : Parts) (state : ModelState) (h : ℕ) → IsInState parts state → h < length parts.harts →
    (own_at parts.harts h).section.live ≡ None → (own_at parts.harts h).section.hold.entries ≡ []
holds_nothing parts state h is below none =
    let kept = (own_at parts.harts h).section in nothing_held kept.live kept.armed kept (is.harts h below).stands none

-- a hart before its first event
first_hart : (program : Program) (config : Config) (pool : Pooled) (h : ℕ) → h < program.harts →
    IsLent pool (first_own program config h).section.hold →
    IsOfHart pool (begin program config) h (first_own program config h)
unfolding begin start
first_hart program config pool h below lent =
    let view : view_of (start program) h ≡ first_view program h =
    get_or-map-range_with_len (first_view program) 0 program.harts h h no_hart below (zero-add h) in
    let hart : hart_of (begin program config) h ≡ new_hart config.sets =
    get_or-replicate program.harts h (new_hart config.sets) (new_hart 0) below in
    record {
      part =
          subst (λ k. HasOwn (first_own program config h) k) (sym hart)
          (new_is (first_view program h) config.lines (hold_owner h) config.sets);
      view = sym view;
      section =
          subst (λ live. KeepsSectionOf pool (begin program config) h live (first_own program config h).section)
          (sym (ap (λ k. k.section) hart)) tt;
      armed = tt;
      stands = record { unmarked = refl; empty = refl };
      limit = refl;
      owner = refl;
      lent = lent;
    }

-- the parts are in the first state
pub first_in : (program : Program) (config : Config) (parts : Parts) → parts.config ≡ config →
    parts.span ≡ record { base = program.base; end = program.base + length program.bytes } →
    Shows parts.bus (begin program config) → Tells parts.pool parts.bus (bytes_at_first program) →
    ((h : ℕ) → h < program.harts → IsLent parts.pool (first_own program config h).section.hold) →
    parts.harts ≡ map (first_own program config) (range_with_len 0 program.harts) → parts.code ≡ program.code →
    parts.output ≡ [] → IsInState parts (begin program config)
unfolding begin start
first_in program config parts config_is span_is shows told lent harts_are code_is none =
    let count : length parts.harts ≡ program.harts =
    ap length harts_are ∙ length-map-range_with_len (first_own program config) 0 program.harts in
    record {
      config = config_is;
      span = span_is;
      shows = shows;
      told = told;
      one_each = count ∙ sym (length-replicate program.harts (new_hart config.sets));
      view_each = count ∙ sym (length-map-range_with_len (first_view program) 0 program.harts);
      harts = λ h below.
          let inside : h < program.harts = subst (λ n. h < n) count below in
          subst (IsOfHart parts.pool (begin program config) h)
          (sym (ap (λ harts. own_at harts h) harts_are
          ∙ get_or-map-range_with_len (first_own program config) 0 program.harts h h (new_own no_hart 0 0)
          inside (zero-add h)))
          (first_hart program config parts.pool h inside (lent h inside));
      code = code_is;
      output = none;
    }
