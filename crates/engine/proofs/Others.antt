-- a step of one hart, as the others come out of it
use Rattle.std.proofs.Common.{◌≡◌, ◌≢◌, ◌∙◌, ℕ, ◌<◌, length, Option, Some, None, is_some, refl, ap, sym, subst}
use Rattle.std.specs.Prelude.{IsSome, option_map, slice_set}
use Rattle.std.proofs.lemmas.List.{get_or-set_other}
use Rattle.el_base.specs.declared.events.Event.{Event}
use Rattle.el_base.specs.declared.events.Kind.TheVariants as kinds
use Rattle.el_model.proofs.Laws.Harts.{hart_of-with_hart_other}
use Rattle.el_model.specs.Next.{next}
use Rattle.el_model.specs.State.{Hart, ModelState, Section, armed_of, cache_of, hart_of, section_of}
use Rattle.engine.proofs.Reaching.{other_step_beside, runs_armed, survives_event}
use Rattle.engine.specs.Acting.{MayAct, freed}
use Rattle.engine.specs.Parts.{IsInState, IsOfHart, KeepsReserved, KeepsSection, KeepsSectionOf, Parts, StandsAs}
use Rattle.engine.specs.Parts.{own_at}
use Rattle.engine.specs.Reached.{IsReached}
use Rattle.hart_state.specs.Deeds.{unreserved_own}
use Rattle.hart_state.specs.Own.{HasOwn, OwnState, new_own}
use Rattle.line_pool.specs.Pooled.{Pooled}
use Rattle.reg_mark.proofs.Laws.Views.{committed_unreserved}
use Rattle.reg_mark.specs.Marks.{committed_of, views_unreserved}
use Rattle.reg_mark.specs.declared.marked.Marked.{Marked}
use Rattle.rv_alu.specs.Reservations.{unreserved}
use Rattle.rv_alu.specs.declared.view.HartView.{HartView}
use Rattle.rv_flat.specs.FlatState.{FlatState, no_hart, view_of}
use Rattle.section_ctl.specs.State.{Reserved, hold_in}
use Rattle.section_view.proofs.Laws.Surviving.{kept_armed_survive, kept_survive, marks_stay}
use Rattle.section_view.specs.KeptRun.{HoldsMarked, KeepsArmed, KeepsRun}
use Rattle.step_laws.proofs.Laws.Frames.{steps_keep_others}
use Rattle.step_laws.specs.Frames.{LeavesOthers}
use Rattle.step_laws.specs.Survivors.{Survives}
use Rattle.write_hold.specs.Slotted.{IsLent, Slotted, lent}

-- the views of a hart, of which at most the committed one has changed: no checkpoint stands as before, or one stands as
-- before, and the present view beside it has stayed
pub record KeepsPresent (old new : Marked) : Type 0 where
  pub unmarked : old.mark ≡ None → new.mark ≡ None
  pub marked : IsSome old.mark → IsSome new.mark
  pub present : IsSome old.mark → new.present ≡ old.present

-- what a hart keeps, but that its committed view is this one now
pub record IsSeenAs (old new : OwnState) (committed : HartView) : Type 0 where
  pub rest : new ≡ record old { section = record old.section { marks = new.section.marks } }
  pub marks : KeepsPresent old.section.marks new.section.marks
  pub view : committed_of new.section.marks ≡ committed

-- where a section survives, the same present view and the same hold keep it
keeps_section : (pool : Pooled) (state new : ModelState) (g : ℕ) (section : Section) (old own : OwnState) →
    Survives state new g section → KeepsSection pool state g section old.section →
    KeepsPresent old.section.marks own.section.marks → own.section.hold ≡ old.section.hold →
    IsSome old.section.marks.mark → KeepsSection pool new g section own.section
keeps_section pool state new g section old own survives keeps marks hold marked =
    let held = hold_in pool old.section in
    let bits = marks_stay (cache_of state g) (cache_of new g) held.entries survives.keeps.bits.written keeps.marked in
    record {
      run =
          subst (λ present. KeepsRun new.committed g section present (hold_in pool own.section).entries)
          (sym (marks.present marked))
          (subst (λ h. KeepsRun new.committed g section old.section.marks.present (lent pool h).entries) (sym hold)
          (kept_survive g (cache_of state g) section state.committed new.committed
          old.section.marks.present held.entries
          survives.covered survives.change keeps.marked keeps.run));
      marked = subst (λ h. HoldsMarked (cache_of new g) (lent pool h).entries) (sym hold) bits;
    }

-- what stood keeps standing
stands_still : (live : Option Section) (reserved : Option Reserved) (hold : Slotted) (old new : Marked) →
    KeepsPresent old new → StandsAs old hold live reserved → StandsAs new hold live reserved
stands_still None None hold old new marks stands =
    record { unmarked = marks.unmarked stands.unmarked; empty = stands.empty }
stands_still None (Some reserved) hold old new marks stands = record {
  mark = marks.marked stands.mark;
  running = ap (λ present. present.status) (marks.present stands.mark) ∙ stands.running;
  aligned = stands.aligned;
  empty = stands.empty;
  counted = stands.counted;
}
stands_still (Some section) None hold old new marks stands = record {
  mark = marks.marked stands.mark;
  running = ap (λ present. present.status) (marks.present stands.mark) ∙ stands.running;
  aligned = stands.aligned;
  free = stands.free;
}
stands_still (Some section) (Some reserved) hold old new marks stands = absurd stands

-- what a hart keeps is that of its part of the definition's hart, but that its committed view may have changed
has_still : (old own : OwnState) (before after : Hart) (view : HartView) → after ≡ before →
    IsSeenAs old own view → HasOwn old before → HasOwn own after
has_still old own before after view same seen has = subst (HasOwn own) (sym same)
    (subst (λ o. HasOwn o before) (sym seen.rest) (record {
      section = has.section;
      armed = has.armed;
      last_lr = has.last_lr;
      predictor = has.predictor;
      fallback = has.fallback;
      tries = has.tries;
    }))

-- a checkpoint stands by a section, live or armed
marked_live : (reserved : Option Reserved) (section : Section) (hold : Slotted) (marks : Marked) →
    StandsAs marks hold (Some section) reserved → IsSome marks.mark
marked_live None section hold marks stands = stands.mark
marked_live (Some reserved) section hold marks stands = absurd stands

marked_armed : (live : Option Section) (reserved : Reserved) (hold : Slotted) (marks : Marked) →
    StandsAs marks hold live (Some reserved) → IsSome marks.mark
marked_armed None reserved hold marks stands = stands.mark
marked_armed (Some section) reserved hold marks stands = absurd stands

-- by whether a section is live
kept_by : (pool : Pooled) (live : Option Section) (from before new : ModelState) (g : ℕ) (old own : OwnState) →
    ((section : Section) → live ≡ Some section → Survives from new g section) →
    KeepsSectionOf pool before g live old.section → before.committed ≡ from.committed →
    cache_of before g ≡ cache_of from g → StandsAs old.section.marks old.section.hold live old.section.armed →
    IsSeenAs old own (view_of new.committed g) → KeepsSectionOf pool new g live own.section
kept_by pool None from before new g old own survives keeps committed cache stands seen = tt
kept_by pool (Some section) from before new g old own survives keeps committed cache stands seen =
    keeps_section pool from new g section old own (survives section refl)
    (record {
      run =
          subst (λ memory. KeepsRun memory g section old.section.marks.present (hold_in pool old.section).entries)
          committed keeps.run;
      marked = subst (λ c. HoldsMarked c (hold_in pool old.section).entries) cache keeps.marked;
    })
    seen.marks (ap (λ o. o.section.hold) seen.rest)
    (marked_live old.section.armed section old.section.hold old.section.marks stands)

-- an armed section that stays armed is kept by the same present view
reserved_by : (reserved : Option Reserved) (from : ModelState) (new : FlatState) (g : ℕ) (old own : OwnState) →
    ((r : Reserved) → reserved ≡ Some r →
    KeepsArmed from.committed g r.armed r.old old.section.marks.present →
    KeepsArmed new g r.armed r.old old.section.marks.present) →
    KeepsReserved from.committed g reserved old.section.marks.present →
    StandsAs old.section.marks old.section.hold old.section.live reserved →
    KeepsPresent old.section.marks own.section.marks → KeepsReserved new g reserved own.section.marks.present
reserved_by None from new g old own survive keeps stands marks = tt
reserved_by (Some reserved) from new g old own survive keeps stands marks =
    subst (KeepsArmed new g reserved.armed reserved.old)
    (sym (marks.present (marked_armed old.section.live reserved old.section.hold old.section.marks stands)))
    (survive reserved refl keeps)

-- after a step of one hart, what another keeps is what it kept, but that its committed
-- view is that of the state after it
pub others_stay : (parts : Parts) (from : ModelState) (event : Event) (g : ℕ) (own : OwnState) → IsReached from →
    IsInState parts (freed from event.hart.number) → event.kind ≡ kinds.Step → g ≢ event.hart.number →
    g < length parts.harts → IsSeenAs (own_at parts.harts g) own (view_of (next from event).state.committed g) →
    IsOfHart parts.pool (next from event).state g own
others_stay parts from event g own reached is step other exists seen = record {
  part = has_still old own (hart_of before g) (hart_of new g) _ (same ∙ sym was_same) seen was.part;
  view = seen.view;
  section =
      subst (λ live. KeepsSectionOf parts.pool new g live own.section)
      (sym (ap (λ hart. hart.section) (same ∙ sym was_same)))
      (kept_by parts.pool (section_of before g) from before new g old own survive was.section refl
      (ap (λ hart. hart.cache) was_same) live_stands seen);
  armed = subst (λ o. KeepsReserved new.committed g o.section.armed own.section.marks.present) (sym seen.rest)
      (reserved_by old.section.armed from new.committed g old own armed_survive was.armed was.stands seen.marks);
  stands = subst (λ o. StandsAs own.section.marks o.section.hold o.section.live o.section.armed) (sym seen.rest)
      (stands_still old.section.live old.section.armed old.section.hold old.section.marks own.section.marks
      seen.marks was.stands);
  limit = ap (λ o. o.section.hold.limit) seen.rest ∙ was.limit ∙ ap (λ config. config.lines) (sym left.config);
  owner = ap (λ o. o.section.hold.owner) seen.rest ∙ was.owner;
  lent = subst (λ o. IsLent parts.pool o.section.hold) (sym seen.rest) was.lent;
}
  where
    new : ModelState
    new = (next from event).state

    before : ModelState
    before = freed from event.hart.number

    old : OwnState
    old = own_at parts.harts g

    was : IsOfHart parts.pool before g old
    was = is.harts g exists

    left : LeavesOthers from new event.hart.number
    left = steps_keep_others from event step

    was_same : hart_of before g ≡ hart_of from g
    was_same = hart_of-with_hart_other from event.hart.number g _ other

    same : hart_of new g ≡ hart_of from g
    same = left.others g other

    live_stands : StandsAs old.section.marks old.section.hold (section_of before g) old.section.armed
    live_stands =
        subst (λ live. StandsAs old.section.marks old.section.hold live old.section.armed) was.part.section was.stands

    armed_survive : (r : Reserved) → old.section.armed ≡ Some r →
        KeepsArmed from.committed g r.armed r.old old.section.marks.present →
        KeepsArmed new.committed g r.armed r.old old.section.marks.present
    armed_survive r is_reserved keeps =
        let here : armed_of from g ≡ Some r.armed =
        sym (ap (λ hart. hart.armed) was_same) ∙ sym was.part.armed
        ∙ ap (option_map (λ reserved. reserved.armed)) is_reserved in
        kept_armed_survive g (cache_of from g) r.armed from.committed new.committed r.old old.section.marks.present
        (runs_armed from g r.armed reached here)
        (other_step_beside from event g reached (λ own_step. other (sym own_step)) step) keeps

    survive : (section : Section) → section_of before g ≡ Some section → Survives from new g section
    survive section live =
        let here = sym (ap (λ hart. hart.section) was_same) ∙ live in
        survives_event from event g section reached (λ _ own_step. other (sym own_step)) here
        (ap (λ hart. is_some hart.section) same ∙ ap is_some here)

-- a hart that nothing happened to
pub seen_same : (own : OwnState) (committed : HartView) → committed_of own.section.marks ≡ committed →
    IsSeenAs own own committed
seen_same own committed is = record {
  rest = refl;
  marks = record { unmarked = λ none. none; marked = λ some. some; present = λ some. refl };
  view = is;
}

-- one hart keeps something new, and the others what they kept
pub others_kept : (old : Parts) (h : ℕ) (from : ModelState) (own : OwnState) (committed : FlatState) →
    MayAct old h from → ((g : ℕ) → g ≢ h → view_of committed g ≡ view_of from.committed g) →
    (g : ℕ) → g ≢ h → g < length old.harts →
    IsSeenAs (own_at old.harts g) (own_at (slice_set old.harts h own) g) (view_of committed g)
others_kept old h from own committed may same g other exists =
    subst (λ o. IsSeenAs (own_at old.harts g) o (view_of committed g))
    (sym (get_or-set_other old.harts h g own (new_own no_hart 0 0) other))
    (seen_same (own_at old.harts g) (view_of committed g) ((may.is_in.harts g exists).view ∙ sym (same g other)))

-- the views of which the committed one lost its reservation of a word on a line
unreserved_marks : (line : ℕ) (present : HartView) (mark : Option HartView) →
    KeepsPresent (record { present = present; mark = mark }) (views_unreserved line mark present)
unreserved_marks line present None =
    record { unmarked = λ none. refl; marked = λ some. some; present = λ some. absurd (cc) }
unreserved_marks line present (Some mark) =
    record { unmarked = λ none. absurd (cc); marked = λ some. refl; present = λ some. refl }

pub seen_unreserved : (line : ℕ) (own : OwnState) →
    IsSeenAs own (unreserved_own line own) (unreserved line (committed_of own.section.marks))
seen_unreserved line own = record {
  rest = refl;
  marks = unreserved_marks line own.section.marks.present own.section.marks.mark;
  view = committed_unreserved line own.section.marks;
}
