-- the line that was touched is the most recent one of its set
use Rattle.std.proofs.Common.{◌≡◌, ◌∙◌, ap, inl, inr, refl, subst, sym}
use Rattle.cache_sets.specs.Calls.{IsTouched}
use Rattle.cache_sets.specs.Slotted as caches
use Rattle.el_base.specs.declared.outcomes.Need.{Need}
use Rattle.el_base.specs.declared.outcomes.Need.TheVariants as needs
use Rattle.el_base.specs.Line.{line_number}
use Rattle.el_model.specs.Upcoming.{touch_of}
use Rattle.line_pool.specs.Pooled.{Pooled}
use Rattle.section_view.specs.PrivateRun.{HasItsBit}
use Rattle.rv_alu.specs.Footprint.{footprint}
use Rattle.rv_alu.specs.declared.footprint.Access.{Access}
use Rattle.section_ctl.proofs.Runs.{covered_touch}
use Rattle.section_ctl.specs.Calls.{IsCoveredIn}
use Rattle.std.specs.Prelude.{Some}
use Rattle.section_ctl.proofs.run.touch.Goals as goal

-- for either need
covers : (c : goal.After-touch) (pool : Pooled) (access : Access) (need : Need) → c.footprint.result ≡ access →
    touch_of access ≡ Some (record { line = line_number c.in-Read.address; need = need }) →
    IsCoveredIn (caches.lent pool c.args.sets.now) (caches.lent pool c.touch.new.self)
    (touch_of (footprint c.args.action))
covers c pool access need is touches =
    let old = caches.lent pool c.args.sets.now in
    let new = caches.lent pool c.touch.new.self in
    let same = ap touch_of (sym c.footprint.ensures ∙ is) ∙ touches in
    subst (IsCoveredIn old new) (sym same)
    (covered_touch old new _ (subst (HasItsBit c.args.sets.now.residency) same c.requires)
    (subst (IsTouched old new) c.line_of.ensures (c.touch.ensures.touched pool)))

pub returns-in-Read-clause-covered : goal.returns-in-Read-clause-covered
returns-in-Read-clause-covered c pool = elim c.in-Read.is [
  | inl read ↦ covers c pool _ needs.Read read.1 refl
  | inr write ↦ covers c pool _ needs.Write write.1 refl
]
