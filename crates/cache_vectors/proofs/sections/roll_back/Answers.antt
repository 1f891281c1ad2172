-- nothing is held after a rollback
use Rattle.std.proofs.Common.{◌≡◌, ◌∙◌, List, [], map, ap, subst, sym}
use Rattle.residency.specs.Residency.{Way}
use Rattle.section_ctl.proofs.Laws.Lent.{both_by_hold}
use Rattle.section_view.specs.KeptRun.{HoldsMarked}
use Rattle.write_hold.specs.Held.{Entry}
use Rattle.write_hold.specs.Slotted as holds
use Rattle.cache_vectors.proofs.sections.roll_back.Goals as goal

none_marked : (cache : List (List Way)) (entries : List Entry) → entries ≡ [] → HoldsMarked cache entries
none_marked cache entries none = subst (HoldsMarked cache) (sym none) (λ line held. absurd (cc))

pub invariant_of-hart : goal.invariant_of-hart
invariant_of-hart c =
    let hart = c.args.hart.now in
    let exact = c.roll_back.ensures.exact in
    record {
      lent =
          both_by_hold hart.pool c.roll_back.new.pool hart.sets hart.section.hold hart.lent c.roll_back.ensures.others
          c.roll_back.new.self.hold
          c.roll_back.ensures.lent (ap (λ state. state.hold.owner) exact);
      marked =
          none_marked hart.sets.residency _
          (ap (λ state. map (holds.lent_entry c.roll_back.new.pool) state.hold.entries) exact);
      limit = ap (λ state. state.hold.limit) exact ∙ hart.limit;
    }
