-- each number is that of the acquire
use Rattle.std.proofs.Common.{◌∙◌, refl, subst}
use Rattle.lab_tables.proofs.LockRowing.{losses_shown, runs_same}
use Rattle.lab_tables.proofs.locks.Counts.row.Goals as goal
use Rattle.lab_tables.specs.LockCounts.{ShowsEach}

pub returns-clause-row : goal.returns-clause-row
returns-clause-row c =
    λ tries swaps are. record {
      kind = refl;
      sections = c.of.ensures ∙ are.sections c.args.acquire;
      lost_to =
          losses_shown tries c.args.self.now.lost_to.items c.args.acquire c.each_of.result are.lost_to
          (subst (λ lists. ShowsEach lists c.args.acquire c.each_of.result) c.deref.ensures.value c.each_of.ensures);
      in_vain = c.of-2.ensures ∙ are.in_vain c.args.acquire;
      plain =
          runs_same _ _ _ _ _ _ _ _ (c.of-3.ensures ∙ are.plain_mode c.args.acquire)
          (c.of-4.ensures ∙ are.fallback c.args.acquire)
          (c.of-5.ensures ∙ are.confidence c.args.acquire) (c.of-6.ensures ∙ are.no_candidate c.args.acquire);
    }
