use Rattle.std.proofs.Common.{ap, sym, ◌∙◌}
use Rattle.residency.specs.Cache.{is_resident}
use Rattle.coherence.specs.Lent.{lent_all}
use Rattle.coherence.proofs.Laws.Offered.{lent_at}
use Rattle.coherence.proofs.ServedLaws.{moved_by_keeping}
use Rattle.coherence.proofs.hierarchy.Hierarchy.bring.Goals as goal

pub returns-then-has : goal.returns-then-has
returns-then-has c =
    let self = c.args.self.now in
    let h = c.args.hart.number in
    let line = c.args.line.number in
    record {
      moved =
          moved_by_keeping c.args.need h line self.first self.lines.items (lent_all c.args.pool.now self.caches.items)
          (lent_all c.keep.new.pool c.keep.new.caches.items)
          (ap (λ cached. is_resident cached.residency line) (lent_at c.args.pool.now self.caches.items h)
          ∙ sym c.has.ensures ∙ c.if-has.true)
          c.keep.ensures.kept;
      lent = c.keep.ensures.lent;
      holds = c.keep.ensures.holds;
    }

pub fetch-requires-clause-inside : goal.fetch-requires-clause-inside
fetch-requires-clause-inside c h l resident =
    c.requires.coherent.tells.inside h l
    (ap (λ cached. is_resident cached.residency l) (lent_at c.args.pool.now c.args.self.now.caches.items h) ∙ resident)
