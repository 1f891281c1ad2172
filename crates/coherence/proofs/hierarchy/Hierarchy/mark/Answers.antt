use Rattle.std.proofs.Common.{◌<◌, subst, sym}
use Rattle.coherence.specs.Changed.{GetsBit, IsReplacedAt}
use Rattle.coherence.specs.Lent.{lent_all}
use Rattle.coherence.proofs.ChangedLaws.{changed_at}
use Rattle.coherence.proofs.Laws.Offered.{length-lent, lent-replaced, replaced_at}
use Rattle.coherence.proofs.hierarchy.Hierarchy.mark.Goals as goal

pub returns-clause-changed : goal.returns-clause-changed
returns-clause-changed c pool =
    let self = c.args.self.now in
    let h = c.args.hart.number in
    let becomes = GetsBit c.args.line.number c.args.need in
    let old = lent_all pool self.caches.items in
    let new = lent_all pool c.mark.new.caches.items in
    let replaced : IsReplacedAt becomes h old new =
    replaced_at becomes h self.caches.items c.mark.new.caches.items pool c.mark.ensures in
    changed_at becomes h self.first self.lines.items old new
    (subst (λ n. h < n) (sym (length-lent pool self.caches.items)) c.requires.hart_exists) replaced
    replaced.becomes.copies

pub returns-clause-lent : goal.returns-clause-lent
returns-clause-lent c pool owed =
    lent-replaced (GetsBit c.args.line.number c.args.need) c.args.hart.number c.args.self.now.caches.items
    c.mark.new.caches.items pool
    c.requires.hart_exists c.mark.ensures owed
