use Rattle.std.proofs.Common.{◌<◌, subst, sym}
use Rattle.cache_sets.specs.Calls.{IsCleared}
use Rattle.coherence.specs.Changed.{IsReplacedAt}
use Rattle.coherence.specs.Lent.{lent_all}
use Rattle.coherence.proofs.ChangedLaws.{changed_at}
use Rattle.coherence.proofs.Laws.Offered.{length-lent, lent-replaced, replaced_at}
use Rattle.coherence.proofs.hierarchy.Hierarchy.clear.Goals as goal

pub returns-clause-changed : goal.returns-clause-changed
returns-clause-changed c pool =
    let self = c.args.self.now in
    let h = c.args.hart.number in
    let old = lent_all pool self.caches.items in
    let new = lent_all pool c.clear.new.caches.items in
    let replaced : IsReplacedAt IsCleared h old new =
    replaced_at IsCleared h self.caches.items c.clear.new.caches.items pool c.clear.ensures in
    changed_at IsCleared h self.first self.lines.items old new
    (subst (λ n. h < n) (sym (length-lent pool self.caches.items)) c.requires) replaced replaced.becomes.copies

pub returns-clause-lent : goal.returns-clause-lent
returns-clause-lent c pool owed =
    lent-replaced IsCleared c.args.hart.number c.args.self.now.caches.items c.clear.new.caches.items pool c.requires
    c.clear.ensures owed
