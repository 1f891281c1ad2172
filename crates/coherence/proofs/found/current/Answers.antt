use Rattle.std.proofs.Common.{◌∙◌, refl, sym}
use Rattle.coherence.specs.Lent.{lent_all, slotted_at}
use Rattle.coherence.proofs.Laws.Owners.{dirty_resident, found_in_copy, found_in_memory, no_owner, owner_at}
use Rattle.coherence.proofs.found.current.Goals as goal

pub bytes_at-requires-clause-inside : goal.bytes_at-requires-clause-inside
bytes_at-requires-clause-inside c =
    (owner_at c.args.caches.now c.args.line.number c.in-Some.place (sym c.owner.ensures ∙ c.in-Some.is)).0

pub bytes_at-requires-clause-lent : goal.bytes_at-requires-clause-lent
bytes_at-requires-clause-lent c = c.requires.lent.each c.in-Some.place (bytes_at-requires-clause-inside c)

pub bytes_at-requires-clause-resident : goal.bytes_at-requires-clause-resident
bytes_at-requires-clause-resident c =
    dirty_resident (slotted_at c.args.caches.now c.in-Some.place).residency c.args.line.number
    (owner_at c.args.caches.now c.args.line.number c.in-Some.place (sym c.owner.ensures ∙ c.in-Some.is)).1

pub returns-in-Some : goal.returns-in-Some
returns-in-Some c =
    found_in_copy c.args.pool.now c.args.caches.now c.args.line.number c.in-Some.place _ _
    (owner_at c.args.caches.now c.args.line.number c.in-Some.place (sym c.owner.ensures ∙ c.in-Some.is)).1
    c.bytes_at.ensures

pub returns-in-None : goal.returns-in-None
returns-in-None c =
    found_in_memory (lent_all c.args.pool.now c.args.caches.now) c.args.line.number _ _
    (no_owner c.args.caches.now c.args.line.number (sym c.owner.ensures ∙ c.in-None.is) c.args.pool.now) refl
