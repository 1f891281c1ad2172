use Rattle.std.proofs.Common.{◌<◌, length, refl, subst, sym}
use Rattle.cache_sets.specs.Calls.{IsTouched}
use Rattle.coherence.specs.Caches.{cache_at}
use Rattle.coherence.specs.Changed.{IsReplacedAt}
use Rattle.coherence.specs.Lent.{lent_all}
use Rattle.coherence.specs.Served.{shown_copies}
use Rattle.coherence.proofs.Laws.Offered.{length-lent, lent-replaced, replaced_at}
use Rattle.coherence.proofs.ServedLaws.{served_by_touch}
use Rattle.coherence.proofs.hierarchy.Hierarchy.serve.Goals as goal

pub returns-clause-served : goal.returns-clause-served
returns-clause-served c =
    let old = shown_copies c.args.pool.now c.args.self.now in
    let now = c.bring.new.pool in
    let mid = shown_copies now c.bring.new.self in
    let h = c.args.hart.number in
    let line = c.args.line.number in
    let exists : h < length old.caches =
    subst (λ n. h < n) (sym (length-lent c.args.pool.now c.args.self.now.caches.items)) c.requires.hart_exists in
    let inside : h < length mid.caches = subst (λ n. h < n) (sym c.bring.ensures.moved.stays.caches) exists in
    let touch : IsReplacedAt (λ before after. IsTouched before after line) h mid.caches
    (lent_all now c.touch.new.caches.items) =
    replaced_at (λ before after. IsTouched before after line) h c.bring.new.self.caches.items c.touch.new.caches.items
    now c.touch.ensures in
    rw touch.new_is
    (served_by_touch c.args.need h line h old mid (cache_at mid.caches h) touch.cache refl inside c.bring.ensures.moved
    refl touch.becomes)

pub returns-clause-coherent : goal.returns-clause-coherent
returns-clause-coherent c =
    let coherent = c.requires.coherent in
    record { bytes = coherent.bytes; tells = (returns-clause-served c).stays.coherent coherent.bytes coherent.tells }

pub returns-clause-lent : goal.returns-clause-lent
returns-clause-lent c =
    lent-replaced (λ before after. IsTouched before after c.args.line.number) c.args.hart.number
    c.bring.new.self.caches.items
    c.touch.new.caches.items c.bring.new.pool
    (subst (λ n. c.args.hart.number < n) (length-lent c.bring.new.pool c.bring.new.self.caches.items)
    (subst (λ n. c.args.hart.number < n) (sym c.bring.ensures.moved.stays.caches)
    (subst (λ n. c.args.hart.number < n) (sym (length-lent c.args.pool.now c.args.self.now.caches.items))
    c.requires.hart_exists)))
    c.touch.ensures c.bring.ensures.lent
