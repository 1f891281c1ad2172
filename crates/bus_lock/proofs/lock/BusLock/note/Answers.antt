use Rattle.std.proofs.Common.{rules, ap, arith, ◌∙◌, length, ⊎_elim}
use Rattle.bus_lock.specs.Locks.{boxed}
use Rattle.bus_lock.proofs.Keeps.{notes}
use Rattle.bus_lock.proofs.lock.BusLock.note.Goals as goal

pub compare_exchange_with-requires : goal.compare_exchange_with-requires
compare_exchange_with-requires g c =
    let value = c.requires.value in let at_end = c.from-place.ensures ∙ c.requires.found in
    let another = c.if-count-found.false in let found = c.requires.found in (
      search rules,
      search rules,
      ⊎_elim (λ same. absurd (let long = value.2 ∙ ap length same in omega (arith, another, found, long)))
          (λ new. notes (boxed g.M.Chronicled.entries) (boxed g.M.Chronicled.opening) _ _ _ _ _ _ value.0 new.0 _ _ _
          (omega arith) value.1 c.requires.turn new.1 at_end)
          value.3,
    )
