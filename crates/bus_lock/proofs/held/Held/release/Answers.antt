use Rattle.std.proofs.Common.{refl, ap, sym, ◌∙◌, ◌∷◌, [], Some, false, length}
use Rattle.bus_lock.specs.Passes.{noted}
use Rattle.bus_lock.specs.Steps.{account_of, noted_view}
use Rattle.bus_lock.proofs.held.Held.release.Goals as goal

pub note-requires-clause-value : goal.note-requires-clause-value
note-requires-clause-value g c =
    let count = c.length-count.ensures ∙ ap (λ v. length (g.M.Chronicled.entries v)) c.deref.ensures in
    (c.self.inside.value, refl, count, rw (sym c.self.view_is) at c.requires.entries)

pub open-requires-clause-turn : goal.open-requires-clause-turn
open-requires-clause-turn g c =
    let home = c.self.inside.value in let entries = g.M.Chronicled.entries home.value in
    let pass = account_of c.self.inside.seat.table_id c.self.inside.seat.me.0 in
    let view = c.note.ensures.noted home refl ∙ ap (λ v. noted_view v entries) (ap (λ m. m.0) c.self.invariant.1) in
    let put = c.put_back.ensures.put ∙ ap (λ v. (v, (0, Some home) ∷ [])) view in
    (noted pass entries, home, put, rw (sym c.self.view_is) at c.requires.opening, refl)

pub of_seat-requires : goal.of_seat-requires
of_seat-requires g c =
    let home = c.self.inside.value in let entries = g.M.Chronicled.entries home.value in
    let pass = account_of c.self.inside.seat.table_id c.self.inside.seat.me.0 in
    let view = c.note.ensures.noted home refl ∙ ap (λ v. noted_view v entries) (ap (λ m. m.0) c.self.invariant.1) in
    let put = ap (λ m. m.0) c.put_back.ensures.put ∙ view in
    (noted pass entries, c.open.ensures.rests ∙ ap (λ v. (record v { ticket = 0; turn = false }, [])) put)
