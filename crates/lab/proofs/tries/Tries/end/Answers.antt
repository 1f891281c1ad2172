-- the one live section of the hart ends, where there is one
use Rattle.std.proofs.Common.{◌≡◌, ◌∙◌, Some, ap, map, set, sym}
use Rattle.std.proofs.lemmas.List.{get_or_read}
use Rattle.lab.proofs.Tracking.{none_at, none_ended, one_ended}
use Rattle.lab.proofs.tries.Tries.end.Goals as goal
use Rattle.lab.specs.Tracked.{live_at, no_try, try_at}
use Rattle.lab.specs.Tries.{ended_for}
use Rattle.lab.specs.declared.tries.Try.{Try}

pub returns-in-Some : goal.returns-in-Some
returns-in-Some c =
    let here : live_at c.self.inside.live c.args.hart.number ≡ Some c.in-Some.place =
    ap (live_at c.self.inside.live) (sym c.from.ensures) ∙ c.in-Some.is in
    let was : c.index_mut.result.now ≡ try_at c.self.inside.list.items c.in-Some.place =
    get_or_read c.self.inside.list.items c.in-Some.place c.index_mut.result.now
    (c.self.invariant.there c.args.hart.number c.in-Some.place here) c.index_mut.ensures.value no_try in
    ap (λ (t : Try). set c.self.inside.list.items c.in-Some.place (record t { ended = c.args.ended })) was
    ∙ one_ended c.self.inside.list.items c.self.inside.live c.args.hart.number c.self.invariant c.in-Some.place
    c.args.ended here
    ∙ ap (map (ended_for c.args.hart.number c.args.ended)) c.self.view_is

pub returns-in_default : goal.returns-in_default
returns-in_default c =
    sym c.self.view_is
    ∙ none_ended c.self.inside.list.items c.self.inside.live c.args.hart.number c.self.invariant c.args.ended
    (ap (live_at c.self.inside.live) (sym c.from.ensures) ∙ none_at _ c.in_default.not-Some)
    ∙ ap (map (ended_for c.args.hart.number c.args.ended)) c.self.view_is
