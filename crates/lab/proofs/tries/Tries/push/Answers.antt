-- one more section is live
use Rattle.std.proofs.Common.{◌≡◌, ◌++◌, ◌∷◌, [], ℕ, Some, arith, length, set, subst, sym, vec_len}
use Rattle.lab.proofs.Tracking.{tracks_push}
use Rattle.lab.proofs.tries.Tries.push.Goals as goal
use Rattle.lab.specs.Tracked.{Tracks}
use Rattle.lab.specs.Tries.{HasNone}

pub invariant_of-self-2 : goal.invariant_of-self-2
invariant_of-self-2 c =
    let items = c.self.inside.list.items in
    let same : length items ≡ vec_len c.self.inside.list = omega (arith, c.self.inside.list.ok.0) in
    let small = c.args.begun.hart.small in
    let At : ℕ → Type 0 =
    λ n. Tracks (items ++ c.args.begun ∷ []) (set c.self.inside.live c.args.begun.hart.number (Some n)) in
    rw (c.in_ok-push.ensures.items, c.from.ensures, c.len-place.ensures)
    (subst At same
    (tracks_push items c.self.inside.live c.args.begun c.self.invariant c.requires.live
    (subst (HasNone c.args.begun.hart.number) (sym c.self.view_is) c.requires.none)
    (omega (arith, c.self.invariant.eight, small)) (omega (arith, same, c.len-place.ensures))))
