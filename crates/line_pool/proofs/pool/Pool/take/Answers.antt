use Rattle.std.proofs.Common.{◌≡◌, ℕ, IfNone, Option, slice_set, subst, sym, ◌∙◌}
use Rattle.line_pool.specs.declared.slot.Slot.{Slot}
use Rattle.line_pool.specs.Calls.{IsTaken}
use Rattle.line_pool.specs.Kept.{shown_pool}
use Rattle.line_pool.specs.Pooled.{Pooled}
use Rattle.line_pool.proofs.Steps.{owner_there, same_pool, same_stands, taken, taken_stands}
use Rattle.line_pool.proofs.pool.Pool.take.Goals as goal

pub invariant_of-self : goal.invariant_of-self
invariant_of-self c =
    let i = c.self.inside in
    same_stands i.shares.items i.lines.items c.self.invariant c.from.result c.index_mut-share.result.now c.take.new.self
    (owner_there i.shares.items i.lines.items c.args.self.now c.args.owner c.from.result c.self.view_is
    c.requires c.from.ensures)
    c.index_mut-share.ensures.value c.in_err-place.ensures.taken.beside c.in_err-place.ensures.taken.free

pub returns-in_err-place-clause-unchanged : goal.returns-in_err-place-clause-unchanged
returns-in_err-place-clause-unchanged c =
    let i = c.self.inside in
    let pool : Pooled = shown_pool (slice_set i.shares.items c.from.result c.take.new.self) i.lines.items in
    let P : Option Slot → Type 0 = λ taken. IfNone taken (pool ≡ c.args.self.now) in
    subst P (sym c.from_residual.ensures)
    (same_pool i.shares.items i.lines.items c.self.invariant c.from.result c.index_mut-share.result.now c.take.new.self
    (owner_there i.shares.items i.lines.items c.args.self.now c.args.owner c.from.result c.self.view_is
    c.requires c.from.ensures)
    c.index_mut-share.ensures.value c.in_err-place.ensures.taken.beside c.in_err-place.ensures.taken.free
    ∙ c.self.view_is)

pub invariant_of-self-2 : goal.invariant_of-self-2
invariant_of-self-2 c =
    let i = c.self.inside in
    taken_stands i.shares.items i.lines.items c.self.invariant c.from.result
    c.index_mut-share.result.now c.take.new.self
    (owner_there i.shares.items i.lines.items c.args.self.now c.args.owner c.from.result c.self.view_is
    c.requires c.from.ensures)
    c.index_mut-share.ensures.value c.in_ok-place.ensures.taken.beside c.in_ok-place.place
    c.in_ok-place.ensures.taken.free

pub returns-clause-taken : goal.returns-clause-taken
returns-clause-taken c =
    let i = c.self.inside in
    let new = c.take.new.self in
    let pool : Pooled = shown_pool (slice_set i.shares.items c.from.result new) i.lines.items in
    let P : ℕ → Type 0 =
    λ owner. IsTaken (shown_pool i.shares.items i.lines.items) pool owner
    (record { owner = owner; place = c.in_ok-place.place }) in
    let Q : Pooled → Type 0 =
    λ old. IsTaken old pool c.args.owner (record { owner = c.args.owner; place = c.in_ok-place.place }) in
    subst Q c.self.view_is (subst P c.from.ensures
    (taken i.shares.items i.lines.items c.self.invariant c.from.result c.index_mut-share.result.now new
    (owner_there i.shares.items i.lines.items c.args.self.now c.args.owner c.from.result c.self.view_is
    c.requires c.from.ensures)
    c.index_mut-share.ensures.value c.in_ok-place.ensures.taken.beside c.in_ok-place.place
    c.in_ok-place.ensures.taken.free))
