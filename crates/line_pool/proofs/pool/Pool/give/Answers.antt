use Rattle.std.proofs.Common.{subst}
use Rattle.line_pool.specs.Calls.{IsGiven}
use Rattle.line_pool.specs.Kept.{shown_pool}
use Rattle.line_pool.specs.Pooled.{Pooled}
use Rattle.line_pool.proofs.Steps.{given_back, out_at, owner_of_slot}
use Rattle.line_pool.proofs.pool.Pool.give.Goals as goal

pub invariant_of-self : goal.invariant_of-self
invariant_of-self c =
    let i = c.self.inside in
    let slot = c.args.slot in
    (given_back i.shares.items c.give_to.new.shares.items i.lines.items slot c.self.invariant
    (owner_of_slot i.shares.items i.lines.items c.args.self.now slot c.self.view_is c.requires)
    (out_at i.shares.items i.lines.items c.args.self.now slot c.self.view_is c.requires) c.give_to.ensures).stands

pub returns : goal.returns
returns c =
    let i = c.self.inside in
    let slot = c.args.slot in
    let P : Pooled → Type 0 = λ old. IsGiven old (shown_pool c.give_to.new.shares.items i.lines.items) slot in
    subst P c.self.view_is
    (given_back i.shares.items c.give_to.new.shares.items i.lines.items slot c.self.invariant
    (owner_of_slot i.shares.items i.lines.items c.args.self.now slot c.self.view_is c.requires)
    (out_at i.shares.items i.lines.items c.args.self.now slot c.self.view_is c.requires) c.give_to.ensures).given
