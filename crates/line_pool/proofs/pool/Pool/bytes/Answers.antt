use Rattle.std.proofs.Common.{ap, ◌∙◌, arith}
use Rattle.line_pool.specs.Kept.{index_in}
use Rattle.line_pool.proofs.Places.{line_read, line_within}
use Rattle.line_pool.proofs.pool.Pool.bytes.Goals as goal

pub index_of-requires-clause-fits : goal.index_of-requires-clause-fits
index_of-requires-clause-fits c =
    let i = c.self.inside in
    let slot = c.args.slot.now in
    omega (
      arith,
      i.lines.ok.0,
      i.lines.ok.1,
      i.lines.small,
      line_within i.shares.items i.lines.items c.self.invariant c.args.self.now c.self.view_is slot c.requires
          (index_in c.deref.result.now slot)
          (ap (λ shares. index_in shares slot) c.deref.ensures.value),
    )

pub index-requires : goal.index-requires
index-requires c =
    let i = c.self.inside in
    let slot = c.args.slot.now in
    omega (
      arith,
      i.lines.ok.0,
      line_within i.shares.items i.lines.items c.self.invariant c.args.self.now c.self.view_is slot c.requires
          c.index_of.result
          (c.index_of.ensures ∙ ap (λ shares. index_in shares slot) c.deref.ensures.value),
    )

pub returns : goal.returns
returns c =
    let i = c.self.inside in
    let slot = c.args.slot.now in
    line_read i.shares.items i.lines.items c.self.invariant c.args.self.now c.self.view_is slot c.requires
    c.index_of.result
    (c.index_of.ensures ∙ ap (λ shares. index_in shares slot) c.deref.ensures.value) c.index.result.now c.index.ensures
