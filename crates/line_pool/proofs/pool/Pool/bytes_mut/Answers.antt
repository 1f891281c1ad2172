use Rattle.std.proofs.Common.{ap, refl, ◌∙◌, arith}
use Rattle.line_pool.specs.Kept.{index_in}
use Rattle.line_pool.proofs.Places.{line_lent, line_read, line_within, line_written}
use Rattle.line_pool.proofs.pool.Pool.bytes_mut.Goals as goal

pub index_of-index-requires-clause-fits : goal.index_of-index-requires-clause-fits
index_of-index-requires-clause-fits c =
    let i = c.self.inside in
    let slot = c.args.slot.now in
    omega (
      arith,
      i.lines.ok.0,
      i.lines.ok.1,
      i.lines.small,
      line_within i.shares.items i.lines.items c.self.invariant c.args.self.now c.self.view_is slot c.requires
          (index_in c.deref.result.now slot)
          (ap (λ shares. index_in shares slot) c.deref.ensures.value),
    )

pub index_mut-requires : goal.index_mut-requires
index_mut-requires c =
    let i = c.self.inside in
    let slot = c.args.slot.now in
    omega (
      arith,
      i.lines.ok.0,
      line_within i.shares.items i.lines.items c.self.invariant c.args.self.now c.self.view_is slot c.requires
          c.index_of-index.result
          (c.index_of-index.ensures ∙ ap (λ shares. index_in shares slot) c.deref.ensures.value),
    )

pub returns : goal.returns
returns c =
    let i = c.self.inside in
    let slot = c.args.slot.now in
    let at = c.index_of-index.ensures ∙ ap (λ shares. index_in shares slot) c.deref.ensures.value in
    let index = c.index_of-index.result in (
      (
        refl,
        line_lent i.shares.items i.lines.items c.self.invariant c.args.self.now c.self.view_is slot
            c.requires index at,
      ),
      record {
        lends = tt;
        value =
            line_read i.shares.items i.lines.items c.self.invariant c.args.self.now c.self.view_is slot
            c.requires index at
            c.index_mut.result.now c.index_mut.ensures.value;
        written =
            line_written i.shares.items i.lines.items c.self.invariant c.args.self.now c.self.view_is slot
            c.requires index at;
      },
    )
