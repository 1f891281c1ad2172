use Rattle.std.proofs.Common.{◌∙◌, ap, sym}
use Rattle.defer_list.specs.HartSet.{excluded, numbers}
use Rattle.defer_list.proofs.Keeping.{kept_taken}
use Rattle.defer_list.proofs.Laws.OnceEach.{excluded_absent, filter_excluded}
use Rattle.defer_list.proofs.told.Told.purge.Goals as goal

pub invariant_of-self : goal.invariant_of-self
invariant_of-self c =
    rw c.from.ensures
    (kept_taken _ _ c.self.invariant c.args.origin.number c.take_out.new.origins.items c.args.origin.small
    c.take_out.ensures)

pub returns-then-told : goal.returns-then-told
returns-then-told c =
    ap numbers c.take_out.ensures
    ∙ filter_excluded c.self.inside.origins.items c.args.origin.number
    ∙ ap (λ harts. excluded harts c.args.origin.number) c.self.view_is

pub returns-else-told : goal.returns-else-told
returns-else-told c = sym (excluded_absent c.args.self.now c.args.origin.number (sym c.told.ensures ∙ c.if-told.false))
