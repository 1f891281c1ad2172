use Rattle.std.proofs.Common.{◌∙◌, sym}
use Rattle.defer_list.proofs.Keeping.{kept_added}
use Rattle.defer_list.proofs.Laws.OnceEach.{fits_one}
use Rattle.defer_list.proofs.told.Told.add.Goals as goal

pub put_in_front-requires : goal.put_in_front-requires
put_in_front-requires c =
    fits_one c.self.inside.origins.items (record { hart = c.args.origin }) c.self.invariant.once
    (rw c.self.view_is (sym c.told-is_new.ensures ∙ c.if-is_new.true))

pub invariant_of-self : goal.invariant_of-self
invariant_of-self c =
    rw c.from.ensures
    (kept_added _ _ c.self.invariant (record { hart = c.args.origin }) c.put_in_front.new.origins.items
    (rw c.self.view_is (sym c.told-is_new.ensures ∙ c.if-is_new.true))
    c.put_in_front.ensures)
