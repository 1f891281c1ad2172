-- the parts before the first event
use Rattle.std.proofs.Common.{refl, ◌∙◌, ◌<◌, subst}
use Rattle.engine.proofs.Quotas.{lent_first, offers_first}
use Rattle.engine.proofs.Seen.{first_in}
use Rattle.engine.proofs.engine.Engine.make.Goals as goal

pub returns : goal.returns
returns c =
    let config = c.args.config.now in
    let made = c.in_ok-first_pool.ensures in
    record {
      ready = c.in_ok-make.ensures.ready;
      is_in =
          first_in c.args.image.now config _ refl c.memory_of.ensures c.in_ok-make.ensures.shows
          (c.in_ok-make.ensures.told _ (offers_first config _ c.requires.in_range made))
          (λ h inside. lent_first config _ h c.requires.in_range made
          (subst (λ n. h < n) c.requires.one_hart_each inside))
          c.in_ok-first_harts.ensures (c.in_ok-make-2.ensures ∙ c.in_ok-share.ensures ∙ c.code.ensures.exact)
          c.in_ok-make-3.ensures;
      memory = c.in_ok-make.ensures.memory;
    }
