-- the action has run in the hart's section, over its cache
use Rattle.std.proofs.Common.{◌∙◌, ap, refl, subst}
use Rattle.engine.proofs.Framed.{own_read, put_own}
use Rattle.engine.proofs.engine.Engine.run_privately.Goals as goal
use Rattle.engine.specs.Acting.{sets_in}
use Rattle.engine.specs.Parts.{parts}
use Rattle.engine.specs.Private.{RanOver}
use Rattle.hart_state.specs.Deeds.{buffered_own}
use Rattle.hart_state.specs.Own.{OwnState}

pub returns : goal.returns
returns c =
    let old = parts c.args.self.now in
    let h = c.args.hart.number in
    let pool = c.buffer.new.pool in
    let cache = c.buffer.new.sets in
    let section = c.buffer.new.self.section in
    let own_is =
    own_read _ old.harts _ h _ refl c.from.ensures c.requires.may.there.hart_exists c.index_mut.ensures.value in
    record {
      pool = pool;
      cache = cache;
      section = section;
      over =
          subst (λ (own : OwnState). RanOver old.pool pool (sets_in old h) cache own.section section c.args.action)
          own_is
          (subst (λ sets. RanOver old.pool pool sets cache c.index_mut.result.now.section section c.args.action)
          c.sets_mut.ensures.value
          (record {
            ran = c.buffer.ensures.ran;
            continued = c.buffer.ensures.continued;
            covers = c.buffer.ensures.cache;
            still = record {
              both = c.buffer.ensures.lent;
              hold_owner = c.buffer.ensures.owners.0;
              cache_owner = c.buffer.ensures.owners.1;
              beside = c.buffer.ensures.beside;
            };
          }));
      new_is =
          put_own old h c.from.result pool cache c.buffer.new.self _ c.from.ensures
          (c.buffer.ensures.own ∙ ap (buffered_own section) own_is);
    }
