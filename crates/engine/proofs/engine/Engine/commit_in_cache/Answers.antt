-- the section has taken effect in the hart's cache
use Rattle.std.proofs.Common.{◌∙◌, ap, refl, subst}
use Rattle.engine.proofs.Framed.{own_read, put_own}
use Rattle.engine.proofs.engine.Engine.commit_in_cache.Goals as goal
use Rattle.engine.specs.Acting.{sets_in}
use Rattle.engine.specs.Parts.{parts}
use Rattle.engine.specs.Private.{CommitsOver}
use Rattle.hart_state.specs.Deeds.{committed_own}
use Rattle.hart_state.specs.Own.{OwnState}

pub returns : goal.returns
returns c =
    let old = parts c.args.self.now in
    let h = c.args.hart.number in
    let pool = c.commit.new.pool in
    let cache = c.commit.new.sets in
    let section = c.commit.new.self.section in
    let own_is =
    own_read _ old.harts _ h _ refl c.from.ensures c.requires.may.there.hart_exists c.index_mut.ensures.value in
    record {
      pool = pool;
      cache = cache;
      section = section;
      over =
          subst (λ (own : OwnState). CommitsOver old.pool pool (sets_in old h) cache own.section section c.args.action)
          own_is
          (subst (λ sets. CommitsOver old.pool pool sets cache c.index_mut.result.now.section section c.args.action)
          c.sets_mut.ensures.value
          (record {
            released = c.commit.ensures.released;
            committed = c.commit.ensures.cache;
            still = record {
              both = c.commit.ensures.lent;
              hold_owner = c.commit.ensures.owners.0;
              cache_owner = c.commit.ensures.owners.1;
              beside = c.commit.ensures.beside;
            };
          }));
      new_is =
          put_own old h c.from.result pool cache c.commit.new.self _ c.from.ensures
          (c.commit.ensures.own ∙ ap (committed_own section) own_is);
    }
