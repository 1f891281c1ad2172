-- a hart's section takes effect: the bus is ready again, and the parts are in the state after it
use Rattle.std.proofs.Common.{◌∙◌, ap, refl, subst, sym}
use Rattle.el_model.specs.InSection.{Commits, section_turn}
use Rattle.el_model.specs.State.{ModelState, Section}
use Rattle.engine.proofs.CommittedParts.{CommitsAt, IsBeforeCommit, can_count, commits_in, commits_over, counted}
use Rattle.engine.proofs.CommittedParts.{is_live_there, may_take_effect, ready_then}
use Rattle.line_pool.proofs.Laws.{no_pool}
use Rattle.engine.proofs.RolledBack.{clock_small, seen_small}
use Rattle.engine.proofs.engine.Engine.commit.Goals as goal
use Rattle.engine.specs.Acting.{freed}
use Rattle.engine.specs.Inside.{FollowsRule}
use Rattle.engine.specs.Parts.{IsInState, Parts, parts}
use Rattle.hart_state.specs.Deeds.{committed_own}
use Rattle.snoop.specs.Shows.{IsReady, bus_state}

pub count_with_release-count-requires-clause-live : goal.count_with_release-count-requires-clause-live
count_with_release-count-requires-clause-live c =
    let follows = c.requires.follows in
    is_live_there (parts c.args.self.now) c.args.hart.number follows.from follows.section follows.follows

pub count_with_release-count-requires-clause-counted : goal.count_with_release-count-requires-clause-counted
count_with_release-count-requires-clause-counted c =
    can_count (parts c.args.self.now) c.args.hart.number c.requires.follows.from c.requires.follows.section
    c.requires.follows.follows

pub close_attempt-requires-clause-clock_below_the_last : goal.close_attempt-requires-clause-clock_below_the_last
close_attempt-requires-clause-clock_below_the_last c =
    clock_small (parts c.args.self.now) c.args.hart.number c.requires.follows.from c.requires.follows.follows.inside.may

pub close_attempt-requires-clause-seen_below_the_last : goal.close_attempt-requires-clause-seen_below_the_last
close_attempt-requires-clause-seen_below_the_last c =
    seen_small (parts c.args.self.now) c.args.hart.number c.requires.follows.from c.requires.follows.follows.inside.may

pub commit_in_cache-requires : goal.commit_in_cache-requires
commit_in_cache-requires c =
    let some = c.requires.follows in
    record {
      may =
          may_take_effect (parts c.args.self.now) _ c.args.hart.number some.from some.section c.args.action some.follows
          c.requires.action
          (record {
            pool = refl;
            copies = c.close_attempt.ensures.copies_stay;
            count = (c.unreserve_others.ensures no_pool).count;
            own = (c.unreserve_others.ensures no_pool).own;
          });
    }

-- the parts as the section takes effect
abbrev before : (c : goal.After-commit_in_cache) → Parts
before c =
    record (parts c.args.self.now) {
      bus = bus_state c.close_attempt.new.self;
      harts = c.unreserve_others.new.harts.items;
    }

at : (c : goal.After-commit_in_cache) (from : ModelState) (section : Section) →
    FollowsRule (parts c.args.self.now) c.args.hart.number from section Commits →
    CommitsAt (parts c.args.self.now) (bus_state c.close_attempt.new.self) c.args.hart.number from section c.args.action
    c.commit_in_cache.ensures.section c.commit_in_cache.ensures.pool c.commit_in_cache.ensures.cache
at c from section follows =
    let old = parts c.args.self.now in
    let done = c.commit_in_cache.ensures in
    let stays : IsBeforeCommit old (before c) c.args.hart.number = record {
      pool = refl;
      copies = c.close_attempt.ensures.copies_stay;
      count = (c.unreserve_others.ensures no_pool).count;
      own = (c.unreserve_others.ensures no_pool).own;
    } in
    record {
      follows = follows;
      next = c.requires.action;
      closed = c.close_attempt.ensures.shows (freed from c.args.hart.number) follows.inside.may.is_in.shows;
      copies = c.close_attempt.ensures.copies_stay;
      over =
          commits_over old (before c) c.args.hart.number done.pool done.cache done.section c.args.action
          stays done.over;
    }

pub returns : goal.returns
returns c section =
    let old = parts c.args.self.now in
    let h = c.args.hart.number in
    let bus = bus_state c.close_attempt.new.self in
    let some = c.requires.follows in
    let done = c.commit_in_cache.ensures in
    record {
      ready =
          subst (λ p. IsReady p.bus) (sym done.new_is)
          (ready_then old bus h some.from some.section c.args.action done.section done.pool done.cache
          (at c some.from some.section some.follows) c.close_attempt.ensures.ready);
      state = λ from follows.
          subst (λ p. IsInState p (section_turn from h section).state) (sym done.new_is)
          (commits_in old bus c.args.hart from section c.args.action done.section done.pool done.cache
          c.unreserve_others.new.harts.items _ (at c from section follows) (c.unreserve_others.ensures old.pool)
          (ap (committed_own done.section) (c.unreserve_others.ensures no_pool).own));
      outcome = λ from follows.
          counted old h c.count_with_release-count.result from section follows c.count_with_release-count.ensures;
      memory_stays =
          ap (λ p. p.bus.copies.lines) done.new_is ∙ ap (λ copies. copies.lines) c.close_attempt.ensures.copies_stay;
    }
