-- a hart rolls its section back: the bus is ready again, and the parts are in the state after it
use Rattle.std.proofs.Common.{◌≡◌, ◌∙◌, ap, refl, subst, sym}
use Rattle.std.specs.Prelude.{slice_set}
use Rattle.coherence.specs.Lent.{slotted_at}
use Rattle.el_model.specs.InSection.{section_turn}
use Rattle.engine.proofs.Framed.{IsClearedThere, cleared_there, own_read}
use Rattle.engine.proofs.RolledBack.{clock_small, has_cache, rolled_in, rolled_ready, rolls_turn, seen_small}
use Rattle.engine.proofs.engine.Engine.roll_back.Goals as goal
use Rattle.engine.specs.Acting.{freed}
use Rattle.engine.specs.Parts.{IsInState, own_at, parts}
use Rattle.hart_state.specs.Deeds.{rolled_back_own}
use Rattle.hart_state.specs.Own.{OwnState}
use Rattle.line_pool.specs.Others.{LeavesOthers}
use Rattle.snoop.specs.Returned.{returned}
use Rattle.snoop.specs.Shows.{bus_state}
use Rattle.write_hold.specs.Slotted.{IsLent}

pub close_attempt-requires-clause-clock_below_the_last : goal.close_attempt-requires-clause-clock_below_the_last
close_attempt-requires-clause-clock_below_the_last c =
    clock_small (parts c.args.self.now) c.args.hart.number c.requires.from c.requires.follows.inside.may

pub close_attempt-requires-clause-seen_below_the_last : goal.close_attempt-requires-clause-seen_below_the_last
close_attempt-requires-clause-seen_below_the_last c =
    seen_small (parts c.args.self.now) c.args.hart.number c.requires.from c.requires.follows.inside.may

pub sets_mut-requires : goal.sets_mut-requires
sets_mut-requires c =
    let may = c.requires.follows.inside.may in
    has_cache (parts c.args.self.now) (bus_state c.close_attempt.new.self) c.args.hart.number c.requires.from may
    (c.close_attempt.ensures.shows (freed c.requires.from c.args.hart.number) may.is_in.shows)

-- what the hart keeps
own_is : (c : goal.After-roll_back-arg-1) →
    c.index_mut.result.now ≡ own_at (parts c.args.self.now).harts c.args.hart.number
own_is c =
    own_read _ (parts c.args.self.now).harts _ c.args.hart.number _ refl c.from.ensures
    c.requires.follows.inside.may.exists c.index_mut.ensures.value

pub roll_back-requires-clause-lent : goal.roll_back-requires-clause-lent
roll_back-requires-clause-lent c =
    let may = c.requires.follows.inside.may in
    subst (λ (own : OwnState). IsLent c.args.self.now.pool own.section.hold) (sym (own_is c))
    (may.is_in.harts c.args.hart.number may.exists).lent

-- the cache has no bits
clears : (c : goal.After-self-2-1) →
    IsClearedThere (slotted_at (bus_state c.close_attempt.new.self).copies.caches c.args.hart.number)
    c.clear_bits.new.self
clears c =
    subst (λ cache. IsClearedThere cache c.clear_bits.new.self) c.sets_mut.ensures.value
    (cleared_there c.sets_mut.result.now c.clear_bits.new.self c.clear_bits.ensures.cleared c.clear_bits.ensures.lent
    c.clear_bits.ensures.owner)

pub returns : goal.returns
returns c section =
    let old = parts c.args.self.now in
    let h = c.args.hart.number in
    let bus = bus_state c.close_attempt.new.self in
    let cache = c.clear_bits.new.self in
    let pool = c.roll_back.new.pool in
    let some = c.requires.follows.inside.may in
    let own_is = own_read _ old.harts _ h _ refl c.from.ensures some.exists c.index_mut.ensures.value in
    let own_then = c.roll_back.ensures.own ∙ ap (rolled_back_own c.args.cause) own_is in
    let harts =
    ap (λ i. slice_set old.harts i c.roll_back.new.self) c.from.ensures ∙ ap (slice_set old.harts h) own_then in
    record {
      ready =
          rolled_ready old bus h c.requires.from cache some c.close_attempt.ensures.ready
          (c.close_attempt.ensures.shows (freed c.requires.from h) some.is_in.shows) (clears c);
      state = λ from follows.
          subst
          (λ list. IsInState (record old { pool = pool; bus = returned bus h cache; harts = list })
          (section_turn from h section).state) (sym harts)
          (rolled_in old pool bus c.args.hart from section cache c.args.cause follows
          (c.close_attempt.ensures.shows (freed from h) follows.inside.may.is_in.shows)
          c.close_attempt.ensures.copies_stay
          (clears c)
          (record {
            lent = subst (λ (own : OwnState). IsLent pool own.section.hold) own_then c.roll_back.ensures.lent;
            others =
                subst (λ (own : OwnState). LeavesOthers own.section.hold.owner old.pool pool) own_is
                c.roll_back.ensures.others;
          }));
      outcome = λ from follows.
          ap (λ turn. turn.outcome) (sym (rolls_turn from h section c.args.cause follows.rule_is));
      memory_stays = ap (λ copies. copies.lines) c.close_attempt.ensures.copies_stay;
    }
