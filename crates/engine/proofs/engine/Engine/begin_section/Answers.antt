-- the acquire is a swap, whose line is there
use Rattle.std.proofs.Common.{◌∙◌, ap, sym, subst}
use Rattle.core_step.proofs.Laws.Runs.{aligned}
use Rattle.core_step.specs.Run.{IsAligned}
use Rattle.engine.proofs.AfterBegan.{after_began, ready_began}
use Rattle.engine.proofs.Chosen.{lock_there, next, swap_found}
use Rattle.engine.proofs.Outsiders.{began_outcome}
use Rattle.engine.proofs.StandsOutside.{no_armed, runs}
use Rattle.engine.proofs.Laws.Swaps.{swap_action, word_aligned}
use Rattle.engine.proofs.engine.Engine.begin_section.Goals as goal
use Rattle.engine.specs.Parts.{parts}
use Rattle.rv_flat.specs.Memory.{byte_in}
use Rattle.snoop.specs.Shows.{bus_state}
use Rattle.step_rules.proofs.Laws.NextAction.{next_swap as swap_next}
use Rattle.step_rules.specs.Actions.{numbered_swap}

pub enter-requires-clause-no_armed : goal.enter-requires-clause-no_armed
enter-requires-clause-no_armed c =
    no_armed (parts c.args.self.now) c.args.hart.number c.requires.some.from c.requires.some.acts

pub enter-requires-clause-running : goal.enter-requires-clause-running
enter-requires-clause-running c =
    runs (parts c.args.self.now) c.args.hart.number c.requires.some.from c.requires.some.acts

pub enter-requires-clause-aligned : goal.enter-requires-clause-aligned
enter-requires-clause-aligned c =
    let now = parts c.args.self.now in
    let h = c.args.hart.number in
    let from = c.requires.some.from in
    let acts = c.requires.some.acts in
    let swap = numbered_swap c.args.swap in
    word_aligned c.args.action swap
    (swap_action (byte_in from.committed.base from.committed.bytes) c.args.action swap
    (swap_next c.args.action from.committed h (next now h from c.args.action acts c.requires.action)
    ∙ swap_found now h from c.args.action acts c.requires.action swap (c.requires.begins from acts)))
    (subst IsAligned (sym c.requires.action) (aligned _ _ _ _))

pub enter-requires-clause-resident : goal.enter-requires-clause-resident
enter-requires-clause-resident c =
    let from = c.requires.some.from in
    let acts = c.requires.some.acts in
    lock_there (parts c.args.self.now) c.args.hart.number from c.args.action acts c.requires.action
    (numbered_swap c.args.swap)
    (c.requires.begins from acts)

pub open_attempt-requires-clause-ready : goal.open_attempt-requires-clause-ready
open_attempt-requires-clause-ready c =
    let from = c.requires.some.from in
    let acts = c.requires.some.acts in
    ready_began (parts c.args.self.now) (parts c.enter.new.self) c.args.hart.number from c.args.action acts
    (numbered_swap c.args.swap)
    c.in-Amo.rd.number c.requires.action (c.requires.begins from acts) c.enter.ensures

pub unreachable-requires : goal.unreachable-requires
unreachable-requires c =
    let now = parts c.args.self.now in
    let h = c.args.hart.number in
    let from = c.requires.some.from in
    let acts = c.requires.some.acts in
    let swap = numbered_swap c.args.swap in
    let of = swap_action (byte_in from.committed.base from.committed.bytes) c.args.action swap
    (swap_next c.args.action from.committed h (next now h from c.args.action acts c.requires.action)
    ∙ swap_found now h from c.args.action acts c.requires.action swap (c.requires.begins from acts)) in
    c.in_default.not-Amo _ _ _ _ of.is

pub returns : goal.returns
returns c =
    let now = parts c.args.self.now in
    let h = c.args.hart.number in
    let swap = numbered_swap c.args.swap in
    record {
      ready = c.open_attempt.ensures.ready;
      state = λ from acts.
          let found = c.requires.begins from acts in
          let even = word_aligned c.args.action swap
          (swap_action (byte_in from.committed.base from.committed.bytes) c.args.action swap
          (swap_next c.args.action from.committed h (next now h from c.args.action acts c.requires.action)
          ∙ swap_found now h from c.args.action acts c.requires.action swap found))
          (subst IsAligned (sym c.requires.action) (aligned _ _ _ _)) in
          after_began now (parts c.enter.new.self) (bus_state c.open_attempt.new.self) c.args.hart from acts swap
          c.in-Amo.op c.in-Amo.rd c.in-Amo.address c.in-Amo.source (sym c.in-Amo.is ∙ c.requires.action) found
          even c.enter.ensures
          c.open_attempt.ensures.copies_stay c.open_attempt.ensures.shows;
      outcome = λ from acts. began_outcome from h swap;
      memory_stays =
          ap (λ copies. copies.lines) c.open_attempt.ensures.copies_stay
          ∙ ap (λ p. p.bus.copies.lines) c.enter.ensures.new_is;
    }
