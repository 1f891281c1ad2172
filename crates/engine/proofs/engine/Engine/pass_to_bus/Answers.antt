-- main memory after an event of the bus
use Rattle.std.proofs.Common.{◌≡◌, ◌≢◌, ◌∙◌, ◌<◌, ap, subst, sym}
use Rattle.el_base.specs.declared.events.Kind.{Kind}
use Rattle.el_base.specs.declared.events.Kind.TheVariants.{Deliver, Order, Serve}
use Rattle.engine.proofs.Laws.BusEvents.{bytes_kept, order_is, serve_is, shown_after}
use Rattle.engine.proofs.Stepped.{told_committed}
use Rattle.coherence.proofs.Laws.Offered.{leaves_holds-same}
use Rattle.el_model.specs.Next.{next}
use Rattle.engine.proofs.MainMemory.{kept_lines, served_lines}
use Rattle.engine.proofs.engine.Engine.pass_to_bus.Goals as goal
use Rattle.engine.specs.Parts.{parts}
use Rattle.snoop.specs.Shows.{bus_state}

orders : (kind : Kind) → kind ≡ Order → kind ≢ Serve
orders kind is serves = by (sym is ∙ serves)
  where
    by : Order ≢ Serve
    by same = cc

delivers : (kind : Kind) → kind ≡ Deliver → kind ≢ Serve
delivers kind is serves = by (sym is ∙ serves)
  where
    by : Deliver ≢ Serve
    by same = cc

pub returns-in-Order-clause-shows : goal.returns-in-Order-clause-shows
returns-in-Order-clause-shows c state reached is =
    shown_after (bus_state c.order.new.self) state c.args.event _ (order_is state c.args.event c.in-Order.is) reached
    c.requires.no_step
    (λ keeps. c.order.ensures.leaves.shows state (record { shows = is.shows; keeps = keeps }))

pub returns-in-Serve-clause-shows : goal.returns-in-Serve-clause-shows
returns-in-Serve-clause-shows c state reached is =
    shown_after (bus_state c.serve.new.self) state c.args.event _ (serve_is state c.args.event c.in-Serve.is) reached
    c.requires.no_step
    (λ keeps. c.serve.ensures.leaves.shows state (record { shows = is.shows; keeps = keeps }))

pub returns-in-Order-clause-memory : goal.returns-in-Order-clause-memory
returns-in-Order-clause-memory c state is =
    c.order.ensures.leaves.memory_stays ∙ kept_lines state c.args.event _ (orders c.args.event.kind c.in-Order.is)

pub returns-in-Deliver-clause-memory : goal.returns-in-Deliver-clause-memory
returns-in-Deliver-clause-memory c state is =
    c.deliver.ensures.leaves.memory_stays ∙ kept_lines state c.args.event _ (delivers c.args.event.kind c.in-Deliver.is)

pub returns-in-Serve-clause-memory : goal.returns-in-Serve-clause-memory
returns-in-Serve-clause-memory c state is =
    let old = parts c.args.self.now in
    c.serve.ensures.memory
    ∙ served_lines old.pool old.bus state c.args.event c.serve.result is.shows is.told
    (subst (λ n. c.args.event.hart.number < n) is.one_each c.requires.hart_exists)
    c.in-Serve.is (c.serve.ensures.outcome state is.shows
    ∙ ap (λ turn. turn.outcome) (sym (serve_is state c.args.event c.in-Serve.is)))

pub serve-requires-clause-told : goal.serve-requires-clause-told
serve-requires-clause-told c = record { bytes = _; tells = c.requires.stands.is_in.told }

pub returns-in-Order-clause-told : goal.returns-in-Order-clause-told
returns-in-Order-clause-told c state reached is =
    told_committed c.args.self.now.pool (bus_state c.order.new.self) state.committed
    (next state c.args.event).state.committed
    (bytes_kept state c.args.event reached c.requires.no_step) (c.order.ensures.leaves.told _ _ is.told)

pub returns-in-Deliver-clause-told : goal.returns-in-Deliver-clause-told
returns-in-Deliver-clause-told c state reached is =
    told_committed c.args.self.now.pool (bus_state c.deliver.new.self) state.committed
    (next state c.args.event).state.committed
    (bytes_kept state c.args.event reached c.requires.no_step) (c.deliver.ensures.leaves.told _ _ is.told)

pub returns-in-Serve-clause-told : goal.returns-in-Serve-clause-told
returns-in-Serve-clause-told c state reached is =
    told_committed c.serve.new.pool (bus_state c.serve.new.self) state.committed
    (next state c.args.event).state.committed
    (bytes_kept state c.args.event reached c.requires.no_step) (c.serve.ensures.leaves.told _ is.told)

pub returns-in-Order-clause-holds : goal.returns-in-Order-clause-holds
returns-in-Order-clause-holds c = leaves_holds-same c.args.self.now.pool

pub returns-in-Deliver-clause-holds : goal.returns-in-Deliver-clause-holds
returns-in-Deliver-clause-holds c = leaves_holds-same c.args.self.now.pool
