-- a request is free where nothing blocks it; where something does, the outcome is the definition's and nothing changes
use Rattle.std.proofs.Common.{◌≡◌, ◌∙◌, subst, sym}
use Rattle.bus_order.specs.Order.{numbered}
use Rattle.coherence.proofs.Laws.Offered.{leaves_holds-same}
use Rattle.el_model.specs.Serve as serving
use Rattle.el_model.specs.Serve.{Free}
use Rattle.el_model.specs.State.{ModelState}
use Rattle.snoop.proofs.Laws.Blocking.{lines_unserved, past_blocked, unblocked_free}
use Rattle.snoop.specs.LettingGo.{KeepsBytes}
use Rattle.snoop.specs.Shows.{Shows, bus_state}
use Rattle.snoop.proofs.bus.Bus.serve_past.Goals as goal

pub returns-in-Some-clause-leaves : goal.returns-in-Some-clause-leaves
returns-in-Some-clause-leaves g c =
    let request = numbered c.args.request in
    record {
      ready = c.requires.ready;
      shows = λ state starts.
          let blocked = sym (c.blocked.ensures.exact state starts.shows) ∙ c.in-Some.is in
          subst (λ turn. Shows (bus_state c.args.self.now) turn.state)
          (sym (past_blocked state request (serving.obstacle_to state request) c.in-Some.outcome blocked)) starts.shows;
      told = λ bytes tells. tells;
      holds = leaves_holds-same c.args.pool.now;
    }

pub returns-in-Some-clause-memory : goal.returns-in-Some-clause-memory
returns-in-Some-clause-memory g c =
    sym
    (lines_unserved c.args.pool.now (bus_state c.args.self.now) c.args.request.hart.number c.in-Some.outcome
    (rw c.in-Some.is at c.blocked.ensures.is_blocked))

pub returns-in-None-clause-leaves : goal.returns-in-None-clause-leaves
returns-in-None-clause-leaves g c =
    let request = numbered c.args.request in
    let served = c.serve_free.ensures.leaves in
    record {
      ready = served.ready;
      shows = λ state starts.
          let free : serving.obstacle_to state request ≡ Free =
          unblocked_free (serving.obstacle_to state request)
          (sym (c.blocked.ensures.exact state starts.shows) ∙ c.in-None.is) in
          let past : serving.Obstacle → ModelState = λ obstacle. (serving.serve_past state request obstacle).state in
          let keeps = subst (λ obstacle. KeepsBytes state.committed (past obstacle).committed) free starts.keeps in
          subst (λ obstacle. Shows (bus_state c.serve_free.new.self) (past obstacle)) (sym free)
          (served.shows state (record { shows = starts.shows; keeps = keeps }));
      told = served.told;
      holds = served.holds;
    }
