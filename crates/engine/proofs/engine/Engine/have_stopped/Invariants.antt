-- all so far have stopped
use Rattle.std.proofs.Common.{◌≡◌, true, take}
use Rattle.el_model.specs.Next.{all_stopped}
use Rattle.engine.specs.Views.{committed_views}
use Rattle.engine.proofs.engine.Engine.have_stopped.Given as goal

abbrev pub invariant-loop-hart : goal.invariant-loop-hart
invariant-loop-hart l = all_stopped (committed_views (take l.hart-index l.self.harts.items)) ≡ true
