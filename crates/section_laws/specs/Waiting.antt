-- what a hart waits for
use Rattle.std.specs.Prelude.{ℕ, ◌≡◌, ◌≢◌, ◌⊎◌, Option, None, Some}
use Rattle.bus_order.specs.Order.{Request}
use Rattle.el_model.specs.State.{Section}
use Rattle.rv_alu.specs.declared.view.HartStatus.{HartStatus}
use Rattle.rv_alu.specs.declared.view.HartStatus.TheVariants.{Running}

-- nothing is waited for, and no section is live
pub record HasNothing (ordered : Option Request) (section : Option Section) (raised : Option Request)
    (held : Option ℕ) : Type 0 where
  pub no_section : section ≡ None
  pub not_raised : raised ≡ None
  pub not_ordered : ordered ≡ None
  pub not_held : held ≡ None

-- a hart that holds a line has neither a request nor a section
pub record OnlyHolds (ordered : Option Request) (section : Option Section) (raised : Option Request) : Type 0 where
  pub no_section : section ≡ None
  pub not_raised : raised ≡ None
  pub not_ordered : ordered ≡ None

-- of a hart, with its status and its ordered request
pub record WaitsForOne (h : ℕ) (status : HartStatus) (ordered : Option Request) (section : Option Section)
    (raised : Option Request)
    (held : Option ℕ) : Type 0 where
  -- a raised request is its hart's own
  pub own : (request : Request) → raised ≡ Some request → request.hart ≡ h
  -- a hart has no raised request beside an ordered one
  pub one_request : (raised ≡ None) ⊎ (ordered ≡ None)
  -- and holds a line only where it has neither, and no section
  pub only_holds : (held ≡ None) ⊎ OnlyHolds ordered section raised
  -- a hart that has stopped has nothing of all that
  pub stopped : status ≢ Running → HasNothing ordered section raised held

-- a hart that runs, and waits for nothing and has no live section
pub record RunsWithNothing (status : HartStatus) (ordered : Option Request) (section : Option Section)
    (raised : Option Request)
    (held : Option ℕ) : Type 0 where
  pub running : status ≡ Running
  pub nothing : HasNothing ordered section raised held
