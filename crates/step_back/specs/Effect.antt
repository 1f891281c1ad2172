-- what took effect in an event
use Rattle.std.specs.Prelude.{ℕ, List, replicate}
use Rattle.el_base.specs.Freed.{order_of}
use Rattle.step_back.specs.declared.effect.Effect.{Effect}
use Rattle.step_back.specs.declared.effect.Effect.TheVariants.{Own, LetGo}

-- the harts whose instructions took effect in an event of this hart, one by one
abbrev pub harts_in : ℕ → Effect → List ℕ
harts_in hart (Own count) = replicate count hart
harts_in hart (LetGo freed) = order_of freed
