-- what a write call appends to the output
use Rattle.std.specs.Prelude.{Option, None, Some}
use Rattle.rv_alu.specs.Execution.{Append}
use Rattle.rv_alu.specs.declared.action.Action.{Action}
use Rattle.rv_alu.specs.declared.action.Action.TheVariants as actions
use Rattle.rv_alu.specs.declared.footprint.Access.{Access}
use Rattle.rv_alu.specs.declared.footprint.Access.TheVariants.{Read}

-- the reading of the bytes that an action appends
abbrev pub appended_of : Action → Option Access
appended_of (actions.Append address len) = Some (Read address len)
appended_of _ = None

-- the reading of a piece of output
abbrev pub read_of : Append → Access
read_of append = Read append.address append.len
