-- The list of a shelf's failed calls.
use Rattle.std.specs.Prelude.{string_bytes}
use Rattle.el_io.specs.declared.failure_list.FailedCall.{FailedCall}
use Rattle.el_io.specs.Shelf.{NamedCall}

-- a failed call by its kind and name
abbrev pub named : FailedCall → NamedCall
named failed = (failed.call, string_bytes failed.name)
