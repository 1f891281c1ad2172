use Rattle.std.proofs.Common.{◌∙◌}
use Rattle.cache_sets.proofs.Readings.{line-there, used-bytes, used-out}
use Rattle.cache_sets.proofs.sets.Sets.bytes.Goals as goal

pub slot_in_use-requires-clause-there : goal.slot_in_use-requires-clause-there
slot_in_use-requires-clause-there c =
    line-there c.self.invariant c.self.view_is c.as_slice.ensures.value c.args.line.number c.requires.resident

pub bytes-requires : goal.bytes-requires
bytes-requires c =
    used-out c.self.invariant c.self.view_is c.as_slice.ensures.value c.args.line.number c.requires.resident
    c.requires.lent c.slot_in_use.ensures

pub returns : goal.returns
returns c =
    c.bytes.ensures
    ∙ used-bytes c.self.invariant c.self.view_is c.as_slice.ensures.value c.args.line.number
    c.requires.resident c.requires.lent
    c.slot_in_use.ensures
