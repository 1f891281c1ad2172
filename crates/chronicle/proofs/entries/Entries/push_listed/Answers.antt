use Rattle.std.proofs.Common.{rules}
use Rattle.chronicle.proofs.KeptRows.{entry_listed}
use Rattle.chronicle.proofs.entries.Entries.push_listed.Goals as goal

pub returns : goal.returns
returns c =
    let long = c.push_reserved.new.self in
    let rows = c.push_reserved-2.new.self in
    search (
      rules,
      entry_listed c.args.self.now c.self.inside.long.items long.items c.self.inside.rows.items rows.items
          c.self.inside.places c.args.entry,
    )
