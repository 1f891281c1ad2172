-- each number is that of the line
use Rattle.std.proofs.Common.{◌∙◌, subst}
use Rattle.lab_tables.proofs.LineRowing.{beats_shown}
use Rattle.lab_tables.proofs.lines.Counts.row.Goals as goal
use Rattle.lab_tables.specs.LineCounts.{ShowsAll}

pub returns-clause-row : goal.returns-clause-row
returns-clause-row c =
    λ facts are. record {
      missed_reads = c.times.ensures ∙ are.missed_reads c.args.line.number;
      missed_writes = c.times-2.ensures ∙ are.missed_writes c.args.line.number;
      served = c.times-3.ensures ∙ are.served c.args.line.number;
      owners = c.times-4.ensures ∙ are.owners c.args.line.number;
      written_back = c.times-5.ensures ∙ are.written_back c.args.line.number;
      beats =
          beats_shown facts c.args.self.now.beaten.items c.args.line.number c.all_of.result are.beaten
          (subst (λ lists. ShowsAll lists c.args.line.number c.all_of.result) c.deref.ensures.value c.all_of.ensures);
    }
