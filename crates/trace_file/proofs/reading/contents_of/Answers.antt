use Rattle.std.proofs.Common.{IsTrue, drop, arith}
use Rattle.std.proofs.lemmas.List.Elements.{All-same}
use Rattle.trace_file.specs.Fields.{is_event}
use Rattle.trace_file.proofs.reading.contents_of.Goals as goal

pub events_of-requires-clause-known : goal.events_of-requires-clause-known
events_of-requires-clause-known c =
    All-same (λ byte. IsTrue (is_event c.args.head.config.harts byte)) c.behind-bytes.result.now
    (drop 22 c.args.file.now)
    c.behind-bytes.ensures
    (c.requires.events (omega (arith, c.if-head-eq-WITHOUT_OUTCOMES.true)))
