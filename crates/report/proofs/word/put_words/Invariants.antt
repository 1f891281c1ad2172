use Rattle.std.proofs.Common.{take}
use Rattle.std.specs.List.{flat_map}
use Rattle.report.specs.Line.{bytes_of, spaced}
use Rattle.report.specs.Puts.{PutAll}
use Rattle.report.proofs.word.put_words.Given as goal

abbrev pub invariant-loop-word : goal.invariant-loop-word
invariant-loop-word g l =
    PutAll
    (record { taken = g.S.Sink.taken l.initial.sink; faults = g.S.Sink.faults l.initial.sink })
    (record { taken = g.S.Sink.taken l.sink; faults = g.S.Sink.faults l.sink })
    (flat_map (λ word. spaced (bytes_of word)) (take l.word-index l.words))
