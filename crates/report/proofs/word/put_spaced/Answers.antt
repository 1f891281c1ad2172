use Rattle.std.proofs.Common.{◌∷◌, []}
use Rattle.report.specs.Line.{bytes_of}
use Rattle.report.proofs.Putting.{put_then}
use Rattle.report.proofs.word.put_spaced.Goals as goal

pub returns : goal.returns
returns g c =
    put_then c.put_word.result _ _ _ (32 ∷ []) (bytes_of c.args.word.now) c.in_ok-put_bytes.ensures c.put_word.ensures
