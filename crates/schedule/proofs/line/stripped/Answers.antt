use Rattle.std.proofs.lemmas.Str.Ascii.{trim_ascii_end_is}
use Rattle.schedule.proofs.line.stripped.Goals as goal
use Rattle.schedule.specs.Lines.{stripped, trimmed}
use Rattle.std.proofs.Common.{◌∙◌, ap}

pub returns : goal.returns
unfolding stripped
returns c = trim_ascii_end_is _ _ c.trim_ascii_end.ensures.value ∙ ap trimmed c.uncommented.ensures
