-- memory, which caches and main memory tell
use Rattle.std.specs.Prelude.{length}
use Rattle.coherence.specs.Beginning.{LiesWhere, line_of}
use Rattle.coherence.specs.Served.{Copies, TellsOf}
use Rattle.rv_flat.specs.FlatState.{FlatState}

-- main memory lies where the bytes of memory do, and with the caches it tells them
pub record TellsMemory (copies : Copies) (flat : FlatState) : Type 0 where
  pub placed : LiesWhere copies.first (length copies.lines) flat
  pub bytes : TellsOf copies (line_of flat)
