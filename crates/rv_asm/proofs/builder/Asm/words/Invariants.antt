use Rattle.std.proofs.Common.{◌≤◌, length, vec_capacity}
use Rattle.rv_asm.proofs.Words.{AreWordsUpTo}
use Rattle.rv_asm.proofs.builder.Asm.words.Given as goal

abbrev pub invariant-loop-place : goal.invariant-loop-place
invariant-loop-place l = AreWordsUpTo l.self l.place l.words.items × (length l.self.items ≤ vec_capacity l.words)
