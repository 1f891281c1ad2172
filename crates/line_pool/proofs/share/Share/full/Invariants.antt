-- the places so far are free
use Rattle.std.proofs.Common.{◌≤◌, vec_capacity}
use Rattle.line_pool.specs.Kept.{AreFirst}
use Rattle.line_pool.proofs.share.Share.full.Given as goal

abbrev pub invariant-loop-place : goal.invariant-loop-place
invariant-loop-place l = record {
  listed : AreFirst l.place l.free.items;
  room : l.quota ≤ vec_capacity l.free;
}
