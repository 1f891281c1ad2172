-- Bytes that a sink takes one after another: laws for those who put more than once.
use Rattle.std.proofs.Common.{◌≡◌, ℕ, ◌+◌, ◌<◌, List, [], ◌∷◌, ◌++◌, length, take, Option, subst, arith}
use Rattle.std.proofs.Math.Seq.{take-append-add}
use Rattle.std.proofs.lemmas.List.{length-append, take-append-le}
use Rattle.el_io.proofs.Taking.{took-more, took-of_all}
use Rattle.el_io.specs.Sink.{TookAll, TookPart}

-- bytes taken after others are taken behind them
pub took_then_all : (before between now : Option (List ℕ)) (first more : List ℕ) → TookAll before between first →
    TookAll between now more → TookAll before now (first ++ more)
took_then_all before between now [] more a b =
    let P : Option (List ℕ) → Type 0 = λ told. TookAll told now more in
    subst P a b
took_then_all before between now (byte ∷ first) more a b = took-more a (took-of_all between now more b)

pub took_then_part : (before between now : Option (List ℕ)) (first more : List ℕ) → TookAll before between first →
    TookPart between now more → TookPart before now (first ++ more)
took_then_part before between now first more a b = record {
  count = length first + b.count;
  short = rw (length-append first more) (omega (arith, b.short));
  part = rw (take-append-add first more b.count) (took_then_all before between now first (take b.count more) a b.part);
}

-- what is a part of some bytes is a part of more
pub part_of_more : (before now : Option (List ℕ)) (first more : List ℕ) → TookPart before now first →
    TookPart before now (first ++ more)
part_of_more before now first more a = record {
  count = a.count;
  short = rw (length-append first more) (omega (arith, a.short));
  part = rw (take-append-le a.count first more (omega (arith, a.short))) a.part;
}
