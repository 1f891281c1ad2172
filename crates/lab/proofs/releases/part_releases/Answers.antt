-- one section after another
use Rattle.std.proofs.Common.{◌≡◌, arith}
use Rattle.lab.proofs.Parting.{all_parted, release_is, releases_more, takes_more}
use Rattle.lab.proofs.releases.part_releases.Goals as goal
use Rattle.lab.specs.Releases.{is_release, put_there}

pub loop-begun-init : goal.loop-begun-init
loop-begun-init c = record {
  takes = c.new.ensures.items;
  releases = c.new-2.ensures.items;
  last = c.none-last.ensures.none c.args.swaps.now;
}

pub loop-begun-preserved : goal.loop-begun-preserved
loop-begun-preserved c =
    let swaps = c.args.swaps.now in
    let try = c.begun-item.result in
    let gives = put_there try c.on.result in
    let told : gives ≡ is_release swaps try =
    release_is swaps c.go_on.new.self try c.on.result c.in_ok-go_on.ensures.last
    c.in_ok-go_on.ensures.all c.on.ensures in
    record {
      takes =
          takes_more swaps c.args.tries.now c.loop-begun.begun-index try gives c.loop-begun.parted.takes.items
          c.part.new.parted.takes.items
          c.loop-begun-test.true c.begun-item.is told c.loop-begun.invariant.takes c.in_ok-part.ensures.takes;
      releases =
          releases_more swaps c.args.tries.now c.loop-begun.begun-index try gives c.loop-begun.parted.releases.items
          c.part.new.parted.releases.items c.loop-begun-test.true c.begun-item.is told c.loop-begun.invariant.releases
          c.in_ok-part.ensures.releases;
      last = c.in_ok-go_on.ensures.last;
    }

pub returns-clause-each_once : goal.returns-clause-each_once
returns-clause-each_once c =
    all_parted c.args.swaps.now c.args.tries.now c.loop-begun.parted.takes.items c.loop-begun.parted.releases.items
    c.loop-begun.begun-index
    (omega (arith, c.loop-begun-test.false)) c.loop-begun.invariant.takes c.loop-begun.invariant.releases
