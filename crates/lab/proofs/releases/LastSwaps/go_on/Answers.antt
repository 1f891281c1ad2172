-- one swap after another
use Rattle.std.proofs.Common.{◌∙◌, ◌<◌, ◌≤◌, ap, arith, refl, subst, take}
use Rattle.std.specs.Prelude.{nat_eq}
use Rattle.std.specs.HashMap.{get}
use Rattle.std.specs.List.{prefix_len}
use Rattle.std.proofs.lemmas.List.Sums.{prefix_len-le-length}
use Rattle.lab.proofs.Parting.{further, last_more, none_before, one_before, so_far}
use Rattle.lab.proofs.releases.LastSwaps.go_on.Goals as goal
use Rattle.lab.specs.Releases.{is_before, last_on}

pub loop-index-init : goal.loop-index-init
loop-index-init c = record {
  last = record {
    within =
        omega (
          arith,
          c.requires.last.within,
          further c.args.self.now.reached c.args.place c.requires.further c.args.swaps.now,
        );
    each = c.requires.last.each;
  };
  seen = refl;
  reached = refl;
}

pub returns-then-swap-place-clause-all : goal.returns-then-swap-place-clause-all
returns-then-swap-place-clause-all c =
    let swaps = c.args.swaps.now in
    let swap = c.index-swaps-index.result in
    let here = c.loop-index.invariant in
    let inside : c.loop-index.index ≤ prefix_len (is_before c.args.place) swaps =
    subst (λ p. c.loop-index.index ≤ prefix_len (is_before p) swaps) here.reached
    (so_far swaps c.loop-index.self c.loop-index.index here.last here.seen) in
    here.seen
    ∙ none_before c.args.place swaps c.loop-index.index swap inside c.loop-index-test.true c.index-swaps-index.is
    c.if-swap-place.true

pub loop-index-preserved : goal.loop-index-preserved
loop-index-preserved c =
    let swaps = c.args.swaps.now in
    let swap = c.index-swaps-index.result in
    let here = c.loop-index.invariant in
    let index = c.loop-index.index in
    let before : swap.place < c.loop-index.self.reached = omega (arith, c.if-swap-place.false, here.reached) in
    record {
      last = record {
        within =
            one_before c.loop-index.self.reached swaps index swap
            (so_far swaps c.loop-index.self index here.last here.seen)
            c.loop-index-test.true c.index-swaps-index.is before;
        each =
            λ word. last_more swaps index swap word (get nat_eq c.insert.new.self word)
            (get nat_eq c.loop-index.self.on word)
            c.loop-index-test.true c.index-swaps-index.is
            (here.last.each word ∙ ap (λ n. last_on word (take n swaps)) here.seen)
            (c.in_ok-insert.ensures.updates.0 word);
      };
      seen = refl;
      reached = here.reached;
    }

pub returns-clause-all : goal.returns-clause-all
returns-clause-all c =
    let swaps = c.args.swaps.now in
    let here = c.loop-index.invariant in
    let inside : c.loop-index.index ≤ prefix_len (is_before c.args.place) swaps =
    subst (λ p. c.loop-index.index ≤ prefix_len (is_before p) swaps) here.reached
    (so_far swaps c.loop-index.self c.loop-index.index here.last here.seen) in
    omega (arith, inside, here.seen, c.loop-index-test.false, prefix_len-le-length (is_before c.args.place) swaps)
