use Rattle.std.proofs.Common.{◌≡◌, List, ℕ, length, map-id, replicate, ap, sum, ◌∙◌, arith}
use Rattle.std.specs.Array.{AllZipBelow}
use Rattle.std.proofs.lemmas.Slice.Zip.{AllZip-map}
use Rattle.line_pool.proofs.Made.{all_full, all_total, made, made_stands, next_full, next_total}
use Rattle.line_pool.proofs.pool.Pool.make.Goals as goal

-- a clone of bytes has the same bytes
same_bytes : (bytes clone : List ℕ) → AllZipBelow (λ x y. y ≡ x) bytes clone 64 → clone ≡ bytes
same_bytes bytes clone same = AllZip-map (λ x. x) bytes clone same.whole ∙ map-id bytes

pub loop-quota-preserved : goal.loop-quota-preserved
loop-quota-preserved c =
    let all = c.args.quotas.now in
    let index = c.loop-quota.quota-index in
    let total = c.loop-quota.total in
    let so_far = c.loop-quota.invariant in
    record {
      made =
          next_full all index total c.loop-quota.shares.items c.push.new.self.items c.in_ok-full.field-0
          c.loop-quota-test.true
          so_far.made so_far.total
          c.in_ok-full.ensures c.in_ok-push.ensures.items;
      total = next_total all index total c.from.result c.loop-quota-test.true so_far.total c.from.ensures;
      few = omega (arith, so_far.few, c.from.ensures, c.type_inv.quotas index);
    }

pub invariant_of-result : goal.invariant_of-result
invariant_of-result c =
    let all = c.args.quotas.now in
    let index = c.loop-quota.quota-index in
    let lines = c.in_ok-lines.lines in
    let long : length lines.items ≡ sum all =
    omega (
      arith,
      lines.ok.0,
      c.in_ok-lines.ensures.len,
      all_total all index c.loop-quota.total c.loop-quota-test.false
          c.loop-quota.invariant.total,
    ) in
    made_stands all c.loop-quota.shares.items (all_full all index c.loop-quota.shares.items c.loop-quota-test.false
    c.loop-quota.invariant.made) lines.items
    c.requires long

pub returns : goal.returns
returns c =
    let all = c.args.quotas.now in
    let index = c.loop-quota.quota-index in
    let lines = c.in_ok-lines.lines in
    let slots = all_total all index c.loop-quota.total c.loop-quota-test.false c.loop-quota.invariant.total in
    made all c.loop-quota.shares.items (all_full all index c.loop-quota.shares.items c.loop-quota-test.false
    c.loop-quota.invariant.made) lines.items
    (c.in_ok-lines.ensures.items_if_clones_equal (λ bytes same. same_bytes (replicate 64 0) bytes same)
    ∙ ap (λ n. replicate n (replicate 64 0)) slots)
