use Rattle.std.proofs.Common.{◌≡◌, ◌∙◌, ap, ◌*ℤ◌, rules, FitsSigned, w32}
use Rattle.rv_alu.specs.Operation.{signed, upper_word_of}
use Rattle.rv_alu.proofs.Products.{wide_product}
use Rattle.rv_alu.proofs.operation.upper_of_signed.Goals as goal

pub returns : goal.returns
returns c =
    let left : c.from.result ≡ signed c.args.left = search rules in
    let right : c.from-2.result ≡ signed c.args.right = search rules in
    let narrow : FitsSigned w32 c.from.result = rw left (search rules) in
    let narrow' : FitsSigned w32 c.from-2.result = rw right (search rules) in
    let exact : c.upper_word.result ≡ upper_word_of (c.from.result *ℤ c.from-2.result) =
    c.upper_word.ensures ∙ ap upper_word_of (wide_product c.from.result c.from-2.result narrow narrow') in
    rw (left, right) at exact
