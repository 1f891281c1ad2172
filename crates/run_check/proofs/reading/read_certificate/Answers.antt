use Rattle.std.proofs.Common.{◌≡◌, ℕ, List, None, sym, ap, subst, ◌∙◌, arith}
use Rattle.run_check.specs.Content.{Content}
use Rattle.run_check.specs.Faults.{certificate_fault, content_of}
use Rattle.run_check.specs.Spelling.{spelling, IsCertificate}
use Rattle.run_check.proofs.Judged.{faultless}
use Rattle.run_check.proofs.Spelled.{spelled}
use Rattle.run_check.proofs.reading.read_certificate.Goals as goal

accepted : (file : List ℕ) (c : Content) → c ≡ content_of file →
    IsCertificate (content_of file) × (file ≡ spelling (content_of file)) → IsCertificate c × (file ≡ spelling c)
accepted file c is e = (subst IsCertificate (sym is) e.0, e.1 ∙ ap spelling (sym is))

no_fault : (file : List ℕ) (content : Content) → IsCertificate content → file ≡ spelling content →
    certificate_fault file ≡ None
no_fault file content is spells = ap certificate_fault spells ∙ (spelled content is).0

read : (file : List ℕ) (content : Content) → IsCertificate content → file ≡ spelling content → content_of file ≡ content
read file content is spells = ap content_of spells ∙ (spelled content is).1

pub returns-clause-accepted : goal.returns-clause-accepted
returns-clause-accepted c =
    accepted c.args.file.now c.in_ok-built.field-0 c.in_ok-built.ensures
    (faultless c.args.file.now (λ i. omega (arith, c.type_inv.file i)) c.in_ok-counts.ensures.accepted)

pub returns-clause-spelled : goal.returns-clause-spelled
returns-clause-spelled c content is spells =
    (c.in_ok-counts.ensures.accepted, c.in_ok-built.ensures ∙ read c.args.file.now content is spells)

pub returns-in_err-counts-clause-spelled : goal.returns-in_err-counts-clause-spelled
returns-in_err-counts-clause-spelled c content is spells =
    let none = no_fault c.args.file.now content is spells in
    let some = c.in_err-counts.ensures.refused in
    absurd cc
