-- Files that a shelf may hold, and what was read of them.
use Rattle.std.proofs.Common.{◌≡◌, ℕ, ◌+◌, ◌<◌, true, nat_lt, List, [], length, replicate, Option, None, Some, refl, ap}
use Rattle.std.proofs.Common.{arith}
use Rattle.std.proofs.lemmas.List.{length-replicate}
use Rattle.std.proofs.lemmas.Bool.Decides.{nat_tests}
use Rattle.std.specs.Prelude.{IfSome, slice_index}
use Rattle.el_base.specs.declared.config.Config.{Config}
use Rattle.el_base.specs.declared.events.Event.{Event}
use Rattle.el_base.specs.declared.outcomes.Outcome.{Outcome}
use Rattle.el_io.specs.Shelf.{Contents, Holds}
use Rattle.trace_file.specs.Faults.{config_at}
use Rattle.trace_file.specs.Spelling.{spelling}
use Rattle.tool.specs.declared.refusal.Refusal.TheVariants.{TooBig}
use Rattle.tool.specs.Refusals.{size_refusal}
use Rattle.run_check.specs.Content.{Content}
use Rattle.run_check.specs.Faults.{harts_of}
use Rattle.tool.specs.Stopping.{IsCertificateOf, IsTraceOf}

-- there is always some
pub some_file : (told : Option Contents) (name : List ℕ) → (file : List ℕ) × Holds told name file
some_file None name = ([], tt)
some_file (Some contents) name = (contents name, refl)

size_refused : (limit : ℕ) (file : List ℕ) → limit < length file → size_refusal limit file ≡ Some (TooBig limit)
size_refused limit file over =
    let passes : nat_lt limit (length file) ≡ true = grind (arith, nat_tests) in
    rw passes refl

-- a file that a read found over its limit may be over it
pub over_limit : (told : Option Contents) (name : List ℕ) (limit : ℕ) →
    IfSome told (λ contents. limit < length (contents name)) →
    (file : List ℕ) × Holds told name file × (size_refusal limit file ≡ Some (TooBig limit))
over_limit None name limit over =
    let zeros : List ℕ = replicate (limit + 1) 0 in
    let longer : limit < length zeros = omega (arith, length-replicate {A = ℕ} (limit + 1) 0) in
    (zeros, tt, size_refused limit zeros longer)
over_limit (Some contents) name limit over = (contents name, refl, size_refused limit (contents name) over)

-- a trace is of as many harts as its head says
pub spelled_harts : (file : List ℕ) (config : Config) (made : List Event) (recorded : Option (List Outcome)) →
    file ≡ spelling config made recorded → (config_at file).harts ≡ config.harts
unfolding config_at
spelled_harts file config made recorded spelled = ap (λ bytes. slice_index bytes 5) spelled

pub harts_of_trace : (file : List ℕ) (config : Config) (made : List Event) (recorded : Option (List Outcome)) →
    IsTraceOf file config made recorded → (config_at file).harts ≡ config.harts
harts_of_trace file config made recorded trace = spelled_harts file config made recorded trace.spelled

-- and a certificate
pub harts_of_certificate : (file : List ℕ) (content : Content) → IsCertificateOf file content →
    harts_of file ≡ content.harts
harts_of_certificate file content certificate = ap (λ bytes. slice_index bytes 5) certificate.spelled
