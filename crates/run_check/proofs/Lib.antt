pub mod Laws
mod CertificateRules
mod Codes
mod FieldFaults
mod FirstBelow
mod Gathering
mod Items
mod Judged
mod Pieces
mod Registers
mod RulesSame
mod Runs
mod Spelled
mod Verdicts
mod Walk
mod WrittenHolds
