-- numbers for fields of one byte: one that is no byte is out of the field's range
use Rattle.std.proofs.Common.{◌≡◌, ℕ, ◌<◌, ◌&&◌, ◌||◌, Bool, true, false, List, [], ◌∷◌, refl, ap₂, arith, ltb, eqb}
use Rattle.std.specs.List.{list_all, list_any}
use Rattle.std.proofs.lemmas.Bool.Decides.{nat_tests}
use Rattle.el_base.specs.Config.{config_fault, set_counts, within}
use Rattle.el_base.specs.declared.config.Config.{Config}
use Rattle.command_line.specs.Settings.{byte_or_none}

within_byte : (high n : ℕ) → high < 256 → within 1 high (byte_or_none n) ≡ within 1 high n
within_byte high n small = go (ltb n 256) refl
  where
    go : (b : Bool) → ltb n 256 ≡ b → within 1 high (byte_or_none n) ≡ within 1 high n
    go true e = rw e refl
    go false e = rw e (grind (arith, nat_tests))

abbrev is_count : ℕ → Bool
is_count n = list_any (λ count. eqb count n) set_counts

-- a number that is no byte is none of some bytes
no_byte : (n : ℕ) → ltb n 256 ≡ false → (bytes : List ℕ) → list_all (λ byte. ltb byte 256) bytes ≡ true →
    list_any (λ byte. eqb byte n) bytes ≡ false
no_byte n large [] small = refl
no_byte n large (byte ∷ bytes) small =
    ap₂ (λ a b. a || b) (differs byte (both (ltb byte 256) _ small).0)
    (no_byte n large bytes (both (ltb byte 256) _ small).1)
  where
    both : (a b : Bool) → (a && b) ≡ true → (a ≡ true) × (b ≡ true)
    both true b e = (refl, e)
    both false b e = absurd cc

    differs : (byte : ℕ) → ltb byte 256 ≡ true → eqb byte n ≡ false
    differs byte is = grind (arith, nat_tests)

counts : (n : ℕ) → is_count (byte_or_none n) ≡ is_count n
counts n = go (ltb n 256) refl
  where
    go : (b : Bool) → ltb n 256 ≡ b → is_count (byte_or_none n) ≡ is_count n
    go true e = rw e refl
    go false e = rw (e, no_byte n e set_counts refl) refl

-- the configuration with what is a byte in each field of one byte
abbrev pub with_bytes : Config → Config
with_bytes config = record config {
  harts = byte_or_none config.harts;
  sets = byte_or_none config.sets;
  ways = byte_or_none config.ways;
  lines = byte_or_none config.lines;
}

pub same_fault : (config : Config) → config_fault (with_bytes config) ≡ config_fault config
same_fault config =
    rw (
      within_byte 8 config.harts (omega arith),
      counts config.sets,
      within_byte 8 config.ways (omega arith),
      within_byte 32 config.lines (omega arith),
    )
    refl
