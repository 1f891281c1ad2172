-- What an opening tells: two machines with one opening were made with the same program and configuration.
use Rattle.std.proofs.Common.{◌≡◌, ℕ, List, [], ◌∷◌, ◌++◌, length, arith, refl}
use Rattle.std.specs.List.{flat_map}
use Rattle.el_base.specs.Modes.{mode_number}
use Rattle.el_base.specs.declared.config.Config.{Config}
use Rattle.el_base.specs.declared.config.Mode.{Mode}
use Rattle.el_base.specs.declared.config.Mode.TheVariants.{Plain, Sle, Tlr}
use Rattle.elf_image.specs.Program.{CodeSegment, Program}
use Rattle.machine.specs.Opening.{config_numbers, counted, opening_of, program_numbers, segment_numbers}

-- lists that begin with parts of one length are the same part by part
parts_apart : (a b c d : List ℕ) → length a ≡ length b → a ++ c ≡ b ++ d → (a ≡ b) × (c ≡ d)
parts_apart [] [] c d long same = (refl, same)
parts_apart [] (y ∷ b) c d long same = grind arith
parts_apart (x ∷ a) [] c d long same = grind arith
parts_apart (x ∷ a) (y ∷ b) c d long same =
    let rest : (a ≡ b) × (c ≡ d) = parts_apart a b c d (grind arith) (grind arith) in
    grind (arith, rest)

counted_apart : (a b c d : List ℕ) → counted a ++ c ≡ counted b ++ d → (a ≡ b) × (c ≡ d)
counted_apart a b c d same = parts_apart a b c d (grind (arith, same)) (grind (arith, same))

segments_apart : (xs ys : List CodeSegment) → length xs ≡ length ys →
    flat_map segment_numbers xs ≡ flat_map segment_numbers ys → xs ≡ ys
segments_apart [] [] long same = refl
segments_apart [] (y ∷ ys) long same = grind arith
segments_apart (x ∷ xs) [] long same = grind arith
segments_apart (x ∷ xs) (y ∷ ys) long same =
    let parts : (x.bytes ≡ y.bytes) × (flat_map segment_numbers xs ≡ flat_map segment_numbers ys) =
    counted_apart x.bytes y.bytes (flat_map segment_numbers xs) (flat_map segment_numbers ys) (grind (arith, same)) in
    let rest : xs ≡ ys = segments_apart xs ys (grind (arith, long)) (grind (arith, parts)) in
    grind (arith, same, parts, rest)

modes_apart : (a b : Mode) → mode_number a ≡ mode_number b → a ≡ b
modes_apart Plain Plain same = refl
modes_apart Sle Sle same = refl
modes_apart Tlr Tlr same = refl
modes_apart Plain Sle same = absurd cc
modes_apart Plain Tlr same = absurd cc
modes_apart Sle Plain same = absurd cc
modes_apart Sle Tlr same = absurd cc
modes_apart Tlr Plain same = absurd cc
modes_apart Tlr Sle same = absurd cc

programs_apart : (a b : Program) → program_numbers a ≡ program_numbers b → a ≡ b
programs_apart a b same =
    let bytes : (a.bytes ≡ b.bytes)
    × (length a.code ∷ flat_map segment_numbers a.code ≡ length b.code ∷ flat_map segment_numbers b.code) =
    counted_apart a.bytes b.bytes (length a.code ∷ flat_map segment_numbers a.code)
    (length b.code ∷ flat_map segment_numbers b.code) (grind (arith, same)) in
    let code : a.code ≡ b.code = segments_apart a.code b.code (grind (arith, bytes)) (grind (arith, bytes)) in
    grind (arith, same, bytes, code)

-- one opening, one beginning
pub openings_apart : (program other : Program) (config settings : Config) →
    opening_of program config ≡ opening_of other settings → (program ≡ other) × (config ≡ settings)
unfolding opening_of
openings_apart program other config settings same =
    let parts : (config_numbers config ≡ config_numbers settings) × (program_numbers program ≡ program_numbers other) =
    parts_apart (config_numbers config) (config_numbers settings) (program_numbers program)
    (program_numbers other) refl same in
    let mode : config.mode ≡ settings.mode = modes_apart config.mode settings.mode (grind (arith, parts)) in
    (programs_apart program other (grind (arith, parts)), grind (arith, parts, mode))
