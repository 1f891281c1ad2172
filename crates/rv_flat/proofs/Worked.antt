-- The definitions, computed on two harts that both reserve a word and store to it on that condition.
use Rattle.std.proofs.Common.{◌≡◌, [], ◌∷◌, None, Some, refl}
use Rattle.std.specs.Prelude.{replicate, take}
use Rattle.elf_image.specs.Program.{Program, code_word}
use Rattle.rv_alu.specs.declared.view.HartStatus.TheVariants.{Running, Trapped}
use Rattle.rv_alu.specs.Action.{action_of}
use Rattle.rv_alu.specs.Execution.{executed}
use Rattle.rv_alu.specs.Regs.{get}
use Rattle.rv_word.specs.Decoding.{decoded}
use Rattle.rv_word.specs.Field.{reg_field}
use Rattle.rv_flat.specs.FlatState.{FlatState, first_view, start, status_of, view_of}
use Rattle.rv_flat.specs.Run.{run}
use Rattle.rv_flat.specs.Step.{flat}

-- auipc x6, 0; lr.w x5, (x6); sc.w x7, x6, (x6)
abbrev program : Program
program = record {
  base = 0x10000;
  bytes = replicate 64 0;
  entry = 0x10000;
  harts = 2;
  code = record {
    start = 0x10000;
    bytes = 0x17 ∷ 0x03 ∷ 0x00 ∷ 0x00 ∷ 0xaf ∷ 0x22 ∷ 0x03 ∷ 0x10 ∷ 0xaf ∷ 0x23 ∷ 0x63 ∷ 0x18 ∷ [];
  } ∷ [];
}

-- both harts reserve the word, hart 1 stores to it, and then hart 0 tries
abbrev later : FlatState
later = run (start program) (0 ∷ 0 ∷ 1 ∷ 1 ∷ 1 ∷ 0 ∷ [])

both_reserve : (view_of (run (start program) (0 ∷ 0 ∷ 1 ∷ 1 ∷ [])) 0).reserved ≡ Some 0x10000
unfolding start first_view flat code_word decoded reg_field executed action_of
both_reserve = refl

store_takes_the_other_reservation : (view_of (run (start program) (0 ∷ 0 ∷ 1 ∷ 1 ∷ 1 ∷ [])) 0).reserved ≡ None
unfolding start first_view flat code_word decoded reg_field executed action_of
store_takes_the_other_reservation = refl

second_succeeds : get (view_of later 1).regs 7 ≡ 0
unfolding start first_view flat code_word decoded reg_field executed action_of
second_succeeds = refl

first_fails : get (view_of later 0).regs 7 ≡ 1
unfolding start first_view flat code_word decoded reg_field executed action_of
first_fails = refl

-- the first instruction is stored over, and runs as it was loaded
word_is_stored : take 4 later.bytes ≡ 0x00 ∷ 0x00 ∷ 0x01 ∷ 0x00 ∷ []
unfolding start first_view flat code_word decoded reg_field executed action_of
word_is_stored = refl

code_stays : code_word later.code 0x10000 ≡ Some 0x00000317
unfolding start first_view flat code_word decoded reg_field executed action_of
code_stays = refl

goes_on : status_of later 0 ≡ Running
unfolding start first_view flat code_word decoded reg_field executed action_of
goes_on = refl

leaves_its_code : status_of (run later (0 ∷ [])) 0 ≡ Trapped 1 0x1000c
unfolding start first_view flat code_word decoded reg_field executed action_of
leaves_its_code = refl

-- the same harts at a word that means nothing
abbrev without_instruction : Program
without_instruction = record program { code = record { start = 0x10000; bytes = replicate 4 0 } ∷ [] }

meets_no_instruction : status_of (flat (start without_instruction) 1) 1 ≡ Trapped 2 0x10000
unfolding start first_view flat code_word decoded reg_field executed action_of
meets_no_instruction = refl

-- hart 1 has its number in x10, the number of harts in x11, and its stack below that of hart 0
second_begins : (get (view_of (start program) 1).regs 10 ∷ get (view_of (start program) 1).regs 11 ∷ []) ≡ 1 ∷ 2 ∷ []
unfolding start first_view
second_begins = refl

no_output : later.output ≡ []
unfolding start first_view flat code_word decoded reg_field executed action_of
no_output = refl
