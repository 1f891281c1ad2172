-- a program that comes to a full set of which each line has a bit: the lines that a hart waits for
-- have room, and others have none
use Rattle.std.proofs.Common.{◌≡◌, ◌∙◌, ℕ, true, false, List, [], ◌∷◌, replicate, refl, sym, arith}
use Rattle.residency.specs.Cache.{room_of}
use Rattle.el_base.specs.Config.{IsInRange}
use Rattle.el_base.specs.LineAddr.{line_addr}
use Rattle.el_base.specs.declared.config.Config.{Config}
use Rattle.el_base.specs.declared.config.Mode.TheVariants.{Sle}
use Rattle.el_base.specs.declared.events.Event.{Event}
use Rattle.el_base.specs.declared.events.Kind.TheVariants.{Step, Order, Serve}
use Rattle.el_base.specs.declared.outcomes.Need.TheVariants.{Read}
use Rattle.el_base.specs.declared.outcomes.Outcome.TheVariants.{Began, Missed, Ran}
use Rattle.elf_image.specs.Program.{Program}
use Rattle.computed_runs.proofs.Computing.{computing}
use Rattle.computed_runs.proofs.Given.{bytes_of, event, ordered_with, served_with}
use Rattle.computed_runs.proofs.Rows.Given.{code_at, settings, swap}
use Rattle.el_model.specs.Next.{after, outcomes}
use Rattle.el_model.specs.State.{cache_of}
use Rattle.section_laws.specs.Bounds.{IsShaped}
use Rattle.section_laws.proofs.Laws.Bounds.{caches_are_shaped}

-- lui x10, 16; addi x5, x0, 1; amoswap.w x7, x5, (x10)
abbrev pub words : List ℕ
words = 66871 ∷ 1049235 ∷ swap 7 5 10 ∷ []

abbrev pub program : Program
program = record {
  base = 65536;
  bytes = replicate 64 0;
  entry = code_at 0;
  harts = 1;
  code = record { start = code_at 0; bytes = bytes_of words } ∷ [];
}

-- one set of one way
abbrev config : Config
config = settings 1 Sle 1 1 16 2000

abbrev pub events : List Event
events = event Step 0 ∷ event Step 0 ∷ event Step 0 ∷ event Order 0 ∷ event Serve 0 ∷ event Step 0 ∷ []

-- the swap begins a section, with its line in the only way
outcomes_are : outcomes program config events
    ≡ Ran ∷ Ran ∷ Missed (line_addr 1024) Read ∷ ordered_with [] [] ∷ served_with [] [] ∷ Began ∷ []
unfolding computing
outcomes_are = refl

in_range : IsInRange config
unfolding computing
in_range = refl

-- the cache is of the configuration's shape, by the law
shaped : IsShaped config (cache_of (after program config events) 0)
shaped = caches_are_shaped program config events refl in_range 0 (omega arith)

-- that line has room, and the next one has none
lock_has_room : room_of 1 (cache_of (after program config events) 0) 1024 ≡ true
unfolding computing
lock_has_room = refl

other_has_none : room_of 1 (cache_of (after program config events) 0) 1025 ≡ false
unfolding computing
other_has_none = refl

-- so it is not so that each line has room in each cache: the law of waiting lines says it of those alone
abbrev EachLineHasRoom : Type 0
EachLineHasRoom =
    (program : Program) (config : Config) (events : List Event) (h line : ℕ) → program.harts ≡ config.harts →
    IsInRange config → room_of config.ways (cache_of (after program config events) h) line ≡ true

refuted : EachLineHasRoom → ⊥
refuted each = never (sym other_has_none ∙ each program config events 0 1025 refl in_range)
  where
    never : false ≡ true → ⊥
    never wrong = absurd (cc)
