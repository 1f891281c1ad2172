-- Two harts over plain caches run one image, which writes the line 'A': the request of one hart waits behind the
-- other's and then for its hold, and at the end each has read the line of the text, which both caches have as shared.
use Rattle.std.specs.Prelude.{slice_index_or}
use Rattle.std.proofs.Common.{◌≡◌, ℕ, List, [], ◌∷◌, None, false, replicate, refl}
use Rattle.el_base.specs.HartId.{hart_id}
use Rattle.el_base.specs.LineAddr.{line_addr}
use Rattle.el_base.specs.declared.config.Mode.TheVariants.{Plain}
use Rattle.el_base.specs.declared.events.Event.{Event}
use Rattle.el_base.specs.declared.events.Kind.TheVariants.{Step, Order, Serve}
use Rattle.el_base.specs.declared.outcomes.Need.TheVariants.{Read}
use Rattle.el_base.specs.declared.outcomes.Outcome.{Outcome}
use Rattle.el_base.specs.declared.outcomes.Outcome.TheVariants.{Missed, Ran, Blocked}
use Rattle.el_base.specs.declared.outcomes.Why.TheVariants.{Behind, Locked}
use Rattle.computed_runs.proofs.Computing.{computing}
use Rattle.computed_runs.proofs.Given.{bytes_of, event, ordered_with, patched, served_with, way}
use Rattle.computed_runs.proofs.Rows.Given.{settings}
use Rattle.el_model.specs.Next.{outcomes_from, state_after}
use Rattle.el_model.specs.State.{ModelState, cache_of, new_hart}
use Rattle.moesi.specs.declared.letter.Letter.TheVariants.{S}
use Rattle.rv_alu.specs.declared.view.HartStatus.TheVariants.{Running}

abbrev image : List ℕ
image =
    1049875 ∷ 1431 ∷ 33916307 ∷ 2098707 ∷ 67111059 ∷ 115 ∷ 1299 ∷ 97519763 ∷ 115 ∷ []

abbrev first : ModelState
first = record {
  config = settings 2 Plain 16 4 16 2000;
  committed = record {
    harts =
        record {
          pc = 65620;
          regs = patched (replicate 32 0) ((10, 0) ∷ (11, 2) ∷ []);
          reserved = None;
          status = Running;
        } ∷
        record {
          pc = 65620;
          regs = patched (replicate 32 0) ((10, 1) ∷ (11, 2) ∷ []);
          reserved = None;
          status = Running;
        } ∷ [];
    base = 65536;
    bytes = patched (replicate 128 0) ((120, 65) ∷ (121, 10) ∷ []);
    code = record { start = 65620; bytes = bytes_of image } ∷ [];
    output = [];
  };
  harts = replicate 2 (new_hart 16);
  order = [];
}

abbrev events : List Event
events =
    event Step 0 ∷ event Step 0 ∷ event Step 0 ∷ event Step 0 ∷ event Step 0 ∷ event Step 0 ∷ event Step 1 ∷
    event Step 1 ∷ event Step 1 ∷ event Step 1 ∷ event Step 1 ∷ event Step 1 ∷ event Order 0 ∷ event Order 1 ∷
    event Serve 1 ∷ event Serve 0 ∷ event Serve 1 ∷ event Step 0 ∷ event Serve 1 ∷ event Step 1 ∷ []

abbrev expected : List Outcome
expected =
    Ran ∷ Ran ∷ Ran ∷ Ran ∷ Ran ∷ Missed (line_addr 1025) Read ∷ Ran ∷ Ran ∷ Ran ∷ Ran ∷ Ran ∷
    Missed (line_addr 1025) Read ∷ ordered_with [] [] ∷ ordered_with [] [] ∷ Blocked Behind (hart_id 0) ∷
    served_with [] [] ∷ Blocked Locked (hart_id 0) ∷ Ran ∷ served_with [] [] ∷ Ran ∷ []

outcomes : outcomes_from first events ≡ expected
unfolding computing
outcomes = refl

output : (state_after first events).committed.output ≡ 65 ∷ 10 ∷ 65 ∷ 10 ∷ []
unfolding computing
output = refl

of_hart_0 : slice_index_or (cache_of (state_after first events) 0) 1 [] ≡ way 1025 S false false ∷ []
unfolding computing
of_hart_0 = refl

of_hart_1 : slice_index_or (cache_of (state_after first events) 1) 1 [] ≡ way 1025 S false false ∷ []
unfolding computing
of_hart_1 = refl
