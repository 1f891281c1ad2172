-- the shape of a state, which runs keep
use Rattle.std.proofs.Common.{◌≡◌, ◌∙◌, ℕ, ◌+◌, List, [], ◌∷◌, ◌++◌, length, refl, ap, sym, append-nil, append_assoc}
use Rattle.std.specs.Prelude.{replicate}
use Rattle.rv_flat.specs.FlatState.{FlatState, span_of}
use Rattle.rv_flat.specs.Laws.{KeepsShape}
use Rattle.rv_flat.specs.Run.{alone, run}
use Rattle.rv_flat.specs.Step.{flat}
use Rattle.rv_flat.proofs.Laws.StepLaws.{keeps_shape}

pub keeps_own_shape : (state : FlatState) → KeepsShape state state
keeps_own_shape state =
    record {
      base = refl;
      length_of_bytes = refl;
      code = refl;
      harts = refl;
      more = [];
      output = sym (append-nil state.output);
    }

pub keeps_twice : (first second third : FlatState) → KeepsShape first second → KeepsShape second third →
    KeepsShape first third
keeps_twice first second third one two = record {
  base = two.base ∙ one.base;
  length_of_bytes = two.length_of_bytes ∙ one.length_of_bytes;
  code = two.code ∙ one.code;
  harts = two.harts ∙ one.harts;
  more = one.more ++ two.more;
  output = two.output ∙ ap (λ output. output ++ two.more) one.output ∙ append_assoc first.output one.more two.more;
}

pub keeps_run : (state : FlatState) (harts : List ℕ) → KeepsShape state (run state harts)
keeps_run state [] = keeps_own_shape state
keeps_run state (hart ∷ harts) =
    keeps_twice state (flat state hart) (run (flat state hart) harts) (keeps_shape state hart)
    (keeps_run (flat state hart) harts)

pub keeps_alone : (state : FlatState) (hart n : ℕ) → KeepsShape state (alone state hart n)
keeps_alone state hart n = keeps_run state (replicate n hart)

-- memory has the same addresses
pub span_kept : (old new : FlatState) → KeepsShape old new → span_of new ≡ span_of old
span_kept old new keeps =
    ap (λ base. record { base = base; end = base + length new.bytes }) keeps.base
    ∙ ap (λ size. record { base = old.base; end = old.base + size }) keeps.length_of_bytes
