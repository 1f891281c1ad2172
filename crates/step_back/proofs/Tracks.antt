-- a run that goes on by a step, or back by one
use Rattle.std.proofs.Common.{◌≡◌, List, [], ◌∷◌, ◌++◌, length, ap, sym, ◌∙◌, subst}
use Rattle.std.proofs.lemmas.List.{length-map, map-append}
use Rattle.elf_image.specs.Program.{Program}
use Rattle.rv_flat.proofs.Laws.StepLaws.{harts-run, run_append, start_harts}
use Rattle.rv_flat.specs.declared.change.Change.{Change}
use Rattle.rv_flat.specs.Change.{IsLeftBy}
use Rattle.rv_flat.specs.FlatState.{FlatState, start}
use Rattle.rv_flat.specs.Run.{run}
use Rattle.rv_flat.specs.Step.{flat}
use Rattle.step_back.specs.Track.{AreLeftBy, IsTracked, harts_of}

pub harts-tracked : (program : Program) (state : FlatState) (changes : List Change) → IsTracked program state changes →
    length state.harts ≡ program.harts
harts-tracked program state changes is =
    ap (λ state. length state.harts) is.reached ∙ harts-run (start program) (harts_of changes) ∙ start_harts program

pub length-harts_of : (changes : List Change) → length (harts_of changes) ≡ length changes
length-harts_of changes = length-map changes (λ change. change.hart.number)

harts_of-more : (changes : List Change) (change : Change) →
    harts_of (changes ++ change ∷ []) ≡ harts_of changes ++ change.hart.number ∷ []
harts_of-more changes change = map-append (λ change. change.hart.number) changes (change ∷ [])

run-more : (state : FlatState) (changes : List Change) (change : Change) →
    run state (harts_of (changes ++ change ∷ [])) ≡ flat (run state (harts_of changes)) change.hart.number
run-more state changes change =
    ap (run state) (harts_of-more changes change) ∙ run_append state (harts_of changes) (change.hart.number ∷ [])

left-more : (state : FlatState) (changes : List Change) (change : Change) → AreLeftBy state changes →
    IsLeftBy (run state (harts_of changes)) change (flat (run state (harts_of changes)) change.hart.number) →
    AreLeftBy state (changes ++ change ∷ [])
left-more state [] change all left = (left, tt)
left-more state (first ∷ changes) change all left =
    (all.0, left-more (flat state first.hart.number) changes change all.1 left)

-- all but the last change, and the last one
pub record IsLast (state : FlatState) (changes : List Change) (change : Change) : Type 0 where
  pub others : AreLeftBy state changes
  pub last : IsLeftBy (run state (harts_of changes)) change (flat (run state (harts_of changes)) change.hart.number)

left-last : (state : FlatState) (changes : List Change) (change : Change) → AreLeftBy state (changes ++ change ∷ []) →
    IsLast state changes change
left-last state [] change all = record { others = tt; last = all.0 }
left-last state (first ∷ changes) change all =
    let rest : IsLast (flat state first.hart.number) changes change =
    left-last (flat state first.hart.number) changes change all.1 in
    record { others = (all.0, rest.others); last = rest.last }

-- one step more
pub goes_on : (program : Program) (before after : FlatState) (changes all : List Change) (change : Change) →
    IsTracked program before changes → IsLeftBy before change after → all ≡ changes ++ change ∷ [] →
    IsTracked program after all
goes_on program before after changes all change is left more =
    let state : FlatState = start program in
    let From : FlatState → Type 0 = λ before. IsLeftBy before change (flat before change.hart.number) in
    let To : FlatState → Type 0 = λ after. IsLeftBy before change after in
    let last : From (run state (harts_of changes)) = subst From is.reached (subst To left.stepped left) in
    let Tracked : List Change → Type 0 = IsTracked program after in
    subst Tracked (sym more)
    (record {
      reached =
          left.stepped ∙ ap (λ before. flat before change.hart.number) is.reached ∙ sym (run-more state changes change);
      noted = left-more state changes change is.noted last;
    })

-- one step less: the last change is that of the step that led here
pub goes_back : (program : Program) (after : FlatState) (changes all : List Change) (change : Change) →
    IsTracked program after all → all ≡ changes ++ change ∷ [] →
    IsLast (start program) changes change × IsLeftBy (run (start program) (harts_of changes)) change after
goes_back program after changes all change is more =
    let state : FlatState = start program in
    let Tracked : List Change → Type 0 = IsTracked program after in
    let is : Tracked (changes ++ change ∷ []) = subst Tracked more is in
    let last : IsLast state changes change = left-last state changes change is.noted in
    let To : FlatState → Type 0 = λ after. IsLeftBy (run state (harts_of changes)) change after in
    (last, subst To (sym (is.reached ∙ run-more state changes change)) last.last)
