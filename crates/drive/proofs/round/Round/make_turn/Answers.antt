use Rattle.std.proofs.Common.{◌≡◌, ◌+◌, ◌<◌, false, ℕ, [], ◌∷◌, ap, refl, sym, subst, arith, ◌∙◌}
use Rattle.std.specs.Prelude.{slice_index, slice_set}
use Rattle.drive.proofs.Turning.{counts_more, round_more}
use Rattle.drive.specs.Turns.{AreCounts, IsRound, RoundStory, turns_of}
use Rattle.el_base.specs.declared.events.Event.{Event}
use Rattle.el_model.specs.Next.{is_over}
use Rattle.machine.specs.Story.{Story, continued, state_of}
use Rattle.drive.proofs.round.Round.make_turn.Goals as goal

pub invariant_of-self : goal.invariant_of-self
invariant_of-self c =
    let round : RoundStory =
    record { base = c.self.inside.base; turns = c.self.inside.turns; now = c.self.inside.machine } in
    let event : Event = record { kind = c.kind_at.result; hart = c.args.hart } in
    let good : IsRound round = c.self.invariant.0 in
    let are : AreCounts round c.self.inside.made = c.self.invariant.1 in
    let runs : is_over (state_of round.now) ≡ false =
    subst (λ (r : RoundStory). is_over (state_of r.now) ≡ false) (sym c.self.view_is) c.requires.runs in
    let exists : c.args.hart.number < round.now.config.harts =
    subst (λ (r : RoundStory). c.args.hart.number < r.now.config.harts) (sym c.self.view_is) c.requires.hart_exists in
    let left : turns_of round c.args.hart.number < round.turns =
    subst (λ (r : RoundStory). turns_of r c.args.hart.number < r.turns) (sym c.self.view_is) c.requires.turn_left in
    let made = ap (slice_index c.self.inside.made) c.from.ensures ∙ are c.args.hart.number c.args.hart.small in
    let kind_is = c.kind_at.ensures in
    let at = c.from-2.ensures in
    let count : ℕ = slice_index c.self.inside.made c.from.result + 1 in
    let now : Story → RoundStory = λ s. record round { now = s } in
    subst (λ (s : Story). IsRound (now s) × AreCounts (now s) (slice_set c.self.inside.made c.from-2.result count))
    (sym c.step.ensures.goes_on) (
      round_more round event good runs exists left (omega (arith, kind_is, made)),
      counts_more round event good c.self.inside.made c.from-2.result count are c.self.told
          (let small = c.args.hart.small in omega (arith, at, small))
          (sym at) (ap (λ n. slice_index c.self.inside.made n + 1) (c.from.ensures ∙ sym at)),
    )

pub returns-clause-goes_on : goal.returns-clause-goes_on
returns-clause-goes_on c =
    let event : Event = record { kind = c.kind_at.result; hart = c.args.hart } in
    let now : Story → RoundStory = λ s. record { base = c.self.inside.base; turns = c.self.inside.turns; now = s } in (
      event,
      refl,
      ap now c.step.ensures.goes_on
          ∙ ap (λ (r : RoundStory). record r { now = continued r.now (event ∷ []) }) c.self.view_is,
    )

pub returns-clause-round : goal.returns-clause-round
returns-clause-round c = (invariant_of-self c).0
