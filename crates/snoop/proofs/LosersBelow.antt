-- the losers of a list of fates, one hart after another
use Rattle.std.proofs.Common.{◌≡◌, ◌≢◌, ◌∙◌, ℕ, ◌+◌, ◌<◌, ◌≤◌, ◌==◌, cond, List, [], length, None, refl, ap, sym, arith}
use Rattle.std.proofs.Common.{inl, inr, if◌then◌else◌}
use Rattle.std.specs.Prelude.{IfSome, slice_index_or}
use Rattle.std.proofs.lemmas.Bool.{cases_eq, cases_lt}
use Rattle.std.proofs.lemmas.List.{get_or_default, get_or_past}
use Rattle.el_base.proofs.Laws.MadeLosers.{beaten_by-beyond, beaten_by-losers_of}
use Rattle.el_base.proofs.Laws.SameLosers.{same_losers}
use Rattle.el_base.specs.Losers.{beaten_by, losers_of}
use Rattle.el_base.specs.declared.losers.Losers.{Losers}
use Rattle.el_base.proofs.Laws.Tests.{other_test, own_test}
use Rattle.el_model.specs.Face.{Fate, Unmet, winner_in}
use Rattle.snoop.specs.Fates.{fate_in, numbered_fate}
use Rattle.snoop.specs.declared.fates.Fate as fates
use Rattle.snoop.specs.declared.fates.Fate.TheVariants as declared

-- of the harts below a number those have lost whose fate says so, and of the others none
pub record AreLosersBelow (fate : ℕ → Fate) (number : ℕ) (losers : Losers) : Type 0 where
  pub done : (h : ℕ) → h < number → beaten_by losers h ≡ winner_in (fate h)
  pub rest : (h : ℕ) → number ≤ h → beaten_by losers h ≡ None

pub no_losers : (fate : ℕ → Fate) (losers : Losers) → ((h : ℕ) → beaten_by losers h ≡ None) →
    AreLosersBelow fate 0 losers
no_losers fate losers none = record { done = λ h below. absurd (omega arith); rest = λ h from. none h }

-- one hart more has lost, where its fate says so
pub one_loser_more : (fate : ℕ → Fate) (number : ℕ) (losers result : Losers) → AreLosersBelow fate number losers →
    ((h : ℕ) → beaten_by result h ≡ (if h == number then winner_in (fate number) else beaten_by losers h)) →
    AreLosersBelow fate (number + 1) result
one_loser_more fate number losers result below is = record {
  done = λ h under. elim (cases_eq h number) [
    | inl same ↦ is h ∙ here h same
    | inr other ↦ is h ∙ there h other ∙ below.done h (omega (arith, under, other))
  ];
  rest = λ h from. is h ∙ there h (λ same. absurd (omega (arith, from, same))) ∙ below.rest h (omega (arith, from));
}
  where
    here : (h : ℕ) → h ≡ number → (if h == number then winner_in (fate number) else beaten_by losers h)
        ≡ winner_in (fate h)
    here h same =
        rw same (ap (λ b. cond b (winner_in (fate number)) (beaten_by losers number)) (own_test number))

    there : (h : ℕ) → h ≢ number → (if h == number then winner_in (fate number) else beaten_by losers h)
        ≡ beaten_by losers h
    there h other = ap (λ b. cond b (winner_in (fate number)) (beaten_by losers h)) (other_test h number other)

-- a winner is a hart
hart_wins : (fate : fates.Fate) → IfSome (winner_in (numbered_fate fate)) (λ w. w < 8)
hart_wins declared.Unmet = tt
hart_wins declared.Stays = tt
hart_wins (declared.LosesTo winner) = winner.small

-- past the last fate no hart has lost
pub past_fates : (known : List fates.Fate) (h : ℕ) → length known ≤ h → fate_in known h ≡ Unmet
past_fates known h past = ap numbered_fate (get_or_past known h declared.Unmet past)

pub all_losers : (known : List fates.Fate) (number : ℕ) (losers : Losers) → number ≡ length known → length known ≤ 8 →
    AreLosersBelow (fate_in known) number losers → losers ≡ losers_of (λ h. winner_in (fate_in known h))
all_losers known number losers all few below =
    same_losers losers (losers_of (λ h. winner_in (fate_in known h)))
    (λ h. elim (cases_lt h 8) [
      | inl low ↦
          told h
          ∙ sym (beaten_by-losers_of (λ g. winner_in (fate_in known g)) h low
          (hart_wins (slice_index_or known h declared.Unmet)))
      | inr high ↦ beaten_by-beyond losers h high
          ∙ sym (beaten_by-beyond (losers_of (λ g. winner_in (fate_in known g))) h high)
    ])
  where
    told : (h : ℕ) → beaten_by losers h ≡ winner_in (fate_in known h)
    told h = elim (cases_lt h number) [
      | inl under ↦ below.done h under
      | inr past ↦ below.rest h past ∙ sym (ap winner_in (past_fates known h (omega (arith, past, all))))
    ]

-- a fate that was read of a list
pub fate_read : (known : List fates.Fate) (h : ℕ) (fate : fates.Fate) → h < length known →
    fate ≡ slice_index_or known h fate → numbered_fate fate ≡ fate_in known h
fate_read known h fate inside is = ap numbered_fate (is ∙ get_or_default known h fate declared.Unmet inside)

-- where no hart has lost
pub nobody_lost : (losers : Losers) → ((h : ℕ) → beaten_by losers h ≡ None) → losers ≡ losers_of (λ h. None)
nobody_lost losers none = all_losers [] 0 losers refl (omega arith) (no_losers (fate_in []) losers none)
