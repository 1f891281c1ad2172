-- drivers that have no more turn to make, and what that says of the machine after all of them
use Rattle.std.proofs.Common.{◌≡◌, ℕ, zero, suc, ◌+◌, ◌-◌, ◌<◌, ◌≤◌, ◌⊎◌, true, false, List, [], ◌∷◌, ◌++◌, length}
use Rattle.std.proofs.Common.{drop, take, sym, refl, ap, ◌∙◌}
use Rattle.std.proofs.Common.{subst, inl, inr, arith, length-append}
use Rattle.std.proofs.Math.Seq.{take-append_seam}
use Rattle.std.proofs.lemmas.List.{append-nil, length-drop, length-map}
use Rattle.std.proofs.lemmas.List.Elements.{filter-append}
use Rattle.std.specs.Prelude.{IsTrue}
use mathlib.Core.List.{IsPrefix}
use mathlib.Core.Logic.{dite}
use native.Mathlib.Decide.{ℕ_discrete, dec_le}
use Rattle.bus_lock.proofs.Laws.Beginnings.{prefix_length, prefix_onward, prefix_self}
use Rattle.chronicle.specs.Chronicle.{events}
use Rattle.drive.proofs.Turning.{before_on, made_on}
use Rattle.drive.specs.Drivers.{MakesTurns}
use Rattle.drive.specs.Turns.{GoesByTurns, HasEnded, IsAtItsEnd, IsRound, RoundStory, WasEnded, WereEnded, before_of}
use Rattle.drive.specs.Turns.{made_in, of_hart, round_at}
use Rattle.drive.specs.Turns.{round_opening, turns_of}
use Rattle.el_base.specs.declared.config.Config.{Config}
use Rattle.el_base.specs.declared.entries.Entry.{Entry}
use Rattle.el_base.specs.declared.events.Event.{Event}
use Rattle.el_model.specs.Next.{is_over, state_after}
use Rattle.elf_image.specs.Program.{Program}
use Rattle.machine.proofs.Laws.Continued.{state_of_continued}
use Rattle.machine.specs.Opening.{opening_of}
use Rattle.machine.specs.Story.{Story, state_of}

abbrev OpeningsTell : Type 0
OpeningsTell = (program other : Program) (config settings : Config) →
    opening_of program config ≡ opening_of other settings → (program ≡ other) × (config ≡ settings)

heads : (a b : ℕ) (x y : List ℕ) → a ∷ x ≡ b ∷ y → (a ≡ b) × (x ≡ y)
heads a b x y e = (cc, cc)

-- two rounds with one opening differ in their entries at most
pub same_round : (start round : RoundStory) → OpeningsTell → round_opening round ≡ round_opening start →
    round ≡ round_at start round.now.entries
same_round start round tell same =
    let base = heads round.base start.base (round.turns ∷ opening_of round.now.program round.now.config)
    (start.turns ∷ opening_of start.now.program start.now.config) same in
    let turns =
    heads round.turns start.turns (opening_of round.now.program round.now.config)
    (opening_of start.now.program start.now.config) base.1 in
    let made = tell round.now.program start.now.program round.now.config start.now.config turns.1 in
    λ i. record {
      base = base.0 i;
      turns = turns.0 i;
      now = record { program = made.0 i; config = made.1 i; entries = round.now.entries };
    }

-- turns that were made stay made
pub turns_grow : (start : RoundStory) (part whole : List Entry) (hart : ℕ) → start.base ≤ length part →
    IsPrefix part whole → turns_of (round_at start part) hart ≤ turns_of (round_at start whole) hart
turns_grow start part whole hart within begins =
    let was : List Event = of_hart hart (made_in (round_at start part)) in
    let since : List Event = of_hart hart (events begins.0) in
    let all : turns_of (round_at start (part ++ begins.0)) hart ≡ length was + length since =
    ap (λ made. length (of_hart hart made)) (made_on start part begins.0 within)
    ∙ (ap length (filter-append _ (made_in (round_at start part)) (events begins.0)) ∙ length-append was since) in
    subst (λ (l : List Entry). turns_of (round_at start part) hart ≤ turns_of (round_at start l) hart) begins.1
    (omega (arith, all))

-- a driver that has no more turn to make
pub ended_here : (start : RoundStory) (hart : ℕ) (seen : List Entry) → IsRound (round_at start seen) →
    HasEnded (round_at start seen) hart → WasEnded start hart seen
ended_here start hart seen good ended = record { part = seen; begins = prefix_self seen; round = good; ended = ended }

pub all_made : (start : RoundStory) (hart : ℕ) (seen : List Entry) → IsRound (round_at start seen) →
    start.turns ≤ turns_of (round_at start seen) hart → WasEnded start hart seen
all_made start hart seen good enough =
    let few = (good.by_turns.each hart).few in ended_here start hart seen good (inl (omega (arith, few, enough)))

pub ended_onward : (start : RoundStory) (hart : ℕ) (part whole : List Entry) → WasEnded start hart part →
    IsPrefix part whole → WasEnded start hart whole
ended_onward start hart part whole was begins =
    record {
      part = was.part;
      begins = prefix_onward was.part part whole was.begins begins;
      round = was.round;
      ended = was.ended;
    }

pub both_ended : (start : RoundStory) (first half harts : ℕ) (left right whole : List Entry) → half ≤ harts →
    WereEnded start first half left → WereEnded start (first + half) (harts - half) right → IsPrefix left whole →
    IsPrefix right whole → WereEnded start first harts whole
both_ended start first half harts left right whole fewer lefts rights begins begins' hart from below =
    less (dec_le (first + half) hart) where
      less : Dec (first + half ≤ hart) → WasEnded start hart whole
      less (yes past) = ended_onward start hart right whole (rights hart past (omega arith)) begins'
      less (no before) = ended_onward start hart left whole (lefts hart from (omega (arith, before))) begins

-- where every hart had stopped, nothing was made since
over_stays : (start : RoundStory) (part rest : List Entry) → IsRound (round_at start part) →
    IsRound (round_at start (part ++ rest)) → is_over (state_of (round_at start part).now) ≡ true → rest ≡ []
over_stays start part [] good whole over = refl
over_stays start part (entry ∷ rest) good whole over =
    let r : RoundStory = round_at start part in let all : RoundStory = round_at start (part ++ entry ∷ rest) in
    let made : List Event = made_in r in
    let is : made_in all ≡ made ++ events (entry ∷ rest) = made_on start part (entry ∷ rest) good.within in
    let goes =
    whole.by_turns.going (length made)
    (let n = ap length is in omega (arith, n, length-append made (events (entry ∷ rest)))) in
    let part_made : take (length made) (made_in all) ≡ made =
    ap (take (length made)) is ∙ take-append_seam made (events (entry ∷ rest)) in
    let before : before_of all ≡ before_of r = before_on start part (entry ∷ rest) good.within in
    let reached : state_of r.now ≡ state_after (state_of (before_of r)) made =
    ap state_of good.by_turns.story ∙ state_of_continued (before_of r) made in
    let then : is_over (state_after (state_of (before_of all)) (take (length made) (made_in all)))
    ≡ is_over (state_of r.now) =
    (λ i. is_over (state_after (state_of (before i)) (part_made i))) ∙ ap is_over (sym reached) in
    absurd (let e : true ≡ false = sym over ∙ (sym then ∙ goes) in cc)

-- a driver that once had no more turn to make has made all, or the machine is at its end
settled : (start : RoundStory) (hart : ℕ) (seen : List Entry) → IsRound (round_at start seen) →
    WasEnded start hart seen → (turns_of (round_at start seen) hart ≡ start.turns)
    ⊎ IsAtItsEnd (round_at start seen).now
settled start hart seen good was = elim was.ended [
  | inl all ↦
      let few = (good.by_turns.each hart).few in
      let grown = turns_grow start was.part seen hart was.round.within was.begins in
      inl (omega (arith, all, few, grown))
  | inr (inl over) ↦
      let good' : IsRound (round_at start (was.part ++ was.begins.0)) =
      subst (λ (l : List Entry). IsRound (round_at start l)) (sym was.begins.1) good in
      let none = over_stays start was.part was.begins.0 was.round good' over in
      let same : was.part ≡ seen = sym (append-nil was.part) ∙ (ap (λ l. was.part ++ l) (sym none) ∙ was.begins.1) in
      inr (inl (subst (λ (l : List Entry). IsTrue (is_over (state_of (round_at start l).now))) same over))
  | inr (inr spent) ↦
      let long = prefix_length was.part seen was.begins in inr (inr (omega (arith, long, spent)))
]

-- all drivers have made all, or the machine is at its end
all_settled : (start : RoundStory) (seen : List Entry) (harts : ℕ) → IsRound (round_at start seen) →
    WereEnded start 0 harts seen → ((hart : ℕ) → hart < harts → turns_of (round_at start seen) hart ≡ start.turns)
    ⊎ IsAtItsEnd (round_at start seen).now
all_settled start seen zero good were = inl (λ hart none. absurd (omega arith))
all_settled start seen (suc harts) good were =
    elim (settled start harts seen good (were harts (omega arith) (omega arith))) [
      | inr end ↦ inr end
      | inl last ↦
          elim (all_settled start seen harts good (λ hart from below. were hart from (omega arith))) [
            | inr end ↦ inr end
            | inl others ↦ inl (λ hart below. dite (ℕ_discrete hart harts)
                (λ here. ap (turns_of (round_at start seen)) here ∙ last) (λ other. others hart (omega arith)))
          ]
    ]

-- the machine after all drivers
finished : (start : RoundStory) (seen : List Entry) → start.base ≡ length start.now.entries →
    IsPrefix start.now.entries seen → IsRound (round_at start seen) → WereEnded start 0 start.now.config.harts seen →
    length seen ≤ start.now.config.steps → MakesTurns start.turns start.now (round_at start seen).now
finished start seen base begins good were within =
    let old : take start.base seen ≡ start.now.entries =
    ap (λ n. take n seen) base
    ∙ (ap (take (length start.now.entries)) (sym begins.1) ∙ take-append_seam start.now.entries begins.0) in
    let before : before_of (round_at start seen) ≡ start.now = ap (λ list. record start.now { entries = list }) old in
    record {
      made = made_in (round_at start seen);
      by_turns =
          subst (λ (b : Story). GoesByTurns start.turns b (round_at start seen).now (made_in (round_at start seen)))
          before good.by_turns;
      steps =
          let made = length-map (drop start.base seen) (λ (entry : Entry). entry.event) in
          let behind = length-drop start.base seen in
          omega (arith, made, behind, base, within);
      all = all_settled start seen start.now.config.harts good were;
    }

-- what is closed after all drivers
pub closed_after_all : (machine : Story) (turns harts : ℕ) (start closed : RoundStory) (first seen : List Entry) →
    OpeningsTell → start ≡ record { base = length machine.entries; turns = turns; now = machine } →
    harts ≡ machine.config.harts → first ≡ machine.entries → IsPrefix first seen → IsRound (round_at start seen) →
    WereEnded start 0 harts seen → round_opening closed ≡ round_opening start → closed.now.entries ≡ seen →
    length closed.now.entries ≤ closed.now.config.steps → MakesTurns turns machine closed.now
closed_after_all machine turns harts start closed first seen tell is all begun begins good were opening entries within =
    let from : RoundStory = record { base = length machine.entries; turns = turns; now = machine } in
    let same : closed ≡ round_at from seen =
    same_round start closed tell opening
    ∙ (ap (round_at start) entries ∙ ap (λ (s : RoundStory). round_at s seen) is) in
    let good' : IsRound (round_at from seen) = subst (λ (s : RoundStory). IsRound (round_at s seen)) is good in
    let were' : WereEnded from 0 machine.config.harts seen =
    subst (λ (s : RoundStory). WereEnded s 0 machine.config.harts seen) is
    (subst (λ n. WereEnded start 0 n seen) all were) in
    let begins' : IsPrefix machine.entries seen = subst (λ (l : List Entry). IsPrefix l seen) begun begins in
    subst (MakesTurns turns machine) (ap (λ (r : RoundStory). r.now) (sym same))
    (finished from seen refl begins' good' were'
    (subst (λ (r : RoundStory). length r.now.entries ≤ r.now.config.steps) same within))
