-- the serial order of a history, event by event
use Rattle.std.proofs.Common.{◌≡◌, ◌≤◌, ◌<◌, ℕ, ◌+◌, ◌-◌, List, [], ◌∷◌, ◌++◌, Some, append-nil, arith, length}
use Rattle.std.proofs.Common.{length-append, take, drop, ap, sym, ◌∙◌, subst}
use Rattle.std.specs.Prelude.{All, slice_get}
use Rattle.std.proofs.lemmas.Grind.{flat_map-append}
use Rattle.std.proofs.lemmas.List.{take-append-drop, take_at, take_more}
use Rattle.std.proofs.lemmas.List.Elements.{All-cons, All-head, All-nil, All-tail}
use Rattle.std.proofs.lemmas.Option.{get_or_from_slice_get, slice_get_within}
use Rattle.chronicle.specs.Serial.{serial, taking_effect}
use Rattle.el_base.specs.declared.entries.Entry.{Entry}
use Rattle.step_back.specs.Standing.{StandsAt, serial_to}
use Rattle.step_back.specs.Track.{Track}

-- one event more
pub serial_to-more : (entries : List Entry) (place : ℕ) (entry : Entry) → slice_get entries place ≡ Some entry →
    serial_to entries (place + 1) ≡ serial_to entries place ++ taking_effect entry.event.hart.number entry.outcome
serial_to-more entries place entry there =
    let f : Entry → List ℕ = λ entry. taking_effect entry.event.hart.number entry.outcome in
    let within : place < length entries = slice_get_within entries place entry there in
    ap serial
    (take_more entries place entry within ∙ ap (λ last. take place entries ++ last ∷ [])
    (get_or_from_slice_get entries place entry entry there))
    ∙ flat_map-append f (take place entries) (entry ∷ [])
    ∙ ap (λ last. serial_to entries place ++ last) (append-nil (f entry))

-- the rest of the serial order
serial_to-rest : (entries : List Entry) (place : ℕ) →
    serial entries ≡ serial_to entries place ++ serial (drop place entries)
serial_to-rest entries place =
    let f : Entry → List ℕ = λ entry. taking_effect entry.event.hart.number entry.outcome in
    ap serial (sym (take-append-drop place entries)) ∙ flat_map-append f (take place entries) (drop place entries)

pub all-left : {X : Type 0} (P : X → Type 0) (xs ys : List X) → All P (xs ++ ys) → All P xs
all-left P [] ys all = All-nil P
all-left P (x ∷ xs) ys all =
    All-cons P x xs (All-head P x (xs ++ ys) all) (all-left P xs ys (All-tail P x (xs ++ ys) all))

pub all-right : {X : Type 0} (P : X → Type 0) (xs ys : List X) → All P (xs ++ ys) → All P ys
all-right P [] ys all = all
all-right P (x ∷ xs) ys all = all-right P xs ys (All-tail P x (xs ++ ys) all)

-- what takes effect in the event at a place
pub record TakesEffect (track : Track) (entries : List Entry) (place : ℕ) (harts : List ℕ) : Type 0 where
  pub more : serial_to entries (place + 1) ≡ serial_to entries place ++ harts
  pub exist : All (λ hart. hart < track.program.harts) harts
  pub short : length track.harts + length harts ≤ track.room

pub takes_effect : (track : Track) (entries : List Entry) (place : ℕ) (entry : Entry) (harts : List ℕ) →
    StandsAt track entries place → slice_get entries place ≡ Some entry →
    harts ≡ taking_effect entry.event.hart.number entry.outcome → TakesEffect track entries place harts
takes_effect track entries place entry harts at there is =
    let before : List ℕ = serial_to entries place in
    let rest : List ℕ = serial (drop (place + 1) entries) in
    let more : serial_to entries (place + 1) ≡ before ++ harts =
    serial_to-more entries place entry there ∙ ap (λ harts. before ++ harts) (sym is) in
    let whole : serial entries ≡ before ++ harts ++ rest =
    serial_to-rest entries (place + 1) ∙ ap (λ first. first ++ rest) more in
    let Exists : ℕ → Type 0 = λ hart. hart < track.program.harts in
    let Exist : List ℕ → Type 0 = All Exists in
    record {
      more = more;
      exist = all-right Exists before harts (all-left Exists (before ++ harts) rest (subst Exist whole at.exist));
      short = omega (
        arith,
        at.spacious,
        ap length at.stands,
        ap length whole,
        length-append (before ++ harts) rest,
        length-append before harts,
      );
    }

-- one event on
pub stands_on : (track new : Track) (entries : List Entry) (place : ℕ) (entry : Entry) (harts : List ℕ) →
    StandsAt track entries place → slice_get entries place ≡ Some entry →
    harts ≡ taking_effect entry.event.hart.number entry.outcome → new ≡ record track { harts = track.harts ++ harts } →
    StandsAt new entries (place + 1)
stands_on track new entries place entry harts at there is made =
    let effect : TakesEffect track entries place harts = takes_effect track entries place entry harts at there is in
    let At : Track → Type 0 = λ new. StandsAt new entries (place + 1) in
    let within : place < length entries = slice_get_within entries place entry there in
    subst At (sym made)
    (record {
      within = omega arith;
      stands = ap (λ before. before ++ harts) at.stands ∙ sym effect.more;
      exist = at.exist;
      spacious = at.spacious;
    })

-- what took effect in the event before a place is the last of the run
pub took_effect : (track : Track) (entries : List Entry) (place : ℕ) (entry : Entry) (harts : List ℕ) →
    StandsAt track entries (place + 1) → slice_get entries place ≡ Some entry →
    harts ≡ taking_effect entry.event.hart.number entry.outcome → track.harts ≡ serial_to entries place ++ harts
took_effect track entries place entry harts at there is =
    at.stands ∙ serial_to-more entries place entry there ∙ ap (λ harts. serial_to entries place ++ harts) (sym is)

-- one event back
pub stands_back : (track new : Track) (entries : List Entry) (place count : ℕ) (entry : Entry) (harts : List ℕ) →
    StandsAt track entries (place + 1) → slice_get entries place ≡ Some entry →
    harts ≡ taking_effect entry.event.hart.number entry.outcome → count ≡ length harts →
    new ≡ record track { harts = take (length track.harts - count) track.harts } → StandsAt new entries place
stands_back track new entries place count entry harts at there is counted made =
    let before : List ℕ = serial_to entries place in
    let Less : List ℕ → Type 0 = λ all. take (length all - count) all ≡ before in
    let less : Less (before ++ harts) =
    take_at before harts (length (before ++ harts) - count) (omega (arith, counted, length-append before harts)) in
    let At : Track → Type 0 = λ new. StandsAt new entries place in
    let within : place + 1 ≤ length entries = at.within in
    subst At (sym made)
    (record {
      within = omega arith;
      stands = subst Less (sym (took_effect track entries place entry harts at there is)) less;
      exist = at.exist;
      spacious = at.spacious;
    })
