-- What is in a mailbox after each call: the same message, and another one.
use Rattle.std.proofs.Common.{◌≡◌, ℕ, ◌==◌, Bool, true, false, cond, List, [], ◌∷◌, ◌++◌, refl, ap, sym, ◌∙◌, arith}
use Rattle.std.proofs.lemmas.Bool.Decides.{nat_tests}
use Rattle.mail.specs.Mailbox.{Message, Marker, Probe, same_message, has_message, posted, without_probe}
use Rattle.mail.specs.Mailbox.{without_markers}
use Rattle.mail.proofs.Laws.OnceEach.{same_as_itself}

-- what is in a box with one message more behind
has_behind : (box : List Message) (new message : Message)
    → has_message (box ++ new ∷ []) message ≡ cond (has_message box message) true (same_message new message)
has_behind [] new message = step (same_message new message)
  where
    step : (same : Bool) → cond same true false ≡ same
    step true = refl
    step false = refl
has_behind (first ∷ box) new message = step (same_message first message) (has_behind box new message)
  where
    step : (same : Bool) → has_message (box ++ new ∷ []) message ≡ cond (has_message box message) true
        (same_message new message)
        → cond same true (has_message (box ++ new ∷ []) message) ≡ cond (cond same true (has_message box message)) true
        (same_message new message)
    step true rest = refl
    step false rest = rest

pub has_posted_own : (box : List Message) (new : Message) → has_message (posted box new) new ≡ true
has_posted_own box new = step (has_message box new) refl
  where
    step : (there : Bool) → has_message box new ≡ there → has_message (cond there box (box ++ new ∷ [])) new ≡ true
    step true is = is
    step false is = has_behind box new new ∙ ap (λ test. cond test true (same_message new new)) is ∙ same_as_itself new

pub has_posted_other : (box : List Message) (new message : Message) → same_message new message ≡ false
    → has_message (posted box new) message ≡ has_message box message
has_posted_other box new message other = step (has_message box new)
  where
    or_false : (b : Bool) → cond b true false ≡ b
    or_false true = refl
    or_false false = refl

    step : (there : Bool) → has_message (cond there box (box ++ new ∷ [])) message ≡ has_message box message
    step true = refl
    step false =
        has_behind box new message ∙ ap (cond (has_message box message) true) other ∙ or_false (has_message box message)

pub has_without_probe_own : (box : List Message) (origin : ℕ) →
    has_message (without_probe box origin) (Probe origin) ≡ false
has_without_probe_own [] origin = refl
has_without_probe_own (Marker sender ∷ box) origin = has_without_probe_own box origin
has_without_probe_own (Probe other ∷ box) origin = step (other == origin) refl (has_without_probe_own box origin)
  where
    step : (own : Bool) → (other == origin) ≡ own → has_message (without_probe box origin) (Probe origin) ≡ false
        → has_message (cond own (without_probe box origin) (Probe other ∷ without_probe box origin))
        (Probe origin) ≡ false
    step true is rest = rest
    step false is rest = ap (λ test. cond test true (has_message (without_probe box origin) (Probe origin))) is ∙ rest

pub has_without_probe_other : (box : List Message) (origin : ℕ) (message : Message) →
    same_message (Probe origin) message ≡ false
    → has_message (without_probe box origin) message ≡ has_message box message
has_without_probe_other [] origin message differs = refl
has_without_probe_other (Marker sender ∷ box) origin message differs =
    ap (cond (same_message (Marker sender) message) true) (has_without_probe_other box origin message differs)
has_without_probe_other (Probe other ∷ box) origin message differs =
    step (other == origin) refl (has_without_probe_other box origin message differs)
  where
    not_it : (other == origin) ≡ true → same_message (Probe other) message ≡ false
    not_it own = let one : other ≡ origin =
        grind (arith, nat_tests) in ap (λ o. same_message (Probe o) message) one ∙ differs

    step : (own : Bool) → (other == origin) ≡ own →
        has_message (without_probe box origin) message ≡ has_message box message
        → has_message (cond own (without_probe box origin) (Probe other ∷ without_probe box origin)) message
        ≡ has_message (Probe other ∷ box) message
    step true is rest = rest ∙ sym (ap (λ test. cond test true (has_message box message)) (not_it is))
    step false is rest = ap (cond (same_message (Probe other) message) true) rest

pub has_without_markers_marker : (box : List Message) (sender : ℕ) →
    has_message (without_markers box) (Marker sender) ≡ false
has_without_markers_marker [] sender = refl
has_without_markers_marker (Marker other ∷ box) sender = has_without_markers_marker box sender
has_without_markers_marker (Probe origin ∷ box) sender = has_without_markers_marker box sender

pub has_without_markers_probe : (box : List Message) (origin : ℕ)
    → has_message (without_markers box) (Probe origin) ≡ has_message box (Probe origin)
has_without_markers_probe [] origin = refl
has_without_markers_probe (Marker sender ∷ box) origin = has_without_markers_probe box origin
has_without_markers_probe (Probe other ∷ box) origin =
    ap (cond (other == origin) true) (has_without_markers_probe box origin)
