-- a hart that is posted messages, sees a stamp, loses its section or has its armed one let go, and nothing else
use Rattle.std.proofs.Common.{◌≡◌, ◌∙◌, ◌≤◌, ◌==◌, ℕ, Bool, true, false, List, [], ◌∷◌, map, Option, refl, sym, inl}
use Rattle.std.proofs.Common.{inr, ◌⊎◌, arith, subst, if◌then◌else◌}
use Rattle.std.proofs.Math.Nat.{le_refl}
use Rattle.defer_list.specs.HartSet.{has}
use Rattle.el_model.specs.Armed.{let_go_hart}
use Rattle.el_model.specs.Attempts.{see}
use Rattle.el_model.specs.RollBack.{out_of_section}
use Rattle.el_model.specs.State.{Hart, ModelState, post_all}
use Rattle.el_model.proofs.Laws.Tests.{by_test}
use Rattle.mail.specs.Mailbox.{Marker, Message, Probe, has_message, posted, same_message}
use Rattle.mail.proofs.Laws.LookUps.{has_posted_other, has_posted_own}
use Rattle.mail.proofs.Laws.OnceEach.{same_is_one}
use Rattle.removal_laws.specs.Facts.{IsLinked, Knows, MayPrecede}
use Rattle.section_laws.proofs.Laws.Bits.{Fewer, fewer_ended, fewer_same, fewer_twice, no_more_cleared}
use Rattle.section_laws.proofs.Laws.Moves.{seen_grows}
use Rattle.stamp.specs.Stamps.{Stamp}
use Rattle.el_base.proofs.Laws.Tests.{number_of_test, own_test}

-- what is in a box after a message was posted
still_there : (box : List Message) (new message : Message) → has_message box message ≡ true →
    has_message (posted box new) message ≡ true
still_there box new message is = by (same_message new message) refl
  where
    by : (same : Bool) → same_message new message ≡ same → has_message (posted box new) message ≡ true
    by true same = rw (sym (same_is_one new message same)) (has_posted_own box new)
    by false other = has_posted_other box new message other ∙ is

pub there_or_new : (box : List Message) (new message : Message) → has_message (posted box new) message ≡ true →
    (has_message box message ≡ true) ⊎ (new ≡ message)
there_or_new box new message is = by (same_message new message) refl
  where
    by : (same : Bool) → same_message new message ≡ same → (has_message box message ≡ true) ⊎ (new ≡ message)
    by true same = inr (same_is_one new message same)
    by false other = inl (sym (has_posted_other box new message other) ∙ is)

-- after such a change of a hart, its sets and requests are the same, its links have grown by harts that may be before
-- it, it knows no more and no less, and its section has no bit more
pub record Posted (state : ModelState) (g : ℕ) (old new : Hart) : Type 0 where
  pub raised : new.raised ≡ old.raised
  pub told : new.told ≡ old.told
  pub upstream : new.upstream ≡ old.upstream
  pub attempt : new.attempt ≡ old.attempt
  pub seen : old.seen ≤ new.seen
  pub links : (before : ℕ) → IsLinked old before → IsLinked new before
  pub fresh : (before : ℕ) → IsLinked new before → IsLinked old before ⊎ MayPrecede state g before
  pub knows : (origin : ℕ) → Knows old origin → Knows new origin
  pub known : (origin : ℕ) → Knows new origin → Knows old origin
  pub fewer : (line : ℕ) → Fewer line old new

pub posted_twice : (state : ModelState) (g : ℕ) (one two three : Hart) → Posted state g one two →
    Posted state g two three → Posted state g one three
posted_twice state g one two three first second = record {
  raised = second.raised ∙ first.raised;
  told = second.told ∙ first.told;
  upstream = second.upstream ∙ first.upstream;
  attempt = second.attempt ∙ first.attempt;
  seen = let a = first.seen in let b = second.seen in omega (arith, a, b);
  links = λ before is. second.links before (first.links before is);
  fresh = λ before is. from before (second.fresh before is);
  knows = λ origin is. second.knows origin (first.knows origin is);
  known = λ origin is. first.known origin (second.known origin is);
  fewer = λ line. fewer_twice line one two three (first.fewer line) (second.fewer line);
}
  where
    from : (before : ℕ) → IsLinked two before ⊎ MayPrecede state g before →
        IsLinked one before ⊎ MayPrecede state g before
    from before (inl was) = first.fresh before was
    from before (inr new) = inr new

-- the same messages and sets
pub posted_same : (state : ModelState) (g : ℕ) (old new : Hart) → new.raised ≡ old.raised → new.mail ≡ old.mail →
    new.told ≡ old.told → new.upstream ≡ old.upstream → new.attempt ≡ old.attempt → old.seen ≤ new.seen →
    ((line : ℕ) → Fewer line old new) → Posted state g old new
posted_same state g old new raised mail told upstream attempt seen fewer = record {
  raised = raised;
  told = told;
  upstream = upstream;
  attempt = attempt;
  seen = seen;
  links = λ before is. rw mail (rw upstream is);
  fresh = λ before is. inl (rw (sym mail) (rw (sym upstream) is));
  knows = λ origin is. rw mail (rw told is);
  known = λ origin is. rw (sym mail) (rw (sym told) is);
  fewer = fewer;
}

pub unchanged : (state : ModelState) (g : ℕ) (hart : Hart) → Posted state g hart hart
unchanged state g hart =
    posted_same state g hart hart refl refl refl refl refl (le_refl hart.seen)
    (λ line. fewer_same line hart hart refl refl)

pub seeing : (state : ModelState) (g : ℕ) (stamp : Option Stamp) (hart : Hart) → Posted state g hart (see stamp hart)
seeing state g stamp hart =
    posted_same state g hart (see stamp hart) refl refl refl refl refl (seen_grows hart.seen stamp)
    (λ line. fewer_same line hart (see stamp hart) refl refl)

pub losing : (state : ModelState) (g : ℕ) (hart : Hart) → Posted state g hart (out_of_section hart)
losing state g hart =
    posted_same state g hart (out_of_section hart) refl refl refl refl refl (le_refl hart.seen)
    (λ line. fewer_ended line hart (out_of_section hart) refl)

pub let_go_posts : (state : ModelState) (g pc : ℕ) (hart : Hart) → Posted state g hart (let_go_hart pc hart)
let_go_posts state g pc hart =
    posted_same state g hart (let_go_hart pc hart) refl refl refl refl refl (le_refl hart.seen)
    (λ line. record { live = λ live. live; bits = λ live. no_more_cleared hart.cache line })

-- a message is posted: no link ends, and nothing that is known
pub links_still : (hart : Hart) (new : Message) (before : ℕ) → IsLinked hart before →
    IsLinked (record hart { mail = posted hart.mail new }) before
links_still hart new before (inl sent) = inl (still_there hart.mail new (Marker before) sent)
links_still hart new before (inr is) = inr is

pub knows_still : (hart : Hart) (new : Message) (origin : ℕ) → Knows hart origin →
    Knows (record hart { mail = posted hart.mail new }) origin
knows_still hart new origin (inl sent) = inl (still_there hart.mail new (Probe origin) sent)
knows_still hart new origin (inr is) = inr is

-- a marker is posted
marker_sender : (a b : ℕ) → Marker a ≡ Marker b → a ≡ b
marker_sender a b is = cc

not_probe : {X : Type 0} (a b : ℕ) → Marker a ≡ Probe b → X
not_probe a b is = absurd (cc)

pub marked : (state : ModelState) (g sender : ℕ) (hart : Hart) → MayPrecede state g sender →
    Posted state g hart (record hart { mail = posted hart.mail (Marker sender) })
marked state g sender hart may = record {
  raised = refl;
  told = refl;
  upstream = refl;
  attempt = refl;
  seen = le_refl hart.seen;
  links = links_still hart (Marker sender);
  fresh = λ before is. from before is;
  knows = knows_still hart (Marker sender);
  known = λ origin is. told_before origin is;
  fewer = λ line. fewer_same line hart (record hart { mail = posted hart.mail (Marker sender) }) refl refl;
}
  where
    new : Hart
    new = record hart { mail = posted hart.mail (Marker sender) }

    by_message : (before : ℕ) → (has_message hart.mail (Marker before) ≡ true) ⊎ (Marker sender ≡ Marker before) →
        IsLinked hart before ⊎ MayPrecede state g before
    by_message before (inl was) = inl (inl was)
    by_message before (inr same) = inr (subst (MayPrecede state g) (marker_sender sender before same) may)

    from : (before : ℕ) → IsLinked new before → IsLinked hart before ⊎ MayPrecede state g before
    from before (inl sent) = by_message before (there_or_new hart.mail (Marker sender) (Marker before) sent)
    from before (inr is) = inl (inr is)

    by_probe : (origin : ℕ) → (has_message hart.mail (Probe origin) ≡ true) ⊎ (Marker sender ≡ Probe origin) →
        Knows hart origin
    by_probe origin (inl was) = inl was
    by_probe origin (inr same) = not_probe sender origin same

    told_before : (origin : ℕ) → Knows new origin → Knows hart origin
    told_before origin (inl sent) = by_probe origin (there_or_new hart.mail (Marker sender) (Probe origin) sent)
    told_before origin (inr is) = inr is

pub is_marked : (hart : Hart) (sender : ℕ) → IsLinked (record hart { mail = posted hart.mail (Marker sender) }) sender
is_marked hart sender = inl (has_posted_own hart.mail (Marker sender))

-- and a list of them
pub all_marked : (state : ModelState) (g : ℕ) (senders : List ℕ) (hart : Hart) →
    ((sender : ℕ) → has senders sender ≡ true → MayPrecede state g sender) →
    Posted state g hart (post_all hart (map Marker senders))
all_marked state g [] hart may = unchanged state g hart
all_marked state g (sender ∷ senders) hart may =
    posted_twice state g hart (record hart { mail = posted hart.mail (Marker sender) }) _
    (marked state g sender hart (may sender (first sender senders)))
    (all_marked state g senders (record hart { mail = posted hart.mail (Marker sender) })
    (λ other is. may other (later sender senders other is)))
  where
    first : (sender : ℕ) (senders : List ℕ) → has (sender ∷ senders) sender ≡ true
    first sender senders = rw (own_test sender) refl

    later : (sender : ℕ) (senders : List ℕ) (other : ℕ) → has senders other ≡ true → has (sender ∷ senders) other ≡ true
    later sender senders other is =
        by_test (λ b. b ≡ true) (sender == other) true (has senders other) (λ same. refl) (λ apart. is)

-- each sender of the list has a link
pub all_linked : (senders : List ℕ) (hart : Hart) (sender : ℕ) → has senders sender ≡ true ⊎ IsLinked hart sender →
    IsLinked (post_all hart (map Marker senders)) sender
all_linked [] hart sender (inl is) = absurd (cc)
all_linked [] hart sender (inr linked) = linked
all_linked (first ∷ senders) hart sender is =
    all_linked senders (record hart { mail = posted hart.mail (Marker first) }) sender (next is)
  where
    here : (same : Bool) → (first == sender) ≡ same → (if same then true else has senders sender) ≡ true →
        has senders sender ≡ true ⊎ IsLinked (record hart { mail = posted hart.mail (Marker first) }) sender
    here true same is =
        inr
        (subst (IsLinked (record hart { mail = posted hart.mail (Marker first) })) (number_of_test first sender same)
        (is_marked hart first))
    here false apart is = inl is

    next : has (first ∷ senders) sender ≡ true ⊎ IsLinked hart sender →
        has senders sender ≡ true ⊎ IsLinked (record hart { mail = posted hart.mail (Marker first) }) sender
    next (inl is) = here (first == sender) refl is
    next (inr linked) = inr (links_still hart (Marker first) sender linked)
