-- mailboxes and sets of other harts, after each change
use Rattle.std.proofs.Common.{◌≡◌, ◌∙◌, ℕ, zero, suc, ◌+◌, ◌<◌, ◌≤◌, ◌==◌, Bool, true, false, cond, List, [], ◌∷◌}
use Rattle.std.proofs.Common.{length, refl, ap, sym, subst, inl, inr}
use Rattle.std.proofs.Common.{◌⊎◌, arith}
use Rattle.std.specs.List.{count_by}
use Rattle.std.proofs.lemmas.Bool.{cases_eq}
use Rattle.std.proofs.lemmas.List.Sums.{sum_by-cons}
use Rattle.residency.proofs.Laws.MarkLemmas.{one_if}
use Rattle.defer_list.specs.HartSet as sets
use Rattle.defer_list.specs.HartSet.{excluded, has, included}
use Rattle.defer_list.proofs.Laws.LookUps.{has_excluded_other, has_excluded_own, has_included_other}
use Rattle.defer_list.proofs.Laws.OnceEach.{once_each_cons, once_each_excluded, once_each_included}
use Rattle.el_model.proofs.Laws.Tests.{by_test}
use Rattle.mail.specs.Mailbox.{Marker, Message, Probe, has_message, posted, same_message, without_markers}
use Rattle.mail.specs.Mailbox.{without_probe}
use Rattle.mail.proofs.Laws.LookUps.{has_posted_other}
use Rattle.mail.proofs.Laws.OnceEach.{count_of, count_of_cons, once_each_none, once_each_posted}
use Rattle.mail.proofs.Laws.OnceEach.{once_each_without_oldest, same_is_one}
use Rattle.mail.proofs.Laws.OnceEach.{first_there}
use Rattle.section_laws.proofs.Laws.Mailboxes.{later_there}
use Rattle.section_laws.specs.Messages.{IsMailbox, IsOther, IsSetOfOthers, named, origins, senders}
use Rattle.el_base.proofs.Laws.Cases.{false_true}
use Rattle.el_base.proofs.Laws.Tests.{number_of_test, own_test}

-- a mailbox without messages, and a set without harts
pub no_mail : (count h : ℕ) → IsMailbox count h []
no_mail count h = record { once = once_each_none; others = λ message is. absurd (cc) }

pub no_others : (count h : ℕ) → IsSetOfOthers count h []
no_others count h = record { once = λ hart. omega arith; others = λ other is. absurd (cc) }

-- a message that names another hart is posted
pub mailbox_posted : (count h : ℕ) (box : List Message) (new : Message) → IsOther count h (named new) →
    IsMailbox count h box → IsMailbox count h (posted box new)
mailbox_posted count h box new other now = record {
  once = once_each_posted box new now.once;
  others = λ message is. by message is (same_message new message) refl;
}
  where
    by : (message : Message) → has_message (posted box new) message ≡ true → (same : Bool) →
        same_message new message ≡ same → IsOther count h (named message)
    by message is true same = subst (λ m. IsOther count h (named m)) (same_is_one new message same) other
    by message is false differs = now.others message (sym (has_posted_other box new message differs) ∙ is)

-- and so are several
abbrev pub NameOthers : ℕ → ℕ → List Message → Type 0
NameOthers count h [] = Unit {0}
NameOthers count h (message ∷ messages) = IsOther count h (named message) × NameOthers count h messages

-- the oldest message is taken
pub oldest_other : (count h : ℕ) (first : Message) (box : List Message) → IsMailbox count h (first ∷ box) →
    IsOther count h (named first)
oldest_other count h first box now = now.others first (first_there first box)

pub mailbox_taken : (count h : ℕ) (first : Message) (box : List Message) → IsMailbox count h (first ∷ box) →
    IsMailbox count h box
mailbox_taken count h first box now = record {
  once = once_each_without_oldest (first ∷ box) now.once;
  others = λ message is. now.others message (later_there first box message is);
}

-- some of the messages are taken out
record IsPart (new old : List Message) : Type 0 where
  counts : (message : Message) → count_of new message ≤ count_of old message
  there : (message : Message) → has_message new message ≡ true → has_message old message ≡ true

part_none : IsPart [] []
part_none = record { counts = λ message. omega arith; there = λ message is. is }

part_kept : (first : Message) (new old : List Message) → IsPart new old → IsPart (first ∷ new) (first ∷ old)
part_kept first new old part = record {
  counts = λ message. let rest = part.counts message in
      omega (arith, rest, count_of_cons first new message, count_of_cons first old message);
  there = λ message is. by message (same_message first message) is;
}
  where
    by : (message : Message) (test : Bool) → cond test true (has_message new message) ≡ true →
        cond test true (has_message old message) ≡ true
    by message true is = refl
    by message false is = part.there message is

part_gone : (first : Message) (new old : List Message) → IsPart new old → IsPart new (first ∷ old)
part_gone first new old part = record {
  counts = λ message. let rest = part.counts message in omega (arith, rest, count_of_cons first old message);
  there = λ message is. later_there first old message (part.there message is);
}

part_twice : (one two three : List Message) → IsPart one two → IsPart two three → IsPart one three
part_twice one two three first second = record {
  counts = λ message. let a = first.counts message in let b = second.counts message in omega (arith, a, b);
  there = λ message is. second.there message (first.there message is);
}

part_without_probe : (box : List Message) (origin : ℕ) → IsPart (without_probe box origin) box
part_without_probe [] origin = part_none
part_without_probe (Marker sender ∷ box) origin = part_kept (Marker sender) _ box (part_without_probe box origin)
part_without_probe (Probe other ∷ box) origin =
    by_test (λ new. IsPart new (Probe other ∷ box)) (other == origin) (without_probe box origin)
    (Probe other ∷ without_probe box origin)
    (λ gone. part_gone (Probe other) _ box (part_without_probe box origin))
    (λ kept. part_kept (Probe other) _ box (part_without_probe box origin))

part_without_markers : (box : List Message) → IsPart (without_markers box) box
part_without_markers [] = part_none
part_without_markers (Marker sender ∷ box) = part_gone (Marker sender) _ box (part_without_markers box)
part_without_markers (Probe origin ∷ box) = part_kept (Probe origin) _ box (part_without_markers box)

mailbox_part : (count h : ℕ) (new old : List Message) → IsPart new old → IsMailbox count h old → IsMailbox count h new
mailbox_part count h new old part now = record {
  once = λ message. let less = part.counts message in let one = now.once message in omega (arith, less, one);
  others = λ message is. now.others message (part.there message is);
}

pub mailbox_without_probe : (count h : ℕ) (box : List Message) (origin : ℕ) → IsMailbox count h box →
    IsMailbox count h (without_probe box origin)
mailbox_without_probe count h box origin now =
    mailbox_part count h (without_probe box origin) box (part_without_probe box origin) now

pub mailbox_of_served : (count h : ℕ) (box : List Message) (origin : ℕ) → IsMailbox count h box →
    IsMailbox count h (without_markers (without_probe box origin))
mailbox_of_served count h box origin now =
    mailbox_part count h (without_markers (without_probe box origin)) box
    (part_twice _ (without_probe box origin) box (part_without_markers (without_probe box origin))
    (part_without_probe box origin)) now

-- a set with another hart more, and without one
pub others_included : (count h : ℕ) (harts : List ℕ) (new : ℕ) → IsOther count h new → IsSetOfOthers count h harts →
    IsSetOfOthers count h (included harts new)
others_included count h harts new other now = record {
  once = once_each_included harts new now.once;
  others = λ g is.
      elim (cases_eq g new) [
        | inl same ↦ subst (IsOther count h) (sym same) other
        | inr apart ↦ now.others g (sym (has_included_other harts new g (λ same. apart (sym same))) ∙ is)
      ];
}

pub others_excluded : (count h : ℕ) (harts : List ℕ) (gone : ℕ) → IsSetOfOthers count h harts →
    IsSetOfOthers count h (excluded harts gone)
others_excluded count h harts gone now = record {
  once = once_each_excluded harts gone now.once;
  others = λ g is.
      elim (cases_eq g gone) [
        | inl same ↦ false_true (sym (has_excluded_own harts gone) ∙ ap (has (excluded harts gone)) (sym same) ∙ is)
        | inr apart ↦ now.others g (sym (has_excluded_other harts gone g (λ same. apart (sym same))) ∙ is)
      ];
}

-- a set of harts that lists none twice is no longer than the harts are many
length_excluded : (harts : List ℕ) (gone : ℕ) →
    length harts ≡ length (excluded harts gone) + count_by (λ other. other == gone) harts
length_excluded [] gone = refl
length_excluded (first ∷ harts) gone =
    by (first == gone) refl (sum_by-cons (λ other. cond (other == gone) 1 0) first harts) (length_excluded harts gone)
  where
    by : (own : Bool) → (first == gone) ≡ own →
        count_by (λ other. other == gone) (first ∷ harts) ≡ cond (first == gone) 1 0 + count_by (λ other. other == gone)
        harts → length harts ≡ length (excluded harts gone) + count_by (λ other. other == gone) harts →
        suc (length harts) ≡ length (cond own (excluded harts gone) (first ∷ excluded harts gone))
        + count_by (λ other. other == gone) (first ∷ harts)
    by true is sum rest = let one = ap (λ test. one_if test) is in omega (arith, one, sum, rest)
    by false is sum rest = let none = ap (λ test. one_if test) is in omega (arith, none, sum, rest)

few_harts : (count : ℕ) (harts : List ℕ) → sets.IsOnceEach harts → ((k : ℕ) → has harts k ≡ true → k < count) →
    length harts ≤ count
few_harts zero [] once below = omega arith
few_harts zero (first ∷ harts) once below =
    let none = below first (ap (λ test. cond test true (has harts first)) (own_test first)) in
    absurd (omega (arith, none))
few_harts (suc count) harts once below =
    let rest =
    few_harts count (excluded harts count) (once_each_excluded harts count once)
    (λ k is. less k is (cases_eq k count)) in
    omega (arith, rest, length_excluded harts count, once count)
  where
    less : (k : ℕ) → has (excluded harts count) k ≡ true → (k ≡ count) ⊎ (k ≡ count → ⊥) → k < count
    less k is (inl same) =
        false_true (sym (has_excluded_own harts count) ∙ ap (has (excluded harts count)) (sym same) ∙ is)
    less k is (inr apart) =
        let most = below k (sym (has_excluded_other harts count k (λ same. apart (sym same))) ∙ is) in
        le_or k apart most
      where
        le_or : (k : ℕ) → (k ≡ count → ⊥) → k < suc count → k < count
        le_or k apart most = grind (arith, apart, most)

pub fewer_others : (count h : ℕ) (harts : List ℕ) → h < count → IsSetOfOthers count h harts → length harts < count
fewer_others count h harts exists now =
    let all =
    few_harts count (h ∷ harts) (once_each_cons harts h now.once (by (has harts h) refl))
    (λ k is. below k (h == k) refl is) in
    omega (arith, all)
  where
    by : (there : Bool) → has harts h ≡ there → has harts h ≡ false
    by true is = absurd ((now.others h is).apart refl)
    by false is = is

    below : (k : ℕ) (own : Bool) → (h == k) ≡ own → cond own true (has harts k) ≡ true → k < count
    below k true own is = subst (λ n. n < count) (number_of_test h k own) exists
    below k false own is = (now.others k is).exists

-- the senders of the markers in a mailbox, and the origins of the probes, are such sets
senders_counts : (box : List Message) (k : ℕ) → count_by (λ other. other == k) (senders box) ≤ count_of box (Marker k)
senders_counts [] k = omega arith
senders_counts (Marker sender ∷ box) k =
    omega (
      arith,
      senders_counts box k,
      sum_by-cons (λ other. cond (other == k) 1 0) sender (senders box),
      count_of_cons (Marker sender) box (Marker k),
    )
senders_counts (Probe origin ∷ box) k = omega (arith, senders_counts box k, count_of_cons (Probe origin) box (Marker k))

origins_counts : (box : List Message) (k : ℕ) → count_by (λ other. other == k) (origins box) ≤ count_of box (Probe k)
origins_counts [] k = omega arith
origins_counts (Probe origin ∷ box) k =
    omega (
      arith,
      origins_counts box k,
      sum_by-cons (λ other. cond (other == k) 1 0) origin (origins box),
      count_of_cons (Probe origin) box (Probe k),
    )
origins_counts (Marker sender ∷ box) k =
    omega (arith, origins_counts box k, count_of_cons (Marker sender) box (Probe k))

first_or : (test a b : Bool) → (a ≡ true → b ≡ true) → cond test true a ≡ true → cond test true b ≡ true
first_or true a b rest is = refl
first_or false a b rest is = rest is

senders_there : (box : List Message) (k : ℕ) → has (senders box) k ≡ true → has_message box (Marker k) ≡ true
senders_there [] k is = absurd (cc)
senders_there (Marker sender ∷ box) k is =
    first_or (sender == k) (has (senders box) k) (has_message box (Marker k)) (senders_there box k) is
senders_there (Probe origin ∷ box) k is = senders_there box k is

origins_there : (box : List Message) (k : ℕ) → has (origins box) k ≡ true → has_message box (Probe k) ≡ true
origins_there [] k is = absurd (cc)
origins_there (Probe origin ∷ box) k is =
    first_or (origin == k) (has (origins box) k) (has_message box (Probe k)) (origins_there box k) is
origins_there (Marker sender ∷ box) k is = origins_there box k is

pub senders_are_others : (count h : ℕ) (box : List Message) → IsMailbox count h box →
    IsSetOfOthers count h (senders box)
senders_are_others count h box now = record {
  once = λ k. let less = senders_counts box k in let one = now.once (Marker k) in omega (arith, less, one);
  others = λ k is. now.others (Marker k) (senders_there box k is);
}

pub origins_are_others : (count h : ℕ) (box : List Message) → IsMailbox count h box →
    IsSetOfOthers count h (origins box)
origins_are_others count h box now = record {
  once = λ k. let less = origins_counts box k in let one = now.once (Probe k) in omega (arith, less, one);
  others = λ k is. now.others (Probe k) (origins_there box k is);
}
