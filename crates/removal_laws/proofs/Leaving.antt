-- a request is served: what is left of each hart, of its messages and of its bits
use Rattle.std.proofs.Common.{◌≡◌, ◌≢◌, ◌∙◌, ◌==◌, ℕ, Bool, true, false, List, [], length, is_some, refl, ap, sym, inl}
use Rattle.std.proofs.Common.{inr, ◌⊎◌, subst, if◌then◌else◌}
use Rattle.std.specs.Prelude.{nat_lt}
use Rattle.std.proofs.lemmas.Bool.{cases_eq, ltb-true, ltb-false}
use Rattle.bus_order.specs.Order.{Request}
use Rattle.residency.specs.Cache.{is_resident, touched, way_of}
use Rattle.defer_list.specs.HartSet.{excluded, has}
use Rattle.defer_list.proofs.Laws.LookUps.{has_excluded_other, has_excluded_own}
use Rattle.el_model.specs.Serve.{bystander, others_have, own_copy, served, served_hart, serving, with_claim}
use Rattle.el_model.specs.State.{Hart, ModelState, cache_of, hart_of, new_hart}
use Rattle.el_model.proofs.Laws.Harts.{hart_of-each_hart, hart_of-each_hart_past, hart_of-past}
use Rattle.mail.specs.Mailbox.{Marker, Message, Probe, has_message, without_markers, without_probe}
use Rattle.mail.proofs.Laws.LookUps.{has_without_markers_marker, has_without_markers_probe, has_without_probe_other}
use Rattle.mail.proofs.Laws.LookUps.{has_without_probe_own}
use Rattle.removal_laws.specs.Facts.{IsLinked, Knows}
use Rattle.section_laws.proofs.Laws.Bits.{Fewer, NoMore, no_more_marked, no_more_others, no_more_own, no_more_touched}
use Rattle.section_laws.proofs.Laws.Bits.{no_more_twice}
use Rattle.el_base.proofs.Laws.Cases.{clash}
use Rattle.el_base.proofs.Laws.Tests.{number_of_test, other_test, own_test}

-- as the request of a hart h on a line is served: h has no links any more and nobody knows of it, and the rest stays
pub record Left (h line g : ℕ) (old new : Hart) : Type 0 where
  pub links : (before : ℕ) → g ≢ h → IsLinked old before → IsLinked new before
  pub linked : (before : ℕ) → IsLinked new before → (g ≢ h) × IsLinked old before
  pub knows : (origin : ℕ) → origin ≢ h → Knows old origin → Knows new origin
  pub known : (origin : ℕ) → Knows new origin → (origin ≢ h) × Knows old origin
  pub upstream : (before : ℕ) → has new.upstream before ≡ true → (g ≢ h) × (has old.upstream before ≡ true)
  pub told : (origin : ℕ) → has new.told origin ≡ true → (origin ≢ h) × (has old.told origin ≡ true)
  pub raised : new.raised ≡ old.raised
  pub attempt : new.attempt ≡ old.attempt
  pub seen : new.seen ≡ old.seen
  pub fewer : (l : ℕ) → (g ≢ h) ⊎ (l ≢ line) → Fewer l old new

-- what stays of a mailbox and of a set
probe_kept : (mail : List Message) (h origin : ℕ) → origin ≢ h →
    has_message (without_probe mail h) (Probe origin) ≡ has_message mail (Probe origin)
probe_kept mail h origin apart =
    has_without_probe_other mail h (Probe origin) (other_test h origin (λ same. apart (sym same)))

probe_was : (mail : List Message) (h origin : ℕ) → has_message (without_probe mail h) (Probe origin) ≡ true →
    (origin ≢ h) × (has_message mail (Probe origin) ≡ true)
probe_was mail h origin is = by (cases_eq origin h)
  where
    by : (origin ≡ h) ⊎ (origin ≡ h → ⊥) → (origin ≢ h) × (has_message mail (Probe origin) ≡ true)
    by (inl same) =
        clash (has_without_probe_own mail h) (subst (λ o. has_message (without_probe mail h) (Probe o) ≡ true) same is)
    by (inr apart) = (apart, sym (probe_kept mail h origin apart) ∙ is)

marker_same : (mail : List Message) (h before : ℕ) →
    has_message (without_probe mail h) (Marker before) ≡ has_message mail (Marker before)
marker_same mail h before = has_without_probe_other mail h (Marker before) refl

told_was : (told : List ℕ) (h origin : ℕ) → has (excluded told h) origin ≡ true →
    (origin ≢ h) × (has told origin ≡ true)
told_was told h origin is = by (cases_eq origin h)
  where
    by : (origin ≡ h) ⊎ (origin ≡ h → ⊥) → (origin ≢ h) × (has told origin ≡ true)
    by (inl same) = clash (has_excluded_own told h) (subst (λ o. has (excluded told h) o ≡ true) same is)
    by (inr apart) = (apart, sym (has_excluded_other told h origin (λ same. apart (sym same))) ∙ is)

told_kept : (told : List ℕ) (h origin : ℕ) → origin ≢ h → has told origin ≡ true → has (excluded told h) origin ≡ true
told_kept told h origin apart is = has_excluded_other told h origin (λ same. apart (sym same)) ∙ is

-- another hart
bystander_left : (state : ModelState) (request : Request) (g : ℕ) → g ≢ request.hart →
    Left request.hart request.line g (hart_of state g) (bystander state request (hart_of state g))
bystander_left state request g apart = record {
  links = λ before other is. links before is;
  linked = λ before is. (apart, linked before is);
  knows = λ origin other is. knows origin other is;
  known = λ origin is. known origin is;
  upstream = λ before is. (apart, is);
  told = λ origin is. told_was (hart_of state g).told request.hart origin is;
  raised = refl;
  attempt = refl;
  seen = refl;
  fewer = λ l where_it. record {
    live = λ live. live;
    bits =
        λ live. no_more_others (is_resident (cache_of state request.hart) request.line) request.need
        (cache_of state g) request.line l;
  };
}
  where
    hart : Hart
    hart = hart_of state g

    links : (before : ℕ) → IsLinked hart before → IsLinked (bystander state request hart) before
    links before (inl sent) = inl (marker_same hart.mail request.hart before ∙ sent)
    links before (inr is) = inr is

    linked : (before : ℕ) → IsLinked (bystander state request hart) before → IsLinked hart before
    linked before (inl sent) = inl (sym (marker_same hart.mail request.hart before) ∙ sent)
    linked before (inr is) = inr is

    knows : (origin : ℕ) → origin ≢ request.hart → Knows hart origin → Knows (bystander state request hart) origin
    knows origin other (inl sent) = inl (probe_kept hart.mail request.hart origin other ∙ sent)
    knows origin other (inr is) = inr (told_kept hart.told request.hart origin other is)

    of_mail : (origin : ℕ) → (origin ≢ request.hart) × (has_message hart.mail (Probe origin) ≡ true) →
        (origin ≢ request.hart) × Knows hart origin
    of_mail origin (other, sent) = (other, inl sent)

    of_told : (origin : ℕ) → (origin ≢ request.hart) × (has hart.told origin ≡ true) →
        (origin ≢ request.hart) × Knows hart origin
    of_told origin (other, is) = (other, inr is)

    known : (origin : ℕ) → Knows (bystander state request hart) origin → (origin ≢ request.hart) × Knows hart origin
    known origin (inl sent) = of_mail origin (probe_was hart.mail request.hart origin sent)
    known origin (inr is) = of_told origin (told_was hart.told request.hart origin is)

-- the hart of the request, as it is after it has its line, with or without a bit there
record Freed (h line g : ℕ) (old new : Hart) : Type 0 where
  mail : new.mail ≡ without_markers (without_probe old.mail h)
  told_is : new.told ≡ excluded old.told h
  upstream_is : new.upstream ≡ []
  raised_is : new.raised ≡ old.raised
  attempt_is : new.attempt ≡ old.attempt
  seen_is : new.seen ≡ old.seen
  fewer_on : (l : ℕ) → l ≢ line → Fewer l old new

freed_left : (h line : ℕ) (old new : Hart) → Freed h line h old new → Left h line h old new
freed_left h line old new freed = record {
  links = λ before apart is. absurd (apart refl);
  linked = λ before is. unlinked before is;
  knows = λ origin other is. knows origin other is;
  known = λ origin is. known origin is;
  upstream = λ before is. none_up before (subst (λ harts. has harts before ≡ true) freed.upstream_is is);
  told = λ origin is. told_was old.told h origin (subst (λ harts. has harts origin ≡ true) freed.told_is is);
  raised = freed.raised_is;
  attempt = freed.attempt_is;
  seen = freed.seen_is;
  fewer = λ l where_it. by_line l where_it;
}
  where
    none_up : {X : Type 0} (before : ℕ) → has [] before ≡ true → X
    none_up before is = absurd (cc)

    unlinked : {X : Type 0} (before : ℕ) → IsLinked new before → X
    unlinked before (inl sent) =
        clash (has_without_markers_marker (without_probe old.mail h) before)
        (subst (λ box. has_message box (Marker before) ≡ true) freed.mail sent)
    unlinked before (inr is) = none_up before (subst (λ harts. has harts before ≡ true) freed.upstream_is is)

    knows : (origin : ℕ) → origin ≢ h → Knows old origin → Knows new origin
    knows origin other (inl sent) =
        inl (ap (λ box. has_message box (Probe origin)) freed.mail
        ∙ has_without_markers_probe (without_probe old.mail h) origin
        ∙ probe_kept old.mail h origin other ∙ sent)
    knows origin other (inr is) =
        inr (ap (λ harts. has harts origin) freed.told_is ∙ told_kept old.told h origin other is)

    of_mail : (origin : ℕ) → (origin ≢ h) × (has_message old.mail (Probe origin) ≡ true) →
        (origin ≢ h) × Knows old origin
    of_mail origin (other, sent) = (other, inl sent)

    of_told : (origin : ℕ) → (origin ≢ h) × (has old.told origin ≡ true) → (origin ≢ h) × Knows old origin
    of_told origin (other, is) = (other, inr is)

    known : (origin : ℕ) → Knows new origin → (origin ≢ h) × Knows old origin
    known origin (inl sent) =
        of_mail origin
        (probe_was old.mail h origin
        (sym (has_without_markers_probe (without_probe old.mail h) origin)
        ∙ ap (λ box. has_message box (Probe origin)) (sym freed.mail) ∙ sent))
    known origin (inr is) =
        of_told origin (told_was old.told h origin (subst (λ harts. has harts origin ≡ true) freed.told_is is))

    by_line : (l : ℕ) → (h ≢ h) ⊎ (l ≢ line) → Fewer l old new
    by_line l (inl apart) = absurd (apart refl)
    by_line l (inr other) = freed.fewer_on l other

claim_left : (state : ModelState) (request : Request) (live : Bool) →
    is_some (hart_of state request.hart).section ≡ live → (core : Hart) →
    core.section ≡ (hart_of state request.hart).section →
    core.mail ≡ without_markers (without_probe (hart_of state request.hart).mail request.hart) →
    core.told ≡ excluded (hart_of state request.hart).told request.hart → core.upstream ≡ [] →
    core.raised ≡ (hart_of state request.hart).raised → core.attempt ≡ (hart_of state request.hart).attempt →
    core.seen ≡ (hart_of state request.hart).seen →
    ((l : ℕ) → NoMore (way_of (cache_of state request.hart) l) (way_of core.cache l)) →
    Freed request.hart request.line request.hart (hart_of state request.hart) (with_claim live request core)
claim_left state request true is core section mail told upstream raised attempt seen bits = record {
  mail = mail;
  told_is = told;
  upstream_is = upstream;
  raised_is = raised;
  attempt_is = attempt;
  seen_is = seen;
  fewer_on = λ l other. record {
    live = λ live. is;
    bits =
        λ live. no_more_twice _ (way_of core.cache l) _ (bits l)
        (no_more_marked core.cache request.line l request.need other);
  };
}
claim_left state request false is core section mail told upstream raised attempt seen bits = record {
  mail = mail;
  told_is = told;
  upstream_is = upstream;
  raised_is = raised;
  attempt_is = attempt;
  seen_is = seen;
  fewer_on = λ l other. record {
    live = λ live. ap is_some (sym section) ∙ live;
    bits = λ live. bits l;
  };
}

own_left : (state : ModelState) (request : Request) →
    Left request.hart request.line request.hart (hart_of state request.hart)
    (served_hart state request (hart_of state request.hart))
own_left state request =
    let hart = hart_of state request.hart in
    let others = others_have state request.hart request.line in
    freed_left request.hart request.line hart (served_hart state request hart)
    (claim_left state request (is_some hart.section) refl
    (record hart {
      cache = touched (own_copy state.config.ways others request.need hart.cache request.line) request.line;
      mail = without_markers (without_probe hart.mail request.hart);
      told = excluded hart.told request.hart;
      upstream = [];
    }) refl refl refl refl refl refl refl
    (λ l.
    no_more_twice _ (way_of (own_copy state.config.ways others request.need hart.cache request.line) l) _
    (no_more_own state.config.ways others request.need hart.cache request.line l)
    (no_more_touched (own_copy state.config.ways others request.need hart.cache request.line) request.line l)))

-- a hart past the last one has nothing
absent_left : (h line g : ℕ) → Left h line g (new_hart 0) (new_hart 0)
absent_left h line g = record {
  links = λ before apart is. is;
  linked = λ before is. unlinked before is;
  knows = λ origin apart is. is;
  known = λ origin is. unknown origin is;
  upstream = λ before is. absurd (cc);
  told = λ origin is. absurd (cc);
  raised = refl;
  attempt = refl;
  seen = refl;
  fewer = λ l where_it. record { live = λ live. live; bits = λ live. clash refl live };
}
  where
    unlinked : {X : Type 0} (before : ℕ) → IsLinked (new_hart 0) before → X
    unlinked before (inl sent) = absurd (cc)
    unlinked before (inr is) = absurd (cc)

    unknown : {X : Type 0} (origin : ℕ) → Knows (new_hart 0) origin → X
    unknown origin (inl sent) = absurd (cc)
    unknown origin (inr is) = absurd (cc)

pub served_left : (state : ModelState) (request : Request) (g : ℕ) →
    Left request.hart request.line g (hart_of state g) (hart_of (served state request) g)
unfolding served
served_left state request g = by (nat_lt g (length state.harts)) refl
  where
    at : (own : Bool) → (g == request.hart) ≡ own →
        Left request.hart request.line g (hart_of state g)
        (if own then served_hart state request (hart_of state g) else bystander state request (hart_of state g))
    at true is =
        subst (λ k. Left request.hart request.line k (hart_of state k) (served_hart state request (hart_of state k)))
        (sym (number_of_test g request.hart is)) (own_left state request)
    at false is =
        bystander_left state request g (λ same. clash is (ap (λ k. k == request.hart) same ∙ own_test request.hart))

    by : (below : Bool) → nat_lt g (length state.harts) ≡ below →
        Left request.hart request.line g (hart_of state g) (hart_of (served state request) g)
    by true below =
        subst (Left request.hart request.line g (hart_of state g))
        (sym (hart_of-each_hart state (serving state request) g (ltb-true g (length state.harts) below)))
        (at (g == request.hart) refl)
    by false past =
        let beyond = ltb-false g (length state.harts) past in
        subst (λ old. Left request.hart request.line g old (hart_of (served state request) g))
        (sym (hart_of-past state g beyond))
        (subst (Left request.hart request.line g (new_hart 0))
        (sym (hart_of-each_hart_past state (serving state request) g beyond))
        (absent_left request.hart request.line g))
