-- A replay of the trace that a run wrote says what the run said.
use Rattle.std.proofs.Common.{◌≡◌, ◌≢◌, ℕ, ◌+◌, ◌*◌, ◌/◌, ◌<◌, ◌≤◌, ◌-◌, false, nat_lt, List, [], ◌++◌, length, get_or}
use Rattle.std.proofs.Common.{Option, None, Some, refl, ap}
use Rattle.std.proofs.Common.{sym, subst, ◌∙◌, inl, inr, arith}
use Rattle.std.specs.Prelude.{All, Bool, true, not, if◌then◌else◌, slice_get}
use Rattle.std.proofs.lemmas.List.Elements.{All-append}
use Rattle.std.specs.Option.{option_map, option_map_or, option_or}
use Rattle.std.proofs.lemmas.List.{length-append, length-map}
use Rattle.std.proofs.lemmas.Option.{slice_get-get_or}
use Rattle.std.proofs.Math.Nat.{mod-lt}
use Rattle.std.proofs.lemmas.Bool.Decides.{nat_tests}
use Rattle.chronicle.specs.Chronicle.{events}
use Rattle.command_line.specs.Settings.{config_of}
use Rattle.command_line.specs.Words.{ReplayJob, RunJob}
use Rattle.el_base.proofs.Laws.Options.{or_none}
use Rattle.el_base.proofs.Laws.Recordable.{all_still_recordable}
use Rattle.el_base.proofs.Laws.Ranges.{ranges, at_least, at_most}
use Rattle.el_base.specs.Config.{IsInRange}
use Rattle.el_base.specs.Recordable.{IsRecordable}
use Rattle.el_base.specs.declared.events.Event.{Event}
use Rattle.el_base.specs.declared.outcomes.Outcome.{Outcome}
use Rattle.el_base.specs.declared.config.Config.{Config}
use Rattle.drive.specs.RoundRobin.{IsRoundRobin, IsEventAt}
use Rattle.el_model.specs.Next.{entries_from}
use Rattle.el_model.proofs.Laws.Folds.{events-entries_from, length-entries_from, outcomes-entries_from}
use Rattle.el_model.specs.State.{ModelState, begin}
use Rattle.elf_image.specs.Limits.{file_limit}
use Rattle.elf_image.specs.Loaded.{program_of}
use Rattle.elf_image.specs.Program.{Program}
use Rattle.elf_image.proofs.Laws.Loading.{loaded_harts}
use Rattle.drive.proofs.Laws.Continued.{continued_twice, left_of_continued, nothing_more}
use Rattle.drive.proofs.Laws.Recording.{outcomes_can_be_recorded}
use Rattle.drive.specs.Story.{Story, committed, continued, left_of, state_of}
use Rattle.trace_file.specs.Faults.{config_at, trace_fault}
use Rattle.trace_file.specs.Outcomes.{most_committed}
use Rattle.trace_file.specs.Spelling.{AreRecorded, IsTrace, outcomes, spelling}
use Rattle.trace_file.proofs.Laws.Spelled.{no_fault, one_spelling}
use Rattle.report.specs.Text.{report_of}
use Rattle.tool.specs.declared.refusal.Refusal.{Refusal}
use Rattle.tool.specs.declared.status.Status.TheVariants.{Differs, Done, HartFailed, StepLimit}
use Rattle.tool.specs.Ending.{all_succeeded, ending}
use Rattle.el_model.specs.Next.{is_over}
use Rattle.tool.specs.Answer.{Answer, Besides, WrittenFile, certified_by, ended, files_of, times_if, where_named}
use Rattle.tool.specs.Answer.{written_by}
use Rattle.tool.specs.Jobs.{DriversMade, FollowAnswer, IsReplayed, MakesRun, RanAnswer, ReplayAnswer, RunAnswer}
use Rattle.tool.specs.Jobs.{UnlessRefused, besides_replay}
use Rattle.tool.specs.Jobs.{besides_run, first_story}
use Rattle.tool.specs.Laws.{SaysTheSame}
use Rattle.tool.proofs.Files.{spelled_harts}
use Rattle.tool.proofs.TraceLengths.{length-spelling}
use Rattle.tool.specs.Refusals.{config_refusal, image_refusal, replay_refusal, run_refusal, size_refusal, trace_limit}
use Rattle.tool.specs.Refusals.{trace_refusal}

-- The events of a run

-- each event of a round robin is of a hart that there is
harts-made : (state : ModelState) (harts left : ℕ) (made : List Event) → 1 ≤ harts →
    IsRoundRobin state harts left made → All (λ event. event.hart.number < harts) made
harts-made state harts left made some round = λ k d within.
    let turn : IsEventAt harts k (get_or made k d) =
    round.turns k (get_or made k d) (slice_get-get_or made k d within) in
    rw turn.hart (mod-lt (k / 4) some)

-- What a run that wrote a file had

-- neither is there where the first of both is not
map_none : {A B : Type 0} (f : A → B) (one : Option A) → option_map f one ≡ None → one ≡ None
map_none f None none = refl
map_none f (Some found) none = absurd cc

-- no refusal writes a file
not-refused : (found : Option Refusal) (Answers : Answer → Type 0) (answer : Answer) (file : WrittenFile) →
    slice_get answer.written 0 ≡ Some file → UnlessRefused found Answers answer → (found ≡ None) × Answers answer
not-refused None Answers answer file written is = (refl, is)
not-refused (Some refusal) Answers answer file written is =
    let none : None ≡ Some file = sym (ap (λ (one : Answer). slice_get one.written 0) is) ∙ written in
    absurd cc

-- the first file that a run with a trace writes spells its story
written-story : (besides : Besides) (name : List ℕ) (story : Story) (file : WrittenFile) → besides.trace ≡ Some name →
    slice_get (files_of besides story) 0 ≡ Some file →
    file.bytes ≡ spelling story.config (events story.entries) (Some (outcomes story.entries))
written-story besides name story file named written =
    let first : Some (written_by story name) ≡ Some file =
    sym
    (ap (λ (trace : Option (List ℕ)).
    slice_get (where_named (written_by story) trace ++ where_named (certified_by story) besides.cert) 0) named)
    ∙ written in
    ap (λ (one : Option WrittenFile). option_map_or (λ (given : WrittenFile). given.bytes) one []) (sym first)

-- what drivers have made of a program before its first event
record Drove (config : Config) (before driven : Story) : Type 0 where
  made : List Event
  story : driven ≡ continued before made
  steps : length made ≤ left_of before
  harts : All (λ event. event.hart.number < config.harts) made

drove : (threads : Option ℕ) (before driven : Story) → DriversMade threads before driven →
    Drove before.config before driven
drove None before driven same = record {
  made = [];
  story = same ∙ sym (nothing_more before);
  steps = omega arith;
  harts = λ k d within. absurd (omega (arith, within));
}
drove (Some turns) before driven drivers = record {
  made = drivers.made;
  story = drivers.by_turns.story;
  steps = drivers.steps;
  harts = drivers.by_turns.exist;
}

-- the story of these events of the program in an image
abbrev story_of : List ℕ → Config → List Event → Story
story_of image config made = continued (first_story (program_of image config.harts) config) made

-- a run under a configuration of these events of a program, and a file that spells them with what came of each
record Ran (job : RunJob) (image bytes : List ℕ) (ran : Answer) : Type 0 where
  config : Config
  made : List Event
  is_trace : IsTrace config made (Some (outcomes (story_of image config made).entries))
  spelled : bytes ≡ spelling config made (Some (outcomes (story_of image config made).entries))
  small : size_refusal file_limit image ≡ None
  accepted : image_refusal image config.harts ≡ None
  exact : ran ≡ ended (besides_run job) (story_of image config made)

-- what came of the events of a program can be recorded
recorded : (program : Program) (config : Config) (made : List Event) → program.harts ≡ config.harts → IsInRange config →
    AreRecorded config.harts made (Some (outcomes (entries_from (begin program config) made)))
recorded program config made same in_range =
    let first : ModelState = begin program config in
    let inside = ranges config in_range in
    let long : config.long ≤ most_committed = at_most 2 65536 config.long inside.long in
    let found = sym (outcomes-entries_from first made) in (
      length-map (entries_from first made) (λ entry. entry.outcome) ∙ length-entries_from first made,
      all_still_recordable config.harts config.long most_committed (outcomes (entries_from first made)) long
          (subst (All (IsRecordable config.harts config.long)) found
          (outcomes_can_be_recorded program config made same in_range)),
    )

-- all the events of a run
record Made (config : Config) (before later : Story) : Type 0 where
  made : List Event
  story : later ≡ continued before made
  steps : length made ≤ left_of before
  harts : All (λ event. event.hart.number < config.harts) made

all-made : (threads : Option ℕ) (before later : Story) → 1 ≤ before.config.harts → MakesRun threads before later →
    Made before.config before later
all-made threads before later some run =
    let first : Drove before.config before run.driven = drove threads before run.driven run.drivers in
    let rest = run.round_robin in
    let config : run.driven.config ≡ before.config = ap (λ (story : Story). story.config) first.story in
    let left : left_of run.driven ≡ left_of before - length first.made =
    ap left_of first.story ∙ left_of_continued before first.made in
    let few : length rest.made ≤ left_of run.driven = rest.round_robin.steps in
    let first_few : length first.made ≤ left_of before = first.steps in
    let others : All (λ event. event.hart.number < before.config.harts) rest.made =
    harts-made (state_of run.driven) before.config.harts _ rest.made some
    (subst (λ (settings : Config). IsRoundRobin (state_of run.driven) settings.harts (left_of run.driven) rest.made)
    config
    rest.round_robin) in
    record {
      made = first.made ++ rest.made;
      story =
          rest.story ∙ ap (λ (story : Story). continued story rest.made) first.story
          ∙ continued_twice before first.made rest.made;
      steps = omega (arith, length-append first.made rest.made, left, few, first_few);
      harts =
          All-append (λ (event : Event). event.hart.number < before.config.harts) first.made rest.made
          first.harts others;
    }

run-ran : (job : RunJob) (image name bytes : List ℕ) (ran : Answer) → job.trace ≡ Some name → RunAnswer job image ran →
    slice_get ran.written 0 ≡ Some (record { name = name; bytes = bytes }) → Ran job image bytes ran
run-ran job image name bytes ran named answers written =
    let config : Config = config_of job in
    let p : Program = program_of image config.harts in
    let file : WrittenFile = record { name = name; bytes = bytes } in
    let done = not-refused (run_refusal job image) (RanAnswer job p config) ran file written answers in
    let configured =
    or_none (config_refusal config)
    (option_or (size_refusal file_limit image) (option_or (image_refusal image config.harts) None)) done.0 in
    let sized =
    or_none (size_refusal file_limit image) (option_or (image_refusal image config.harts) None) configured.1 in
    let accepted = or_none (image_refusal image config.harts) None sized.1 in
    let in_range = map_none _ _ configured.0 in
    let inside = ranges config in_range in
    let begins : Story = first_story p config in
    let all : Made config begins done.1.later =
    all-made job.threads begins done.1.later (at_least 1 8 config.harts inside.harts) done.1.run in
    let story : Story = continued begins all.made in
    let exact : ran ≡ ended (besides_run job) story = done.1.exact ∙ ap (ended (besides_run job)) all.story in
    let as_written : slice_get (files_of (besides_run job) story) 0 ≡ Some file =
    sym (ap (λ (one : Answer). slice_get one.written 0) exact) ∙ written in
    let steps : length all.made ≤ left_of begins = all.steps in
    let few : length all.made ≤ config.steps = omega (arith, steps) in
    record {
      config = config;
      made = all.made;
      is_trace = record {
        in_range = in_range;
        few = few;
        harts = all.harts;
        told = recorded p config all.made (loaded_harts image config.harts) in_range;
      };
      spelled =
          written-story (besides_run job) name story file named as_written
          ∙ ap (λ events. spelling config events (Some (outcomes story.entries)))
          (events-entries_from (state_of begins) all.made);
      small = sized.0;
      accepted = accepted.0;
      exact = exact;
    }

-- What a replay of it has

-- the file that a run wrote is within its limit
trace-fits : (config : Config) (made : List Event) (recorded : Option (List Outcome)) (file : List ℕ) →
    IsTrace config made recorded → file ≡ spelling config made recorded → size_refusal trace_limit file ≡ None
trace-fits config made recorded file trace spelled =
    let inside = ranges config trace.in_range in
    let long : length file ≤ 22 + 10 * length made =
    subst (λ (bytes : List ℕ). length bytes ≤ 22 + 10 * length made) (sym spelled)
    (length-spelling config made recorded) in
    let steps : config.steps ≤ 16777216 = at_most 1 16777216 config.steps inside.steps in
    let within : length file ≤ trace_limit = omega (arith, trace.few) in
    let fits : nat_lt trace_limit (length file) ≡ false = grind (arith, nat_tests) in
    rw fits refl

-- no refusal stands where none of the list does
replay-accepted : (image trace : List ℕ) (harts : ℕ) → size_refusal file_limit image ≡ None →
    size_refusal trace_limit trace ≡ None → trace_refusal trace ≡ None
    → (config_at trace).harts ≡ harts → image_refusal image harts ≡ None → replay_refusal image trace ≡ None
replay-accepted image trace harts a b c e d = rw (a, b, c, e, d) refl

-- a replay of these events, of which these outcomes are recorded
same-trace : (besides : Besides) (image : List ℕ) (config other : Config) (made others : List Event)
    (found theirs : Option (List Outcome)) (answer : Answer) → config ≡ other → made ≡ others → found ≡ theirs →
    IsReplayed besides theirs (story_of image other others) answer →
    IsReplayed besides found (story_of image config made) answer
same-trace besides image config other made others found theirs answer c m r exact = rw (c, m, r) exact

-- where the outcomes that came are those that are recorded, none differs
as-recorded : (besides : Besides) (story : Story) (answer : Answer) →
    IsReplayed besides (Some (outcomes story.entries)) story answer → answer ≡ ended besides story
as-recorded besides story answer (inl came) = came.1
as-recorded besides story answer (inr (difference, differs, is)) = absurd (differs.first.here refl)

-- a run that has ended does not end as one that differs
ends-otherwise : (story : Story) → ending story ≢ Differs
ends-otherwise story = by (not (is_over (state_of story))) (all_succeeded (committed story).harts)
  where
    by : (runs succeeded : Bool) → (if runs then StepLimit else if succeeded then Done else HartFailed) ≢ Differs
    by true succeeded is = absurd cc
    by false true is = absurd cc
    by false false is = absurd cc

-- so a replay of the trace that a run wrote says what the run said
pub repeats : (job : RunJob) (again : ReplayJob) (image name bytes : List ℕ) (ran other : Answer) →
    job.trace ≡ Some name → again.times ≡ job.times → RunAnswer job image ran →
    slice_get ran.written 0 ≡ Some (record { name = name; bytes = bytes }) →
    ReplayAnswer (besides_replay again) image bytes other → SaysTheSame ran other × (other.status ≢ Differs)
repeats job again image name bytes ran other named times answers written replay =
    let r : Ran job image bytes ran = run-ran job image name bytes ran named answers written in
    let story : Story = story_of image r.config r.made in
    let found : Option (List Outcome) = Some (outcomes story.entries) in
    let besides : Besides = besides_replay again in
    let none : replay_refusal image bytes ≡ None =
    replay-accepted image bytes r.config.harts r.small (trace-fits r.config r.made found bytes r.is_trace r.spelled)
    (ap (option_map _) (ap trace_fault r.spelled ∙ no_fault r.config r.made found r.is_trace))
    (spelled_harts bytes r.config r.made found r.spelled) r.accepted in
    let P : Option Refusal → Type 0 = λ refusal. UnlessRefused refusal (FollowAnswer besides image bytes) other in
    let followed : FollowAnswer besides image bytes other = subst P none replay in
    let same =
    one_spelling r.config followed.config r.made followed.made found followed.recorded r.is_trace followed.is_trace
    (sym r.spelled ∙ followed.spelled) in
    let played : other ≡ ended besides story =
    as-recorded besides story other
    (same-trace besides image r.config followed.config r.made followed.made found followed.recorded other
    same.0 same.1 same.2 followed.exact) in
    let ends : other.status ≡ ending story = ap (λ (answer : Answer). answer.status) played in (
      record {
        status = ap (λ (answer : Answer). answer.status) r.exact ∙ sym ends;
        out = ap (λ (answer : Answer). answer.out) r.exact ∙ sym (ap (λ (answer : Answer). answer.out) played);
        err =
            ap (λ (answer : Answer). answer.err) r.exact
            ∙ ap (λ (told : Bool). report_of story ++ times_if told story) (sym times)
            ∙ sym (ap (λ (answer : Answer). answer.err) played);
      },
      λ differs. ends-otherwise story (sym ends ∙ differs),
    )
