-- What was put and written of an answer.
use Rattle.std.proofs.Common.{◌≡◌, ℕ, List, [], ◌∷◌, ◌++◌, length, map, take, take_all, Bool, Option, None, Some}
use Rattle.std.proofs.Common.{Result, Ok, Err, true, refl, ap}
use Rattle.std.proofs.Common.{subst, sym, ◌∙◌, inl, inr, arith}
use Rattle.std.specs.Result.{OnErr}
use Rattle.std.proofs.lemmas.List.{map-append}
use Rattle.el_io.specs.Shelf.{Contents, NamedCall}
use Rattle.el_io.specs.Sink.{TookAll, TookPart}
use Rattle.el_io.specs.declared.shelf.Call.TheVariants.{Write}
use Rattle.chronicle.specs.Chronicle.{Chronicle}
use Rattle.el_base.specs.declared.config.Config.{Config}
use Rattle.drive.specs.Story.{Story, history_of}
use Rattle.el_io.proofs.Laws.{took_then_part}
use Rattle.report.specs.Text.{report_of}
use Rattle.report.specs.TimesText.{times_text}
use Rattle.timetable.specs.Table.{table_of}
use Rattle.timetable.specs.declared.hart_times.HartTimes.{HartTimes}
use Rattle.tool.specs.declared.stop.Fault.{Fault}
use Rattle.tool.specs.declared.stop.Fault.TheVariants.{Device, NoMemory}
use Rattle.tool.specs.Answer.{Answer, Besides, WrittenFile, certified_by, files_of, times_if, where_named, written_by}
use Rattle.tool.specs.Causes.{Caused, Failures, ListsOne, run_writes, writes_to}
use Rattle.tool.specs.Comes.{Comes, Told, TookSome}
use Rattle.tool.specs.Faults.{Faulted, Unwritten}
use Rattle.tool.specs.Statuses.{status_of_fault}
use Rattle.tool.specs.Telling.{Only}
use Rattle.tool.proofs.Writing.{tried, unwritten_lists, write_of}

-- the writes of the files of a run
writes_where_named : (written : List ℕ → WrittenFile) (name : Option (List ℕ)) →
    ((given : List ℕ) → (written given).name ≡ given) → map write_of (where_named written name) ≡ writes_to name
writes_where_named written None same = refl
writes_where_named written (Some given) same = ap (λ (one : List ℕ). (Write, one) ∷ []) (same given)

pub writes_named : (besides : Besides) (story : Story) → map write_of (files_of besides story) ≡ run_writes besides
writes_named besides story =
    map-append write_of (where_named (written_by story) besides.trace) (where_named (certified_by story) besides.cert)
    ∙ ap (λ (calls : List NamedCall). calls ++ map write_of (where_named (certified_by story) besides.cert))
    (writes_where_named (written_by story) besides.trace (λ given. refl))
    ∙ ap (λ (calls : List NamedCall). writes_to besides.trace ++ calls)
    (writes_where_named (certified_by story) besides.cert (λ given. refl))

-- all bytes are some of them
pub took_all : (before now : Option (List ℕ)) (bytes : List ℕ) → TookAll before now bytes → TookSome before now bytes
took_all before now bytes took =
    let whole : take (length bytes) bytes ≡ bytes = grind (arith, take_all) in
    record { count = length bytes; part = rw whole took }

-- files that were not all written leave an answer cut off behind its output
pub unwritten_comes : (had has : List NamedCall) (before now : Told) (answer : Answer) (fault : Fault) →
    TookAll before.out now.out answer.out → Unwritten answer.written had has before.files now.files fault →
    now.err ≡ before.err → Comes (Only answer) (status_of_fault fault) before now
unwritten_comes had has before now answer Device took failed same =
    inr (
      answer,
      refl,
      inr (inl (record {
        out = took;
        written = tried answer.written had has before.files now.files failed;
        err = same;
      })),
    )
unwritten_comes had has before now answer NoMemory took kept same =
    inr (answer, refl, inr (record { out = took; written = kept.1; err = same }))

-- a write that failed cuts an answer off at its file
pub unwritten_faults : (had has : Failures) (before now : Told) (answer : Answer) (fault : Fault) →
    TookAll before.out now.out answer.out → Unwritten answer.written had.shelf has.shelf before.files now.files fault →
    now.err ≡ before.err → has ≡ record had { shelf = has.shelf } →
    Faulted [] (Only answer) (status_of_fault fault) had has before now
unwritten_faults had has before now answer NoMemory took kept same others = tt
unwritten_faults had has before now answer Device took failed same others =
    inr (answer, refl, inr (inl (record { out = took; written = failed; failed = others; err = same })))

-- and it is one of the writes of the run
pub unwritten_causes : (had has : Failures) (before now : Option Contents) (besides : Besides) (story : Story)
    (fault : Fault) → Unwritten (files_of besides story) had.shelf has.shelf before now fault →
    has ≡ record had { shelf = has.shelf } → Caused (run_writes besides) true (status_of_fault fault) had has
unwritten_causes had has before now besides story Device failed others =
    inl (
      subst (λ calls. ListsOne calls had.shelf has.shelf) (writes_named besides story)
          (unwritten_lists (files_of besides story) had.shelf has.shelf before now Device failed),
      others,
    )
unwritten_causes had has before now besides story NoMemory kept others =
    others ∙ ap (λ (calls : List NamedCall). record had { shelf = calls }) kept.0

-- what is asked of a call that failed
pub on_failure : {T E : Type 0} {Kept : Type 0} (result : Result T E) → Kept → OnErr result Kept
on_failure (Ok value) kept = tt
on_failure (Err error) kept = kept

-- a report that was put, and a part of the times behind it
pub part_of_times : (before between now : Option (List ℕ)) (story : Story) (history : Chronicle) (config : Config)
    (times : Bool) (table : List HartTimes) → times ≡ true → config ≡ story.config → history ≡ history_of story →
    table ≡ table_of history.entries → TookAll before between (report_of story) →
    TookPart between now (times_text config.harts table) → TookPart before now (report_of story ++ times_if times story)
part_of_times before between now story history config times table asked same is tabled report part =
    let entries : history.entries ≡ story.entries = ap (λ (one : Chronicle). one.entries) is in
    let text : times_text config.harts table ≡ times_if times story =
    ap (λ (one : Config). times_text one.harts table) same
    ∙ ap (times_text story.config.harts) (tabled ∙ ap table_of entries)
    ∙ ap (λ (told : Bool). times_if told story) (sym asked) in
    took_then_part before between now (report_of story) (times_if times story) report
    (subst (TookPart between now) text part)
