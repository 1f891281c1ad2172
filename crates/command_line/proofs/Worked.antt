-- The definitions, computed on command lines.
use Rattle.std.proofs.Common.{◌≡◌, ℕ, true, false, List, [], ◌∷◌, Option, None, Some, refl}
use Rattle.std.specs.Prelude.{codes}
use Rattle.el_base.specs.Config.{config_fault, usual}
use Rattle.el_base.specs.declared.config.ConfigFault.TheVariants.{Harts, Lines, Long, Sets, Steps, Ways}
use Rattle.el_base.specs.declared.config.Mode.TheVariants.{Plain, Sle, Tlr}
use Rattle.command_line.specs.Numbers.{number_of}
use Rattle.command_line.specs.Settings.{config_of}
use Rattle.command_line.specs.Words.{Job, Check, Find, Gen, Look, Replay, ReplayJob, Run, RunJob, job_of}
use Rattle.workload.specs.declared.work.Work.TheVariants.{Bank, Overflow}

-- to run the image `a` with no option
abbrev bare : RunJob
bare = record {
  image = codes "a";
  mode = None;
  harts = None;
  sets = None;
  ways = None;
  lines = None;
  long = None;
  steps = None;
  threads = None;
  trace = None;
  cert = None;
  times = false;
}

abbrev run_a : List (List ℕ) → Option Job
run_a words = job_of (codes "run" ∷ codes "a" ∷ words)

runs : run_a [] ≡ Some (Run bare)
runs = refl

options_in_any_order :
    job_of
    (codes "run" ∷ codes "--trace" ∷ codes "t" ∷ codes "--steps=33" ∷ codes "a" ∷ codes "--ways" ∷ codes "8"
    ∷ codes "--harts=2"
    ∷ codes "--sets" ∷ codes "64" ∷ [])
    ≡ Some
    (Run (record bare { harts = Some 2; sets = Some 64; ways = Some 8; steps = Some 33; trace = Some (codes "t") }))
options_in_any_order = refl

modes_and_sections :
    run_a (codes "--lines=8" ∷ codes "--mode" ∷ codes "sle" ∷ codes "--long" ∷ codes "100" ∷ [])
    ≡ Some (Run (record bare { mode = Some Sle; lines = Some 8; long = Some 100 }))
modes_and_sections = refl

plain_mode : run_a (codes "--mode=plain" ∷ []) ≡ Some (Run (record bare { mode = Some Plain }))
plain_mode = refl

tlr_mode : run_a (codes "--mode=tlr" ∷ []) ≡ Some (Run (record bare { mode = Some Tlr }))
tlr_mode = refl

-- to replay the trace `t` on the image `a`
abbrev bare_replay : ReplayJob
bare_replay = record { image = codes "a"; trace = codes "t"; written = None; times = false }

abbrev replay_a : List (List ℕ) → Option Job
replay_a words = job_of (codes "replay" ∷ codes "a" ∷ codes "t" ∷ words)

replays : replay_a [] ≡ Some (Replay bare_replay)
replays = refl

replay_written : replay_a (codes "--trace" ∷ codes "u" ∷ [])
    ≡ Some (Replay (record bare_replay { written = Some (codes "u") }))
replay_written = refl

replay_timed : replay_a (codes "--times" ∷ codes "--trace=u" ∷ [])
    ≡ Some (Replay (record bare_replay { written = Some (codes "u"); times = true }))
replay_timed = refl

-- a place of the trace `t` on the image `a`, and the places of a pc in it
looks : job_of (codes "look" ∷ codes "a" ∷ codes "t" ∷ codes "20" ∷ [])
    ≡ Some (Look (record { image = codes "a"; trace = codes "t"; place = 20; back = 0 }))
looks = refl

looks_back : job_of (codes "look" ∷ codes "a" ∷ codes "t" ∷ codes "37" ∷ codes "--back" ∷ codes "12" ∷ [])
    ≡ Some (Look (record { image = codes "a"; trace = codes "t"; place = 37; back = 12 }))
looks_back = refl

no_place : job_of (codes "look" ∷ codes "a" ∷ codes "t" ∷ codes "--back" ∷ codes "20" ∷ []) ≡ None
no_place = refl

finds : job_of (codes "find" ∷ codes "a" ∷ codes "t" ∷ codes "0" ∷ codes "65644" ∷ [])
    ≡ Some (Find (record { image = codes "a"; trace = codes "t"; hart = 0; pc = 65644 }))
finds = refl

no_pc : job_of (codes "find" ∷ codes "a" ∷ codes "t" ∷ codes "0" ∷ []) ≡ None
no_pc = refl

-- a flag
timed : run_a (codes "--times" ∷ []) ≡ Some (Run (record bare { times = true }))
timed = refl

flag_before_an_image : job_of (codes "run" ∷ codes "--times" ∷ codes "a" ∷ [])
    ≡ Some (Run (record bare { times = true }))
flag_before_an_image = refl

flag_with_a_value : run_a (codes "--times=x" ∷ []) ≡ None
flag_with_a_value = refl

flag_with_no_value : run_a (codes "--times=" ∷ []) ≡ None
flag_with_no_value = refl

word_after_a_flag : run_a (codes "--times" ∷ codes "true" ∷ []) ≡ None
word_after_a_flag = refl

flag_twice : run_a (codes "--times" ∷ codes "--times" ∷ []) ≡ None
flag_twice = refl

flag_as_a_value : run_a (codes "--trace" ∷ codes "--times" ∷ []) ≡ None
flag_as_a_value = refl

flag_after_the_options : job_of (codes "run" ∷ codes "--" ∷ codes "--times" ∷ [])
    ≡ Some (Run (record bare { image = codes "--times" }))
flag_after_the_options = refl

no_such_flag : run_a (codes "--time" ∷ []) ≡ None
no_such_flag = refl

no_flag_of_a_check : job_of (codes "check" ∷ codes "a" ∷ codes "c" ∷ codes "--times" ∷ []) ≡ None
no_flag_of_a_check = refl

generates : job_of (codes "gen" ∷ codes "bank" ∷ codes "7" ∷ codes "b" ∷ []) ≡ Some (Gen Bank 7 (codes "b"))
generates = refl

-- no command line
no_words : job_of [] ≡ None
no_words = refl

no_such_command : job_of (codes "walk" ∷ codes "x" ∷ []) ≡ None
no_such_command = refl

no_image : job_of (codes "run" ∷ []) ≡ None
no_image = refl

no_trace : job_of (codes "replay" ∷ codes "a" ∷ []) ≡ None
no_trace = refl

no_number : run_a (codes "--harts" ∷ codes "x" ∷ []) ≡ None
no_number = refl

no_value : run_a (codes "--steps" ∷ []) ≡ None
no_value = refl

no_such_mode : run_a (codes "--mode" ∷ codes "none" ∷ []) ≡ None
no_such_mode = refl

no_such_option : run_a (codes "--drivers" ∷ codes "5" ∷ []) ≡ None
no_such_option = refl

drivers : run_a (codes "--threads" ∷ codes "5" ∷ codes "--trace" ∷ codes "t" ∷ [])
    ≡ Some (Run (record bare { threads = Some 5; trace = Some (codes "t") }))
drivers = refl

drivers_without_a_trace : run_a (codes "--threads" ∷ codes "5" ∷ []) ≡ None
drivers_without_a_trace = refl

no_turns : run_a (codes "--threads" ∷ codes "0" ∷ codes "--trace" ∷ codes "t" ∷ []) ≡ None
no_turns = refl

certified : run_a (codes "--cert=c" ∷ codes "--trace=t" ∷ [])
    ≡ Some (Run (record bare { trace = Some (codes "t"); cert = Some (codes "c") }))
certified = refl

one_name_for_two_files : run_a (codes "--cert=t" ∷ codes "--trace" ∷ codes "t" ∷ []) ≡ None
one_name_for_two_files = refl

checks : job_of (codes "check" ∷ codes "a" ∷ codes "c" ∷ []) ≡ Some (Check (codes "a") (codes "c"))
checks = refl

given_twice : run_a (codes "--harts" ∷ codes "1" ∷ codes "--harts=1" ∷ []) ≡ None
given_twice = refl

another_word : run_a (codes "b" ∷ []) ≡ None
another_word = refl

no_such_kind : job_of (codes "gen" ∷ codes "nothing" ∷ codes "1" ∷ codes "f" ∷ []) ≡ None
no_such_kind = refl

number_too_great : job_of (codes "gen" ∷ codes "counter" ∷ codes "4294967296" ∷ codes "f" ∷ []) ≡ None
number_too_great = refl

-- words that begin with '-'
option_as_a_value : run_a (codes "--trace" ∷ codes "-t" ∷ []) ≡ None
option_as_a_value = refl

attached_value : run_a (codes "--trace=-t" ∷ []) ≡ Some (Run (record bare { trace = Some (codes "-t") }))
attached_value = refl

empty_value : run_a (codes "--trace=" ∷ []) ≡ Some (Run (record bare { trace = Some [] }))
empty_value = refl

short_option : job_of (codes "run" ∷ codes "-a" ∷ []) ≡ None
short_option = refl

after_the_options : job_of (codes "run" ∷ codes "--" ∷ codes "--harts" ∷ [])
    ≡ Some (Run (record bare { image = codes "--harts" }))
after_the_options = refl

one_dash : job_of (codes "gen" ∷ codes "overflow" ∷ codes "0" ∷ codes "-" ∷ []) ≡ Some (Gen Overflow 0 (codes "-"))
one_dash = refl

-- number words
greatest : number_of (codes "4294967295") ≡ Some 4294967295
greatest = refl

too_great : number_of (codes "4294967296") ≡ None
too_great = refl

leading_zeros : number_of (codes "0000000033") ≡ Some 33
leading_zeros = refl

eleven_digits : number_of (codes "00000000033") ≡ None
eleven_digits = refl

no_digits : number_of [] ≡ None
no_digits = refl

-- what is not given is as usual
bare_config : config_of bare ≡ usual
bare_config = refl

sections : config_of (record bare { mode = Some Plain; lines = Some 8; long = Some 100 })
    ≡ record usual { mode = Plain; lines = 8; long = 100 }
sections = refl

nine_harts : config_fault (config_of (record bare { harts = Some 9 })) ≡ Some Harts
nine_harts = refl

three_sets : config_fault (config_of (record bare { sets = Some 3 })) ≡ Some Sets
three_sets = refl

no_ways : config_fault (config_of (record bare { ways = Some 0 })) ≡ Some Ways
no_ways = refl

many_lines : config_fault (config_of (record bare { lines = Some 33 })) ≡ Some Lines
many_lines = refl

one_instruction : config_fault (config_of (record bare { long = Some 1 })) ≡ Some Long
one_instruction = refl

no_steps : config_fault (config_of (record bare { steps = Some 0 })) ≡ Some Steps
no_steps = refl
