-- What a helper in memory answers, by a table, and the runs that it keeps.
use Rattle.std.specs.Prelude.{ℕ, ℤ, pos, ◌+◌, ◌&&◌, List, [], ◌∷◌, map, take, Option, Some, None, option_map, if◌then◌else◌}
use Rattle.std.specs.Option.{option_map_or}
use Rattle.std.specs.Str.{bytes_eq}
use Rattle.skopeo_outside.specs.Helper.{HelperRun, Runs}
use Rattle.skopeo_outside.specs.declared.mem_helper.Ran.{Ran}
use Rattle.skopeo_outside.specs.declared.mem_helper.Ended.{Ended}
use Rattle.skopeo_outside.specs.declared.mem_helper.Reply.{Reply}
use Rattle.skopeo_outside.specs.declared.mem_helper.SureHelper.{SureHelper}

-- a run of these words, and how it ended
abbrev pub run_with : List ℕ → List ℕ → Option Ended → HelperRun
run_with program input ended =
    record { program = program; input = input; ended = option_map (λ e. record { status = e.status; answer = e.answer }) ended }

-- a run as it is told
abbrev pub run_of : Ran → HelperRun
run_of r = run_with r.program r.input r.ended

-- the runs, in order
abbrev pub runs_of : List Ran → List HelperRun
runs_of ran = map run_of ran

-- what a helper in memory tells
abbrev pub runs_told : SureHelper → Runs
runs_told h = Some (runs_of h.ran)

-- the first reply of a program to an input
abbrev pub reply_of : List Reply → List ℕ → List ℕ → Option Reply
reply_of [] program input = None
reply_of (r ∷ rest) program input =
    if bytes_eq r.program program && bytes_eq r.input input then Some r else reply_of rest program input

-- the status of a reply, and 1 where there is none
abbrev pub status_of : Option Reply → ℤ
status_of reply = option_map_or (λ r. r.status) reply (pos 1)

-- what is kept of a reply's output: all up to one byte more than the limit, and nothing where there is no reply
abbrev pub kept_of : ℕ → Option Reply → List ℕ
kept_of limit reply = option_map_or (λ r. take (limit + 1) r.answer) reply []
