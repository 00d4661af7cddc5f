use Rattle.std.proofs.Common.{rules, map, Ok}
use Rattle.std.specs.String.{string_bytes}
use Rattle.skopeo_outside.specs.Steps.{Says}
use Rattle.skopeo_app.specs.declared.task.Task.TheVariants.{Page, Copy}
use Rattle.skopeo_app.specs.Courses.{command_course}
use Rattle.skopeo_app.specs.Task.{task_of}
use Rattle.skopeo_app.proofs.CommandLemmas.{words_refused, page_told, copy_told}
use Rattle.skopeo_app.proofs.run.run.Goals as goal

pub returns-in-Err : goal.returns-in-Err
returns-in-Err g c = record { run = words_refused (map string_bytes c.args.words.now) c.args.home.now c.args.cwd.now _ c.in-Err.refusal c.in-Err.ensures.says c.in-Err.ensures.other }

pub returns-in-Ok-Page : goal.returns-in-Ok-Page
returns-in-Ok-Page g c =
    let is : Says command_course (task_of (map string_bytes c.args.words.now) c.args.cwd.now) (Ok (Page c.in-Ok-Page.text)) = search rules in
    record { run = page_told (map string_bytes c.args.words.now) c.args.home.now c.args.cwd.now c.in-Ok-Page.text _ _ _ c.print_page.result is c.print_page.ensures.page }

pub returns-in-Ok-Copy : goal.returns-in-Ok-Copy
returns-in-Ok-Copy g c =
    let is : Says command_course (task_of (map string_bytes c.args.words.now) c.args.cwd.now) (Ok (Copy c.in-Ok-Copy.task)) = search rules in
    record { run = copy_told (map string_bytes c.args.words.now) c.args.home.now c.args.cwd.now c.in-Ok-Copy.task _ _ c.run_copy.result is c.run_copy.ensures.copy }
