use Rattle.std.proofs.Common.{rules, ◌≡◌, Result, Err}
use Rattle.skopeo_app.specs.declared.run.Done.{Done}
use Rattle.skopeo_app.specs.declared.refusal.CommandRefusal.{CommandRefusal}
use Rattle.skopeo_app.proofs.RunLemmas.{copy_refused, copy_unprinted, copy_printed}
use Rattle.skopeo_app.proofs.run.run_copy.Goals as goal

pub returns-in_err-copied : goal.returns-in_err-copied
returns-in_err-copied g c =
    let r : ◌≡◌ {A = Result Done CommandRefusal} c.from_residual.result (Err c.in_err-copied.field-0.0) = search rules in
    record { copy = rw (r) (copy_refused c.args.home.now c.args.cwd.now c.args.task.now _ _ _ c.in_err-copied.field-0.0 c.in_err-copied.ensures.copies) }

pub returns-in_err-print_lines : goal.returns-in_err-print_lines
returns-in_err-print_lines g c =
    let r : ◌≡◌ {A = Result Done CommandRefusal} c.from_residual-in_err-print_lines.result (Err c.in_err-print_lines.field-0.0) = search rules in
    let lines : c.as_str.result.now ≡ c.done_of-done.result.lines = search rules in
    record {
      copy = rw (r) (copy_unprinted c.args.home.now c.args.cwd.now c.args.task.now c.in_ok-copied.copied c.done_of-done.result _ _ _ _ c.in_err-print_lines.field-0.0 c.done_of-done.ensures
          c.in_ok-copied.ensures.copies (rw (← lines) c.in_err-print_lines.ensures.prints));
    }

pub returns : goal.returns
returns g c =
    let lines : c.as_str.result.now ≡ c.done_of-done.result.lines = search rules in
    record { copy = copy_printed c.args.home.now c.args.cwd.now c.args.task.now c.in_ok-copied.copied c.done_of-done.result _ _ _ _ c.done_of-done.ensures c.in_ok-copied.ensures.copies (rw (← lines) c.in_ok-print_lines.ensures.prints) }
