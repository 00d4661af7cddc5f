-- What writing a line leaves.
use Rattle.std.proofs.Common.{◌≡◌, ◌++◌, ◌⊎◌, List, [], ℕ, Option, Some, None, Result, Ok, Err, OnOk, refl, sym, ap, inl, inr, append-nil, arith}
use Rattle.std.specs.Prelude.{codes}
use Rattle.std.specs.Fmt.{digits}
use Rattle.std.specs.Option.{option_map}
use Rattle.skopeo_outside.specs.declared.stop.Stop.{Stop}
use Rattle.skopeo_outside.specs.declared.stop.Stop.TheVariants as stop
use Rattle.skopeo_outside.specs.Outside.{HasCause, CountsWant}
use Rattle.transports.specs.declared.refusal.Refusal.TheVariants as image
use Rattle.skopeo_app.specs.declared.refusal.CommandRefusal.{CommandRefusal}
use Rattle.skopeo_app.specs.declared.refusal.CommandRefusal.TheVariants as refusal
use Rattle.skopeo_app.specs.declared.run.Done.{Done}
use Rattle.skopeo_app.specs.Sinks.{SinkTold, Gained}
use Rattle.skopeo_app.specs.Runs.{Tells, Finishes}
use Rattle.skopeo_app.specs.Rows.{image_row, row_of}
use Rattle.skopeo_app.specs.Lines.{printed, refusal_line}

-- a write that did not fail has added its bytes
pub gained : (r : Result (Unit {0}) Stop) (bytes : List ℕ) (before after : SinkTold)
    → OnOk r (after.bytes ≡ option_map (λ o. o ++ bytes) before.bytes) → HasCause before.faults after.faults r → CountsWant before.wants after.wants r → Gained bytes before after
gained (Ok done) bytes before after added cause wants = λ f. added
gained (Err stop.Fault) bytes before after added cause wants = λ f. absurd (f (inl (cause.fault refl)))
gained (Err stop.Memory) bytes before after added cause wants = λ f. absurd (f (inr (wants.want refl)))

-- want of memory in place of a refusal
pub memory_line : refusal_line (refusal.Image image.Memory) ≡ codes "skopeo: 4 OutOfMemory\n"
unfolding refusal_line printed row_of image_row digits
memory_line = refl

no_more : (o : Option (List ℕ)) → o ≡ option_map (λ x. x ++ []) o
no_more None = refl
no_more (Some x) = ap Some (sym (append-nil x))

-- nothing is told where the command was done
pub finished : (done : Done) (sink : SinkTold) → Finishes (Ok done) 0 sink sink
finished done sink = record { answer = Ok done; same = inl refl; status = refl; line = λ f. no_more sink.bytes; later = record { faults = omega arith; wants = omega arith } }

pub refused : (e : CommandRefusal) (code : ℕ) (before after : SinkTold) → Tells e code before after → Finishes (Err e) code before after
refused e code before after t = by t.same
  where
    by : (t.told ≡ e) ⊎ (t.told ≡ refusal.Image image.Memory) → Finishes (Err e) code before after
    by (inl same) = record { answer = Err t.told; same = inl (ap Err same); status = t.status; line = t.line; later = t.later }
    by (inr same) = record { answer = Err t.told; same = inr (ap Err same); status = t.status; line = t.line; later = t.later }
