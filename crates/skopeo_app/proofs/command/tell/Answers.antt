use Rattle.std.proofs.Common.{rules, ◌≡◌, ◌++◌, OnOk, refl, sym, subst, inr}
use Rattle.std.specs.Prelude.{codes}
use Rattle.std.specs.Option.{option_map}
use Rattle.transports.specs.declared.refusal.Refusal.TheVariants as image
use Rattle.skopeo_app.specs.declared.refusal.CommandRefusal.TheVariants as refusal
use Rattle.skopeo_app.specs.Rows.{image_row, row_of}
use Rattle.skopeo_app.specs.Lines.{refusal_line}
use Rattle.skopeo_app.proofs.TellingLemmas.{gained, memory_line}
use Rattle.skopeo_app.proofs.command.tell.Goals as goal

pub returns-in-Err : goal.returns-in-Err
unfolding row_of image_row
returns-in-Err g c = record {
  told = refusal.Image image.Memory;
  same = inr refl;
  status = refl;
  later = record { faults = c.write-in-Err.ensures.cause.later; wants = c.write-in-Err.ensures.wants.later };
  line =
      let added : OnOk c.write-in-Err.result (g.E.Sink.written c.write-in-Err.new.self ≡ option_map (λ o. o ++ codes "skopeo: 4 OutOfMemory\n") (g.E.Sink.written c.args.err.now)) = search rules in
      gained c.write-in-Err.result (refusal_line (refusal.Image image.Memory)) _ _ (subst (λ l. OnOk c.write-in-Err.result (g.E.Sink.written c.write-in-Err.new.self ≡ option_map (λ o. o ++ l) (g.E.Sink.written c.args.err.now))) (sym memory_line) added)
      c.write-in-Err.ensures.cause c.write-in-Err.ensures.wants;
}
