use Rattle.std.proofs.Common.{ap, List, ℕ, ◌∙◌, sym, Option, map}
use Rattle.skopeo_outside.specs.declared.line.Talk.{Talk}
use Rattle.skopeo_outside.specs.Wire.{with_sent, on_last}
use Rattle.skopeo_outside.specs.Talks.{kept, all_kept}
use Rattle.skopeo_outside.proofs.WireLemmas.{last_step}
use Rattle.skopeo_outside.proofs.line.note_sent.Goals as goal

pub returns-in_ok-extend_from_slice-clause-ok : goal.returns-in_ok-extend_from_slice-clause-ok
returns-in_ok-extend_from_slice-clause-ok c = λ past.
    last_step (with_sent c.args.bytes.now) (map kept past) (kept c.in-Some.talk) _
    (ap (λ (xs : List ℕ). record (kept c.in-Some.talk) { sent = xs }) c.in_ok-extend_from_slice.ensures.items)
    ∙ ap (λ (o : Option Talk). on_last (with_sent c.args.bytes.now) (all_kept past o)) (sym c.in-Some.is)
