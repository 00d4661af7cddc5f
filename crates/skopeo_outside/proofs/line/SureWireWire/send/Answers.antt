use Rattle.std.proofs.Common.{ap, List, Some, rules}
use Rattle.skopeo_outside.specs.Wire.{Conversation}
use Rattle.skopeo_outside.specs.Talks.{all_kept}
use Rattle.skopeo_outside.proofs.WireLemmas.{sends_nothing}
use Rattle.skopeo_outside.proofs.line.SureWireWire.send.Goals as goal

pub returns-in_err-note_sent-clause-part : goal.returns-in_err-note_sent-clause-part
returns-in_err-note_sent-clause-part g c =
    let part = sends_nothing c.args.bytes.now (Some (all_kept c.args.self.now.past.items c.args.self.now.last)) (Some (all_kept c.args.self.now.past.items c.note_sent.new.last)) (ap (λ (x : List Conversation). Some x) (c.in_err-note_sent.ensures.err c.args.self.now.past.items)) in
    search (rules, part)
