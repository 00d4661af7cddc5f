use Rattle.std.proofs.Common.{sym}
use Rattle.http_message.proofs.FramingLemmas.{encoded_at}
use Rattle.http_message.proofs.framing.is_encoded.Goals as goal

pub returns-then-is_coding : goal.returns-then-is_coding
returns-then-is_coding c = encoded_at c.args.fields.now c.loop-field.field-index c.field-item.result c.loop-field-test.true (sym c.field-item.is) c.if-is_coding.ensures
