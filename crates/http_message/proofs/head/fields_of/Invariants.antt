use Rattle.std.proofs.Common.{◌≡◌, map, take}
use Rattle.httparse.specs.Spans.{header_bytes}
use Rattle.http_message.specs.Shown.{field_bytes}
use Rattle.http_message.proofs.head.fields_of.Given as goal

abbrev pub invariant-loop-span : goal.invariant-loop-span
invariant-loop-span l = map field_bytes l.fields.items ≡ map (header_bytes l.block) (take l.span-index l.spans)
