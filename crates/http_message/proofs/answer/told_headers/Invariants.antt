use Rattle.std.proofs.Common.{◌≡◌, map, take}
use Rattle.http_message.specs.Shown.{field_bytes, pair_bytes}
use Rattle.http_message.specs.Spelling.{told_headers}
use Rattle.http_message.proofs.answer.told_headers.Given as goal

abbrev pub invariant-loop-field : goal.invariant-loop-field
invariant-loop-field l = map pair_bytes l.pairs ≡ told_headers (map field_bytes (take l.field-index l.fields))
