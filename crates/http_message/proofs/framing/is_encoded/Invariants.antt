use Rattle.std.proofs.Common.{◌≡◌, map, take, false}
use Rattle.std.specs.List.{list_any}
use Rattle.http_message.specs.Framing.{is_coding}
use Rattle.http_message.specs.Shown.{field_bytes}
use Rattle.http_message.proofs.framing.is_encoded.Given as goal

abbrev pub invariant-loop-field : goal.invariant-loop-field
invariant-loop-field l = list_any is_coding (map field_bytes (take l.field-index l.fields)) ≡ false
