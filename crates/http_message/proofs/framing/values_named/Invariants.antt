use Rattle.std.proofs.Common.{◌≡◌, map, take}
use Rattle.http_message.specs.Shown.{field_bytes}
use Rattle.http_message.specs.Framing.{values_named}
use Rattle.http_message.proofs.framing.values_named.Given as goal

abbrev pub invariant-loop-field : goal.invariant-loop-field
invariant-loop-field l = map (λ v. v.items) l.values.items ≡ values_named l.name (map field_bytes (take l.field-index l.fields))
