-- The conversations that a wire in memory keeps.
use Rattle.std.specs.Prelude.{List, [], ◌∷◌, ◌++◌, map, Option, Some, None}
use Rattle.std.specs.String.{string_bytes}
use Rattle.skopeo_outside.specs.declared.line.Talk.{Talk}
use Rattle.skopeo_outside.specs.Wire.{Conversation}

-- a conversation as it is kept
abbrev pub kept : Talk → Conversation
kept t = record { host = string_bytes t.host; port = t.port; sent = t.sent.items; received = t.received.items; ended = t.ended }

-- the last conversation, where there is one
abbrev pub kept_last : Option Talk → List Conversation
kept_last None = []
kept_last (Some t) = kept t ∷ []

-- the past conversations and the last one
abbrev pub all_kept : List Talk → Option Talk → List Conversation
all_kept past last = map kept past ++ kept_last last
