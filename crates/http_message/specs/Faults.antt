-- The fault of an exchange, by what stopped it.
use Rattle.std.specs.Prelude.{ℕ, List, take}
use Rattle.skopeo_outside.specs.declared.words.Step.{Step}
use Rattle.http_message.specs.declared.fault.AnswerFault.{AnswerFault}
use Rattle.http_message.specs.declared.fault.AnswerFault.TheVariants as short
use Rattle.http_message.specs.declared.fault.ExchangeFault.{ExchangeFault}
use Rattle.http_message.specs.declared.fault.ExchangeFault.TheVariants as long

-- a bad answer has the step and the first bytes that were received; the others stay as they are
abbrev pub fault_of : Step → List ℕ → AnswerFault → ExchangeFault
fault_of step first short.BadAnswer = long.BadAnswer step first
fault_of step first (short.HeadTooLong n) = long.HeadTooLong n
fault_of step first (short.HeadersTooMany n) = long.HeadersTooMany n
fault_of step first (short.BodyTooLong n) = long.BodyTooLong n
fault_of step first short.Encoded = long.Encoded
fault_of step first short.Wire = long.Wire
fault_of step first short.Memory = long.Memory

-- most bytes that a bad answer shows
abbrev pub most_shown : ℕ
most_shown = 64

-- the first bytes of a conversation, as a bad answer shows them
abbrev pub shown : List ℕ → List ℕ
shown received = take most_shown received
