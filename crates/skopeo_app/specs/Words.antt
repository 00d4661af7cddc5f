-- The words of fixed lists that the lines of refusals have.
use Rattle.std.specs.Prelude.{List, [], ℕ, codes}
use Rattle.std.specs.Fmt.{decimal}
use Rattle.skopeo_outside.specs.declared.words.What.{What}
use Rattle.skopeo_outside.specs.declared.words.What.TheVariants as what
use Rattle.skopeo_outside.specs.declared.words.Step.{Step}
use Rattle.skopeo_outside.specs.declared.words.Step.TheVariants as step
use Rattle.image_ref.specs.Reading.{offset}
use Rattle.image_ref.specs.declared.fault.RefFault.{RefFault}
use Rattle.image_ref.specs.declared.fault.RefFault.TheVariants as ref
use Rattle.image_ref.specs.declared.fault.PlaceFault.{PlaceFault}
use Rattle.image_ref.specs.declared.fault.PlaceFault.TheVariants as place
use Rattle.policy_file.specs.declared.fault.PolicyKind.{PolicyKind}
use Rattle.policy_file.specs.declared.fault.PolicyKind.TheVariants as policy
use Rattle.registries_conf.specs.declared.fault.ConfFault.{ConfFault}
use Rattle.registries_conf.specs.declared.fault.ConfFault.TheVariants as conf
use Rattle.skopeo_words.specs.declared.fault.WordsKind.{WordsKind}
use Rattle.skopeo_words.specs.declared.fault.WordsKind.TheVariants as words
use Rattle.transports.specs.declared.refusal.Part.{Part}
use Rattle.transports.specs.declared.refusal.Part.TheVariants as part
use Rattle.policy_gate.specs.declared.fault.Reason.{Reason}
use Rattle.policy_gate.specs.declared.fault.Reason.TheVariants as reason
use Rattle.policy_gate.specs.declared.fault.Why.{Why}
use Rattle.policy_gate.specs.declared.fault.Why.TheVariants as why
use Rattle.skopeo_app.specs.declared.refusal.Unbuilt.{Unbuilt}
use Rattle.skopeo_app.specs.declared.refusal.Unbuilt.TheVariants as unbuilt

-- what is not built, of the words and of an image
abbrev pub unbuilt_word : Unbuilt → List ℕ
unbuilt_word unbuilt.Command = codes "command"
unbuilt_word unbuilt.Option = codes "option"
unbuilt_word unbuilt.Place = codes "place"

abbrev pub part_word : Part → List ℕ
part_word part.Policy = codes "policy"
part_word part.Manifest = codes "manifest"
part_word part.Place = codes "place"

abbrev pub why_word : Why → List ℕ
why_word why.Reject = codes "reject"
why_word why.Sigstore = codes "sigstore"
why_word why.NoSignature = codes "no-signature"
why_word why.NoVerifier = codes "no-verifier"
why_word why.KeyAbsent = codes "key-absent"
why_word (why.Signatures reasons) = codes "signatures"

-- why a signature is not accepted, and what was said or signed
abbrev pub reason_word : Reason → List ℕ
reason_word (reason.Bad text) = codes "bad"
reason_word (reason.Payload pointer) = codes "payload"
reason_word (reason.Identity text) = codes "identity"
reason_word (reason.Digest text) = codes "digest"

abbrev pub reason_text : Reason → List ℕ
reason_text (reason.Bad text) = text
reason_text (reason.Payload pointer) = pointer
reason_text (reason.Identity text) = text
reason_text (reason.Digest text) = text

abbrev pub words_word : WordsKind → List ℕ
words_word words.UnknownOption = codes "UnknownOption"
words_word words.MissingValue = codes "MissingValue"
words_word words.BadValue = codes "BadValue"
words_word words.MissingOperand = codes "MissingOperand"
words_word words.UnknownCommand = codes "UnknownCommand"
words_word words.NotForCommand = codes "NotForCommand"
words_word words.ExtraOperand = codes "ExtraOperand"
words_word words.MissingOption = codes "MissingOption"
words_word words.BadPair = codes "BadPair"
words_word words.NeedsRaw = codes "NeedsRaw"
words_word words.FormatForPlace = codes "FormatForPlace"
words_word words.NotDocker = codes "NotDocker"
words_word words.BadNumber = codes "BadNumber"

abbrev pub policy_word : PolicyKind → List ℕ
policy_word policy.NotJson = codes "NotJson"
policy_word policy.Shape = codes "Shape"
policy_word policy.UnknownKey = codes "UnknownKey"
policy_word policy.NoDefault = codes "NoDefault"
policy_word policy.EmptyList = codes "EmptyList"
policy_word policy.UnknownType = codes "UnknownType"
policy_word policy.BadKeys = codes "BadKeys"
policy_word policy.BadIdentity = codes "BadIdentity"

-- what is wrong with the configuration, and where: a key, the number of a table, or nowhere
abbrev pub conf_word : ConfFault → List ℕ
conf_word conf.NotToml = codes "NotToml"
conf_word (conf.Shape key) = codes "Shape"
conf_word conf.V1 = codes "V1"
conf_word (conf.BadPrefix table) = codes "BadPrefix"
conf_word (conf.MirrorClash table) = codes "MirrorClash"
conf_word conf.Memory = []

abbrev pub conf_member : ConfFault → List ℕ
conf_member conf.NotToml = []
conf_member (conf.Shape key) = key
conf_member conf.V1 = []
conf_member (conf.BadPrefix table) = decimal table
conf_member (conf.MirrorClash table) = decimal table
conf_member conf.Memory = []

abbrev pub reference_word : RefFault → List ℕ
reference_word ref.Empty = codes "Empty"
reference_word ref.HexName = codes "HexName"
reference_word (ref.BadDigest at) = codes "BadDigest"
reference_word (ref.BadTag at) = codes "BadTag"
reference_word (ref.BadHost at) = codes "BadHost"
reference_word (ref.UpperCase at) = codes "UpperCase"
reference_word (ref.BadPath at) = codes "BadPath"
reference_word ref.TooLong = codes "TooLong"
reference_word ref.TagAndDigest = codes "TagAndDigest"
reference_word ref.Memory = []

abbrev pub place_word : PlaceFault → List ℕ
place_word place.NoTransport = codes "NoTransport"
place_word place.UnknownTransport = codes "UnknownTransport"
place_word place.LeftOut = codes "LeftOut"
place_word place.Slashes = codes "Slashes"
place_word place.EmptyPath = codes "EmptyPath"
place_word place.BadOciRef = codes "BadOciRef"
place_word (place.Reference fault) = reference_word fault
place_word place.Memory = []

-- where in its text a place is at fault: 0 for a fault without an offset
abbrev pub place_offset : PlaceFault → ℕ
place_offset (place.Reference fault) = offset fault
place_offset _ = 0

-- what there is too much of
abbrev pub what_word : What → List ℕ
what_word what.Policy = codes "policy"
what_word what.Conf = codes "conf"
what_word what.Cache = codes "cache"
what_word what.Manifest = codes "manifest"
what_word what.Index = codes "index"
what_word what.Config = codes "config"
what_word what.Signature = codes "signature"
what_word what.Signatures = codes "signatures"
what_word what.SignatureBytes = codes "signature-bytes"
what_word what.Key = codes "key"
what_word what.Keys = codes "keys"
what_word what.Answer = codes "answer"
what_word what.Head = codes "head"
what_word what.Headers = codes "headers"
what_word what.TagsPage = codes "tags-page"
what_word what.Pages = codes "pages"
what_word what.Tags = codes "tags"
what_word what.Entries = codes "entries"
what_word what.Folders = codes "folders"

-- a step of the exchange with a registry
abbrev pub step_word : Step → List ℕ
step_word step.Manifest = codes "manifest"
step_word step.Instance = codes "instance"
step_word step.Blob = codes "blob"
step_word step.Have = codes "have"
step_word step.Mount = codes "mount"
step_word step.Start = codes "start"
step_word step.Piece = codes "piece"
step_word step.Commit = codes "commit"
step_word step.Put = codes "put"
step_word step.Delete = codes "delete"
step_word step.Tags = codes "tags"
step_word step.Signature = codes "signature"
