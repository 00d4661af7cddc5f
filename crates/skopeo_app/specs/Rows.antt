-- Refusals as rows (docs/refusals.md): a number, a name, and fields in order, each under its key.
use Rattle.std.specs.Prelude.{◌==◌, ◌∷◌, [], List, ℕ, ℤ, if◌then◌else◌, codes, Option, Some, None, length}
use Rattle.skopeo_outside.specs.declared.words.What.{What}
use Rattle.skopeo_outside.specs.declared.words.What.TheVariants as what
use Rattle.skopeo_outside.specs.declared.words.Step.{Step}
use Rattle.image_ref.specs.declared.fault.PlaceFault.{PlaceFault}
use Rattle.image_ref.specs.declared.fault.PlaceFault.TheVariants as place
use Rattle.policy_file.specs.declared.fault.PolicyKind.{PolicyKind}
use Rattle.skopeo_words.specs.declared.fault.WordsKind.{WordsKind}
use Rattle.copy_workers.specs.declared.cause.BlobMismatch.{BlobMismatch}
use Rattle.copy_workers.specs.declared.cause.Cause.{Cause}
use Rattle.copy_workers.specs.declared.cause.Cause.TheVariants as cause
use Rattle.transports.specs.declared.attempt.AttemptCause.{AttemptCause}
use Rattle.transports.specs.declared.attempt.AttemptCause.TheVariants as attempt
use Rattle.policy_gate.specs.declared.fault.Why.{Why}
use Rattle.transports.specs.declared.refusal.Refusal.{Refusal}
use Rattle.transports.specs.declared.refusal.Refusal.TheVariants as image
use Rattle.skopeo_app.specs.declared.refusal.CommandRefusal.{CommandRefusal}
use Rattle.skopeo_app.specs.declared.refusal.CommandRefusal.TheVariants as refusal
use Rattle.skopeo_app.specs.Words.{unbuilt_word, part_word, why_word, words_word, policy_word, conf_word, conf_member, place_word, place_offset, what_word, step_word}

-- what stands under a key: a number, a number with a sign, a word of a fixed list, a text from outside, a digest, or bytes
pub data Field : Type 0 where
  as_number : ℕ → Field
  as_signed : ℤ → Field
  as_word : List ℕ → Field
  as_text : List ℕ → Field
  as_digest : List ℕ → Field
  as_bytes : List ℕ → Field

-- a refusal: its number, its name, and its fields
pub record Row : Type 0 where
  pub number : ℕ
  pub name : List ℕ
  pub fields : List (List ℕ × Field)

abbrev pub row : ℕ → List ℕ → List (List ℕ × Field) → Row
row number name fields = record { number = number; name = name; fields = fields }

-- ---- the rows

-- the words are no command
abbrev pub words_row : ℕ → WordsKind → Row
words_row place kind = row 2 (codes "BadWords") ((codes "place", as_number place) ∷ (codes "kind", as_word (words_word kind)) ∷ [])

-- memory was wanting
abbrev pub memory_row : Row
memory_row = row 4 (codes "OutOfMemory") []

-- a text names no place
abbrev pub reference_row : List ℕ → PlaceFault → Row
reference_row text fault =
    row 10 (codes "BadReference") ((codes "text", as_text text) ∷ (codes "fault", as_word (place_word fault)) ∷ (codes "at", as_number (place_offset fault)) ∷ [])

-- a short name stands for no image: it has no alias, and so many registries are searched
abbrev pub short_row : List ℕ → ℕ → Row
short_row text count = row 11 (codes "ShortName") ((codes "text", as_text text) ∷ (codes "count", as_number count) ∷ [])

-- no policy file is there
abbrev pub missing_row : List ℕ → Row
missing_row path = row 12 (codes "PolicyMissing") ((codes "path", as_text path) ∷ [])

-- the policy file is not in its grammar
abbrev pub policy_row : List ℕ → PolicyKind → List ℕ → Row
policy_row path kind member =
    row 13 (codes "PolicyInvalid") ((codes "path", as_text path) ∷ (codes "fault", as_word (policy_word kind)) ∷ (codes "member", as_text member) ∷ [])

-- the configuration of the registries is not in its grammar, or absent though it was named
abbrev pub conf_row : List ℕ → List ℕ → List ℕ → Row
conf_row path fault member =
    row 14 (codes "ConfInvalid") ((codes "path", as_text path) ∷ (codes "fault", as_word fault) ∷ (codes "member", as_text member) ∷ [])

-- the table that counts for an image is blocked
abbrev pub blocked_row : ℕ → Row
blocked_row table = row 15 (codes "Blocked") ((codes "table", as_number table) ∷ [])

-- a host may not be reached without TLS
abbrev pub tls_row : List ℕ → Row
tls_row host = row 16 (codes "TlsRequired") ((codes "host", as_text host) ∷ [])

-- so many sources were asked, and none gave the manifest
abbrev pub sources_row : ℕ → Row
sources_row count = row 17 (codes "NoSource") ((codes "attempts", as_number count) ∷ [])

-- a requirement does not hold; the default list has no scope
abbrev pub scope_field : Option (List ℕ) → Field
scope_field None = as_word (codes "default")
scope_field (Some scope) = as_text scope

abbrev pub rejected_row : Option (List ℕ) → ℕ → Why → Row
rejected_row scope place reason =
    row 18 (codes "Rejected") ((codes "scope", scope_field scope) ∷ (codes "place", as_number place) ∷ (codes "why", as_word (why_word reason)) ∷ [])

-- the bytes are no manifest
abbrev pub manifest_row : List ℕ → Row
manifest_row member = row 19 (codes "ManifestInvalid") ((codes "member", as_text member) ∷ [])

-- a manifest has another digest than its reference names
abbrev pub digest_row : List ℕ → List ℕ → Row
digest_row expected found = row 20 (codes "ManifestDigest") ((codes "expected", as_digest expected) ∷ (codes "found", as_digest found) ∷ [])

-- a blob has another digest or length
abbrev pub mismatch_row : BlobMismatch → Row
mismatch_row m =
    row 26 (codes "BlobMismatch") ((codes "expected", as_digest m.expected) ∷ (codes "size", as_number m.size) ∷ (codes "found", as_digest m.found) ∷ (codes "length", as_number m.length) ∷ [])

-- the source has no such blob
abbrev pub absent_row : List ℕ → Row
absent_row digest = row 27 (codes "BlobAbsent") ((codes "digest", as_digest digest) ∷ [])

-- the destination refused a step
abbrev pub dest_row : Step → ℕ → Row
dest_row at status = row 28 (codes "DestRefused") ((codes "step", as_word (step_word at)) ∷ (codes "status", as_number status) ∷ [])

-- a folder holds no image
abbrev pub folder_row : List ℕ → Row
folder_row path = row 29 (codes "NotAnImageDir") ((codes "path", as_text path) ∷ [])

-- source and destination are one folder
abbrev pub same_row : List ℕ → Row
same_row path = row 29 (codes "SamePlace") ((codes "path", as_text path) ∷ [])

-- the program that judges signatures failed by its status, or answered outside its protocol
abbrev pub garbled_row : ℤ → List ℕ → Row
garbled_row status first = row 30 (codes "Garbled") ((codes "status", as_signed status) ∷ (codes "bytes", as_bytes first) ∷ [])

-- there is too much of something
abbrev pub large_row : What → ℕ → Row
large_row what length = row 31 (codes "TooLarge") ((codes "what", as_word (what_word what)) ∷ (codes "length", as_number length) ∷ [])

-- an answer is outside the grammar
abbrev pub answer_row : Step → List ℕ → Row
answer_row at first = row 32 (codes "BadAnswer") ((codes "step", as_word (step_word at)) ∷ (codes "bytes", as_bytes first) ∷ [])

-- a stored signature was answered with another status than it may have
abbrev pub lookaside_row : ℕ → ℕ → Row
lookaside_row number status = row 33 (codes "LookasideRefused") ((codes "signature", as_number number) ∷ (codes "status", as_number status) ∷ [])

-- the source refused a step
abbrev pub source_row : Step → ℕ → Row
source_row at status = row 34 (codes "SourceRefused") ((codes "step", as_word (step_word at)) ∷ (codes "status", as_number status) ∷ [])

-- an answer has a content encoding
abbrev pub encoded_row : Step → Row
encoded_row at = row 35 (codes "Encoded") ((codes "step", as_word (step_word at)) ∷ [])

-- a step was redirected too often
abbrev pub redirects_row : Step → Row
redirects_row at = row 36 (codes "TooManyRedirects") ((codes "step", as_word (step_word at)) ∷ [])

-- a text that a table puts in place of a reference is none that keeps its tag and digest
abbrev pub rewrite_row : List ℕ → Row
rewrite_row text = row 38 (codes "BadRewrite") ((codes "text", as_text text) ∷ [])

-- this is not built yet
abbrev pub unbuilt_row : List ℕ → Row
unbuilt_row word = row 39 (codes "NotBuilt") ((codes "what", as_word word) ∷ [])

-- a wire, the files, the program that judges signatures or the output failed
abbrev pub wire_row : ℕ → Row
wire_row count = row 40 (codes "Wire") ((codes "faults", as_number count) ∷ [])

abbrev pub files_row : ℕ → Row
files_row count = row 41 (codes "Files") ((codes "faults", as_number count) ∷ [])

abbrev pub helper_row : ℕ → Row
helper_row count = row 42 (codes "Helper") ((codes "faults", as_number count) ∷ [])

abbrev pub output_row : ℕ → Row
output_row count = row 43 (codes "Output") ((codes "faults", as_number count) ∷ [])

-- ---- which refusal has which

-- why a job failed
unfoldable pub cause_row : Cause → Row
cause_row (cause.TlsRequired host) = tls_row host
cause_row (cause.BlobMismatch m) = mismatch_row m
cause_row (cause.BlobAbsent digest) = absent_row digest
cause_row (cause.DestRefused at status) = dest_row at status
cause_row (cause.TooLarge kind length) = large_row kind length
cause_row (cause.BadAnswer at first) = answer_row at first
cause_row (cause.SourceRefused at status) = source_row at status
cause_row (cause.Encoded at) = encoded_row at
cause_row (cause.TooManyRedirects at) = redirects_row at
cause_row (cause.Wire count) = wire_row count
cause_row (cause.Files count) = files_row count
cause_row cause.Memory = memory_row

-- why a source gave no manifest
unfoldable pub attempt_row : AttemptCause → Row
attempt_row (attempt.Blocked table) = blocked_row table
attempt_row (attempt.TlsRequired host) = tls_row host
attempt_row (attempt.ManifestDigest expected found) = digest_row expected found
attempt_row (attempt.TooLarge kind length) = large_row kind length
attempt_row (attempt.BadAnswer at first) = answer_row at first
attempt_row (attempt.SourceRefused at status) = source_row at status
attempt_row (attempt.Encoded at) = encoded_row at
attempt_row (attempt.TooManyRedirects at) = redirects_row at
attempt_row (attempt.BadRewrite text) = rewrite_row text
attempt_row (attempt.Wire count) = wire_row count

-- what comes from a job has the job's number first, but for want of memory
unfoldable pub job_row : ℕ → Row → Row
job_row job failed = if failed.number == 4 then failed else row failed.number failed.name ((codes "job", as_number job) ∷ failed.fields)

-- why a copy ended
unfoldable pub image_row : Refusal → Row
image_row (image.NotBuilt part) = unbuilt_row (part_word part)
image_row (image.Rejected scope place reason) = rejected_row scope place reason
image_row (image.NotAnImageDir path) = folder_row path
image_row (image.TooLarge kind length) = large_row kind length
image_row (image.ManifestInvalid member) = manifest_row member
image_row (image.Job job reason) = job_row job (cause_row reason)
image_row (image.TlsRequired host) = tls_row host
image_row (image.Garbled status first) = garbled_row status first
image_row (image.BadAnswer at first) = answer_row at first
image_row (image.LookasideRefused number status) = lookaside_row number status
image_row (image.Encoded at) = encoded_row at
image_row (image.TooManyRedirects at) = redirects_row at
image_row (image.Files count) = files_row count
image_row (image.Wire count) = wire_row count
image_row (image.Helper count) = helper_row count
image_row (image.BadReference text fault) = reference_row text (place.Reference fault)
image_row (image.ShortName text count) = short_row text count
image_row (image.Blocked table) = blocked_row table
image_row (image.NoSource attempts) = sources_row (length attempts)
image_row image.Memory = memory_row

-- why the command ended
unfoldable pub row_of : CommandRefusal → Row
row_of (refusal.Words place kind) = words_row place kind
row_of (refusal.Reference text fault) = reference_row text fault
row_of (refusal.SamePlace path) = same_row path
row_of (refusal.NotBuilt part) = unbuilt_row (unbuilt_word part)
row_of (refusal.PolicyMissing path) = missing_row path
row_of (refusal.PolicyInvalid path kind member) = policy_row path kind member
row_of refusal.PolicyTooLarge = large_row what.Policy 4194305
row_of (refusal.ConfMissing path) = conf_row path (codes "Absent") []
row_of (refusal.ConfInvalid path fault) = conf_row path (conf_word fault) (conf_member fault)
row_of refusal.ConfTooLarge = large_row what.Conf 4194305
row_of (refusal.Image e) = image_row e
row_of (refusal.Output count) = output_row count
