-- The lines of rows, the texts on both outputs, and the status.
use Rattle.std.specs.Prelude.{◌+◌, ◌++◌, ◌==◌, ◌∷◌, List, [], ℕ, nat_le, if◌then◌else◌, codes, Result, Ok, Err}
use Rattle.std.specs.Fmt.{decimal, signed_decimal}
use Rattle.hex.specs.Hex.{encode_lower}
use Rattle.serde_json.specs.Data.{string}
use Rattle.serde_json.specs.Written.{compact_text}
use Rattle.image_ref.specs.Digest.{digest_text}
use Rattle.policy_gate.specs.declared.fault.Reason.{Reason}
use Rattle.policy_gate.specs.declared.fault.Why.{Why}
use Rattle.policy_gate.specs.declared.fault.Why.TheVariants.{Signatures}
use Rattle.transports.specs.declared.attempt.Attempt.{Attempt}
use Rattle.transports.specs.declared.refusal.Refusal.{Refusal}
use Rattle.transports.specs.declared.refusal.Refusal.TheVariants as image
use Rattle.skopeo_app.specs.declared.run.Done.{Done}
use Rattle.skopeo_app.specs.declared.rows.Printed.{Printed}
use Rattle.skopeo_app.specs.declared.refusal.CommandRefusal.{CommandRefusal}
use Rattle.skopeo_app.specs.declared.refusal.CommandRefusal.TheVariants as refusal
use Rattle.skopeo_app.specs.Words.{reason_word, reason_text}
use Rattle.skopeo_app.specs.Rows.{Field, as_number, as_signed, as_word, as_text, as_digest, as_bytes, Row, attempt_row, row_of}

-- a text as a JSON text (RFC 8259, section 7)
unfoldable pub json_text : List ℕ → List ℕ
json_text text = compact_text (string text)

-- a field as it is printed
abbrev pub field_text : Field → List ℕ
field_text (as_number n) = decimal n
field_text (as_signed z) = signed_decimal z
field_text (as_word word) = word
field_text (as_text text) = json_text text
field_text (as_digest digest) = digest_text digest
field_text (as_bytes bytes) = encode_lower bytes

-- the fields of a row, up to the end of its line
abbrev pub fields_text : List (List ℕ × Field) → List ℕ
fields_text [] = codes "\n"
fields_text ((key, field) ∷ rest) = codes " " ++ (key ++ (codes "=" ++ (field_text field ++ fields_text rest)))

-- a row with its fields as they are printed
abbrev pub as_printed : ℕ → List ℕ → List ℕ → Printed
as_printed number name fields = record { number = number; name = name; fields = fields }

unfoldable pub printed : Row → Printed
printed row = as_printed row.number row.name (fields_text row.fields)

-- a printed row of a job: the job's number first, but for want of memory
abbrev pub printed_in_job : ℕ → Printed → Printed
printed_in_job job row = if row.number == 4 then row else as_printed row.number row.name (codes " job=" ++ (decimal job ++ row.fields))

-- number, name and fields, up to the end of the line
abbrev pub row_text : Printed → List ℕ
row_text row = decimal row.number ++ (codes " " ++ (row.name ++ row.fields))

-- the sources that were asked in vain
abbrev pub attempts_in : Refusal → List Attempt
attempts_in (image.NoSource attempts) = attempts
attempts_in _ = []

abbrev pub attempts_of : CommandRefusal → List Attempt
attempts_of (refusal.Image e) = attempts_in e
attempts_of _ = []

-- the line of one: its number, its text, and number, name and fields of its cause
unfoldable pub attempt_line : ℕ → Attempt → List ℕ
attempt_line number tried = codes "attempt " ++ (decimal number ++ (codes " source=" ++ (json_text tried.source ++ (codes " " ++ row_text (printed (attempt_row tried.cause))))))

-- the lines of all, of which the first has this number
abbrev pub attempt_lines : ℕ → List Attempt → List ℕ
attempt_lines number [] = []
attempt_lines number (tried ∷ rest) = attempt_line number tried ++ attempt_lines (number + 1) rest

-- the signatures of which none was accepted: why not, one by one
abbrev pub reasons_by : Why → List Reason
reasons_by (Signatures reasons) = reasons
reasons_by _ = []

abbrev pub reasons_in : Refusal → List Reason
reasons_in (image.Rejected scope place why) = reasons_by why
reasons_in _ = []

abbrev pub reasons_of : CommandRefusal → List Reason
reasons_of (refusal.Image e) = reasons_in e
reasons_of _ = []

-- the line of one: its number, why it was not accepted, and what was said or signed
unfoldable pub signature_line : ℕ → Reason → List ℕ
signature_line number why = codes "signature " ++ (decimal number ++ (codes " " ++ (reason_word why ++ (codes " " ++ (json_text (reason_text why) ++ codes "\n")))))

-- the lines of all, of which the first has this number
abbrev pub signature_lines : ℕ → List Reason → List ℕ
signature_lines number [] = []
signature_lines number (why ∷ rest) = signature_line number why ++ signature_lines (number + 1) rest

-- the line of a refusal, one for each source that was asked in vain, and one for each signature that was not accepted
unfoldable pub refusal_line : CommandRefusal → List ℕ
refusal_line e = codes "skopeo: " ++ (row_text (printed (row_of e)) ++ (attempt_lines 1 (attempts_of e) ++ signature_lines 1 (reasons_of e)))

-- the status of a row: 2 for words, 4 for want of memory, 3 for an object that failed, and 1 for places, policy, source or a blob
abbrev pub status_of_number : ℕ → ℕ
status_of_number n = if n == 2 then 2 else if n == 4 then 4 else if nat_le 40 n then 3 else 1

-- the status of a refusal
abbrev pub status_of_refusal : CommandRefusal → ℕ
status_of_refusal e = status_of_number (row_of e).number

-- the status of an answer
abbrev pub status_of : Result Done CommandRefusal → ℕ
status_of (Ok done) = 0
status_of (Err refusal) = status_of_refusal refusal

-- the text on `err`
abbrev pub err_lines : Result Done CommandRefusal → List ℕ
err_lines (Ok done) = []
err_lines (Err refusal) = refusal_line refusal

-- the text on `out`
abbrev pub out_lines : Result Done CommandRefusal → List ℕ
out_lines (Ok done) = done.lines
out_lines (Err refusal) = []
