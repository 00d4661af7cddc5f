-- Whether an answer is encoded, and how its body ends, by its header lines (RFC 9110, section 8.4; RFC 9112, section 6.3).
use Rattle.std.specs.Prelude.{ℕ, ◌^◌, Bool, not, ◌&&◌, List, [], ◌∷◌, length, if◌then◌else◌, nat_lt, codes, flat_map}
use Rattle.std.specs.List.{list_all, list_any}
use Rattle.std.specs.Char.{is_ascii_digit}
use Rattle.std.specs.Str.Parse.{digits_value}
use Rattle.http1.specs.Text.{eq_ignore_case}
use Rattle.http_message.specs.declared.framing.Framing.{Framing}
use Rattle.http_message.specs.declared.framing.Framing.TheVariants.{Wrong, Sized, Chunked, ToEnd}
use Rattle.http_message.specs.Outcome.{Header}

-- the value, if the name is that one in upper or lower case
abbrev pub value_if_named : List ℕ → Header → List (List ℕ)
value_if_named name h = if eq_ignore_case h.0 name then h.1 ∷ [] else []

-- the values of the header lines of this name, in order
abbrev pub values_named : List ℕ → List Header → List (List ℕ)
values_named name headers = flat_map (value_if_named name) headers

-- a content encoding other than `identity`
abbrev pub is_coding : Header → Bool
is_coding h = eq_ignore_case h.0 (codes "content-encoding") && not (eq_ignore_case h.1 (codes "identity"))

-- some header line is one
abbrev pub is_encoded : List Header → Bool
is_encoded headers = list_any is_coding headers

-- one or more decimal digits, of a number below 2 ^ 64
abbrev pub is_number : List ℕ → Bool
is_number text = nat_lt 0 (length text) && (list_all is_ascii_digit text && nat_lt (digits_value 10 text) (2 ^ 64))

-- by the lengths and the transfer codings: one length, the one coding `chunked`, or none of both
abbrev pub framing_by : List (List ℕ) → List (List ℕ) → Framing
framing_by [] [] = ToEnd
framing_by (size ∷ []) [] = if is_number size then Sized (digits_value 10 size) else Wrong
framing_by [] (coding ∷ []) = if eq_ignore_case coding (codes "chunked") then Chunked else Wrong
framing_by _ _ = Wrong

-- how the body behind these header lines ends
abbrev pub framing_of : List Header → Framing
framing_of headers = framing_by (values_named (codes "content-length") headers) (values_named (codes "transfer-encoding") headers)
