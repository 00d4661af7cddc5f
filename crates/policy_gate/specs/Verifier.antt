-- The protocol of the program that judges signatures. It is started without arguments; with LF a line feed, its input is
--
--   "skopeo-verify 1" LF
--   "keys " COUNT LF  {"key " LENGTH LF BYTES LF}
--   "signature " LENGTH LF BYTES LF
--   "end" LF
--
-- and its answer, with status 0, is "good " LENGTH LF and so many bytes of payload, or "bad " REASON LF, where REASON
-- is 1 to 200 bytes from space to "~". Numbers are decimal and without leading zeros.
use Rattle.std.specs.Prelude.{ℕ, ◌+◌, ℤ, pos, negsuc, ◌==◌, false, codes, List, [], ◌∷◌, ◌++◌, length, take, drop, decimal, flat_map, Bool, ◌&&◌, nat_eq, nat_le, nat_lt, if◌then◌else◌, Option, Some, None, Result, Ok, Err}
use Rattle.std.specs.List.{list_all, starts_with}
use Rattle.std.specs.Str.{bytes_eq}
use Rattle.image_ref.specs.Cuts.{Cut, cut_at}
use Rattle.policy_gate.specs.declared.verdict.Verdict.{Verdict}
use Rattle.policy_gate.specs.declared.verdict.Verdict.TheVariants.{Good, Bad}
use Rattle.policy_gate.specs.declared.fault.AskFault.{AskFault}
use Rattle.policy_gate.specs.declared.fault.AskFault.TheVariants.{Garbled, TooLarge}

abbrev pub line_feed : ℕ
line_feed = 10

-- a word, a number and a line feed
abbrev pub line : List ℕ → ℕ → List ℕ
line word n = word ++ (decimal n ++ (line_feed ∷ []))

-- a word, a length and so many bytes
abbrev pub part : List ℕ → List ℕ → List ℕ
part word bytes = line word (length bytes) ++ (bytes ++ (line_feed ∷ []))

-- the keys, one after the other
abbrev pub key_parts : List (List ℕ) → List ℕ
key_parts keys = flat_map (part (codes "key ")) keys

-- the whole input
unfoldable pub verifier_input : List (List ℕ) → List ℕ → List ℕ
verifier_input keys signature =
    line (codes "skopeo-verify ") 1 ++ (line (codes "keys ") (length keys) ++ (key_parts keys
    ++ (part (codes "signature ") signature ++ (codes "end" ++ (line_feed ∷ [])))))

-- the most bytes that an answer may have
unfoldable pub answer_limit : ℕ
answer_limit = 4194368

-- a byte from space to `~`
abbrev pub is_visible : ℕ → Bool
is_visible b = nat_le 32 b && nat_le b 126

-- 1 to 200 bytes from space to `~`
abbrev pub is_reason : List ℕ → Bool
is_reason text = (nat_le 1 (length text) && nat_le (length text) 200) && list_all is_visible text

-- a length, a line feed and so many bytes of payload
abbrev pub good_of : Cut → Option Verdict
good_of (number, None) = None
good_of (number, Some payload) = if bytes_eq number (decimal (length payload)) then Some (Good payload) else None

-- a reason and a line feed, which ends the answer
abbrev pub bad_of : Cut → Option Verdict
bad_of (reason, Some []) = if is_reason reason then Some (Bad reason) else None
bad_of _ = None

-- the verdict that the bytes spell
unfoldable pub verdict_of : List ℕ → Option Verdict
verdict_of bytes =
    if starts_with nat_eq bytes (codes "good ") then good_of (cut_at line_feed (drop 5 bytes))
    else if starts_with nat_eq bytes (codes "bad ") then bad_of (cut_at line_feed (drop 4 bytes))
    else None

-- a verdict where there is one, else the answer is garbled
abbrev pub or_garbled : ℤ → List ℕ → Option Verdict → Result Verdict AskFault
or_garbled status bytes (Some verdict) = Ok verdict
or_garbled status bytes None = Err (Garbled status (take 64 bytes))

abbrev pub is_zero : ℤ → Bool
is_zero (pos n) = n == 0
is_zero (negsuc n) = false

-- with another status than 0 every answer is garbled
abbrev pub by_status : ℤ → List ℕ → Result Verdict AskFault
by_status status bytes = or_garbled status bytes (if is_zero status then verdict_of bytes else None)

-- an answer that is too long is that before its form or the status is looked at
unfoldable pub answer_of : ℤ → List ℕ → Result Verdict AskFault
answer_of status bytes =
    if nat_lt answer_limit (length bytes) then Err (TooLarge (answer_limit + 1)) else by_status status bytes
