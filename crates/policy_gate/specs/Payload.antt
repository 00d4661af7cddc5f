-- The payload of a signature (containers-signature(5), "JSON data format"): the value, or its first bad member.
-- Members are looked at in byte order of their names, and what is inside a member before the next one.
use Rattle.std.specs.Prelude.{◌≡◌, ◌⊎◌, ℕ, ◌^◌, codes, List, [], ◌∷◌, nat_lt, Option, Some, None, if◌then◌else◌, Result, Ok, Err, ⊤}
use Rattle.std.specs.Str.{bytes_eq}
use Rattle.serde_json.specs.Data.{Data, number, string, object, unsigned, negative, Members}
use Rattle.serde_json.specs.Find.{get_member}
use Rattle.json_tree.specs.declared.path.Step.TheVariants.{Name}
use Rattle.json_tree.specs.Checked.{Checked, under}
use Rattle.json_tree.specs.Leaf.{bad}
use Rattle.json_tree.specs.Tree.{tree, pointer}
use Rattle.policy_file.specs.Members.{unknown_name}
use Rattle.policy_gate.specs.declared.payload.Payload.{Payload}
use Rattle.policy_gate.specs.declared.fault.PayloadFault.{PayloadFault}
use Rattle.policy_gate.specs.declared.fault.PayloadFault.TheVariants.{Member, Memory}
use Rattle.json_tree.specs.declared.fault.Fault.{Fault}
use Rattle.json_tree.specs.declared.fault.Fault.TheVariants as fault
use Rattle.policy_gate.specs.Reading.{◌>>=◌, none_left, next, only_text}

abbrev pub kind_word : List ℕ
kind_word = codes "atomic container signature"

-- `type` is that text
abbrev pub kind_of : Option Data → Checked ⊤
kind_of (Some (string s)) = if bytes_eq s kind_word then Ok tt else bad
kind_of _ = bad

abbrev pub critical_names : List (List ℕ)
critical_names = codes "identity" ∷ codes "image" ∷ codes "type" ∷ []

-- `critical` has the name and the digest that were signed
unfoldable pub critical_members : Members → Checked Payload
critical_members ms = do
  reference ← next (codes "identity") (unknown_name critical_names ms) (only_text (codes "docker-reference") (get_member (codes "identity") ms))
  digest ← next (codes "image") (unknown_name critical_names ms) (only_text (codes "docker-manifest-digest") (get_member (codes "image") ms))
  _ ← next (codes "type") (unknown_name critical_names ms) (kind_of (get_member (codes "type") ms))
  _ ← none_left (unknown_name critical_names ms)
  Ok (record { digest = digest; reference = reference })

abbrev pub critical_of : Option Data → Checked Payload
critical_of (Some (object ms)) = critical_members ms
critical_of _ = bad

-- a text, where it is there
abbrev pub creator_of : Option Data → Checked ⊤
creator_of None = Ok tt
creator_of (Some (string s)) = Ok tt
creator_of (Some _) = bad

-- a whole number from -2 ^ 63 to 2 ^ 63 - 1, where it is there; below 0 no other whole number is read
abbrev pub timestamp_of : Option Data → Checked ⊤
timestamp_of None = Ok tt
timestamp_of (Some (number (unsigned n))) = if nat_lt n (2 ^ 63) then Ok tt else bad
timestamp_of (Some (number (negative z))) = Ok tt
timestamp_of (Some _) = bad

-- `optional` has any members, but these two are of their types
abbrev pub optional_of : Option Data → Checked ⊤
optional_of (Some (object ms)) = do
  _ ← under (Name (codes "creator")) (creator_of (get_member (codes "creator") ms))
  under (Name (codes "timestamp")) (timestamp_of (get_member (codes "timestamp") ms))
optional_of _ = bad

abbrev pub payload_names : List (List ℕ)
payload_names = codes "critical" ∷ codes "optional" ∷ []

-- a payload is an object with just `critical` and `optional`
unfoldable pub payload_members : Members → Checked Payload
payload_members ms = do
  payload ← next (codes "critical") (unknown_name payload_names ms) (critical_of (get_member (codes "critical") ms))
  _ ← next (codes "optional") (unknown_name payload_names ms) (optional_of (get_member (codes "optional") ms))
  _ ← none_left (unknown_name payload_names ms)
  Ok payload

abbrev pub payload_of : Option Data → Checked Payload
payload_of (Some (object ms)) = payload_members ms
payload_of _ = bad

-- a reading as callers are told it: the fault is the JSON Pointer of its member
abbrev pub told_of : {A : Type 0} → Checked A → Result A PayloadFault
told_of (Ok x) = Ok x
told_of (Err p) = Err (Member (pointer p))

-- the payload that bytes are, or the JSON Pointer of the first bad member
abbrev pub payload_in : List ℕ → Result Payload PayloadFault
payload_in bytes = told_of (payload_of (tree bytes))

-- a fault as it is told, unless memory ran out
abbrev pub IsToldBy : PayloadFault → Fault → Type 0
IsToldBy told fault.Memory = told ≡ Memory
IsToldBy told (fault.Member path) = (told ≡ Memory) ⊎ (told ≡ Member (pointer path))
