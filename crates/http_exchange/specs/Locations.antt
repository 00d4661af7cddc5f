-- Where the `Location` of an answer leads (RFC 9110, section 10.2.2), as far as this client goes.
use Rattle.std.specs.Prelude.{ℕ, cond, ◌&&◌, nat_eq, List, [], ◌∷◌, drop, codes, Option, Some, None}
use Rattle.std.specs.List.{starts_with}
use Rattle.http1.specs.Text.{eq_ignore_case}
use Rattle.image_ref.specs.Characters.{colon, slash}
use Rattle.image_ref.specs.Cuts.{cut_at}
use Rattle.image_ref.specs.Domain.{is_domain, number}
use Rattle.http_message.specs.Outcome.{Header}
pub use Rattle.http_message.specs.Visible.{are_visible}
use Rattle.http_message.specs.Faults.{shown}

-- where it leads: to a target at a host over plain HTTP, to a host over TLS, or nowhere that is followed
pub data Lead : Type 0 where
  plain : (host : List ℕ) (port : ℕ) (target : List ℕ) → Lead
  tls : (host : List ℕ) → Lead
  nowhere : Lead

-- the port of a host: the one that is written, else 80
abbrev pub port_in : Option (List ℕ) → ℕ
port_in None = 80
port_in (Some digits) = number digits

abbrev pub port_of : List ℕ → ℕ
port_of host = port_in (cut_at colon host).1

-- the target behind a host: from its slash on, or the root
abbrev pub target_in : Option (List ℕ) → List ℕ
target_in None = slash ∷ []
target_in (Some path) = slash ∷ path

-- behind `http://`: a host, with its port or without, and a target
abbrev pub plain_lead : List ℕ → Option (List ℕ) → Lead
plain_lead host path =
    cond (is_domain host && are_visible (target_in path)) (plain host (port_of host) (target_in path)) nowhere

-- a path at the host that was asked
abbrev pub path_lead : List ℕ → ℕ → List ℕ → Lead
path_lead host port text = cond (starts_with nat_eq text (codes "/") && are_visible text) (plain host port text) nowhere

-- without its fragment: an address over plain HTTP or TLS, or a path at the host that was asked
abbrev pub lead_of : List ℕ → ℕ → List ℕ → Lead
lead_of host port text =
    cond (starts_with nat_eq text (codes "http://")) (plain_lead (cut_at slash (drop 7 text)).0 (cut_at slash (drop 7 text)).1)
    (cond (starts_with nat_eq text (codes "https://")) (tls (cut_at slash (drop 8 text)).0)
    (path_lead host port text))

-- the value of the first header line `Location`
abbrev pub location_in : List Header → Option (List ℕ)
location_in [] = None
location_in (h ∷ hs) = cond (eq_ignore_case h.0 (codes "location")) (Some h.1) (location_in hs)

-- where an answer of this host leads; without a location nowhere; what follows a number sign is dropped
abbrev pub lead_by : List ℕ → ℕ → Option (List ℕ) → Lead
lead_by host port None = nowhere
lead_by host port (Some value) = lead_of host port (cut_at 35 value).0

abbrev pub lead_in : List ℕ → ℕ → List Header → Lead
lead_in host port headers = lead_by host port (location_in headers)

-- the first bytes of a location, as a bad answer shows them, and none where it is absent
abbrev pub shown_value : Option (List ℕ) → List ℕ
shown_value None = []
shown_value (Some value) = shown value

abbrev pub shown_location : List Header → List ℕ
shown_location headers = shown_value (location_in headers)
