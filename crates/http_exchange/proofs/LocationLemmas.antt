-- The port of a host, and the first header line of a name.
use Rattle.std.proofs.Common.{◌≡◌, ℕ, ◌+◌, ◌<◌, ◌≤◌, Bool, true, false, ◌&&◌, nat_le, cond, ◌==◌, suc, List, ◌∷◌, length, get_or, drop, map, codes, Option, Some, arith, ap, sym, subst, ◌∙◌, drop-cons}
use Rattle.std.specs.List.{list_all, slice_split}
use Rattle.std.proofs.lemmas.Bool.{and_parts}
use Rattle.std.proofs.lemmas.Bool.Decides.{nat_tests}
use Rattle.http1.specs.Text.{eq_ignore_case}
use Rattle.image_ref.specs.Characters.{is_digit, colon, dot}
use Rattle.image_ref.specs.Cuts.{cut_at}
use Rattle.image_ref.specs.Domain.{is_domain, is_label, is_port, number, passes_or_none}
use Rattle.skopeo_outside.specs.declared.pair.Pair.{Pair}
use Rattle.http_message.specs.Shown.{pair_bytes}
use Rattle.http_exchange.specs.Locations.{location_in}

at_most : (a b : ℕ) → nat_le a b ≡ true → a ≤ b
at_most a b e = grind (arith, nat_tests)

pub record PortParts (text : List ℕ) : Type 0 where
  pub digits : list_all is_digit text ≡ true
  pub some : 0 < length text
  pub few : length text ≤ 5
  pub small : number text ≤ 65535

pub port_parts : (text : List ℕ) → is_port text ≡ true → PortParts text
port_parts text is =
    let p = and_parts (list_all is_digit text && (nat_le 1 (length text) && nat_le (length text) 5)) (nat_le 1 (number text) && nat_le (number text) 65535) is in
    let q = and_parts (list_all is_digit text) (nat_le 1 (length text) && nat_le (length text) 5) p.0 in
    let r = and_parts (nat_le 1 (length text)) (nat_le (length text) 5) q.1 in
    let s = and_parts (nat_le 1 (number text)) (nat_le (number text) 65535) p.1 in
    record { digits = q.0; some = at_most 1 (length text) r.0; few = at_most (length text) 5 r.1; small = at_most (number text) 65535 s.1 }

pub port_of_domain : (text digits : List ℕ) → is_domain text ≡ true → Some digits ≡ (cut_at colon text).1 → is_port digits ≡ true
unfolding is_domain
port_of_domain text digits is e =
    let p = and_parts (list_all is_label (slice_split (λ b. b == dot) (cut_at colon text).0)) (passes_or_none is_port (cut_at colon text).1) is in
    subst (λ (o : Option (List ℕ)). passes_or_none is_port o ≡ true) (sym e) p.1

-- the line at the front, and those behind it
at_front : (headers : List Pair) (i : ℕ) (p : Pair) → i < length headers → get_or headers i p ≡ p → drop i headers ≡ p ∷ drop (i + 1) headers
at_front headers i p inside is = drop-cons headers i p inside ∙ ap (λ (x : Pair). x ∷ drop (suc i) headers) is
    ∙ ap (λ (k : ℕ). p ∷ drop k headers) (one_more i)
  where
    one_more : (k : ℕ) → suc k ≡ k + 1
    one_more k = omega arith

pub location_found : (headers : List Pair) (i : ℕ) (p : Pair) → i < length headers → get_or headers i p ≡ p → eq_ignore_case p.name (codes "location") ≡ true
    → location_in (map pair_bytes (drop i headers)) ≡ Some p.value
location_found headers i p inside is named =
    ap (λ (hs : List Pair). location_in (map pair_bytes hs)) (at_front headers i p inside is)
    ∙ ap (λ (b : Bool). cond b (Some p.value) (location_in (map pair_bytes (drop (i + 1) headers)))) named

pub location_behind : (headers : List Pair) (i : ℕ) (p : Pair) → i < length headers → get_or headers i p ≡ p → eq_ignore_case p.name (codes "location") ≡ false
    → location_in (map pair_bytes (drop i headers)) ≡ location_in (map pair_bytes (drop (i + 1) headers))
location_behind headers i p inside is named =
    ap (λ (hs : List Pair). location_in (map pair_bytes hs)) (at_front headers i p inside is)
    ∙ ap (λ (b : Bool). cond b (Some p.value) (location_in (map pair_bytes (drop (i + 1) headers)))) named
