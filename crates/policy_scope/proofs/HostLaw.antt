-- The host of a reference holds no slash.
use Rattle.std.proofs.Common.{◌≡◌, ℕ, true, List, Option, Some, None, refl, inl, inr, codes}
use Rattle.std.specs.Str.{bytes_eq}
use Rattle.std.proofs.lemmas.Bool.{cases_Bool}
use Rattle.image_ref.specs.Characters.{slash}
use Rattle.image_ref.specs.Cuts.{lacks}
use Rattle.image_ref.specs.Reference.{Reference, Named, IsHost, normal_host}
use Rattle.image_ref.proofs.ByteLemmas.{lacking}
use Rattle.image_ref.proofs.DomainLaw.{domain_byte, domain_bytes}

host_lacks : (domain : Option (List ℕ)) (items : List (List ℕ)) → IsHost domain items → lacks slash (normal_host domain) ≡ true
host_lacks None items h = refl
host_lacks (Some d) items h =
    elim (cases_Bool (bytes_eq d (codes "index.docker.io"))) [
      | inl same ↦ rw same refl
      | inr other ↦ rw other (lacking domain_byte slash refl d (domain_bytes d h.0))
    ]

pub named_host : (text : List ℕ) (r : Reference) → Named text r → lacks slash r.host ≡ true
named_host text r named =
    let parts = named.1 in
    rw parts.normal (host_lacks named.0.domain named.0.components parts.host)
