-- The media types of manifests (docs/manifests.md, "Kinds").
use Rattle.std.specs.Prelude.{ℕ, codes, List, Bool, true, false}
use Rattle.manifest_v2s2.specs.declared.kind.Kind.{Kind}
use Rattle.manifest_v2s2.specs.declared.kind.Kind.TheVariants.{V2s2, V2s2List, Oci, OciIndex}

-- each kind's media type
abbrev pub media_of : Kind → List ℕ
media_of V2s2 = codes "application/vnd.docker.distribution.manifest.v2+json"
media_of V2s2List = codes "application/vnd.docker.distribution.manifest.list.v2+json"
media_of Oci = codes "application/vnd.oci.image.manifest.v1+json"
media_of OciIndex = codes "application/vnd.oci.image.index.v1+json"

-- a list's kind and no image's
abbrev pub is_list : Kind → Bool
is_list V2s2 = false
is_list V2s2List = true
is_list Oci = false
is_list OciIndex = true
