-- From the reading of a tree to the clauses on bytes.
use Rattle.std.proofs.Common.{◌≡◌, ℕ, List, Option, Result, Ok, Err}
use Rattle.serde_json.specs.Data.{Data}
use Rattle.json_tree.specs.Tree.{tree}
use Rattle.json_tree.proofs.SortedLemmas.{sorted-tree}
use Rattle.manifest_v2s2.specs.Bad.{BadImage}
use Rattle.manifest_v2s2.specs.Image.{image_of}
use Rattle.manifest_v2s2.specs.Calls.{Reads, NamesFirstBad}
use Rattle.manifest_v2s2.specs.declared.image.Image.{Image}
use Rattle.manifest_v2s2.specs.declared.kind.Kind.{Kind}
use Rattle.manifest_v2s2.specs.declared.fault.ManifestFault.{ManifestFault}
use Rattle.manifest_v2s2.specs.declared.fault.ManifestFault.TheVariants.{Member, Memory}
use Rattle.manifest_v2s2.proofs.BadLemmas.{names-image}

-- what is read of bytes names the first bad member
pub first-image : (kind : Kind) (bytes : List ℕ) (r : Result Image ManifestFault) → Reads r (image_of kind (tree bytes)) → NamesFirstBad r (BadImage kind (tree bytes))
first-image kind bytes (Ok i) h = rw h at (names-image kind (tree bytes) (sorted-tree bytes))
first-image kind bytes (Err (Member text)) h = (h.0, rw h.1 at (names-image kind (tree bytes) (sorted-tree bytes)), h.2)
first-image kind bytes (Err Memory) h = tt

-- so does what is read of a tree that bytes are
pub first-parsed : (kind : Kind) (o : Option Data) (r : Result Image ManifestFault) → Reads r (image_of kind o) → (bytes : List ℕ) → o ≡ tree bytes → NamesFirstBad r (BadImage kind (tree bytes))
first-parsed kind o r h bytes e = first-image kind bytes r (rw e at h)
