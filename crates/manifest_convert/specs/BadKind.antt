-- The bad members of a tree that is to be a manifest of some kind (docs/manifests.md, "Kinds").
use Rattle.std.specs.Prelude.{◌≡◌, ℕ, codes, List, Bool, true, false, Option, Some, None}
use Rattle.serde_json.specs.Data.{Data, object}
use Rattle.json_tree.specs.declared.path.Step.TheVariants.{Name}
use Rattle.json_tree.specs.First.{Path, Itself, Below, ◌or◌}
use Rattle.manifest_v2s2.specs.Media.{is_list}
use Rattle.manifest_v2s2.specs.Bad.{ItselfIf, BelowName, BadPresent, BadVersion}
use Rattle.manifest_v2s2.specs.declared.kind.Kind.{Kind}
use Rattle.manifest_convert.specs.HasKind.{IsGiven}

-- a kind is given that is a list's, or that is an image's
abbrev pub GivesList : List ℕ → Data → Bool → Type 0
GivesList content d list = (kind : Kind) × IsGiven content d kind × (is_list kind ≡ list)

-- what stands there must not, where such a kind is given
abbrev pub BadWhere : Type 0 → Option Data → Path → Type 0
BadWhere Given o p = BadPresent o p × Given

-- of an object that came under a content type
abbrev pub BadMembers : List ℕ → Data → Path → Type 0
BadMembers content d =
    BelowName (codes "config") (BadWhere (GivesList content d true)) d
    or (BelowName (codes "layers") (BadWhere (GivesList content d true)) d
    or (BelowName (codes "manifests") (BadWhere (GivesList content d false)) d
    or (Below (Name (codes "mediaType")) (ItselfIf ((kind : Kind) → IsGiven content d kind → ⊥))
    or BelowName (codes "schemaVersion") BadVersion d)))

-- the bad members of a manifest with a content type
unfoldable pub BadKind : List ℕ → Option Data → Path → Type 0
BadKind content (Some (object ms)) = BadMembers content (object ms)
BadKind content _ = Itself
