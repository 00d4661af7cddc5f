-- The image that the registry holds: `ns/app`, by its tag and by its digest, with its config and its layer.
use Rattle.std.specs.Prelude.{◌≡◌, ℕ, List, codes}
use Rattle.skopeo_outside.specs.Tree.{Tree, empty_tree, with_file}
use Rattle.skopeo_outside.specs.Peer.{manifest_target, blob_target}
use Rattle.skopeo_outside.specs.declared.map_peer.MapPeer.{MapPeer}
use Rattle.skopeo_outside.specs.declared.map_peer.PeerFraming.TheVariants.{Length}
use Rattle.lab_registry.specs.declared.image.TheConstants.{NAME, TAG, MANIFEST_DIGEST, MANIFEST_TYPE, MANIFEST, CONFIG_DIGEST, CONFIG, LAYER_DIGEST, LAYER}

-- these four texts, one at each target of the image
abbrev pub at_targets : List ℕ → List ℕ → List ℕ → List ℕ → Tree
at_targets tagged named config layer =
    let first = with_file empty_tree (blob_target NAME.now CONFIG_DIGEST.now) config in
    let second = with_file first (blob_target NAME.now LAYER_DIGEST.now) layer in
    let third = with_file second (manifest_target NAME.now MANIFEST_DIGEST.now) named in
    with_file third (manifest_target NAME.now TAG.now) tagged

-- the type of a blob
abbrev pub blob_type : List ℕ
blob_type = codes "application/octet-stream"

-- a registry that holds the image and nothing else, and tells where a body ends by its length
pub record HoldsImage (peer : MapPeer) : Type 0 where
  pub bodies : peer.bodies ≡ at_targets MANIFEST.now MANIFEST.now CONFIG.now LAYER.now
  pub types : peer.types ≡ at_targets MANIFEST_TYPE.now MANIFEST_TYPE.now blob_type blob_type
  pub framing : peer.framing ≡ Length
