-- The tree that is written for an image (docs/manifests.md, "Writing").
use Rattle.std.specs.Prelude.{ℕ, codes, List, [], ◌∷◌, map}
use Rattle.serde_json.specs.Data.{Data, number, string, array, object, unsigned, Members, no_members, put}
use Rattle.serde_json.specs.View.{items_of}
use Rattle.skopeo_outside.specs.declared.pair.Pair.{Pair}
use Rattle.image_ref.specs.Digest.{digest_text}
use Rattle.json_tree.specs.Build.{put_all}
use Rattle.manifest_v2s2.specs.Media.{media_of}
use Rattle.manifest_v2s2.specs.declared.descriptor.Descriptor.{Descriptor}
use Rattle.manifest_v2s2.specs.declared.image.Image.{Image}

-- a list of texts
abbrev pub texts_data : List (List ℕ) → Data
texts_data ts = array (items_of (map string ts))

-- `urls` stands only where it is not empty
abbrev pub put_urls : List (List ℕ) → Members → Members
put_urls [] ms = ms
put_urls (u ∷ us) ms = put (codes "urls") (texts_data (u ∷ us)) ms

-- `annotations` stands only where it is not empty
abbrev pub put_annotations : List Pair → Members → Members
put_annotations [] ms = ms
put_annotations (a ∷ more) ms = put (codes "annotations") (object (put_all (a ∷ more) no_members)) ms

-- a descriptor's object
unfoldable pub descriptor_data : Descriptor → Data
descriptor_data x =
    object (put_annotations x.annotations (put_urls x.urls
    (put (codes "size") (number (unsigned x.size)) (put (codes "mediaType") (string x.media) (put (codes "digest") (string (digest_text x.digest)) no_members)))))

-- an image's object, with the media type of its kind
unfoldable pub image_data : Image → Data
image_data i =
    object (put (codes "schemaVersion") (number (unsigned 2)) (put (codes "mediaType") (string (media_of i.kind))
    (put (codes "layers") (array (items_of (map descriptor_data i.layers))) (put (codes "config") (descriptor_data i.config) no_members))))
