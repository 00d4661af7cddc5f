-- The signatures and the manifest of an image in a folder: what they change, and what stays.
use Rattle.std.proofs.Common.{◌≡◌, ◌≢◌, ◌⊎◌, ◌∙◌, ◌<◌, ◌≤◌, ◌+◌, ◌^◌, [], List, ℕ, Option, Some, None, Contains, length, get_or, inl, inr, refl, sym, ap, subst, arith}
use Rattle.std.proofs.lemmas.Option.{slice_get-get_or, slice_get_within}
use Rattle.skopeo_outside.specs.Tree.{Tree, file_at}
use Rattle.skopeo_outside.specs.Outside.{Told}
use Rattle.skopeo_outside.specs.LaneTold.{LaneTold}
use Rattle.skopeo_outside.specs.LaneLaws.{told_then}
use Rattle.skopeo_outside.proofs.Trees.{path_cases}
use Rattle.digest_reader.specs.declared.job.Job.{Job}
use Rattle.layouts.specs.Names.{prefix_of, manifest_name, signature_by}
use Rattle.layouts.specs.Paths.{IsIn, IsManifestPath, blob_path, version_path}
use Rattle.layouts.specs.Trees.{OnlyAt, OnlyIn, IsPut, SameOrGone}
use Rattle.layouts.specs.Written as written
use Rattle.layouts.specs.Written.{signature_at, signature_part_at, IsApart}
use Rattle.layouts.proofs.NameLemmas.{manifest_not_version, manifest_part_not_version}
use Rattle.layouts.proofs.SignedLemmas.{signature_not_version, signature_part_not_version}
use Rattle.layouts.proofs.FolderLemmas.{same_folders}
use Rattle.transports.specs.declared.dest.Dest.TheVariants.{Folder}
use Rattle.transports.specs.Has.{StandsIn, HasBlob, KeepsAllBlobs, OnlyAtDest}
use Rattle.transports.specs.Writes.{KeepsOthers, WritesOnly, spot_of}
use Rattle.transports.specs.Fair.{IsFair, IsFairOn, Works}
use Rattle.transports.specs.Named.{AreSignedIn, AreSigned, IsNamed, IsOther, HoldsOnly, IsAlone}
use Rattle.transports.specs.Beside.{IsSignaturePath, SignsIn, manifest_at, manifest_part_at, NamesIn}
use Rattle.transports.specs.Calls.{OnFiles}
use Rattle.transports.proofs.ToldLemmas.{told_as}
use Rattle.transports.proofs.ReadyLemmas.{DoesWork, works_by}
use Rattle.transports.proofs.BesideLemmas.{signature_in, signature_part_in, signature_not_manifest, signature_part_not_manifest, signature_not_blob, signature_part_not_blob, manifest_in, manifest_part_in, part_not_manifest, parts_apart, manifest_not_blob, manifest_part_not_blob, signature_not_manifest_at, signature_not_manifest_part_at, one_of}

-- a path in a folder is none outside
in_not_out : {A : Type 0} (folder q p : List ℕ) → (IsIn folder q → ⊥) → IsIn folder p → q ≡ p → A
in_not_out folder q p out here e = absurd (out (subst (IsIn folder) (sym e) here))

-- ---- what signatures change

signs : (folder : List ℕ) (part : Option (List ℕ)) (signatures : List (List ℕ)) (count : ℕ) → count < 2 ^ 64 → (s t : Tree) → written.AreSigned folder (prefix_of part) signatures count s t → SignsIn folder part s t
signs folder part signatures count low s t signed = record { files = λ q. by q (one_of (signature_at folder (prefix_of part)) q count) (one_of (signature_part_at folder (prefix_of part)) q count); folders = signed.folders }
  where
    by : (q : List ℕ) → ((k : ℕ) × (k < count) × (q ≡ signature_at folder (prefix_of part) (k + 1))) ⊎ ((k : ℕ) → k < count → q ≢ signature_at folder (prefix_of part) (k + 1))
        → ((k : ℕ) × (k < count) × (q ≡ signature_part_at folder (prefix_of part) (k + 1))) ⊎ ((k : ℕ) → k < count → q ≢ signature_part_at folder (prefix_of part) (k + 1))
        → (file_at t q ≡ file_at s q) ⊎ IsSignaturePath folder part q
    by q (inl h) r = inr (h.0 + 1, omega (arith, h.1, low), inl h.2)
    by q (inr path) (inl h) = inr (h.0 + 1, omega (arith, h.1, low), inr h.2)
    by q (inr path) (inr other) = inl (signed.others q (λ k lt. record { path = path k lt; part = other k lt }))

signs_then : (folder : List ℕ) (part : Option (List ℕ)) (r s t : Tree) → SignsIn folder part r s → SignsIn folder part s t → SignsIn folder part r t
signs_then folder part r s t one two = record { files = λ q. by q (one.files q) (two.files q); folders = two.folders ∙ one.folders }
  where
    by : (q : List ℕ) → (file_at s q ≡ file_at r q) ⊎ IsSignaturePath folder part q → (file_at t q ≡ file_at s q) ⊎ IsSignaturePath folder part q → (file_at t q ≡ file_at r q) ⊎ IsSignaturePath folder part q
    by q x (inr path) = inr path
    by q (inr path) (inl same) = inr path
    by q (inl was) (inl same) = inl (same ∙ was)

signs_in_part : (folder : List ℕ) (part : Option (List ℕ)) (signatures : List (List ℕ)) → length signatures < 2 ^ 64 → (s t : Tree) → written.AreSignedInPart folder (prefix_of part) signatures s t → SignsIn folder part s t
signs_in_part folder part signatures low s t signed =
    signs_then folder part s signed.between t (signs folder part signatures signed.count (let le = signed.within in omega (arith, le, low)) s signed.between signed.before) (after (places signed.count signed.within))
  where
    places : (count : ℕ) → count ≤ length signatures → (count < length signatures) ⊎ (count ≡ length signatures)
    places count le = grind arith

    next : signed.count < length signatures → (q : List ℕ) → (q ≡ signature_part_at folder (prefix_of part) (signed.count + 1)) ⊎ (q ≢ signature_part_at folder (prefix_of part) (signed.count + 1)) → (file_at t q ≡ file_at signed.between q) ⊎ IsSignaturePath folder part q
    next lt q (inl e) = inr (signed.count + 1, omega (arith, lt, low), inr e)
    next lt q (inr other) = inl (signed.next.files q other)

    after : (signed.count < length signatures) ⊎ (signed.count ≡ length signatures) → SignsIn folder part signed.between t
    after (inl lt) = record { files = λ q. next lt q (path_cases q (signature_part_at folder (prefix_of part) (signed.count + 1))); folders = signed.next.folders }
    after (inr e) = subst (SignsIn folder part signed.between) (sym (signed.last e)) (record { files = λ q. inl refl; folders = refl })

-- where files are told
pub told_signs : (folder : List ℕ) (part : Option (List ℕ)) (signatures : List (List ℕ)) (x y : Option Tree) → length signatures < 2 ^ 64 → Told (written.AreSigned folder (prefix_of part) signatures (length signatures)) x y → Told (SignsIn folder part) x y
told_signs folder part signatures x y low told = told_as (written.AreSigned folder (prefix_of part) signatures (length signatures)) (SignsIn folder part) (signs folder part signatures (length signatures) low) x y told

pub told_signs_cut : (folder : List ℕ) (part : Option (List ℕ)) (signatures : List (List ℕ)) (x y : Option Tree) → length signatures < 2 ^ 64 → Told (written.AreSignedInPart folder (prefix_of part) signatures) x y → Told (SignsIn folder part) x y
told_signs_cut folder part signatures x y low told = told_as (written.AreSignedInPart folder (prefix_of part) signatures) (SignsIn folder part) (signs_in_part folder part signatures low) x y told

signs_do : (folder : List ℕ) (part : Option (List ℕ)) (lane : ℕ) → lane ≡ 0 → (s t : Tree) → SignsIn folder part s t → DoesWork folder lane s t
signs_do folder part lane first s t h = record {
  only = record { files = λ q out. only q out (h.files q); folders = same_folders folder s t h.folders };
  none = λ q m. none q m (h.files q);
  fair = λ q here. fair q (h.files q);
}
  where
    only : (q : List ℕ) → (IsIn folder q → ⊥) → (file_at t q ≡ file_at s q) ⊎ IsSignaturePath folder part q → file_at t q ≡ file_at s q
    only q out (inl same) = same
    only q out (inr (n, small, inl e)) = in_not_out folder q _ out (signature_in part n small folder) e
    only q out (inr (n, small, inr e)) = in_not_out folder q _ out (signature_part_in part n small folder) e

    none : (q : List ℕ) → IsManifestPath q → (file_at t q ≡ file_at s q) ⊎ IsSignaturePath folder part q → SameOrGone s t q
    none q m (inl same) = inl same
    none q m (inr (n, small, inl e)) = absurd (signature_not_manifest part n small folder (subst IsManifestPath e m))
    none q m (inr (n, small, inr e)) = absurd (signature_part_not_manifest part n small folder (subst IsManifestPath e m))

    fair : (q : List ℕ) → (file_at t q ≡ file_at s q) ⊎ IsSignaturePath folder part q → IsFair folder lane s t q
    fair q (inl same) = inl (inl same)
    fair q (inr (n, small, inl e)) = inr (inr (inr (record { first = first; name = signature_by (prefix_of part) n; kind = inr (inr (part, n, refl)); path_is = inl e })))
    fair q (inr (n, small, inr e)) = inr (inr (inr (record { first = first; name = signature_by (prefix_of part) n; kind = inr (inr (part, n, refl)); path_is = inr e })))

signs_keep : (folder : List ℕ) (part : Option (List ℕ)) (job : Job) (s t : Tree) → StandsIn folder job s → SignsIn folder part s t → StandsIn folder job t
signs_keep folder part job s t stands h = record { bytes = stands.bytes; there = by (h.files (blob_path folder job.digest)) ∙ stands.there; whole = stands.whole }
  where
    by : (file_at t (blob_path folder job.digest) ≡ file_at s (blob_path folder job.digest)) ⊎ IsSignaturePath folder part (blob_path folder job.digest) → file_at t (blob_path folder job.digest) ≡ file_at s (blob_path folder job.digest)
    by (inl same) = same
    by (inr (n, small, inl e)) = absurd (signature_not_blob part n small folder job.digest (sym e))
    by (inr (n, small, inr e)) = absurd (signature_part_not_blob part n small folder job.digest (sym e))

-- ---- signatures on a lane

pub signs_work : (folder : List ℕ) (part : Option (List ℕ)) (a b : LaneTold) → Told (SignsIn folder part) a.files.tree b.files.tree → a.number ≡ 0 → OnFiles a b → a.files.faults ≤ b.files.faults → Works (Folder folder) a b
signs_work folder part a b told first on le = works_by (SignsIn folder part) folder a b (signs_do folder part a.number first) on le told

pub signs_blobs : (folder : List ℕ) (part : Option (List ℕ)) (a b : LaneTold) → Told (SignsIn folder part) a.files.tree b.files.tree → KeepsAllBlobs (Folder folder) a b
unfolding HasBlob
signs_blobs folder part a b told job first has = told_then (λ r s. StandsIn folder job s) (SignsIn folder part) (λ r t. StandsIn folder job t) (λ r s t stands h. signs_keep folder part job s t stands h) first.files.tree a.files.tree b.files.tree has told

there_by : (folder : List ℕ) (part : Option (List ℕ)) (signatures : List (List ℕ)) (s t : Tree) → written.AreSigned folder (prefix_of part) signatures (length signatures) s t → AreSignedIn folder part signatures t
there_by folder part signatures s t signed k x is =
    let lt = slice_get_within signatures k x is in
    let same : Some (get_or signatures k x) ≡ Some x = sym (slice_get-get_or signatures k x lt) ∙ is in
    signed.there k x lt ∙ same

pub signed_are : (folder : List ℕ) (part : Option (List ℕ)) (signatures : List (List ℕ)) (a b : LaneTold) → Told (written.AreSigned folder (prefix_of part) signatures (length signatures)) a.files.tree b.files.tree → AreSigned (Folder folder) part signatures a b
unfolding AreSigned
signed_are folder part signatures a b told =
    told_as (written.AreSigned folder (prefix_of part) signatures (length signatures)) (λ s t. AreSignedIn folder part signatures t) (there_by folder part signatures) a.files.tree b.files.tree told

-- the image's own beside nothing but its blobs
signed_holds : (folder : List ℕ) (jobs : List Job) (signatures : List (List ℕ)) → length signatures < 2 ^ 64 → (s t : Tree) → HoldsOnly folder jobs [] s → written.AreSigned folder [] signatures (length signatures) s t → HoldsOnly folder jobs signatures t
signed_holds folder jobs signatures low s t holds signed = record {
  made = subst (λ l. Contains l folder) (sym signed.folders) holds.made;
  version = signed.others (version_path folder) (λ k lt. record {
    path = λ e. signature_not_version folder (k + 1) (omega (arith, lt, low)) (sym e);
    part = λ e. signature_part_not_version folder (k + 1) (omega (arith, lt, low)) (sym e);
  }) ∙ holds.version;
  gone = λ q other. by q other (one_of (signature_part_at folder []) q (length signatures));
}
  where
    by : (q : List ℕ) → IsOther folder jobs signatures q → ((k : ℕ) × (k < length signatures) × (q ≡ signature_part_at folder [] (k + 1))) ⊎ ((k : ℕ) → k < length signatures → q ≢ signature_part_at folder [] (k + 1)) → file_at t q ≡ None
    by q other (inl h) = ap (file_at t) h.2 ∙ signed.gone h.0 h.1
    by q other (inr none) = signed.others q (λ k lt. record { path = other.signature k lt; part = none k lt })
        ∙ holds.gone q (record { inside = other.inside; manifest = other.manifest; version = other.version; blob = other.blob; signature = λ k lt. absurd (omega (arith, lt)) })

pub signed_alone : (folder : List ℕ) (part : Option (List ℕ)) (signatures : List (List ℕ)) (a b : LaneTold) → length signatures < 2 ^ 64 → Told (written.AreSigned folder (prefix_of part) signatures (length signatures)) a.files.tree b.files.tree
    → (entry : LaneTold) (jobs : List Job) → IsAlone (Folder folder) jobs [] entry a → part ≡ None → IsAlone (Folder folder) jobs signatures entry b
unfolding IsAlone
signed_alone folder part signatures a b low told entry jobs alone none =
    told_then (λ r s. HoldsOnly folder jobs [] s) (written.AreSigned folder [] signatures (length signatures)) (λ r t. HoldsOnly folder jobs signatures t) (λ r s t holds signed. signed_holds folder jobs signatures low s t holds signed)
    entry.files.tree a.files.tree b.files.tree alone (subst (λ p. Told (written.AreSigned folder (prefix_of p) signatures (length signatures)) a.files.tree b.files.tree) none told)

-- ---- what a manifest changes

names : (folder : List ℕ) (part : Option (List ℕ)) (bytes : List ℕ) (s t : Tree) → IsPut (manifest_part_at folder part) (manifest_at folder part) bytes s t → NamesIn folder part bytes s t
names folder part bytes s t put = record { files = λ q. by q (path_cases q (manifest_part_at folder part)) (path_cases q (manifest_at folder part)); folders = put.folders }
  where
    by : (q : List ℕ) → (q ≡ manifest_part_at folder part) ⊎ (q ≢ manifest_part_at folder part) → (q ≡ manifest_at folder part) ⊎ (q ≢ manifest_at folder part)
        → (file_at t q ≡ file_at s q) ⊎ (q ≡ manifest_part_at folder part) ⊎ ((q ≡ manifest_at folder part) × (file_at t q ≡ Some bytes))
    by q (inl e) c = inr (inl e)
    by q (inr other) (inl e) = inr (inr (e, ap (file_at t) e ∙ put.there))
    by q (inr other) (inr apart) = inl (put.others q other apart)

names_in_part : (folder : List ℕ) (part : Option (List ℕ)) (bytes : List ℕ) (s t : Tree) → OnlyAt (manifest_part_at folder part) s t → NamesIn folder part bytes s t
names_in_part folder part bytes s t only = record { files = λ q. by q (path_cases q (manifest_part_at folder part)); folders = only.folders }
  where
    by : (q : List ℕ) → (q ≡ manifest_part_at folder part) ⊎ (q ≢ manifest_part_at folder part) → (file_at t q ≡ file_at s q) ⊎ (q ≡ manifest_part_at folder part) ⊎ ((q ≡ manifest_at folder part) × (file_at t q ≡ Some bytes))
    by q (inl e) = inr (inl e)
    by q (inr other) = inl (only.files q other)

pub told_names : (folder : List ℕ) (part : Option (List ℕ)) (bytes : List ℕ) (x y : Option Tree) → Told (IsPut (manifest_part_at folder part) (manifest_at folder part) bytes) x y → Told (NamesIn folder part bytes) x y
told_names folder part bytes x y told = told_as (IsPut (manifest_part_at folder part) (manifest_at folder part) bytes) (NamesIn folder part bytes) (names folder part bytes) x y told

pub told_names_cut : (folder : List ℕ) (part : Option (List ℕ)) (bytes : List ℕ) (x y : Option Tree) → Told (OnlyAt (manifest_part_at folder part)) x y → Told (NamesIn folder part bytes) x y
told_names_cut folder part bytes x y told = told_as (OnlyAt (manifest_part_at folder part)) (NamesIn folder part bytes) (names_in_part folder part bytes) x y told

abbrev Changed : List ℕ → Option (List ℕ) → List ℕ → Tree → Tree → List ℕ → Type 0
Changed folder part bytes s t q = (file_at t q ≡ file_at s q) ⊎ (q ≡ manifest_part_at folder part) ⊎ ((q ≡ manifest_at folder part) × (file_at t q ≡ Some bytes))

module _ (folder : List ℕ) (part : Option (List ℕ)) (bytes : List ℕ) (s t : Tree) (h : NamesIn folder part bytes s t) where
  name_only : OnlyIn folder s t
  name_only = record { files = λ q out. by q out (h.files q); folders = same_folders folder s t h.folders }
    where
      by : (q : List ℕ) → (IsIn folder q → ⊥) → Changed folder part bytes s t q → file_at t q ≡ file_at s q
      by q out (inl same) = same
      by q out (inr (inl e)) = in_not_out folder q _ out (manifest_part_in part folder) e
      by q out (inr (inr e)) = in_not_out folder q _ out (manifest_in part folder) e.0

  name_fair : (lane : ℕ) → lane ≡ 0 → (q : List ℕ) → IsIn folder q → IsFair folder lane s t q
  name_fair lane first q here = by (h.files q)
    where
      by : Changed folder part bytes s t q → IsFair folder lane s t q
      by (inl same) = inl (inl same)
      by (inr (inl e)) = inr (inr (inr (record { first = first; name = manifest_name part; kind = inr (inl (part, refl)); path_is = inr e })))
      by (inr (inr e)) = inr (inr (inr (record { first = first; name = manifest_name part; kind = inr (inl (part, refl)); path_is = inl e.0 })))

  name_writes : KeepsOthers (manifest_at folder part) bytes s t
  name_writes q m = by (h.files q)
    where
      by : Changed folder part bytes s t q → SameOrGone s t q ⊎ ((q ≡ manifest_at folder part) × (file_at t q ≡ Some bytes))
      by (inl same) = inl (inl same)
      by (inr (inl e)) = absurd (part_not_manifest part folder (subst IsManifestPath e m))
      by (inr (inr e)) = inr e

  name_keeps : (job : Job) → StandsIn folder job s → StandsIn folder job t
  name_keeps job stands = record { bytes = stands.bytes; there = by (h.files (blob_path folder job.digest)) ∙ stands.there; whole = stands.whole }
    where
      by : Changed folder part bytes s t (blob_path folder job.digest) → file_at t (blob_path folder job.digest) ≡ file_at s (blob_path folder job.digest)
      by (inl same) = same
      by (inr (inl e)) = absurd (manifest_part_not_blob part folder job.digest (sym e))
      by (inr (inr e)) = absurd (manifest_not_blob part folder job.digest (sym e.0))

  name_signed : (signatures : List (List ℕ)) → AreSignedIn folder part signatures s → AreSignedIn folder part signatures t
  name_signed signatures signed k x is = by (h.files (signature_at folder (prefix_of part) (k + 1))) ∙ signed k x is
    where
      by : Changed folder part bytes s t (signature_at folder (prefix_of part) (k + 1)) → file_at t (signature_at folder (prefix_of part) (k + 1)) ≡ file_at s (signature_at folder (prefix_of part) (k + 1))
      by (inl same) = same
      by (inr (inl e)) = absurd (signature_not_manifest_part_at part folder (k + 1) e)
      by (inr (inr e)) = absurd (signature_not_manifest_at part folder (k + 1) e.0)

-- ---- a manifest on a lane

module _ (folder : List ℕ) (part : Option (List ℕ)) (bytes : List ℕ) (a b : LaneTold) (told : Told (NamesIn folder part bytes) a.files.tree b.files.tree) where
  pub names_only : OnFiles a b → OnlyAtDest (Folder folder) a b
  unfolding OnlyAtDest
  names_only on = (told_as (NamesIn folder part bytes) (OnlyIn folder) (name_only folder part bytes) a.files.tree b.files.tree told, ap (λ w. w.talks) on.to)

  pub names_fair : a.number ≡ 0 → IsFairOn (Folder folder) a.number a b
  unfolding IsFairOn
  names_fair first = told_as (NamesIn folder part bytes) (λ s t. (q : List ℕ) → IsIn folder q → IsFair folder a.number s t q) (λ s t h. name_fair folder part bytes s t h a.number first) a.files.tree b.files.tree told

  pub names_write : WritesOnly (spot_of (Folder folder) part) bytes a b
  unfolding WritesOnly
  names_write = told_as (NamesIn folder part bytes) (KeepsOthers (manifest_at folder part) bytes) (name_writes folder part bytes) a.files.tree b.files.tree told

  pub names_blobs : KeepsAllBlobs (Folder folder) a b
  unfolding HasBlob
  names_blobs job first has = told_then (λ r s. StandsIn folder job s) (NamesIn folder part bytes) (λ r t. StandsIn folder job t) (λ r s t stands h. name_keeps folder part bytes s t h job stands) first.files.tree a.files.tree b.files.tree has told

  pub names_signed : (signatures : List (List ℕ)) (entry : LaneTold) → AreSigned (Folder folder) part signatures entry a → AreSigned (Folder folder) part signatures entry b
  unfolding AreSigned
  names_signed signatures entry signed =
      told_then (λ r s. AreSignedIn folder part signatures s) (NamesIn folder part bytes) (λ r t. AreSignedIn folder part signatures t) (λ r s t x h. name_signed folder part bytes s t h signatures x) entry.files.tree a.files.tree b.files.tree signed told

pub named_by : (folder : List ℕ) (part : Option (List ℕ)) (bytes : List ℕ) (a b : LaneTold) → Told (IsPut (manifest_part_at folder part) (manifest_at folder part) bytes) a.files.tree b.files.tree → IsNamed (Folder folder) part bytes a b
unfolding IsNamed
named_by folder part bytes a b told = told_as (IsPut (manifest_part_at folder part) (manifest_at folder part) bytes) (λ s t. file_at t (manifest_at folder part) ≡ Some bytes) (λ s t put. put.there) a.files.tree b.files.tree told

cut_does : (folder : List ℕ) (part : Option (List ℕ)) (lane : ℕ) → lane ≡ 0 → (s t : Tree) → OnlyAt (manifest_part_at folder part) s t → DoesWork folder lane s t
cut_does folder part lane first s t only = record {
  only = name_only folder part [] s t (names_in_part folder part [] s t only);
  none = λ q m. inl (only.files q (λ e. part_not_manifest part folder (subst IsManifestPath e m)));
  fair = name_fair folder part [] s t (names_in_part folder part [] s t only) lane first;
}

pub cut_works : (folder : List ℕ) (part : Option (List ℕ)) (a b : LaneTold) → Told (OnlyAt (manifest_part_at folder part)) a.files.tree b.files.tree → a.number ≡ 0 → OnFiles a b → a.files.faults ≤ b.files.faults → Works (Folder folder) a b
cut_works folder part a b told first on le = works_by (OnlyAt (manifest_part_at folder part)) folder a b (cut_does folder part a.number first) on le told

named_holds : (folder : List ℕ) (jobs : List Job) (signatures : List (List ℕ)) (bytes : List ℕ) (s t : Tree) → HoldsOnly folder jobs signatures s → IsPut (manifest_part_at folder None) (manifest_at folder None) bytes s t → HoldsOnly folder jobs signatures t
named_holds folder jobs signatures bytes s t holds put = record {
  made = subst (λ l. Contains l folder) (sym put.folders) holds.made;
  version = put.others (version_path folder) (λ e. manifest_part_not_version folder (sym e)) (λ e. manifest_not_version folder (sym e)) ∙ holds.version;
  gone = λ q other. by q other (path_cases q (manifest_part_at folder None));
}
  where
    by : (q : List ℕ) → IsOther folder jobs signatures q → (q ≡ manifest_part_at folder None) ⊎ (q ≢ manifest_part_at folder None) → file_at t q ≡ None
    by q other (inl e) = ap (file_at t) e ∙ put.gone (parts_apart None folder)
    by q other (inr away) = put.others q away other.manifest ∙ holds.gone q other

pub named_alone : (folder : List ℕ) (part : Option (List ℕ)) (bytes : List ℕ) (a b : LaneTold) → Told (IsPut (manifest_part_at folder part) (manifest_at folder part) bytes) a.files.tree b.files.tree
    → (entry : LaneTold) (jobs : List Job) (signatures : List (List ℕ)) → IsAlone (Folder folder) jobs signatures entry a → part ≡ None → IsAlone (Folder folder) jobs signatures entry b
unfolding IsAlone
named_alone folder part bytes a b told entry jobs signatures alone none =
    told_then (λ r s. HoldsOnly folder jobs signatures s) (IsPut (manifest_part_at folder None) (manifest_at folder None) bytes) (λ r t. HoldsOnly folder jobs signatures t) (λ r s t holds put. named_holds folder jobs signatures bytes s t holds put)
    entry.files.tree a.files.tree b.files.tree alone (subst (λ p. Told (IsPut (manifest_part_at folder p) (manifest_at folder p) bytes) a.files.tree b.files.tree) none told)
