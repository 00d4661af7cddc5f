-- A job's blob in a folder: begun, filled, named or given up.
use Rattle.std.proofs.Common.{◌≡◌, ◌≢◌, ◌⊎◌, ◌∙◌, ◌++◌, ◌<◌, ◌≤◌, ◌^◌, ℕ, List, [], ◌∷◌, Option, Some, None, IfSome, Contains, take, inl, inr, refl, sym, ap, subst}
use Rattle.std.specs.Option.{option_map, unwrap_or}
use Rattle.skopeo_outside.specs.Tree.{Tree, file_at, with_file, without_file, with_more, with_moved, HasPartOf}
use Rattle.skopeo_outside.specs.Outside.{Told}
use Rattle.skopeo_outside.specs.LaneTold.{LaneTold, IsLater}
use Rattle.skopeo_outside.specs.LaneLaws.{told_same}
use Rattle.skopeo_outside.proofs.Trees.{path_cases, file_at-with_file, file_at-with_file_other, file_at-without_file, file_at-without_file_other}
use Rattle.digest_reader.specs.declared.job.Job.{Job}
use Rattle.image_ref.specs.Digest.{IsDigest}
use Rattle.layouts.specs.Paths.{IsIn, IsManifestPath, blob_path, blob_part, version_path}
use Rattle.layouts.specs.Trees.{OnlyAt, OnlyIn, IsPut, SameOrGone}
use Rattle.layouts.proofs.NameLemmas.{blob_in, part_in, blob_not_manifest, part_not_manifest, blob_not_part, blob_not_version, part_not_version}
use Rattle.layouts.proofs.FolderLemmas.{put_in}
use Rattle.layouts.proofs.PutLemmas.{moved_there}
use Rattle.transports.specs.declared.dest.Dest.{Dest}
use Rattle.transports.specs.declared.dest.Dest.TheVariants.{Folder}
use Rattle.transports.specs.declared.blob.Upload.{Upload}
use Rattle.transports.specs.declared.blob.Upload.TheVariants as upload
use Rattle.transports.specs.Blobs.{IsWhole}
use Rattle.transports.specs.Has.{StandsIn, HasBlob, KeepsBlobs, IsUntouched, OnlyAtDest}
use Rattle.transports.specs.Writes.{KeepsManifests, WritesNone}
use Rattle.transports.specs.Fair.{IsFair, IsFairOn, Works}
use Rattle.transports.specs.Named.{AddsIn, AddsOnly}
use Rattle.transports.specs.Uploads.{IsUploadOf, IsPartHeld, TookFront, OnlyPart, LeavesNoPart, HeldAt, Holds, HoldsWhole, TookSome}
use Rattle.transports.specs.Calls.{OnFiles, FilesDid}
use Rattle.transports.proofs.ToldLemmas.{step_by, told_by, now_by}
use Rattle.transports.proofs.DigestLemmas.{is_digest, other_blob}
use Rattle.transports.proofs.FolderLemmas.{later_told, later_by}

append_nil : {A : Type 0} (t : List A) → t ++ [] ≡ t
append_nil [] = refl
append_nil (x ∷ t) = ap (λ s. x ∷ s) (append_nil t)

some_of : (x : Option Tree) → IfSome x (λ t. Unit {0})
some_of None = tt
some_of (Some t) = tt

pub did_later : (f : Tree → Tree) (a b : LaneTold) → FilesDid f a b → IsLater a b
did_later f a b did = later_told (λ s t. Unit {0}) a b did.on (told_by f (λ t. Unit {0}) (λ s t. Unit {0}) (λ t p. tt) a.files.tree b.files.tree (some_of a.files.tree) did.tree) did.later

pub cut_later : (part piece : List ℕ) (a b : LaneTold) → Told (HasPartOf part piece) a.files.tree b.files.tree → OnFiles a b → a.files.faults ≤ b.files.faults → IsLater a b
cut_later part piece a b cut on le = later_told (HasPartOf part piece) a b on cut le

-- ---- nothing but the part

only_made : (part bytes : List ℕ) (t : Tree) → OnlyAt part t (with_file t part bytes)
only_made part bytes t = record { files = λ q apart. file_at-with_file_other t part bytes q apart; folders = refl }

only_gone : (part : List ℕ) (t : Tree) → OnlyAt part t (without_file t part)
only_gone part t = record { files = λ q apart. file_at-without_file_other t part q apart; folders = refl }

only_then : (part : List ℕ) (a b c : Tree) → OnlyAt part a b → OnlyAt part b c → OnlyAt part a c
only_then part a b c r s = record { files = λ q apart. s.files q apart ∙ r.files q apart; folders = s.folders ∙ r.folders }

part_by : (folder : List ℕ) (job : Job) (f : Tree → Tree) (a b : LaneTold) → ((t : Tree) → OnlyAt (blob_part folder job.digest a.number) t (f t)) → FilesDid f a b → OnlyPart (Folder folder) job a b
unfolding OnlyPart
part_by folder job f a b only did =
    (told_by f (λ t. Unit {0}) (OnlyAt (blob_part folder job.digest a.number)) (λ t p. only t) a.files.tree b.files.tree (some_of a.files.tree) did.tree, ap (λ w. w.talks) did.on.to, did.on.number)

pub part_kept : (folder : List ℕ) (job : Job) (a b : LaneTold) → b.files.tree ≡ a.files.tree → OnFiles a b → OnlyPart (Folder folder) job a b
unfolding OnlyPart
part_kept folder job a b same on =
    (subst (λ x. Told (OnlyAt part) a.files.tree x) (sym same) (told_same (OnlyAt part) (λ t. record { files = λ q apart. refl; folders = refl }) a.files.tree), ap (λ w. w.talks) on.to, on.number)
  where
    part : List ℕ
    part = blob_part folder job.digest a.number

pub part_begun : (folder : List ℕ) (job : Job) (a b : LaneTold) → FilesDid (λ t. with_file t (blob_part folder job.digest a.number) []) a b → OnlyPart (Folder folder) job a b
part_begun folder job a b did = part_by folder job (λ t. with_file t (blob_part folder job.digest a.number) []) a b (λ t. only_made _ [] t) did

pub part_more : (folder : List ℕ) (job : Job) (piece : List ℕ) (a b : LaneTold) → FilesDid (λ t. with_more t (blob_part folder job.digest a.number) piece) a b → OnlyPart (Folder folder) job a b
part_more folder job piece a b did = part_by folder job (λ t. with_more t (blob_part folder job.digest a.number) piece) a b (λ t. only_made _ _ t) did

pub part_gone : (folder : List ℕ) (job : Job) (a b : LaneTold) → FilesDid (λ t. without_file t (blob_part folder job.digest a.number)) a b → OnlyPart (Folder folder) job a b
part_gone folder job a b did = part_by folder job (λ t. without_file t (blob_part folder job.digest a.number)) a b (λ t. only_gone _ t) did

of_part : (part piece : List ℕ) (a b : Tree) → HasPartOf part piece a b → OnlyAt part a b
of_part part piece a b (inl same) = subst (OnlyAt part a) (sym same) (record { files = λ q apart. refl; folders = refl })
of_part part piece a b (inr more) = subst (OnlyAt part a) (sym more.1) (only_made part _ a)

pub part_cut : (folder : List ℕ) (job : Job) (piece : List ℕ) (a b : LaneTold) → Told (HasPartOf (blob_part folder job.digest a.number) piece) a.files.tree b.files.tree → OnFiles a b → OnlyPart (Folder folder) job a b
unfolding OnlyPart
part_cut folder job piece a b cut on = (by a.files.tree b.files.tree cut, ap (λ w. w.talks) on.to, on.number)
  where
    by : (x y : Option Tree) → Told (HasPartOf (blob_part folder job.digest a.number) piece) x y → Told (OnlyAt (blob_part folder job.digest a.number)) x y
    by None y h = tt
    by (Some s) None h = h
    by (Some s) (Some t) h = of_part _ piece s t h

-- ---- begun and filled

pub begun : (folder : List ℕ) (job : Job) (a b : LaneTold) → FilesDid (λ t. with_file t (blob_part folder job.digest a.number) []) a b → Holds (Folder folder) job upload.File a b []
unfolding IsUploadOf TookFront HeldAt
begun folder job a b did = record {
  of_job = tt;
  took = told_by (λ t. with_file t part []) (λ t. Unit {0}) (IsPartHeld part []) (λ t p. record { holds = file_at-with_file t part []; only = only_made part [] t }) a.files.tree b.files.tree (some_of a.files.tree) did.tree;
  held = subst (λ n. IfSome b.files.tree (λ t. file_at t (blob_part folder job.digest n) ≡ Some [])) (sym did.on.number)
      (now_by (λ t. with_file t part []) (λ t. Unit {0}) (λ t. file_at t part ≡ Some []) (λ t p. file_at-with_file t part []) a.files.tree b.files.tree (some_of a.files.tree) did.tree);
  number = did.on.number;
}
  where
    part : List ℕ
    part = blob_part folder job.digest a.number

more_there : (part piece bytes : List ℕ) (t : Tree) → file_at t part ≡ Some bytes → file_at (with_more t part piece) part ≡ Some (bytes ++ piece)
more_there part piece bytes t there = file_at-with_file t part _ ∙ ap (λ o. Some (unwrap_or o [] ++ piece)) there

more_held : (part piece bytes : List ℕ) (a b : Tree) → IsPartHeld part bytes a b → IsPartHeld part (bytes ++ piece) a (with_more b part piece)
more_held part piece bytes a b held = record { holds = more_there part piece bytes b held.holds; only = only_then part a b (with_more b part piece) held.only (only_made part _ b) }

pub filled : (folder : List ℕ) (job : Job) (u next : Upload) (entry a b : LaneTold) (bytes piece : List ℕ) → Holds (Folder folder) job u entry a bytes → FilesDid (λ t. with_more t (blob_part folder job.digest a.number) piece) a b → next ≡ u
    → Holds (Folder folder) job next entry b (bytes ++ piece)
unfolding TookFront HeldAt
filled folder job u next entry a b bytes piece has did is = record {
  of_job = subst (IsUploadOf (Folder folder) job) (sym is) has.of_job;
  took = step_by (IsPartHeld part bytes) (IsPartHeld part (bytes ++ piece)) (λ t. Unit {0}) (λ t. with_more t part piece) (λ x y r p. more_held part piece bytes x y r) entry.files.tree a.files.tree b.files.tree
      has.took (some_of a.files.tree) (subst (λ n. b.files.tree ≡ option_map (λ t. with_more t (blob_part folder job.digest n) piece) a.files.tree) has.number did.tree);
  held = subst (λ n. IfSome b.files.tree (λ t. file_at t (blob_part folder job.digest n) ≡ Some (bytes ++ piece))) (sym did.on.number)
      (now_by (λ t. with_more t here piece) (λ t. file_at t here ≡ Some bytes) (λ t. file_at t here ≡ Some (bytes ++ piece)) (λ t p. more_there here piece bytes t p) a.files.tree b.files.tree has.held did.tree);
  number = did.on.number ∙ has.number;
}
  where
    part : List ℕ
    part = blob_part folder job.digest entry.number

    here : List ℕ
    here = blob_part folder job.digest a.number

-- a piece of which some first bytes were added
pub filled_in_part : (folder : List ℕ) (job : Job) (u : Upload) (entry a b : LaneTold) (bytes piece : List ℕ) → Holds (Folder folder) job u entry a bytes
    → Told (HasPartOf (blob_part folder job.digest a.number) piece) a.files.tree b.files.tree → TookSome (Folder folder) job entry b bytes piece
unfolding TookFront
filled_in_part folder job u entry a b bytes piece has cut = by entry.files.tree a.files.tree b.files.tree refl refl has.took (subst (λ n. Told (HasPartOf (blob_part folder job.digest n) piece) a.files.tree b.files.tree) has.number cut)
  where
    part : List ℕ
    part = blob_part folder job.digest entry.number

    of : (s t w : Tree) → IsPartHeld part bytes s t → HasPartOf part piece t w → (count : ℕ) × IsPartHeld part (bytes ++ take count piece) s w
    of s t w held (inl same) = (0, subst (λ l. IsPartHeld part l s w) (sym (append_nil bytes)) (subst (IsPartHeld part bytes s) (sym same) held))
    of s t w held (inr more) = (more.0, subst (IsPartHeld part (bytes ++ take more.0 piece) s) (sym more.1) (more_held part (take more.0 piece) bytes s t held))

    by : (x y z : Option Tree) → entry.files.tree ≡ x → b.files.tree ≡ z → Told (IsPartHeld part bytes) x y → Told (HasPartOf part piece) y z → TookSome (Folder folder) job entry b bytes piece
    by None y z e f held cut = record { count = 0; took = subst (λ o. Told (IsPartHeld part (bytes ++ [])) o b.files.tree) (sym e) tt }
    by (Some s) None z e f held cut = absurd held
    by (Some s) (Some t) None e f held cut = absurd cut
    by (Some s) (Some t) (Some w) e f held cut =
        let h = of s t w held cut in
        record { count = h.0; took = subst (λ o. Told (IsPartHeld part (bytes ++ take h.0 piece)) o b.files.tree) (sym e) (subst (λ o. Told (IsPartHeld part (bytes ++ take h.0 piece)) (Some s) o) (sym f) h.1) }

-- ---- given up

pub dropped : (folder : List ℕ) (job : Job) (a b : LaneTold) → FilesDid (λ t. without_file t (blob_part folder job.digest a.number)) a b → LeavesNoPart (Folder folder) job a b
unfolding LeavesNoPart
dropped folder job a b did =
    told_by (λ t. without_file t (blob_part folder job.digest a.number)) (λ t. Unit {0}) (λ s t. file_at t (blob_part folder job.digest a.number) ≡ None) (λ t p. file_at-without_file t (blob_part folder job.digest a.number))
    a.files.tree b.files.tree (some_of a.files.tree) did.tree

-- ---- named

-- what is told shows the part whole
shows_whole : (folder : List ℕ) (job : Job) (u : Upload) (a : LaneTold) → HoldsWhole (Folder folder) job u a → (bytes : List ℕ) × IsWhole job bytes × IfSome a.files.tree (λ t. file_at t (blob_part folder job.digest a.number) ≡ Some bytes)
unfolding HeldAt
shows_whole folder job u a h = (h.bytes, h.whole, h.holds.held)

-- how naming a whole part changes a folder
module _ (folder : List ℕ) (job : Job) (number : ℕ) (bytes : List ℕ) (small : number < 2 ^ 64) (whole : IsWhole job bytes) (t : Tree) (holds : file_at t (blob_part folder job.digest number) ≡ Some bytes) where
  abbrev part : List ℕ
  part = blob_part folder job.digest number

  abbrev name : List ℕ
  name = blob_path folder job.digest

  abbrev now : Tree
  now = with_moved t part name

  put : IsPut part name bytes t now
  put = moved_there t part name bytes holds

  apart : part ≢ name
  apart e = blob_not_part folder job.digest job.digest number small (sym e)

  named_stands : StandsIn folder job now
  named_stands = record { bytes = bytes; there = put.there; whole = whole }

  named_left : (q : List ℕ) → q ≢ name → SameOrGone t now q
  named_left q other = by (path_cases q part)
    where
      by : (q ≡ part) ⊎ (q ≢ part) → SameOrGone t now q
      by (inl e) = inr (ap (file_at now) e ∙ put.gone apart)
      by (inr away) = inl (put.others q away other)

  named_adds : AddsIn folder (λ d. d ≡ job.digest) t now
  named_adds = record {
    folders = λ p c. subst (λ l. Contains l p) (sym put.folders) c;
    version = put.others (version_path folder) (λ e. part_not_version folder job.digest number small (sym e)) (λ e. blob_not_version folder job.digest (sym e));
    files = λ q here. by q (path_cases q name);
  }
    where
      by : (q : List ℕ) → (q ≡ name) ⊎ (q ≢ name) → SameOrGone t now q ⊎ ((d : List ℕ) × (d ≡ job.digest) × (q ≡ blob_path folder d))
      by q (inl e) = inr (job.digest, refl, e)
      by q (inr other) = inl (named_left q other)

  named_keeps : (other : Job) → other.digest ≢ job.digest → StandsIn folder other t → StandsIn folder other now
  named_keeps other differs stands = record {
    bytes = stands.bytes;
    there = put.others (blob_path folder other.digest) (λ e. blob_not_part folder other.digest job.digest number small e)
        (other_blob folder other.digest job.digest (subst (λ d. IsDigest d) stands.whole.digest (is_digest stands.bytes)) (subst (λ d. IsDigest d) whole.digest (is_digest bytes)) differs) ∙ stands.there;
    whole = stands.whole;
  }

  named_in : OnlyIn folder t now
  named_in = put_in folder part name bytes t now (part_in folder job.digest number small) (blob_in folder job.digest) put

  named_manifests : KeepsManifests t now
  named_manifests q m = inl (put.others q (λ e. part_not_manifest folder job.digest number small (subst IsManifestPath e m)) (λ e. blob_not_manifest folder job.digest (subst IsManifestPath e m)))

  named_fair : (lane : ℕ) (q : List ℕ) → IsIn folder q → IsFair folder lane t now q
  named_fair lane q here = by (path_cases q name)
    where
      by : (q ≡ name) ⊎ (q ≢ name) → IsFair folder lane t now q
      by (inl e) = inr (inl (record { bytes = bytes; path_is = e ∙ ap (blob_path folder) (sym whole.digest); there = ap (file_at now) e ∙ put.there }))
      by (inr other) = inl (named_left q other)

-- the same on a lane
module _ (folder : List ℕ) (job : Job) (u : Upload) (a b : LaneTold) (whole : HoldsWhole (Folder folder) job u a) (small : a.number < 2 ^ 64) (did : FilesDid (λ t. with_moved t (blob_part folder job.digest a.number) (blob_path folder job.digest)) a b) where
  h : (bytes : List ℕ) × IsWhole job bytes × IfSome a.files.tree (λ t. file_at t (blob_part folder job.digest a.number) ≡ Some bytes)
  h = shows_whole folder job u a whole

  abbrev move : Tree → Tree
  move t = with_moved t (blob_part folder job.digest a.number) (blob_path folder job.digest)

  abbrev Shows : Tree → Type 0
  Shows t = file_at t (blob_part folder job.digest a.number) ≡ Some h.0

  on_tree : (S : Tree → Tree → Type 0) → ((t : Tree) → Shows t → S t (move t)) → Told S a.files.tree b.files.tree
  on_tree S go = told_by move Shows S go a.files.tree b.files.tree h.2 did.tree

  pub kept_has : (v : Upload) (entry : LaneTold) (bytes : List ℕ) → Holds (Folder folder) job v entry a bytes → HasBlob (Folder folder) job entry b
  unfolding HasBlob TookFront
  kept_has v entry bytes holds = step_by (IsPartHeld (blob_part folder job.digest entry.number) bytes) (λ s t. StandsIn folder job t) Shows move (λ s t r p. named_stands folder job a.number h.0 small h.1 t p) entry.files.tree a.files.tree b.files.tree holds.took h.2 did.tree

  pub kept_adds : (v : Upload) (entry : LaneTold) (bytes : List ℕ) → Holds (Folder folder) job v entry a bytes → AddsOnly (Folder folder) (λ d. d ≡ job.digest) entry b
  unfolding AddsOnly TookFront
  kept_adds v entry bytes holds = step_by (IsPartHeld (blob_part folder job.digest entry.number) bytes) (AddsIn folder (λ d. d ≡ job.digest)) Shows move since entry.files.tree a.files.tree b.files.tree holds.took h.2 did.tree
    where
      since : (s t : Tree) → IsPartHeld (blob_part folder job.digest entry.number) bytes s t → Shows t → AddsIn folder (λ d. d ≡ job.digest) s (move t)
      since s t held p = all (named_adds folder job a.number h.0 small h.1 t p) (subst (λ n. OnlyAt (blob_part folder job.digest n) s t) (sym holds.number) held.only)
        where
          all : AddsIn folder (λ d. d ≡ job.digest) t (move t) → OnlyAt (blob_part folder job.digest a.number) s t → AddsIn folder (λ d. d ≡ job.digest) s (move t)
          all adds only = record {
            folders = λ q c. adds.folders q (subst (λ l. Contains l q) (sym only.folders) c);
            version = adds.version ∙ only.files (version_path folder) (λ e. part_not_version folder job.digest a.number small (sym e));
            files = λ q here. by q (path_cases q (blob_part folder job.digest a.number)) (adds.files q here);
          }
            where
              by : (q : List ℕ) → (q ≡ blob_part folder job.digest a.number) ⊎ (q ≢ blob_part folder job.digest a.number) → SameOrGone t (move t) q ⊎ ((d : List ℕ) × (d ≡ job.digest) × (q ≡ blob_path folder d))
                  → SameOrGone s (move t) q ⊎ ((d : List ℕ) × (d ≡ job.digest) × (q ≡ blob_path folder d))
              by q c (inr blob) = inr blob
              by q c (inl (inr gone)) = inl (inr gone)
              by q (inl e) (inl (inl same)) = inl (inr (ap (file_at (move t)) e ∙ (moved_there t _ _ h.0 p).gone (λ f. blob_not_part folder job.digest job.digest a.number small (sym f))))
              by q (inr other) (inl (inl same)) = inl (inl (same ∙ only.files q other))

  pub kept_others : KeepsBlobs (Folder folder) job a b
  unfolding HasBlob
  kept_others other first differs has = step_by (λ s t. StandsIn folder other t) (λ s t. StandsIn folder other t) Shows move (λ s t r p. named_keeps folder job a.number h.0 small h.1 t p other differs r) first.files.tree a.files.tree b.files.tree has h.2 did.tree

  pub kept_works : Works (Folder folder) a b
  unfolding Works OnlyAtDest WritesNone IsFairOn
  kept_works = record {
    later = did_later move a b did;
    only = (on_tree (OnlyIn folder) (λ t p. named_in folder job a.number h.0 small h.1 t p), ap (λ w. w.talks) did.on.to);
    none = on_tree KeepsManifests (λ t p. named_manifests folder job a.number h.0 small h.1 t p);
    fair = on_tree (λ s t. (q : List ℕ) → IsIn folder q → IsFair folder a.number s t q) (λ t p. named_fair folder job a.number h.0 small h.1 t p a.number);
  }

-- ---- nothing was done

pub works_kept : (folder : List ℕ) (a b : LaneTold) → OnFiles a b → b.files.tree ≡ a.files.tree → a.files.faults ≤ b.files.faults → Works (Folder folder) a b
unfolding Works OnlyAtDest WritesNone IsFairOn
works_kept folder a b on same le = record {
  later = later_by a b on same le;
  only = (as_was (OnlyIn folder) (λ t. record { files = λ q out. refl; folders = record { made = λ p c. inl c; kept = λ p c. c } }), ap (λ w. w.talks) on.to);
  none = as_was KeepsManifests (λ t q m. inl refl);
  fair = as_was (λ s t. (q : List ℕ) → IsIn folder q → IsFair folder a.number s t q) (λ t q here. inl (inl refl));
}
  where
    as_was : (S : Tree → Tree → Type 0) → ((t : Tree) → S t t) → Told S a.files.tree b.files.tree
    as_was S go = subst (λ x. Told S a.files.tree x) (sym same) (told_same S go a.files.tree)

pub blobs_kept : (folder : List ℕ) (job : Job) (a b : LaneTold) → b.files.tree ≡ a.files.tree → KeepsBlobs (Folder folder) job a b
unfolding HasBlob
blobs_kept folder job a b same other first differs has = subst (λ x. Told (λ s t. StandsIn folder other t) first.files.tree x) (sym same) has

-- ---- what a blob that is being written holds while other things are read

pub holds_later : (d : Dest) (job : Job) (u : Upload) (a b c : LaneTold) (bytes : List ℕ) → Holds d job u a b bytes → IsUntouched b c → c.number ≡ b.number → Holds d job u a c bytes
unfolding TookFront HeldAt
holds_later (Folder folder) job u a b c bytes has same number = record {
  of_job = has.of_job;
  took = subst (λ x. Told (IsPartHeld (blob_part folder job.digest a.number) bytes) a.files.tree x) (sym same.files) has.took;
  held = subst (λ n. IfSome c.files.tree (λ t. file_at t (blob_part folder job.digest n) ≡ Some bytes)) (sym number)
      (subst (λ x. IfSome x (λ t. file_at t (blob_part folder job.digest b.number) ≡ Some bytes)) (sym same.files) has.held);
  number = number ∙ has.number;
}
