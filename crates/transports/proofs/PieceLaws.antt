-- The laws of blobs that are given and taken piece by piece.
use Rattle.std.proofs.Common.{◌≡◌, ◌≢◌, ◌⊎◌, ◌∙◌, ◌<◌, ◌≤◌, ◌^◌, ℕ, zero, suc, min, List, [], ◌∷◌, true, false, Option, Some, None, Result, Err, IfSome, length, take, drop, ◌++◌, append_assoc, inl, inr, refl, sym, ap, subst, arith}
use Rattle.std.proofs.lemmas.List.{take_all, length-take, take-append-drop}
use Rattle.skopeo_outside.specs.Tree.{Tree, file_at}
use Rattle.skopeo_outside.specs.Outside.{Told}
use Rattle.skopeo_outside.specs.LaneTold.{LaneTold, IsLater}
use Rattle.skopeo_outside.specs.LaneLaws.{told_then, told_same}
use Rattle.skopeo_outside.proofs.Trees.{path_cases}
use Rattle.image_ref.specs.Digest.{IsDigest}
use Rattle.digest_reader.specs.declared.job.Job.{Job}
use Rattle.layouts.specs.Paths.{IsIn, IsManifestPath, blob_path, blob_part}
use Rattle.layouts.specs.Trees.{OnlyAt, OnlyIn}
use Rattle.layouts.proofs.NameLemmas.{blob_in, part_in, part_not_manifest, blob_not_part}
use Rattle.layouts.proofs.FolderLemmas.{at_in}
use Rattle.copy_workers.specs.declared.cause.Cause.{Cause}
use Rattle.copy_workers.specs.declared.cause.Cause.TheVariants as why
use Rattle.transports.specs.declared.source.Source.{Source}
use Rattle.transports.specs.declared.source.Source.TheVariants as source
use Rattle.transports.specs.declared.dest.Dest.{Dest}
use Rattle.transports.specs.declared.dest.Dest.TheVariants.{Folder}
use Rattle.transports.specs.declared.blob.Upload.{Upload}
use Rattle.transports.specs.Blobs.{limit_of, judged, looked_at}
use Rattle.transports.specs.Refusals.{is_free_cause}
use Rattle.transports.specs.Given.{SameIn, Spares, BlobEnds, IsFrontIn, IsAllIn, GaveFront, GaveAll}
use Rattle.transports.specs.Registries.{request_of, LeadsTo, HasBody, BeginsWith, LooksAt, BlobAt, looked, refused, none, cause_at}
use Rattle.transports.proofs.WithinLemmas.{within_as, within_later}
use Rattle.transports.proofs.RegistryLemmas.{leads_as}
use Rattle.skopeo_outside.specs.Wire.{Conversation, Conversations}
use Rattle.http_message.specs.declared.request.Request.{Request}
use Rattle.http_message.specs.declared.framing.Framing.{Framing}
use Rattle.http_exchange.specs.Streaming.{IsFront}
use Rattle.http_exchange.specs.Opening.{body_framing}
use Rattle.http_exchange.specs.Talk.{is_get}
use Rattle.transports.specs.StepEnds.{FailsBy}
use Rattle.transports.specs.Has.{StandsIn, HasBlob, KeepsBlobs, IsUntouched, OnlyAtDest}
use Rattle.transports.specs.Writes.{KeepsManifests, WritesNone}
use Rattle.transports.specs.Fair.{IsFair, IsFairOn, Works}
use Rattle.transports.specs.Uploads.{IsPartHeld, TookFront, OnlyPart, LeavesNoPart, SamePart, Holds, IsLeft, is_mismatch}

-- ---- jobs of one digest and size, whatever their numbers

abbrev job_of : List ℕ → ℕ → Job
job_of digest size = record { number = 0; digest = digest; size = size }

looked_alike : (a b : Job) → a.digest ≡ b.digest → a.size ≡ b.size → (file : Option (List ℕ)) → looked_at a file ≡ looked_at b file
looked_alike a b digest size None = ap (λ d. looked_at (job_of d a.size) None) digest
looked_alike a b digest size (Some all) = ap (λ d. looked_at (job_of d a.size) (Some all)) digest ∙ ap (λ s. looked_at (job_of b.digest s) (Some all)) size

judged_alike : (a b : Job) → a.digest ≡ b.digest → a.size ≡ b.size → (bytes : List ℕ) → judged a bytes ≡ judged b bytes
judged_alike a b digest size bytes = ap (λ d. judged (job_of d a.size) bytes) digest ∙ ap (λ s. judged (job_of b.digest s) bytes) size

looks_alike : (q : Request) (a b : Job) (old new : Conversations) (bytes : List ℕ) → a.size ≡ b.size → LooksAt q a bytes old new → LooksAt q b bytes old new
looks_alike q a b old new bytes size (inl h) = inl (h.0, subst (λ s. length bytes ≤ limit_of (job_of b.digest s)) size h.1)
looks_alike q a b old new bytes size (inr h) = inr (h.0, subst (λ s. length bytes ≡ limit_of (job_of b.digest s)) size h.1)

at_alike : (q : Request) (a b : Job) (old new : Conversations) (result : Result (List ℕ) Cause) → a.digest ≡ b.digest → a.size ≡ b.size → BlobAt q a old new result → BlobAt q b old new result
at_alike q a b old new result digest size (looked bytes looks is) = looked bytes (looks_alike q a b old new bytes size looks) (is ∙ judged_alike a b digest size bytes)
at_alike q a b old new result digest size (refused status other leads is) = refused status other leads (is ∙ ap (λ d. Err (cause_at (job_of d a.size) status)) digest)
at_alike q a b old new result digest size (none fault cause gives same is) = none fault cause gives same is

pub blob_alike : (s : Source) (a b : Job) (x y : LaneTold) (r : Result (List ℕ) Cause) → a.digest ≡ b.digest → a.size ≡ b.size → BlobEnds s a x y r → BlobEnds s b x y r
unfolding BlobEnds
blob_alike (source.Folder path) a b x y r digest size ends = by x.files.tree ends
  where
    by : (t : Option Tree) → IfSome t (λ t. r ≡ looked_at a (file_at t (blob_path path a.digest))) → IfSome t (λ t. r ≡ looked_at b (file_at t (blob_path path b.digest)))
    by None ends = tt
    by (Some t) ends = ends ∙ looked_alike a b digest size (file_at t (blob_path path a.digest)) ∙ ap (λ d. looked_at b (file_at t (blob_path path d))) digest
blob_alike (source.Registry r) a b x y result digest size ends = within_as (λ s t. BlobAt (request_of r a) a s.from.talks t.from.talks result) (λ s t. BlobAt (request_of r b) b s.from.talks t.from.talks result)
    (λ s t at. subst (λ d. BlobAt (request_of r (job_of d b.size)) b s.from.talks t.from.talks result) digest (at_alike (request_of r a) a b s.from.talks t.from.talks result digest size at)) x y ends

pub fails_alike : (s : Source) (a b : Job) (e : Cause) (x y : LaneTold) → a.digest ≡ b.digest → a.size ≡ b.size → FailsBy s a e x y → FailsBy s b e x y
fails_alike s a b e x y digest size (inl free) = inl free
fails_alike s a b e x y digest size (inr ends) = inr (blob_alike s a b x y (Err e) digest size ends)

-- a cause that may come at any step is no mismatch
pub free_unjudged : (e : Cause) → is_free_cause e ≡ true → is_mismatch e ≡ false
free_unjudged (why.BlobMismatch m) free = sym free
free_unjudged (why.TlsRequired host) free = refl
free_unjudged (why.BlobAbsent digest) free = refl
free_unjudged (why.DestRefused step code) free = refl
free_unjudged (why.TooLarge what length) free = refl
free_unjudged (why.BadAnswer step bytes) free = refl
free_unjudged (why.SourceRefused step code) free = refl
free_unjudged (why.Encoded step) free = refl
free_unjudged (why.TooManyRedirects step) free = refl
free_unjudged (why.Wire count) free = refl
free_unjudged (why.Files count) free = refl
free_unjudged why.Memory free = refl

-- ---- what was given

pub take_take : (k n : ℕ) (xs : List ℕ) → take k (take n xs) ≡ take (min k n) xs
take_take zero n xs = let e : 0 ≡ min 0 n = grind arith in ap (λ m. take m xs) e
take_take (suc k) zero xs = let e : 0 ≡ min (suc k) 0 = grind arith in ap (λ m. take m xs) e
take_take (suc k) (suc n) [] = sym (take_all (min (suc k) (suc n)) [] (omega arith))
take_take (suc k) (suc n) (x ∷ xs) = let e : suc (min k n) ≡ min (suc k) (suc n) = omega arith in ap (λ l. x ∷ l) (take_take k n xs) ∙ ap (λ m. take m (x ∷ xs)) e

-- first bytes of those that were given
pub front_take : (s : Source) (job : Job) (a b : LaneTold) (given : List ℕ) (count : ℕ) → GaveFront s job a b given → GaveFront s job a b (take count given)
unfolding GaveFront
front_take (source.Folder path) job a b given count front = by a.files.tree b.files.tree front
  where
    fewer : (t u : Tree) → IsFrontIn (blob_path path job.digest) given t u → IsFrontIn (blob_path path job.digest) (take count given) t u
    fewer t u f =
        let n = length-take count given in
        let w = f.within in
        record {
          bytes = f.bytes;
          was = f.was;
          is = f.is;
          within = omega (arith, n, w);
          front = ap (take count) f.front ∙ take_take count (length given) f.bytes ∙ ap (λ m. take m f.bytes) (sym n);
        }

    by : (x y : Option Tree) → Told (IsFrontIn (blob_path path job.digest) given) x y → Told (IsFrontIn (blob_path path job.digest) (take count given)) x y
    by None y f = tt
    by (Some t) None f = absurd f
    by (Some t) (Some u) f = fewer t u f
front_take (source.Registry r) job a b given count front =
    within_as (λ x y. LeadsTo (request_of r job) (BeginsWith given) x.from.talks y.from.talks) (λ x y. LeadsTo (request_of r job) (BeginsWith (take count given)) x.from.talks y.from.talks)
    (λ x y l. leads_as (request_of r job) (BeginsWith given) (BeginsWith (take count given)) fewer x.from.talks y.from.talks l) a b front
  where
    cut : (f : Framing) (seen : List ℕ) → IsFront f given seen → IsFront f (take count given) seen
    cut f seen i = record {
      front = λ limit more body ended b. (let t = i.front limit more body ended b in
          (drop count given ++ t.0, t.1 ∙ ap (λ (l : List ℕ). l ++ t.0) (sym (take-append-drop count given)) ∙ append_assoc (take count given) (drop count given) t.0));
    }

    fewer : (last : Request) (c : Conversation) → BeginsWith given last c → BeginsWith (take count given) last c
    fewer last c w = record { h = w.h; seen = w.seen; opens = w.opens; status = w.status; front = cut (body_framing (is_get last) w.h) w.seen w.front }

-- what was all of a blob is so still, where the source was spared
pub all_later : (s : Source) (job : Job) (a b c : LaneTold) (given : List ℕ) → GaveAll s job a b given → Spares s b c → GaveAll s job a c given
unfolding GaveAll Spares
all_later (source.Folder path) job a b c given all same =
    told_then (IsAllIn (blob_path path job.digest) given) (SameIn path) (IsAllIn (blob_path path job.digest) given)
    (λ x y z p q. record { was = p.was; is = q (blob_path path job.digest) (blob_in path job.digest) ∙ p.is })
    a.files.tree b.files.tree c.files.tree all same
all_later (source.Registry r) job a b c given all later = within_later (λ x y. LeadsTo (request_of r job) (HasBody given) x.from.talks y.from.talks) a b c all later

-- what was given of a blob, up to its end or as much as is looked at, is judged
pub given_judged : (s : Source) (job : Job) (a b : LaneTold) (given : List ℕ) → GaveFront s job a b given → length given ≤ limit_of job → GaveAll s job a b given ⊎ (limit_of job ≤ length given) → BlobEnds s job a b (judged job given)
unfolding GaveFront GaveAll BlobEnds
given_judged (source.Folder path) job a b given front few all = by a.files.tree b.files.tree front all
  where
    -- the bytes that are looked at of a file that begins so
    looked : (bytes : List ℕ) → given ≡ take (length given) bytes → limit_of job ≤ length given → given ≡ take (limit_of job) bytes
    looked bytes is most = is ∙ ap (λ n. take n bytes) (omega (arith, few, most))

    of_some : (file : Option (List ℕ)) (bytes : List ℕ) → file ≡ Some bytes → given ≡ take (limit_of job) bytes → judged job given ≡ looked_at job file
    of_some file bytes is same = ap (judged job) same ∙ ap (looked_at job) (sym is)

    both : (t u : Tree) → IsFrontIn (blob_path path job.digest) given t u → IsAllIn (blob_path path job.digest) given t u ⊎ (limit_of job ≤ length given) → judged job given ≡ looked_at job (file_at t (blob_path path job.digest))
    both t u f (inl whole) = of_some (file_at t (blob_path path job.digest)) given whole.was (sym (take_all (limit_of job) given few))
    both t u f (inr most) = of_some (file_at t (blob_path path job.digest)) f.bytes f.was (looked f.bytes f.front most)

    by : (x y : Option Tree) → Told (IsFrontIn (blob_path path job.digest) given) x y → Told (IsAllIn (blob_path path job.digest) given) x y ⊎ (limit_of job ≤ length given) → IfSome x (λ t. judged job given ≡ looked_at job (file_at t (blob_path path job.digest)))
    by None y f e = tt
    by (Some t) None f e = absurd f
    by (Some t) (Some u) f e = both t u f e
given_judged (source.Registry r) job a b given front few (inl all) =
    within_as (λ x y. LeadsTo (request_of r job) (HasBody given) x.from.talks y.from.talks) (λ x y. BlobAt (request_of r job) job x.from.talks y.from.talks (judged job given))
    (λ x y l. looked given (inl (l, few)) refl) a b all
given_judged (source.Registry r) job a b given front few (inr most) =
    within_as (λ x y. LeadsTo (request_of r job) (BeginsWith given) x.from.talks y.from.talks) (λ x y. BlobAt (request_of r job) job x.from.talks y.from.talks (judged job given))
    (λ x y l. looked given (inr (l, omega (arith, few, most))) refl) a b front

-- ---- nothing but the part was touched

told_as : (R S : Tree → Tree → Type 0) → ((t u : Tree) → R t u → S t u) → (x y : Option Tree) → Told R x y → Told S x y
told_as R S go None y r = tt
told_as R S go (Some t) None r = absurd r
told_as R S go (Some t) (Some u) r = go t u r

at_then : (part : List ℕ) (t u v : Tree) → OnlyAt part t u → OnlyAt part u v → OnlyAt part t v
at_then part t u v r s = record { files = λ q other. s.files q other ∙ r.files q other; folders = s.folders ∙ r.folders }

pub part_then : (dest : Dest) (job : Job) (a b c : LaneTold) → OnlyPart dest job a b → OnlyPart dest job b c → OnlyPart dest job a c
unfolding OnlyPart
part_then (Folder path) job a b c r s =
    let part = blob_part path job.digest a.number in
    let more : Told (OnlyAt part) b.files.tree c.files.tree = subst (λ n. Told (OnlyAt (blob_part path job.digest n)) b.files.tree c.files.tree) r.2 s.0 in
    (told_then (OnlyAt part) (OnlyAt part) (OnlyAt part) (at_then part) a.files.tree b.files.tree c.files.tree r.0 more, s.1 ∙ r.1, s.2 ∙ r.2)

pub part_untouched : (dest : Dest) (job : Job) (a b : LaneTold) → b.number ≡ a.number → IsUntouched a b → OnlyPart dest job a b
unfolding OnlyPart
part_untouched (Folder path) job a b number same =
    let part = blob_part path job.digest a.number in
    (subst (λ t. Told (OnlyAt part) a.files.tree t) (sym same.files) (told_same (OnlyAt part) (λ t. record { files = λ q other. refl; folders = refl }) a.files.tree), same.to, number)

pub part_at_dest : (dest : Dest) (job : Job) (a b : LaneTold) → a.number < 2 ^ 64 → OnlyPart dest job a b → OnlyAtDest dest a b
unfolding OnlyPart OnlyAtDest
part_at_dest (Folder path) job a b small only =
    let part = blob_part path job.digest a.number in
    (told_as (OnlyAt part) (OnlyIn path) (λ t u o. at_in path part t u (part_in path job.digest a.number small) o) a.files.tree b.files.tree only.0, only.1)

pub part_works : (dest : Dest) (job : Job) (a b : LaneTold) → IsDigest job.digest → a.number < 2 ^ 64 → IsLater a b → OnlyPart dest job a b → Works dest a b
unfolding OnlyPart WritesNone IsFairOn Works
part_works (Folder path) job a b digest small later only = record {
  later = later;
  only = part_at_dest (Folder path) job a b small only;
  none = told_as (OnlyAt part) KeepsManifests (λ t u o q manifest. inl (o.files q (λ is. part_not_manifest path job.digest a.number small (subst IsManifestPath is manifest)))) a.files.tree b.files.tree only.0;
  fair = told_as (OnlyAt part) (λ t u. (q : List ℕ) → IsIn path q → IsFair path a.number t u q) (λ t u o q here. fair t u o q (path_cases q part)) a.files.tree b.files.tree only.0;
}
  where
    part : List ℕ
    part = blob_part path job.digest a.number

    fair : (t u : Tree) → OnlyAt (blob_part path job.digest a.number) t u → (q : List ℕ) → (q ≡ blob_part path job.digest a.number) ⊎ (q ≢ blob_part path job.digest a.number) → IsFair path a.number t u q
    fair t u o q (inl is) = inr (inr (inl (record { named = job.digest; is_digest = digest; path_is = is })))
    fair t u o q (inr other) = inl (inl (o.files q other))

pub part_keeps : (dest : Dest) (job : Job) (a b : LaneTold) → a.number < 2 ^ 64 → OnlyPart dest job a b → KeepsBlobs dest job a b
unfolding OnlyPart HasBlob
part_keeps (Folder path) job a b small only other first differs has =
    told_then (λ x y. StandsIn path other y) (OnlyAt (blob_part path job.digest a.number)) (λ x y. StandsIn path other y)
    (λ x y z p o. record { bytes = p.bytes; there = o.files (blob_path path other.digest) (blob_not_part path other.digest job.digest a.number small) ∙ p.there; whole = p.whole })
    first.files.tree a.files.tree b.files.tree has only.0

-- ---- what was taken

pub took_still : (dest : Dest) (job : Job) (a b c : LaneTold) (bytes : List ℕ) → TookFront dest job a b bytes → c.files.tree ≡ b.files.tree → TookFront dest job a c bytes
unfolding TookFront
took_still (Folder path) job a b c bytes took same = subst (λ t. Told (IsPartHeld (blob_part path job.digest a.number) bytes) a.files.tree t) (sym same) took

-- what an upload holds it holds since an earlier state, from which other things were read
pub holds_since : (dest : Dest) (job : Job) (u : Upload) (a b c : LaneTold) (bytes : List ℕ) → IsUntouched a b → b.number ≡ a.number → Holds dest job u b c bytes → Holds dest job u a c bytes
unfolding TookFront
holds_since (Folder path) job u a b c bytes same number holds = record {
  of_job = holds.of_job;
  took = subst (λ n. Told (IsPartHeld (blob_part path job.digest n) bytes) a.files.tree c.files.tree) number
      (subst (λ t. Told (IsPartHeld (blob_part path job.digest b.number) bytes) t c.files.tree) same.files holds.took);
  held = holds.held;
  number = holds.number ∙ number;
}

-- ---- what is left

pub same_part : (dest : Dest) (job : Job) (a b : LaneTold) → b.files.tree ≡ a.files.tree → SamePart dest job a b
unfolding SamePart
same_part (Folder path) job a b same =
    let R : Tree → Tree → Type 0 = λ t u. let part = blob_part path job.digest a.number in (file_at u part ≡ file_at t part) ⊎ (file_at u part ≡ None) in
    subst (λ t. Told R a.files.tree t) (sym same) (told_same R (λ t. inl refl) a.files.tree)

pub gone_since : (dest : Dest) (job : Job) (a b c : LaneTold) → IsLater a b → LeavesNoPart dest job b c → LeavesNoPart dest job a c
unfolding LeavesNoPart
gone_since (Folder path) job a b c later gone =
    let R : Tree → Tree → Type 0 = λ t u. file_at u (blob_part path job.digest a.number) ≡ None in
    told_then (λ _ _. Unit {0}) R R (λ x y z p q. q) a.files.tree b.files.tree c.files.tree later.files.tells
    (subst (λ n. Told (λ t u. file_at u (blob_part path job.digest n) ≡ None) b.files.tree c.files.tree) later.number gone)

pub gone_part : (dest : Dest) (job : Job) (a b : LaneTold) → LeavesNoPart dest job a b → SamePart dest job a b
unfolding LeavesNoPart SamePart
gone_part (Folder path) job a b gone =
    told_as (λ t u. file_at u (blob_part path job.digest a.number) ≡ None)
    (λ t u. let part = blob_part path job.digest a.number in (file_at u part ≡ file_at t part) ⊎ (file_at u part ≡ None)) (λ t u g. inr g) a.files.tree b.files.tree gone

pub left_so : (s : Source) (dest : Dest) (job : Job) (a b : LaneTold) → OnlyPart dest job a b → SamePart dest job a b → IsLeft s dest job a b
unfolding IsLeft
left_so s dest job a b only same = record { only = only; part = inl same }

pub left_front : (s : Source) (dest : Dest) (job : Job) (a b : LaneTold) (bytes : List ℕ) → OnlyPart dest job a b → TookFront dest job a b bytes → GaveFront s job a b bytes → IsLeft s dest job a b
unfolding IsLeft
left_front s dest job a b bytes only took gave = record { only = only; part = inr (bytes, took, gave) }
