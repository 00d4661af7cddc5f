-- The laws of what a source gives, and the order of states.
use Rattle.std.proofs.Common.{◌≡◌, ◌∙◌, ◌≤◌, ℕ, List, Option, Some, None, Result, Ok, Err, IfSome, sym, ap, subst}
use Rattle.skopeo_outside.specs.Tree.{Tree, file_at}
use Rattle.skopeo_outside.specs.Outside.{Told, Rose}
use Rattle.skopeo_outside.specs.LaneTold.{WireTold, LaneTold, IsLater}
use Rattle.skopeo_outside.specs.LaneLaws.{told_then, later_then}
use Rattle.skopeo_outside.specs.declared.words.Fetched.{Fetched}
use Rattle.digest_reader.specs.declared.job.Job.{Job}
use Rattle.layouts.specs.Trees.{OnlyIn}
use Rattle.layouts.specs.Paths.{IsIn, blob_path}
use Rattle.layouts.proofs.NameLemmas.{blob_in, same_folder}
use Rattle.copy_workers.specs.declared.cause.Cause.{Cause}
use Rattle.image_ref.specs.Reference.{Reference}
use Rattle.http_exchange.specs.Calls.{Opened}
use Rattle.http_exchange.specs.Reader.{IsReady}
use Rattle.transports.specs.declared.blob.Blob.{Blob}
use Rattle.transports.specs.declared.blob.Blob.TheVariants as blob
use Rattle.transports.specs.declared.source.Source.{Source}
use Rattle.transports.specs.declared.source.Source.TheVariants.{Folder, Registry}
use Rattle.transports.specs.declared.dest.Dest.{Dest}
use Rattle.transports.specs.declared.dest.Dest.TheVariants as dest
use Rattle.transports.specs.declared.refusal.Refusal.{Refusal}
use Rattle.transports.specs.Places.{AreApart}
use Rattle.transports.specs.Blobs.{looked_at}
use Rattle.transports.specs.Given.{SameIn, Spares, ManifestEnds, StoredEnd, SignaturesEnd, BlobEnds, IsFrontIn, GaveFront, IsReadAt, HasGiven}
use Rattle.transports.specs.Registries.{request_of, LeadsTo, BeginsWith, BlobAt, IsReadTo, IsReading}
use Rattle.transports.specs.Tried.{AsksManifest}
use Rattle.transports.specs.Stores.{StoreAt, AreStored}
use Rattle.transports.specs.Has.{OnlyAtDest}
use Rattle.transports.specs.Next.{IsReadyOn}
use Rattle.transports.proofs.WithinLemmas.{within_earlier, within_later}

pub spares_then : (s : Source) (a b c : LaneTold) → Spares s a b → Spares s b c → Spares s a c
unfolding Spares
spares_then (Folder path) a b c r s = told_then (SameIn path) (SameIn path) (SameIn path) (λ x y z p q at here. q at here ∙ p at here) a.files.tree b.files.tree c.files.tree r s
spares_then (Registry reference) a b c r s = later_then a b c r s

-- what is done at a destination apart from the source spares the source
pub only_spares : (s : Source) (d : Dest) (a b : LaneTold) → AreApart s d → IsLater a b → OnlyAtDest d a b → Spares s a b
unfolding Spares OnlyAtDest AreApart
only_spares (Registry reference) (dest.Folder to) a b apart later only = later
only_spares (Folder path) (dest.Folder to) a b apart later only = by a.files.tree b.files.tree only.0
  where
    by : (x y : Option Tree) → Told (OnlyIn to) x y → Told (SameIn path) x y
    by None y o = tt
    by (Some t) None o = absurd o
    by (Some t) (Some u) o = λ q here. o.files q (λ there. apart (same_folder path to here.name there.name here.plain there.plain (sym here.is ∙ there.is)))

-- a file in the folder that was read later was there before
read_earlier : {A : Type 0} (folder path : List ℕ) (f : Option (List ℕ) → A) (r : A) (x y : Option Tree) → IsIn folder path → Told (SameIn folder) x y → IfSome y (λ t. r ≡ f (file_at t path)) → IfSome x (λ t. r ≡ f (file_at t path))
read_earlier folder path f r None y here same is = tt
read_earlier folder path f r (Some a) None here same is = absurd same
read_earlier folder path f r (Some a) (Some b) here same is = is ∙ ap f (same path here)

pub blob_earlier : (s : Source) (job : Job) (a b c : LaneTold) (r : Result (List ℕ) Cause) → Spares s a b → BlobEnds s job b c r → BlobEnds s job a c r
unfolding Spares BlobEnds
blob_earlier (Folder path) job a b c r same ends = read_earlier path (blob_path path job.digest) (looked_at job) r a.files.tree b.files.tree (blob_in path job.digest) same ends
blob_earlier (Registry reference) job a b c r later ends = within_earlier (λ x y. BlobAt (request_of reference job) job x.from.talks y.from.talks r) a b c later ends

pub blob_later : (s : Source) (job : Job) (a b c : LaneTold) (r : Result (List ℕ) Cause) → BlobEnds s job a b r → IsLater b c → BlobEnds s job a c r
unfolding BlobEnds
blob_later (Folder path) job a b c r ends later = ends
blob_later (Registry reference) job a b c r ends later = within_later (λ x y. BlobAt (request_of reference job) job x.from.talks y.from.talks r) a b c ends later

pub manifest_later : (s : Source) (part : Option (List ℕ)) (a b c : LaneTold) (r : Result Fetched Refusal) → ManifestEnds s part a b r → IsLater b c → ManifestEnds s part a c r
unfolding ManifestEnds
manifest_later (Folder path) part a b c r ends later = ends
manifest_later (Registry reference) None a b c (Ok fetched) ends later = within_later (λ x y. AsksManifest reference x y (Ok fetched)) a b c ends later
manifest_later (Registry reference) None a b c (Err e) ends later = absurd ends
manifest_later (Registry reference) (Some digest) a b c r ends later = absurd ends

stored_later : (store : Option StoreAt) (a b c : LaneTold) (r : Result (List (List ℕ)) Refusal) → StoredEnd store a b r → IsLater b c → StoredEnd store a c r
stored_later None a b c r ends later = (ends.0, later_then a b c ends.1 later)
stored_later (Some store) a b c r ends later = within_later (λ x y. AreStored store x y r) a b c ends later

pub signatures_later : (s : Source) (store : Option StoreAt) (part : Option (List ℕ)) (a b c : LaneTold) (r : Result (List (List ℕ)) Refusal) → SignaturesEnd s store part a b r → IsLater b c → SignaturesEnd s store part a c r
unfolding SignaturesEnd
signatures_later (Folder path) store part a b c r ends later = ends
signatures_later (Registry reference) store part a b c r ends later = stored_later store a b c r ends later

-- first bytes that a source gave it gave still, where it was spared
pub front_later : (s : Source) (job : Job) (a b c : LaneTold) (given : List ℕ) → GaveFront s job a b given → Spares s b c → GaveFront s job a c given
unfolding GaveFront Spares
front_later (Folder path) job a b c given front same =
    told_then (IsFrontIn (blob_path path job.digest) given) (SameIn path) (IsFrontIn (blob_path path job.digest) given)
    (λ x y z p q. record { bytes = p.bytes; was = p.was; is = q (blob_path path job.digest) (blob_in path job.digest) ∙ p.is; within = p.within; front = p.front })
    a.files.tree b.files.tree c.files.tree front same
front_later (Registry reference) job a b c given front later = within_later (λ x y. LeadsTo (request_of reference job) (BeginsWith given) x.from.talks y.from.talks) a b c front later

-- an answer is read still where its wire is as it was
reading_later : (r : Reference) (job : Job) (a : Opened) (given : List ℕ) (old b c : LaneTold) → IsReading r job a given old b → c.from ≡ b.from → IsReading r job a given old c
reading_later r job a given old b c i same = record {
  start = i.start;
  before = i.before;
  leads = subst (λ (w : WireTold). LeadsTo (request_of r job) (IsReadTo a given) i.start.from.talks w.talks) (sym same) i.leads;
  counts = subst (λ (w : WireTold). i.start.from.faults ≤ w.faults) (sym same) i.counts;
  ready = subst (λ (w : WireTold). IsReady a.reader w.is_open) (sym same) i.ready;
  blames = λ failed. subst (λ (w : WireTold). Rose i.start.from.faults w.faults) (sym same) (i.blames failed);
}

-- a blob is read still where the wire to the source is as it was
pub reads_later : (s : Source) (job : Job) (b : Blob) (x y z : LaneTold) (given : List ℕ) → IsReadAt s job b x y given → z.from ≡ y.from → IsReadAt s job b x z given
unfolding IsReadAt
reads_later (Folder path) job (blob.File at count) x y z given r same = r
reads_later (Folder path) job (blob.Answer a count) x y z given r same = r
reads_later (Registry reference) job (blob.File at count) x y z given r same = r
reads_later (Registry reference) job (blob.Answer a count) x y z given r same = reading_later reference job a given x y z r same

-- and what was given can be read on
pub ready_on : (s : Source) (job : Job) (b : Blob) (x y : LaneTold) (given : List ℕ) → HasGiven s job b x y given → IsReadyOn b y
unfolding IsReadAt
ready_on s job b x y given has = by s b has.reads
  where
    by : (s : Source) (b : Blob) → IsReadAt s job b x y given → IsReadyOn b y
    by (Folder path) (blob.File at count) r = tt
    by (Folder path) (blob.Answer a count) r = absurd r
    by (Registry reference) (blob.File at count) r = absurd r
    by (Registry reference) (blob.Answer a count) r = r.ready

pub given_later : (s : Source) (job : Job) (b : Blob) (x y z : LaneTold) (given : List ℕ) → HasGiven s job b x y given → z.from ≡ y.from → IsLater y z → Spares s y z → HasGiven s job b x z given
given_later s job b x y z given has same later spares = record { reads = reads_later s job b x y z given has.reads same; count = has.count; front = front_later s job x y z given has.front spares; later = later_then x y z has.later later }
