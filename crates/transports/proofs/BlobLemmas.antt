-- A folder's blob that is opened and read piece by piece.
use Rattle.std.proofs.Common.{◌≡◌, ◌∙◌, ◌++◌, ◌+◌, ◌≤◌, ℕ, List, [], Option, Some, None, Err, IfSome, length, take, length-append, false, inl, inr, refl, sym, ap, subst, arith}
use Rattle.std.specs.Option.{option_map}
use Rattle.std.proofs.lemmas.List.{take_all, length-take-le}
use Rattle.skopeo_outside.specs.Tree.{Tree, file_at}
use Rattle.skopeo_outside.specs.Outside.{Told, HasCause}
use Rattle.skopeo_outside.specs.LaneTold.{LaneTold, IsLater}
use Rattle.skopeo_outside.specs.LaneLaws.{later_then}
use Rattle.skopeo_outside.specs.declared.stop.Stop.{Stop}
use Rattle.skopeo_outside.specs.declared.stop.Stop.TheVariants as stop
use Rattle.digest_reader.specs.declared.job.Job.{Job}
use Rattle.layouts.specs.Paths.{blob_path}
use Rattle.layouts.specs.Pieces.{IsPiece, GivesPiece}
use Rattle.layouts.proofs.PieceLemmas.{joined_runs}
use Rattle.copy_workers.specs.declared.cause.Cause.{Cause}
use Rattle.copy_workers.specs.declared.cause.Cause.TheVariants as cause
use Rattle.transports.specs.declared.source.Source.{Source}
use Rattle.transports.specs.declared.source.Source.TheVariants.{Folder, Registry}
use Rattle.transports.specs.declared.blob.Blob.TheVariants as blob
use Rattle.transports.specs.Blobs.{looked_at}
use Rattle.image_ref.specs.Reference.{Reference}
use Rattle.transports.specs.Courses.{blames_earlier}
use Rattle.transports.specs.Given.{BlobEnds, IsFrontIn, IsAllIn, GaveFront, GaveAll, IsReadAt, HasGiven}
use Rattle.transports.specs.Next.{GivesMore, GivesNoMore}
use Rattle.transports.specs.Uploads.{is_mismatch}
use Rattle.transports.specs.StepEnds.{FailsFreely, FailsBy}
use Rattle.transports.specs.Calls.{cause_by_stop}
use Rattle.transports.proofs.ToldLemmas.{step_same}

-- ---- causes

-- a stopped call of the files is a free cause
stop_fails : {B : Type 0} (a b : LaneTold) (s : Stop) (r : Cause) → HasCause {T = B} a.files.faults b.files.faults (Err s) → r ≡ cause_by_stop s b.files.faults → FailsFreely r a b
stop_fails a b stop.Fault r cause is = subst (λ e. FailsFreely e a b) (sym is) (record { free = refl; blames = record { is = refl; rose = cause.fault refl } })
stop_fails a b stop.Memory r cause is = subst (λ e. FailsFreely e a b) (sym is) (record { free = refl; blames = tt })

pub files_caused : {B : Type 0} (s : Source) (job : Job) (a b : LaneTold) (st : Stop) (r : Cause) → HasCause {T = B} a.files.faults b.files.faults (Err st) → r ≡ cause_by_stop st b.files.faults → FailsBy s job r a b
files_caused {B} s job a b st r cause is = inl (stop_fails {B = B} a b st r cause is)

pub memory_fails : (s : Source) (job : Job) (a b : LaneTold) (r : Cause) → r ≡ cause.Memory → FailsBy s job r a b
memory_fails s job a b r is = subst (λ e. FailsBy s job e a b) (sym is) (inl (record { free = refl; blames = tt }))

-- a source that has no file of the blob
absent_ends : (folder path : List ℕ) (job : Job) (a b : LaneTold) → path ≡ blob_path folder job.digest → IfSome a.files.tree (λ t. file_at t path ≡ None) → BlobEnds (Folder folder) job a b (Err (cause.BlobAbsent job.digest))
unfolding BlobEnds
absent_ends folder path job a b is none = by a.files.tree none
  where
    by : (x : Option Tree) → IfSome x (λ t. file_at t path ≡ None) → IfSome x (λ t. Err (cause.BlobAbsent job.digest) ≡ looked_at job (file_at t (blob_path folder job.digest)))
    by None none = tt
    by (Some t) none = sym (ap (looked_at job) (subst (λ p. file_at t p ≡ None) is none))

map_none : {A B : Type 0} (f : A → B) (x : Option A) → None ≡ option_map f x → x ≡ None
map_none f None e = refl
map_none f (Some a) e = let no : None ≡ option_map f (Some a) = e in cc

map_some : {A B : Type 0} (f : A → B) (x : Option A) (y : B) → Some y ≡ option_map f x → (a : A) × (x ≡ Some a)
map_some f None y e = let no : Some y ≡ option_map f None = e in cc
map_some f (Some a) y e = (a, refl)

pub blob_absent : (folder path : List ℕ) (job : Job) (a b : LaneTold) (digest : List ℕ) → path ≡ blob_path folder job.digest → digest ≡ job.digest → IfSome a.files.tree (λ t. None ≡ option_map length (file_at t path))
    → FailsBy (Folder folder) job (cause.BlobAbsent digest) a b
blob_absent folder path job a b digest is same none = subst (λ d. FailsBy (Folder folder) job (cause.BlobAbsent d) a b) (sym same) (inr (absent_ends folder path job a b is (by a.files.tree none)))
  where
    by : (x : Option Tree) → IfSome x (λ t. None ≡ option_map length (file_at t path)) → IfSome x (λ t. file_at t path ≡ None)
    by None none = tt
    by (Some t) none = map_none length (file_at t path) none

-- ---- a blob that was opened

pub blob_opened : (folder path : List ℕ) (job : Job) (a b : LaneTold) (size : ℕ) → path ≡ blob_path folder job.digest → b.files.tree ≡ a.files.tree → IfSome a.files.tree (λ t. Some size ≡ option_map length (file_at t path))
    → IsLater a b → HasGiven (Folder folder) job (blob.File path 0) a b []
unfolding IsReadAt GaveFront
blob_opened folder path job a b size is same some later = record { reads = is; count = refl; front = front a.files.tree some same; later = later }
  where
    front : (x : Option Tree) → IfSome x (λ t. Some size ≡ option_map length (file_at t path)) → b.files.tree ≡ x → Told (IsFrontIn (blob_path folder job.digest) []) x b.files.tree
    front None some e = tt
    front (Some t) some e =
        let there = map_some length (file_at t path) size some in
        let at : file_at t (blob_path folder job.digest) ≡ Some there.0 = subst (λ p. file_at t p ≡ Some there.0) is there.1 in
        subst (λ o. Told (IsFrontIn (blob_path folder job.digest) []) (Some t) o) (sym e) (record { bytes = there.0; was = at; is = at; within = omega arith; front = refl })

-- ---- the next piece

-- the file was there when its first bytes were given
pub piece_absent : (folder path : List ℕ) (at : ℕ) (job : Job) (digest : List ℕ) (entry a b : LaneTold) (given : List ℕ) → HasGiven (Folder folder) job (blob.File path at) entry a given → digest ≡ job.digest
    → IfSome a.files.tree (λ t. file_at t path ≡ None) → FailsBy (Folder folder) job (cause.BlobAbsent digest) entry b
unfolding IsReadAt GaveFront BlobEnds
piece_absent folder path at job digest entry a b given has same gone = inr (by entry.files.tree a.files.tree has.front (subst (λ p. IfSome a.files.tree (λ t. file_at t p ≡ None)) has.reads gone))
  where
    file : List ℕ
    file = blob_path folder job.digest

    by : (x y : Option Tree) → Told (IsFrontIn (blob_path folder job.digest) given) x y → IfSome y (λ t. file_at t (blob_path folder job.digest) ≡ None) → IfSome x (λ t. Err (cause.BlobAbsent digest) ≡ looked_at job (file_at t (blob_path folder job.digest)))
    by None y front gone = tt
    by (Some t) None front gone = absurd front
    by (Some t) (Some u) front gone = let no : Some front.bytes ≡ None = sym front.is ∙ gone in cc

-- more first bytes of a file
more_front : (path given buffer : List ℕ) (at count : ℕ) (a b : Tree) → at ≡ length given → count ≤ length buffer → IsFrontIn path given a b → GivesPiece (file_at b path) at buffer (Some count) → IsFrontIn path (given ++ take count buffer) a b
more_front path given buffer at count a b is few front g =
    let here : Some front.bytes ≡ Some g.0 = sym front.is ∙ g.1 in
    let same : g.0 ≡ front.bytes = cc in
    let piece : IsPiece front.bytes at buffer count = subst (λ x. IsPiece x at buffer count) same g.2 in
    let long : length (given ++ take count buffer) ≡ at + count = length-append given (take count buffer) ∙ ap (λ n. length given + n) (length-take-le count buffer few) ∙ ap (λ n. n + count) (sym is) in
    let le : at ≤ length front.bytes = subst (λ n. n ≤ length front.bytes) (sym is) front.within in
    let first : given ≡ take at front.bytes = subst (λ n. given ≡ take n front.bytes) (sym is) front.front in
    record {
      bytes = front.bytes;
      was = front.was;
      is = front.is;
      within = subst (λ n. n ≤ length front.bytes) (sym long) (piece.within le);
      front = ap (λ x. x ++ take count buffer) first ∙ ap (λ x. take at front.bytes ++ x) piece.same ∙ joined_runs front.bytes at count ∙ ap (λ n. take n front.bytes) (sym long);
    }

pub piece_given : (folder path : List ℕ) (at next count : ℕ) (job : Job) (buffer : List ℕ) (entry a b : LaneTold) (given : List ℕ) → HasGiven (Folder folder) job (blob.File path at) entry a given → next ≡ at + count
    → count ≤ length buffer → b.files.tree ≡ a.files.tree → IsLater a b → IfSome a.files.tree (λ t. GivesPiece (file_at t path) at buffer (Some count)) → HasGiven (Folder folder) job (blob.File path next) entry b (given ++ take count buffer)
unfolding IsReadAt GaveFront
piece_given folder path at next count job buffer entry a b given has more few same later piece = record {
  reads = has.reads;
  count = more ∙ ap (λ n. n + count) has.count ∙ ap (λ n. length given + n) (sym (length-take-le count buffer few)) ∙ sym (length-append given (take count buffer));
  front = step_same (IsFrontIn file given) (IsFrontIn file (given ++ take count buffer)) (λ t. GivesPiece (file_at t file) at buffer (Some count))
      (λ x y front g. more_front file given buffer at count x y has.count few front g) entry.files.tree a.files.tree b.files.tree has.front
      (subst (λ p. IfSome a.files.tree (λ t. GivesPiece (file_at t p) at buffer (Some count))) has.reads piece) same;
  later = later_then entry a b has.later later;
}
  where
    file : List ℕ
    file = blob_path folder job.digest

-- at the end all was given
all_given : (path given buffer : List ℕ) (at : ℕ) (a b : Tree) → at ≡ length given → IsFrontIn path given a b → GivesPiece (file_at b path) at buffer (Some 0) → IsAllIn path given a b
all_given path given buffer at a b is front g =
    let here : Some front.bytes ≡ Some g.0 = sym front.is ∙ g.1 in
    let same : g.0 ≡ front.bytes = cc in
    let piece : IsPiece front.bytes at buffer 0 = subst (λ x. IsPiece x at buffer 0) same g.2 in
    let all : front.bytes ≡ given = sym (take_all (length given) front.bytes (subst (λ n. length front.bytes ≤ n) is (piece.last refl))) ∙ sym front.front in
    record { was = front.was ∙ ap Some all; is = front.is ∙ ap Some all }

pub piece_last : (folder path : List ℕ) (at count : ℕ) (job : Job) (buffer : List ℕ) (entry a b : LaneTold) (given : List ℕ) → HasGiven (Folder folder) job (blob.File path at) entry a given → b.files.tree ≡ a.files.tree
    → IfSome a.files.tree (λ t. GivesPiece (file_at t path) at buffer (Some count)) → count ≡ 0 → GaveAll (Folder folder) job entry b given
unfolding IsReadAt GaveFront GaveAll
piece_last folder path at count job buffer entry a b given has same piece none =
    step_same (IsFrontIn file given) (IsAllIn file given) (λ t. GivesPiece (file_at t file) at buffer (Some 0))
    (λ x y front g. all_given file given buffer at x y has.count front g) entry.files.tree a.files.tree b.files.tree has.front
    (subst (λ p. IfSome a.files.tree (λ t. GivesPiece (file_at t p) at buffer (Some 0))) has.reads (subst (λ n. IfSome a.files.tree (λ t. GivesPiece (file_at t path) at buffer (Some n))) none piece)) same
  where
    file : List ℕ
    file = blob_path folder job.digest

-- ---- whichever source it is

no_file : {A : Type 0} (r : Reference) (job : Job) (path : List ℕ) (at : ℕ) (entry old : LaneTold) (given : List ℕ) → HasGiven (Registry r) job (blob.File path at) entry old given → A
unfolding IsReadAt
no_file r job path at entry old given has = absurd (never has.reads)
  where
    never : IsReadAt (Registry r) job (blob.File path at) entry old given → ⊥
    never i = i

pub file_given : (s : Source) (job : Job) (path : List ℕ) (at next count : ℕ) (given buffer : List ℕ) (entry old new : LaneTold) → HasGiven s job (blob.File path at) entry old given → next ≡ at + count
    → count ≤ length buffer → new.files.tree ≡ old.files.tree → IsLater old new → IfSome old.files.tree (λ t. GivesPiece (file_at t path) at buffer (Some count)) → GivesMore s job (blob.File path next) entry new given buffer count
file_given (Folder folder) job path at next count given buffer entry old new has moves few same later piece = record {
  has = piece_given folder path at next count job buffer entry old new given has moves few same later piece;
  last = λ zero. piece_last folder path at count job buffer entry old new given has same piece zero;
}
file_given (Registry r) job path at next count given buffer entry old new has moves few same later piece = no_file r job path at entry old given has

still_front : (folder : List ℕ) (job : Job) (entry old new : LaneTold) (given : List ℕ) → GaveFront (Folder folder) job entry old given → new.files.tree ≡ old.files.tree → GaveFront (Folder folder) job entry new given
unfolding GaveFront
still_front folder job entry old new given front same = subst (λ t. Told (IsFrontIn (blob_path folder job.digest) given) entry.files.tree t) (sym same) front

pub file_absent : (s : Source) (job : Job) (path : List ℕ) (at : ℕ) (digest given : List ℕ) (entry old new : LaneTold) → HasGiven s job (blob.File path at) entry old given → digest ≡ job.digest
    → new.files.tree ≡ old.files.tree → IsLater old new → IfSome old.files.tree (λ t. file_at t path ≡ None) → GivesNoMore s job (cause.BlobAbsent digest) entry new given
file_absent (Folder folder) job path at digest given entry old new has is same later gone = record {
  failed = piece_absent folder path at job digest entry old new given has is gone;
  unjudged = refl;
  front = still_front folder job entry old new given has.front same;
  later = later_then entry old new has.later later;
}
file_absent (Registry r) job path at digest given entry old new has is same later gone = no_file r job path at entry old given has

pub file_stopped : {B : Type 0} (s : Source) (job : Job) (path : List ℕ) (at : ℕ) (given : List ℕ) (entry old new : LaneTold) (st : Stop) (e : Cause) → HasGiven s job (blob.File path at) entry old given
    → new.files.tree ≡ old.files.tree → IsLater old new → HasCause {T = B} old.files.faults new.files.faults (Err st) → e ≡ cause_by_stop st new.files.faults → is_mismatch e ≡ false → GivesNoMore s job e entry new given
file_stopped {B} (Folder folder) job path at given entry old new st e has same later why is unjudged = record {
  failed = inl (let f = stop_fails {B = B} old new st e why is in record { free = f.free; blames = blames_earlier e entry old new has.later f.blames });
  unjudged = unjudged;
  front = still_front folder job entry old new given has.front same;
  later = later_then entry old new has.later later;
}
file_stopped {B} (Registry r) job path at given entry old new st e has same later why is unjudged = no_file r job path at entry old given has
