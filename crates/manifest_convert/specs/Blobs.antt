-- The blobs of an image, which are its jobs (docs/manifests.md, "Blobs").
use Rattle.std.specs.Prelude.{◌≡◌, ◌≢◌, ℕ, suc, ◌+◌, ◌<◌, List, [], ◌∷◌, Bool, not, filter, length, slice_index_or}
use Rattle.std.specs.List.{list_any}
use Rattle.std.specs.Str.{bytes_eq}
use Rattle.std.specs.Ordering.{nat_cmp}
use Rattle.std.specs.Cmp.Lexicographic.{slice_cmp}
use Rattle.std.specs.BTreeSet.{BTreeSet, contains}
use Rattle.digest_reader.specs.declared.job.Job.{Job}
use Rattle.manifest_v2s2.specs.declared.descriptor.Descriptor.{Descriptor}
use Rattle.manifest_v2s2.specs.declared.image.Image.{Image}

-- the config, then the layers
abbrev pub descriptors : Image → List Descriptor
descriptors image = image.config ∷ image.layers

-- it has another digest
abbrev pub is_other : List ℕ → Descriptor → Bool
is_other digest x = not (bytes_eq x.digest digest)

-- first occurrences only: behind each descriptor the later ones of its digest are left out
abbrev pub firsts : List Descriptor → List Descriptor
firsts [] = []
firsts (x ∷ xs) = x ∷ filter (is_other x.digest) (firsts xs)

-- the job of that number for a descriptor
abbrev pub job_of : ℕ → Descriptor → Job
job_of number x = record { number = number; digest = x.digest; size = x.size }

-- jobs that are numbered from n on
abbrev pub numbered : ℕ → List Descriptor → List Job
numbered n [] = []
numbered n (x ∷ xs) = job_of n x ∷ numbered (suc n) xs

-- the jobs of an image: its config and its layers, first occurrences only, numbered from 1
unfoldable pub blobs : Image → List Job
blobs image = numbered 1 (firsts (descriptors image))

-- the job and the descriptor are of one blob
pub record IsFor (job : Job) (x : Descriptor) : Type 0 where
  pub digest : job.digest ≡ x.digest
  pub size : job.size ≡ x.size

-- of the descriptors of a digest the first one stands at this place
pub record StandsFirst (xs : List Descriptor) (digest : List ℕ) (i : ℕ) : Type 0 where
  pub there : i < length xs
  pub has : (e : Descriptor) → (slice_index_or xs i e).digest ≡ digest
  pub none_before : (h : ℕ) (e : Descriptor) → h < i → (slice_index_or xs h e).digest ≢ digest

-- the jobs of some descriptors: each blob is one job
pub record AreJobsOf (xs : List Descriptor) (jobs : List Job) : Type 0 where
  -- no two have one digest
  pub distinct : (j k : ℕ) (d : Job) → j < k → k < length jobs
      → (slice_index_or jobs j d).digest ≢ (slice_index_or jobs k d).digest
  -- their numbers count from 1
  pub numbers : (k : ℕ) (d : Job) → k < length jobs → (slice_index_or jobs k d).number ≡ k + 1
  -- each is of the first descriptor of its digest
  pub from : (k : ℕ) (d : Job) (e : Descriptor) → k < length jobs
      → (i : ℕ) × StandsFirst xs (slice_index_or jobs k d).digest i × IsFor (slice_index_or jobs k d) (slice_index_or xs i e)
  -- each descriptor's digest is that of some job
  pub all : (i : ℕ) (d : Job) (e : Descriptor) → i < length xs
      → (k : ℕ) × (k < length jobs) × ((slice_index_or jobs k d).digest ≡ (slice_index_or xs i e).digest)
  -- they stand in the order of these first descriptors
  pub order : (j k : ℕ) (d : Job) (a b : ℕ) → j < k → k < length jobs
      → StandsFirst xs (slice_index_or jobs j d).digest a → StandsFirst xs (slice_index_or jobs k d).digest b → a < b

-- a descriptor has the digest
abbrev pub has_digest : List Descriptor → List ℕ → Bool
has_digest xs digest = list_any (λ x. bytes_eq x.digest digest) xs

-- the jobs are those of these descriptors, and the set has their digests
pub record HasSeen (seen : BTreeSet (List ℕ)) (jobs : List Job) (xs : List Descriptor) : Type 0 where
  pub digests : (digest : List ℕ) → contains (slice_cmp nat_cmp) seen digest ≡ has_digest xs digest
  pub jobs_are : jobs ≡ numbered 1 (firsts xs)
