-- A registry as a source: what is asked of it for a reference, and what one exchange gives, by the conversations that a
-- wire gained in it and no others.
use Rattle.std.specs.Prelude.{◌≡◌, ◌≢◌, ◌⊎◌, ◌-◌, ◌≤◌, ◌==◌, ◌++◌, ◌∷◌, [], ℕ, false, List, true, codes, length, if◌then◌else◌, Option, Some, None, Result, Err}
use Rattle.skopeo_outside.specs.Wire.{Conversation, Conversations, Gains}
use Rattle.skopeo_outside.specs.Outside.{Rose}
use Rattle.skopeo_outside.specs.LaneTold.{LaneTold, IsLater}
use Rattle.skopeo_outside.specs.declared.words.Step.{Step}
use Rattle.skopeo_outside.specs.declared.words.Step.TheVariants as step
use Rattle.skopeo_outside.specs.declared.words.What.TheVariants as what
use Rattle.image_ref.specs.Reference.{Reference}
use Rattle.image_ref.specs.Digest.{digest_text}
use Rattle.httparse.specs.Grammar.{ResponseHead, status_code}
use Rattle.http_message.specs.declared.request.Request.{Request}
use Rattle.http_message.specs.declared.fault.ExchangeFault.{ExchangeFault}
use Rattle.http_message.specs.declared.fault.ExchangeFault.TheVariants as long
use Rattle.http_message.specs.declared.fault.AnswerFault.TheVariants as short
use Rattle.http_message.specs.Outcome.{answer}
use Rattle.http_message.specs.Faults.{shown}
use Rattle.http_message.specs.Spelling.{answer_with}
use Rattle.http_exchange.specs.Streaming.{IsFront}
use Rattle.http_exchange.specs.Opening.{body_framing}
use Rattle.http_exchange.specs.Reader.{Streams, IsReady}
use Rattle.http_exchange.specs.Talk.{is_get, Comes, Opens}
use Rattle.http_exchange.specs.Chain.{Follows, EndsBy, redirects, most_redirects}
use Rattle.http_exchange.specs.Calls.{Opened}
use Rattle.registry_http.specs.declared.registry.Registry.{Registry}
use Rattle.registry_http.specs.Requests.{blob_request}
use Rattle.digest_reader.specs.declared.job.Job.{Job}
use Rattle.copy_workers.specs.declared.cause.Cause.{Cause}
use Rattle.copy_workers.specs.declared.cause.Cause.TheVariants as why
use Rattle.transports.specs.Blobs.{limit_of, judged}

-- ---- what is asked

-- the repository of a reference, which may be asked over plain HTTP
abbrev pub registry_of : Reference → Registry
registry_of r = record { host = r.host; path = r.path; insecure = true }

-- by which name a manifest is asked for: its digest, or else its tag
abbrev pub name_by : Option (List ℕ) → Option (List ℕ) → List ℕ
name_by (Some digest) tag = digest_text digest
name_by None (Some tag) = tag
name_by None None = codes "latest"

abbrev pub name_in : Reference → List ℕ
name_in r = name_by r.digest r.tag

-- the request of a job's blob
abbrev pub request_of : Reference → Job → Request
request_of r job = blob_request (registry_of r) job.digest

-- ---- one exchange

-- redirects were followed from a request, at most five, and of the last request and its conversation this holds
pub record LeadsTo (r : Request) (Is : Request → Conversation → Type 0) (old new : Conversations) : Type 0 where
  pub count : ℕ
  pub few : count ≤ most_redirects
  pub hops : List Conversation
  pub last : Request
  pub follows : Follows count r [] hops last
  pub talk : Conversation
  pub told : Gains (hops ++ talk ∷ []) old new
  pub is : Is last talk

-- the answer is a 200 with these bytes as its body, whole, under each limit that they are within
pub record HasBody (bytes : List ℕ) (r : Request) (c : Conversation) : Type 0 where
  pub h : ResponseHead
  pub status : status_code h ≡ 200
  pub comes : (limit : ℕ) → length bytes ≤ limit → Comes r [] limit (answer (answer_with h bytes)) c

-- the answer is a 200, and whatever comes yet, its body begins with these bytes
pub record BeginsWith (bytes : List ℕ) (r : Request) (c : Conversation) : Type 0 where
  pub h : ResponseHead
  pub seen : List ℕ
  pub opens : Opens r [] h seen c
  pub status : status_code h ≡ 200
  pub front : IsFront (body_framing (is_get r) h) bytes seen

-- the answer has this status, and redirects nowhere
pub record HasStatus (status : ℕ) (r : Request) (c : Conversation) : Type 0 where
  pub h : ResponseHead
  pub rest : List ℕ
  pub opens : Opens r [] h rest c
  pub status_is : status_code h ≡ status
  pub stays : redirects r status ≡ false

-- the request gave no answer, for this fault, under each limit that what was given of a body is within
pub record GivesNone (s : Step) (r : Request) (fault : ExchangeFault) (old new : Conversations) : Type 0 where
  pub count : ℕ
  pub few : count ≤ most_redirects
  pub hops : List Conversation
  pub last : Request
  pub follows : Follows count r [] hops last
  pub gained : List Conversation
  pub told : Gains (hops ++ gained) old new
  pub given : ℕ
  pub why : (limit : ℕ) → given ≤ limit → EndsBy s last [] limit (most_redirects - count) gained fault

-- ---- a blob

-- the cause of a job that a fault of its exchange is; a fault of the wire and want of memory may come always
abbrev pub cause_of : ExchangeFault → Option Cause
cause_of (long.BadAnswer s first) = Some (why.BadAnswer s first)
cause_of long.Wire = None
cause_of (long.HeadTooLong n) = Some (why.TooLarge what.Head n)
cause_of (long.HeadersTooMany n) = Some (why.TooLarge what.Headers n)
cause_of (long.BodyTooLong n) = Some (why.TooLarge what.Answer n)
cause_of long.Encoded = Some (why.Encoded step.Blob)
cause_of long.TooManyRedirects = Some (why.TooManyRedirects step.Blob)
cause_of (long.TlsRequired host) = Some (why.TlsRequired host)
cause_of long.Memory = None

-- the cause that another status than 200 is: the registry has no such blob, or refuses it
abbrev pub cause_at : Job → ℕ → Cause
cause_at job status = if status == 404 then why.BlobAbsent job.digest else why.SourceRefused step.Blob status

-- these bytes of a blob are looked at: its whole body, or the most first bytes of it that are
abbrev pub LooksAt : Request → Job → List ℕ → Conversations → Conversations → Type 0
LooksAt r job bytes old new =
    (LeadsTo r (HasBody bytes) old new × (length bytes ≤ limit_of job)) ⊎ (LeadsTo r (BeginsWith bytes) old new × (length bytes ≡ limit_of job))

-- how the reading of a blob ends: by the bytes that are looked at, by another status than 200, or by no answer
pub data BlobAt (r : Request) (job : Job) (old new : Conversations) (result : Result (List ℕ) Cause) : Type 0 where
  looked : (bytes : List ℕ) → LooksAt r job bytes old new → result ≡ judged job bytes → BlobAt r job old new result
  refused : (status : ℕ) → status ≢ 200 → LeadsTo r (HasStatus status) old new → result ≡ Err (cause_at job status) → BlobAt r job old new result
  none : (fault : ExchangeFault) (cause : Cause) → GivesNone step.Blob r fault old new → cause_of fault ≡ Some cause → result ≡ Err cause → BlobAt r job old new result

-- the answer is a 200 that is being read: these first bytes of its body were given, and the reader stands behind them
pub record IsReadTo (a : Opened) (given : List ℕ) (r : Request) (c : Conversation) : Type 0 where
  pub h : ResponseHead
  pub seen : List ℕ
  pub opens : Opens r [] h seen c
  pub status : status_code h ≡ 200
  pub front : IsFront (body_framing (is_get r) h) given seen
  pub streams : Streams a.reader (body_framing (is_get r) h) given seen c.ended
  pub noted : a.reader.held.first ≡ shown c.received
  pub step_is : a.step ≡ step.Blob

-- the answer was opened at some told state, and is the last conversation still; its wire is open unless all of it was given, and
-- is blamed only where the count of its faults rose since
pub record IsReading (r : Reference) (job : Job) (a : Opened) (given : List ℕ) (old new : LaneTold) : Type 0 where
  pub start : LaneTold
  pub before : IsLater old start
  pub leads : LeadsTo (request_of r job) (IsReadTo a given) start.from.talks new.from.talks
  pub counts : start.from.faults ≤ new.from.faults
  pub ready : IsReady a.reader new.from.is_open
  pub blames : a.reader.failed ≡ Some short.Wire → Rose start.from.faults new.from.faults

-- nothing was done but that the connection to the source may have been closed
pub record IsClosed (old new : LaneTold) : Type 0 where
  pub talks : new.from.talks ≡ old.from.talks
  pub faults : new.from.faults ≡ old.from.faults
  pub to : new.to ≡ old.to
  pub files : new.files ≡ old.files
  pub number : new.number ≡ old.number
